-- The layers of the example keep its one function.
use Rattle.std.proofs.Common.{◌≡◌, ℕ, zero, suc, ◌-◌, List, [], ◌∷◌, map, refl, sym, ◌∙◌, subst, ap, arith, lit<, lit≤, Option, Some, append-nil}
use Rattle.il_ast.specs.declared.operation.Class.TheVariants.{W}
use Rattle.il_ast.specs.declared.operation.Class.{Class}
use Rattle.il_ast.specs.declared.function.Param.{Param}
use Rattle.il_ast.specs.declared.program.InText.{InText}
use Rattle.il_ast.specs.declared.function.Func.{Func}
use Rattle.il_ast.specs.declared.value.End.TheVariants.{Halt, Turns}
use Rattle.il_ast.specs.Prelude.{Memory, need, globals_of, effect, nothing, one_turn, one_call, Outcome, Callees, run, begun, halts, Entry, Logged, Given, Log, KeepsMeaning}
use Rattle.rv_isa.specs.declared.instruction.Instr.TheVariants.{Ebreak}
use Rattle.rv_isa.specs.Prelude.{State, number_at, each_of, instruction_of, candidate_at, Broken, Stopped, runs, then_run, Fixed, InstrAt}
use Rattle.rv_isa.proofs.StepLemmas.{step_at}
use Rattle.rv_isa.proofs.RunLemmas.{comes_here}
use Rattle.flat_code.specs.Flat.{Spots, Bases, FlatGiven, FlatAsked, FlatOutcome, FlatEnded, flat_after, ShowsOutcome, KeepsFlat, Plays}
use Rattle.abi_frames.specs.Performs.{Performs, KeepsFrame}
use Rattle.vcode.proofs.InPlace.{meaning_runs}
use Rattle.headline.specs.Executables.{calls_in, body_of, FunctionsKept}
use Rattle.headline.specs.Knot.{IsSetting, KeepsBody, Layers}
use Rattle.headline.specs.Example.{setting, halting, flat_halting, begin, step, flat_begin, flat_step}
use Rattle.headline.proofs.Answer.{grown_same}
use Rattle.headline.proofs.LayersKeep.{layers_keep}

-- the function of the example
abbrev pub main_function : InText Func
main_function = record { text = 0; item = Rattle.il_ast.specs.ExamplePrograms.function [] (Rattle.il_ast.specs.ExamplePrograms.block 0 [] [] Rattle.il_ast.specs.declared.instruction.Jump.TheVariants.Halt ∷ []) 0 1 refl refl refl refl refl refl }

run_halts : (callees : Callees) (room t : ℕ) (m : Memory) → run (record { func = main_function.item; globals = globals_of halts 0 }) callees room t t (begun main_function.item []) m ≡ halting t
unfolding run effect
run_halts callees room zero m = refl
run_halts callees room (suc n) m = refl

body_halts : (callees : Callees) (i : Given) → body_of halts main_function callees i ≡ halting i.turns
body_halts callees i = run_halts callees i.room i.turns i.memory

meaning_kept : KeepsMeaning [] begin step (body_of halts main_function)
unfolding Logged
meaning_kept callees i args fine = ([], tt, (1, (sym (body_halts callees i), refl)))

-- what the code on blocks does, the code on bytes shows
halting_shown : (p : Bases) (result : Option Class) (before : Spots) (made : Memory) (t : ℕ) (o : Outcome) → halting t ≡ o → ShowsOutcome setting.entries p result before made o (flat_halting t)
halting_shown p result before made zero o is = subst (λ x. ShowsOutcome setting.entries p result before made x (FlatEnded nothing Turns)) is (refl, refl)
halting_shown p result before made (suc n) o is = subst (λ x. ShowsOutcome setting.entries p result before made x (FlatEnded (one_turn 1) Halt)) is (refl, refl)

over_logged : (i : Given) (n : ℕ) (log : Log) (o : Outcome) → Logged (step i) n tt log o → (halting i.turns ≡ o) × (log ≡ [])
unfolding Logged
over_logged i zero log o h = absurd h
over_logged i (suc n) log o h = h

flat_kept : KeepsFlat (record { entries = setting.entries; globals = []; addresses = [] }) [] (Some W) 0 begin step flat_begin flat_step
unfolding Plays
flat_kept low high base le lt small log i o args fine n logged p j entries names shows =
    let is = over_logged i n log o logged in
    let same : halting j.turns ≡ o = ap halting shows.turns ∙ is.0 in
    (1, (p, grown_same p, halting_shown p (Some W) j.memory i.memory j.turns o same, is.1))

-- ---- the machine: one instruction

breaks_at : InstrAt setting.world.memory_map 0x10000 Ebreak
unfolding number_at each_of instruction_of candidate_at
breaks_at = record { fetched = refl; decoded = refl; aligned = refl; inside = lit< tt }

break_stops : (s : State) → Fixed setting.world.memory_map s → s.pc ≡ 0x10000 → runs 1 s ≡ Stopped Broken s
unfolding runs
break_stops s fixed here =
    ap (λ r. then_run (λ t. runs 0 t) s r)
    (step_at setting.world.memory_map s Ebreak fixed (subst (λ a. InstrAt setting.world.memory_map a Ebreak) (sym here) breaks_at))

halting_performs : (sp : ℕ) (before : Spots) (s : State) → Fixed setting.world.memory_map s → s.pc ≡ 0x10000 → (t : ℕ) → Performs setting.world sp (Some W) before s (flat_after one_call (flat_halting t))
halting_performs sp before s fixed here zero =
    record { steps = 0; after = s; comes = comes_here s; price = omega arith; pace = omega arith; output = sym (append-nil s.output) }
halting_performs sp before s fixed here (suc n) =
    record { steps = 1; last = s; stopped = break_stops s fixed here; price = lit≤ tt; output = sym (append-nil s.output) }

flat_over : (j : FlatGiven) (b n : ℕ) (log : List (Entry FlatAsked FlatOutcome)) (r : FlatOutcome) → Logged (flat_step b j) n tt log r → flat_halting j.turns ≡ r
unfolding Logged
flat_over j b zero log r h = absurd h
flat_over j b (suc n) log r h = h.0

machine_kept : KeepsFrame setting.world 0x10000 128 0 0 [] (Some W) flat_begin flat_step
machine_kept sp j good clear log r n logged all s ready =
    subst (λ x. Performs setting.world sp (Some W) j.memory s (flat_after one_call x)) (flat_over j (sp - 0) n log r logged)
    (halting_performs sp j.memory s ready.fixed ready.place j.turns)

example_layers : (turns : ℕ) → Layers setting 0x10000 128 0 0 turns [] (Some W) [] [] (body_of halts main_function) (calls_in halts turns) begin step flat_begin flat_step
example_layers turns =
    record {
      meaning = meaning_runs (calls_in halts turns) turns [] begin step (body_of halts main_function) meaning_kept;
      flat = flat_kept;
      machine = machine_kept;
      names = tt;
      area_fits = omega arith;
      frame_fits = omega arith;
      some = lit< tt;
      aligned = refl;
    }

pub functions_kept : IsSetting setting → FunctionsKept setting halts
functions_kept is turns zero at f found here =
    let same : main_function ≡ f = some_same main_function f found in
    let place : 0x10000 ≡ at = cc in
    subst (λ g. KeepsBody setting at (need g.item) turns (map (λ (x : Param). x.class) g.item.params) g.item.result (body_of halts g) (calls_in halts turns)) same
    (subst (λ a. KeepsBody setting a 128 turns [] (Some W) (body_of halts main_function) (calls_in halts turns)) place
    (layers_keep setting is 0x10000 128 0 0 turns [] (Some W) [] [] (body_of halts main_function) (calls_in halts turns) begin step flat_begin flat_step (example_layers turns)))
  where
    some_same : {A : Type 0} (x y : A) → Some x ≡ Some y → x ≡ y
    some_same x y h = cc
functions_kept is turns (suc k) at f found here = cc
