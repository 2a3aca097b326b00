-- A call of a function of the program is kept where its body is.
use Rattle.std.proofs.Common.{◌≡◌, ℕ, ◌+◌, ◌-◌, ◌≤◌, true, false, List, map, refl, sym, ◌∙◌, subst, ap, arith, nat_lt, Option, Some, None}
use Rattle.std.proofs.lemmas.Bool.Decides.{nat_tests}
use Rattle.std.proofs.lemmas.Bool.{and_parts}
use Rattle.il_ast.specs.declared.operation.Class.{Class}
use Rattle.il_ast.specs.declared.function.Param.{Param}
use Rattle.il_ast.specs.declared.function.Func.{Func}
use Rattle.il_ast.specs.declared.program.InText.{InText}
use Rattle.il_ast.specs.declared.program.Program.{Program}
use Rattle.il_ast.specs.declared.value.Value.{Value}
use Rattle.il_ast.specs.declared.value.End.TheVariants.{Exit, Halt, Undefined, Stack, Turns}
use Rattle.il_ast.specs.Prelude.{Memory, need, nothing, one_call, both, Outcome, Returned, Ended, after, same_classes, result_fits, call_fits, call_function, callees, Asked, Given, AreArgs, Suits}
use Rattle.rv_isa.specs.Prelude.{State}
use Rattle.flat_code.specs.Flat.{Spots, Bases, Entries, FlatGiven, FlatOutcome, FlatReturned, FlatEnded, flat_after, ShowsGiven, ShowsOutcome}
use Rattle.abi_frames.specs.Performs.{World, GoodStack, Ready, ResultIn, Performs}
use Rattle.headline.specs.Executables.{calls_in, body_of}
use Rattle.headline.specs.Knot.{Setting, KeepsCall, AllKept, KeptBody, KeepsBody}
use Rattle.headline.proofs.InPlace.{same_body}
use Rattle.headline.proofs.Trivial.{undefined_kept, stack_kept, by_test}
use Rattle.il_ast.proofs.Alike.{same_class_is, same_classes_are}

-- ---- types

pub suits_wanted : (wants has : Option Class) → result_fits wants has ≡ true → (v : Option Value) → Suits has v → Suits wants v
suits_wanted None has h v s = tt
suits_wanted (Some c) None h v s = absurd (no_result h)
  where
    no_result : false ≡ true → ⊥
    no_result e = cc
suits_wanted (Some c) (Some d) h v s = subst (λ x. Suits (Some x) v) (sym (same_class_is c d h)) s

result_wanted : (wants has : Option Class) → result_fits wants has ≡ true → (x : Option ℕ) (u : State) → ResultIn has x u → ResultIn wants x u
result_wanted None has h x u r = tt
result_wanted (Some c) None h x u r = absurd (no_result h)
  where
    no_result : false ≡ true → ⊥
    no_result e = cc
result_wanted (Some c) (Some d) h x u r = subst (λ y. ResultIn (Some y) x u) (sym (same_class_is c d h)) r

-- ---- the entered call beside the outcome of its body

shows_entered : (e : Entries) (p : Bases) (wants has : Option Class) → result_fits wants has ≡ true → (before : Spots) (made : Memory) (o : Outcome) (r : FlatOutcome) → ShowsOutcome e p has before made o r → ShowsOutcome e p wants before made (after one_call o) (flat_after one_call r)
shows_entered e p wants has fits before made (Returned s v m) (FlatReturned t x f) h =
    record {
      spent = ap (both one_call) h.spent;
      suits = suits_wanted wants has fits v h.suits;
      result = h.result;
      memory = h.memory;
      reach = h.reach;
      blocks = h.blocks;
    }
shows_entered e p wants has fits before made (Returned s v m) (FlatEnded t y) h = absurd h
shows_entered e p wants has fits before made (Ended s z) (FlatReturned t x f) h = absurd h
shows_entered e p wants has fits before made (Ended s z) (FlatEnded t y) h = (ap (both one_call) h.0, h.1)

pub performs_wanted : (w : World) (sp : ℕ) (wants has : Option Class) → result_fits wants has ≡ true → (before : Spots) (s : State) (r : FlatOutcome) → Performs w sp has before s r → Performs w sp wants before s r
performs_wanted w sp wants has fits before s (FlatReturned t x f) h =
    record {
      steps = h.steps;
      after = h.after;
      comes = h.comes;
      price = h.price;
      pace = h.pace;
      output = h.output;
      result = result_wanted wants has fits x h.after h.result;
      back = h.back;
    }
performs_wanted w sp wants has fits before s (FlatEnded t (Exit n)) h = h
performs_wanted w sp wants has fits before s (FlatEnded t Halt) h = h
performs_wanted w sp wants has fits before s (FlatEnded t Undefined) h = h
performs_wanted w sp wants has fits before s (FlatEnded t Stack) h = h
performs_wanted w sp wants has fits before s (FlatEnded t Turns) h = h

-- readiness for a call doesn't depend on the turns and the room
ready_again : (w : World) (at sp : ℕ) (classes params : List Class) → classes ≡ params → (j : FlatGiven) (room : ℕ) (s : State) → Ready w at sp classes j s → Ready w at sp params (record j { room = room }) s
ready_again w at sp classes params same j room s r =
    let now = subst (λ cs. Ready w at sp cs j s) same r in
    record {
      fixed = now.fixed;
      place = now.place;
      stack_pointer = now.stack_pointer;
      return_address = now.return_address;
      in_registers = now.in_registers;
      on_stack = now.on_stack;
      below_top = now.below_top;
      memory = now.memory;
    }

-- ---- the call

with_room : (need room : ℕ) → nat_lt room need ≡ false → need + (room - need) ≡ room
with_room need room h = grind (arith, nat_tests)

enters : (c : Setting) (p : Program) (turns : ℕ) → AllKept c (calls_in p turns) → (sp : ℕ) (i : Asked) → i.turns ≤ turns → (f : InText Func) → ((at : ℕ) → c.entries i.call.callee ≡ Some at → KeepsBody c at (need f.item) turns (map (λ (x : Param). x.class) f.item.params) f.item.result (body_of p f) (calls_in p turns)) → (same_classes i.call.classes (map (λ (x : Param). x.class) f.item.params) ≡ true) × (result_fits i.call.wants f.item.result ≡ true) → nat_lt i.room (need f.item) ≡ false → KeepsCall c sp i (after one_call (body_of p f (callees p turns) (record { turns = i.turns; room = i.room - need f.item; args = i.call.args; memory = i.memory })))
enters c p turns all sp i low f keeps fits roomy q j grown shows good =
    let params = map (λ (x : Param). x.class) f.item.params in
    let room = i.room - need f.item in
    let given : Given = record { turns = i.turns; room = room; args = i.call.args; memory = i.memory } in
    let flat : FlatGiven = record j.given { room = room } in
    let same = same_classes_are i.call.classes params fits.0 in
    let typed : AreArgs params i.call.args = subst (λ cs. AreArgs cs i.call.args) same shows.typed in
    let shown : ShowsGiven c.entries q c.world.bottom sp given flat =
    record {
      turns = shows.given.turns;
      room = refl;
      args = shows.given.args;
      memory = shows.given.memory;
      clear = shows.given.clear;
    }
    in
    let kept : KeptBody c j.at sp params f.item.result q given flat (body_of p f (callees p turns) given) =
    subst (λ (o : Outcome). KeptBody c j.at sp params f.item.result q given flat o) (same_body p f turns given low)
    (keeps j.at shows.at all sp q given flat low grown typed shown
    (subst (λ (x : ℕ). GoodStack c.world sp x) (sym (with_room (need f.item) i.room roomy)) good))
    in
    record {
      placed = kept.placed;
      went = flat_after one_call kept.went;
      grown = kept.grown;
      shows =
          shows_entered c.entries kept.placed i.call.wants f.item.result fits.1 j.given.memory i.memory (body_of p f (callees p turns) given) kept.went kept.shows;
      performs =
          λ u r. subst (λ (wants : Option Class). Performs c.world sp wants j.given.memory u (flat_after one_call kept.went)) (sym shows.wants)
          (performs_wanted c.world sp i.call.wants f.item.result fits.1 j.given.memory u (flat_after one_call kept.went)
          (kept.performs u (ready_again c.world j.at sp j.classes params (shows.classes ∙ same) j.given room u r)));
    }

pub function_call_kept : (c : Setting) (p : Program) (turns : ℕ) → AllKept c (calls_in p turns) → (sp : ℕ) (i : Asked) → i.turns ≤ turns → (found : Option (InText Func)) → ((f : InText Func) → found ≡ Some f → (at : ℕ) → c.entries i.call.callee ≡ Some at → KeepsBody c at (need f.item) turns (map (λ (x : Param). x.class) f.item.params) f.item.result (body_of p f) (calls_in p turns)) → KeepsCall c sp i (call_function p (callees p turns) i.call i.turns i.room i.memory found)
function_call_kept c p turns all sp i low None keeps = undefined_kept c sp i nothing
function_call_kept c p turns all sp i low (Some f) keeps =
    let params = map (λ (x : Param). x.class) f.item.params in
    by_test (call_fits i.call params f.item.result) (KeepsCall c sp i) _ _
    (λ fits. by_test (nat_lt i.room (need f.item)) (KeepsCall c sp i) _ _ (λ small. stack_kept c sp i nothing)
    (λ roomy. enters c p turns all sp i low f (keeps f refl) (and_parts (same_classes i.call.classes params) (result_fits i.call.wants f.item.result) fits) roomy))
    (λ misfit. undefined_kept c sp i nothing)
