-- What a run answers of a program that the machine executes.
use Rattle.std.proofs.Common.{◌≡◌, ◌⊎◌, inl, inr, ℕ, zero, suc, ◌+◌, ◌-◌, ◌*◌, ◌<◌, ◌≤◌, Bool, List, Result, Ok, Err, refl, sym, ◌∙◌, ap, subst, arith, append-nil}
use Rattle.il_ast.specs.declared.program.Program.{Program}
use Rattle.il_ast.specs.declared.value.End.{End}
use Rattle.il_ast.specs.declared.value.End.TheVariants.{Exit, Halt, Undefined, Stack, Turns}
use Rattle.il_ast.specs.Prelude.{meaning}
use Rattle.rv_isa.specs.Prelude.{State, Stop as Ending, Exited, Broken, Faulted, step, Run, Going, Stopped, then_run, runs}
use Rattle.rv_machine.specs.declared.stop.Stop.{Stop}
use Rattle.rv_machine.specs.declared.stop.Stop.TheVariants.{Exit as ExitStop, Break, Limit, Memory, Fault}
use Rattle.rv_machine.specs.Steps.{RunEnds, StopsWith, GoesOn, WantsMemory}
use Rattle.rv_machine.proofs.OutputLaws.{after_output, run_after, runs_after}
use Rattle.headline.specs.Headline.{Executes, StopsSo, GoesOnSo}
use Rattle.headline.specs.Answered.{IsBeginning, StopsAs, IsCut, IsDefined, Shows, Answers, RunsAnswer}
use Rattle.headline.proofs.Endless.{goes_before, output_grows, silent}

-- ---- a run beside a longer one

abbrev after : ℕ → Run → Run
after k (Going t) = runs k t
after k (Stopped e t) = Stopped e t

run_more : (m k : ℕ) (s : State) → runs (m + k) s ≡ after k (runs m s)
unfolding runs
run_more zero k s = let e : zero + k ≡ k = omega arith in ap (λ i. runs i s) e
run_more (suc m) k s = (let e : suc m + k ≡ suc (m + k) = omega arith in ap (λ i. runs i s) e) ∙ by (step s) refl (λ t. run_more m k t)
  where
    by : (r : Result State Ending) → step s ≡ r → ((t : State) → runs (m + k) t ≡ after k (runs m t))
        → then_run (runs (m + k)) s (step s) ≡ after k (then_run (runs m) s (step s))
    by (Ok t) e on = ap (then_run (runs (m + k)) s) e ∙ on t ∙ sym (ap (λ x. after k (then_run (runs m) s x)) e)
    by (Err f) e on = ap (then_run (runs (m + k)) s) e ∙ sym (ap (λ x. after k (then_run (runs m) s x)) e)

-- two runs from one state are beginnings of one
same_run : (a b : ℕ) (s : State) (r q : Run) → runs a s ≡ r → runs b s ≡ q → after b r ≡ after a q
same_run a b s r q is_r is_q =
    let e : b + a ≡ a + b = omega arith in
    sym (run_more a b s ∙ ap (after b) is_r) ∙ ap (λ i. runs i s) (sym e) ∙ run_more b a s ∙ ap (after a) is_q

same_stop : (a b : ℕ) (s t u : State) (e f : Ending) → runs a s ≡ Stopped e t → runs b s ≡ Stopped f u → Stopped e t ≡ Stopped f u
same_stop a b s t u e f is_t is_u = same_run a b s (Stopped e t) (Stopped f u) is_t is_u

-- no run stops at or before where it goes on
stops_beyond : (a b : ℕ) (s t u : State) (e : Ending) → runs a s ≡ Going t → runs b s ≡ Stopped e u → b ≤ a → ⊥
stops_beyond a b s t u e goes stops le =
    let whole : b + (a - b) ≡ a = omega (arith, le) in
    let both : Stopped e u ≡ Going t = sym (run_more b (a - b) s ∙ ap (after (a - b)) stops) ∙ ap (λ i. runs i s) whole ∙ goes in
    (let no : ⊥ = cc in no)

-- what was put out where a run goes on stands in front of all that is put out where it stops
stops_grow : (o : List ℕ) (r : Run) (e : Ending) (u : State) → run_after o r ≡ Stopped e u → IsBeginning o u.output
stops_grow o (Going t) e u h = absurd (let no : ⊥ = cc in no)
stops_grow o (Stopped f t) e u h =
    record { rest = t.output; is = (let same : after_output o t ≡ u = cc in ap (λ (x : State). x.output) (sym same)) }

begins_stopped : (a b : ℕ) (s t u : State) (e : Ending) → runs a s ≡ Going t → runs b s ≡ Stopped e u → IsBeginning t.output u.output
begins_stopped a b s t u e goes stops =
    let whole : after_output t.output (silent t) ≡ t = ap (λ (o : List ℕ). record t { output = o }) (append-nil t.output) in
    let rest : runs b t ≡ Stopped e u = same_run a b s (Going t) (Stopped e u) goes stops in
    stops_grow t.output (runs b (silent t)) e u (sym (runs_after t.output b (silent t)) ∙ ap (runs b) whole ∙ rest)

begins_going : (a b : ℕ) (s t u : State) → runs a s ≡ Going t → runs b s ≡ Going u → a ≤ b → IsBeginning t.output u.output
begins_going a b s t u first second le =
    let whole : a + (b - a) ≡ b = omega (arith, le) in
    let before = goes_before a (b - a) s u (ap (λ i. runs i s) whole ∙ second) in
    let same : before.now ≡ t = (let e : Going before.now ≡ Going t = sym before.first ∙ first in cc) in
    subst (λ (x : State). IsBeginning x.output u.output) same (output_grows (b - a) before.now u before.rest)

-- ---- what a run answers

abbrev stop_of : Ending → Stop
stop_of (Exited n) = ExitStop n
stop_of Broken = Break
stop_of (Faulted f pc) = Fault f pc

-- it stopped so
record Ended (limit : ℕ) (s : State) (output : List ℕ) (stop : Stop) : Type 0 where
  ending : Ending
  last : State
  is : stop ≡ stop_of ending
  stopped : runs limit s ≡ Stopped ending last
  output_is : output ≡ last.output

-- it had gone on so far
record Went (limit : ℕ) (s : State) (output : List ℕ) : Type 0 where
  count : ℕ
  now : State
  most : count ≤ limit
  going : runs count s ≡ Going now
  output_is : output ≡ now.output

abbrev Said : ℕ → State → List ℕ → Stop → Type 0
Said limit s output stop = Ended limit s output stop ⊎ ((stop ≡ Limit) × (t : State) × (runs limit s ≡ Going t) × (output ≡ t.output)) ⊎ ((stop ≡ Memory) × Went limit s output)

ended : (limit : ℕ) (s : State) (e : Ending) (output : List ℕ) → StopsWith limit s e output → Ended limit s output (stop_of e)
ended limit s e output h = record { ending = e; last = h.last; is = refl; stopped = h.stopped; output_is = h.output_is }

said : (refuses : Bool) (limit : ℕ) (s : State) (output : List ℕ) (stop : Stop) → RunEnds refuses limit s output stop → Said limit s output stop
said refuses limit s output (ExitStop n) h = inl (ended limit s (Exited n) output h)
said refuses limit s output Break h = inl (ended limit s Broken output h)
said refuses limit s output Limit h = inr (inl (refl, h.last, h.going, h.output_is))
said refuses limit s output Memory h = inr (inr (
  refl,
  record { count = h.count; now = h.last; most = (let below = h.below in omega (arith, below)); going = h.going; output_is = h.output_is },
))
said refuses limit s output (Fault f pc) h = inl (ended limit s (Faulted f pc) output h)

-- ---- beside a run that stops

begins_so : (output whole : List ℕ) (t u : State) → output ≡ t.output → u.output ≡ whole → IsBeginning t.output u.output → IsBeginning output whole
begins_so output whole t u is_t is_u h = subst (λ (o : List ℕ). IsBeginning o whole) (sym is_t) (subst (λ (o : List ℕ). IsBeginning t.output o) is_u h)

-- it stopped as that one does, or was cut before
record Beside (e : Ending) (whole output : List ℕ) (stop : Stop) : Type 0 where
  is : stop ≡ stop_of e
  all : output ≡ whole

beside : (refuses : Bool) (limit : ℕ) (s : State) (output : List ℕ) (stop : Stop) (steps : ℕ) (e : Ending) (last : State) (whole : List ℕ) → runs steps s ≡ Stopped e last → last.output ≡ whole
    → RunEnds refuses limit s output stop → Beside e whole output stop ⊎ IsCut whole output stop
beside refuses limit s output stop steps e last whole stops is h = elim (said refuses limit s output stop h) [
  | inl d ↦ inl (
      let same : Stopped d.ending d.last ≡ Stopped e last = same_stop limit steps s d.last last d.ending e d.stopped stops in
      let ending : d.ending ≡ e = cc in
      let state : d.last ≡ last = cc in
      record { is = d.is ∙ ap stop_of ending; all = d.output_is ∙ ap (λ (t : State). t.output) state ∙ is }
      )
  | inr cut ↦ elim cut [
    | inl l ↦ inr (record { cut = inl l.0; begins = begins_so output whole l.1 last l.3 is (begins_stopped limit steps s l.1 last e l.2 stops) })
    | inr m ↦ inr (
        let w = m.1 in
        record { cut = inr m.0; begins = begins_so output whole w.now last w.output_is is (begins_stopped w.count steps s w.now last e w.going stops) }
        )
  ]
]

-- within its limit it isn't cut but for want of memory
within : (refuses : Bool) (limit : ℕ) (s : State) (output : List ℕ) (stop : Stop) (steps : ℕ) (e : Ending) (last : State) (whole : List ℕ) → runs steps s ≡ Stopped e last → last.output ≡ whole → steps ≤ limit
    → RunEnds refuses limit s output stop → StopsAs (stop_of e) whole output stop
within refuses limit s output stop steps e last whole stops is le h = elim (said refuses limit s output stop h) [
  | inl d ↦ inl (
      let same : Stopped d.ending d.last ≡ Stopped e last = same_stop limit steps s d.last last d.ending e d.stopped stops in
      let ending : d.ending ≡ e = cc in
      let state : d.last ≡ last = cc in (d.is ∙ ap stop_of ending, d.output_is ∙ ap (λ (t : State). t.output) state ∙ is)
      )
  | inr cut ↦ elim cut [
    | inl l ↦ absurd (stops_beyond limit steps s l.1 last e l.2 stops le)
    | inr m ↦ inr (
        let w = m.1 in
        (m.0, begins_so output whole w.now last w.output_is is (begins_stopped w.count steps s w.now last e w.going stops))
        )
  ]
]

-- ---- beside a run that goes on for longer

cut_so : (refuses : Bool) (limit : ℕ) (s : State) (output : List ℕ) (stop : Stop) (steps : ℕ) (now : State) (whole : List ℕ) → runs steps s ≡ Going now → now.output ≡ whole → limit ≤ steps
    → RunEnds refuses limit s output stop → IsCut whole output stop
cut_so refuses limit s output stop steps now whole goes is le h = elim (said refuses limit s output stop h) [
  | inl d ↦ absurd (stops_beyond steps limit s now d.last d.ending goes d.stopped le)
  | inr cut ↦ elim cut [
    | inl l ↦ record { cut = inl l.0; begins = begins_so output whole l.1 now l.3 is (begins_going limit steps s l.1 now l.2 goes le) }
    | inr m ↦ (
        let w = m.1 in
        let most = w.most in
        record { cut = inr m.0; begins = begins_so output whole w.now now w.output_is is (begins_going w.count steps s w.now now w.going goes (omega (arith, most, le))) }
        )
  ]
]

longer : (limit n steps : ℕ) → 40000 * (limit + 1) < n → n ≤ 40000 * (steps + 1) → limit ≤ steps
longer limit n steps below pace = omega (arith, below, pace)

-- ---- the whole

shows_cut : (p : Program) (words : List (List ℕ)) (n : ℕ) (output : List ℕ) (stop : Stop) → IsCut (meaning p words n).output output stop → Shows p words output stop
shows_cut p words n output stop h = elim h.cut [
  | inl limit ↦ subst (Shows p words output) (sym limit) (n, h.begins)
  | inr memory ↦ subst (Shows p words output) (sym memory) (n, h.begins)
]

-- so many turns take more instructions than the limit
abbrev enough : ℕ → ℕ
enough limit = 40000 * (limit + 1) + 1

pub runs_answer : RunsAnswer
runs_answer p words s refuses limit output stop executes ends =
    record {
      exits =
          λ n status is cheap.
          let h = executes.exits n status is in
          let price = h.price in
          within refuses limit s output stop h.steps (Exited status) h.last (meaning p words n).output h.stopped h.output (omega (arith, price, cheap)) ends;
      halts =
          λ n is cheap.
          let h = executes.halts n is in
          let price = h.price in
          within refuses limit s output stop h.steps Broken h.last (meaning p words n).output h.stopped h.output (omega (arith, price, cheap)) ends;
      goes_on = λ n is below. goes n is below;
      shows = λ defined. by (meaning p words (enough limit)).ending refl defined;
    }
  where
    goes : (n : ℕ) → (meaning p words n).ending ≡ Turns → 40000 * (limit + 1) < n → IsCut (meaning p words n).output output stop
    goes n is below =
        let h = executes.goes_on n is in
        cut_so refuses limit s output stop h.steps h.now (meaning p words n).output h.going h.output (longer limit n h.steps below h.pace) ends

    by : (e : End) → (meaning p words (enough limit)).ending ≡ e → IsDefined p words → Shows p words output stop
    by (Exit status) is defined =
        let h = executes.exits (enough limit) status is in
        elim (beside refuses limit s output stop h.steps (Exited status) h.last (meaning p words (enough limit)).output h.stopped h.output ends) [
          | inl b ↦ subst (Shows p words output) (sym b.is) (enough limit, is, b.all)
          | inr cut ↦ shows_cut p words (enough limit) output stop cut
        ]
    by Halt is defined =
        let h = executes.halts (enough limit) is in
        elim (beside refuses limit s output stop h.steps Broken h.last (meaning p words (enough limit)).output h.stopped h.output ends) [
          | inl b ↦ subst (Shows p words output) (sym b.is) (enough limit, is, b.all)
          | inr cut ↦ shows_cut p words (enough limit) output stop cut
        ]
    by Undefined is defined = absurd (defined.defined (enough limit) is)
    by Stack is defined = absurd (defined.stays (enough limit) is)
    by Turns is defined = shows_cut p words (enough limit) output stop (goes (enough limit) is (omega arith))
