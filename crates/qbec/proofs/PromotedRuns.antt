-- What the machine does with a program's promoted functions, it does with the program.
use Rattle.std.proofs.Common.{◌≡◌, ◌⊎◌, inl, inr, ℕ, ◌≤◌, List, [], refl, sym, ◌∙◌, ap, subst}
use Rattle.il_ast.specs.declared.program.Program.{Program}
use Rattle.il_ast.specs.declared.value.End.{End}
use Rattle.il_ast.specs.declared.value.End.TheVariants.{Exit, Halt, Undefined, Stack, Turns}
use Rattle.il_ast.specs.Prelude.{Spent, Outcome, Returned, Ended, price, IsFailure, Behaviour, outcome, meaning, behaviour_of, spent_of}
use Rattle.il_ast.proofs.Pacing.{output_comes_first}
use Rattle.rv_isa.specs.Prelude.{State, Stop, Exited, Broken}
use Rattle.promote.specs.Programs.{SameOutcome}
use Rattle.headline.specs.Headline.{StopsSo, GoesOnSo, PutsOut, Executes}
use Rattle.headline.proofs.Executed.{put_out_before}

-- the same output, the same end, and the same spent
record Alike (o r : Outcome) : Type 0 where
  behaviour : behaviour_of r ≡ behaviour_of o
  spent : spent_of r ≡ spent_of o

-- an end of which nothing is asked
record Fails (o : Outcome) : Type 0 where
  spent : Spent
  ending : End
  is : o ≡ Ended spent ending
  failure : IsFailure ending

abbrev behaving : List ℕ → End → Behaviour
behaving output ending = record { output = output; ending = ending }

alike : (o r : Outcome) → SameOutcome o r → Alike o r ⊎ Fails o
alike (Returned s v m) r h = inl (record { behaviour = ap behaviour_of h.2 ∙ ap (behaving s.output) h.3; spent = ap spent_of h.2 })
alike (Ended s (Exit n)) r h = inl (record { behaviour = ap behaviour_of h; spent = ap spent_of h })
alike (Ended s Halt) r h = inl (record { behaviour = ap behaviour_of h; spent = ap spent_of h })
alike (Ended s Undefined) r h = inr (record { spent = s; ending = Undefined; is = refl; failure = tt })
alike (Ended s Stack) r h = inr (record { spent = s; ending = Stack; is = refl; failure = tt })
alike (Ended s Turns) r h = inl (record { behaviour = ap behaviour_of h; spent = ap spent_of h })

-- at an end that is no failure
alike_at : (o r : Outcome) (e : End) → SameOutcome o r → (behaviour_of o).ending ≡ e → (IsFailure e → ⊥) → Alike o r
alike_at o r e same is fine = elim (alike o r same) [
  | inl both ↦ both
  | inr ended ↦ absurd (fine (subst (λ x. IsFailure x) (sym (ap (λ x. (behaviour_of x).ending) ended.is) ∙ is) ended.failure))
]

-- ---- at one number of turns

ends_so : (o r : Outcome) (e : End) → Alike o r → (behaviour_of o).ending ≡ e → (behaviour_of r).ending ≡ e
ends_so o r e both is = ap (λ (b : Behaviour). b.ending) both.behaviour ∙ is

stops_so : (p q : Program) (words : List (List ℕ)) (n : ℕ) (s : State) (stop : Stop) → Alike (outcome p words n) (outcome q words n) → StopsSo q words n s stop → StopsSo p words n s stop
unfolding meaning
stops_so p q words n s stop both st =
    record {
      steps = st.steps;
      last = st.last;
      stopped = st.stopped;
      output = st.output ∙ ap (λ (b : Behaviour). b.output) both.behaviour;
      price = subst (λ t. st.steps ≤ price t) both.spent st.price;
    }

goes_so : (p q : Program) (words : List (List ℕ)) (n : ℕ) (s : State) → Alike (outcome p words n) (outcome q words n) → GoesOnSo q words n s → GoesOnSo p words n s
unfolding meaning
goes_so p q words n s both on =
    record {
      steps = on.steps;
      now = on.now;
      going = on.going;
      output = on.output ∙ ap (λ (b : Behaviour). b.output) both.behaviour;
      price = subst (λ t. on.steps ≤ price t) both.spent on.price;
      pace = on.pace;
    }

puts_so : (p q : Program) (words : List (List ℕ)) (n : ℕ) (s : State) → Alike (outcome p words n) (outcome q words n) → PutsOut s (meaning q words n).output → PutsOut s (meaning p words n).output
unfolding meaning
puts_so p q words n s both out = subst (λ (b : Behaviour). PutsOut s b.output) both.behaviour out

-- ---- at every number of turns

-- where two programs go the same way, but where the one becomes undefined or runs out of stack, the machine that executes the other executes the one
pub executes_so : (p q : Program) (words : List (List ℕ)) (s : State) → s.output ≡ [] → ((n : ℕ) → SameOutcome (outcome p words n) (outcome q words n)) → Executes q words s → Executes p words s
unfolding meaning
executes_so p q words s silent same run =
    record {
      exits =
          λ n status is.
          (let both = fine n (Exit status) is (λ h. h) in
          stops_so p q words n s (Exited status) both (run.exits n status (ends_so (outcome p words n) (outcome q words n) (Exit status) both is)));
      halts =
          λ n is.
          (let both = fine n Halt is (λ h. h) in
          stops_so p q words n s Broken both (run.halts n (ends_so (outcome p words n) (outcome q words n) Halt both is)));
      goes_on = goes;
      undefined = λ n is. fails n Undefined (run.undefined n) is;
      stack = λ n is. fails n Stack (run.stack n) is;
    }
  where
    fine : (n : ℕ) (e : End) → (behaviour_of (outcome p words n)).ending ≡ e → (IsFailure e → ⊥) → Alike (outcome p words n) (outcome q words n)
    fine n e is h = alike_at (outcome p words n) (outcome q words n) e (same n) is h

    goes : (n : ℕ) → (behaviour_of (outcome p words n)).ending ≡ Turns → GoesOnSo p words n s
    goes n is =
        let both = fine n Turns is (λ h. h) in
        goes_so p q words n s both (run.goes_on n (ends_so (outcome p words n) (outcome q words n) Turns both is))

    -- what comes before a failure is put out while the program goes on, which both do alike
    fails : (n : ℕ) (e : End) → ((behaviour_of (outcome q words n)).ending ≡ e → PutsOut s (behaviour_of (outcome q words n)).output) → (behaviour_of (outcome p words n)).ending ≡ e → PutsOut s (behaviour_of (outcome p words n)).output
    fails n e out is = elim (alike (outcome p words n) (outcome q words n) (same n)) [
      | inl both ↦ puts_so p q words n s both (out (ends_so (outcome p words n) (outcome q words n) e both is))
      | inr ended ↦
          subst (λ o. PutsOut s (behaviour_of o).output) (sym ended.is)
          (put_out_before p words n s silent goes ended.spent.output (output_comes_first p words n ended.spent ended.ending ended.is ended.failure))
    ]
