-- The machine executes the program: from the call of `main` to the end.
use Rattle.std.proofs.Common.{◌≡◌, ◌⊎◌, inl, inr, ℕ, ◌+◌, ◌*◌, ◌%◌, ◌≤◌, List, [], ◌++◌, refl, sym, ◌∙◌, subst, ap, arith, Option, Some, None}
use Rattle.il_ast.specs.declared.limits.TheConstants.{FUNCTION_WEIGHT}
use Rattle.il_ast.specs.declared.operation.Class.TheVariants.{W}
use Rattle.il_ast.specs.declared.program.Program.{Program}
use Rattle.il_ast.specs.declared.value.Value.TheVariants.{Integer, Pointer, Function}
use Rattle.il_ast.specs.declared.value.End.{End}
use Rattle.il_ast.specs.declared.value.End.TheVariants.{Exit, Halt, Undefined, Stack, Turns}
use Rattle.il_ast.specs.Prelude.{Memory, Spent, Outcome, Returned, Ended, price, outcome, meaning, behaviour_of, spent_of, start_memory, StillGoes, IsFailure}
use Rattle.il_ast.proofs.Pacing.{turns_are_spent, output_comes_first}
use Rattle.rv_isa.specs.Prelude.{State, Stop, Exited, Broken, Going, Stopped, runs}
use Rattle.flat_code.specs.Flat.{Spots, Bases, FlatOutcome, FlatReturned, FlatEnded, ShowsOutcome}
use Rattle.abi_frames.specs.Performs.{ResultIn, passed, Performs, Returns, Stops, KeepsOn, allowance}
use Rattle.headline.specs.Knot.{Setting, KeptCall}
use Rattle.headline.specs.Executables.{CallsMain}
use Rattle.headline.specs.Headline.{GoesOnSo, PutsOut}
use Rattle.headline.specs.Answered.{ProgramIsExecuted}
use Rattle.headline.proofs.Entered.{main_asked, main_flat, main_kept}
use Rattle.rv_machine.proofs.PieceLaws.{joined}
use Rattle.rv_machine.proofs.RunEnding.{came_to}

-- ---- runs of the machine, one after another

-- the machine stops so, with this output and in at most so many instructions
record Stopping (s : State) (stop : Stop) (output : List ℕ) (most : ℕ) : Type 0 where
  steps : ℕ
  last : State
  stopped : runs steps s ≡ Stopped stop last
  output_is : last.output ≡ output
  few : steps ≤ most

record Going_on (s : State) (turns : ℕ) (output : List ℕ) (most : ℕ) : Type 0 where
  steps : ℕ
  now : State
  going : runs steps s ≡ Going now
  output_is : now.output ≡ output
  few : steps ≤ most
  pace : turns ≤ FUNCTION_WEIGHT * (steps + 1)

-- ---- what `main` does

abbrev MainPerforms : (c : Setting) (p : Program) (words : List (List ℕ)) (s : State) → CallsMain c p words s → FlatOutcome → Type 0
MainPerforms c p words s start r = Performs c.world start.sp (Some W) start.memory start.called r

-- the output from the start, where nothing had been put out
output_from : (none out xs ys : List ℕ) → none ≡ [] → out ≡ none ++ xs → xs ≡ ys → out ≡ ys
output_from none out xs ys empty is same = is ∙ (ap (λ zs. zs ++ xs) empty ∙ same)

within : (steps leaving n m : ℕ) (t q : Spent) → t ≡ q → steps + leaving ≤ 256 → n ≤ allowance t → m ≤ leaving → steps + (n + m) ≤ price q
within steps leaving n m t q same few price less =
    let now : n ≤ allowance q = subst (λ x. n ≤ allowance x) same price in omega arith

-- `main` returns, and the machine exits with its result
exit_after : (c : Setting) (p : Program) (words : List (List ℕ)) (s : State) (start : CallsMain c p words s) (q t : Spent) (k : ℕ) (x : Option ℕ) (f : Spots) → t ≡ q → x ≡ Some k → Returns c.world start.sp (Some W) start.memory start.called t x f → Stopping s (Exited (k % 256)) q.output (price q)
exit_after c p words s start q t k x f same is ret =
    let result : ret.after.registers 10 ≡ passed W k = subst (λ y. ResultIn (Some W) y ret.after) is ret.result in
    let out = start.leaves ret.after k ret.back.fixed ret.back.place result in
    record {
      steps = start.steps + (ret.steps + out.steps);
      last = out.last;
      stopped =
          joined s start.called start.steps (ret.steps + out.steps) _ start.comes
          (joined start.called ret.after ret.steps out.steps _ ret.comes out.stopped);
      output_is = out.output ∙ output_from start.called.output ret.after.output t.output q.output start.output ret.output (ap (λ y. y.output) same);
      few = within start.steps start.leaving ret.steps out.steps t q same start.price ret.price out.few;
    }

-- the machine stops during `main`
stop_in : (c : Setting) (p : Program) (words : List (List ℕ)) (s : State) (start : CallsMain c p words s) (q t : Spent) (stop : Stop) → t ≡ q → Stops start.called t stop → Stopping s stop q.output (price q)
stop_in c p words s start q t stop same st =
    record {
      steps = start.steps + (st.steps + 0);
      last = st.last;
      stopped =
          (let none : st.steps + 0 ≡ st.steps = omega arith in
          joined s start.called start.steps (st.steps + 0) _ start.comes (ap (λ n. runs n start.called) none ∙ st.stopped));
      output_is = output_from start.called.output st.last.output t.output q.output start.output st.output (ap (λ y. y.output) same);
      few = within start.steps start.leaving st.steps 0 t q same start.price st.price (omega arith);
    }

-- the machine goes on in `main`
going_in : (c : Setting) (p : Program) (words : List (List ℕ)) (s : State) (start : CallsMain c p words s) (q t : Spent) → t ≡ q → KeepsOn start.called t → Going_on s q.turns q.output (price q)
going_in c p words s start q t same on =
    let pace : q.turns ≤ FUNCTION_WEIGHT * (on.steps + 1) = subst (λ y. y.turns ≤ FUNCTION_WEIGHT * (on.steps + 1)) same on.pace in
    record {
      steps = start.steps + (on.steps + 0);
      now = on.after;
      going =
          (let none : on.steps + 0 ≡ on.steps = omega arith in
          joined s start.called start.steps (on.steps + 0) _ start.comes
          (ap (λ n. runs n start.called) none ∙ came_to start.called on.after on.steps on.comes));
      output_is = output_from start.called.output on.after.output t.output q.output start.output on.output (ap (λ y. y.output) same);
      few = within start.steps start.leaving on.steps 0 t q same start.price on.price (omega arith);
      pace = omega arith;
    }

-- `main` returns, and the machine has put out all
put_out_by : (c : Setting) (p : Program) (words : List (List ℕ)) (s : State) (start : CallsMain c p words s) (q t : Spent) (x : Option ℕ) (f : Spots) → t ≡ q → Returns c.world start.sp (Some W) start.memory start.called t x f → PutsOut s q.output
put_out_by c p words s start q t x f same ret =
    record {
      steps = start.steps + ret.steps;
      now = ret.after;
      going = joined s start.called start.steps ret.steps _ start.comes (came_to start.called ret.after ret.steps ret.comes);
      output_is = output_from start.called.output ret.after.output t.output q.output start.output ret.output (ap (λ y. y.output) same);
    }

-- ---- by the outcome

stops_as : (c : Setting) (p : Program) (words : List (List ℕ)) (s : State) (start : CallsMain c p words s) (q t : Spent) (e y : End) (stop : Stop) → t ≡ q → y ≡ e → (MainPerforms c p words s start (FlatEnded t e) → Stops start.called t stop) → MainPerforms c p words s start (FlatEnded t y) → Stopping s stop q.output (price q)
stops_as c p words s start q t e y stop same is by performs =
    stop_in c p words s start q t stop same (by (subst (λ z. MainPerforms c p words s start (FlatEnded t z)) is performs))

exits_by : (c : Setting) (p : Program) (words : List (List ℕ)) (s : State) (start : CallsMain c p words s) (u : Bases) (made : Memory) (o : Outcome) (r : FlatOutcome) → ShowsOutcome c.entries u (Some W) start.memory made o r → MainPerforms c p words s start r → (status : ℕ) → (behaviour_of o).ending ≡ Exit status → Stopping s (Exited status) (behaviour_of o).output (price (spent_of o))
exits_by c p words s start u made (Returned q None m) (FlatReturned t x f) shows performs status is = cc
exits_by c p words s start u made (Returned q (Some (Integer k)) m) (FlatReturned t None f) shows performs status is = absurd shows.result
exits_by c p words s start u made (Returned q (Some (Integer k)) m) (FlatReturned t (Some x) f) shows performs status is =
    let same : k % 256 ≡ status = cc in
    subst (λ n. Stopping s (Exited n) q.output (price q)) same (exit_after c p words s start q t k (Some x) f shows.spent (ap Some shows.result) performs)
exits_by c p words s start u made (Returned q (Some (Pointer b o)) m) (FlatReturned t x f) shows performs status is = cc
exits_by c p words s start u made (Returned q (Some (Function g)) m) (FlatReturned t x f) shows performs status is = cc
exits_by c p words s start u made (Returned q v m) (FlatEnded t y) shows performs status is = absurd shows
exits_by c p words s start u made (Ended q e) (FlatReturned t x f) shows performs status is = absurd shows
exits_by c p words s start u made (Ended q e) (FlatEnded t y) shows performs status is =
    stops_as c p words s start q t (Exit status) y (Exited status) shows.0 (shows.1 ∙ is) (λ h. h) performs

halts_by : (c : Setting) (p : Program) (words : List (List ℕ)) (s : State) (start : CallsMain c p words s) (u : Bases) (made : Memory) (o : Outcome) (r : FlatOutcome) → ShowsOutcome c.entries u (Some W) start.memory made o r → MainPerforms c p words s start r → (behaviour_of o).ending ≡ Halt → Stopping s Broken (behaviour_of o).output (price (spent_of o))
halts_by c p words s start u made (Returned q None m) r shows performs is = cc
halts_by c p words s start u made (Returned q (Some (Integer k)) m) r shows performs is = cc
halts_by c p words s start u made (Returned q (Some (Pointer b o)) m) r shows performs is = cc
halts_by c p words s start u made (Returned q (Some (Function g)) m) r shows performs is = cc
halts_by c p words s start u made (Ended q e) (FlatReturned t x f) shows performs is = absurd shows
halts_by c p words s start u made (Ended q e) (FlatEnded t y) shows performs is =
    stops_as c p words s start q t Halt y Broken shows.0 (shows.1 ∙ is) (λ h. h) performs

goes_by : (c : Setting) (p : Program) (words : List (List ℕ)) (s : State) (start : CallsMain c p words s) (u : Bases) (made : Memory) (o : Outcome) (r : FlatOutcome) → ShowsOutcome c.entries u (Some W) start.memory made o r → MainPerforms c p words s start r → (behaviour_of o).ending ≡ Turns → Going_on s (spent_of o).turns (behaviour_of o).output (price (spent_of o))
goes_by c p words s start u made (Returned q None m) r shows performs is = cc
goes_by c p words s start u made (Returned q (Some (Integer k)) m) r shows performs is = cc
goes_by c p words s start u made (Returned q (Some (Pointer b o)) m) r shows performs is = cc
goes_by c p words s start u made (Returned q (Some (Function g)) m) r shows performs is = cc
goes_by c p words s start u made (Ended q e) (FlatReturned t x f) shows performs is = absurd shows
goes_by c p words s start u made (Ended q e) (FlatEnded t y) shows performs is =
    going_in c p words s start q t shows.0 (subst (λ z. MainPerforms c p words s start (FlatEnded t z)) (shows.1 ∙ is) performs)

-- ---- at every number of turns

ended_with : (o : Outcome) (e : End) → (behaviour_of o).ending ≡ e → (e ≡ Turns) → (q : Spent) × (o ≡ Ended q Turns)
ended_with (Returned q None m) e is t = cc
ended_with (Returned q (Some (Integer k)) m) e is t = cc
ended_with (Returned q (Some (Pointer b o)) m) e is t = cc
ended_with (Returned q (Some (Function g)) m) e is t = cc
ended_with (Ended q z) e is t = (q, ap (Ended q) (is ∙ t))

-- what comes before a failure is put out: the program returned without a result, or nothing is put out, or at fewer turns it goes on with that output
pub put_out_before : (p : Program) (words : List (List ℕ)) (n : ℕ) (s : State) → s.output ≡ [] → ((k : ℕ) → (behaviour_of (outcome p words k)).ending ≡ Turns → GoesOnSo p words k s) → (output : List ℕ) → (output ≡ []) ⊎ StillGoes p words n output → PutsOut s output
unfolding runs meaning
put_out_before p words n s silent later output (inl none) = record { steps = 0; now = s; going = refl; output_is = silent ∙ sym none }
put_out_before p words n s silent later output (inr at) =
    let on = later at.turns (ap (λ o. (behaviour_of o).ending) at.going) in
    record {
      steps = on.steps;
      now = on.now;
      going = on.going;
      output_is = on.output ∙ (ap (λ o. (behaviour_of o).output) at.going ∙ at.output_is);
    }

fails_by : (c : Setting) (p : Program) (words : List (List ℕ)) (s : State) (start : CallsMain c p words s) → s.output ≡ [] → (n : ℕ) → ((k : ℕ) → (behaviour_of (outcome p words k)).ending ≡ Turns → GoesOnSo p words k s) → (u : Bases) (made : Memory) (o : Outcome) (r : FlatOutcome) → outcome p words n ≡ o → ShowsOutcome c.entries u (Some W) start.memory made o r → MainPerforms c p words s start r → (e : End) → IsFailure e → (behaviour_of o).ending ≡ e → PutsOut s (behaviour_of o).output
fails_by c p words s start silent n later u made (Returned q v m) (FlatReturned t x f) same shows performs e failure is =
    put_out_by c p words s start q t x f shows.spent performs
fails_by c p words s start silent n later u made (Returned q v m) (FlatEnded t y) same shows performs e failure is = absurd shows
fails_by c p words s start silent n later u made (Ended q z) r same shows performs e failure is =
    put_out_before p words n s silent later q.output (output_comes_first p words n q z same (subst (λ y. IsFailure y) (sym is) failure))

pub program_is_executed : ProgramIsExecuted
unfolding meaning
program_is_executed c p words s setting functions natives few silent start =
    record {
      exits =
          λ n status is.
          let k = kept n in
          let st = exits_by c p words s start k.placed (start_memory p words) (outcome p words n) k.went k.shows (performs n) status is in
          record { steps = st.steps; last = st.last; stopped = st.stopped; output = st.output_is; price = st.few };
      halts =
          λ n is.
          let k = kept n in
          let st = halts_by c p words s start k.placed (start_memory p words) (outcome p words n) k.went k.shows (performs n) is in
          record { steps = st.steps; last = st.last; stopped = st.stopped; output = st.output_is; price = st.few };
      goes_on = λ n is. goes_at n is;
      undefined = λ n is. fails n Undefined tt is;
      stack = λ n is. fails n Stack tt is;
    }
  where
    kept : (n : ℕ) → KeptCall c start.sp c.start (main_asked p words n) (main_flat c p words s start n) (outcome p words n)
    kept n = main_kept c p words s setting functions natives few start n

    performs : (n : ℕ) → MainPerforms c p words s start (kept n).went
    performs n = (kept n).performs start.called (start.ready n)

    goes_at : (n : ℕ) → (behaviour_of (outcome p words n)).ending ≡ Turns → GoesOnSo p words n s
    goes_at n is =
        let k = kept n in
        let on = goes_by c p words s start k.placed (start_memory p words) (outcome p words n) k.went k.shows (performs n) is in
        let end = ended_with (outcome p words n) Turns is refl in
        let all : (spent_of (outcome p words n)).turns ≡ n = ap (λ o. (spent_of o).turns) end.1 ∙ turns_are_spent p words n end.0 end.1 in
        record {
          steps = on.steps;
          now = on.now;
          going = on.going;
          output = on.output_is;
          price = on.few;
          pace = subst (λ t. t ≤ FUNCTION_WEIGHT * (on.steps + 1)) all on.pace;
        }

    fails : (n : ℕ) (e : End) → IsFailure e → (behaviour_of (outcome p words n)).ending ≡ e → PutsOut s (behaviour_of (outcome p words n)).output
    fails n e failure is =
        let k = kept n in
        fails_by c p words s start silent n goes_at k.placed (start_memory p words) (outcome p words n) k.went refl k.shows (performs n) e failure is
