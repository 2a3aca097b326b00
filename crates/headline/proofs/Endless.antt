-- A machine that executes a program that never ends runs on, and what it has put out stands in front of what it puts out later.
use Rattle.std.proofs.Common.{◌≡◌, ℕ, zero, suc, ◌+◌, ◌-◌, ◌*◌, ◌≤◌, ◌++◌, [], List, Result, Ok, Err, refl, sym, ◌∙◌, ap, subst, arith, append-nil}
use Rattle.il_ast.specs.declared.program.Program.{Program}
use Rattle.il_ast.specs.Prelude.{meaning}
use Rattle.rv_isa.specs.Prelude.{State, Stop, step, Run, Going, Stopped, then_run, runs}
use Rattle.rv_machine.proofs.OutputLaws.{after_output, run_after, runs_after}
use Rattle.headline.specs.Headline.{GoesOnSo, Executes}
use Rattle.headline.specs.Answered.{NeverEnds, IsBeginning, RunsOn, EndlessProgramsRunOn}

-- ---- a run that goes on has gone on before

pub record Before (m k : ℕ) (s u : State) : Type 0 where
  pub now : State
  pub first : runs m s ≡ Going now
  pub rest : runs k now ≡ Going u

pub goes_before : (m k : ℕ) (s u : State) → runs (m + k) s ≡ Going u → Before m k s u
unfolding runs
goes_before zero k s u h = record { now = s; first = refl; rest = (let e : zero + k ≡ k = omega arith in ap (λ i. runs i s) (sym e)) ∙ h }
goes_before (suc m) k s u h =
    by (step s) refl (λ t. goes_before m k t u) ((let e : suc (m + k) ≡ suc m + k = omega arith in ap (λ i. runs i s) e) ∙ h)
  where
    by : (r : Result State Stop) → step s ≡ r → ((t : State) → runs (m + k) t ≡ Going u → Before m k t u) → then_run (runs (m + k)) s (step s) ≡ Going u → Before (suc m) k s u
    by (Ok t) e on g =
        let b = on t (ap (then_run (runs (m + k)) s) (sym e) ∙ g) in
        record { now = b.now; first = ap (then_run (runs m) s) e ∙ b.first; rest = b.rest }
    by (Err f) e on g =
        let h : Stopped f s ≡ Going u = ap (then_run (runs (m + k)) s) (sym e) ∙ g in
        absurd (let no : ⊥ = cc in no)

-- ---- output grows at its end

abbrev pub silent : State → State
silent s = record s { output = [] }

grows : (o : List ℕ) (r : Run) (u : State) → run_after o r ≡ Going u → IsBeginning o u.output
grows o (Going t) u h = record { rest = t.output; is = (let same : after_output o t ≡ u = cc in ap (λ (x : State). x.output) (sym same)) }
grows o (Stopped e t) u h = absurd (let no : ⊥ = cc in no)

pub output_grows : (k : ℕ) (t u : State) → runs k t ≡ Going u → IsBeginning t.output u.output
output_grows k t u h =
    let whole : after_output t.output (silent t) ≡ t = ap (λ (o : List ℕ). record t { output = o }) (append-nil t.output) in
    grows t.output (runs k (silent t)) u (sym (runs_after t.output k (silent t)) ∙ ap (runs k) whole ∙ h)

-- ---- the program goes on for longer than so many instructions

abbrev turns_beyond : ℕ → ℕ
turns_beyond m = 40000 * (m + 1)

beyond : (m steps : ℕ) → turns_beyond m ≤ 40000 * (steps + 1) → m + (steps - m) ≡ steps
beyond m steps h = omega (arith, h)

pub endless_programs_run_on : EndlessProgramsRunOn
endless_programs_run_on p words s executes endless =
    record {
      never_stops = λ m. let b = before m in (b.now, b.first);
      puts_all = λ n. let g = executes.goes_on n (endless n) in record { steps = g.steps; now = g.now; going = g.going; output_is = g.output };
      puts_no_more = λ m t h. (
        turns_beyond m,
        (
            let g = later m in
            let b = before m in
            let same : b.now ≡ t = (let e : Going b.now ≡ Going t = sym b.first ∙ h in cc) in
            subst (λ (o : List ℕ). IsBeginning t.output o) g.output
            (subst (λ (x : State). IsBeginning x.output g.now.output) same (output_grows (g.steps - m) b.now g.now b.rest))
            ),
      );
    }
  where
    later : (m : ℕ) → GoesOnSo p words (turns_beyond m) s
    later m = executes.goes_on (turns_beyond m) (endless (turns_beyond m))

    before : (m : ℕ) → Before m ((later m).steps - m) s (later m).now
    before m =
        let g = later m in
        goes_before m (g.steps - m) s g.now (ap (λ i. runs i s) (beyond m g.steps g.pace) ∙ g.going)
