-- The machine, one turn further.
use Rattle.std.proofs.Common.{◌≡◌, ℕ, suc, ◌+◌, ◌-◌, ◌<◌, List, refl, ap, sym, ◌∙◌, arith, add-zero, Option, Some, None}
use Rattle.il_ast.specs.declared.program.Program.{Program}
use Rattle.il_ast.specs.declared.value.End.{End}
use Rattle.il_ast.specs.Prelude.{Behaviour, meaning}
use Rattle.obj_link.specs.declared.linking.linked.Linked.{Linked}
use Rattle.obj_link.specs.Prelude.{program}
use Rattle.il_interp.proofs.Unwinding.{machine_means}
use Rattle.il_interp.specs.declared.state.State.{State}
use Rattle.il_interp.specs.Machine.{Next, On, Over, step, go_on, machine, started, rest_of, ending_of}

abbrev pub behaves : List ℕ → End → Behaviour
behaves out e = record { output = out; ending = e }

-- what is due where i of n turns are done, with k more
further : (p : Program) (n i k : ℕ) (st : State) → i < n → machine p (n - i + k) st ≡ go_on (machine p (n - (i + 1) + k)) (step p st)
unfolding machine
further p n i k st lt = let left : n - i + k ≡ suc (n - (i + 1) + k) = omega (arith, lt) in ap (λ j. machine p j st) left

pub goes_on : (p : Program) (n i k : ℕ) (st new : State) (whole : Behaviour) → i < n → machine p (n - i + k) st ≡ whole → step p st ≡ On new → machine p (n - (i + 1) + k) new ≡ whole
goes_on p n i k st new whole lt inv s = sym (further p n i k st lt ∙ ap (go_on (machine p (n - (i + 1) + k))) s) ∙ inv

pub is_over : (p : Program) (n i k : ℕ) (st : State) (whole : Behaviour) (out : List ℕ) (e : End) → i < n → machine p (n - i + k) st ≡ whole → step p st ≡ Over out e → whole ≡ behaves out e
is_over p n i k st whole out e lt inv s = sym inv ∙ (further p n i k st lt ∙ ap (go_on (machine p (n - (i + 1) + k))) s)

-- all turns are done
pub all_done : (p : Program) (n i k : ℕ) (st : State) (whole : Behaviour) → n - i ≡ 0 → machine p (n - i + k) st ≡ whole → whole ≡ machine p k st
all_done p n i k st whole none inv = sym inv ∙ (let left : n - i + k ≡ k = omega (arith, none) in ap (λ j. machine p j st) left)

-- a run in one piece
pub whole_run : (p : Program) (n : ℕ) (st last : State) (end : Option End) → ((k : ℕ) → machine p (n + k) st ≡ rest_of p last end k)
    → machine p n st ≡ behaves last.output (ending_of end)
unfolding machine
whole_run p n st last end h = ap (λ j. machine p j st) (sym (add-zero n)) ∙ h 0 ∙ at_end end
  where
    at_end : (e : Option End) → rest_of p last e 0 ≡ behaves last.output (ending_of e)
    at_end None = refl
    at_end (Some e) = refl

-- what a run comes to is what the program means
pub run_means : (linked same : Linked) (words : List (List ℕ)) (n : ℕ) (first : Next) (b : Behaviour) → same ≡ linked → started (program same) words ≡ first → go_on (machine (program same) n) first ≡ b → meaning (program linked) words n ≡ b
run_means linked same words n first b e s h =
    ap (λ x. meaning (program x) words n) (sym e)
    ∙ (sym (machine_means (program same) words n) ∙ (ap (go_on (machine (program same) n)) s ∙ h))
