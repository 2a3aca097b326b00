-- Calls that are kept because nothing is owed, or because nothing is done.
use Rattle.std.proofs.Common.{sym, ◌≡◌, ℕ, Bool, true, false, refl, ap, arith, if◌then◌else◌, append-nil}
use Rattle.il_ast.specs.declared.value.End.TheVariants.{Undefined, Stack, Turns}
use Rattle.il_ast.specs.Prelude.{Spent, nothing, Outcome, Ended, Asked}
use Rattle.rv_isa.specs.Prelude.{runs}
use Rattle.flat_code.specs.Flat.{FlatEnded}
use Rattle.headline.specs.Knot.{Setting, KeepsCall}
use Rattle.headline.proofs.Answer.{grown_same}

pub undefined_kept : (c : Setting) (sp : ℕ) (i : Asked) (s : Spent) → KeepsCall c sp i (Ended s Undefined)
undefined_kept c sp i s p j g shows good =
    record { placed = p; went = FlatEnded s Undefined; grown = grown_same p; shows = (refl, refl); performs = λ u r. tt }

pub stack_kept : (c : Setting) (sp : ℕ) (i : Asked) (s : Spent) → KeepsCall c sp i (Ended s Stack)
stack_kept c sp i s p j g shows good =
    record { placed = p; went = FlatEnded s Stack; grown = grown_same p; shows = (refl, refl); performs = λ u r. tt }

-- nothing is done yet
pub nothing_kept : (c : Setting) (sp : ℕ) (i : Asked) → KeepsCall c sp i (Ended nothing Turns)
nothing_kept c sp i p j g shows good =
    record {
      placed = p;
      went = FlatEnded nothing Turns;
      grown = grown_same p;
      shows = (refl, refl);
      performs =
          λ u r. record {
            steps = 0;
            after = u;
            comes = record { comes = λ k. ap (λ n. runs n u) (omega arith) };
            price = omega arith;
            pace = omega arith;
            output = sym (append-nil u.output);
          };
    }

-- by the two cases of a test
pub by_test : (b : Bool) (P : Outcome → Type 0) (x y : Outcome) → (b ≡ true → P x) → (b ≡ false → P y) → P (if b then x else y)
by_test true P x y h k = h refl
by_test false P x y h k = k refl
