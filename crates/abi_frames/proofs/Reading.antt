-- Bytes that are known are those that the machine reads.
use Rattle.std.proofs.Common.{◌≡◌, ◌≢◌, ℕ, zero, suc, ◌+◌, ◌*◌, refl, subst, arith, inl, inr, eq-or-lt_of_le, Option, Some, None}
use Rattle.abi_frames.proofs.Shared.{option_map, same_Some, none_is_not, number_at}
use Rattle.rv_isa.specs.Prelude.{State, Ground}
use Rattle.flat_code.specs.Flat.{Spot, NoAccess, AnyByte, ThisByte, Spots}
use Rattle.flat_code.specs.Step.{read_spot, known_number}
use Rattle.abi_frames.specs.Performs.{IsUsable, HoldsSpots}
use Rattle.abi_frames.proofs.StackAccesses.{UsableFrom}

pub record IsRead (g : Ground) (u : State) (at n v : ℕ) : Type 0 where
  pub value : number_at u.bytes at n ≡ v
  pub usable : UsableFrom g at n

known_is_there : (m : Spot) (b : ℕ) → m ≡ ThisByte b → m ≢ NoAccess
known_is_there m b e f = let no : ⊥ = cc in no

pub read_is : (g : Ground) (f : Spots) (u : State) (at n v : ℕ) → HoldsSpots g f u → known_number f at n ≡ Some v → IsRead g u at n v
unfolding known_number number_at
read_is g f u at zero v holds known = record {
  value = same_Some 0 v known;
  usable = λ x lo hi. absurd (let no : ⊥ = omega (arith, lo, hi) in no);
}
read_is g f u at (suc n) v holds known = by_spot (f at) refl known (λ w e. read_is g f u (at + 1) n w holds e)
  where
    by_rest : (b : ℕ) → f at ≡ ThisByte b → (o : Option ℕ) → known_number f (at + 1) n ≡ o → option_map (λ k. b + 256 * k) o ≡ Some v
        → ((w : ℕ) → known_number f (at + 1) n ≡ Some w → IsRead g u (at + 1) n w) → IsRead g u at (suc n) v
    by_rest b e None q h rest = absurd (none_is_not v None refl h)
    by_rest b e (Some w) q h rest =
        let more = rest w q in
        let first = holds.known at b e in
        let others = more.value in
        let sum = same_Some (b + 256 * w) v h in
        record {
          value = omega (arith, first, others, sum);
          usable = λ x lo hi. elim (eq-or-lt_of_le lo) [
            | inl here ↦ subst (λ y. IsUsable g y) here (holds.usable at (known_is_there (f at) b e))
            | inr above ↦ more.usable x (omega (arith, above)) (omega (arith, hi))
          ];
        }

    by_spot : (m : Spot) → f at ≡ m → read_spot m (known_number f (at + 1) n) ≡ Some v
        → ((w : ℕ) → known_number f (at + 1) n ≡ Some w → IsRead g u (at + 1) n w) → IsRead g u at (suc n) v
    by_spot NoAccess e h rest = absurd (none_is_not v None refl h)
    by_spot AnyByte e h rest = absurd (none_is_not v None refl h)
    by_spot (ThisByte b) e h rest = by_rest b e (known_number f (at + 1) n) refl h rest
