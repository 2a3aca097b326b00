-- Arguments that move up: one more of them, and how many there are.
use Rattle.std.proofs.Common.{◌≡◌, ℕ, zero, suc, ◌+◌, ◌-◌, ◌<◌, Bool, true, false, List, [], ◌∷◌, ◌++◌, get_or, set, refl, ◌∙◌, ap, arith, length, Option, Some, None}
use Rattle.std.proofs.lemmas.List.{length-map}
use Rattle.abi_frames.proofs.Shared.{Location, At, Argument}
use Rattle.vcode.specs.declared.place.Location.TheVariants.{Register}
use Rattle.abi_frames.specs.Moves.{argument_exchanged, is_read, settled, arrived, earlier_at, moves_up, moved_up, all_move_up, all_moved_up}

one_less : (k : ℕ) → k ≡ suc k - 1
one_less k = omega arith

pub next_moves : (k : ℕ) (args : List (Argument Location)) (o : Option ℕ) → 0 < k → earlier_at (k - 1) args ≡ o
    → all_move_up k args ≡ moves_up (k - 1) args o ++ all_move_up (k - 1) (moved_up (k - 1) args o)
next_moves zero args o some e = absurd (let no : ⊥ = omega (arith, some) in no)
next_moves (suc k) args o some e =
    ap (λ n. moves_up n args (earlier_at n args) ++ all_move_up n (moved_up n args (earlier_at n args))) (one_less k)
    ∙ ap (λ q. moves_up (suc k - 1) args q ++ all_move_up (suc k - 1) (moved_up (suc k - 1) args q)) e

pub next_moved : (k : ℕ) (args : List (Argument Location)) (o : Option ℕ) → 0 < k → earlier_at (k - 1) args ≡ o
    → all_moved_up k args ≡ all_moved_up (k - 1) (moved_up (k - 1) args o)
next_moved zero args o some e = absurd (let no : ⊥ = omega (arith, some) in no)
next_moved (suc k) args o some e =
    ap (λ n. all_moved_up n (moved_up n args (earlier_at n args))) (one_less k)
    ∙ ap (λ q. all_moved_up (suc k - 1) (moved_up (suc k - 1) args q)) e

-- `set` writes where the argument is
pub settled_is : (n k : ℕ) (args : List (Argument Location)) (d : Argument Location) → k < length args
    → set args k (record { class = (get_or args k d).class; value = At (Register n); extension = (get_or args k d).extension }) ≡ settled n k args
settled_is n k [] d h = absurd (let no : ⊥ = omega (arith, h) in no)
settled_is n zero (a ∷ args) d h = refl
settled_is n (suc k) (a ∷ args) d h = ap (λ l. a ∷ l) (settled_is n k args d (omega (arith, h)))

settled_length : (n k : ℕ) (args : List (Argument Location)) → length (settled n k args) ≡ length args
settled_length n k [] = refl
settled_length n zero (a ∷ args) = refl
settled_length n (suc k) (a ∷ args) = let rest = settled_length n k args in omega (arith, rest)

arrived_length : (k r : ℕ) (read : Bool) (args : List (Argument Location)) → length (arrived k r read args) ≡ length args
arrived_length k r true args = length-map args (argument_exchanged (10 + k) r)
arrived_length k r false args = settled_length (10 + k) k args

pub one_length : (k : ℕ) (args : List (Argument Location)) (o : Option ℕ) → length (moved_up k args o) ≡ length args
one_length k args None = refl
one_length k args (Some r) = arrived_length k r (is_read (10 + k) args) args

pub moved_length : (k : ℕ) (args : List (Argument Location)) → length (all_moved_up k args) ≡ length args
moved_length zero args = refl
moved_length (suc k) args = moved_length k (moved_up k args (earlier_at k args)) ∙ one_length k args (earlier_at k args)
