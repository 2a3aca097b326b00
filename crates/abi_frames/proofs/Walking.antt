-- Loops that put the code of the items of a list at the end, one after another.
use Rattle.std.proofs.Common.{◌≡◌, ℕ, ◌+◌, ◌<◌, Bool, true, List, ◌++◌, length, get_or, drop, sym, ap, ◌∙◌, append_assoc}
use Rattle.abi_frames.proofs.Shared.{list_all, sum_by, and_parts}
use Rattle.std.proofs.lemmas.List.Sums.{sum_by-drop_more}
use Rattle.vcode.proofs.Lists.{item_next}

-- what is true of all that are left is true of the next one, and of those behind it
pub all_next : {X : Type 0} (p : X → Bool) (xs : List X) (i : ℕ) (x : X) → i < length xs → x ≡ get_or xs i x → list_all p (drop i xs) ≡ true → (p x ≡ true) × (list_all p (drop (i + 1) xs) ≡ true)
all_next p xs i x low is all = and_parts (p x) (list_all p (drop (i + 1) xs)) (ap (list_all p) (sym (item_next xs i x low is)) ∙ all)

pub sum_next : {X : Type 0} (f : X → ℕ) (xs : List X) (i : ℕ) (x : X) → i < length xs → x ≡ get_or xs i x → sum_by f (drop i xs) ≡ f x + sum_by f (drop (i + 1) xs)
sum_next f xs i x low is = sum_by-drop_more f xs i x low ∙ ap (λ y. f y + sum_by f (drop (i + 1) xs)) (sym is)

-- where its own code was put at the end, what is left is the rest
pub code_next : {A : Type 0} (before after own rest whole : List A) → after ≡ before ++ own → before ++ (own ++ rest) ≡ whole → after ++ rest ≡ whole
code_next before after own rest whole pushed so_far = ap (λ l. l ++ rest) pushed ∙ append_assoc before own rest ∙ so_far
