-- Promoted temporaries are made, and accessed at their width, and nothing else.
use Rattle.std.proofs.Common.{◌≡◌, ℕ, Bool, true, false, nat_eq, cond, List, [], ◌∷◌, ◌++◌, subst, arith, slice_get, zero, suc, Option, Some, None}
use Rattle.std.specs.List.{list_all, flat_map}
use Rattle.std.proofs.lemmas.Bool.Decides.{nat_tests}
use Rattle.std.proofs.lemmas.Bool.{and_parts}
use Rattle.il_ast.specs.declared.operation.Size.{Size}
use Rattle.promote.specs.declared.mention.Role.{Role}
use Rattle.promote.specs.declared.mention.Mention.{Mention}
use Rattle.promote.specs.Uses.{suits, roles, width_in, Widths}
use Rattle.promote.proofs.Choosing.{width_promotable}
use Rattle.il_ast.proofs.Truth.{equals_itself}

-- what the mention is suits the width of the temporary, if it has one
abbrev pub Suited : Widths → Mention → Type 0
Suited w m = (s : Size) → w m.temp ≡ Some s → suits s m.role ≡ true

abbrev pub Respected : Widths → List Mention → Type 0
Respected w [] = Unit {0}
Respected w (m ∷ ms) = Suited w m × Respected w ms

pub other_number : (a b : ℕ) → nat_eq a b ≡ false → a ≡ b → ⊥
other_number a b h e = let yes : nat_eq a b ≡ true = grind (arith, nat_tests) in let no : ⊥ = cc in no

abbrev Suits : Size → List Role → Type 0
Suits s rs = list_all (suits s) rs ≡ true

suits_rest : (s : Size) (r : Role) (rs : List Role) (b : Bool) → Suits s (cond b (r ∷ rs) rs) → Suits s rs
suits_rest s r rs true h = (and_parts (suits s r) (list_all (suits s) rs) h).1
suits_rest s r rs false h = h

respected_by : (w : Widths) (ms : List Mention) → ((t : ℕ) (s : Size) → w t ≡ Some s → Suits s (roles t ms)) → Respected w ms
respected_by w [] h = tt
respected_by w (m ∷ ms) h = (
  λ s e.
      (and_parts (suits s m.role) (list_all (suits s) (roles m.temp ms))
      (subst (λ b. Suits s (cond b (m.role ∷ roles m.temp ms) (roles m.temp ms))) (equals_itself m.temp) (h m.temp s e))).0,
  respected_by w ms (λ t s e. suits_rest s m.role (roles t ms) (nat_eq m.temp t) (h t s e)),
)

pub all_respected : (ms : List Mention) → Respected (width_in ms) ms
all_respected ms = respected_by (width_in ms) ms (λ t s e. (width_promotable ms t s e).1)

pub respected_first : (w : Widths) (ms ns : List Mention) → Respected w (ms ++ ns) → Respected w ms
respected_first w [] ns h = tt
respected_first w (m ∷ ms) ns h = (h.0, respected_first w ms ns h.1)

pub respected_then : (w : Widths) (ms ns : List Mention) → Respected w (ms ++ ns) → Respected w ns
respected_then w [] ns h = h
respected_then w (m ∷ ms) ns h = respected_then w ms ns h.1

pub respected_at : {X : Type 0} (w : Widths) (f : X → List Mention) (xs : List X) (k : ℕ) (x : X) → Respected w (flat_map f xs) → slice_get xs k ≡ Some x → Respected w (f x)
respected_at w f [] k x h e = absurd (let no : ⊥ = cc in no)
respected_at w f (y ∷ ys) zero x h e =
    let same : y ≡ x = cc in subst (λ z. Respected w (f z)) same (respected_first w (f y) (flat_map f ys) h)
respected_at w f (y ∷ ys) (suc k) x h e = respected_at w f ys k x (respected_then w (f y) (flat_map f ys) h) e

-- a temporary that is used otherwise isn't promoted
pub used_plain : (w : Widths) (t : ℕ) (o : Option Size) → w t ≡ o → ((s : Size) → w t ≡ Some s → false ≡ true) → w t ≡ None
used_plain w t None e h = e
used_plain w t (Some s) e h = absurd (let no : false ≡ true = h s e in let never : ⊥ = cc in never)
