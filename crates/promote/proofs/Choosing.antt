-- What the table knows of a temporary is its width.
use Rattle.std.proofs.Common.{◌≡◌, ℕ, Bool, true, false, ◌&&◌, cond, List, [], ◌∷◌, refl, sym, ◌∙◌, ap, Option, Some}
use Rattle.std.specs.List.{list_all, find}
use Rattle.std.proofs.Math.Path.{fun_ext}
use Rattle.std.proofs.lemmas.Bool.{and_parts}
use Rattle.il_ast.specs.declared.operation.Size.{Size}
use Rattle.il_ast.specs.declared.operation.Size.TheVariants.{Byte, Half, Word, Long}
use Rattle.promote.specs.declared.mention.Role.{Role}
use Rattle.promote.specs.declared.mention.Role.TheVariants.{Made, Accessed, Used}
use Rattle.promote.specs.declared.mention.Mention.{Mention}
use Rattle.promote.specs.declared.standing.Standing.{Standing}
use Rattle.promote.specs.declared.standing.Standing.TheVariants.{Unseen, Unused, Kept, Refused}
use Rattle.promote.specs.Uses.{same_size, suits, begins_made, is_promotable, roles, width_in, seen_all, width, standing_at, widths_by}
use Rattle.il_ast.proofs.Truth.{and_false, and_true}

-- ---- sizes

pub same_true : (r q : Size) → same_size r q ≡ true → r ≡ q
same_true Byte Byte e = refl
same_true Half Half e = refl
same_true Word Word e = refl
same_true Long Long e = refl
same_true r q e = absurd (let no : ⊥ = cc in no)

pub same_self : (r : Size) → same_size r r ≡ true
same_self Byte = refl
same_self Half = refl
same_self Word = refl
same_self Long = refl

differ : (s q r : Size) (x : Bool) → same_size r q ≡ false → (same_size q s && (same_size r s && x)) ≡ false
differ Byte Byte Byte x e = absurd (let no : ⊥ = cc in no)
differ Byte Byte r x e = refl
differ Byte q r x e = refl
differ Half Half Half x e = absurd (let no : ⊥ = cc in no)
differ Half Half r x e = refl
differ Half q r x e = refl
differ Word Word Word x e = absurd (let no : ⊥ = cc in no)
differ Word Word r x e = refl
differ Word q r x e = refl
differ Long Long Long x e = absurd (let no : ⊥ = cc in no)
differ Long Long r x e = refl
differ Long q r x e = refl

twice : (b x : Bool) → (b && (b && x)) ≡ (b && x)
twice true x = refl
twice false x = refl

-- ---- what a standing allows

abbrev stands : Size → Standing → Bool
stands s Unseen = false
stands s Unused = true
stands s (Kept r) = same_size r s
stands s Refused = false

refused : (s : Size) (rs : List Role) → stands s (seen_all Refused rs) ≡ false
refused s [] = refl
refused s (r ∷ rs) = refused s rs

accessed : (s q r : Size) (rs : List Role) (b : Bool) → same_size r q ≡ b → (same_size q s && list_all (suits s) rs) ≡ stands s (seen_all (Kept q) rs) → (same_size q s && (same_size r s && list_all (suits s) rs)) ≡ stands s (seen_all (cond b (Kept q) Refused) rs)
accessed s q r rs true e h =
    ap (λ x. same_size q s && (same_size x s && list_all (suits s) rs)) (same_true r q e) ∙ (twice (same_size q s) (list_all (suits s) rs) ∙ h)
accessed s q r rs false e h = differ s q r (list_all (suits s) rs) e ∙ sym (refused s rs)

after_kept : (s q : Size) (rs : List Role) → (same_size q s && list_all (suits s) rs) ≡ stands s (seen_all (Kept q) rs)
after_kept s q [] = and_true (same_size q s)
after_kept s q (Made ∷ rs) = after_kept s q rs
after_kept s q (Accessed r ∷ rs) = accessed s q r rs (same_size r q) refl (after_kept s q rs)
after_kept s q (Used ∷ rs) = and_false (same_size q s) ∙ sym (refused s rs)

after_made : (s : Size) (rs : List Role) → list_all (suits s) rs ≡ stands s (seen_all Unused rs)
after_made s [] = refl
after_made s (Made ∷ rs) = after_made s rs
after_made s (Accessed r ∷ rs) = after_kept s r rs
after_made s (Used ∷ rs) = sym (refused s rs)

allowed : (s : Size) (rs : List Role) → is_promotable s rs ≡ stands s (seen_all Unseen rs)
allowed s [] = refl
allowed s (Made ∷ rs) = after_made s rs
allowed s (Accessed r ∷ rs) = sym (refused s rs)
allowed s (Used ∷ rs) = sym (refused s rs)

find_same : (p q : Size → Bool) → ((s : Size) → p s ≡ q s) → (xs : List Size) → find p xs ≡ find q xs
find_same p q h [] = refl
find_same p q h (x ∷ xs) =
    ap (λ b. cond b (Some x) (find p xs)) (h x) ∙ ap (λ r. cond (q x) (Some x) r) (find_same p q h xs)

narrowest : (st : Standing) → find (λ s. stands s st) (Byte ∷ Half ∷ Word ∷ Long ∷ []) ≡ width st
narrowest Unseen = refl
narrowest Unused = refl
narrowest (Kept Byte) = refl
narrowest (Kept Half) = refl
narrowest (Kept Word) = refl
narrowest (Kept Long) = refl
narrowest Refused = refl

-- the width that the standing after all roles gives
pub width_known : (ms : List Mention) (t : ℕ) → width (seen_all Unseen (roles t ms)) ≡ width_in ms t
width_known ms t =
    sym (find_same (λ s. is_promotable s (roles t ms)) (λ s. stands s (seen_all Unseen (roles t ms))) (λ s. allowed s (roles t ms)) (Byte ∷ Half ∷ Word ∷ Long ∷ [])
    ∙ narrowest (seen_all Unseen (roles t ms)))

pub widths_known : (table : List Standing) (ms : List Mention) → ((t : ℕ) → standing_at table t ≡ seen_all Unseen (roles t ms)) → widths_by table ≡ width_in ms
widths_known table ms h = fun_ext (λ t. ap width (h t) ∙ width_known ms t)

-- ---- what a width says

find_here : (p : Size → Bool) (x s : Size) (r : Option Size) (b : Bool) → p x ≡ b → (r ≡ Some s → p s ≡ true) → cond b (Some x) r ≡ Some s → p s ≡ true
find_here p x s r true e h is = let same : x ≡ s = cc in ap p (sym same) ∙ e
find_here p x s r false e h is = h is

find_true : (p : Size → Bool) (xs : List Size) (s : Size) → find p xs ≡ Some s → p s ≡ true
find_true p [] s e = absurd (let no : ⊥ = cc in no)
find_true p (x ∷ xs) s e = find_here p x s (find p xs) (p x) refl (find_true p xs s) e

pub width_promotable : (ms : List Mention) (t : ℕ) (s : Size) → width_in ms t ≡ Some s → (begins_made (roles t ms) ≡ true) × (list_all (suits s) (roles t ms) ≡ true)
width_promotable ms t s e =
    and_parts (begins_made (roles t ms)) (list_all (suits s) (roles t ms))
    (find_true (λ r. is_promotable r (roles t ms)) (Byte ∷ Half ∷ Word ∷ Long ∷ []) s e)
