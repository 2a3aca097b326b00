-- Lists of temporaries: what stands where after a write, and that copies leave their number.
use Rattle.std.proofs.Common.{◌≡◌, ◌≢◌, ℕ, zero, suc, ◌+◌, ◌-◌, ◌<◌, List, [], ◌∷◌, ◌++◌, length, take, drop, map, get_or, refl, sym, ◌∙◌, ap, append_assoc, arith, slice_get, slice_set, Option, Some, None, option_map, option_and_then}
use Rattle.std.proofs.lemmas.List.{length-set, drop_more}
use Rattle.il_ast.specs.declared.block.Phi.{Phi}
use Rattle.il_ast.specs.declared.value.Value.{Value}
use Rattle.il_ast.specs.Prelude.{operand, with_phis}
use Rattle.phi_copies.specs.declared.ending.Assignment.{Assignment}
use Rattle.phi_copies.specs.Endings.{copied}

pub some_same : {A : Type 0} {x y : A} → Some x ≡ Some y → x ≡ y
some_same h = cc

pub get_set_other : {A : Type 0} (xs : List A) (j k : ℕ) (x : A) → j ≢ k → slice_get (slice_set xs k x) j ≡ slice_get xs j
get_set_other [] j k x differ = refl
get_set_other (y ∷ xs) zero zero x differ = absurd (differ refl)
get_set_other (y ∷ xs) (suc j) zero x differ = refl
get_set_other (y ∷ xs) zero (suc k) x differ = refl
get_set_other (y ∷ xs) (suc j) (suc k) x differ = get_set_other xs j k x (λ e. differ (ap suc e))

-- lists of one length that have the same at each place are the same
pub same_places : {A : Type 0} (xs ys : List A) → length xs ≡ length ys → ((k : ℕ) → slice_get xs k ≡ slice_get ys k) → xs ≡ ys
same_places [] [] long same = refl
same_places [] (y ∷ ys) long same = absurd (let no : ⊥ = omega (arith, long) in no)
same_places (x ∷ xs) [] long same = absurd (let no : ⊥ = omega (arith, long) in no)
same_places (x ∷ xs) (y ∷ ys) long same =
    let first : x ≡ y = some_same (same 0) in
    ap (λ z. z ∷ xs) first ∙ ap (λ zs. y ∷ zs) (same_places xs ys (omega (arith, long)) (λ k. same (suc k)))

-- ---- the function's own

pub take_own : {A : Type 0} (xs ys : List A) (n : ℕ) → n ≡ length xs → take n (xs ++ ys) ≡ xs
take_own [] ys zero e = refl
take_own [] ys (suc n) e = absurd (let no : ⊥ = omega (arith, e) in no)
take_own (x ∷ xs) ys zero e = absurd (let no : ⊥ = omega (arith, e) in no)
take_own (x ∷ xs) ys (suc n) e = ap (λ zs. x ∷ zs) (take_own xs ys n (omega (arith, e)))

pub parts_of : {A : Type 0} (n : ℕ) (xs : List A) → xs ≡ take n xs ++ drop n xs
parts_of zero xs = refl
parts_of (suc n) [] = refl
parts_of (suc n) (x ∷ xs) = ap (λ zs. x ∷ zs) (parts_of n xs)

pub get_take : {A : Type 0} (n : ℕ) (xs : List A) (k : ℕ) → k < n → slice_get (take n xs) k ≡ slice_get xs k
get_take zero xs k lt = absurd (omega arith)
get_take (suc n) [] k lt = refl
get_take (suc n) (x ∷ xs) zero lt = refl
get_take (suc n) (x ∷ xs) (suc k) lt = get_take n xs k (omega arith)

-- ---- copies and phis

pub record Mapped {A B : Type 0} (g : A → B) (o : Option A) (y : B) : Type 0 where
  pub item : A
  pub is : o ≡ Some item
  pub to : g item ≡ y

pub mapped : {A B : Type 0} (g : A → B) (o : Option A) (y : B) → option_map g o ≡ Some y → Mapped g o y
mapped g None y h = absurd (let no : ⊥ = cc in no)
mapped g (Some x) y h = record { item = x; is = refl; to = some_same h }

pub length_copied : (globals : List Value) (ts us : List (Option Value)) (cs : List Assignment) → copied globals ts cs ≡ Some us → length us ≡ length ts
length_copied globals ts us [] h = ap length (sym (some_same h))
length_copied globals ts us (c ∷ cs) h = by (λ xs. length_copied globals xs us cs) (operand globals ts c.to.class c.value) h
  where
    by : ((xs : List (Option Value)) → copied globals xs cs ≡ Some us → length us ≡ length xs) → (o : Option Value) → option_and_then (λ v. copied globals (slice_set ts c.to.temp (Some v)) cs) o ≡ Some us → length us ≡ length ts
    by rest None e = absurd (let no : ⊥ = cc in no)
    by rest (Some v) e = rest (slice_set ts c.to.temp (Some v)) e ∙ length-set ts c.to.temp (Some v)

pub copied_then : (globals : List Value) (ts us : List (Option Value)) (cs ds : List Assignment) → copied globals ts cs ≡ Some us → copied globals ts (cs ++ ds) ≡ copied globals us ds
copied_then globals ts us [] ds h = ap (λ xs. copied globals xs ds) (some_same h)
copied_then globals ts us (c ∷ cs) ds h = by (λ xs. copied_then globals xs us cs ds) (operand globals ts c.to.class c.value) h
  where
    by : ((xs : List (Option Value)) → copied globals xs cs ≡ Some us → copied globals xs (cs ++ ds) ≡ copied globals us ds) → (o : Option Value) → option_and_then (λ v. copied globals (slice_set ts c.to.temp (Some v)) cs) o ≡ Some us → option_and_then (λ v. copied globals (slice_set ts c.to.temp (Some v)) (cs ++ ds)) o ≡ copied globals us ds
    by later None e = absurd (let no : ⊥ = cc in no)
    by later (Some v) e = later (slice_set ts c.to.temp (Some v)) e

pub length_with_phis : (xs : List (Option Value)) (ps : List Phi) (vs : List Value) → length (with_phis xs ps vs) ≡ length xs
length_with_phis xs [] vs = refl
length_with_phis xs (p ∷ ps) [] = refl
length_with_phis xs (p ∷ ps) (v ∷ vs) = length_with_phis (slice_set xs p.to.temp (Some v)) ps vs ∙ length-set xs p.to.temp (Some v)

-- ---- one more element

-- what is made of the elements before one and of it, and what is still to be made, are all
pub made_on : {X Y : Type 0} (f : X → Y) (xs : List X) (i : ℕ) (x : X) (y : Y) (found more all : List Y) → i < length xs → x ≡ get_or xs i x → y ≡ f x → more ≡ found ++ y ∷ []
    → found ++ map f (drop i xs) ≡ all → more ++ map f (drop (i + 1) xs) ≡ all
made_on f xs i x y found more all lt is gives added whole =
    let next = drop_more xs i x lt ∙ ap (λ z. z ∷ drop (i + 1) xs) (sym is) in
    ap (λ ys. ys ++ map f (drop (i + 1) xs)) added
    ∙ (append_assoc found (y ∷ []) (map f (drop (i + 1) xs)) ∙ (ap (λ z. found ++ z ∷ map f (drop (i + 1) xs)) gives ∙ (sym (ap (λ ys. found ++ map f ys) next) ∙ whole)))
