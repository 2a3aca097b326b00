-- Temporaries on both sides: those that aren't promoted are the same, but for the numbers of blocks, and a promoted one has what its block begins with.
use Rattle.std.proofs.Common.{◌≡◌, ◌⊎◌, inl, inr, ℕ, zero, suc, ◌+◌, ◌<◌, ◌≤◌, Bool, true, false, nat_eq, nat_le, cond, List, [], ◌∷◌, ◌++◌, length, take, drop, replicate, refl, sym, ◌∙◌, ap, subst, arith, slice_get, slice_set, Option, Some, None, option_map, option_and_then, length-set, eqb-true}
use Rattle.std.proofs.lemmas.Bool.Decides.{nat_tests}
use Rattle.std.proofs.lemmas.Option.{slice_get_within}
use Rattle.il_ast.specs.declared.operation.Size.{Size}
use Rattle.il_ast.specs.declared.operation.Size.TheVariants.{Byte, Half, Word, Long}
use Rattle.il_ast.specs.declared.value.Value.{Value}
use Rattle.il_ast.specs.declared.value.Value.TheVariants.{Pointer}
use Rattle.il_ast.specs.declared.value.Cell.{Cell}
use Rattle.il_ast.specs.declared.value.Cell.TheVariants.{Blank}
use Rattle.il_ast.specs.Prelude.{byte_count, Memory, cells_for, value_of, span, fresh}
use Rattle.promote.specs.Uses.{Widths}
use Rattle.promote.proofs.Respect.{other_number}
use Rattle.promote.proofs.Hiding.{Marks, moved, moved_if, Clean, IfClean, Extends, clean_later, moved_later, marks_grow, get_set}
use Rattle.il_ast.proofs.Truth.{equals_itself}
use Rattle.il_ast.proofs.Listed.{get_set_same, get_set_other}

-- the value was put there, and the block begins with its cells
pub record Stored (hs : Marks) (s : Size) (cells : List Cell) (u : Option (Option Value)) : Type 0 where
  pub value : Value
  pub is : u ≡ Some (Some (moved hs value))
  pub clean : Clean hs value
  pub new : List Cell
  pub made : cells_for (byte_count s) value ≡ Some new
  pub begins : span 0 (byte_count s) cells ≡ Some new

-- nothing that can be read was stored yet, or the value was
abbrev pub Shows : Marks → Size → List Cell → Option (Option Value) → Type 0
Shows hs s cells u = (option_and_then value_of (span 0 (byte_count s) cells) ≡ None) ⊎ Stored hs s cells u

-- a promoted temporary: on the one side a pointer to a hidden block of this activation
pub record Held (hs : Marks) (first : ℕ) (m : Memory) (s : Size) (v : Value) (u : Option (Option Value)) : Type 0 where
  pub block : ℕ
  pub is : v ≡ Pointer block 0
  pub new : first ≤ block
  pub hidden : slice_get hs block ≡ Some true
  pub shows : (cells : List Cell) → slice_get m block ≡ Some (Some cells) → Shows hs s cells u

abbrev pub IfHeld : Marks → ℕ → Memory → Size → Option Value → Option (Option Value) → Type 0
IfHeld hs first m s None u = Unit {0}
IfHeld hs first m s (Some v) u = Held hs first m s v u

pub record Sides (w : Widths) (hs : Marks) (first : ℕ) (m : Memory) (ts us : List (Option Value)) : Type 0 where
  pub long : length us ≡ length ts
  pub same : (t : ℕ) → w t ≡ None → slice_get us t ≡ option_map (moved_if hs) (slice_get ts t)
  pub clean : (t : ℕ) (y : Option Value) → w t ≡ None → slice_get ts t ≡ Some y → IfClean hs y
  pub held : (t : ℕ) (s : Size) (y : Option Value) → w t ≡ Some s → slice_get ts t ≡ Some y → IfHeld hs first m s y (slice_get us t)
  pub apart : (t r : ℕ) (s q : Size) (v : Value) → w t ≡ Some s → w r ≡ Some q → slice_get ts t ≡ Some (Some v) → slice_get ts r ≡ Some (Some v) → t ≡ r

-- ---- marks grow, and hidden blocks stay as they are

stored_later : (hs ks : Marks) (s : Size) (cells : List Cell) (u : Option (Option Value)) → Extends hs ks → Shows hs s cells u → Shows ks s cells u
stored_later hs ks s cells u h (inl none) = inl none
stored_later hs ks s cells u h (inr x) =
    inr (record { value = x.value; is = x.is ∙ ap (λ v. Some (Some v)) (sym (moved_later hs ks h x.value x.clean)); clean = clean_later hs ks h x.value x.clean; new = x.new; made = x.made; begins = x.begins })

-- hidden blocks are as they were
abbrev pub KeptHidden : Marks → Memory → Memory → Type 0
KeptHidden hs m now = (b : ℕ) → slice_get hs b ≡ Some true → slice_get now b ≡ slice_get m b

held_later : (hs ks : Marks) (first : ℕ) (m now : Memory) (s : Size) (y : Option Value) (u : Option (Option Value)) → Extends hs ks → KeptHidden hs m now → IfHeld hs first m s y u → IfHeld ks first now s y u
held_later hs ks first m now s None u h k x = tt
held_later hs ks first m now s (Some v) u h k x =
    record {
      block = x.block;
      is = x.is;
      new = x.new;
      hidden = h x.block true x.hidden;
      shows = λ cells e. stored_later hs ks s cells u h (x.shows cells (sym (k x.block x.hidden) ∙ e));
    }

if_clean_later : (hs ks : Marks) (y : Option Value) → Extends hs ks → IfClean hs y → IfClean ks y
if_clean_later hs ks None h c = tt
if_clean_later hs ks (Some v) h c = clean_later hs ks h v c

slot_later : (hs ks : Marks) → Extends hs ks → (o : Option (Option Value)) → ((y : Option Value) → o ≡ Some y → IfClean hs y) → option_map (moved_if hs) o ≡ option_map (moved_if ks) o
slot_later hs ks h None c = refl
slot_later hs ks h (Some None) c = refl
slot_later hs ks h (Some (Some v)) c = ap (λ u. Some (Some u)) (sym (moved_later hs ks h v (c (Some v) refl)))

pub sides_later : (w : Widths) (hs ks : Marks) (first : ℕ) (m now : Memory) (ts us : List (Option Value)) → Extends hs ks → KeptHidden hs m now → Sides w hs first m ts us → Sides w ks first now ts us
sides_later w hs ks first m now ts us h k x =
    record {
      long = x.long;
      same = λ t p. x.same t p ∙ slot_later hs ks h (slice_get ts t) (λ y e. x.clean t y p e);
      clean = λ t y p e. if_clean_later hs ks y h (x.clean t y p e);
      held = λ t s y p e. held_later hs ks first m now s y (slice_get us t) h k (x.held t s y p e);
      apart = x.apart;
    }

-- ---- a temporary that isn't promoted is assigned

set_alike : {X : Type 0} (f : X → X) (xs ys : List X) (i j : ℕ) (x : X) → length ys ≡ length xs → slice_get ys j ≡ option_map f (slice_get xs j) → slice_get (slice_set ys i (f x)) j ≡ option_map f (slice_get (slice_set xs i x) j)
set_alike f [] [] i j x n e = refl
set_alike f [] (y ∷ ys) i j x n e = absurd (omega (arith, n))
set_alike f (z ∷ zs) [] i j x n e = absurd (omega (arith, n))
set_alike f (z ∷ zs) (y ∷ ys) zero zero x n e = refl
set_alike f (z ∷ zs) (y ∷ ys) zero (suc j) x n e = e
set_alike f (z ∷ zs) (y ∷ ys) (suc i) zero x n e = e
set_alike f (z ∷ zs) (y ∷ ys) (suc i) (suc j) x n e = set_alike f zs ys i j x (omega (arith, n)) e

differs_by : (w : Widths) (r t : ℕ) (s : Size) (b : Bool) → nat_eq r t ≡ b → w r ≡ Some s → w t ≡ None → b ≡ false
differs_by w r t s false e h k = refl
differs_by w r t s true e h k = let same : w r ≡ w t = ap w (eqb-true r t e) in absurd (let no : ⊥ = cc in no)

pub differs : (w : Widths) (r t : ℕ) (s : Size) → w r ≡ Some s → w t ≡ None → nat_eq r t ≡ false
differs w r t s h k = differs_by w r t s (nat_eq r t) refl h k

pub sides_assign : (w : Widths) (hs : Marks) (first : ℕ) (m : Memory) (ts us : List (Option Value)) (t : ℕ) (v : Value) → w t ≡ None → Clean hs v → Sides w hs first m ts us → Sides w hs first m (slice_set ts t (Some v)) (slice_set us t (Some (moved hs v)))
sides_assign w hs first m ts us t v p c x =
    record {
      long = length-set us t (Some (moved hs v)) ∙ (x.long ∙ sym (length-set ts t (Some v)));
      same = λ r q. set_alike (moved_if hs) ts us t r (Some v) x.long (x.same r q);
      clean = λ r y q e. get_set (IfClean hs) ts t r (Some v) y c (λ z g. x.clean r z q g) e;
      held = λ r s y q e.
          let other = differs w r t s q p in
          subst (IfHeld hs first m s y) (sym (get_set_other us t r (Some (moved hs v)) other))
          (x.held r s y q (sym (get_set_other ts t r (Some v) other) ∙ e));
      apart = λ a b s q z f g e h.
          x.apart a b s q z f g (sym (get_set_other ts t a (Some v) (differs w a t s f p)) ∙ e)
          (sym (get_set_other ts t b (Some v) (differs w b t q g p)) ∙ h);
    }

-- ---- a fresh block

get_before : {X : Type 0} (xs ys : List X) (b : ℕ) → b < length xs → slice_get (xs ++ ys) b ≡ slice_get xs b
get_before [] ys b h = absurd (omega arith)
get_before (z ∷ zs) ys zero h = refl
get_before (z ∷ zs) ys (suc b) h = get_before zs ys b (omega arith)

pub get_last : {X : Type 0} (xs : List X) (x : X) (n : ℕ) → n ≡ length xs → slice_get (xs ++ x ∷ []) n ≡ Some x
get_last [] x zero e = refl
get_last [] x (suc n) e = absurd (omega (arith, e))
get_last (z ∷ zs) x zero e = absurd (omega (arith, e))
get_last (z ∷ zs) x (suc n) e = get_last zs x n (omega (arith, e))

pub fresh_kept : (hs : Marks) (m : Memory) (n : ℕ) → length hs ≡ length m → KeptHidden hs m (fresh m n)
fresh_kept hs m n l b e = let in_marks = slice_get_within hs b true e in get_before m (Some (replicate n Blank) ∷ []) b (omega (arith, in_marks, l))

some_count : (s : Size) → 1 ≤ byte_count s
some_count Byte = omega arith
some_count Half = omega arith
some_count Word = omega arith
some_count Long = omega arith

blanks_unread : (k n : ℕ) → 1 ≤ k → (b : Bool) → nat_le (0 + k) (length (replicate n Blank)) ≡ b → option_and_then value_of (cond b (Some (take k (drop 0 (replicate n Blank)))) None) ≡ None
blanks_unread k n some false e = refl
blanks_unread zero n some true e = absurd (omega arith)
blanks_unread (suc k) zero some true e = absurd (let le : 0 + suc k ≤ 0 = grind (arith, nat_tests) in omega arith)
blanks_unread (suc k) (suc n) some true e = refl

pub blank_shows : (hs : Marks) (s : Size) (n : ℕ) (u : Option (Option Value)) → Shows hs s (replicate n Blank) u
blank_shows hs s n u = inl (blanks_unread (byte_count s) n (some_count s) (nat_le (0 + byte_count s) (length (replicate n Blank))) refl)

-- what a promoted temporary pointed to before is an older block
older : (w : Widths) (hs : Marks) (first : ℕ) (m : Memory) (ts us : List (Option Value)) → length hs ≡ length m → Sides w hs first m ts us → (r : ℕ) (s : Size) → w r ≡ Some s → slice_get ts r ≡ Some (Some (Pointer (length m) 0)) → ⊥
older w hs first m ts us l x r s q e =
    let h = x.held r s (Some (Pointer (length m) 0)) q e in
    let within = slice_get_within hs h.block true h.hidden in
    let is : Pointer (length m) 0 ≡ Pointer h.block 0 = h.is in
    let same : length m ≡ h.block = cc in
    omega (arith, within, same, l)

bool_cases : (b : Bool) → (b ≡ true) ⊎ (b ≡ false)
bool_cases true = inl refl
bool_cases false = inr refl

number_cases : (a b : ℕ) → (nat_eq a b ≡ true) ⊎ (nat_eq a b ≡ false)
number_cases a b = bool_cases (nat_eq a b)

get_set_new : {X : Type 0} (xs : List X) (i j : ℕ) (x y : X) → nat_eq j i ≡ true → slice_get (slice_set xs i x) j ≡ Some y → (x ≡ y) × (j < length xs)
get_set_new [] i j x y t e = absurd (let no : ⊥ = cc in no)
get_set_new (z ∷ zs) zero zero x y t e = (cc, omega arith)
get_set_new (z ∷ zs) zero (suc j) x y t e = absurd (let same : suc j ≡ zero = eqb-true (suc j) zero t in omega arith)
get_set_new (z ∷ zs) (suc i) zero x y t e = absurd (let same : zero ≡ suc i = eqb-true zero (suc i) t in omega arith)
get_set_new (z ∷ zs) (suc i) (suc j) x y t e =
    let r = get_set_new zs i j x y (let f : nat_eq j i ≡ true = grind (arith, nat_tests) in f) e in let lt = r.1 in (r.0, omega arith)

flipped_by : (w : Widths) (r t : ℕ) (s : Size) (b : Bool) → nat_eq r t ≡ b → w r ≡ None → w t ≡ Some s → b ≡ false
flipped_by w r t s false e h k = refl
flipped_by w r t s true e h k = let same : w r ≡ w t = ap w (eqb-true r t e) in absurd (let no : ⊥ = cc in no)

flipped : (w : Widths) (r t : ℕ) (s : Size) → w r ≡ None → w t ≡ Some s → nat_eq r t ≡ false
flipped w r t s h k = flipped_by w r t s (nat_eq r t) refl h k

held_alloc : (w : Widths) (hs : Marks) (first : ℕ) (m : Memory) (ts us : List (Option Value)) (u : Value) (t n : ℕ) (s q : Size) → length hs ≡ length m → first ≤ length m → Sides w (hs ++ true ∷ []) first (fresh m n) ts us → (r : ℕ) (z : Option Value) → w t ≡ Some s → w r ≡ Some q → slice_get (slice_set ts t (Some (Pointer (length m) 0))) r ≡ Some z → (nat_eq r t ≡ true) ⊎ (nat_eq r t ≡ false) → IfHeld (hs ++ true ∷ []) first (fresh m n) q z (slice_get (slice_set us t (Some u)) r)
held_alloc w hs first m ts us u t n s q l low y r z p f e (inl same) =
    let is = (get_set_new ts t r (Some (Pointer (length m) 0)) z same e).0 in
    subst (λ o. IfHeld (hs ++ true ∷ []) first (fresh m n) q o (slice_get (slice_set us t (Some u)) r)) is
    (record {
      block = length m;
      is = refl;
      new = low;
      hidden = get_last hs true (length m) (sym l);
      shows = λ cells g.
          let made : slice_get (fresh m n) (length m) ≡ Some (Some (replicate n Blank)) = get_last m (Some (replicate n Blank)) (length m) refl in
          let those : replicate n Blank ≡ cells = cc in
          subst (λ cs. Shows (hs ++ true ∷ []) q cs (slice_get (slice_set us t (Some u)) r)) those
          (blank_shows (hs ++ true ∷ []) q n (slice_get (slice_set us t (Some u)) r));
    })
held_alloc w hs first m ts us u t n s q l low y r z p f e (inr other) =
    subst (IfHeld (hs ++ true ∷ []) first (fresh m n) q z) (sym (get_set_other us t r (Some u) other))
    (y.held r q z f (sym (get_set_other ts t r (Some (Pointer (length m) 0)) other) ∙ e))

apart_alloc : (w : Widths) (ts : List (Option Value)) (t : ℕ) (v : Value) → ((t r : ℕ) (s q : Size) (v : Value) → w t ≡ Some s → w r ≡ Some q → slice_get ts t ≡ Some (Some v) → slice_get ts r ≡ Some (Some v) → t ≡ r) → ((r : ℕ) (q : Size) → w r ≡ Some q → slice_get ts r ≡ Some (Some v) → ⊥) → (a b : ℕ) (q k : Size) (z : Value) → w a ≡ Some q → w b ≡ Some k → slice_get (slice_set ts t (Some v)) a ≡ Some (Some z) → slice_get (slice_set ts t (Some v)) b ≡ Some (Some z) → (nat_eq a t ≡ true) ⊎ (nat_eq a t ≡ false) → (nat_eq b t ≡ true) ⊎ (nat_eq b t ≡ false) → a ≡ b
apart_alloc w ts t v old none a b q k z f g e h (inl one) (inl two) = eqb-true a t one ∙ sym (eqb-true b t two)
apart_alloc w ts t v old none a b q k z f g e h (inl one) (inr two) =
    let is = (get_set_new ts t a (Some v) (Some z) one e).0 in
    absurd (none b k g (sym (get_set_other ts t b (Some v) two) ∙ (h ∙ ap (λ o. Some o) (sym is))))
apart_alloc w ts t v old none a b q k z f g e h (inr one) (inl two) =
    let is = (get_set_new ts t b (Some v) (Some z) two h).0 in
    absurd (none a q f (sym (get_set_other ts t a (Some v) one) ∙ (e ∙ ap (λ o. Some o) (sym is))))
apart_alloc w ts t v old none a b q k z f g e h (inr one) (inr two) =
    old a b q k z f g (sym (get_set_other ts t a (Some v) one) ∙ e) (sym (get_set_other ts t b (Some v) two) ∙ h)

pub sides_alloc : (w : Widths) (hs : Marks) (first : ℕ) (m : Memory) (ts us : List (Option Value)) (u : Value) (t n : ℕ) (s : Size) → w t ≡ Some s → length hs ≡ length m → first ≤ length m → Sides w hs first m ts us → Sides w (hs ++ true ∷ []) first (fresh m n) (slice_set ts t (Some (Pointer (length m) 0))) (slice_set us t (Some u))
sides_alloc w hs first m ts us u t n s p l low x =
    let ks = hs ++ true ∷ [] in
    let v = Pointer (length m) 0 in
    let y = sides_later w hs ks first m (fresh m n) ts us (marks_grow hs true) (fresh_kept hs m n l) x in
    let none : (r : ℕ) (q : Size) → w r ≡ Some q → slice_get ts r ≡ Some (Some v) → ⊥ = older w hs first m ts us l x in
    record {
      long = length-set us t (Some u) ∙ (x.long ∙ sym (length-set ts t (Some v)));
      same = λ r q.
          let other = flipped w r t s q p in
          get_set_other us t r (Some u) other ∙ (y.same r q ∙ ap (option_map (moved_if ks)) (sym (get_set_other ts t r (Some v) other)));
      clean = λ r z q e. y.clean r z q (sym (get_set_other ts t r (Some v) (flipped w r t s q p)) ∙ e);
      held = λ r q z f e. held_alloc w hs first m ts us u t n s q l low y r z p f e (number_cases r t);
      apart = λ a b q k z f g e h. apart_alloc w ts t v x.apart none a b q k z f g e h (number_cases a t) (number_cases b t);
    }

-- ---- a store

-- block b, to which promoted temporary p points, has new cells, and on the other side p a new value
held_store : (w : Widths) (hs : Marks) (first : ℕ) (m : Memory) (ts us : List (Option Value)) (p b : ℕ) (s : Size) (cells : List Cell) (x : Value) → w p ≡ Some s → slice_get ts p ≡ Some (Some (Pointer b 0)) → Shows hs s cells (Some (Some x)) → Sides w hs first m ts us → (r : ℕ) (q : Size) (y : Option Value) → w r ≡ Some q → slice_get ts r ≡ Some y → (nat_eq r p ≡ true) ⊎ (nat_eq r p ≡ false) → IfHeld hs first m q y (slice_get us r) → IfHeld hs first (slice_set m b (Some cells)) q y (slice_get (slice_set us p (Some x)) r)
held_store w hs first m ts us p b s cells x f at shows sides r q None g e which h = tt
held_store w hs first m ts us p b s cells x f at shows sides r q (Some v) g e (inl one) h =
    let is : r ≡ p = eqb-true r p one in
    let here : slice_get ts r ≡ Some (Some (Pointer b 0)) = ap (slice_get ts) is ∙ at in
    let v_is : v ≡ Pointer b 0 = cc in
    let block_is : Pointer h.block 0 ≡ Pointer b 0 = sym h.is ∙ v_is in
    let width : s ≡ q = let both : w r ≡ w p = ap w is in cc in
    let low : p < length us = let within = slice_get_within ts p (Some (Pointer b 0)) at in let long = sides.long in omega (arith, within, long) in
    let got : slice_get (slice_set us p (Some x)) r ≡ Some (Some x) = ap (slice_get (slice_set us p (Some x))) is ∙ get_set_same us p (Some x) low in
    let to : h.block ≡ b = cc in
    record {
      block = h.block;
      is = h.is;
      new = h.new;
      hidden = h.hidden;
      shows = λ cs found.
          let there : slice_get (slice_set m b (Some cells)) b ≡ Some (Some cs) = ap (slice_get (slice_set m b (Some cells))) (sym to) ∙ found in
          let those : cells ≡ cs = let r = get_set_new m b b (Some cells) (Some cs) (equals_itself b) there in let z = r.0 in cc in
          subst (λ u. Shows hs q cs u) (sym got) (subst (λ k. Shows hs k cs (Some (Some x))) width (subst (λ c. Shows hs s c (Some (Some x))) those shows));
    }
held_store w hs first m ts us p b s cells x f at shows sides r q (Some v) g e (inr other) h =
    let apart : nat_eq h.block b ≡ false = blocks_apart (nat_eq h.block b) refl in
    let got : slice_get (slice_set us p (Some x)) r ≡ slice_get us r = get_set_other us p r (Some x) other in
    record {
      block = h.block;
      is = h.is;
      new = h.new;
      hidden = h.hidden;
      shows = λ cs found.
          subst (λ u. Shows hs q cs u) (sym got) (h.shows cs (sym (get_set_other m b h.block (Some cells) apart) ∙ found));
    }
  where
    blocks_apart : (t : Bool) → nat_eq h.block b ≡ t → nat_eq h.block b ≡ false
    blocks_apart false k = k
    blocks_apart true k =
        let one : h.block ≡ b = eqb-true h.block b k in
        let v_is : v ≡ Pointer b 0 = h.is ∙ ap (λ n. Pointer n 0) one in
        let here : slice_get ts r ≡ Some (Some (Pointer b 0)) = e ∙ ap (λ z. Some (Some z)) v_is in
        absurd (other_number r p other (sides.apart r p q s (Pointer b 0) g f here at))

pub sides_store : (w : Widths) (hs : Marks) (first : ℕ) (m : Memory) (ts us : List (Option Value)) (p b : ℕ) (s : Size) (cells : List Cell) (x : Value) → w p ≡ Some s → slice_get ts p ≡ Some (Some (Pointer b 0)) → Shows hs s cells (Some (Some x)) → Sides w hs first m ts us → Sides w hs first (slice_set m b (Some cells)) ts (slice_set us p (Some x))
sides_store w hs first m ts us p b s cells x f at shows sides =
    record {
      long = length-set us p (Some x) ∙ sides.long;
      same = λ r k. get_set_other us p r (Some x) (flipped w r p s k f) ∙ sides.same r k;
      clean = sides.clean;
      held = λ r q y g e. held_store w hs first m ts us p b s cells x f at shows sides r q y g e (number_cases r p) (sides.held r q y g e);
      apart = sides.apart;
    }
