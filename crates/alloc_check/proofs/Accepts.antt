-- The checker's tests, taken together, are what makes a certificate accepted.
use Rattle.std.proofs.Common.{◌≡◌, ℕ, Bool, true, false, ◌&&◌, refl, sym, ◌∙◌, ap}
use Rattle.std.specs.List.{list_all}
use Rattle.std.proofs.lemmas.Bool.{and_parts}
use Rattle.vcode.specs.declared.place.Location.{Location}
use Rattle.vcode.specs.declared.code.Code.{Code}
use Rattle.vcode.specs.declared.function.VFunc.{VFunc}
use Rattle.vcode.specs.Prelude.{is_paid, keeps_places, is_below, is_place, are_near, are_distinct, located}
use Rattle.certificates.specs.declared.certificate.Certificate.{Certificate}
use Rattle.alloc_check.specs.Prelude.{placed_by, is_sound, are_apart, exists_in, equalities_exist, names_once, has_lengths, is_whole, is_placed, is_accepted, sound_in}
use Rattle.alloc_check.proofs.Certifies.{from_true}
use Rattle.alloc_check.proofs.Walks.{sound_is}
use Rattle.il_ast.proofs.Truth.{and_assoc}

-- what a placed code is
pub record Parts (slots : ℕ) (l : Code Location) : Type 0 where
  pub places : keeps_places (is_place slots) l ≡ true
  pub near : are_near l.params ≡ true
  pub apart : are_distinct located l.params ≡ true
  pub paid : list_all is_paid l.blocks ≡ true

pub parts : (slots : ℕ) (l : Code Location) → is_placed slots l ≡ true → Parts slots l
parts slots l h =
    let first = and_parts (keeps_places (is_place slots) l) (are_near l.params && (are_distinct located l.params && list_all is_paid l.blocks)) h in
    let second = and_parts (are_near l.params) (are_distinct located l.params && list_all is_paid l.blocks) first.1 in
    let third = and_parts (are_distinct located l.params) (list_all is_paid l.blocks) second.1 in
    record { places = first.0; near = second.0; apart = third.0; paid = third.1 }

-- the tests before code is made
abbrev pub right_in : VFunc → Certificate → Bool
right_in v c = is_whole v c && sound_in v.registers v.code c

joined : (a w r d : Bool) → (a ≡ true → d ≡ true → w ≡ r) → ((a && w) && d) ≡ (a && (r && d))
joined false w r d e = refl
joined true w r true e = ap (λ b. b && true) (e refl refl)
joined true w r false e = never w ∙ sym (never r)
  where
    never : (b : Bool) → (b && false) ≡ false
    never true = refl
    never false = refl

-- what is known where blocks begin, of every one and of each, exists
pub starts_there : (v : VFunc) (c : Certificate) → is_whole v c ≡ true → (list_all (exists_in v.registers) c.everywhere ≡ true) × (equalities_exist v.registers c.starts ≡ true)
starts_there v c h =
    let places : Bool = equalities_exist v.registers c.places && list_all names_once c.places in
    let rest = and_parts (has_lengths v.code c) (list_all (exists_in v.registers) c.everywhere && (equalities_exist v.registers c.starts && places)) h in
    let every = and_parts (list_all (exists_in v.registers) c.everywhere) (equalities_exist v.registers c.starts && places) rest.1 in
    (every.0, (and_parts (equalities_exist v.registers c.starts) places every.1).0)

pub tests_accept : (v : VFunc) (c : Certificate) → (right_in v c && is_placed v.registers (placed_by v.code c)) ≡ is_accepted v c
tests_accept v c =
    joined (is_whole v c) (sound_in v.registers v.code c) (are_apart c.everywhere && is_sound v.code c) (is_placed v.registers (placed_by v.code c))
    (λ whole placed. sound_is v.registers v.code c (from_true (keeps_places (is_below v.registers) v.code) v.known) (starts_there v c whole).0 (starts_there v c whole).1 (parts v.registers (placed_by v.code c) placed).places)
    ∙ ap (λ b. is_whole v c && b) (and_assoc (are_apart c.everywhere) (is_sound v.code c) (is_placed v.registers (placed_by v.code c)))

pub refused : (v : VFunc) (c : Certificate) → right_in v c ≡ false → is_accepted v c ≡ false
refused v c h = sym (tests_accept v c) ∙ ap (λ b. b && is_placed v.registers (placed_by v.code c)) h

pub accepted : (v : VFunc) (c : Certificate) → right_in v c ≡ true → is_placed v.registers (placed_by v.code c) ≡ true → is_accepted v c ≡ true
accepted v c h d = sym (tests_accept v c) ∙ ap (λ b. b && is_placed v.registers (placed_by v.code c)) h ∙ d

-- that it is whole, and that it is sound and placed
pub accepted_parts : (v : VFunc) (c : Certificate) → is_accepted v c ≡ true → (is_whole v c ≡ true) × ((is_sound v.code c && is_placed v.registers (placed_by v.code c)) ≡ true)
accepted_parts v c h =
    let first = and_parts (is_whole v c) (are_apart c.everywhere && (is_sound v.code c && is_placed v.registers (placed_by v.code c))) h in
    (first.0, (and_parts (are_apart c.everywhere) (is_sound v.code c && is_placed v.registers (placed_by v.code c)) first.1).1)

pub accepted_sound : (v : VFunc) (c : Certificate) → is_accepted v c ≡ true → is_sound v.code c ≡ true
accepted_sound v c h =
    (and_parts (is_sound v.code c) (is_placed v.registers (placed_by v.code c)) (accepted_parts v c h).1).0

pub unplaced : (v : VFunc) (c : Certificate) → is_placed v.registers (placed_by v.code c) ≡ false → is_accepted v c ≡ false
unplaced v c h = ap (λ b. is_whole v c && (are_apart c.everywhere && (is_sound v.code c && b))) h ∙ never (is_whole v c) (are_apart c.everywhere) (is_sound v.code c)
  where
    never : (a b d : Bool) → (a && (b && (d && false))) ≡ false
    never false b d = refl
    never true false d = refl
    never true true false = refl
    never true true true = refl
