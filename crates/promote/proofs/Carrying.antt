-- A temporary carries what memory carries: a value put there by a copy or an extension, and taken as a load takes it.
use Rattle.std.proofs.Common.{◌≡◌, ℕ, zero, suc, ◌+◌, ◌*◌, ◌/◌, ◌%◌, ◌^◌, ◌<◌, Bool, true, false, ◌&&◌, nat_eq, cond, List, [], ◌∷◌, map, refl, sym, ◌∙◌, ap, subst, arith, lit<, mod-lt, Option, Some, None, option_map, option_and_then}
use Rattle.std.specs.Int.{w8, w16, w32, w64, cast_signed, cast_unsigned}
use Rattle.std.proofs.Math.Nat.{pow-suc}
use Rattle.std.proofs.lemmas.Int.{ints, of_z-to_z}
use lib.Arith.{mod-mul}
use Rattle.il_ast.specs.declared.operation.Class.{Class}
use Rattle.il_ast.specs.declared.operation.Class.TheVariants.{W, L}
use Rattle.il_ast.specs.declared.operation.Size.{Size}
use Rattle.il_ast.specs.declared.operation.Size.TheVariants.{Byte, Half, Word, Long}
use Rattle.il_ast.specs.declared.operation.Extension.{Extension}
use Rattle.il_ast.specs.declared.operation.Extension.TheVariants.{SignedWord, UnsignedWord, SignedHalf, UnsignedHalf, SignedByte, UnsignedByte}
use Rattle.il_ast.specs.declared.operation.UnaryOp.{UnaryOp}
use Rattle.il_ast.specs.declared.operation.UnaryOp.TheVariants.{LoadLong, Load}
use Rattle.il_ast.specs.declared.value.Value.{Value}
use Rattle.il_ast.specs.declared.value.Value.TheVariants.{Integer, Pointer, Function}
use Rattle.il_ast.specs.declared.value.Cell.{Cell}
use Rattle.il_ast.specs.declared.value.Cell.TheVariants.{Plain}
use Rattle.il_ast.specs.Prelude.{bytes_of, number_of, byte_count, in_place, same_value, Memory, parts, cells_for, plain_bytes, are_parts_from, value_of, operand_class, extended, extension_bytes, widened, operate_one}
use Rattle.promote.specs.Uses.{extension_size, storing, extending, loading}
use Rattle.promote.proofs.Hiding.{Marks, moved, moved_if, Clean, IfClean}
use Rattle.promote.proofs.Ranges.{extended_fits}
use Rattle.il_ast.proofs.Truth.{equals_itself}
use Rattle.il_ast.proofs.Alike.{callee_itself}

-- ---- bytes

some_power : (k : ℕ) → 0 < 256 ^ k
some_power zero = lit< tt
some_power (suc k) = let h = some_power k in subst (λ p. 0 < p) (sym (pow-suc 256 k)) (omega arith)

parted : (n k : ℕ) → n % 256 ^ suc k ≡ n / 256 % 256 ^ k * 256 + n % 256
parted n k = ap (λ p. n % p) (pow-suc 256 k) ∙ mod-mul n {m = 256 ^ k} {c = 256} (some_power k) (lit< tt)

number_of_bytes : (k n : ℕ) → number_of (bytes_of k n) ≡ n % 256 ^ k
number_of_bytes zero n = omega arith
number_of_bytes (suc k) n =
    let one = number_of_bytes k (n / 256) in
    let two = parted n k in
    omega (arith, one, two)

digits_rest : (q r : ℕ) → r < 256 → (q * 256 + r) / 256 ≡ q
digits_rest q r h = omega arith

digits_last : (q r : ℕ) → r < 256 → (q * 256 + r) % 256 ≡ r
digits_last q r h = omega arith

bytes_mod : (k n : ℕ) → bytes_of k (n % 256 ^ k) ≡ bytes_of k n
bytes_mod zero n = refl
bytes_mod (suc k) n =
    ap (bytes_of (suc k)) (parted n k)
    ∙ (ap (λ b. b ∷ bytes_of k ((n / 256 % 256 ^ k * 256 + n % 256) / 256)) (digits_last (n / 256 % 256 ^ k) (n % 256) (mod-lt n (lit< tt)))
    ∙ (ap (λ q. n % 256 ∷ bytes_of k q) (digits_rest (n / 256 % 256 ^ k) (n % 256) (mod-lt n (lit< tt)))
    ∙ ap (λ bs. n % 256 ∷ bs) (bytes_mod k (n / 256))))

bytes_same : (k a b : ℕ) → a % 256 ^ k ≡ b % 256 ^ k → bytes_of k a ≡ bytes_of k b
bytes_same k a b e = sym (bytes_mod k a) ∙ (ap (bytes_of k) e ∙ bytes_mod k b)

plain_back : (bs : List ℕ) → plain_bytes (map Plain bs) ≡ Some bs
plain_back [] = refl
plain_back (b ∷ bs) = ap (option_map (λ cs. b ∷ cs)) (plain_back bs)

value_back : (bs : List ℕ) → value_of (map Plain bs) ≡ Some (Integer (number_of bs))
value_back [] = refl
value_back (b ∷ bs) = ap (λ o. option_map Integer (option_map number_of o)) (plain_back (b ∷ bs))

integer_back : (k n : ℕ) → value_of (map Plain (bytes_of k n)) ≡ Some (Integer (n % 256 ^ k))
integer_back k n = value_back (bytes_of k n) ∙ ap (λ x. Some (Integer x)) (number_of_bytes k n)

-- ---- pointers and functions

value_same : (v : Value) → same_value v v ≡ true
value_same (Integer n) = equals_itself n
value_same (Pointer b o) = ap (λ x. x && nat_eq o o) (equals_itself b) ∙ equals_itself o
value_same (Function f) = callee_itself f

parts_right : (v : Value) → are_parts_from 0 v (parts v) ≡ true
parts_right v =
    ap (λ x. x && (x && (x && (x && (x && (x && (x && (x && true)))))))) (value_same v)

parts_back : (v : Value) → value_of (parts v) ≡ Some v
parts_back v = ap (λ b. cond b (Some v) None) (parts_right v)

-- eight cells give the value back
pub whole_back : (hs : Marks) (v : Value) (new : List Cell) → Clean hs v → cells_for 8 v ≡ Some new → value_of new ≡ Some v
whole_back hs (Integer n) new h e =
    let same : map Plain (bytes_of 8 n) ≡ new = cc in
    let fits : n % 256 ^ 8 ≡ n = omega (arith, h) in
    ap value_of (sym same) ∙ (integer_back 8 n ∙ ap (λ x. Some (Integer x)) fits)
whole_back hs (Pointer b o) new h e = let same : parts (Pointer b o) ≡ new = cc in ap value_of (sym same) ∙ parts_back (Pointer b o)
whole_back hs (Function f) new h e = let same : parts (Function f) ≡ new = cc in ap value_of (sym same) ∙ parts_back (Function f)

-- ---- what a store puts

-- the value that the temporary gets, but for the numbers of blocks; memory would get the same cells of it
pub record Put (hs : Marks) (m : Memory) (size : Size) (v : Value) (new : List Cell) : Type 0 where
  pub value : Value
  pub is : operate_one m (storing size) L (moved hs v) ≡ Some (moved hs value)
  pub clean : Clean hs value
  pub cells : cells_for (byte_count size) value ≡ Some new

put_number : (hs : Marks) (m : Memory) (size : Size) (e : Extension) (n : ℕ) (new : List Cell) → operate_one m (storing size) L (Integer n) ≡ Some (Integer (extended e L n)) → extended e L n % 256 ^ byte_count size ≡ n % 256 ^ byte_count size → cells_for (byte_count size) (Integer n) ≡ Some new → Put hs m size (Integer n) new
put_number hs m size e n new is same cells =
    record {
      value = Integer (extended e L n);
      is = is;
      clean = extended_fits e L n;
      cells = ap (λ bs. Some (map Plain bs)) (bytes_same (byte_count size) (extended e L n) n same) ∙ cells;
    }

low_byte : (n : ℕ) → n % 2 ^ 8 % 256 ≡ n % 256
low_byte n = omega arith

low_half : (n : ℕ) → n % 2 ^ 16 % 65536 ≡ n % 65536
low_half n = omega arith

word_low : (k : ℕ) → k < 2 ^ 32 → cast_unsigned w64 (cast_signed w32 k) % 2 ^ 32 ≡ k
word_low k h = grind (arith, ints)

low_word : (n : ℕ) → cast_unsigned w64 (cast_signed w32 (n % 2 ^ 32)) % 4294967296 ≡ n % 4294967296
low_word n = word_low (n % 2 ^ 32) (mod-lt n (lit< tt))

pub put_there : (hs : Marks) (m : Memory) (size : Size) (v : Value) (new : List Cell) → Clean hs v → cells_for (byte_count size) v ≡ Some new → Put hs m size v new
unfolding operate_one
put_there hs m Byte (Integer n) new h e = put_number hs m Byte UnsignedByte n new refl (low_byte n) e
put_there hs m Byte (Pointer b o) new h e = absurd (let no : ⊥ = cc in no)
put_there hs m Byte (Function f) new h e = absurd (let no : ⊥ = cc in no)
put_there hs m Half (Integer n) new h e = put_number hs m Half UnsignedHalf n new refl (low_half n) e
put_there hs m Half (Pointer b o) new h e = absurd (let no : ⊥ = cc in no)
put_there hs m Half (Function f) new h e = absurd (let no : ⊥ = cc in no)
put_there hs m Word (Integer n) new h e = put_number hs m Word SignedWord n new refl (low_word n) e
put_there hs m Word (Pointer b o) new h e = absurd (let no : ⊥ = cc in no)
put_there hs m Word (Function f) new h e = absurd (let no : ⊥ = cc in no)
put_there hs m Long v new h e = record { value = v; is = refl; clean = h; cells = e }

-- ---- what a load takes

-- taken from the temporary as the load takes it from these cells, but for the numbers of blocks
abbrev pub Takes : Marks → Memory → UnaryOp → Class → Value → Option Value → Type 0
Takes hs m op c v o = (option_and_then (operate_one m (loading op c) c) (in_place (operand_class (loading op c) c) (moved hs v)) ≡ moved_if hs o) × IfClean hs o

pub take_long : (hs : Marks) (m : Memory) (v : Value) (new : List Cell) → Clean hs v → cells_for 8 v ≡ Some new → Takes hs m LoadLong L v (value_of new)
unfolding operate_one
take_long hs m v new h e = let back = whole_back hs v new h e in (sym (ap (moved_if hs) back), subst (IfClean hs) (sym back) h)

-- an integer that cells of this extension's bytes hold
from_cells : (hs : Marks) (m : Memory) (e : Extension) (c : Class) (n : ℕ) (new : List Cell) → cells_for (extension_bytes e) (Integer n) ≡ Some new → option_and_then (operate_one m (extending e c) c) (in_place (operand_class (extending e c) c) (Integer n)) ≡ Some (Integer (extended e c (n % 256 ^ extension_bytes e))) → Takes hs m (Load e) c (Integer n) (option_and_then (widened e c) (value_of new))
from_cells hs m e c n new made is =
    let same : map Plain (bytes_of (extension_bytes e) n) ≡ new = cc in
    let back : option_and_then (widened e c) (value_of new) ≡ Some (Integer (extended e c (n % 256 ^ extension_bytes e))) =
    ap (λ cs. option_and_then (widened e c) (value_of cs)) (sym same) ∙ ap (option_and_then (widened e c)) (integer_back (extension_bytes e) n) in
    (is ∙ sym (ap (moved_if hs) back), subst (IfClean hs) (sym back) (extended_fits e c (n % 256 ^ extension_bytes e)))

word_again : (n : ℕ) → n % 2 ^ 32 ≡ cast_unsigned w32 (cast_signed w32 (n % 4294967296 % 2 ^ 32))
word_again n =
    let inner : n % 4294967296 % 2 ^ 32 ≡ n % 2 ^ 32 = omega arith in
    sym (ap (λ k. cast_unsigned w32 (cast_signed w32 k)) inner ∙ of_z-to_z w32 (n % 2 ^ 32) (mod-lt n (lit< tt)))

inner_word : (n : ℕ) → n % 2 ^ 32 % 2 ^ 32 ≡ n % 4294967296 % 2 ^ 32
inner_word n = omega arith

inner_half : (n : ℕ) → n % 2 ^ 32 % 2 ^ 16 ≡ n % 65536 % 2 ^ 16
inner_half n = omega arith

inner_byte : (n : ℕ) → n % 2 ^ 32 % 2 ^ 8 ≡ n % 256 % 2 ^ 8
inner_byte n = omega arith

unsigned_word : (n : ℕ) → n % 2 ^ 32 ≡ n % 4294967296 % 2 ^ 32
unsigned_word n = omega arith

taken_number : (m : Memory) (e : Extension) (c : Class) (n : ℕ) → option_and_then (operate_one m (extending e c) c) (in_place (operand_class (extending e c) c) (Integer n)) ≡ Some (Integer (extended e c (n % 256 ^ extension_bytes e)))
unfolding operate_one
taken_number m SignedWord W n = ap (λ k. Some (Integer k)) (word_again n)
taken_number m UnsignedWord W n = ap (λ k. Some (Integer k)) (unsigned_word n)
taken_number m SignedWord L n = ap (λ k. Some (Integer (cast_unsigned w64 (cast_signed w32 k)))) (inner_word n)
taken_number m UnsignedWord L n = ap (λ k. Some (Integer k)) (inner_word n)
taken_number m SignedHalf W n = ap (λ k. Some (Integer (cast_unsigned w32 (cast_signed w16 k)))) (inner_half n)
taken_number m SignedHalf L n = ap (λ k. Some (Integer (cast_unsigned w64 (cast_signed w16 k)))) (inner_half n)
taken_number m UnsignedHalf c n = ap (λ k. Some (Integer k)) (inner_half n)
taken_number m SignedByte W n = ap (λ k. Some (Integer (cast_unsigned w32 (cast_signed w8 k)))) (inner_byte n)
taken_number m SignedByte L n = ap (λ k. Some (Integer (cast_unsigned w64 (cast_signed w8 k)))) (inner_byte n)
taken_number m UnsignedByte c n = ap (λ k. Some (Integer k)) (inner_byte n)

narrow : (e : Extension) → nat_eq (extension_bytes e) 8 ≡ false
narrow SignedWord = refl
narrow UnsignedWord = refl
narrow SignedHalf = refl
narrow UnsignedHalf = refl
narrow SignedByte = refl
narrow UnsignedByte = refl

not_made : (b : Bool) (cells new : List Cell) → b ≡ false → cond b (Some cells) None ≡ Some new → ⊥
not_made false cells new h e = cc
not_made true cells new h e = cc

pub take_short : (hs : Marks) (m : Memory) (e : Extension) (c : Class) (v : Value) (new : List Cell) → cells_for (extension_bytes e) v ≡ Some new → Takes hs m (Load e) c v (option_and_then (widened e c) (value_of new))
take_short hs m e c (Integer n) new made = from_cells hs m e c n new made (taken_number m e c n)
take_short hs m e c (Pointer b o) new made = absurd (not_made (nat_eq (extension_bytes e) 8) (parts (Pointer b o)) new (narrow e) made)
take_short hs m e c (Function f) new made = absurd (not_made (nat_eq (extension_bytes e) 8) (parts (Function f)) new (narrow e) made)

pub extension_count : (e : Extension) → byte_count (extension_size e) ≡ extension_bytes e
extension_count SignedWord = refl
extension_count UnsignedWord = refl
extension_count SignedHalf = refl
extension_count UnsignedHalf = refl
extension_count SignedByte = refl
extension_count UnsignedByte = refl
