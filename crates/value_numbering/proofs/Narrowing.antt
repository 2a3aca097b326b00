-- A store of a register whose low bits are another's writes what a store of that one does.
use Rattle.std.proofs.Common.{◌≡◌, ℕ, ◌*◌, ◌/◌, ◌%◌, ◌^◌, Bool, true, false, ◌&&◌, nat_eq, if◌then◌else◌, List, [], ◌∷◌, Option, Some, None, refl, sym, ◌∙◌, ap, subst, arith, bit_and, option_and_then, eqb-true}
use Rattle.std.specs.Int.{w64, cast_signed, cast_unsigned, int_shr}
use Rattle.std.proofs.lemmas.Nat.{and_mask}
use Rattle.std.proofs.lemmas.Int.{ints}
use Rattle.il_ast.specs.declared.value.Value.{Value}
use Rattle.il_ast.specs.declared.value.Value.TheVariants.{Integer, Pointer, Function}
use Rattle.il_ast.specs.declared.value.Cell.{Cell}
use Rattle.il_ast.specs.declared.value.Cell.TheVariants.{Plain}
use Rattle.il_ast.specs.declared.operation.Class.{Class}
use Rattle.il_ast.specs.declared.operation.Class.TheVariants.{W}
use Rattle.il_ast.specs.declared.operation.Size.{Size}
use Rattle.il_ast.specs.declared.operation.Size.TheVariants.{Byte, Half, Word, Long}
use Rattle.il_ast.specs.Prelude.{in_place, byte_count, Memory, store, cells_for, write_at, stored_class}
use Rattle.rv_isa.specs.declared.instruction.RegOp.{RegOp}
use Rattle.rv_isa.specs.declared.instruction.RegOp.TheVariants.{Add, Sub, Sll, Slt, Sltu, Xor, Srl, Sra, Or, And, Mul, Mulh, Mulhsu, Mulhu, Div, Divu, Rem, Remu}
use Rattle.vcode.specs.declared.place.Operand.TheVariants.{At, Number, Name}
use Rattle.vcode.specs.declared.place.Address.{Address}
use Rattle.vcode.specs.declared.line.Operation.TheVariants.{Reg, RegW, Compare}
use Rattle.vcode.specs.declared.line.Line.TheVariants.{Store}
use Rattle.vcode.specs.Prelude.{operate, Values, operated, address_of, Gives, left, act}
use Rattle.value_numbering.specs.declared.fact.Expression.{Expression}
use Rattle.value_numbering.specs.declared.fact.Expression.TheVariants.{Same, Operated, Extended, Loaded, Linear, Growing}
use Rattle.value_numbering.specs.Known.{is_back, first_of}
use Rattle.value_numbering.proofs.Meant.{gives}
use Rattle.value_numbering.specs.Reused.{extended_from, masked_from, low_of}
use Rattle.value_numbering.proofs.Extending.{gives_one}

-- ---- numbers

-- one more than the largest number that a store of this size writes, if it is narrow
abbrev span : Size → ℕ
span Byte = 2 ^ 8
span Half = 2 ^ 16
span Word = 2 ^ 32
span Long = 2 ^ 32

abbrev bits : Size → ℕ
bits Byte = 56
bits Half = 48
bits Word = 32
bits Long = 32

masked : (n : ℕ) → bit_and n 255 % 2 ^ 32 % 2 ^ 8 ≡ n % 2 ^ 32 % 2 ^ 8
masked n = let e : bit_and n 255 ≡ n % 2 ^ 8 = and_mask n 8 in omega (arith, e)

zeros_56 : (n : ℕ) → n * 2 ^ 56 % 2 ^ 64 / 2 ^ 56 % 2 ^ 32 % 2 ^ 8 ≡ n % 2 ^ 32 % 2 ^ 8
zeros_56 n = omega arith

zeros_48 : (n : ℕ) → n * 2 ^ 48 % 2 ^ 64 / 2 ^ 48 % 2 ^ 32 % 2 ^ 16 ≡ n % 2 ^ 32 % 2 ^ 16
zeros_48 n = omega arith

zeros_32 : (n : ℕ) → n * 2 ^ 32 % 2 ^ 64 / 2 ^ 32 % 2 ^ 32 % 2 ^ 32 ≡ n % 2 ^ 32 % 2 ^ 32
zeros_32 n = omega arith

signs_56 : (n : ℕ) → cast_unsigned w64 (int_shr (cast_signed w64 (n * 2 ^ 56 % 2 ^ 64)) 56) % 2 ^ 32 % 2 ^ 8 ≡ n % 2 ^ 32 % 2 ^ 8
signs_56 n = grind (arith, ints)

signs_48 : (n : ℕ) → cast_unsigned w64 (int_shr (cast_signed w64 (n * 2 ^ 48 % 2 ^ 64)) 48) % 2 ^ 32 % 2 ^ 16 ≡ n % 2 ^ 32 % 2 ^ 16
signs_48 n = grind (arith, ints)

signs_32 : (n : ℕ) → cast_unsigned w64 (int_shr (cast_signed w64 (n * 2 ^ 32 % 2 ^ 64)) 32) % 2 ^ 32 % 2 ^ 32 ≡ n % 2 ^ 32 % 2 ^ 32
signs_32 n = grind (arith, ints)

-- ---- values with the same low bits

-- both are numbers with the same low bits, or the second is not known
abbrev SameLow : ℕ → Option Value → Option Value → Type 0
SameLow span (Some (Integer n)) o = (k : ℕ) × ((o ≡ Some (Integer k)) × (k % 2 ^ 32 % span ≡ n % 2 ^ 32 % span))
SameLow span (Some (Pointer b k)) o = o ≡ None
SameLow span (Some (Function g)) o = o ≡ None
SameLow span None o = o ≡ None

masked_low : (m : Memory) (o : Option Value) → SameLow (2 ^ 8) o (operated m (Reg And) o (Some (Integer (255 % 2 ^ 64))))
unfolding operate
masked_low m (Some (Integer n)) = (bit_and n 255, (refl, masked n))
masked_low m (Some (Pointer b k)) = refl
masked_low m (Some (Function g)) = refl
masked_low m None = refl

abbrev twice : Memory → RegOp → (bits : ℕ) → Option Value → Option Value
twice m op bits o = operated m (Reg op) (operated m (Reg Sll) o (Some (Integer (bits % 2 ^ 64)))) (Some (Integer (bits % 2 ^ 64)))

extended_low : (m : Memory) (size : Size) (op : RegOp) → is_back op ≡ true → (o : Option Value) → SameLow (span size) o (twice m op (bits size) o)
unfolding operate
extended_low m Byte Srl h (Some (Integer n)) = (n * 2 ^ 56 % 2 ^ 64 / 2 ^ 56, (refl, zeros_56 n))
extended_low m Byte Srl h (Some (Pointer b k)) = refl
extended_low m Byte Srl h (Some (Function g)) = refl
extended_low m Byte Srl h None = refl
extended_low m Byte Sra h (Some (Integer n)) = (cast_unsigned w64 (int_shr (cast_signed w64 (n * 2 ^ 56 % 2 ^ 64)) 56), (refl, signs_56 n))
extended_low m Byte Sra h (Some (Pointer b k)) = refl
extended_low m Byte Sra h (Some (Function g)) = refl
extended_low m Byte Sra h None = refl
extended_low m Half Srl h (Some (Integer n)) = (n * 2 ^ 48 % 2 ^ 64 / 2 ^ 48, (refl, zeros_48 n))
extended_low m Half Srl h (Some (Pointer b k)) = refl
extended_low m Half Srl h (Some (Function g)) = refl
extended_low m Half Srl h None = refl
extended_low m Half Sra h (Some (Integer n)) = (cast_unsigned w64 (int_shr (cast_signed w64 (n * 2 ^ 48 % 2 ^ 64)) 48), (refl, signs_48 n))
extended_low m Half Sra h (Some (Pointer b k)) = refl
extended_low m Half Sra h (Some (Function g)) = refl
extended_low m Half Sra h None = refl
extended_low m Word Srl h (Some (Integer n)) = (n * 2 ^ 32 % 2 ^ 64 / 2 ^ 32, (refl, zeros_32 n))
extended_low m Word Srl h (Some (Pointer b k)) = refl
extended_low m Word Srl h (Some (Function g)) = refl
extended_low m Word Srl h None = refl
extended_low m Word Sra h (Some (Integer n)) = (cast_unsigned w64 (int_shr (cast_signed w64 (n * 2 ^ 32 % 2 ^ 64)) 32), (refl, signs_32 n))
extended_low m Word Sra h (Some (Pointer b k)) = refl
extended_low m Word Sra h (Some (Function g)) = refl
extended_low m Word Sra h None = refl
extended_low m Long Srl h (Some (Integer n)) = (n * 2 ^ 32 % 2 ^ 64 / 2 ^ 32, (refl, zeros_32 n))
extended_low m Long Srl h (Some (Pointer b k)) = refl
extended_low m Long Srl h (Some (Function g)) = refl
extended_low m Long Srl h None = refl
extended_low m Long Sra h (Some (Integer n)) = (cast_unsigned w64 (int_shr (cast_signed w64 (n * 2 ^ 32 % 2 ^ 64)) 32), (refl, signs_32 n))
extended_low m Long Sra h (Some (Pointer b k)) = refl
extended_low m Long Sra h (Some (Function g)) = refl
extended_low m Long Sra h None = refl
extended_low m size Add h o = absurd (let no : ⊥ = cc in no)
extended_low m size Sub h o = absurd (let no : ⊥ = cc in no)
extended_low m size Sll h o = absurd (let no : ⊥ = cc in no)
extended_low m size Slt h o = absurd (let no : ⊥ = cc in no)
extended_low m size Sltu h o = absurd (let no : ⊥ = cc in no)
extended_low m size Xor h o = absurd (let no : ⊥ = cc in no)
extended_low m size Or h o = absurd (let no : ⊥ = cc in no)
extended_low m size And h o = absurd (let no : ⊥ = cc in no)
extended_low m size Mul h o = absurd (let no : ⊥ = cc in no)
extended_low m size Mulh h o = absurd (let no : ⊥ = cc in no)
extended_low m size Mulhsu h o = absurd (let no : ⊥ = cc in no)
extended_low m size Mulhu h o = absurd (let no : ⊥ = cc in no)
extended_low m size Div h o = absurd (let no : ⊥ = cc in no)
extended_low m size Divu h o = absurd (let no : ⊥ = cc in no)
extended_low m size Rem h o = absurd (let no : ⊥ = cc in no)
extended_low m size Remu h o = absurd (let no : ⊥ = cc in no)

-- ---- what is stored

one_cell : (a b : ℕ) → a % 2 ^ 8 ≡ b % 2 ^ 8 → cells_for 1 (Integer a) ≡ cells_for 1 (Integer b)
one_cell a b h = ap (λ (n : ℕ). Some (Plain n ∷ [])) h

two_cells : (a b : ℕ) → a % 2 ^ 16 ≡ b % 2 ^ 16 → cells_for 2 (Integer a) ≡ cells_for 2 (Integer b)
two_cells a b h =
    let low : a % 256 ≡ b % 256 = omega (arith, h) in
    let high : a / 256 % 256 ≡ b / 256 % 256 = omega (arith, h) in
    ap (λ (n : ℕ). Some (Plain n ∷ Plain (a / 256 % 256) ∷ [])) low ∙ ap (λ (n : ℕ). Some (Plain (b % 256) ∷ Plain n ∷ [])) high

cells_same : (size : Size) (a b : ℕ) → a % 2 ^ 32 % span size ≡ b % 2 ^ 32 % span size → cells_for (byte_count size) (Integer (a % 2 ^ 32)) ≡ cells_for (byte_count size) (Integer (b % 2 ^ 32))
cells_same Byte a b h = one_cell (a % 2 ^ 32) (b % 2 ^ 32) h
cells_same Half a b h = two_cells (a % 2 ^ 32) (b % 2 ^ 32) h
cells_same Word a b h = let same : a % 2 ^ 32 ≡ b % 2 ^ 32 = omega (arith, h) in ap (λ (n : ℕ). cells_for 4 (Integer n)) same
cells_same Long a b h = let same : a % 2 ^ 32 ≡ b % 2 ^ 32 = omega (arith, h) in ap (λ (n : ℕ). cells_for 8 (Integer n)) same

store_same : (m : Memory) (n : ℕ) (p u v : Value) → cells_for n u ≡ cells_for n v → store m n p u ≡ store m n p v
unfolding store
store_same m n (Pointer b o) u v h = ap (λ (cells : Option (List Cell)). option_and_then (write_at m b o) cells) h
store_same m n (Integer k) u v h = refl
store_same m n (Function g) u v h = refl

-- what a store of this size makes of a value, at this address
abbrev storing : Memory → Size → Option Value → Option Value → Option Memory
storing m size at o =
    option_and_then (λ v. option_and_then (λ p. store m (byte_count size) p v) at) (option_and_then (in_place (stored_class size)) o)

words_same : (m : Memory) (size : Size) (at : Option Value) (a b : ℕ) → a % 2 ^ 32 % span size ≡ b % 2 ^ 32 % span size → option_and_then (λ p. store m (byte_count size) p (Integer (a % 2 ^ 32))) at ≡ option_and_then (λ p. store m (byte_count size) p (Integer (b % 2 ^ 32))) at
words_same m size None a b h = refl
words_same m size (Some p) a b h = store_same m (byte_count size) p (Integer (a % 2 ^ 32)) (Integer (b % 2 ^ 32)) (cells_same size a b h)

narrow_storing : (m : Memory) (size : Size) (at o p : Option Value) → stored_class size ≡ W → SameLow (span size) o p → storing m size at o ≡ storing m size at p
narrow_storing m size at o p narrow same =
    ap (λ (k : Class). option_and_then (λ v. option_and_then (λ x. store m (byte_count size) x v) at) (option_and_then (in_place k) o)) narrow ∙ by o same ∙
    sym (ap (λ (k : Class). option_and_then (λ v. option_and_then (λ x. store m (byte_count size) x v) at) (option_and_then (in_place k) p)) narrow)
  where
    stores : Option Value → Option Memory
    stores o = option_and_then (λ v. option_and_then (λ x. store m (byte_count size) x v) at) (option_and_then (in_place W) o)

    by : (o : Option Value) → SameLow (span size) o p → stores o ≡ stores p
    by (Some (Integer n)) same = words_same m size at n same.0 (sym same.1.1) ∙ ap stores (sym same.1.0)
    by (Some (Pointer b k)) same = ap stores (sym same)
    by (Some (Function g)) same = ap stores (sym same)
    by None same = ap stores (sym same)

-- ---- what a fact says

is_extended : (globals : List Value) (m : Memory) (values : Values ℕ) (size : Size) (e : Expression) (q r : ℕ) → extended_from e (bits size) ≡ Some q → gives globals m values e ≡ Gives (values r)
    → SameLow (span size) (values q) (values r)
is_extended globals m values size (Extended op (At p) k) q r h is = by (nat_eq k (bits size)) (is_back op) refl refl h
  where
    by : (b c : Bool) → nat_eq k (bits size) ≡ b → is_back op ≡ c → (if b && c then Some p else None) ≡ Some q → SameLow (span size) (values q) (values r)
    by true true t back h =
        let same : p ≡ q = cc in
        subst (λ (x : ℕ). SameLow (span size) (values x) (values r)) same
        (subst (λ (o : Option Value). SameLow (span size) (values p) o) (gives_one (twice m op (bits size) (values p)) (values r) (ap (λ (j : ℕ). Gives (twice m op j (values p))) (sym (eqb-true k (bits size) t)) ∙ is))
        (extended_low m size op back (values p)))
    by true false t back h = absurd (let no : ⊥ = cc in no)
    by false c t back h = absurd (let no : ⊥ = cc in no)
is_extended globals m values size (Extended op (Number n) k) q r h is = absurd (let no : ⊥ = cc in no)
is_extended globals m values size (Extended op (Name g) k) q r h is = absurd (let no : ⊥ = cc in no)
is_extended globals m values size (Same a) q r h is = absurd (let no : ⊥ = cc in no)
is_extended globals m values size (Operated op a b) q r h is = absurd (let no : ⊥ = cc in no)
is_extended globals m values size (Loaded op a d) q r h is = absurd (let no : ⊥ = cc in no)
is_extended globals m values size (Linear b i c o) q r h is = absurd (let no : ⊥ = cc in no)
is_extended globals m values size (Growing a n) q r h is = absurd (let no : ⊥ = cc in no)

is_masked : (globals : List Value) (m : Memory) (values : Values ℕ) (e : Expression) (q r : ℕ) → masked_from e ≡ Some q → gives globals m values e ≡ Gives (values r) → SameLow (2 ^ 8) (values q) (values r)
is_masked globals m values (Operated (Reg And) (At p) (Number k)) q r h is = by (nat_eq k 255) refl h
  where
    by : (b : Bool) → nat_eq k 255 ≡ b → (if b then Some p else None) ≡ Some q → SameLow (2 ^ 8) (values q) (values r)
    by true t h =
        let same : p ≡ q = cc in
        subst (λ (x : ℕ). SameLow (2 ^ 8) (values x) (values r)) same
        (subst (λ (o : Option Value). SameLow (2 ^ 8) (values p) o) (gives_one (operated m (Reg And) (values p) (Some (Integer (255 % 2 ^ 64)))) (values r) (ap (λ (j : ℕ). Gives (operated m (Reg And) (values p) (Some (Integer (j % 2 ^ 64))))) (sym (eqb-true k 255 t)) ∙ is))
        (masked_low m (values p)))
    by false t h = absurd (let no : ⊥ = cc in no)
is_masked globals m values (Operated (Reg And) (At p) (At k)) q r h is = absurd (let no : ⊥ = cc in no)
is_masked globals m values (Operated (Reg And) (At p) (Name k)) q r h is = absurd (let no : ⊥ = cc in no)
is_masked globals m values (Operated (Reg And) (Number n) b) q r h is = absurd (let no : ⊥ = cc in no)
is_masked globals m values (Operated (Reg And) (Name n) b) q r h is = absurd (let no : ⊥ = cc in no)
is_masked globals m values (Operated (Reg Add) a b) q r h is = absurd (let no : ⊥ = cc in no)
is_masked globals m values (Operated (Reg Sub) a b) q r h is = absurd (let no : ⊥ = cc in no)
is_masked globals m values (Operated (Reg Sll) a b) q r h is = absurd (let no : ⊥ = cc in no)
is_masked globals m values (Operated (Reg Slt) a b) q r h is = absurd (let no : ⊥ = cc in no)
is_masked globals m values (Operated (Reg Sltu) a b) q r h is = absurd (let no : ⊥ = cc in no)
is_masked globals m values (Operated (Reg Xor) a b) q r h is = absurd (let no : ⊥ = cc in no)
is_masked globals m values (Operated (Reg Srl) a b) q r h is = absurd (let no : ⊥ = cc in no)
is_masked globals m values (Operated (Reg Sra) a b) q r h is = absurd (let no : ⊥ = cc in no)
is_masked globals m values (Operated (Reg Or) a b) q r h is = absurd (let no : ⊥ = cc in no)
is_masked globals m values (Operated (Reg Mul) a b) q r h is = absurd (let no : ⊥ = cc in no)
is_masked globals m values (Operated (Reg Mulh) a b) q r h is = absurd (let no : ⊥ = cc in no)
is_masked globals m values (Operated (Reg Mulhsu) a b) q r h is = absurd (let no : ⊥ = cc in no)
is_masked globals m values (Operated (Reg Mulhu) a b) q r h is = absurd (let no : ⊥ = cc in no)
is_masked globals m values (Operated (Reg Div) a b) q r h is = absurd (let no : ⊥ = cc in no)
is_masked globals m values (Operated (Reg Divu) a b) q r h is = absurd (let no : ⊥ = cc in no)
is_masked globals m values (Operated (Reg Rem) a b) q r h is = absurd (let no : ⊥ = cc in no)
is_masked globals m values (Operated (Reg Remu) a b) q r h is = absurd (let no : ⊥ = cc in no)
is_masked globals m values (Operated (RegW op) a b) q r h is = absurd (let no : ⊥ = cc in no)
is_masked globals m values (Operated (Compare on k) a b) q r h is = absurd (let no : ⊥ = cc in no)
is_masked globals m values (Extended op a k) q r h is = absurd (let no : ⊥ = cc in no)
is_masked globals m values (Same a) q r h is = absurd (let no : ⊥ = cc in no)
is_masked globals m values (Loaded op a d) q r h is = absurd (let no : ⊥ = cc in no)
is_masked globals m values (Linear b i c o) q r h is = absurd (let no : ⊥ = cc in no)
is_masked globals m values (Growing a n) q r h is = absurd (let no : ⊥ = cc in no)

is_byte : (globals : List Value) (m : Memory) (values : Values ℕ) (e : Expression) (q r : ℕ) (o : Option ℕ) → masked_from e ≡ o → first_of o (extended_from e 56) ≡ Some q → gives globals m values e ≡ Gives (values r)
    → SameLow (2 ^ 8) (values q) (values r)
is_byte globals m values e q r (Some p) masked h is = is_masked globals m values e q r (masked ∙ h) is
is_byte globals m values e q r None masked h is = is_extended globals m values Byte e q r h is

pub narrow_same : (globals : List Value) (m : Memory) (values : Values ℕ) (size : Size) (e : Expression) (q r : ℕ) (at : Address ℕ) → low_of size e ≡ Some q → gives globals m values e ≡ Gives (values r)
    → act globals m values (Store size (At q) at) ≡ act globals m values (Store size (At r) at)
narrow_same globals m values Byte e q r at h is = ap left (narrow_storing m Byte (address_of globals m values at) (values q) (values r) refl (is_byte globals m values e q r (masked_from e) refl h is))
narrow_same globals m values Half e q r at h is = ap left (narrow_storing m Half (address_of globals m values at) (values q) (values r) refl (is_extended globals m values Half e q r h is))
narrow_same globals m values Word e q r at h is = ap left (narrow_storing m Word (address_of globals m values at) (values q) (values r) refl (is_extended globals m values Word e q r h is))
narrow_same globals m values Long e q r at h is = absurd (let no : ⊥ = cc in no)
