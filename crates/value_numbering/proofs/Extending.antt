-- What extensions of low bits give; that what is extended so already stays the same, and that what was loaded may be loaded again, extended the other way.
use Rattle.std.proofs.Common.{◌≡◌, ℕ, ◌+◌, ◌*◌, ◌/◌, ◌%◌, ◌^◌, ◌<◌, ◌≤◌, Bool, true, false, ◌&&◌, nat_eq, nat_lt, nat_le, if◌then◌else◌, List, Option, Some, None, refl, sym, ◌∙◌, ap, subst, arith, bit_and, option_and_then}
use Rattle.std.specs.Int.{w8, w16, w32, w64, cast_signed, cast_unsigned, int_shr}
use Rattle.std.proofs.lemmas.Bool.{and_parts, eqb-true}
use Rattle.std.proofs.lemmas.Nat.{and_mask, and_le_r, div_below, pow_below}
use Rattle.std.proofs.Math.Pow.{pow_mono}
use Rattle.std.proofs.lemmas.Bool.Decides.{nat_tests}
use Rattle.std.proofs.lemmas.Int.{ints}
use Rattle.il_ast.specs.declared.value.Value.{Value}
use Rattle.il_ast.specs.declared.value.Value.TheVariants.{Integer, Pointer, Function}
use Rattle.il_ast.specs.Prelude.{Memory, load}
use Rattle.rv_isa.specs.declared.instruction.RegOp.{RegOp}
use Rattle.rv_isa.specs.declared.instruction.RegOp.TheVariants.{Add, Sub, Sll, Slt, Sltu, Xor, Srl, Sra, Or, And, Mul, Mulh, Mulhsu, Mulhu, Div, Divu, Rem, Remu}
use Rattle.rv_isa.specs.declared.instruction.RegWOp.{RegWOp}
use Rattle.rv_isa.specs.declared.instruction.RegWOp.TheVariants.{Addw, Subw, Sllw, Srlw, Sraw, Mulw, Divw, Divuw, Remw, Remuw}
use Rattle.rv_isa.specs.declared.instruction.LoadOp.{LoadOp}
use Rattle.rv_isa.specs.declared.instruction.LoadOp.TheVariants.{Lb, Lh, Lw, Ld, Lbu, Lhu, Lwu}
use Rattle.rv_isa.specs.Prelude.{load_size, load_value, regw_value}
use Rattle.vcode.specs.declared.place.Operand.{Operand}
use Rattle.vcode.specs.declared.place.Operand.TheVariants.{At, Number, Name}
use Rattle.vcode.specs.declared.line.Operation.TheVariants.{Reg, RegW, Compare}
use Rattle.vcode.specs.Prelude.{operate, loaded, extended, narrowed, Values, value_of, operated, Gives, given}
use Rattle.value_numbering.specs.declared.fact.Expression.{Expression}
use Rattle.value_numbering.specs.declared.fact.Expression.TheVariants.{Same, Operated, Extended, Loaded, Linear, Growing}
use Rattle.value_numbering.specs.declared.extensions.Extension.{Extension}
use Rattle.value_numbering.proofs.Meant.{gives, reached}
use Rattle.value_numbering.specs.Extensions.{extended_as, by_shifts, by_mask, by_sum, extension_with, extension_in, width, room, loads_zeros, loads_signs, covers, covers_some, covers_words, is_extended, other_way}
use Rattle.value_numbering.proofs.Counting.{number, IsWord, word_given}

-- ---- numbers

-- the number, if the load read it there
abbrev low : LoadOp → ℕ → ℕ
low op n = load_value op (narrowed op n)

low_stays : (op : LoadOp) (n : ℕ) → n < 2 ^ room op → low op n ≡ n
low_stays Lb n h = grind (arith, ints)
low_stays Lh n h = grind (arith, ints)
low_stays Lw n h = grind (arith, ints)
low_stays Ld n h = refl
low_stays Lbu n h = grind (arith, ints)
low_stays Lhu n h = grind (arith, ints)
low_stays Lwu n h = grind (arith, ints)

low_below : (op : LoadOp) → loads_zeros op ≡ true → (n : ℕ) → low op n < 2 ^ width op
low_below Lb h n = absurd (let no : ⊥ = cc in no)
low_below Lh h n = absurd (let no : ⊥ = cc in no)
low_below Lw h n = absurd (let no : ⊥ = cc in no)
low_below Ld h n = absurd (let no : ⊥ = cc in no)
low_below Lbu h n = omega arith
low_below Lhu h n = omega arith
low_below Lwu h n = omega arith

zeros_stay : (op from : LoadOp) → loads_zeros from ≡ true → nat_le (width from) (room op) ≡ true → (n : ℕ) → low op (low from n) ≡ low from n
zeros_stay op from zeros fits n =
    let fits_in : width from ≤ room op = grind (arith, nat_tests) in
    let wide : 2 ^ width from ≤ 2 ^ room op = pow_mono fits_in in
    let below : low from n < 2 ^ width from = low_below from zeros n in
    low_stays op (low from n) (omega (arith, wide, below))

signs_stay : (op from : LoadOp) → (loads_signs op && (loads_signs from && nat_le (width from) (width op))) ≡ true → (n : ℕ) → low op (low from n) ≡ low from n
signs_stay Lb Lb h n = grind (arith, ints)
signs_stay Lb Lh h n = absurd (let no : ⊥ = cc in no)
signs_stay Lb Lw h n = absurd (let no : ⊥ = cc in no)
signs_stay Lb Ld h n = absurd (let no : ⊥ = cc in no)
signs_stay Lb Lbu h n = absurd (let no : ⊥ = cc in no)
signs_stay Lb Lhu h n = absurd (let no : ⊥ = cc in no)
signs_stay Lb Lwu h n = absurd (let no : ⊥ = cc in no)
signs_stay Lh Lb h n = grind (arith, ints)
signs_stay Lh Lh h n = grind (arith, ints)
signs_stay Lh Lw h n = absurd (let no : ⊥ = cc in no)
signs_stay Lh Ld h n = absurd (let no : ⊥ = cc in no)
signs_stay Lh Lbu h n = absurd (let no : ⊥ = cc in no)
signs_stay Lh Lhu h n = absurd (let no : ⊥ = cc in no)
signs_stay Lh Lwu h n = absurd (let no : ⊥ = cc in no)
signs_stay Lw Lb h n = grind (arith, ints)
signs_stay Lw Lh h n = grind (arith, ints)
signs_stay Lw Lw h n = grind (arith, ints)
signs_stay Lw Ld h n = absurd (let no : ⊥ = cc in no)
signs_stay Lw Lbu h n = absurd (let no : ⊥ = cc in no)
signs_stay Lw Lhu h n = absurd (let no : ⊥ = cc in no)
signs_stay Lw Lwu h n = absurd (let no : ⊥ = cc in no)
signs_stay Ld Lb h n = absurd (let no : ⊥ = cc in no)
signs_stay Ld Lh h n = absurd (let no : ⊥ = cc in no)
signs_stay Ld Lw h n = absurd (let no : ⊥ = cc in no)
signs_stay Ld Ld h n = absurd (let no : ⊥ = cc in no)
signs_stay Ld Lbu h n = absurd (let no : ⊥ = cc in no)
signs_stay Ld Lhu h n = absurd (let no : ⊥ = cc in no)
signs_stay Ld Lwu h n = absurd (let no : ⊥ = cc in no)
signs_stay Lbu Lb h n = absurd (let no : ⊥ = cc in no)
signs_stay Lbu Lh h n = absurd (let no : ⊥ = cc in no)
signs_stay Lbu Lw h n = absurd (let no : ⊥ = cc in no)
signs_stay Lbu Ld h n = absurd (let no : ⊥ = cc in no)
signs_stay Lbu Lbu h n = absurd (let no : ⊥ = cc in no)
signs_stay Lbu Lhu h n = absurd (let no : ⊥ = cc in no)
signs_stay Lbu Lwu h n = absurd (let no : ⊥ = cc in no)
signs_stay Lhu Lb h n = absurd (let no : ⊥ = cc in no)
signs_stay Lhu Lh h n = absurd (let no : ⊥ = cc in no)
signs_stay Lhu Lw h n = absurd (let no : ⊥ = cc in no)
signs_stay Lhu Ld h n = absurd (let no : ⊥ = cc in no)
signs_stay Lhu Lbu h n = absurd (let no : ⊥ = cc in no)
signs_stay Lhu Lhu h n = absurd (let no : ⊥ = cc in no)
signs_stay Lhu Lwu h n = absurd (let no : ⊥ = cc in no)
signs_stay Lwu Lb h n = absurd (let no : ⊥ = cc in no)
signs_stay Lwu Lh h n = absurd (let no : ⊥ = cc in no)
signs_stay Lwu Lw h n = absurd (let no : ⊥ = cc in no)
signs_stay Lwu Ld h n = absurd (let no : ⊥ = cc in no)
signs_stay Lwu Lbu h n = absurd (let no : ⊥ = cc in no)
signs_stay Lwu Lhu h n = absurd (let no : ⊥ = cc in no)
signs_stay Lwu Lwu h n = absurd (let no : ⊥ = cc in no)

covered : (op from : LoadOp) → covers op from ≡ true → (n : ℕ) → low op (low from n) ≡ low from n
covered op from h n = by (loads_zeros from) refl h
  where
    by : (b : Bool) → loads_zeros from ≡ b → (if b then nat_le (width from) (room op) else loads_signs op && (loads_signs from && nat_le (width from) (width op))) ≡ true → low op (low from n) ≡ low from n
    by true zeros h = zeros_stay op from zeros h n
    by false signs h = signs_stay op from h n

turned : (op : LoadOp) (n : ℕ) → low op (low (other_way op) n) ≡ low op n
turned Lb n = grind (arith, ints)
turned Lh n = grind (arith, ints)
turned Lw n = grind (arith, ints)
turned Ld n = refl
turned Lbu n = grind (arith, ints)
turned Lhu n = grind (arith, ints)
turned Lwu n = grind (arith, ints)

zeros_56 : (n : ℕ) → n * 2 ^ 56 % 2 ^ 64 / 2 ^ 56 ≡ n % 2 ^ 8
zeros_56 n = omega arith

signs_56 : (n : ℕ) → cast_unsigned w64 (int_shr (cast_signed w64 (n * 2 ^ 56 % 2 ^ 64)) 56) ≡ cast_unsigned w64 (cast_signed w8 (n % 2 ^ 8))
signs_56 n = grind (arith, ints)

zeros_48 : (n : ℕ) → n * 2 ^ 48 % 2 ^ 64 / 2 ^ 48 ≡ n % 2 ^ 16
zeros_48 n = omega arith

signs_48 : (n : ℕ) → cast_unsigned w64 (int_shr (cast_signed w64 (n * 2 ^ 48 % 2 ^ 64)) 48) ≡ cast_unsigned w64 (cast_signed w16 (n % 2 ^ 16))
signs_48 n = grind (arith, ints)

zeros_32 : (n : ℕ) → n * 2 ^ 32 % 2 ^ 64 / 2 ^ 32 ≡ n % 2 ^ 32
zeros_32 n = omega arith

signs_32 : (n : ℕ) → cast_unsigned w64 (int_shr (cast_signed w64 (n * 2 ^ 32 % 2 ^ 64)) 32) ≡ cast_unsigned w64 (cast_signed w32 (n % 2 ^ 32))
signs_32 n = grind (arith, ints)

nothing_added : (n : ℕ) → regw_value Addw n 0 ≡ low Lw n
nothing_added n = let e : (n % 2 ^ 32 + 0) % 2 ^ 32 ≡ n % 2 ^ 32 = omega arith in ap (λ (k : ℕ). cast_unsigned w64 (cast_signed w32 k)) e

-- ---- values

pub gives_one : (o p : Option Value) → Gives o ≡ Gives p → o ≡ p
gives_one o p h = cc

given_one : (o p : Option Value) → given o ≡ Gives p → o ≡ p
given_one None p h = absurd (let no : ⊥ = cc in no)
given_one (Some v) p h = gives_one (Some v) p h

abbrev twice : Memory → RegOp → (bits : ℕ) → Option Value → Option Value
twice m back n o = operated m (Reg back) (operated m (Reg Sll) o (number n)) (number n)

twice_zeros_56 : (m : Memory) (o : Option Value) → twice m Srl 56 o ≡ extended_as Lbu o
unfolding operate
twice_zeros_56 m (Some (Integer n)) = ap (λ (k : ℕ). Some (Integer k)) (zeros_56 n)
twice_zeros_56 m (Some (Pointer b k)) = refl
twice_zeros_56 m (Some (Function f)) = refl
twice_zeros_56 m None = refl

twice_signs_56 : (m : Memory) (o : Option Value) → twice m Sra 56 o ≡ extended_as Lb o
unfolding operate
twice_signs_56 m (Some (Integer n)) = ap (λ (k : ℕ). Some (Integer k)) (signs_56 n)
twice_signs_56 m (Some (Pointer b k)) = refl
twice_signs_56 m (Some (Function f)) = refl
twice_signs_56 m None = refl

twice_zeros_48 : (m : Memory) (o : Option Value) → twice m Srl 48 o ≡ extended_as Lhu o
unfolding operate
twice_zeros_48 m (Some (Integer n)) = ap (λ (k : ℕ). Some (Integer k)) (zeros_48 n)
twice_zeros_48 m (Some (Pointer b k)) = refl
twice_zeros_48 m (Some (Function f)) = refl
twice_zeros_48 m None = refl

twice_signs_48 : (m : Memory) (o : Option Value) → twice m Sra 48 o ≡ extended_as Lh o
unfolding operate
twice_signs_48 m (Some (Integer n)) = ap (λ (k : ℕ). Some (Integer k)) (signs_48 n)
twice_signs_48 m (Some (Pointer b k)) = refl
twice_signs_48 m (Some (Function f)) = refl
twice_signs_48 m None = refl

twice_zeros_32 : (m : Memory) (o : Option Value) → twice m Srl 32 o ≡ extended_as Lwu o
unfolding operate
twice_zeros_32 m (Some (Integer n)) = ap (λ (k : ℕ). Some (Integer k)) (zeros_32 n)
twice_zeros_32 m (Some (Pointer b k)) = refl
twice_zeros_32 m (Some (Function f)) = refl
twice_zeros_32 m None = refl

twice_signs_32 : (m : Memory) (o : Option Value) → twice m Sra 32 o ≡ extended_as Lw o
unfolding operate
twice_signs_32 m (Some (Integer n)) = ap (λ (k : ℕ). Some (Integer k)) (signs_32 n)
twice_signs_32 m (Some (Pointer b k)) = refl
twice_signs_32 m (Some (Function f)) = refl
twice_signs_32 m None = refl

masked_byte : (m : Memory) (o : Option Value) → operated m (Reg And) o (number 255) ≡ extended_as Lbu o
unfolding operate
masked_byte m (Some (Integer n)) = ap (λ (k : ℕ). Some (Integer k)) (and_mask n 8)
masked_byte m (Some (Pointer b k)) = refl
masked_byte m (Some (Function f)) = refl
masked_byte m None = refl

masked_half : (m : Memory) (o : Option Value) → operated m (Reg And) o (number 65535) ≡ extended_as Lhu o
unfolding operate
masked_half m (Some (Integer n)) = ap (λ (k : ℕ). Some (Integer k)) (and_mask n 16)
masked_half m (Some (Pointer b k)) = refl
masked_half m (Some (Function f)) = refl
masked_half m None = refl

summed_word : (m : Memory) (o : Option Value) → operated m (RegW Addw) o (number 0) ≡ extended_as Lw o
unfolding operate
summed_word m (Some (Integer n)) = ap (λ (k : ℕ). Some (Integer k)) (nothing_added n)
summed_word m (Some (Pointer b k)) = refl
summed_word m (Some (Function f)) = refl
summed_word m None = refl

-- one of the numbers and loads between which a choice is made
chosen : (holds : LoadOp → ℕ → Type 0) (k n : ℕ) (op from : LoadOp) → nat_eq k n ≡ true → Some from ≡ Some op → holds from n → holds op k
chosen holds k n op from t e h =
    let same : from ≡ op = cc in subst (λ (x : LoadOp). holds x k) same (subst (λ (j : ℕ). holds from j) (sym (eqb-true k n t)) h)

module _ (m : Memory) (o : Option Value) where
  abbrev Shifts : RegOp → LoadOp → ℕ → Type 0
  Shifts back op n = twice m back n o ≡ extended_as op o

  three : (back : RegOp) (byte half word : LoadOp) → Shifts back byte 56 → Shifts back half 48 → Shifts back word 32 → (n : ℕ) (op : LoadOp)
      → (if nat_eq n 56 then Some byte else if nat_eq n 48 then Some half else if nat_eq n 32 then Some word else None) ≡ Some op → Shifts back op n
  three back byte half word x y z n op h = first (nat_eq n 56) refl h
    where
      third : (b : Bool) → nat_eq n 32 ≡ b → (if b then Some word else None) ≡ Some op → Shifts back op n
      third true t e = chosen (Shifts back) n 32 op word t e z
      third false t e = absurd (let no : ⊥ = cc in no)

      second : (b : Bool) → nat_eq n 48 ≡ b → (if b then Some half else if nat_eq n 32 then Some word else None) ≡ Some op → Shifts back op n
      second true t e = chosen (Shifts back) n 48 op half t e y
      second false t e = third (nat_eq n 32) refl e

      first : (b : Bool) → nat_eq n 56 ≡ b → (if b then Some byte else if nat_eq n 48 then Some half else if nat_eq n 32 then Some word else None) ≡ Some op → Shifts back op n
      first true t e = chosen (Shifts back) n 56 op byte t e x
      first false t e = second (nat_eq n 48) refl e

  shifted_as : (back : RegOp) (n : ℕ) (op : LoadOp) → by_shifts back n ≡ Some op → Shifts back op n
  shifted_as Srl n op h = three Srl Lbu Lhu Lwu (twice_zeros_56 m o) (twice_zeros_48 m o) (twice_zeros_32 m o) n op h
  shifted_as Sra n op h = three Sra Lb Lh Lw (twice_signs_56 m o) (twice_signs_48 m o) (twice_signs_32 m o) n op h
  shifted_as Add n op h = absurd (let no : ⊥ = cc in no)
  shifted_as Sub n op h = absurd (let no : ⊥ = cc in no)
  shifted_as Sll n op h = absurd (let no : ⊥ = cc in no)
  shifted_as Slt n op h = absurd (let no : ⊥ = cc in no)
  shifted_as Sltu n op h = absurd (let no : ⊥ = cc in no)
  shifted_as Xor n op h = absurd (let no : ⊥ = cc in no)
  shifted_as Or n op h = absurd (let no : ⊥ = cc in no)
  shifted_as And n op h = absurd (let no : ⊥ = cc in no)
  shifted_as Mul n op h = absurd (let no : ⊥ = cc in no)
  shifted_as Mulh n op h = absurd (let no : ⊥ = cc in no)
  shifted_as Mulhsu n op h = absurd (let no : ⊥ = cc in no)
  shifted_as Mulhu n op h = absurd (let no : ⊥ = cc in no)
  shifted_as Div n op h = absurd (let no : ⊥ = cc in no)
  shifted_as Divu n op h = absurd (let no : ⊥ = cc in no)
  shifted_as Rem n op h = absurd (let no : ⊥ = cc in no)
  shifted_as Remu n op h = absurd (let no : ⊥ = cc in no)

  abbrev Masks : LoadOp → ℕ → Type 0
  Masks op n = operated m (Reg And) o (number n) ≡ extended_as op o

  masked_as : (n : ℕ) (op : LoadOp) → by_mask n ≡ Some op → Masks op n
  masked_as n op h = first (nat_eq n 255) refl h
    where
      second : (b : Bool) → nat_eq n 65535 ≡ b → (if b then Some Lhu else None) ≡ Some op → Masks op n
      second true t e = chosen Masks n 65535 op Lhu t e (masked_half m o)
      second false t e = absurd (let no : ⊥ = cc in no)

      first : (b : Bool) → nat_eq n 255 ≡ b → (if b then Some Lbu else if nat_eq n 65535 then Some Lhu else None) ≡ Some op → Masks op n
      first true t e = chosen Masks n 255 op Lbu t e (masked_byte m o)
      first false t e = second (nat_eq n 65535) refl e

  abbrev Sums : LoadOp → ℕ → Type 0
  Sums op n = operated m (RegW Addw) o (number n) ≡ extended_as op o

  summed_as : (n : ℕ) (op : LoadOp) → by_sum n ≡ Some op → Sums op n
  summed_as n op h = by (nat_eq n 0) refl h
    where
      by : (b : Bool) → nat_eq n 0 ≡ b → (if b then Some Lw else None) ≡ Some op → Sums op n
      by true t e = chosen Sums n 0 op Lw t e (summed_word m o)
      by false t e = absurd (let no : ⊥ = cc in no)

-- ---- what an extension gives

module _ (globals : List Value) (m : Memory) (values : Values ℕ) where
  abbrev GivesExtended : Expression → Extension → Type 0
  GivesExtended e x = gives globals m values e ≡ Gives (extended_as x.load (value_of globals values x.operand))

  with_load : (e : Expression) (a : Operand ℕ) (o : Option LoadOp) (x : Extension) → extension_with a o ≡ Some x
      → ((op : LoadOp) → o ≡ Some op → gives globals m values e ≡ Gives (extended_as op (value_of globals values a))) → GivesExtended e x
  with_load e a (Some op) x h is = let same : record { load = op; operand = a } ≡ x = cc in subst (GivesExtended e) same (is op refl)
  with_load e a None x h is = absurd (let no : ⊥ = cc in no)

  pub extension_gives : (e : Expression) (x : Extension) → extension_in e ≡ Some x → GivesExtended e x
  extension_gives (Operated (Reg And) a (Number n)) x h = with_load (Operated (Reg And) a (Number n)) a (by_mask n) x h (λ op is. ap Gives (masked_as m (value_of globals values a) n op is))
  extension_gives (Operated (RegW Addw) a (Number n)) x h = with_load (Operated (RegW Addw) a (Number n)) a (by_sum n) x h (λ op is. ap Gives (summed_as m (value_of globals values a) n op is))
  extension_gives (Extended back a n) x h = with_load (Extended back a n) a (by_shifts back n) x h (λ op is. ap Gives (shifted_as m (value_of globals values a) back n op is))
  extension_gives (Operated (Reg And) a (At q)) x h = absurd (let no : ⊥ = cc in no)
  extension_gives (Operated (Reg And) a (Name g)) x h = absurd (let no : ⊥ = cc in no)
  extension_gives (Operated (RegW Addw) a (At q)) x h = absurd (let no : ⊥ = cc in no)
  extension_gives (Operated (RegW Addw) a (Name g)) x h = absurd (let no : ⊥ = cc in no)
  extension_gives (Operated (Reg Add) a b) x h = absurd (let no : ⊥ = cc in no)
  extension_gives (Operated (Reg Sub) a b) x h = absurd (let no : ⊥ = cc in no)
  extension_gives (Operated (Reg Sll) a b) x h = absurd (let no : ⊥ = cc in no)
  extension_gives (Operated (Reg Slt) a b) x h = absurd (let no : ⊥ = cc in no)
  extension_gives (Operated (Reg Sltu) a b) x h = absurd (let no : ⊥ = cc in no)
  extension_gives (Operated (Reg Xor) a b) x h = absurd (let no : ⊥ = cc in no)
  extension_gives (Operated (Reg Srl) a b) x h = absurd (let no : ⊥ = cc in no)
  extension_gives (Operated (Reg Sra) a b) x h = absurd (let no : ⊥ = cc in no)
  extension_gives (Operated (Reg Or) a b) x h = absurd (let no : ⊥ = cc in no)
  extension_gives (Operated (Reg Mul) a b) x h = absurd (let no : ⊥ = cc in no)
  extension_gives (Operated (Reg Mulh) a b) x h = absurd (let no : ⊥ = cc in no)
  extension_gives (Operated (Reg Mulhsu) a b) x h = absurd (let no : ⊥ = cc in no)
  extension_gives (Operated (Reg Mulhu) a b) x h = absurd (let no : ⊥ = cc in no)
  extension_gives (Operated (Reg Div) a b) x h = absurd (let no : ⊥ = cc in no)
  extension_gives (Operated (Reg Divu) a b) x h = absurd (let no : ⊥ = cc in no)
  extension_gives (Operated (Reg Rem) a b) x h = absurd (let no : ⊥ = cc in no)
  extension_gives (Operated (Reg Remu) a b) x h = absurd (let no : ⊥ = cc in no)
  extension_gives (Operated (RegW Subw) a b) x h = absurd (let no : ⊥ = cc in no)
  extension_gives (Operated (RegW Sllw) a b) x h = absurd (let no : ⊥ = cc in no)
  extension_gives (Operated (RegW Srlw) a b) x h = absurd (let no : ⊥ = cc in no)
  extension_gives (Operated (RegW Sraw) a b) x h = absurd (let no : ⊥ = cc in no)
  extension_gives (Operated (RegW Mulw) a b) x h = absurd (let no : ⊥ = cc in no)
  extension_gives (Operated (RegW Divw) a b) x h = absurd (let no : ⊥ = cc in no)
  extension_gives (Operated (RegW Divuw) a b) x h = absurd (let no : ⊥ = cc in no)
  extension_gives (Operated (RegW Remw) a b) x h = absurd (let no : ⊥ = cc in no)
  extension_gives (Operated (RegW Remuw) a b) x h = absurd (let no : ⊥ = cc in no)
  extension_gives (Operated (Compare on k) a b) x h = absurd (let no : ⊥ = cc in no)
  extension_gives (Same a) x h = absurd (let no : ⊥ = cc in no)
  extension_gives (Loaded op a d) x h = absurd (let no : ⊥ = cc in no)
  extension_gives (Linear b i c o) x h = absurd (let no : ⊥ = cc in no)
  extension_gives (Growing a n) x h = absurd (let no : ⊥ = cc in no)

-- ---- what is extended already

stays_below : (op : LoadOp) (n : ℕ) → n < 2 ^ room op → extended_as op (Some (Integer n)) ≡ Some (Integer n)
stays_below op n h = ap (λ (k : ℕ). Some (Integer k)) (low_stays op n h)

no_long : (op : LoadOp) → covers op Ld ≡ true → ⊥
no_long Lb h = let no : ⊥ = cc in no
no_long Lh h = let no : ⊥ = cc in no
no_long Lw h = let no : ⊥ = cc in no
no_long Ld h = let no : ⊥ = cc in no
no_long Lbu h = let no : ⊥ = cc in no
no_long Lhu h = let no : ⊥ = cc in no
no_long Lwu h = let no : ⊥ = cc in no

covered_value : (op from : LoadOp) → covers op from ≡ true → (v : Value) → extended_as op (extended from v) ≡ extended from v
covered_value op from h (Integer n) = ap (λ (k : ℕ). Some (Integer k)) (covered op from h n)
covered_value op Lb h (Pointer b k) = refl
covered_value op Lh h (Pointer b k) = refl
covered_value op Lw h (Pointer b k) = refl
covered_value op Ld h (Pointer b k) = absurd (no_long op h)
covered_value op Lbu h (Pointer b k) = refl
covered_value op Lhu h (Pointer b k) = refl
covered_value op Lwu h (Pointer b k) = refl
covered_value op Lb h (Function f) = refl
covered_value op Lh h (Function f) = refl
covered_value op Lw h (Function f) = refl
covered_value op Ld h (Function f) = absurd (no_long op h)
covered_value op Lbu h (Function f) = refl
covered_value op Lhu h (Function f) = refl
covered_value op Lwu h (Function f) = refl

covered_as : (op from : LoadOp) → covers op from ≡ true → (o : Option Value) → extended_as op (extended_as from o) ≡ extended_as from o
covered_as op from h None = refl
covered_as op from h (Some v) = covered_value op from h v

covered_load : (m : Memory) (op from : LoadOp) → covers op from ≡ true → (o : Option Value) → extended_as op (option_and_then (loaded m from) o) ≡ option_and_then (loaded m from) o
unfolding loaded
covered_load m op from h None = refl
covered_load m op from h (Some p) = covered_as op from h (load m (load_size from) p)

masked_stays : (m : Memory) (op : LoadOp) (n : ℕ) → n < 2 ^ room op → (o : Option Value) → extended_as op (operated m (Reg And) o (number n)) ≡ operated m (Reg And) o (number n)
unfolding operate
masked_stays m op n small (Some (Integer k)) =
    let least : bit_and k (n % 2 ^ 64) ≤ n % 2 ^ 64 = and_le_r k (n % 2 ^ 64) in
    let less : n % 2 ^ 64 ≤ n = omega arith in
    stays_below op (bit_and k (n % 2 ^ 64)) (omega (arith, least, less, small))
masked_stays m op n small (Some (Pointer b k)) = refl
masked_stays m op n small (Some (Function f)) = refl
masked_stays m op n small None = refl

word_stands : (n : ℕ) → n < 2 ^ 31 → cast_unsigned w64 (cast_signed w32 n) ≡ n
word_stands n h = grind (arith, ints)

half_below : (k n : ℕ) → 0 < n → k < 2 ^ 32 → k / 2 ^ n < 2 ^ 31
half_below k n some low =
    let two : 2 ^ 0 < 2 ^ n = pow_below 0 n some in
    div_below k (2 ^ n) (2 ^ 31) (omega (arith, two)) (omega (arith, two, low))

shifted_stays : (m : Memory) (n : ℕ) → 0 < n → n < 32 → (o : Option Value) → extended_as Lwu (operated m (RegW Srlw) o (number n)) ≡ operated m (RegW Srlw) o (number n)
unfolding operate
shifted_stays m n some few (Some (Integer k)) =
    let by : n % 2 ^ 64 % 2 ^ 32 % 32 ≡ n = omega (arith, few) in
    let small : k % 2 ^ 32 / 2 ^ n < 2 ^ 31 = half_below (k % 2 ^ 32) n some (omega arith) in
    let same : regw_value Srlw k (n % 2 ^ 64) ≡ k % 2 ^ 32 / 2 ^ n = ap (λ (j : ℕ). cast_unsigned w64 (cast_signed w32 (k % 2 ^ 32 / 2 ^ j))) by ∙ word_stands (k % 2 ^ 32 / 2 ^ n) small in
    stays_below Lwu (regw_value Srlw k (n % 2 ^ 64)) (subst (λ (x : ℕ). x < 2 ^ 32) (sym same) (omega (arith, small)))
shifted_stays m n some few (Some (Pointer b k)) = refl
shifted_stays m n some few (Some (Function f)) = refl
shifted_stays m n some few None = refl

word_again : (o : Option Value) → IsWord o → extended_as Lw o ≡ o
word_again None h = refl
word_again (Some (Integer n)) h = ap (λ (k : ℕ). Some (Integer k)) h
word_again (Some (Pointer b k)) h = absurd h
word_again (Some (Function f)) h = absurd h

words_stay : (globals : List Value) (m : Memory) (values : Values ℕ) (op : LoadOp) (w : RegWOp) (a : Option Value) (b : Operand ℕ) → covers_words op w b ≡ true
    → extended_as op (operated m (RegW w) a (value_of globals values b)) ≡ operated m (RegW w) a (value_of globals values b)
words_stay globals m values Lw w a b h = word_again (operated m (RegW w) a (value_of globals values b)) (word_given m w a (value_of globals values b))
words_stay globals m values Lwu Srlw a (Number n) h =
    let s = and_parts (nat_lt 0 n) (nat_lt n 32) h in
    let some : 0 < n = let t = s.0 in grind (arith, nat_tests) in
    let few : n < 32 = let t = s.1 in grind (arith, nat_tests) in
    shifted_stays m n some few a
words_stay globals m values Lwu Srlw a (At q) h = absurd (let no : ⊥ = cc in no)
words_stay globals m values Lwu Srlw a (Name g) h = absurd (let no : ⊥ = cc in no)
words_stay globals m values Lwu Addw a b h = absurd (let no : ⊥ = cc in no)
words_stay globals m values Lwu Subw a b h = absurd (let no : ⊥ = cc in no)
words_stay globals m values Lwu Sllw a b h = absurd (let no : ⊥ = cc in no)
words_stay globals m values Lwu Sraw a b h = absurd (let no : ⊥ = cc in no)
words_stay globals m values Lwu Mulw a b h = absurd (let no : ⊥ = cc in no)
words_stay globals m values Lwu Divw a b h = absurd (let no : ⊥ = cc in no)
words_stay globals m values Lwu Divuw a b h = absurd (let no : ⊥ = cc in no)
words_stay globals m values Lwu Remw a b h = absurd (let no : ⊥ = cc in no)
words_stay globals m values Lwu Remuw a b h = absurd (let no : ⊥ = cc in no)
words_stay globals m values Lb w a b h = absurd (let no : ⊥ = cc in no)
words_stay globals m values Lh w a b h = absurd (let no : ⊥ = cc in no)
words_stay globals m values Ld w a b h = absurd (let no : ⊥ = cc in no)
words_stay globals m values Lbu w a b h = absurd (let no : ⊥ = cc in no)
words_stay globals m values Lhu w a b h = absurd (let no : ⊥ = cc in no)

module _ (globals : List Value) (m : Memory) (values : Values ℕ) where
  abbrev Stays : LoadOp → Option Value → Type 0
  Stays op o = extended_as op o ≡ o

  shifts_stay : (op : LoadOp) (back : RegOp) (a : Operand ℕ) (n : ℕ) (from : Option LoadOp) → by_shifts back n ≡ from → covers_some op from ≡ true → Stays op (twice m back n (value_of globals values a))
  shifts_stay op back a n (Some from) is h = subst (Stays op) (sym (shifted_as m (value_of globals values a) back n from is)) (covered_as op from h (value_of globals values a))
  shifts_stay op back a n None is h = absurd (let no : ⊥ = cc in no)

  pub extended_stays : (op : LoadOp) (e : Expression) (o : Option Value) → is_extended op e ≡ true → gives globals m values e ≡ Gives o → Stays op o
  extended_stays op (Loaded from a d) o h is =
      subst (Stays op) (given_one (option_and_then (loaded m from) (reached globals m values a d)) o is) (covered_load m op from h (reached globals m values a d))
  extended_stays op (Extended back a n) o h is = subst (Stays op) (gives_one (twice m back n (value_of globals values a)) o is) (shifts_stay op back a n (by_shifts back n) refl h)
  extended_stays op (Operated (Reg And) a (Number n)) o h is =
      let small : n < 2 ^ room op = grind (arith, nat_tests) in
      subst (Stays op) (gives_one (operated m (Reg And) (value_of globals values a) (number n)) o is) (masked_stays m op n small (value_of globals values a))
  extended_stays op (Operated (RegW w) a b) o h is =
      subst (Stays op) (gives_one (operated m (RegW w) (value_of globals values a) (value_of globals values b)) o is) (words_stay globals m values op w (value_of globals values a) b h)
  extended_stays op (Operated (Reg And) a (At q)) o h is = absurd (let no : ⊥ = cc in no)
  extended_stays op (Operated (Reg And) a (Name g)) o h is = absurd (let no : ⊥ = cc in no)
  extended_stays op (Operated (Reg Add) a b) o h is = absurd (let no : ⊥ = cc in no)
  extended_stays op (Operated (Reg Sub) a b) o h is = absurd (let no : ⊥ = cc in no)
  extended_stays op (Operated (Reg Sll) a b) o h is = absurd (let no : ⊥ = cc in no)
  extended_stays op (Operated (Reg Slt) a b) o h is = absurd (let no : ⊥ = cc in no)
  extended_stays op (Operated (Reg Sltu) a b) o h is = absurd (let no : ⊥ = cc in no)
  extended_stays op (Operated (Reg Xor) a b) o h is = absurd (let no : ⊥ = cc in no)
  extended_stays op (Operated (Reg Srl) a b) o h is = absurd (let no : ⊥ = cc in no)
  extended_stays op (Operated (Reg Sra) a b) o h is = absurd (let no : ⊥ = cc in no)
  extended_stays op (Operated (Reg Or) a b) o h is = absurd (let no : ⊥ = cc in no)
  extended_stays op (Operated (Reg Mul) a b) o h is = absurd (let no : ⊥ = cc in no)
  extended_stays op (Operated (Reg Mulh) a b) o h is = absurd (let no : ⊥ = cc in no)
  extended_stays op (Operated (Reg Mulhsu) a b) o h is = absurd (let no : ⊥ = cc in no)
  extended_stays op (Operated (Reg Mulhu) a b) o h is = absurd (let no : ⊥ = cc in no)
  extended_stays op (Operated (Reg Div) a b) o h is = absurd (let no : ⊥ = cc in no)
  extended_stays op (Operated (Reg Divu) a b) o h is = absurd (let no : ⊥ = cc in no)
  extended_stays op (Operated (Reg Rem) a b) o h is = absurd (let no : ⊥ = cc in no)
  extended_stays op (Operated (Reg Remu) a b) o h is = absurd (let no : ⊥ = cc in no)
  extended_stays op (Operated (Compare on k) a b) o h is = absurd (let no : ⊥ = cc in no)
  extended_stays op (Same a) o h is = absurd (let no : ⊥ = cc in no)
  extended_stays op (Linear b i c q) o h is = absurd (let no : ⊥ = cc in no)
  extended_stays op (Growing a n) o h is = absurd (let no : ⊥ = cc in no)

  -- so a register that is extended already is its own extension
  pub itself_same : (op : LoadOp) (e held : Expression) (r : ℕ) → extension_in e ≡ Some (record { load = op; operand = At r }) → is_extended op held ≡ true → gives globals m values held ≡ Gives (values r) → gives globals m values e ≡ Gives (values r)
  itself_same op e held r extension h is = extension_gives globals m values e (record { load = op; operand = At r }) extension ∙ ap Gives (extended_stays op held (values r) h is)

-- ---- what was loaded, extended the other way

turned_value : (op : LoadOp) (v : Value) (o : Option Value) → given (extended (other_way op) v) ≡ Gives o → given (extended op v) ≡ Gives (extended_as op o)
turned_value op (Integer n) o h =
    let is : Some (Integer (low (other_way op) n)) ≡ o = gives_one (Some (Integer (low (other_way op) n))) o h in
    ap (λ (k : ℕ). Gives (Some (Integer k))) (sym (turned op n)) ∙ ap (λ (x : Option Value). Gives (extended_as op x)) is
turned_value Lb (Pointer b k) o h = absurd (let no : ⊥ = cc in no)
turned_value Lh (Pointer b k) o h = absurd (let no : ⊥ = cc in no)
turned_value Lw (Pointer b k) o h = absurd (let no : ⊥ = cc in no)
turned_value Ld (Pointer b k) o h = ap (λ (x : Option Value). Gives (extended_as Ld x)) (gives_one (Some (Pointer b k)) o h)
turned_value Lbu (Pointer b k) o h = absurd (let no : ⊥ = cc in no)
turned_value Lhu (Pointer b k) o h = absurd (let no : ⊥ = cc in no)
turned_value Lwu (Pointer b k) o h = absurd (let no : ⊥ = cc in no)
turned_value Lb (Function f) o h = absurd (let no : ⊥ = cc in no)
turned_value Lh (Function f) o h = absurd (let no : ⊥ = cc in no)
turned_value Lw (Function f) o h = absurd (let no : ⊥ = cc in no)
turned_value Ld (Function f) o h = ap (λ (x : Option Value). Gives (extended_as Ld x)) (gives_one (Some (Function f)) o h)
turned_value Lbu (Function f) o h = absurd (let no : ⊥ = cc in no)
turned_value Lhu (Function f) o h = absurd (let no : ⊥ = cc in no)
turned_value Lwu (Function f) o h = absurd (let no : ⊥ = cc in no)

same_size : (op : LoadOp) → load_size (other_way op) ≡ load_size op
same_size Lb = refl
same_size Lh = refl
same_size Lw = refl
same_size Ld = refl
same_size Lbu = refl
same_size Lhu = refl
same_size Lwu = refl

turned_read : (op : LoadOp) (v o : Option Value) → given (extended_as (other_way op) v) ≡ Gives o → given (extended_as op v) ≡ Gives (extended_as op o)
turned_read op None o h = absurd (let no : ⊥ = cc in no)
turned_read op (Some v) o h = turned_value op v o h

turned_load : (m : Memory) (op : LoadOp) (p o : Option Value) → given (option_and_then (loaded m (other_way op)) p) ≡ Gives o → given (option_and_then (loaded m op) p) ≡ Gives (extended_as op o)
unfolding loaded
turned_load m op None o h = absurd (let no : ⊥ = cc in no)
turned_load m op (Some p) o h = turned_read op (load m (load_size op) p) o (ap (λ (n : ℕ). given (extended_as (other_way op) (load m n p))) (sym (same_size op)) ∙ h)

pub reloaded_same : (globals : List Value) (m : Memory) (values : Values ℕ) (op : LoadOp) (e : Expression) (a : Operand ℕ) (d r : ℕ) → extension_in e ≡ Some (record { load = op; operand = At r }) → gives globals m values (Loaded (other_way op) a d) ≡ Gives (values r)
    → gives globals m values (Loaded op a d) ≡ gives globals m values e
reloaded_same globals m values op e a d r extension is =
    turned_load m op (reached globals m values a d) (values r) is ∙ sym (extension_gives globals m values e (record { load = op; operand = At r }) extension)
