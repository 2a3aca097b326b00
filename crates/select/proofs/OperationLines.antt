-- The lines of an operation set its register to what the operation gives.
use Rattle.std.proofs.Common.{◌≡◌, ℕ, ◌+◌, ◌-◌, ◌%◌, ◌^◌, ◌<◌, Bool, true, false, List, [], ◌∷◌, refl, sym, ◌∙◌, ap, subst, arith, Option, Some, None, bit_and, option_map, option_and_then}
use Rattle.std.specs.Int.{w8, w16, w64, cast_signed, cast_unsigned}
use Rattle.std.proofs.lemmas.Nat.{and_mod, or_mod, xor_mod}
use Rattle.bits.specs.Words.{sign_extended}
use Rattle.il_ast.specs.declared.operation.Class.{Class}
use Rattle.il_ast.specs.declared.operation.Class.TheVariants.{W, L}
use Rattle.il_ast.specs.declared.operation.Extension.{Extension}
use Rattle.il_ast.specs.declared.operation.Extension.TheVariants.{SignedWord, UnsignedWord, SignedHalf, UnsignedHalf, SignedByte, UnsignedByte}
use Rattle.il_ast.specs.declared.operation.UnaryOp.{UnaryOp}
use Rattle.il_ast.specs.declared.operation.UnaryOp.TheVariants.{Neg, Copy, Extend, LoadLong, Load as LoadNarrow}
use Rattle.il_ast.specs.declared.operation.BinaryOp.{BinaryOp}
use Rattle.il_ast.specs.declared.operation.BinaryOp.TheVariants.{Add, Sub, Mul, And, Or, Xor, Div, Rem, Udiv, Urem, Sar, Shr, Shl, Compare}
use Rattle.il_ast.specs.declared.operation.Condition.{Condition}
use Rattle.il_ast.specs.declared.value.Value.{Value}
use Rattle.il_ast.specs.declared.value.Value.TheVariants.{Integer, Pointer, Function}
use Rattle.il_ast.specs.Prelude.{in_place, Memory, load, operand_class, left_class, right_class, truth, holds, on_integers, compare_places, on_places, extended, extension_bytes, widened, operate_one, operate_two}
use Rattle.rv_isa.specs.declared.instruction.RegOp.{RegOp}
use Rattle.rv_isa.specs.declared.instruction.RegOp.TheVariants.{Add as AddReg, Sub as SubReg, Sll as SllReg, Srl as SrlReg, Sra as SraReg, Xor as XorReg, Or as OrReg, And as AndReg, Mul as MulReg, Div as DivReg, Divu as DivuReg, Rem as RemReg, Remu as RemuReg}
use Rattle.rv_isa.specs.declared.instruction.RegWOp.{RegWOp}
use Rattle.rv_isa.specs.declared.instruction.RegWOp.TheVariants.{Addw, Subw, Sllw, Srlw, Sraw, Mulw, Divw, Divuw, Remw, Remuw}
use Rattle.rv_isa.specs.declared.instruction.LoadOp.TheVariants.{Ld}
use Rattle.rv_isa.specs.Prelude.{reg_value, regw_value, word_value, load_size}
use Rattle.rv_isa.proofs.RangeLemmas.{word_value_fits}
use Rattle.vcode.specs.declared.place.Operand.{Operand}
use Rattle.vcode.specs.declared.place.Operand.TheVariants.{At, Number}
use Rattle.vcode.specs.declared.line.Operation.TheVariants.{Reg, RegW, Compare as CompareValues}
use Rattle.vcode.specs.declared.line.Comparison.{Comparison}
use Rattle.vcode.specs.declared.line.Line.{Line}
use Rattle.vcode.specs.Prelude.{at_once, held, reg_on_places, operate, loaded, extended as extended_load, State, value_of}
use Rattle.vcode.specs.declared.line.Line.TheVariants.{Set, Operate, Load}
use Rattle.select.specs.Selected.{is_whole, are_whole, word, words_compared, comparison_of, word_line, word_of, bits_of_words, bit_lines, compare_line, as_word, shifted, extend_lines, load_of, copy_lines, negate_lines, unary_lines, binary_lines}
use Rattle.select.specs.Typed.{Classes, HasResult}
use Rattle.vcode.proofs.Comparing.{holds_extended}
use Rattle.select.proofs.Going.{Setting}
use Rattle.select.proofs.Numbers.{WordRight, LongRight, ShiftRight, add_word, sub_word, mul_word, shl_word, shr_word, sar_word, div_word, rem_word, udiv_word, urem_word, add_long, sub_long, mul_long, and_long, or_long, xor_long, div_long, rem_long, udiv_long, urem_long, shl_long, shr_long, sar_long}
use Rattle.select.proofs.Registers.{Reads, long_same, Stands}
use Rattle.select.proofs.WholeWords.{extended_low, BitsStay, and_stays, or_stays, xor_stays}
use Rattle.select.proofs.Widening.{word_plus_zero, negated_word, negated_long, back_32, back_48, half_back, byte_back, half_in_word, byte_in_word, word_in_word, small_in_word, low_byte}
use Rattle.select.proofs.Yielding.{Yields, yields_one, yields_two, set_line, operate_line, load_line}
use Rattle.il_ast.proofs.Truth.{and_first, and_second}
use Rattle.il_ast.proofs.Chosen.{same_chosen}
use Rattle.il_ast.proofs.Wrapping.{low_twice}

-- ---- values

none_value : {v : Value} → None ≡ Some v → ⊥
none_value h = cc

-- what a word's place reads is an integer
record IsWord (v u : Value) : Type 0 where
  number : ℕ
  is : v ≡ Integer number
  read : u ≡ Integer (number % 2 ^ 32)

is_word : (v u : Value) → in_place W v ≡ Some u → IsWord v u
is_word (Integer n) u h = record { number = n; is = refl; read = sym (same_chosen h) }
is_word (Pointer b o) u h = absurd (none_value h)
is_word (Function f) u h = absurd (none_value h)

yields_same : (c : Setting) (t : State ℕ) (ls : List (Line ℕ)) (p : ℕ) (x y : Value) → x ≡ y → Yields c t ls p x → Yields c t ls p y
yields_same c t ls p x y e h = subst (Yields c t ls p) e h

-- ---- words

as_word_yields : (c : Setting) (t : State ℕ) (p : ℕ) (a : Operand ℕ) (u : Value) → Reads c.globals t.values a W u → Yields c t (as_word p a ∷ []) p (held W u)
unfolding operate
as_word_yields c t p a u r =
    let w = is_word r.value u r.read_as in
    let n = w.number in
    yields_same c t (as_word p a ∷ []) p (Integer (sign_extended ((n % 2 ^ 32 + 0 % 2 ^ 32) % 2 ^ 32))) (held W u)
    (ap (λ k. Integer (sign_extended k)) (word_plus_zero n ∙ sym (low_twice n)) ∙ ap (held W) (sym w.read))
    (yields_one c t (as_word p a) p (Integer (sign_extended ((n % 2 ^ 32 + 0 % 2 ^ 32) % 2 ^ 32)))
    (operate_line c t p (RegW Addw) a (Number 0) (Integer n) (Integer 0) _ (r.is ∙ ap Some w.is) refl refl))

-- where the word stands sign-extended it is taken as it stands
word_yields : (classes : Classes) (c : Setting) (t : State ℕ) (p : ℕ) (a : Operand ℕ) (u : Value) → Reads c.globals t.values a W u → Stands classes c.globals t.values W a u → Yields c t (word_of classes p a ∷ []) p (held W u)
word_yields classes c t p a u r s = by (is_whole classes a) refl
  where
    by : (whole : Bool) → is_whole classes a ≡ whole → Yields c t (word_line p a whole ∷ []) p (held W u)
    by true e = yields_one c t (Set p (word a)) p (held W u) (set_line c t p (word a) (held W u) (s e))
    by false e = as_word_yields c t p a u r

-- an operation of the machine, and one of which the low 32 bits count
abbrev reg : ℕ → RegOp → Operand ℕ → Operand ℕ → List (Line ℕ)
reg t op a b = Operate t (Reg op) a b ∷ []

abbrev regw : ℕ → RegWOp → Operand ℕ → Operand ℕ → List (Line ℕ)
regw t op a b = Operate t (RegW op) a b ∷ []

abbrev low_reg : ℕ → RegOp → Operand ℕ → Operand ℕ → List (Line ℕ)
low_reg t op a b = Operate t (Reg op) a b ∷ as_word t (At t) ∷ []

-- an operation of the machine on words
regw_line : (m : Memory) (rop : RegWOp) (bop : BinaryOp) → WordRight rop bop → (a b : ℕ) (x : Value) → option_map Integer (on_integers bop W (a % 2 ^ 32) (b % 2 ^ 32)) ≡ Some x → Integer (regw_value rop a b) ≡ held W x
regw_line m rop bop right a b x h = by (on_integers bop W (a % 2 ^ 32) (b % 2 ^ 32)) refl h
  where
    by : (o : Option ℕ) → on_integers bop W (a % 2 ^ 32) (b % 2 ^ 32) ≡ o → option_map Integer o ≡ Some x → Integer (regw_value rop a b) ≡ held W x
    by None e f = absurd (none_value f)
    by (Some y) e f =
        let is : word_value rop (a % 2 ^ 32) (b % 2 ^ 32) ≡ y = right (a % 2 ^ 32) (b % 2 ^ 32) y e in
        let fits : word_value rop (a % 2 ^ 32) (b % 2 ^ 32) < 2 ^ 32 = word_value_fits rop (a % 2 ^ 32) (b % 2 ^ 32) (omega arith) (omega arith) in
        let whole : word_value rop (a % 2 ^ 32) (b % 2 ^ 32) ≡ y % 2 ^ 32 = omega (arith, is, fits) in
        ap (λ k. Integer (sign_extended k)) whole ∙ ap (held W) (same_chosen f)

two_words : (m : Memory) (bop : BinaryOp) (u v x : Value) (a b : ℕ) → u ≡ Integer a → v ≡ Integer b → operate_two m bop W u v ≡ Some x → option_map Integer (on_integers bop W a b) ≡ Some x
unfolding operate_two
two_words m bop u v x a b e f h = ap (λ k. operate_two m bop W k (Integer b)) (sym e) ∙ ap (operate_two m bop W u) (sym f) ∙ h

regw_yields : (c : Setting) (t : State ℕ) (p : ℕ) (rop : RegWOp) (bop : BinaryOp) → WordRight rop bop → (a b : Operand ℕ) (u v x : Value) → Reads c.globals t.values a W u → Reads c.globals t.values b W v → operate_two t.memory bop W u v ≡ Some x → Yields c t (regw p rop a b) p (held W x)
unfolding operate
regw_yields c t p rop bop right a b u v x r q h =
    let w = is_word r.value u r.read_as in
    let z = is_word q.value v q.read_as in
    yields_same c t (regw p rop a b) p (Integer (regw_value rop w.number z.number)) (held W x)
    (regw_line t.memory rop bop right w.number z.number x (two_words t.memory bop u v x (w.number % 2 ^ 32) (z.number % 2 ^ 32) w.read z.read h))
    (yields_one c t (Operate p (RegW rop) a b) p (Integer (regw_value rop w.number z.number))
    (operate_line c t p (RegW rop) a b (Integer w.number) (Integer z.number) _ (r.is ∙ ap Some w.is) (q.is ∙ ap Some z.is) refl))

-- ---- longs

-- the operation on two longs, pointers among them, is the source's
abbrev PlacesRight : RegOp → BinaryOp → Type 0
PlacesRight rop bop = (m : Memory) (u v x : Value) → on_places m bop u v ≡ Some x → reg_on_places m rop u v ≡ Some x

number_right : (rop : RegOp) (bop : BinaryOp) → LongRight rop bop → (a b : ℕ) (x : Value) → option_map Integer (on_integers bop L a b) ≡ Some x → Some (Integer (reg_value rop a b)) ≡ Some x
number_right rop bop right a b x h = by (on_integers bop L a b) refl h
  where
    by : (o : Option ℕ) → on_integers bop L a b ≡ o → option_map Integer o ≡ Some x → Some (Integer (reg_value rop a b)) ≡ Some x
    by None e f = absurd (none_value f)
    by (Some y) e f = ap (λ k. Some (Integer k)) (right a b y e) ∙ f

long_right : (m : Memory) (rop : RegOp) (bop : BinaryOp) → LongRight rop bop → PlacesRight rop bop → (u v x : Value) → operate_two m bop L u v ≡ Some x → operate m (Reg rop) u v ≡ Some x
unfolding operate_two operate
long_right m rop bop right places (Integer a) (Integer b) x h = number_right rop bop right a b x h
long_right m rop bop right places (Integer a) (Pointer b o) x h = places m (Integer a) (Pointer b o) x h
long_right m rop bop right places (Integer a) (Function f) x h = places m (Integer a) (Function f) x h
long_right m rop bop right places (Pointer b o) (Integer a) x h = places m (Pointer b o) (Integer a) x h
long_right m rop bop right places (Pointer b o) (Pointer a q) x h = places m (Pointer b o) (Pointer a q) x h
long_right m rop bop right places (Pointer b o) (Function f) x h = places m (Pointer b o) (Function f) x h
long_right m rop bop right places (Function f) (Integer a) x h = places m (Function f) (Integer a) x h
long_right m rop bop right places (Function f) (Pointer b o) x h = places m (Function f) (Pointer b o) x h
long_right m rop bop right places (Function f) (Function g) x h = places m (Function f) (Function g) x h

reg_yields : (c : Setting) (t : State ℕ) (p : ℕ) (rop : RegOp) (bop : BinaryOp) → LongRight rop bop → PlacesRight rop bop → (a b : Operand ℕ) (u v x : Value) → Reads c.globals t.values a L u → Reads c.globals t.values b L v → operate_two t.memory bop L u v ≡ Some x → Yields c t (reg p rop a b) p x
reg_yields c t p rop bop right places a b u v x r q h =
    yields_one c t (Operate p (Reg rop) a b) p x
    (operate_line c t p (Reg rop) a b u v x (long_same c.globals t.values a u r) (long_same c.globals t.values b v q) (long_right t.memory rop bop right places u v x h))

-- a shift, whose amount is a word
shift_right : (m : Memory) (rop : RegOp) (bop : BinaryOp) → ShiftRight rop bop → ((u v : Value) → on_places m bop u v ≡ None) → (u x : Value) (n : ℕ) → operate_two m bop L u (Integer (n % 2 ^ 32)) ≡ Some x → operate m (Reg rop) u (Integer n) ≡ Some x
unfolding operate_two operate
shift_right m rop bop right nowhere (Integer a) x n h = by (on_integers bop L a (n % 2 ^ 32)) refl h
  where
    by : (o : Option ℕ) → on_integers bop L a (n % 2 ^ 32) ≡ o → option_map Integer o ≡ Some x → Some (Integer (reg_value rop a n)) ≡ Some x
    by None e f = absurd (none_value f)
    by (Some y) e f = ap (λ k. Some (Integer k)) (right a n y e) ∙ f
shift_right m rop bop right nowhere (Pointer b o) x n h = absurd (none_value (sym (nowhere (Pointer b o) (Integer (n % 2 ^ 32))) ∙ h))
shift_right m rop bop right nowhere (Function f) x n h = absurd (none_value (sym (nowhere (Function f) (Integer (n % 2 ^ 32))) ∙ h))

pub shift_yields : (c : Setting) (t : State ℕ) (p : ℕ) (rop : RegOp) (bop : BinaryOp) → ShiftRight rop bop → ((u v : Value) → on_places t.memory bop u v ≡ None) → (a b : Operand ℕ) (u v x : Value) → Reads c.globals t.values a L u → Reads c.globals t.values b W v → operate_two t.memory bop L u v ≡ Some x → Yields c t (reg p rop a b) p x
shift_yields c t p rop bop right nowhere a b u v x r q h =
    let z = is_word q.value v q.read_as in
    yields_one c t (Operate p (Reg rop) a b) p x
    (operate_line c t p (Reg rop) a b u (Integer z.number) x (long_same c.globals t.values a u r) (q.is ∙ ap Some z.is)
    (shift_right t.memory rop bop right nowhere u x z.number (ap (operate_two t.memory bop L u) (sym z.read) ∙ h)))

-- ---- bits of words, of which the low 32 count

abbrev BitsRight : RegOp → BinaryOp → Type 0
BitsRight rop bop = (a b x : ℕ) → on_integers bop W (a % 2 ^ 32) (b % 2 ^ 32) ≡ Some x → reg_value rop a b % 2 ^ 32 ≡ x

and_bits : BitsRight AndReg And
and_bits a b x h = and_mod a b 32 ∙ same_chosen h

or_bits : BitsRight OrReg Or
or_bits a b x h = or_mod a b 32 ∙ same_chosen h

xor_bits : BitsRight XorReg Xor
xor_bits a b x h = xor_mod a b 32 ∙ same_chosen h

low_bits_are : (rop : RegOp) (bop : BinaryOp) → BitsRight rop bop → (a b : ℕ) (x : Value) → option_map Integer (on_integers bop W (a % 2 ^ 32) (b % 2 ^ 32)) ≡ Some x → Integer (sign_extended ((reg_value rop a b % 2 ^ 32 + 0 % 2 ^ 32) % 2 ^ 32)) ≡ held W x
low_bits_are rop bop right a b x h = by (on_integers bop W (a % 2 ^ 32) (b % 2 ^ 32)) refl h
  where
    by : (o : Option ℕ) → on_integers bop W (a % 2 ^ 32) (b % 2 ^ 32) ≡ o → option_map Integer o ≡ Some x → Integer (sign_extended ((reg_value rop a b % 2 ^ 32 + 0 % 2 ^ 32) % 2 ^ 32)) ≡ held W x
    by None e f = absurd (none_value f)
    by (Some y) e f =
        ap (λ k. Integer (sign_extended k)) (word_plus_zero (reg_value rop a b) ∙ sym (low_twice (reg_value rop a b)) ∙ ap (λ k. k % 2 ^ 32) (right a b y e))
        ∙ ap (held W) (same_chosen f)

bits_yield : (c : Setting) (t : State ℕ) (p : ℕ) (rop : RegOp) (bop : BinaryOp) → BitsRight rop bop → (a b : Operand ℕ) (u v x : Value) → Reads c.globals t.values a W u → Reads c.globals t.values b W v → operate_two t.memory bop W u v ≡ Some x → Yields c t (low_reg p rop a b) p (held W x)
unfolding operate
bits_yield c t p rop bop right a b u v x r q h =
    let w = is_word r.value u r.read_as in
    let z = is_word q.value v q.read_as in
    let y = reg_value rop w.number z.number in
    yields_same c t (low_reg p rop a b) p (Integer (sign_extended ((y % 2 ^ 32 + 0 % 2 ^ 32) % 2 ^ 32))) (held W x)
    (low_bits_are rop bop right w.number z.number x (two_words t.memory bop u v x (w.number % 2 ^ 32) (z.number % 2 ^ 32) w.read z.read h))
    (yields_two c t (Operate p (Reg rop) a b) (as_word p (At p)) p (Integer y) (Integer (sign_extended ((y % 2 ^ 32 + 0 % 2 ^ 32) % 2 ^ 32)))
    (operate_line c t p (Reg rop) a b (Integer w.number) (Integer z.number) (Integer y) (r.is ∙ ap Some w.is) (q.is ∙ ap Some z.is) refl)
    (λ s m e. operate_line c s p (RegW Addw) (At p) (Number 0) (Integer y) (Integer 0) _ e refl refl))

-- of two words that stand sign-extended

-- the word that the bits give stands sign-extended
words_give : (rop : RegOp) (bop : BinaryOp) → BitsRight rop bop → BitsStay rop → (a b : ℕ) (x : Value) → option_map Integer (on_integers bop W (a % 2 ^ 32) (b % 2 ^ 32)) ≡ Some x → Integer (reg_value rop (sign_extended (a % 2 ^ 32 % 2 ^ 32)) (sign_extended (b % 2 ^ 32 % 2 ^ 32))) ≡ held W x
words_give rop bop right stay a b x h = by (on_integers bop W (a % 2 ^ 32) (b % 2 ^ 32)) refl h
  where
    by : (o : Option ℕ) → on_integers bop W (a % 2 ^ 32) (b % 2 ^ 32) ≡ o → option_map Integer o ≡ Some x → Integer (reg_value rop (sign_extended (a % 2 ^ 32 % 2 ^ 32)) (sign_extended (b % 2 ^ 32 % 2 ^ 32))) ≡ held W x
    by None e f = absurd (none_value f)
    by (Some y) e f =
        let first : sign_extended (a % 2 ^ 32 % 2 ^ 32) % 2 ^ 32 ≡ a % 2 ^ 32 = extended_low (a % 2 ^ 32 % 2 ^ 32) (omega arith) ∙ low_twice a in
        let second : sign_extended (b % 2 ^ 32 % 2 ^ 32) % 2 ^ 32 ≡ b % 2 ^ 32 = extended_low (b % 2 ^ 32 % 2 ^ 32) (omega arith) ∙ low_twice b in
        let low : reg_value rop (sign_extended (a % 2 ^ 32 % 2 ^ 32)) (sign_extended (b % 2 ^ 32 % 2 ^ 32)) % 2 ^ 32 ≡ y =
        right (sign_extended (a % 2 ^ 32 % 2 ^ 32)) (sign_extended (b % 2 ^ 32 % 2 ^ 32)) y
        (ap (λ k. on_integers bop W k (sign_extended (b % 2 ^ 32 % 2 ^ 32) % 2 ^ 32)) first ∙ ap (on_integers bop W (a % 2 ^ 32)) second ∙ e) in
        ap Integer (sym (stay (a % 2 ^ 32 % 2 ^ 32) (b % 2 ^ 32 % 2 ^ 32) (omega arith) (omega arith)))
        ∙ ap (λ k. Integer (sign_extended k)) (sym (low_twice (reg_value rop (sign_extended (a % 2 ^ 32 % 2 ^ 32)) (sign_extended (b % 2 ^ 32 % 2 ^ 32)))))
        ∙ ap (λ k. Integer (sign_extended (k % 2 ^ 32))) low
        ∙ ap (held W) (same_chosen f)

words_yield : (classes : Classes) (c : Setting) (t : State ℕ) (p : ℕ) (rop : RegOp) (bop : BinaryOp) → BitsRight rop bop → BitsStay rop → (a b : Operand ℕ) (u v x : Value) → Reads c.globals t.values a W u → Reads c.globals t.values b W v → Stands classes c.globals t.values W a u → Stands classes c.globals t.values W b v → operate_two t.memory bop W u v ≡ Some x → Yields c t (bit_lines classes p rop a b) p (held W x)
unfolding operate
words_yield classes c t p rop bop right stay a b u v x r q s z h = by (are_whole classes a b) refl
  where
    by : (whole : Bool) → are_whole classes a b ≡ whole → Yields c t (bits_of_words p rop a b whole) p (held W x)
    by true e =
        let w = is_word r.value u r.read_as in
        let y = is_word q.value v q.read_as in
        let i = sign_extended (w.number % 2 ^ 32 % 2 ^ 32) in
        let j = sign_extended (y.number % 2 ^ 32 % 2 ^ 32) in
        yields_same c t (reg p rop (word a) (word b)) p (Integer (reg_value rop i j)) (held W x)
        (words_give rop bop right stay w.number y.number x (two_words t.memory bop u v x (w.number % 2 ^ 32) (y.number % 2 ^ 32) w.read y.read h))
        (yields_one c t (Operate p (Reg rop) (word a) (word b)) p (Integer (reg_value rop i j))
        (operate_line c t p (Reg rop) (word a) (word b) (Integer i) (Integer j) (Integer (reg_value rop i j))
        (s (and_first (is_whole classes a) (is_whole classes b) e) ∙ ap (λ d. Some (held W d)) w.read)
        (z (and_second (is_whole classes a) (is_whole classes b) e) ∙ ap (λ d. Some (held W d)) y.read) refl))
    by false e = bits_yield c t p rop bop right a b u v x r q h

-- ---- comparisons

-- the class of the result makes no difference
any_class : (m : Memory) (on : Condition) (k i j : Class) (u v : Value) → operate_two m (Compare on k) i u v ≡ operate_two m (Compare on k) j u v
unfolding operate_two
any_class m on k i j (Integer a) (Integer b) = refl
any_class m on k i j (Integer a) (Pointer b o) = refl
any_class m on k i j (Integer a) (Function f) = refl
any_class m on k i j (Pointer b o) (Integer a) = refl
any_class m on k i j (Pointer b o) (Pointer a q) = refl
any_class m on k i j (Pointer b o) (Function f) = refl
any_class m on k i j (Function f) (Integer a) = refl
any_class m on k i j (Function f) (Pointer b o) = refl
any_class m on k i j (Function f) (Function g) = refl

record IsTruth (x : Value) : Type 0 where
  test : Bool
  is : x ≡ Integer (truth test)

mapped_truth : (o : Option Bool) (x : Value) → option_map (λ b. Integer (truth b)) o ≡ Some x → IsTruth x
mapped_truth None x h = absurd (none_value h)
mapped_truth (Some b) x h = record { test = b; is = sym (same_chosen h) }

is_truth : (m : Memory) (on : Condition) (k j : Class) (u v x : Value) → operate_two m (Compare on k) j u v ≡ Some x → IsTruth x
unfolding operate_two
is_truth m on k j (Integer a) (Integer b) x h = record { test = holds on k a b; is = sym (same_chosen h) }
is_truth m on k j (Integer a) (Pointer b o) x h = mapped_truth (compare_places m on (Integer a) (Pointer b o)) x h
is_truth m on k j (Integer a) (Function f) x h = mapped_truth (compare_places m on (Integer a) (Function f)) x h
is_truth m on k j (Pointer b o) (Integer a) x h = mapped_truth (compare_places m on (Pointer b o) (Integer a)) x h
is_truth m on k j (Pointer b o) (Pointer a q) x h = mapped_truth (compare_places m on (Pointer b o) (Pointer a q)) x h
is_truth m on k j (Pointer b o) (Function f) x h = mapped_truth (compare_places m on (Pointer b o) (Function f)) x h
is_truth m on k j (Function f) (Integer a) x h = mapped_truth (compare_places m on (Function f) (Integer a)) x h
is_truth m on k j (Function f) (Pointer b o) x h = mapped_truth (compare_places m on (Function f) (Pointer b o)) x h
is_truth m on k j (Function f) (Function g) x h = mapped_truth (compare_places m on (Function f) (Function g)) x h

truth_held : (j : Class) (b : Bool) → Integer (truth b) ≡ held j (Integer (truth b))
truth_held W true = refl
truth_held W false = refl
truth_held L b = refl

-- what the comparison compares, and what it gives
pub record Gives (globals : List Value) (t : State ℕ) (c : Comparison ℕ) (x : Value) : Type 0 where
  pub left : Value
  pub right : Value
  pub is_left : value_of globals t.values c.left ≡ Some left
  pub is_right : value_of globals t.values c.right ≡ Some right
  pub gives : operate t.memory (CompareValues c.condition c.class) left right ≡ Some x

-- operands that are read in places of the class
read_gives : (globals : List Value) (t : State ℕ) (on : Condition) (k j : Class) (a b : Operand ℕ) (u v x : Value) → Reads globals t.values a k u → Reads globals t.values b k v → operate_two t.memory (Compare on k) j u v ≡ Some x → Gives globals t (record { condition = on; class = k; left = a; right = b }) x
unfolding operate
read_gives globals t on k j a b u v x r q h =
    record {
      left = r.value;
      right = q.value;
      is_left = r.is;
      is_right = q.is;
      gives =
          ap (option_and_then (λ y. option_and_then (λ z. operate_two t.memory (Compare on k) W y z) (in_place k q.value))) r.read_as
          ∙ ap (option_and_then (λ z. operate_two t.memory (Compare on k) W u z)) q.read_as
          ∙ any_class t.memory on k W j u v
          ∙ h;
    }

-- words compare as their extensions do
extended_gives : (m : Memory) (on : Condition) (j : Class) (a b : ℕ) (x : Value) → operate_two m (Compare on W) j (Integer (a % 2 ^ 32)) (Integer (b % 2 ^ 32)) ≡ Some x → operate m (CompareValues on L) (held W (Integer (a % 2 ^ 32))) (held W (Integer (b % 2 ^ 32))) ≡ Some x
unfolding operate operate_two
extended_gives m on j a b x h =
    ap (λ q. Some (Integer (truth q)))
    (holds_extended on (a % 2 ^ 32 % 2 ^ 32) (b % 2 ^ 32 % 2 ^ 32) (omega arith) (omega arith)
    ∙ ap (λ k. holds on W k (b % 2 ^ 32 % 2 ^ 32)) (low_twice a)
    ∙ ap (holds on W (a % 2 ^ 32)) (low_twice b))
    ∙ h

pub comparison_gives : (classes : Classes) (globals : List Value) (t : State ℕ) (on : Condition) (k j : Class) (a b : Operand ℕ) (u v x : Value) → Reads globals t.values a k u → Reads globals t.values b k v → Stands classes globals t.values k a u → Stands classes globals t.values k b v → operate_two t.memory (Compare on k) j u v ≡ Some x → Gives globals t (comparison_of classes on k a b) x
comparison_gives classes globals t on L j a b u v x r q s z h = read_gives globals t on L j a b u v x r q h
comparison_gives classes globals t on W j a b u v x r q s z h = by (are_whole classes a b) refl
  where
    by : (whole : Bool) → are_whole classes a b ≡ whole → Gives globals t (words_compared on a b whole) x
    by true e =
        let w = is_word r.value u r.read_as in
        let y = is_word q.value v q.read_as in
        record {
          left = held W (Integer (w.number % 2 ^ 32));
          right = held W (Integer (y.number % 2 ^ 32));
          is_left = s (and_first (is_whole classes a) (is_whole classes b) e) ∙ ap (λ d. Some (held W d)) w.read;
          is_right = z (and_second (is_whole classes a) (is_whole classes b) e) ∙ ap (λ d. Some (held W d)) y.read;
          gives =
              extended_gives t.memory on j w.number y.number x
              (ap (λ d. operate_two t.memory (Compare on W) j d (Integer (y.number % 2 ^ 32))) (sym w.read) ∙ ap (operate_two t.memory (Compare on W) j u) (sym y.read) ∙ h);
        }
    by false e = read_gives globals t on W j a b u v x r q h

compare_yields : (classes : Classes) (c : Setting) (t : State ℕ) (p : ℕ) (on : Condition) (k j : Class) (a b : Operand ℕ) (u v x : Value) → Reads c.globals t.values a k u → Reads c.globals t.values b k v → Stands classes c.globals t.values k a u → Stands classes c.globals t.values k b v → operate_two t.memory (Compare on k) j u v ≡ Some x → Yields c t (compare_line p (comparison_of classes on k a b) ∷ []) p (held j x)
compare_yields classes c t p on k j a b u v x r q s z h =
    let w = is_truth t.memory on k j u v x h in
    let d = comparison_of classes on k a b in
    let g = comparison_gives classes c.globals t on k j a b u v x r q s z h in
    yields_same c t (compare_line p d ∷ []) p x (held j x) (w.is ∙ truth_held j w.test ∙ ap (held j) (sym w.is))
    (yields_one c t (compare_line p d) p x (operate_line c t p (CompareValues d.condition d.class) d.left d.right g.left g.right x g.is_left g.is_right g.gives))

-- ---- one operand

shifted_yields : (c : Setting) (t : State ℕ) (p : ℕ) (back : RegOp) (bits : ℕ) → bits % 2 ^ 64 ≡ bits → (a : Operand ℕ) (u y : Value) → Reads c.globals t.values a W u → ((n : ℕ) → u ≡ Integer (n % 2 ^ 32) → Integer (reg_value back (reg_value SllReg n bits) bits) ≡ y) → Yields c t (shifted p back bits a) p y
unfolding operate
shifted_yields c t p back bits fits a u y r is =
    let w = is_word r.value u r.read_as in
    let n = w.number in
    yields_same c t (shifted p back bits a) p (Integer (reg_value back (reg_value SllReg n bits) bits)) y (is n w.read)
    (yields_two c t (Operate p (Reg SllReg) a (Number bits)) (Operate p (Reg back) (At p) (Number bits)) p (Integer (reg_value SllReg n bits)) (Integer (reg_value back (reg_value SllReg n bits) bits))
    (operate_line c t p (Reg SllReg) a (Number bits) (Integer n) (Integer bits) (Integer (reg_value SllReg n bits)) (r.is ∙ ap Some w.is) (ap (λ m. Some (Integer m)) fits) refl)
    (λ s m e. operate_line c s p (Reg back) (At p) (Number bits) (Integer (reg_value SllReg n bits)) (Integer bits) _ e (ap (λ m. Some (Integer m)) fits) refl))

extended_is : (e : Extension) (k : Class) (u x : Value) (n : ℕ) → widened e k u ≡ Some x → u ≡ Integer n → x ≡ Integer (extended e k n)
extended_is e k u x n h is = same_chosen (sym h ∙ ap (widened e k) is)

half_held : (k : Class) (n : ℕ) → Integer (cast_unsigned w64 (cast_signed w16 (n % 2 ^ 32 % 2 ^ 16))) ≡ held k (Integer (extended SignedHalf k (n % 2 ^ 32)))
half_held W n = ap Integer (sym (half_in_word (n % 2 ^ 32 % 2 ^ 16) (omega arith)))
half_held L n = refl

byte_held : (k : Class) (n : ℕ) → Integer (cast_unsigned w64 (cast_signed w8 (n % 2 ^ 32 % 2 ^ 8))) ≡ held k (Integer (extended SignedByte k (n % 2 ^ 32)))
byte_held W n = ap Integer (sym (byte_in_word (n % 2 ^ 32 % 2 ^ 8) (omega arith)))
byte_held L n = refl

small_held : (k : Class) (n : ℕ) → n < 2 ^ 31 → Integer n ≡ held k (Integer n)
small_held W n h = ap Integer (sym (small_in_word n h))
small_held L n h = refl

pub extend_yields : (classes : Classes) (c : Setting) (t : State ℕ) (p : ℕ) (e : Extension) (k : Class) (a : Operand ℕ) (u x : Value) → HasResult (Extend e) k → Reads c.globals t.values a W u → Stands classes c.globals t.values W a u → widened e k u ≡ Some x → Yields c t (extend_lines classes p e a) p (held k x)
unfolding operate
extend_yields classes c t p SignedWord k a u x long r s h =
    let w = is_word r.value u r.read_as in
    let is = extended_is SignedWord k u x (w.number % 2 ^ 32) h w.read in
    yields_same c t (word_of classes p a ∷ []) p (held W u) (held k x)
    (ap (held W) w.read ∙ ap (λ j. held j (Integer (extended SignedWord j (w.number % 2 ^ 32)))) (sym long) ∙ ap (held k) (sym is))
    (word_yields classes c t p a u r s)
extend_yields classes c t p UnsignedWord k a u x long r s h =
    shifted_yields c t p SrlReg 32 refl a u (held k x) r
    (λ n is. ap Integer (back_32 n) ∙ ap (λ j. held j (Integer (extended UnsignedWord j (n % 2 ^ 32)))) (sym long)
    ∙ ap (held k) (sym (extended_is UnsignedWord k u x (n % 2 ^ 32) h is)))
extend_yields classes c t p SignedHalf k a u x long r s h =
    shifted_yields c t p SraReg 48 refl a u (held k x) r
    (λ n is. ap Integer (half_back n) ∙ half_held k n ∙ ap (held k) (sym (extended_is SignedHalf k u x (n % 2 ^ 32) h is)))
extend_yields classes c t p UnsignedHalf k a u x long r s h =
    shifted_yields c t p SrlReg 48 refl a u (held k x) r
    (λ n is. ap Integer (back_48 n) ∙ small_held k (n % 2 ^ 32 % 2 ^ 16) (omega arith) ∙ ap (held k) (sym (extended_is UnsignedHalf k u x (n % 2 ^ 32) h is)))
extend_yields classes c t p SignedByte k a u x long r s h =
    shifted_yields c t p SraReg 56 refl a u (held k x) r
    (λ n is. ap Integer (byte_back n) ∙ byte_held k n ∙ ap (held k) (sym (extended_is SignedByte k u x (n % 2 ^ 32) h is)))
extend_yields classes c t p UnsignedByte k a u x long r s h =
    let w = is_word r.value u r.read_as in
    let n = w.number in
    yields_same c t (Operate p (Reg AndReg) a (Number 255) ∷ []) p (Integer (bit_and n 255)) (held k x)
    (ap Integer (low_byte n) ∙ small_held k (n % 2 ^ 32 % 2 ^ 8) (omega arith) ∙ ap (held k) (sym (extended_is UnsignedByte k u x (n % 2 ^ 32) h w.read)))
    (yields_one c t (Operate p (Reg AndReg) a (Number 255)) p (Integer (bit_and n 255))
    (operate_line c t p (Reg AndReg) a (Number 255) (Integer n) (Integer 255) (Integer (bit_and n 255)) (r.is ∙ ap Some w.is) refl refl))

-- a load: the bytes of the same size, widened
narrow_loaded : (e : Extension) (k : Class) (v x : Value) → widened e k v ≡ Some x → extended_load (load_of e k) v ≡ Some (held k x)
narrow_loaded SignedWord W (Integer n) x h = ap (λ y. Some (Integer y)) (sym (word_in_word (n % 2 ^ 32) (omega arith))) ∙ ap (λ y. Some (held W y)) (same_chosen h)
narrow_loaded SignedWord L (Integer n) x h = ap (λ y. Some (held L y)) (same_chosen h)
narrow_loaded UnsignedWord W (Integer n) x h = ap (λ y. Some (Integer (sign_extended y))) (sym (low_twice n)) ∙ ap (λ y. Some (held W y)) (same_chosen h)
narrow_loaded UnsignedWord L (Integer n) x h = ap (λ y. Some (held L y)) (same_chosen h)
narrow_loaded SignedHalf W (Integer n) x h = ap (λ y. Some (Integer y)) (sym (half_in_word (n % 2 ^ 16) (omega arith))) ∙ ap (λ y. Some (held W y)) (same_chosen h)
narrow_loaded SignedHalf L (Integer n) x h = ap (λ y. Some (held L y)) (same_chosen h)
narrow_loaded UnsignedHalf k (Integer n) x h = ap Some (small_held k (n % 2 ^ 16) (omega arith)) ∙ ap (λ y. Some (held k y)) (same_chosen h)
narrow_loaded SignedByte W (Integer n) x h = ap (λ y. Some (Integer y)) (sym (byte_in_word (n % 2 ^ 8) (omega arith))) ∙ ap (λ y. Some (held W y)) (same_chosen h)
narrow_loaded SignedByte L (Integer n) x h = ap (λ y. Some (held L y)) (same_chosen h)
narrow_loaded UnsignedByte k (Integer n) x h = ap Some (small_held k (n % 2 ^ 8) (omega arith)) ∙ ap (λ y. Some (held k y)) (same_chosen h)
narrow_loaded e k (Pointer b o) x h = absurd (none_value h)
narrow_loaded e k (Function f) x h = absurd (none_value h)

same_size : (e : Extension) (k : Class) → load_size (load_of e k) ≡ extension_bytes e
same_size SignedWord k = refl
same_size UnsignedWord W = refl
same_size UnsignedWord L = refl
same_size SignedHalf k = refl
same_size UnsignedHalf k = refl
same_size SignedByte k = refl
same_size UnsignedByte k = refl

load_yields : (c : Setting) (t : State ℕ) (p : ℕ) (e : Extension) (k : Class) (a : Operand ℕ) (u x : Value) → Reads c.globals t.values a L u → option_and_then (widened e k) (load t.memory (extension_bytes e) u) ≡ Some x → Yields c t (Load p (load_of e k) (at_once a) ∷ []) p (held k x)
unfolding loaded
load_yields c t p e k a u x r h =
    yields_one c t (Load p (load_of e k) (at_once a)) p (held k x)
    (load_line c t p (load_of e k) a u (held k x) (long_same c.globals t.values a u r)
    (ap (λ n. option_and_then (extended_load (load_of e k)) (load t.memory n u)) (same_size e k) ∙ by (load t.memory (extension_bytes e) u) h))
  where
    by : (o : Option Value) → option_and_then (widened e k) o ≡ Some x → option_and_then (extended_load (load_of e k)) o ≡ Some (held k x)
    by None f = absurd (none_value f)
    by (Some v) f = narrow_loaded e k v x f

all_loaded : (v : Value) → extended_load Ld v ≡ Some v
all_loaded (Integer n) = refl
all_loaded (Pointer b o) = refl
all_loaded (Function f) = refl

load_long_yields : (c : Setting) (t : State ℕ) (p : ℕ) (a : Operand ℕ) (u x : Value) → Reads c.globals t.values a L u → load t.memory 8 u ≡ Some x → Yields c t (Load p Ld (at_once a) ∷ []) p x
unfolding loaded
load_long_yields c t p a u x r h =
    yields_one c t (Load p Ld (at_once a)) p x
    (load_line c t p Ld a u x (long_same c.globals t.values a u r) (ap (option_and_then (extended_load Ld)) h ∙ all_loaded x))

negate_yields : (c : Setting) (t : State ℕ) (p : ℕ) (k : Class) (a : Operand ℕ) (u x : Value) → Reads c.globals t.values a k u → operate_one t.memory Neg k u ≡ Some x → Yields c t (negate_lines p k a) p (held k x)
unfolding operate operate_one
negate_yields c t p W a u x r h =
    let w = is_word r.value u r.read_as in
    let n = w.number in
    yields_same c t (negate_lines p W a) p (Integer (sign_extended ((0 % 2 ^ 32 + (2 ^ 32 - n % 2 ^ 32)) % 2 ^ 32))) (held W x)
    (ap (λ y. Integer (sign_extended y)) (negated_word n) ∙ ap (held W) (same_chosen (sym (ap (operate_one t.memory Neg W) w.read) ∙ h)))
    (yields_one c t (Operate p (RegW Subw) (Number 0) a) p (Integer (sign_extended ((0 % 2 ^ 32 + (2 ^ 32 - n % 2 ^ 32)) % 2 ^ 32)))
    (operate_line c t p (RegW Subw) (Number 0) a (Integer 0) (Integer n) _ refl (r.is ∙ ap Some w.is) refl))
negate_yields c t p L a (Integer n) x r h =
    yields_same c t (negate_lines p L a) p (Integer ((0 + (2 ^ 64 - n)) % 2 ^ 64)) x
    (ap Integer (negated_long n) ∙ same_chosen h)
    (yields_one c t (Operate p (Reg SubReg) (Number 0) a) p (Integer ((0 + (2 ^ 64 - n)) % 2 ^ 64))
    (operate_line c t p (Reg SubReg) (Number 0) a (Integer 0) (Integer n) _ refl (long_same c.globals t.values a (Integer n) r) refl))
negate_yields c t p L a (Pointer b o) x r h = absurd (none_value h)
negate_yields c t p L a (Function f) x r h = absurd (none_value h)

pub copy_yields : (classes : Classes) (c : Setting) (t : State ℕ) (p : ℕ) (k : Class) (a : Operand ℕ) (u : Value) → Reads c.globals t.values a k u → Stands classes c.globals t.values k a u → Yields c t (copy_lines classes p k a) p (held k u)
copy_yields classes c t p W a u r s = word_yields classes c t p a u r s
copy_yields classes c t p L a u r s = yields_one c t (Set p a) p u (set_line c t p a u (long_same c.globals t.values a u r))

pub unary_yields : (classes : Classes) (c : Setting) (t : State ℕ) (p : ℕ) (op : UnaryOp) (k : Class) (a : Operand ℕ) (u x : Value) → HasResult op k → Reads c.globals t.values a (operand_class op k) u → Stands classes c.globals t.values (operand_class op k) a u → operate_one t.memory op k u ≡ Some x → Yields c t (unary_lines classes p op k a) p (held k x)
unfolding operate_one
unary_yields classes c t p Neg k a u x long r s h = negate_yields c t p k a u x r h
unary_yields classes c t p Copy k a u x long r s h = subst (λ y. Yields c t (copy_lines classes p k a) p (held k y)) (same_chosen h) (copy_yields classes c t p k a u r s)
unary_yields classes c t p (Extend e) k a u x long r s h = extend_yields classes c t p e k a u x long r s h
unary_yields classes c t p LoadLong k a u x long r s h = subst (λ j. Yields c t (Load p Ld (at_once a) ∷ []) p (held j x)) (sym long) (load_long_yields c t p a u x r h)
unary_yields classes c t p (LoadNarrow e) k a u x long r s h = load_yields c t p e k a u x r h

-- ---- two operands

pub binary_yields : (classes : Classes) (c : Setting) (t : State ℕ) (p : ℕ) (op : BinaryOp) (k : Class) (a b : Operand ℕ) (u v x : Value) → Reads c.globals t.values a (left_class op k) u → Reads c.globals t.values b (right_class op k) v → Stands classes c.globals t.values (left_class op k) a u → Stands classes c.globals t.values (right_class op k) b v → operate_two t.memory op k u v ≡ Some x → Yields c t (binary_lines classes p op k a b) p (held k x)
binary_yields classes c t p Add W a b u v x r q s z h = regw_yields c t p Addw Add add_word a b u v x r q h
binary_yields classes c t p Add L a b u v x r q s z h = reg_yields c t p AddReg Add add_long (λ m y z w e. e) a b u v x r q h
binary_yields classes c t p Sub W a b u v x r q s z h = regw_yields c t p Subw Sub sub_word a b u v x r q h
binary_yields classes c t p Sub L a b u v x r q s z h = reg_yields c t p SubReg Sub sub_long (λ m y z w e. e) a b u v x r q h
binary_yields classes c t p Mul W a b u v x r q s z h = regw_yields c t p Mulw Mul mul_word a b u v x r q h
binary_yields classes c t p Mul L a b u v x r q s z h = reg_yields c t p MulReg Mul mul_long (λ m y z w e. absurd (none_value e)) a b u v x r q h
binary_yields classes c t p And W a b u v x r q s z h = words_yield classes c t p AndReg And and_bits and_stays a b u v x r q s z h
binary_yields classes c t p And L a b u v x r q s z h = reg_yields c t p AndReg And and_long (λ m y z w e. absurd (none_value e)) a b u v x r q h
binary_yields classes c t p Or W a b u v x r q s z h = words_yield classes c t p OrReg Or or_bits or_stays a b u v x r q s z h
binary_yields classes c t p Or L a b u v x r q s z h = reg_yields c t p OrReg Or or_long (λ m y z w e. absurd (none_value e)) a b u v x r q h
binary_yields classes c t p Xor W a b u v x r q s z h = words_yield classes c t p XorReg Xor xor_bits xor_stays a b u v x r q s z h
binary_yields classes c t p Xor L a b u v x r q s z h = reg_yields c t p XorReg Xor xor_long (λ m y z w e. absurd (none_value e)) a b u v x r q h
binary_yields classes c t p Div W a b u v x r q s z h = regw_yields c t p Divw Div div_word a b u v x r q h
binary_yields classes c t p Div L a b u v x r q s z h = reg_yields c t p DivReg Div div_long (λ m y z w e. absurd (none_value e)) a b u v x r q h
binary_yields classes c t p Rem W a b u v x r q s z h = regw_yields c t p Remw Rem rem_word a b u v x r q h
binary_yields classes c t p Rem L a b u v x r q s z h = reg_yields c t p RemReg Rem rem_long (λ m y z w e. absurd (none_value e)) a b u v x r q h
binary_yields classes c t p Udiv W a b u v x r q s z h = regw_yields c t p Divuw Udiv udiv_word a b u v x r q h
binary_yields classes c t p Udiv L a b u v x r q s z h = reg_yields c t p DivuReg Udiv udiv_long (λ m y z w e. absurd (none_value e)) a b u v x r q h
binary_yields classes c t p Urem W a b u v x r q s z h = regw_yields c t p Remuw Urem urem_word a b u v x r q h
binary_yields classes c t p Urem L a b u v x r q s z h = reg_yields c t p RemuReg Urem urem_long (λ m y z w e. absurd (none_value e)) a b u v x r q h
binary_yields classes c t p Sar W a b u v x r q s z h = regw_yields c t p Sraw Sar sar_word a b u v x r q h
binary_yields classes c t p Sar L a b u v x r q s z h = shift_yields c t p SraReg Sar sar_long (λ y z. refl) a b u v x r q h
binary_yields classes c t p Shr W a b u v x r q s z h = regw_yields c t p Srlw Shr shr_word a b u v x r q h
binary_yields classes c t p Shr L a b u v x r q s z h = shift_yields c t p SrlReg Shr shr_long (λ y z. refl) a b u v x r q h
binary_yields classes c t p Shl W a b u v x r q s z h = regw_yields c t p Sllw Shl shl_word a b u v x r q h
binary_yields classes c t p Shl L a b u v x r q s z h = shift_yields c t p SllReg Shl shl_long (λ y z. refl) a b u v x r q h
binary_yields classes c t p (Compare on j) k a b u v x r q s z h = compare_yields classes c t p on j k a b u v x r q s z h
