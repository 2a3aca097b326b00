-- Values that stand as whole words, and lines that give them.
use Rattle.std.proofs.Common.{◌≡◌, ℕ, ◌+◌, ◌-◌, ◌%◌, ◌^◌, ◌<◌, ◌≤◌, Bool, true, false, ◌&&◌, ◌||◌, nat_eq, nat_lt, nat_le, if◌then◌else◌, List, Option, Some, None, refl, sym, ◌∙◌, ap, subst, arith, option_map, option_and_then}
use Rattle.std.proofs.lemmas.Bool.Decides.{nat_tests}
use Rattle.std.proofs.lemmas.Int.{ints}
use Rattle.std.proofs.lemmas.Bool.{and_parts}
use Rattle.bits.specs.Words.{sign_extended}
use Rattle.il_ast.specs.declared.operation.Class.{Class}
use Rattle.il_ast.specs.declared.operation.Class.TheVariants.{W}
use Rattle.il_ast.specs.declared.operation.Condition.{Condition}
use Rattle.il_ast.specs.declared.operation.BinaryOp.TheVariants.{Compare as CompareTwo}
use Rattle.il_ast.specs.declared.value.Value.{Value}
use Rattle.il_ast.specs.declared.value.Value.TheVariants.{Integer, Pointer, Function}
use Rattle.il_ast.specs.Prelude.{Memory, load, in_place, holds, truth, compare_places, operate_two}
use Rattle.rv_isa.specs.declared.instruction.RegOp.{RegOp}
use Rattle.rv_isa.specs.declared.instruction.RegOp.TheVariants.{Add, Sub, Sll, Slt, Sltu, Xor, Srl, Sra, Or, And, Mul, Mulh, Mulhsu, Mulhu, Div, Divu, Rem, Remu}
use Rattle.rv_isa.specs.declared.instruction.RegWOp.{RegWOp}
use Rattle.rv_isa.specs.declared.instruction.RegWOp.TheVariants.{Addw}
use Rattle.rv_isa.specs.declared.instruction.LoadOp.{LoadOp}
use Rattle.rv_isa.specs.declared.instruction.LoadOp.TheVariants.{Lb, Lh, Lw, Ld, Lbu, Lhu, Lwu}
use Rattle.rv_isa.specs.Prelude.{reg_value, regw_value, word_value, load_size, load_value}
use Rattle.vcode.specs.declared.place.Operand.{Operand}
use Rattle.vcode.specs.declared.place.Operand.TheVariants.{At, Number, Name}
use Rattle.vcode.specs.declared.line.Operation.{Operation}
use Rattle.vcode.specs.declared.line.Operation.TheVariants.{Reg, RegW, Compare}
use Rattle.vcode.specs.Prelude.{held, operate, extended, loaded, Values, assign, virtual, value_of}
use Rattle.select.proofs.WholeWords.{BitsStay, and_stays, or_stays, xor_stays}
use Rattle.sign_extensions.specs.Whole.{is_whole_number, is_marked, is_whole, keeps_whole, gives_whole, loads_whole}
use Rattle.rv_isa.proofs.RangeLemmas.{word_value_fits}
use Rattle.select.proofs.Widening.{small_in_word}

-- it stands as a word does: a number is the sign extension of its low 32 bits
abbrev pub Whole : Value → Type 0
Whole v = held W v ≡ v

abbrev pub IfWhole : Option Value → Type 0
IfWhole None = Unit {0}
IfWhole (Some v) = Whole v

pub integer_whole : (n : ℕ) → sign_extended (n % 2 ^ 32) ≡ n → Whole (Integer n)
integer_whole n h = ap Integer h

pub whole_number : (n : ℕ) → Whole (Integer n) → sign_extended (n % 2 ^ 32) ≡ n
whole_number n h = by h
  where
    by : Integer (sign_extended (n % 2 ^ 32)) ≡ Integer n → sign_extended (n % 2 ^ 32) ≡ n
    by e = cc

-- ---- numbers

high_number : (n : ℕ) → 2 ^ 64 - 2 ^ 31 ≤ n → n < 2 ^ 64 → sign_extended (n % 2 ^ 32) ≡ n
high_number n h k = grind (arith, ints)

extended_again : (n : ℕ) → n < 2 ^ 32 → sign_extended (sign_extended n % 2 ^ 32) ≡ sign_extended n
extended_again n h = grind (arith, ints)

either_number : (n : ℕ) (a b : Bool) → nat_lt n (2 ^ 31) ≡ a → nat_le (2 ^ 64 - 2 ^ 31) n ≡ b → n < 2 ^ 64 → (a || b) ≡ true → sign_extended (n % 2 ^ 32) ≡ n
either_number n true b e f h k = small_in_word n (let lt : n < 2 ^ 31 = grind (arith, nat_tests) in lt)
either_number n false true e f h k = high_number n (let le : 2 ^ 64 - 2 ^ 31 ≤ n = grind (arith, nat_tests) in le) h
either_number n false false e f h k = absurd (let no : ⊥ = cc in no)

number_whole : (n : ℕ) → is_whole_number n ≡ true → Whole (Integer (n % 2 ^ 64))
number_whole n h = integer_whole (n % 2 ^ 64) (either_number (n % 2 ^ 64) (nat_lt (n % 2 ^ 64) (2 ^ 31)) (nat_le (2 ^ 64 - 2 ^ 31) (n % 2 ^ 64)) refl refl (omega arith) h)

-- ---- registers

-- each marked register holds nothing or a whole value
abbrev pub AreWhole : List Bool → Values ℕ → Type 0
AreWhole marks values = (r : ℕ) → is_marked marks r ≡ true → IfWhole (values r)

pub assign_whole : (marks : List Bool) (values : Values ℕ) (to : ℕ) (o : Option Value) → AreWhole marks values → (is_marked marks to ≡ true → IfWhole o) → AreWhole marks (assign virtual to o values)
assign_whole marks values to o all h r marked = by (nat_eq r to) refl
  where
    by : (b : Bool) → nat_eq r to ≡ b → IfWhole (if b then o else values r)
    by true e = let same : r ≡ to = grind (arith, nat_tests) in h (ap (is_marked marks) (sym same) ∙ marked)
    by false e = all r marked

pub operand_whole : (marks : List Bool) (globals : List Value) (values : Values ℕ) (a : Operand ℕ) → AreWhole marks values → is_whole marks a ≡ true → IfWhole (value_of globals values a)
operand_whole marks globals values (At r) all h = all r h
operand_whole marks globals values (Number n) all h = number_whole n h
operand_whole marks globals values (Name g) all h = absurd (let no : ⊥ = cc in no)

-- ---- operations

regw_whole : (m : Memory) (op : RegWOp) (u v : Value) → IfWhole (operate m (RegW op) u v)
unfolding operate
regw_whole m op (Integer a) (Integer b) = integer_whole (regw_value op a b) (extended_again (word_value op (a % 2 ^ 32) (b % 2 ^ 32)) (word_value_fits op (a % 2 ^ 32) (b % 2 ^ 32) (omega arith) (omega arith)))
regw_whole m op (Integer a) (Pointer b o) = tt
regw_whole m op (Integer a) (Function f) = tt
regw_whole m op (Pointer b o) v = tt
regw_whole m op (Function f) v = tt

bits_whole : (op : RegOp) → BitsStay op → (a b : ℕ) → Whole (Integer a) → Whole (Integer b) → Whole (Integer (reg_value op a b))
bits_whole op stay a b h k =
    let x = whole_number a h in
    let y = whole_number b k in
    integer_whole (reg_value op a b)
    (subst (λ i. sign_extended (reg_value op i b % 2 ^ 32) ≡ reg_value op i b) x
    (subst (λ j. sign_extended (reg_value op (sign_extended (a % 2 ^ 32)) j % 2 ^ 32) ≡ reg_value op (sign_extended (a % 2 ^ 32)) j) y
    (stay (a % 2 ^ 32) (b % 2 ^ 32) (omega arith) (omega arith))))

-- of values that are no two integers: none
abbrev OnlyIntegers : Memory → RegOp → Type 0
OnlyIntegers m op = (u v : Value) → Whole u → Whole v → IfWhole (operate m (Reg op) u v)

and_whole : (m : Memory) → OnlyIntegers m And
unfolding operate
and_whole m (Integer a) (Integer b) h k = bits_whole And and_stays a b h k
and_whole m (Integer a) (Pointer b o) h k = tt
and_whole m (Integer a) (Function f) h k = tt
and_whole m (Pointer b o) v h k = tt
and_whole m (Function f) v h k = tt

or_whole : (m : Memory) → OnlyIntegers m Or
unfolding operate
or_whole m (Integer a) (Integer b) h k = bits_whole Or or_stays a b h k
or_whole m (Integer a) (Pointer b o) h k = tt
or_whole m (Integer a) (Function f) h k = tt
or_whole m (Pointer b o) v h k = tt
or_whole m (Function f) v h k = tt

xor_whole : (m : Memory) → OnlyIntegers m Xor
unfolding operate
xor_whole m (Integer a) (Integer b) h k = bits_whole Xor xor_stays a b h k
xor_whole m (Integer a) (Pointer b o) h k = tt
xor_whole m (Integer a) (Function f) h k = tt
xor_whole m (Pointer b o) v h k = tt
xor_whole m (Function f) v h k = tt

reg_whole : (m : Memory) (op : RegOp) → keeps_whole op ≡ true → OnlyIntegers m op
reg_whole m And h = and_whole m
reg_whole m Or h = or_whole m
reg_whole m Xor h = xor_whole m
reg_whole m Add h = absurd (let no : ⊥ = cc in no)
reg_whole m Sub h = absurd (let no : ⊥ = cc in no)
reg_whole m Sll h = absurd (let no : ⊥ = cc in no)
reg_whole m Slt h = absurd (let no : ⊥ = cc in no)
reg_whole m Sltu h = absurd (let no : ⊥ = cc in no)
reg_whole m Srl h = absurd (let no : ⊥ = cc in no)
reg_whole m Sra h = absurd (let no : ⊥ = cc in no)
reg_whole m Mul h = absurd (let no : ⊥ = cc in no)
reg_whole m Mulh h = absurd (let no : ⊥ = cc in no)
reg_whole m Mulhsu h = absurd (let no : ⊥ = cc in no)
reg_whole m Mulhu h = absurd (let no : ⊥ = cc in no)
reg_whole m Div h = absurd (let no : ⊥ = cc in no)
reg_whole m Divu h = absurd (let no : ⊥ = cc in no)
reg_whole m Rem h = absurd (let no : ⊥ = cc in no)
reg_whole m Remu h = absurd (let no : ⊥ = cc in no)

-- ---- comparisons

truth_whole : (t : Bool) → Whole (Integer (truth t))
truth_whole true = refl
truth_whole false = refl

mapped_whole : (o : Option Bool) → IfWhole (option_map (λ (t : Bool). Integer (truth t)) o)
mapped_whole None = tt
mapped_whole (Some t) = truth_whole t

two_whole : (m : Memory) (on : Condition) (k : Class) (a b : Value) → IfWhole (operate_two m (CompareTwo on k) W a b)
unfolding operate_two
two_whole m on k (Integer a) (Integer b) = truth_whole (holds on k a b)
two_whole m on k (Integer a) (Pointer b o) = mapped_whole (compare_places m on (Integer a) (Pointer b o))
two_whole m on k (Integer a) (Function g) = mapped_whole (compare_places m on (Integer a) (Function g))
two_whole m on k (Pointer a p) (Integer b) = mapped_whole (compare_places m on (Pointer a p) (Integer b))
two_whole m on k (Pointer a p) (Pointer b o) = mapped_whole (compare_places m on (Pointer a p) (Pointer b o))
two_whole m on k (Pointer a p) (Function g) = mapped_whole (compare_places m on (Pointer a p) (Function g))
two_whole m on k (Function f) (Integer b) = mapped_whole (compare_places m on (Function f) (Integer b))
two_whole m on k (Function f) (Pointer b o) = mapped_whole (compare_places m on (Function f) (Pointer b o))
two_whole m on k (Function f) (Function g) = mapped_whole (compare_places m on (Function f) (Function g))

pub then_whole : {X : Type 0} (o : Option X) (f : X → Option Value) → ((x : X) → o ≡ Some x → IfWhole (f x)) → IfWhole (option_and_then f o)
then_whole None f h = tt
then_whole (Some x) f h = h x refl

compare_whole : (m : Memory) (on : Condition) (k : Class) (u v : Value) → IfWhole (operate m (Compare on k) u v)
unfolding operate
compare_whole m on k u v =
    then_whole (in_place k u) (λ x. option_and_then (λ y. operate_two m (CompareTwo on k) W x y) (in_place k v))
    (λ x e. then_whole (in_place k v) (λ y. operate_two m (CompareTwo on k) W x y) (λ y g. two_whole m on k x y))

some_whole : (o : Option Value) (v : Value) → o ≡ Some v → IfWhole o → Whole v
some_whole o v e h = subst IfWhole e h

pub operate_whole : (marks : List Bool) (globals : List Value) (values : Values ℕ) (m : Memory) (op : Operation) (a b : Operand ℕ) (u v : Value) → AreWhole marks values → gives_whole marks op a b ≡ true
    → value_of globals values a ≡ Some u → value_of globals values b ≡ Some v → IfWhole (operate m op u v)
operate_whole marks globals values m (RegW op) a b u v all h x y = regw_whole m op u v
operate_whole marks globals values m (Compare on k) a b u v all h x y = compare_whole m on k u v
operate_whole marks globals values m (Reg op) a b u v all h x y =
    let s = and_parts (keeps_whole op) (is_whole marks a && is_whole marks b) h in
    let t = and_parts (is_whole marks a) (is_whole marks b) s.1 in
    reg_whole m op s.0 u v (some_whole (value_of globals values a) u x (operand_whole marks globals values a all t.0))
    (some_whole (value_of globals values b) v y (operand_whole marks globals values b all t.1))

-- ---- loads

byte_signed : (n : ℕ) → n < 2 ^ 8 → sign_extended (load_value Lb n % 2 ^ 32) ≡ load_value Lb n
byte_signed n h = grind (arith, ints)

half_signed : (n : ℕ) → n < 2 ^ 16 → sign_extended (load_value Lh n % 2 ^ 32) ≡ load_value Lh n
half_signed n h = grind (arith, ints)

word_signed : (n : ℕ) → n < 2 ^ 32 → sign_extended (load_value Lw n % 2 ^ 32) ≡ load_value Lw n
word_signed n h = grind (arith, ints)

loaded_one : (op : LoadOp) (v : Value) → loads_whole op ≡ true → IfWhole (extended op v)
loaded_one Lb (Integer n) h = integer_whole (load_value Lb (n % 2 ^ 8)) (byte_signed (n % 2 ^ 8) (omega arith))
loaded_one Lh (Integer n) h = integer_whole (load_value Lh (n % 2 ^ 16)) (half_signed (n % 2 ^ 16) (omega arith))
loaded_one Lw (Integer n) h = integer_whole (load_value Lw (n % 2 ^ 32)) (word_signed (n % 2 ^ 32) (omega arith))
loaded_one Lbu (Integer n) h = integer_whole (n % 2 ^ 8) (small_in_word (n % 2 ^ 8) (omega arith))
loaded_one Lhu (Integer n) h = integer_whole (n % 2 ^ 16) (small_in_word (n % 2 ^ 16) (omega arith))
loaded_one Ld v h = absurd (let no : ⊥ = cc in no)
loaded_one Lwu v h = absurd (let no : ⊥ = cc in no)
loaded_one Lb (Pointer b o) h = tt
loaded_one Lb (Function f) h = tt
loaded_one Lh (Pointer b o) h = tt
loaded_one Lh (Function f) h = tt
loaded_one Lw (Pointer b o) h = tt
loaded_one Lw (Function f) h = tt
loaded_one Lbu (Pointer b o) h = tt
loaded_one Lbu (Function f) h = tt
loaded_one Lhu (Pointer b o) h = tt
loaded_one Lhu (Function f) h = tt

pub load_whole : (m : Memory) (op : LoadOp) (at : Value) → loads_whole op ≡ true → IfWhole (loaded m op at)
unfolding loaded
load_whole m op at h = then_whole (load m (load_size op) at) (extended op) (λ v e. loaded_one op v h)

-- ---- from outside

pub held_whole : (v : Value) → Whole (held W v)
held_whole (Integer n) = integer_whole (sign_extended (n % 2 ^ 32)) (extended_again (n % 2 ^ 32) (omega arith))
held_whole (Pointer b o) = refl
held_whole (Function f) = refl

-- ---- extensions

-- the low 32 bits of a whole word, extended, are the word
pub extension_is : (k n : ℕ) → n ≡ 0 → Whole (Integer k) → regw_value Addw k (n % 2 ^ 64) ≡ k
extension_is k n zero h =
    let x = whole_number k h in
    let same : (k % 2 ^ 32 + n % 2 ^ 64 % 2 ^ 32) % 2 ^ 32 ≡ k % 2 ^ 32 = omega (arith, zero) in
    ap sign_extended same ∙ x
