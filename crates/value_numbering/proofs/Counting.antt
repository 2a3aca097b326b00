-- What is linear in a register that grows, and words that grow as longs do: for all values, known or not.
use Rattle.std.proofs.Common.{◌≡◌, ◌≢◌, ℕ, ◌+◌, ◌-◌, ◌*◌, ◌%◌, ◌^◌, ◌<◌, ◌≤◌, Bool, true, false, ◌||◌, nat_eq, nat_lt, nat_le, Option, Some, None, refl, sym, ◌∙◌, ap, subst, arith, ℤ, int_lt, int_le, eqb-true, eq-eqb}
use Rattle.std.specs.Int.{w32, w64, cast_signed, cast_unsigned}
use Rattle.std.proofs.lemmas.Bool.Decides.{nat_tests}
use Rattle.std.proofs.lemmas.Int.{ints}
use Rattle.std.proofs.lemmas.Nat.{mul-mod_first, mul-mod_second}
use Rattle.il_ast.specs.declared.operation.Class.{Class}
use Rattle.il_ast.specs.declared.operation.Class.TheVariants.{W, L}
use Rattle.il_ast.specs.declared.value.Value.{Value}
use Rattle.il_ast.specs.declared.value.Value.TheVariants.{Integer, Pointer, Function}
use Rattle.il_ast.specs.Prelude.{Memory}
use Rattle.rv_isa.specs.declared.instruction.RegOp.TheVariants.{Add, Sll, Mul}
use Rattle.rv_isa.specs.declared.instruction.RegWOp.{RegWOp}
use Rattle.rv_isa.specs.declared.instruction.RegWOp.TheVariants.{Addw}
use Rattle.rv_isa.specs.Prelude.{reg_value, regw_value, word_value}
use Rattle.vcode.specs.declared.line.Operation.TheVariants.{Reg, RegW}
use Rattle.vcode.specs.Prelude.{operate, operated}
use Rattle.value_numbering.proofs.Meant.{linear, grows}
use Rattle.value_numbering.specs.Steps.{stands, further, behind}
use Rattle.value_numbering.specs.Reused.{before, next, is_least, is_most}
use Rattle.il_ast.proofs.Wrapping.{further_sum}
use Rattle.rv_isa.proofs.RangeLemmas.{word_value_fits}

abbrev modulus : ℕ
modulus = 2 ^ 64

-- ---- numbers

again : (x y : ℕ) → ((x + y) % 2 ^ 64 + 0) % 2 ^ 64 ≡ (x + y) % 2 ^ 64
again x y = omega arith

-- of a product p, what more was added to it as r, which is q modulo 2^64, is taken off the offset
balanced : (y o p q r a b : ℕ) → a ≡ (p + r) % 2 ^ 64 → r % 2 ^ 64 ≡ q % 2 ^ 64 → b ≡ p % 2 ^ 64
    → ((y + a) % 2 ^ 64 + (o + (2 ^ 64 - q % 2 ^ 64)) % 2 ^ 64 % 2 ^ 64) % 2 ^ 64 ≡ ((y + b) % 2 ^ 64 + o % 2 ^ 64) % 2 ^ 64
balanced y o p q r a b e f g = omega (arith, e, f, g)

distributed : (x n c : ℕ) → (x + n % 2 ^ 64) * c ≡ x * c + (n % 2 ^ 64) * c
distributed x n c = omega arith

grown_product : (x n c : ℕ) → ((x + n % 2 ^ 64) % 2 ^ 64 * (c % 2 ^ 64)) % 2 ^ 64 ≡ (x * c + (n % 2 ^ 64) * c) % 2 ^ 64
grown_product x n c = mul-mod_first (x + n % 2 ^ 64) (c % 2 ^ 64) modulus ∙ mul-mod_second (x + n % 2 ^ 64) c modulus ∙ ap (λ (k : ℕ). k % 2 ^ 64) (distributed x n c)

behind_sum : (y x n c o : ℕ) → ((y + ((x + n % 2 ^ 64) % 2 ^ 64 * (c % 2 ^ 64)) % 2 ^ 64) % 2 ^ 64 + behind o n c % 2 ^ 64) % 2 ^ 64 ≡ ((y + (x * (c % 2 ^ 64)) % 2 ^ 64) % 2 ^ 64 + o % 2 ^ 64) % 2 ^ 64
behind_sum y x n c o =
    balanced y o (x * c) (n * c) ((n % 2 ^ 64) * c) (((x + n % 2 ^ 64) % 2 ^ 64 * (c % 2 ^ 64)) % 2 ^ 64) ((x * (c % 2 ^ 64)) % 2 ^ 64) (grown_product x n c) (mul-mod_first n c modulus) (mul-mod_second x c modulus)

shifted_product : (x n : ℕ) → n < 64 → (x * 2 ^ (n % 2 ^ 64 % 64)) % 2 ^ 64 ≡ (x * (2 ^ n % 2 ^ 64)) % 2 ^ 64
shifted_product x n few =
    let by : n % 2 ^ 64 % 64 ≡ n = omega (arith, few) in
    ap (λ (k : ℕ). (x * 2 ^ k) % 2 ^ 64) by ∙ sym (mul-mod_second x (2 ^ n) modulus)

-- ---- what is linear

abbrev pub number : ℕ → Option Value
number n = Some (Integer (n % 2 ^ 64))

module _ (m : Memory) where
  abbrev plus : Option Value → Option Value → Option Value
  plus a b = operated m (Reg Add) a b

  abbrev times : Option Value → Option Value → Option Value
  times a b = operated m (Reg Mul) a b

  nothing_added : (a : Option Value) → plus a None ≡ None
  nothing_added None = refl
  nothing_added (Some u) = refl

  nothing_more_values : (u v : Value) → plus (operate m (Reg Add) u v) (number 0) ≡ operate m (Reg Add) u v
  unfolding operate
  nothing_more_values (Integer a) (Integer b) = ap (λ (n : ℕ). Some (Integer n)) (again a b)
  nothing_more_values (Integer a) (Pointer b o) = ap (λ (n : ℕ). Some (Pointer b n)) (again o a)
  nothing_more_values (Integer a) (Function f) = refl
  nothing_more_values (Pointer b o) (Integer a) = ap (λ (n : ℕ). Some (Pointer b n)) (again o a)
  nothing_more_values (Pointer b o) (Pointer c q) = refl
  nothing_more_values (Pointer b o) (Function f) = refl
  nothing_more_values (Function f) (Integer a) = refl
  nothing_more_values (Function f) (Pointer b o) = refl
  nothing_more_values (Function f) (Function g) = refl

  -- a sum with a product is linear, with no offset
  pub nothing_more : (a b : Option Value) → plus (plus a b) (number 0) ≡ plus a b
  nothing_more None b = refl
  nothing_more (Some u) None = refl
  nothing_more (Some u) (Some v) = nothing_more_values u v

  -- more is added to the whole
  pub whole_grows : (a : Option Value) (o n : ℕ) → plus (plus a (number o)) (number n) ≡ plus a (number (further o n))
  unfolding operate
  whole_grows None o n = refl
  whole_grows (Some (Integer x)) o n = ap (λ (k : ℕ). Some (Integer k)) (further_sum x o n)
  whole_grows (Some (Pointer b x)) o n = ap (λ (k : ℕ). Some (Pointer b k)) (further_sum x o n)
  whole_grows (Some (Function f)) o n = refl

  no_product : (b i j : Option Value) (o q : ℕ) → i ≡ None → j ≡ None → plus (plus b i) (number o) ≡ plus (plus b j) (number q)
  no_product b i j o q e f =
      ap (λ (x : Option Value). plus x (number o)) (ap (plus b) e ∙ nothing_added b) ∙ sym (ap (λ (x : Option Value). plus x (number q)) (ap (plus b) f ∙ nothing_added b))

  -- the index grows
  pub index_grows : (b i : Option Value) (c o n : ℕ) → linear m b (plus i (number n)) c (behind o n c) ≡ linear m b i c o
  unfolding operate
  index_grows b None c o n = no_product b None None (behind o n c) o refl refl
  index_grows b (Some (Pointer d x)) c o n = no_product b None None (behind o n c) o refl refl
  index_grows b (Some (Function f)) c o n = no_product b None None (behind o n c) o refl refl
  index_grows None (Some (Integer x)) c o n = refl
  index_grows (Some (Integer y)) (Some (Integer x)) c o n = ap (λ (k : ℕ). Some (Integer k)) (behind_sum y x n c o)
  index_grows (Some (Pointer d y)) (Some (Integer x)) c o n = ap (λ (k : ℕ). Some (Pointer d k)) (behind_sum y x n c o)
  index_grows (Some (Function f)) (Some (Integer x)) c o n = refl

  pub shift_is_product : (a : Option Value) (n : ℕ) → n < 64 → operated m (Reg Sll) a (number n) ≡ times a (number (2 ^ n))
  unfolding operate
  shift_is_product None n few = refl
  shift_is_product (Some (Integer x)) n few = ap (λ (k : ℕ). Some (Integer k)) (shifted_product x n few)
  shift_is_product (Some (Pointer b x)) n few = refl
  shift_is_product (Some (Function f)) n few = refl

-- ---- words

-- the register holds a word that stands extended, or nothing
abbrev pub IsWord : Option Value → Type 0
IsWord None = Unit {0}
IsWord (Some (Integer n)) = cast_unsigned w64 (cast_signed w32 (n % 2 ^ 32)) ≡ n
IsWord (Some (Pointer b o)) = ⊥
IsWord (Some (Function f)) = ⊥

extended_again : (n : ℕ) → n < 2 ^ 32 → cast_unsigned w64 (cast_signed w32 (cast_unsigned w64 (cast_signed w32 n) % 2 ^ 32)) ≡ cast_unsigned w64 (cast_signed w32 n)
extended_again n h = grind (arith, ints)

words_give : (m : Memory) (op : RegWOp) (u v : Value) → IsWord (operate m (RegW op) u v)
unfolding operate
words_give m op (Integer a) (Integer b) = extended_again (word_value op (a % 2 ^ 32) (b % 2 ^ 32)) (word_value_fits op (a % 2 ^ 32) (b % 2 ^ 32) (omega arith) (omega arith))
words_give m op (Integer a) (Pointer b o) = tt
words_give m op (Integer a) (Function f) = tt
words_give m op (Pointer b o) v = tt
words_give m op (Function f) v = tt

pub word_given : (m : Memory) (op : RegWOp) (a b : Option Value) → IsWord (operated m (RegW op) a b)
word_given m op None b = tt
word_given m op (Some u) None = tt
word_given m op (Some u) (Some v) = words_give m op u v

low_stands : (n : ℕ) → n < 2 ^ 31 → cast_unsigned w64 (cast_signed w32 (n % 2 ^ 32)) ≡ n
low_stands n h = grind (arith, ints)

high_stands : (n : ℕ) → 2 ^ 64 - 2 ^ 31 ≤ n → n < 2 ^ 64 → cast_unsigned w64 (cast_signed w32 (n % 2 ^ 32)) ≡ n
high_stands n h k = grind (arith, ints)

either_stands : (n : ℕ) (a b : Bool) → nat_lt n (2 ^ 31) ≡ a → nat_le (2 ^ 64 - 2 ^ 31) n ≡ b → n < 2 ^ 64 → (a || b) ≡ true → IsWord (Some (Integer n))
either_stands n true b e f h k = low_stands n (let lt : n < 2 ^ 31 = grind (arith, nat_tests) in lt)
either_stands n false true e f h k = high_stands n (let le : 2 ^ 64 - 2 ^ 31 ≤ n = grind (arith, nat_tests) in le) h
either_stands n false false e f h k = absurd (let no : ⊥ = cc in no)

pub number_stands : (n : ℕ) → stands n ≡ true → IsWord (number n)
number_stands n h = either_stands (n % 2 ^ 64) (nat_lt (n % 2 ^ 64) (2 ^ 31)) (nat_le (2 ^ 64 - 2 ^ 31) (n % 2 ^ 64)) refl refl (omega arith) h

-- where it grows as a long
pub grown_same : (m : Memory) (o : Option Value) (n : ℕ) → grows n o ≡ true → operated m (Reg Add) o (number n) ≡ operated m (RegW Addw) o (number n)
unfolding operate
grown_same m None n h = refl
grown_same m (Some (Integer k)) n h = ap (λ (j : ℕ). Some (Integer j)) (sym (eqb-true (regw_value Addw k (n % 2 ^ 64)) (reg_value Add k (n % 2 ^ 64)) h))
grown_same m (Some (Pointer b o)) n h = absurd (let no : ⊥ = cc in no)
grown_same m (Some (Function f)) n h = absurd (let no : ⊥ = cc in no)

pub grown_word : (m : Memory) (o : Option Value) (n : ℕ) → grows n o ≡ true → IsWord (operated m (Reg Add) o (number n))
grown_word m o n h = subst IsWord (sym (grown_same m o n h)) (word_given m Addw o (number n))

-- ---- words that are less than others

-- as signed numbers of the class
abbrev pub is_less : Class → (a b : ℕ) → Bool
is_less W a b = int_lt (cast_signed w32 (a % 2 ^ 32)) (cast_signed w32 (b % 2 ^ 32))
is_less L a b = int_lt (cast_signed w64 a) (cast_signed w64 b)

-- both are numbers, and the first is less
pub record Less (k : Class) (u v : Option Value) : Type 0 where
  pub left : ℕ
  pub right : ℕ
  pub first : u ≡ Some (Integer left)
  pub second : v ≡ Some (Integer right)
  pub less : is_less k left right ≡ true

-- of longs, the other has to be a word too
abbrev pub Limit : Class → Option Value → Type 0
Limit W o = Unit {0}
Limit L o = IsWord o

one_more : (n k : ℕ) → cast_unsigned w64 (cast_signed w32 (n % 2 ^ 32)) ≡ n → k < 2 ^ 32 → int_lt (cast_signed w32 (n % 2 ^ 32)) (cast_signed w32 k) ≡ true
    → cast_unsigned w64 (cast_signed w32 ((n % 2 ^ 32 + 1) % 2 ^ 32)) ≡ (n + 1) % 2 ^ 64
one_more n k word small less = grind (arith, ints)

one_more_long : (n k : ℕ) → cast_unsigned w64 (cast_signed w32 (n % 2 ^ 32)) ≡ n → cast_unsigned w64 (cast_signed w32 (k % 2 ^ 32)) ≡ k → int_lt (cast_signed w64 n) (cast_signed w64 k) ≡ true
    → cast_unsigned w64 (cast_signed w32 ((n % 2 ^ 32 + 1) % 2 ^ 32)) ≡ (n + 1) % 2 ^ 64
one_more_long n k word other less = grind (arith, ints)

one_less : (k n : ℕ) → cast_unsigned w64 (cast_signed w32 (n % 2 ^ 32)) ≡ n → k < 2 ^ 32 → int_lt (cast_signed w32 k) (cast_signed w32 (n % 2 ^ 32)) ≡ true
    → cast_unsigned w64 (cast_signed w32 ((n % 2 ^ 32 + (2 ^ 64 - 1) % 2 ^ 32) % 2 ^ 32)) ≡ (n + (2 ^ 64 - 1)) % 2 ^ 64
one_less k n word small less = grind (arith, ints)

one_less_long : (k n : ℕ) → cast_unsigned w64 (cast_signed w32 (n % 2 ^ 32)) ≡ n → cast_unsigned w64 (cast_signed w32 (k % 2 ^ 32)) ≡ k → int_lt (cast_signed w64 k) (cast_signed w64 n) ≡ true
    → cast_unsigned w64 (cast_signed w32 ((n % 2 ^ 32 + (2 ^ 64 - 1) % 2 ^ 32) % 2 ^ 32)) ≡ (n + (2 ^ 64 - 1)) % 2 ^ 64
one_less_long k n word other less = grind (arith, ints)

-- one more is the same as a word and as a long
pub less_grows : (k : Class) (u v : Option Value) → IsWord u → Limit k v → Less k u v → grows 1 u ≡ true
less_grows W u v word limit is =
    subst (λ (o : Option Value). grows 1 o ≡ true) (sym is.first)
    (eq-eqb (regw_value Addw is.left 1) (reg_value Add is.left 1) (one_more is.left (is.right % 2 ^ 32) (subst IsWord is.first word) (omega arith) is.less))
less_grows L u v word limit is =
    subst (λ (o : Option Value). grows 1 o ≡ true) (sym is.first)
    (eq-eqb (regw_value Addw is.left 1) (reg_value Add is.left 1) (one_more_long is.left is.right (subst IsWord is.first word) (subst IsWord is.second limit) is.less))

-- so is one less than what is more
pub more_shrinks : (k : Class) (u v : Option Value) → IsWord v → Limit k u → Less k u v → grows (2 ^ 64 - 1) v ≡ true
more_shrinks W u v word limit is =
    subst (λ (o : Option Value). grows (2 ^ 64 - 1) o ≡ true) (sym is.second)
    (eq-eqb (regw_value Addw is.right (2 ^ 64 - 1)) (reg_value Add is.right (2 ^ 64 - 1)) (one_less (is.left % 2 ^ 32) is.right (subst IsWord is.second word) (omega arith) is.less))
more_shrinks L u v word limit is =
    subst (λ (o : Option Value). grows (2 ^ 64 - 1) o ≡ true) (sym is.second)
    (eq-eqb (regw_value Addw is.right (2 ^ 64 - 1)) (reg_value Add is.right (2 ^ 64 - 1)) (one_less_long is.left is.right (subst IsWord is.second word) (subst IsWord is.first limit) is.less))

-- ---- numbers beside others

before_word : (a n : ℕ) → nat_eq (n % 2 ^ 32) (2 ^ 31) ≡ false → int_le (cast_signed w32 (n % 2 ^ 64 % 2 ^ 32)) (cast_signed w32 (a % 2 ^ 32)) ≡ true
    → int_lt (cast_signed w32 ((n + (2 ^ 64 - 1)) % 2 ^ 64 % 2 ^ 64 % 2 ^ 32)) (cast_signed w32 (a % 2 ^ 32)) ≡ true
before_word a n more le = let no : n % 2 ^ 32 ≢ 2 ^ 31 = grind (arith, nat_tests) in grind (arith, ints)

before_long : (a n : ℕ) → nat_eq (n % 2 ^ 64) (2 ^ 63) ≡ false → int_le (cast_signed w64 (n % 2 ^ 64)) (cast_signed w64 a) ≡ true → int_lt (cast_signed w64 ((n + (2 ^ 64 - 1)) % 2 ^ 64 % 2 ^ 64)) (cast_signed w64 a) ≡ true
before_long a n more le = let no : n % 2 ^ 64 ≢ 2 ^ 63 = grind (arith, nat_tests) in grind (arith, ints)

next_word : (a n : ℕ) → nat_eq (n % 2 ^ 32) (2 ^ 31 - 1) ≡ false → int_le (cast_signed w32 (a % 2 ^ 32)) (cast_signed w32 (n % 2 ^ 64 % 2 ^ 32)) ≡ true
    → int_lt (cast_signed w32 (a % 2 ^ 32)) (cast_signed w32 ((n + 1) % 2 ^ 64 % 2 ^ 64 % 2 ^ 32)) ≡ true
next_word a n less le = let no : n % 2 ^ 32 ≢ 2 ^ 31 - 1 = grind (arith, nat_tests) in grind (arith, ints)

next_long : (a n : ℕ) → nat_eq (n % 2 ^ 64) (2 ^ 63 - 1) ≡ false → int_le (cast_signed w64 a) (cast_signed w64 (n % 2 ^ 64)) ≡ true → int_lt (cast_signed w64 a) (cast_signed w64 ((n + 1) % 2 ^ 64 % 2 ^ 64)) ≡ true
next_long a n less le = let no : n % 2 ^ 64 ≢ 2 ^ 63 - 1 = grind (arith, nat_tests) in grind (arith, ints)

no_less : (x y : ℤ) → int_lt x y ≡ false → int_le y x ≡ true
no_less x y h = grind (arith, ints)

-- what isn't less than a number that isn't the least is more than the one before
pub more_than_before : (k : Class) (a n : ℕ) → is_least k n ≡ false → is_less k a (n % 2 ^ 64) ≡ false → is_less k (before n % 2 ^ 64) a ≡ true
more_than_before W a n more least = before_word a n more (no_less (cast_signed w32 (a % 2 ^ 32)) (cast_signed w32 (n % 2 ^ 64 % 2 ^ 32)) least)
more_than_before L a n more least = before_long a n more (no_less (cast_signed w64 a) (cast_signed w64 (n % 2 ^ 64)) least)

-- what isn't more than one that isn't the most is less than the next
pub less_than_next : (k : Class) (a n : ℕ) → is_most k n ≡ false → is_less k (n % 2 ^ 64) a ≡ false → is_less k a (next n % 2 ^ 64) ≡ true
less_than_next W a n less most = next_word a n less (no_less (cast_signed w32 (n % 2 ^ 64 % 2 ^ 32)) (cast_signed w32 (a % 2 ^ 32)) most)
less_than_next L a n less most = next_long a n less (no_less (cast_signed w64 (n % 2 ^ 64)) (cast_signed w64 a) most)
