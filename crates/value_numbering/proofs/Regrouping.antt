-- A sum of three is the same in another order, of longs and of words, whatever is added: integers, pointers, or what is unknown.
use Rattle.std.proofs.Common.{◌≡◌, ℕ, ◌+◌, ◌%◌, ◌^◌, ◌<◌, Bool, true, Option, Some, None, refl, sym, ◌∙◌, ap, arith}
use Rattle.std.proofs.Math.Nat.{mod-add-mod, add-mod-mod}
use Rattle.std.specs.Int.{w32, w64, cast_signed, cast_unsigned}
use Rattle.std.proofs.lemmas.Int.{ints}
use Rattle.il_ast.specs.declared.value.Value.{Value}
use Rattle.il_ast.specs.declared.value.Value.TheVariants.{Integer, Pointer, Function}
use Rattle.il_ast.specs.Prelude.{Memory}
use Rattle.rv_isa.specs.declared.instruction.RegOp.TheVariants.{Add}
use Rattle.rv_isa.specs.declared.instruction.RegWOp.TheVariants.{Addw}
use Rattle.vcode.specs.declared.line.Operation.{Operation}
use Rattle.vcode.specs.declared.line.Operation.TheVariants.{Reg, RegW}
use Rattle.vcode.specs.Prelude.{operate, operated}
use Rattle.value_numbering.specs.Reused.{is_sum}

abbrev modulus : ℕ
modulus = 2 ^ 64

-- ---- numbers

-- a word, extended
abbrev sign_extended : ℕ → ℕ
sign_extended n = cast_unsigned w64 (cast_signed w32 n)

turned_sum : (a b : ℕ) → (a + b) % modulus ≡ (b + a) % modulus
turned_sum a b = ap (λ (n : ℕ). n % modulus) (let e : a + b ≡ b + a = omega arith in e)

-- one of the three is added last
last_turned : (a b c : ℕ) → ((a + b) % modulus + c) % modulus ≡ ((a + c) % modulus + b) % modulus
last_turned a b c =
    mod-add-mod (a + b) modulus c ∙ ap (λ (n : ℕ). n % modulus) (let e : (a + b) + c ≡ (a + c) + b = omega arith in e) ∙ sym (mod-add-mod (a + c) modulus b)

-- two of the three are added first, to each other
first_together : (o a b : ℕ) → (o + (a + b) % modulus) % modulus ≡ ((o + a) % modulus + b) % modulus
first_together o a b =
    add-mod-mod o (a + b) modulus ∙ ap (λ (n : ℕ). n % modulus) (let e : o + (a + b) ≡ (o + a) + b = omega arith in e) ∙ sym (mod-add-mod (o + a) modulus b)

turned_word : (a b : ℕ) → (a % 2 ^ 32 + b % 2 ^ 32) % 2 ^ 32 ≡ (b % 2 ^ 32 + a % 2 ^ 32) % 2 ^ 32
turned_word a b = omega arith

-- the low bits of a word that stands extended
low_bits : (n : ℕ) → n < 2 ^ 32 → sign_extended n % 2 ^ 32 ≡ n
low_bits n h = grind (arith, ints)

-- the same numbers added, one after another
three_words : (x y a b c : ℕ) → x ≡ (a % 2 ^ 32 + b % 2 ^ 32) % 2 ^ 32 → y ≡ (a % 2 ^ 32 + c % 2 ^ 32) % 2 ^ 32 → (x + c % 2 ^ 32) % 2 ^ 32 ≡ (y + b % 2 ^ 32) % 2 ^ 32
three_words x y a b c e f = omega (arith, e, f)

last_word : (a b c : ℕ) → (sign_extended ((a % 2 ^ 32 + b % 2 ^ 32) % 2 ^ 32) % 2 ^ 32 + c % 2 ^ 32) % 2 ^ 32 ≡ (sign_extended ((a % 2 ^ 32 + c % 2 ^ 32) % 2 ^ 32) % 2 ^ 32 + b % 2 ^ 32) % 2 ^ 32
last_word a b c =
    three_words (sign_extended ((a % 2 ^ 32 + b % 2 ^ 32) % 2 ^ 32) % 2 ^ 32) (sign_extended ((a % 2 ^ 32 + c % 2 ^ 32) % 2 ^ 32) % 2 ^ 32) a b c (low_bits ((a % 2 ^ 32 + b % 2 ^ 32) % 2 ^ 32) (omega arith)) (low_bits ((a % 2 ^ 32 + c % 2 ^ 32) % 2 ^ 32) (omega arith))

-- ---- longs

module _ (m : Memory) where
  abbrev plus : Option Value → Option Value → Option Value
  plus a b = operated m (Reg Add) a b

  turned_values : (u v : Value) → operate m (Reg Add) u v ≡ operate m (Reg Add) v u
  unfolding operate
  turned_values (Integer a) (Integer b) = ap (λ (n : ℕ). Some (Integer n)) (turned_sum a b)
  turned_values (Integer a) (Pointer b o) = refl
  turned_values (Integer a) (Function f) = refl
  turned_values (Pointer b o) (Integer a) = refl
  turned_values (Pointer b o) (Pointer c q) = refl
  turned_values (Pointer b o) (Function f) = refl
  turned_values (Function f) (Integer a) = refl
  turned_values (Function f) (Pointer b o) = refl
  turned_values (Function f) (Function g) = refl

  regrouped_values : (u v w : Value) → plus (operate m (Reg Add) u v) (Some w) ≡ plus (operate m (Reg Add) u w) (Some v)
  unfolding operate
  regrouped_values (Integer a) (Integer b) (Integer c) = ap (λ (n : ℕ). Some (Integer n)) (last_turned a b c)
  regrouped_values (Integer a) (Integer b) (Pointer p o) = ap (λ (n : ℕ). Some (Pointer p n)) (first_together o a b)
  regrouped_values (Integer a) (Integer b) (Function f) = refl
  regrouped_values (Integer a) (Pointer p o) (Integer b) = ap (λ (n : ℕ). Some (Pointer p n)) (sym (first_together o a b))
  regrouped_values (Integer a) (Pointer p o) (Pointer r q) = refl
  regrouped_values (Integer a) (Pointer p o) (Function f) = refl
  regrouped_values (Integer a) (Function f) (Integer b) = refl
  regrouped_values (Integer a) (Function f) (Pointer p o) = refl
  regrouped_values (Integer a) (Function f) (Function g) = refl
  regrouped_values (Pointer p o) (Integer a) (Integer b) = ap (λ (n : ℕ). Some (Pointer p n)) (last_turned o a b)
  regrouped_values (Pointer p o) (Integer a) (Pointer r q) = refl
  regrouped_values (Pointer p o) (Integer a) (Function f) = refl
  regrouped_values (Pointer p o) (Pointer r q) (Integer a) = refl
  regrouped_values (Pointer p o) (Pointer r q) (Pointer s t) = refl
  regrouped_values (Pointer p o) (Pointer r q) (Function f) = refl
  regrouped_values (Pointer p o) (Function f) (Integer a) = refl
  regrouped_values (Pointer p o) (Function f) (Pointer r q) = refl
  regrouped_values (Pointer p o) (Function f) (Function g) = refl
  regrouped_values (Function f) v w = refl

  -- ---- words

  turned_words : (u v : Value) → operate m (RegW Addw) u v ≡ operate m (RegW Addw) v u
  unfolding operate
  turned_words (Integer a) (Integer b) = ap (λ (n : ℕ). Some (Integer (sign_extended n))) (turned_word a b)
  turned_words (Integer a) (Pointer b o) = refl
  turned_words (Integer a) (Function f) = refl
  turned_words (Pointer b o) (Integer a) = refl
  turned_words (Pointer b o) (Pointer c q) = refl
  turned_words (Pointer b o) (Function f) = refl
  turned_words (Function f) (Integer a) = refl
  turned_words (Function f) (Pointer b o) = refl
  turned_words (Function f) (Function g) = refl

  regrouped_words : (u v w : Value) → operated m (RegW Addw) (operate m (RegW Addw) u v) (Some w) ≡ operated m (RegW Addw) (operate m (RegW Addw) u w) (Some v)
  unfolding operate
  regrouped_words (Integer a) (Integer b) (Integer c) = ap (λ (n : ℕ). Some (Integer (sign_extended n))) (last_word a b c)
  regrouped_words (Integer a) (Integer b) (Pointer p o) = refl
  regrouped_words (Integer a) (Integer b) (Function f) = refl
  regrouped_words (Integer a) (Pointer p o) (Integer b) = refl
  regrouped_words (Integer a) (Pointer p o) (Pointer r q) = refl
  regrouped_words (Integer a) (Pointer p o) (Function f) = refl
  regrouped_words (Integer a) (Function f) (Integer b) = refl
  regrouped_words (Integer a) (Function f) (Pointer p o) = refl
  regrouped_words (Integer a) (Function f) (Function g) = refl
  regrouped_words (Pointer p o) v w = refl
  regrouped_words (Function f) v w = refl

  -- ---- either

  sums_turned : (op : Operation) → is_sum op ≡ true → (u v : Value) → operate m op u v ≡ operate m op v u
  sums_turned op is u v = by op is
    where
      by : (o : Operation) → is_sum o ≡ true → operate m o u v ≡ operate m o v u
      by (Reg Add) h = turned_values u v
      by (RegW Addw) h = turned_words u v
      by o h = absurd (let no : ⊥ = cc in no)

  sums_regrouped : (op : Operation) → is_sum op ≡ true → (u v w : Value) → operated m op (operate m op u v) (Some w) ≡ operated m op (operate m op u w) (Some v)
  sums_regrouped op is u v w = by op is
    where
      by : (o : Operation) → is_sum o ≡ true → operated m o (operate m o u v) (Some w) ≡ operated m o (operate m o u w) (Some v)
      by (Reg Add) h = regrouped_values u v w
      by (RegW Addw) h = regrouped_words u v w
      by o h = absurd (let no : ⊥ = cc in no)

  nothing_added : (op : Operation) (a : Option Value) → operated m op a None ≡ None
  nothing_added op None = refl
  nothing_added op (Some u) = refl

  pub turned : (op : Operation) → is_sum op ≡ true → (a b : Option Value) → operated m op a b ≡ operated m op b a
  turned op is None None = refl
  turned op is None (Some v) = refl
  turned op is (Some u) None = refl
  turned op is (Some u) (Some v) = sums_turned op is u v

  pub regrouped : (op : Operation) → is_sum op ≡ true → (a b c : Option Value) → operated m op (operated m op a b) c ≡ operated m op (operated m op a c) b
  regrouped op is None b c = refl
  regrouped op is (Some u) None c = sym (nothing_added op (operated m op (Some u) c))
  regrouped op is (Some u) (Some v) None = nothing_added op (operated m op (Some u) (Some v))
  regrouped op is (Some u) (Some v) (Some w) = sums_regrouped op is u v w
