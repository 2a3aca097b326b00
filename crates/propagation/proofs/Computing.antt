-- A number does what the operation on two numbers that gives it does, where it costs no more; and a line does what its short form does.
use Rattle.std.proofs.Common.{◌≡◌, ℕ, ◌%◌, ◌^◌, ◌<◌, ◌≤◌, Bool, true, false, if◌then◌else◌, List, Some, refl, sym, ◌∙◌, ap, arith, lit<, mod-lt}
use Rattle.std.proofs.lemmas.Bool.Decides.{nat_tests}
use Rattle.il_ast.specs.declared.operation.Class.{Class}
use Rattle.il_ast.specs.declared.operation.Class.TheVariants.{W, L}
use Rattle.il_ast.specs.declared.operation.Condition.{Condition}
use Rattle.il_ast.specs.declared.value.Value.{Value}
use Rattle.il_ast.specs.declared.value.Value.TheVariants.{Integer}
use Rattle.il_ast.specs.Prelude.{modulus, Memory, holds, truth, operate_two}
use Rattle.rv_isa.proofs.RangeLemmas.{reg_value_fits, regw_value_fits}
use Rattle.vcode.specs.declared.place.Operand.{Operand}
use Rattle.vcode.specs.declared.place.Operand.TheVariants.{At, Number, Name}
use Rattle.vcode.specs.declared.line.Operation.{Operation}
use Rattle.vcode.specs.declared.line.Operation.TheVariants.{Reg, RegW, Compare}
use Rattle.vcode.specs.declared.line.Line.{Line}
use Rattle.vcode.specs.declared.line.Line.TheVariants.{Tick, Set, Operate, Load, Store, Alloc, Blit, Call}
use Rattle.vcode.specs.Prelude.{line_cost, operate, Values, Gives, act}
use Rattle.propagation.specs.FactTable.{result_of, is_cheaper, with_result, computed, by_shift, shortened}
use Rattle.propagation.proofs.Shortening.{Unnumbered, shift_cheaper, shift_unchanged, shift_act}

-- ---- what the operations give

low_word : (n : ℕ) → n % 2 ^ 64 % 2 ^ 32 ≡ n % 2 ^ 32
low_word n = omega arith

pub numbers_compared : (m : Memory) (on : Condition) (k : Class) (a b : ℕ)
    → operate m (Compare on k) (Integer (a % 2 ^ 64)) (Integer (b % 2 ^ 64)) ≡ Some (Integer (truth (holds on k (a % modulus k) (b % modulus k))))
unfolding operate operate_two
numbers_compared m on W a b =
    ap (λ n. Some (Integer (truth (holds on W n (b % 2 ^ 64 % 2 ^ 32))))) (low_word a) ∙ ap (λ n. Some (Integer (truth (holds on W (a % 2 ^ 32) n)))) (low_word b)
numbers_compared m on L a b = refl

given_by : (m : Memory) (op : Operation) (a b : ℕ) → operate m op (Integer (a % 2 ^ 64)) (Integer (b % 2 ^ 64)) ≡ Some (Integer (result_of op a b))
unfolding operate
given_by m (Reg op) a b = refl
given_by m (RegW op) a b = refl
given_by m (Compare on k) a b = numbers_compared m on k a b

truth_fits : (t : Bool) → truth t < 2 ^ 64
truth_fits true = lit< tt
truth_fits false = lit< tt

result_fits : (op : Operation) (a b : ℕ) → result_of op a b < 2 ^ 64
result_fits (Reg op) a b = reg_value_fits op (a % 2 ^ 64) (b % 2 ^ 64) (mod-lt a (lit< tt)) (mod-lt b (lit< tt))
result_fits (RegW op) a b = regw_value_fits op (a % 2 ^ 64) (b % 2 ^ 64)
result_fits (Compare on k) a b = truth_fits (holds on k (a % modulus k) (b % modulus k))

small_word : (n : ℕ) → n < 2 ^ 64 → n % 2 ^ 64 ≡ n
small_word n h = omega (arith, h)

-- ---- a number in place of an operation

-- what doesn't ask which operation on which numbers a line does, or that it is one
abbrev Unasked : {X : Type 0} → (Line ℕ → X) → Type 0
Unasked g = (to : ℕ) (op : Operation) (a b n : ℕ) → g (Set to (Number n)) ≡ g (Operate to op (Number a) (Number b))

-- what holds of the operation, and of any number that costs no more, holds of what is put
with_either : (good : Line ℕ → Type 0) (to : ℕ) (op : Operation) (a b n : ℕ) → good (Operate to op (Number a) (Number b))
    → (line_cost (let l : Line ℕ = Set to (Number n) in l) ≤ line_cost (let l : Line ℕ = Operate to op (Number a) (Number b) in l) → good (Set to (Number n))) → good (with_result to op a b n)
with_either good to op a b n g h = by (is_cheaper to op a b n) refl
  where
    by : (t : Bool) → is_cheaper to op a b n ≡ t → good (if t then Set to (Number n) else Operate to op (Number a) (Number b))
    by true e = h (grind (arith, nat_tests))
    by false e = g

any_computed : (good : Line ℕ → Type 0) (to : ℕ) (op : Operation) (a b : Operand ℕ) → good (Operate to op a b)
    → ((n : ℕ) → line_cost (let l : Line ℕ = Set to (Number n) in l) ≤ line_cost (Operate to op a b) → good (Set to (Number n))) → good (computed (Operate to op a b))
any_computed good to op (Number a) (Number b) g h = with_either good to op a b (result_of op a b) g (h (result_of op a b))
any_computed good to op (Number a) (At r) g h = g
any_computed good to op (Number a) (Name s) g h = g
any_computed good to op (At r) b g h = g
any_computed good to op (Name s) b g h = g

computed_unchanged : {X : Type 0} (g : Line ℕ → X) → Unasked g → (l : Line ℕ) → g (computed l) ≡ g l
computed_unchanged g un (Tick turn w) = refl
computed_unchanged g un (Set to a) = refl
computed_unchanged g un (Operate to op (Number a) (Number b)) =
    with_either (λ m. g m ≡ g (Operate to op (Number a) (Number b))) to op a b (result_of op a b) refl (λ low. un to op a b (result_of op a b))
computed_unchanged g un (Operate to op (Number a) (At r)) = refl
computed_unchanged g un (Operate to op (Number a) (Name s)) = refl
computed_unchanged g un (Operate to op (At r) b) = refl
computed_unchanged g un (Operate to op (Name s) b) = refl
computed_unchanged g un (Load to op at) = refl
computed_unchanged g un (Store size a at) = refl
computed_unchanged g un (Alloc to size) = refl
computed_unchanged g un (Blit a b count) = refl
computed_unchanged g un (Call to callee args) = refl

number_act : (globals : List Value) (memory : Memory) (values : Values ℕ) (to : ℕ) (op : Operation) (a b : ℕ)
    → act globals memory values (Set to (Number (result_of op a b))) ≡ act globals memory values (Operate to op (Number a) (Number b))
number_act globals memory values to op a b =
    ap (λ n. Gives (Some (Integer n))) (small_word (result_of op a b) (result_fits op a b)) ∙ sym (ap Gives (given_by memory op a b))

computed_act : (globals : List Value) (memory : Memory) (values : Values ℕ) (l : Line ℕ) → act globals memory values (computed l) ≡ act globals memory values l
computed_act globals memory values (Tick turn w) = refl
computed_act globals memory values (Set to a) = refl
computed_act globals memory values (Operate to op (Number a) (Number b)) =
    with_either (λ m. act globals memory values m ≡ act globals memory values (Operate to op (Number a) (Number b))) to op a b (result_of op a b) refl
    (λ low. number_act globals memory values to op a b)
computed_act globals memory values (Operate to op (Number a) (At r)) = refl
computed_act globals memory values (Operate to op (Number a) (Name s2)) = refl
computed_act globals memory values (Operate to op (At r) b) = refl
computed_act globals memory values (Operate to op (Name s2) b) = refl
computed_act globals memory values (Load to op at) = refl
computed_act globals memory values (Store size a at) = refl
computed_act globals memory values (Alloc to size) = refl
computed_act globals memory values (Blit a b count) = refl
computed_act globals memory values (Call to callee args) = refl

-- ---- lines in their short form

-- what holds of every operation of no higher cost with the same place and left operand, and of every number of no higher cost, holds of the short form
pub any_cheaper : (good : Line ℕ → Type 0) (to : ℕ) (op : Operation) (a b : Operand ℕ)
    → ((new : Operation) (c : Operand ℕ) → line_cost (Operate to new a c) ≤ line_cost (Operate to op a b) → good (Operate to new a c))
    → ((n : ℕ) → line_cost (let l : Line ℕ = Set to (Number n) in l) ≤ line_cost (Operate to op a b) → good (Set to (Number n))) → good (shortened (Operate to op a b))
any_cheaper good to op a b h set = any_computed (λ l. good (by_shift l)) to op a b (shift_cheaper good to op a b h) set

-- what doesn't ask whether a line is in its short form
abbrev pub Unshortened : {X : Type 0} → (Line ℕ → X) → Type 0
Unshortened g = Unnumbered g × Unasked g

pub unchanged : {X : Type 0} (g : Line ℕ → X) → Unshortened g → (l : Line ℕ) → g (shortened l) ≡ g l
unchanged g un l = shift_unchanged g un.0 (computed l) ∙ computed_unchanged g un.1 l

pub shortened_act : (globals : List Value) (memory : Memory) (values : Values ℕ) (l : Line ℕ) → act globals memory values (shortened l) ≡ act globals memory values l
shortened_act globals memory values l = shift_act globals memory values (computed l) ∙ computed_act globals memory values l
