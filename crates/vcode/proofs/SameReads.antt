-- What a line or a jump does with other operands that have the same values, in other values of the places.
use Rattle.std.proofs.Common.{◌≡◌, ℕ, nat_eq, if◌then◌else◌, List, [], ◌∷◌, map, Option, refl, ◌∙◌, ap, option_map, option_and_then}
use Rattle.il_ast.specs.declared.value.Value.{Value}
use Rattle.il_ast.specs.Prelude.{Memory}
use Rattle.rv_isa.specs.declared.instruction.RegOp.TheVariants.{Add}
use Rattle.vcode.specs.Prelude.{Operand, Number, Address, Argument, Reg, distance, passed, Values, Replacing, with_base, with_argument, value_of, read_argument, read_all, operated, address_of}

-- what stands in the place of an operand has that one's value
abbrev pub SameValue : List Value → (ev el : Values ℕ) → Replacing → Operand ℕ → Type 0
SameValue globals ev el f a = value_of globals el (f a) ≡ value_of globals ev a

abbrev pub SameArguments : List Value → (ev el : Values ℕ) → Replacing → List (Argument ℕ) → Type 0
SameArguments globals ev el f [] = Unit {0}
SameArguments globals ev el f (a ∷ args) = SameValue globals ev el f a.value × SameArguments globals ev el f args

pub address_same : (globals : List Value) (m : Memory) (ev el : Values ℕ) (f : Replacing) (at : Address ℕ) → SameValue globals ev el f at.base
    → address_of globals m el (with_base f at) ≡ address_of globals m ev at
address_same globals m ev el f at same =
    ap (λ (x : Option Value). if nat_eq (distance at) 0 then x else operated m (Reg Add) x (value_of globals el (Number (distance at)))) same

pub two_same : {R : Type 0} (globals : List Value) (ev el : Values ℕ) (f : Replacing) (a b : Operand ℕ) (act : Value → Value → Option R)
    → SameValue globals ev el f a → SameValue globals ev el f b
    → option_and_then (λ u. option_and_then (λ v. act u v) (value_of globals el (f b))) (value_of globals el (f a))
    ≡ option_and_then (λ u. option_and_then (λ v. act u v) (value_of globals ev b)) (value_of globals ev a)
two_same {R} globals ev el f a b act left right =
    ap (λ (x : Option Value). option_and_then (λ u. option_and_then (λ v. act u v) x) (value_of globals el (f a))) right
    ∙ ap (λ (x : Option Value). option_and_then (λ u. option_and_then (λ v. act u v) (value_of globals ev b)) x) left

pub args_same : (globals : List Value) (ev el : Values ℕ) (f : Replacing) (args : List (Argument ℕ)) → SameArguments globals ev el f args
    → read_all globals el (map (with_argument f) args) ≡ read_all globals ev args
args_same globals ev el f [] same = refl
args_same globals ev el f (a ∷ args) same =
    ap
    (λ (x : Option Value). option_and_then (λ v. option_map (λ vs. v ∷ vs) (read_all globals el (map (with_argument f) args))) (option_and_then (passed a.extension a.class) x))
    same.0
    ∙ ap (λ (x : Option (List Value)). option_and_then (λ v. option_map (λ vs. v ∷ vs) x) (read_argument globals ev a)) (args_same globals ev el f args same.1)
