-- What is proved of functions in which temporaries are promoted.
use Rattle.std.specs.Prelude.{◌≡◌, ◌≤◌, true, None}
use Rattle.il_ast.specs.declared.function.Func.{Func}
use Rattle.il_ast.specs.Prelude.{weight, need}
use Rattle.il_types.specs.declared.rule.Rule.{Rule}
use Rattle.il_types.specs.Prelude.{broken_in_function, is_within}
use Rattle.promote.specs.Uses.{IsPromoted}

-- no rule is broken that wasn't before
abbrev pub RulesStay : Type 0
RulesStay =
    (f g : Func)
    → IsPromoted f g
    → ((rule : Rule) → broken_in_function rule f ≡ None)
    → (rule : Rule)
    → broken_in_function rule g ≡ None

-- the function is within the limits where it was before, weighs as much, and needs no more stack
pub record CostsStay (f g : Func) : Type 0 where
  pub limits : is_within f ≡ true → is_within g ≡ true
  pub weight : weight g ≡ weight f
  pub need : need g ≤ need f

abbrev pub LimitsStay : Type 0
LimitsStay = (f g : Func) → IsPromoted f g → CostsStay f g
