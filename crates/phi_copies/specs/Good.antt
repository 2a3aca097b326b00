-- Which functions can be lowered: those of good texts.
use Rattle.std.specs.Prelude.{◌≡◌, true, None}
use Rattle.il_ast.specs.declared.function.Func.{Func}
use Rattle.il_types.specs.declared.rule.Rule.{Rule}
use Rattle.il_types.specs.Prelude.{broken_in_function, is_within}

pub record IsGoodFunction (f : Func) : Type 0 where
  -- it breaks no rule, and passes no limit of one function
  pub rules : (rule : Rule) → broken_in_function rule f ≡ None
  pub limits : is_within f ≡ true
