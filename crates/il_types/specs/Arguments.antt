-- Phis that have one argument for a label.
use Rattle.std.specs.Prelude.{Bool, nat_eq, List}
use Rattle.std.specs.List.{list_all}
use Rattle.il_ast.specs.declared.block.PhiArg.{PhiArg}
use Rattle.il_ast.specs.declared.block.Phi.{Phi}
use Rattle.il_types.specs.Locals.{names_from}

-- whether each label of these arguments is that of one argument alone
abbrev pub are_distinct : List PhiArg → Bool
are_distinct args = list_all (λ (a : PhiArg). nat_eq (names_from a.from args) 1) args

-- whether that is so in each of these phis
abbrev pub are_all_distinct : List Phi → Bool
are_all_distinct phis = list_all (λ (p : Phi). are_distinct p.args) phis
