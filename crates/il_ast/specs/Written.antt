-- What the grammar says of each function: it has a block, and each of its phis an argument.
use Rattle.std.specs.Prelude.{Bool, nat_lt, List, length}
use Rattle.std.specs.List.{list_all}
use Rattle.il_ast.specs.declared.block.Phi.{Phi}
use Rattle.il_ast.specs.declared.block.Block.{Block}

abbrev pub has_block : List Block → Bool
has_block blocks = nat_lt 0 (length blocks)

abbrev pub has_argument : Phi → Bool
has_argument p = nat_lt 0 (length p.args)

abbrev pub have_arguments : List Block → Bool
have_arguments blocks = list_all (λ (b : Block). list_all has_argument b.phis) blocks
