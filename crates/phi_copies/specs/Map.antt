-- What is worked out once for a function, before its endings: the number of the first temporary for
-- each block's phis.
use Rattle.std.specs.Prelude.{ℕ, ◌+◌, List, [], ◌∷◌, length}
use Rattle.il_ast.specs.declared.block.Block.{Block}

-- where n is the number of the first
abbrev pub first_numbers : ℕ → List Block → List ℕ
first_numbers n [] = []
first_numbers n (b ∷ blocks) = n ∷ first_numbers (n + length b.phis) blocks
