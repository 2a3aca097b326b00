-- Where jumps lead.
use Rattle.std.specs.Prelude.{ℕ, List, [], ◌∷◌}
use Rattle.vcode.specs.declared.line.Jump.{Jump}
use Rattle.vcode.specs.declared.line.Jump.TheVariants.{Goto, Branch, Return, Halt}

-- the blocks that may come after the jump
abbrev pub successors : Jump ℕ → List ℕ
successors (Goto k) = k ∷ []
successors (Branch on met otherwise) = met ∷ otherwise ∷ []
successors (Return a) = []
successors Halt = []
