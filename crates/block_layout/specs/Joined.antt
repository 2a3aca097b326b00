-- Blocks with copies, at their ends, of the blocks that they go to.
use Rattle.std.specs.Prelude.{◌≡◌, ℕ, ◌+◌, Bool, true, false, List, [], ◌∷◌, ◌++◌, slice_get, Option, Some, None, sum_by}
use Rattle.vcode.specs.declared.line.Line.{Line}
use Rattle.vcode.specs.declared.line.Jump.{Jump}
use Rattle.vcode.specs.declared.line.Jump.TheVariants.{Goto}
use Rattle.vcode.specs.declared.code.Block.{Block}
use Rattle.vcode.specs.Prelude.{weight_of, turns_of}

-- the lines of both, and the jump of the second
abbrev pub joined : (b t : Block ℕ) → Block ℕ
joined b t = record { lines = b.lines ++ t.lines; jump = t.jump }

abbrev pub with_tail : Block ℕ → Option (Block ℕ) → Block ℕ
with_tail b None = b
with_tail b (Some t) = joined b t

-- the one of these blocks that a jump goes to
abbrev pub tail_of : List (Block ℕ) → Jump ℕ → Option (Block ℕ)
tail_of blocks (Goto n) = slice_get blocks n
tail_of blocks j = None

-- the block as it is, or with the one that it goes to
abbrev pub longer : List (Block ℕ) → (chosen : Bool) → Block ℕ → Block ℕ
longer blocks false b = b
longer blocks true b = with_tail b (tail_of blocks b.jump)

-- each block as it is, or with the one of `all` that it goes to
abbrev pub AllLonger : (all blocks new : List (Block ℕ)) → Type 0
AllLonger all [] [] = Unit {0}
AllLonger all [] (d ∷ new) = ⊥
AllLonger all (b ∷ blocks) [] = ⊥
AllLonger all (b ∷ blocks) (d ∷ new) =
    ((chosen : Bool) × (d ≡ longer all chosen b)) × AllLonger all blocks new

-- the weight of a tick and the turn that it begins
abbrev pub burden : Line ℕ → ℕ
burden l = weight_of l + turns_of l

abbrev pub block_burden : Block ℕ → ℕ
block_burden b = sum_by burden b.lines
