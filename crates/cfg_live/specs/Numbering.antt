-- The points of blocks: lines but for ticks, and jumps, from 0 in the order of the text.
use Rattle.std.specs.Prelude.{ℕ, ◌+◌, List, [], ◌∷◌}
use Rattle.vcode.specs.declared.line.Line.{Line}
use Rattle.vcode.specs.declared.line.Line.TheVariants.{Tick}
use Rattle.vcode.specs.declared.code.Block.{Block}

-- the point behind a line
abbrev pub next_point : ℕ → Line ℕ → ℕ
next_point p (Tick turn w) = p
next_point p l = p + 1

-- the point of the jump behind these lines
abbrev pub jump_point : ℕ → List (Line ℕ) → ℕ
jump_point p [] = p
jump_point p (l ∷ lines) = jump_point (next_point p l) lines

-- the point behind the last of these blocks
abbrev pub end_point : ℕ → List (Block ℕ) → ℕ
end_point p [] = p
end_point p (b ∷ blocks) = end_point (jump_point p b.lines + 1) blocks
