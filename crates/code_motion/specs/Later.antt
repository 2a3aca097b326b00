-- Blocks in which operations are put off, over lines that have nothing to do with them.
use Rattle.std.specs.Prelude.{◌≡◌, ℕ, Bool, true, false, not, ◌&&◌, nat_eq, List, [], ◌∷◌, ◌++◌, Option, Some, None}
use Rattle.vcode.specs.declared.place.Operand.{Operand}
use Rattle.vcode.specs.declared.line.Line.{Line}
use Rattle.vcode.specs.declared.line.Line.TheVariants.{Operate}
use Rattle.vcode.specs.declared.line.Operation.{Operation}
use Rattle.vcode.specs.declared.line.Operation.TheVariants.{Compare}
use Rattle.vcode.specs.declared.code.Block.{Block}
use Rattle.vcode.specs.Prelude.{is_paid, operand_keeps, line_keeps, line_writes}
use Rattle.code_motion.specs.declared.later.waiting.Waiting.{Waiting}

abbrev pub line_of : Waiting → Line ℕ
line_of p = Operate p.to p.operation p.left p.right

-- it gives the same whatever memory is
abbrev pub asks_nothing : Operation → Bool
asks_nothing (Compare on k) = false
asks_nothing op = true

abbrev pub differs : ℕ → ℕ → Bool
differs r q = not (nat_eq r q)

-- nor does it read what it writes
abbrev pub may_wait : Waiting → Bool
may_wait p =
    asks_nothing p.operation
    && (operand_keeps (differs p.to) p.left && operand_keeps (differs p.to) p.right)

-- the operand isn't what is written
abbrev pub is_spared : (written : Option ℕ) → Operand ℕ → Bool
is_spared None a = true
is_spared (Some r) a = operand_keeps (differs r) a

-- the line doesn't name what the operation writes, and writes nothing that it reads
abbrev pub lets_wait : Waiting → Line ℕ → Bool
lets_wait p l =
    line_keeps (differs p.to) l
    && (is_spared (line_writes l) p.left && is_spared (line_writes l) p.right)

-- the lines, where this operation is still to be done: over each line that lets it wait, and in front
-- of any
pub data AreLater : Option Waiting → (lines new : List (Line ℕ)) → Type 0 where
  NoLines : AreLater None [] []
  Own : {l : Line ℕ} {lines new : List (Line ℕ)} → AreLater None lines new → AreLater None (l ∷ lines) (l ∷ new)
  PutOff : {p : Waiting} {lines new : List (Line ℕ)} → may_wait p ≡ true → AreLater (Some p) lines new → AreLater None (line_of p ∷ lines) new
  Waits : {p : Waiting} {l : Line ℕ} {lines new : List (Line ℕ)} → lets_wait p l ≡ true → AreLater (Some p) lines new → AreLater (Some p) (l ∷ lines) (l ∷ new)
  Done : {p : Waiting} {lines new : List (Line ℕ)} → AreLater None lines new → AreLater (Some p) lines (line_of p ∷ new)

-- where these lines are made, and this operation is still to be done in what is left, any lines that
-- are that later make all lines
abbrev pub Makes : (all made : List (Line ℕ)) → Option Waiting → (left : List (Line ℕ)) → Type 0
Makes all made q left =
    (rest : List (Line ℕ)) → AreLater q left rest → AreLater None all (made ++ rest)

pub record IsLater (b d : Block ℕ) : Type 0 where
  pub lines : AreLater None b.lines d.lines
  pub jump : d.jump ≡ b.jump
  pub paid : is_paid b ≡ true → is_paid d ≡ true

abbrev pub AllLater : (blocks new : List (Block ℕ)) → Type 0
AllLater [] [] = Unit {0}
AllLater [] (d ∷ new) = ⊥
AllLater (b ∷ blocks) [] = ⊥
AllLater (b ∷ blocks) (d ∷ new) = IsLater b d × AllLater blocks new
