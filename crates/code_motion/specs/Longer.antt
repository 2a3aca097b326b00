-- Blocks with more operations, in registers that the function doesn't have.
use Rattle.std.specs.Prelude.{◌≡◌, ℕ, Bool, true, false, ◌&&◌, nat_le, List, [], ◌∷◌, Option, Some, None}
use Rattle.vcode.specs.declared.line.Line.{Line}
use Rattle.vcode.specs.declared.line.Line.TheVariants.{Operate}
use Rattle.vcode.specs.declared.code.Block.{Block}
use Rattle.vcode.specs.Prelude.{is_paid, line_keeps, is_below}

-- an operation into a register from `before` on, and below `after` as all that it names
abbrev pub is_extra : (before after : ℕ) → Line ℕ → Bool
is_extra before after (Operate to op a b) =
    nat_le before to && line_keeps (is_below after) (let l : Line ℕ = Operate to op a b in l)
is_extra before after l = false

-- the lines, with such operations among them
pub data AreLonger (before after : ℕ) : (lines new : List (Line ℕ)) → Type 0 where
  NoLines : AreLonger before after [] []
  Own : {l : Line ℕ} {lines new : List (Line ℕ)} → AreLonger before after lines new → AreLonger before after (l ∷ lines) (l ∷ new)
  Extra : {m : Line ℕ} {lines new : List (Line ℕ)} → is_extra before after m ≡ true → AreLonger before after lines new → AreLonger before after lines (m ∷ new)

-- a line, and the one in front of it if there is one
abbrev pub with_front : Option (Line ℕ) → Line ℕ → List (Line ℕ)
with_front None l = l ∷ []
with_front (Some m) l = m ∷ l ∷ []

pub record IsLonger (before after : ℕ) (b d : Block ℕ) : Type 0 where
  pub lines : AreLonger before after b.lines d.lines
  pub jump : d.jump ≡ b.jump
  pub paid : is_paid b ≡ true → is_paid d ≡ true

abbrev pub AllLonger : (before after : ℕ) → (blocks new : List (Block ℕ)) → Type 0
AllLonger before after [] [] = Unit {0}
AllLonger before after [] (d ∷ new) = ⊥
AllLonger before after (b ∷ blocks) [] = ⊥
AllLonger before after (b ∷ blocks) (d ∷ new) =
    IsLonger before after b d × AllLonger before after blocks new
