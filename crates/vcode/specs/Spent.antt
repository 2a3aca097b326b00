-- How the price of a block is reckoned, line by line.
use Rattle.std.specs.Prelude.{ℕ, ◌+◌, ◌-◌, ◌*◌, nat_le, if◌then◌else◌, Option, Some, None}
use Rattle.vcode.specs.Types.{Line, Tick}
use Rattle.vcode.specs.Cost.{line_cost}

-- what a line leaves of a credit, if that affords it
abbrev pub spent : {P : Type 0} → ℕ → Line P → Option ℕ
spent credit (Tick turn w) = Some (credit + 32 * w)
spent credit l = if nat_le (line_cost l) credit then Some (credit - line_cost l) else None
