-- Numbers that stay at the largest of 64 bits once there.
use Rattle.std.specs.Prelude.{ℕ, ◌-◌, ◌^◌, min}

abbrev pub capped : ℕ → ℕ
capped n = min n (2 ^ 64 - 1)
