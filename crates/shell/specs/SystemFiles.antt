-- Files of the system: who may execute them.
use Rattle.std.specs.Prelude.{ℕ, ◌/◌, bit_and, bit_or}

-- the mode with which those who may read a file may execute it too, and which is else the same:
-- the bit of each class for executing stands two below its bit for reading
abbrev pub executable_mode : ℕ → ℕ
executable_mode mode = bit_or mode (bit_and mode 0o444 / 4)
