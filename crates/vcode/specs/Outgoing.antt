-- How many arguments a code passes on the stack, and how much of it a call of the code takes.
use Rattle.std.specs.Prelude.{ℕ, ◌+◌, ◌-◌, ◌*◌, max, List, [], ◌∷◌, length}
use Rattle.il_ast.specs.Prelude.{round_16}
use Rattle.rv_isa.specs.declared.abi.TheConstants.{ARGUMENT_REGISTERS}
use Rattle.vcode.specs.Types.{Line, Call, Block, Code}
use Rattle.vcode.specs.Regular.{area}

-- the arguments of a call that are passed on the stack: those that registers don't pass
abbrev pub args_on_stack : {P : Type 0} → Line P → ℕ
args_on_stack (Call to callee args) = length args - ARGUMENT_REGISTERS
args_on_stack l = 0

abbrev pub most_in_lines : {P : Type 0} → List (Line P) → ℕ
most_in_lines [] = 0
most_in_lines (l ∷ lines) = max (args_on_stack l) (most_in_lines lines)

abbrev pub most_in_blocks : {P : Type 0} → List (Block P) → ℕ
most_in_blocks [] = 0
most_in_blocks (b ∷ blocks) = max (most_in_lines b.lines) (most_in_blocks blocks)

-- the most arguments that a call passes on the stack
abbrev pub outgoing : {P : Type 0} → Code P → ℕ
outgoing f = most_in_blocks f.blocks

-- the bytes of stack that a call of a function with this code, over so many places, is counted for
-- at least
abbrev pub frame_bound : {P : Type 0} → Code P → (places : ℕ) → ℕ
frame_bound f places = round_16 (area f + 8 * (places + outgoing f + 16))
