-- What a function weighs, and how much stack it needs: numbers of its text alone.
use Rattle.std.specs.Prelude.{ℕ, ◌+◌, ◌-◌, ◌*◌, ◌/◌, max, List, [], ◌∷◌, length, Option, Some, None, sum_by}
use Rattle.il_ast.specs.Types.{Inst, Alloc, Blit, Call, Jump, Lined, Phi, Block, Func}
use Rattle.il_ast.specs.Effect.{blit_weight, call_weight}

-- the least multiple of 16 that is n or more
abbrev pub round_16 : ℕ → ℕ
round_16 n = (n + 15) / 16 * 16

-- ---- weight: 1 for each block, instruction, jump, parameter, argument of a call or phi, and 8
-- bytes of a blit begun

abbrev pub inst_weight : Inst → ℕ
inst_weight (Blit from to count) = blit_weight count
inst_weight (Call to callee args) = call_weight args
inst_weight i = 1

abbrev pub end_weight : Option (Lined Jump) → ℕ
end_weight None = 0
end_weight (Some j) = 1

abbrev pub block_weight : Block → ℕ
block_weight b =
    1 + end_weight b.jump + sum_by (λ (p : Phi). length p.args) b.phis + sum_by
    (λ (i : Lined Inst). inst_weight i.item) b.insts

abbrev pub weight : Func → ℕ
weight f = length f.params + sum_by block_weight f.blocks

-- ---- need

-- the bytes of an `alloc`, rounded up
abbrev pub alloc_bytes : Inst → ℕ
alloc_bytes (Alloc to alignment size) = round_16 size
alloc_bytes i = 0

abbrev pub alloc_area : Func → ℕ
alloc_area f =
    sum_by (λ (b : Block). sum_by (λ (i : Lined Inst). alloc_bytes i.item) b.insts) f.blocks

abbrev pub phi_count : Func → ℕ
phi_count f = sum_by (λ (b : Block). length b.phis) f.blocks

-- the arguments of a call past the eighth
abbrev pub args_on_stack : Inst → ℕ
args_on_stack (Call to callee args) = length args - 8
args_on_stack i = 0

abbrev pub largest_in : List (Lined Inst) → ℕ
largest_in [] = 0
largest_in (i ∷ rest) = max (args_on_stack i.item) (largest_in rest)

abbrev pub largest_of : List Block → ℕ
largest_of [] = 0
largest_of (b ∷ rest) = max (largest_in b.insts) (largest_of rest)

-- how many bytes of stack an activation of the function takes from the room that a call has
abbrev pub need : Func → ℕ
need f = round_16 (alloc_area f + 8 * (length f.temps + phi_count f + largest_of f.blocks + 16))
