use Rattle.il_ast.specs.declared.limits.TheConstants.{ALLOC_BYTES}
use Rattle.std.proofs.Common.{◌≡◌, ◌≤◌, ◌++◌, drop, true}
use Rattle.std.specs.List.{list_all, sum_by}
use Rattle.vcode.specs.Prelude.{alloc_bytes, passes_few}
use Rattle.abi_frames.specs.Emission.{rows}
use Rattle.abi_frames.specs.Functions.{marked_body}
use Rattle.abi_frames.proofs.marks.push_parts.Given as goal

abbrev pub invariant-loop-number : goal.invariant-loop-number
invariant-loop-number l =
    (l.items.items ++ rows (λ k. k) (marked_body l.layout l.saved l.marks) l.number (drop l.number l.blocks) ≡ l.fn.items.items ++ rows (λ k. k) (marked_body l.fn.layout l.fn.saved l.fn.marks) 0 l.fn.blocks)
    × (sum_by (λ b. sum_by alloc_bytes b.lines) (drop l.number l.blocks) ≤ ALLOC_BYTES)
    × (list_all (λ b. list_all passes_few b.lines) (drop l.number l.blocks) ≡ true)
