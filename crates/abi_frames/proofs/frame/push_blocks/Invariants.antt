use Rattle.il_ast.specs.declared.limits.TheConstants.{ALLOC_BYTES}
use Rattle.std.proofs.Common.{◌≡◌, ◌≤◌, ◌++◌, drop, true}
use Rattle.std.specs.List.{list_all, sum_by}
use Rattle.vcode.specs.Prelude.{alloc_bytes, passes_few}
use Rattle.abi_frames.specs.Emission.{blocks_items}
use Rattle.abi_frames.proofs.frame.push_blocks.Given as goal

abbrev pub invariant-loop-label : goal.invariant-loop-label
invariant-loop-label l =
    (l.items.items ++ blocks_items l.layout l.saved l.label (drop l.label l.blocks) ≡ l.fn.items.items ++ blocks_items l.fn.layout l.fn.saved 0 l.fn.blocks)
    × (sum_by (λ b. sum_by alloc_bytes b.lines) (drop l.label l.blocks) ≤ ALLOC_BYTES)
    × (list_all (λ b. list_all passes_few b.lines) (drop l.label l.blocks) ≡ true)
