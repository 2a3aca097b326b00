use Rattle.il_ast.specs.declared.limits.TheConstants.{ALLOC_BYTES}
use Rattle.std.proofs.Common.{◌≡◌, ◌+◌, ◌≤◌, ◌++◌, drop, true}
use Rattle.std.specs.List.{list_all, sum_by}
use Rattle.vcode.specs.Prelude.{alloc_bytes, passes_few}
use Rattle.abi_frames.specs.Emission.{lines_items}
use Rattle.abi_frames.proofs.line.push_lines.Given as goal

abbrev pub invariant-loop-line : goal.invariant-loop-line
invariant-loop-line l =
    (l.items.items ++ lines_items l.layout l.used (drop l.line-index l.lines) ≡ l.fn.items.items ++ lines_items l.fn.layout 0 l.fn.lines)
    × (l.used + sum_by alloc_bytes (drop l.line-index l.lines) ≤ ALLOC_BYTES)
    × (list_all passes_few (drop l.line-index l.lines) ≡ true)
