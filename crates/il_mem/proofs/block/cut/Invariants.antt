use Rattle.std.proofs.Common.{◌≡◌, ◌≤◌, List, length, vec_capacity}
use Rattle.il_ast.specs.declared.value.Value.{Value}
use Rattle.il_mem.specs.Joined.{joined, overlaid}
use Rattle.il_mem.proofs.block.cut.Given as goal

abbrev pub invariant-loop-bytes : goal.invariant-loop-bytes
invariant-loop-bytes l = record {
  cells : (values : List Value) → overlaid l.bytes.items (joined l.marks.items values) ≡ overlaid l.fn.bytes.items (joined l.fn.marks.items values);
  short : length l.bytes.items ≤ length l.marks.items;
  marks : length l.marks.items ≡ length l.fn.marks.items;
  capacity : vec_capacity l.bytes ≡ vec_capacity l.fn.bytes;
}

abbrev pub decreases-loop-bytes : goal.decreases-loop-bytes
decreases-loop-bytes l = length l.bytes.items
