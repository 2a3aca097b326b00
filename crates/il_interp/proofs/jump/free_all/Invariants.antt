use Rattle.std.proofs.Common.{◌≡◌, ◌≤◌, length, take}
use Rattle.il_ast.specs.Prelude.{free_all}
use Rattle.il_interp.proofs.jump.free_all.Given as goal

abbrev pub invariant-loop-left : goal.invariant-loop-left
invariant-loop-left l = record {
  inside : l.left ≤ length l.blocks;
  frees : free_all l.memory (take l.left l.blocks) ≡ free_all l.fn.memory l.blocks;
}

abbrev pub decreases-loop-left : goal.decreases-loop-left
decreases-loop-left l = l.left
