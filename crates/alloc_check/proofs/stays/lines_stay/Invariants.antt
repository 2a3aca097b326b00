use Rattle.std.proofs.Common.{◌≡◌, drop}
use Rattle.alloc_check.specs.Prelude.{jump_point, own_of, lines_stay}
use Rattle.alloc_check.proofs.stays.lines_stay.Given as goal

abbrev pub invariant-loop-line : goal.invariant-loop-line
invariant-loop-line l =
    record {
      walk :
          lines_stay l.ground.everywhere.now l.certificate l.at (own_of l.fn.table) (drop l.line-index l.lines)
          ≡ lines_stay l.ground.everywhere.now l.certificate l.fn.first (own_of l.fn.table) l.fn.lines;
      points : jump_point l.at (drop l.line-index l.lines) ≡ jump_point l.fn.first l.fn.lines;
    }
