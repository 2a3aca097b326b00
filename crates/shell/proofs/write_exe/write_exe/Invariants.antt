use Rattle.std.proofs.Common.{◌≡◌, length, ◌-◌, ◌≤◌, take}
use Rattle.shell.specs.Sink.{Went}
use Rattle.shell.proofs.write_exe.write_exe.Given as goal

abbrev pub invariant-loop-written : goal.invariant-loop-written
invariant-loop-written g l = record {
  fits : l.written ≤ length l.bytes;
  went : Went (g.S.Sink.told l.fn.out).held (g.S.Sink.told l.out).held (take l.written l.bytes);
  clean : (g.S.Sink.told l.out).faults ≡ (g.S.Sink.told l.fn.out).faults;
}

abbrev pub decreases-loop-written : goal.decreases-loop-written
decreases-loop-written g l = length l.bytes - l.written
