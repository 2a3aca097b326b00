use Rattle.std.proofs.Common.{◌∙◌}
use Rattle.shell.proofs.SinkLemmas.{went_on, still_fits, taken_is_clean}
use Rattle.shell.proofs.write_exe.write_exe.Goals as goal

pub loop-written-preserved : goal.loop-written-preserved
loop-written-preserved g c = record {
  fits = still_fits _ _ _ c.loop-written.invariant.fits (c.in-Ok.ensures.puts.0);
  went = went_on _ _ _ _ _ _ c.loop-written.invariant.went (c.in-Ok.ensures.puts.1);
  clean = c.in-Ok.ensures.counts ∙ taken_is_clean _ _ c.in-Ok.count c.in-Ok.count-test.1 ∙ c.loop-written.invariant.clean;
}
