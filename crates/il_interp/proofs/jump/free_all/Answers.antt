use Rattle.std.proofs.Common.{get_or, ◌-◌, arith}
use Rattle.std.proofs.lemmas.Option.{slice_get-get_or}
use Rattle.il_interp.proofs.FreeLemmas.{frees_next}
use Rattle.il_interp.proofs.jump.free_all.Goals as goal

pub loop-left-preserved : goal.loop-left-preserved
loop-left-preserved c = record {
  inside = omega arith;
  frees = frees_next c.loop-left.memory c.free.new.self c.args.blocks.now c.loop-left.left (c.loop-left.left - 1) (get_or c.args.blocks.now (c.loop-left.left - 1) 0) _
      (omega arith) (slice_get-get_or c.args.blocks.now (c.loop-left.left - 1) 0 (omega arith)) c.free.ensures.freed c.loop-left.invariant.frees;
}
