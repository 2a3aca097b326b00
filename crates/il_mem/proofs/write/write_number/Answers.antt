use Rattle.std.proofs.Common.{◌∙◌, ap, length, length-set}
use Rattle.il_mem.proofs.Writing.{written_byte}
use Rattle.il_mem.proofs.write.write_number.Goals as goal

pub loop-k-preserved : goal.loop-k-preserved
loop-k-preserved c = (
  written_byte c.args.to c.loop-k.k c.args.count c.loop-k.rest c.loop-k.block c.set_byte.new.self _ c.loop-k-test.true
      c.set_byte.ensures c.loop-k.invariant.0,
  ap length c.set_byte.ensures ∙ (length-set _ _ _ ∙ c.loop-k.invariant.1),
)
