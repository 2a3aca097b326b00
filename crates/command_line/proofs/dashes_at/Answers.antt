use Rattle.std.proofs.Common.{arith}
use Rattle.command_line.proofs.Dashes.{here, nowhere, one_more}
use Rattle.command_line.proofs.dashes_at.Goals as goal

pub loop-at-preserved : goal.loop-at-preserved
loop-at-preserved c = record {
  within = let low = c.loop-at-test.true in omega (arith, low);
  same = one_more c.args.words.now c.loop-at.at _ c.ne.result c.loop-at-test.true c.ne.ensures c.if-ne.true c.loop-at.invariant.same;
}

pub returns-else-ne-clause-value : goal.returns-else-ne-clause-value
returns-else-ne-clause-value c = here c.args.words.now c.loop-at.at _ c.ne.result c.loop-at-test.true c.ne.ensures c.if-ne.false c.loop-at.invariant.same

pub returns-after-loop-at-clause-value : goal.returns-after-loop-at-clause-value
returns-after-loop-at-clause-value c = nowhere c.args.words.now c.loop-at.at c.loop-at-test.false c.loop-at.invariant.same
