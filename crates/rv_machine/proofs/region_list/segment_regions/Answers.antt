use Rattle.std.proofs.Common.{arith}
use Rattle.std.proofs.lemmas.Grind.{common_steps}
use Rattle.rv_machine.proofs.RegionLemmas.{segments-more}
use Rattle.rv_machine.proofs.region_list.segment_regions.Goals as goal

pub loop-segment-preserved : goal.loop-segment-preserved
loop-segment-preserved c =
    segments-more c.args.segments.now c.loop-segment.segment-index c.segment-item.result c.loop-segment.regions.items c.push.new.self.items c.in_ok-region.region c.args.whole c.loop-segment-test.true c.segment-item.is c.loop-segment.invariant c.in_ok-push.ensures.items c.in_ok-region.ensures.shows c.in_ok-region.ensures.full

pub returns-in_err-region-clause-shows : goal.returns-in_err-region-clause-shows
returns-in_err-region-clause-shows c = grind (arith, common_steps)

pub returns-in_err-push-clause-shows : goal.returns-in_err-push-clause-shows
returns-in_err-push-clause-shows c = grind (arith, common_steps)
