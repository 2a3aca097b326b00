use Rattle.std.proofs.Common.{◌≡◌, take, true}
use Rattle.rv_machine.specs.Regions.{AllFull, ShowsAll}
use Rattle.rv_machine.proofs.region_list.segment_regions.Given as goal

abbrev pub invariant-loop-segment : goal.invariant-loop-segment
invariant-loop-segment l = ShowsAll (take l.segment-index l.segments) l.regions.items × (l.whole ≡ true → AllFull l.regions.items)
