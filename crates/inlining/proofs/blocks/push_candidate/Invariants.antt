use Rattle.std.proofs.Common.{◌≡◌, ◌+◌, ◌++◌, map, drop}
use Rattle.inlining.specs.InPlace.{candidate_block}
use Rattle.inlining.proofs.blocks.push_candidate.Given as goal

abbrev pub invariant-loop-block : goal.invariant-loop-block
invariant-loop-block l =
    l.made.items ++ map (candidate_block (l.behind + 1) l.behind l.base l.class l.to) (drop l.block-index l.blocks)
    ≡ l.fn.made.items ++ map (candidate_block (l.fn.behind + 1) l.fn.behind l.fn.base l.fn.class l.fn.to) l.fn.blocks
