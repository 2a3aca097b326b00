use Rattle.std.proofs.Common.{◌≡◌, drop}
use Rattle.obj_link.specs.Prelude.{targets_by, meaning_in}
use Rattle.obj_link.proofs.TargetLemmas.{found_then}
use Rattle.obj_link.proofs.linking.targets.targets.Given as goal

abbrev pub invariant-loop-text : goal.invariant-loop-text
invariant-loop-text l =
    targets_by (meaning_in l.owned l.exports) 0 l.texts
    ≡ found_then l.found.items (targets_by (meaning_in l.owned l.exports) l.text (drop l.text l.texts))
