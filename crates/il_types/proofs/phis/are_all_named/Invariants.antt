use Rattle.std.proofs.Common.{◌≡◌, ℕ, drop, not}
use Rattle.std.specs.List.{list_all}
use Rattle.il_types.specs.Prelude.{named, is_never}
use Rattle.il_types.proofs.phis.are_all_named.Given as goal

abbrev pub invariant-loop-label : goal.invariant-loop-label
invariant-loop-label l =
    list_all (λ (n : ℕ). not (is_never (named l.tally n))) (drop l.label-index l.labels) ≡ list_all (λ (n : ℕ). not (is_never (named l.tally n))) l.labels
