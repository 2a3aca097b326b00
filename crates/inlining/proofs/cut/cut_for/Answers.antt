use Rattle.std.proofs.Common.{rules, ℕ, List, ap, ◌∙◌}
use Rattle.std.specs.List.{list_all}
use Rattle.vcode.specs.declared.limits.TheConstants.{PLACES}
use Rattle.vcode.specs.declared.place.Destination.{Destination}
use Rattle.vcode.specs.Prelude.{is_below}
use Rattle.inlining.proofs.WithinLimits.{params_known}
use Rattle.inlining.proofs.cut.cut_for.Goals as goal

pub up_to_call-requires-clause-known : goal.up_to_call-requires-clause-known
up_to_call-requires-clause-known c = ap (λ (ds : List (Destination ℕ)). list_all (λ (d : Destination ℕ). is_below PLACES d.place) ds) c.as_slice.ensures ∙ params_known c.args.candidate.now

pub returns-then-are_paid : goal.returns-then-are_paid
returns-then-are_paid c = search rules
