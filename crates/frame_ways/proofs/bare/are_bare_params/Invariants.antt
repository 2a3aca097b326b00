use Rattle.std.proofs.Common.{◌≡◌, drop}
use Rattle.std.specs.List.{list_all}
use Rattle.frame_ways.specs.Plans.{is_bare_place}
use Rattle.frame_ways.proofs.bare.are_bare_params.Given as goal

abbrev pub invariant-loop-parameter : goal.invariant-loop-parameter
invariant-loop-parameter l = list_all (λ d. is_bare_place d.place) (drop l.parameter-index l.params) ≡ list_all (λ d. is_bare_place d.place) l.fn.params
