use Rattle.std.proofs.Common.{◌≡◌, take}
use Rattle.il_types.specs.Prelude.{param_sites}
use Rattle.il_types.proofs.sites.param_sites.Given as goal

abbrev pub invariant-loop-param : goal.invariant-loop-param
invariant-loop-param l = l.found.items ≡ param_sites (take l.param-index l.params)
