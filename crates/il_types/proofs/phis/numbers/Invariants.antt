use Rattle.std.proofs.Common.{◌≡◌, map, take}
use Rattle.il_types.specs.declared.site.Site.{Site}
use Rattle.il_types.proofs.phis.numbers.Given as goal

abbrev pub invariant-loop-site : goal.invariant-loop-site
invariant-loop-site l = l.numbers.items ≡ map (λ (s : Site). s.number) (take l.site-index l.sites)
