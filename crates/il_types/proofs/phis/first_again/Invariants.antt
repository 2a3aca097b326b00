use Rattle.std.proofs.Common.{◌≡◌, drop}
use Rattle.il_types.specs.declared.site.Site.{Site}
use Rattle.il_types.specs.Prelude.{when, first, named, is_again}
use Rattle.il_types.proofs.phis.first_again.Given as goal

abbrev pub invariant-loop-site : goal.invariant-loop-site
invariant-loop-site l =
    first (λ (s : Site). when (is_again (named l.tally s.number)) s.line) (drop l.site-index l.sites)
    ≡ first (λ (s : Site). when (is_again (named l.tally s.number)) s.line) l.sites
