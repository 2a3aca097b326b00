use Rattle.std.proofs.Common.{◌≡◌, drop, not}
use Rattle.il_types.specs.declared.site.Site.{Site}
use Rattle.il_types.specs.Prelude.{when, first, marked}
use Rattle.il_types.proofs.repeats.first_unmarked.Given as goal

abbrev pub invariant-loop-site : goal.invariant-loop-site
invariant-loop-site l = first (λ (s : Site). when (not (marked l.marks s.number)) s.line) (drop l.site-index l.sites) ≡ first (λ (s : Site). when (not (marked l.marks s.number)) s.line) l.sites
