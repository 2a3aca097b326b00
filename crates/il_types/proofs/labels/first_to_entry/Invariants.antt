use Rattle.std.proofs.Common.{◌≡◌, drop}
use Rattle.il_types.specs.Prelude.{when, first, is_entry}
use Rattle.il_types.specs.declared.site.Site.{Site}
use Rattle.il_types.proofs.labels.first_to_entry.Given as goal

abbrev pub invariant-loop-site : goal.invariant-loop-site
invariant-loop-site l = first (λ (s : Site). when (is_entry l.blocks s.number) s.line) (drop l.site-index l.sites) ≡ first (λ (s : Site). when (is_entry l.blocks s.number) s.line) l.sites
