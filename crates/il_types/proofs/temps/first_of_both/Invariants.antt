use Rattle.std.proofs.Common.{◌≡◌, drop, ◌&&◌}
use Rattle.il_types.specs.Prelude.{when, first, marked}
use Rattle.il_types.specs.declared.site.Definer.{Definer}
use Rattle.il_types.proofs.temps.first_of_both.Given as goal

abbrev pub invariant-loop-place : goal.invariant-loop-place
invariant-loop-place l = first (λ (d : Definer). when (marked l.words d.temp && marked l.longs d.temp) d.line) (drop l.place-index l.places) ≡ first (λ (d : Definer). when (marked l.words d.temp && marked l.longs d.temp) d.line) l.places
