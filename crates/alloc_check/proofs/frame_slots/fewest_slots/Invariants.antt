use Rattle.std.proofs.Common.{◌≡◌, ◌≤◌, ◌<◌, ◌-◌, true, false}
use Rattle.vcode.specs.Prelude.{keeps_places, is_place}
use Rattle.alloc_check.proofs.frame_slots.fewest_slots.Given as goal

abbrev pub invariant-loop-short : goal.invariant-loop-short
invariant-loop-short l =
    (l.short ≤ l.least)
    × ((l.least ≤ l.enough)
    × ((keeps_places (is_place l.least) l.code ≡ true) × (0 < l.short → keeps_places (is_place (l.short - 1)) l.code ≡ false)))

abbrev pub decreases-loop-short : goal.decreases-loop-short
decreases-loop-short l = l.least - l.short
