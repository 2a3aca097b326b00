use Rattle.std.proofs.Common.{◌≡◌, true, List, ℕ, refl, sym, subst, take}
use Rattle.vcode.specs.declared.line.Line.{Line}
use Rattle.constant_placement.specs.Known.{stay_known, Sets}
use Rattle.constant_placement.proofs.sinking.with_sets.sinks.Goals as goal

pub returns-then-is_paid : goal.returns-then-is_paid
returns-then-is_paid c =
    let n = c.args.place in
    let stay : stay_known (take n c.args.from.now.lines) c.args.plan.now ≡ true =
    subst (λ (ls : List (Line ℕ)). stay_known (take n ls) c.args.plan.now ≡ true) c.as_slice.ensures (c.if-fits.ensures.stay refl)
    in
    Sets n (c.if-fits.ensures.low refl) stay c.in_ok-made.ensures.lines c.in_ok-made.ensures.jump (sym c.if-is_paid.ensures)
