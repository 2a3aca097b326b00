use Rattle.std.proofs.Common.{◌≡◌, ◌+◌, ◌-◌, ◌/◌, sym, ap, ◌∙◌, arith}
use Rattle.vcode.specs.Prelude.{keeps_places, is_place}
use Rattle.alloc_check.proofs.frame_slots.fewest_slots.Goals as goal

pub loop-short-preserved : goal.loop-short-preserved
loop-short-preserved c =
    let low = c.loop-short.short in
    let high = c.loop-short.least in
    let before = c.loop-short-test.true in
    let up : low + (high - low) / 2 + 1 - 1 ≡ low + (high - low) / 2 = omega arith in (
      omega (arith, before),
      (
        c.loop-short.invariant.1.0,
        (
          c.loop-short.invariant.1.1.0,
          λ some. ap (λ n. keeps_places (is_place n) c.args.code.now) up ∙ sym c.names_places-in-loop-short.ensures ∙ c.if-names_places-2.false,
        ),
      ),
    )

pub returns-clause-fewest : goal.returns-clause-fewest
returns-clause-fewest c =
    let order = c.loop-short.invariant.0 in
    let past = c.loop-short-test.false in
    let same : c.loop-short.least ≡ c.loop-short.short = omega (arith, order, past) in
    λ some. ap (λ n. keeps_places (is_place (n - 1)) c.args.code.now) same ∙ c.loop-short.invariant.1.1.1 (omega (arith, same, some))
