use Rattle.std.proofs.Common.{◌≡◌, ℕ, ◌-◌, length, get_or, arith, sym, refl}
use Rattle.std.proofs.lemmas.List.{get_or_default}
use Rattle.block_layout.proofs.Placing.{kept_at, named_twice, names_above, places_above}
use Rattle.block_layout.proofs.placement.places.fill.Goals as goal

pub returns-then-places-block-clause-named : goal.returns-then-places-block-clause-named
returns-then-places-block-clause-named c =
    let order = c.args.order.now in
    let i = c.loop-i.i in
    let j : ℕ = get_or order (i - 1) 0 in
    let at : j ≡ get_or order (i - 1) j = get_or_default order (i - 1) 0 j (omega arith) in
    let kept = kept_at order c.loop-i.places j (get_or c.loop-i.places j 0) 0 (omega arith) refl in
    sym (named_twice order c.loop-i.places (length c.args.places.now) i j c.loop-i-test.true c.loop-i.auto.i at (c.loop-i.invariant.places j) (omega arith))

pub loop-i-preserved : goal.loop-i-preserved
loop-i-preserved c =
    let order = c.args.order.now in
    let i = c.loop-i.i in
    let j : ℕ = get_or order (i - 1) 0 in
    let at : j ≡ get_or order (i - 1) j = get_or_default order (i - 1) 0 j (omega arith) in
    let kept = kept_at order c.loop-i.places j (get_or c.loop-i.places j 0) 0 (omega arith) refl in
    record {
      places = places_above order c.loop-i.places _ i j c.loop-i-test.true c.loop-i.auto.i at (omega arith) refl c.loop-i.invariant.places;
      named =
          names_above order c.loop-i.places (length c.args.places.now) i j c.loop-i-test.true c.loop-i.auto.i at (omega arith) (c.loop-i.invariant.places j) (omega arith)
          c.loop-i.invariant.named;
    }
