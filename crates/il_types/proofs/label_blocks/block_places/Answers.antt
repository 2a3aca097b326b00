use Rattle.std.proofs.Common.{◌∙◌, sym, ap, cond, nat_eq, Some, None}
use Rattle.std.specs.Option.{option_or}
use Rattle.il_types.specs.Prelude.{place_in}
use Rattle.il_types.proofs.PlaceTable.{places_further}
use Rattle.il_types.proofs.label_blocks.block_places.Goals as goal

pub loop-place-preserved : goal.loop-place-preserved
loop-place-preserved c =
    λ j. c.in_ok-set_place.ensures j
    ∙ (ap (λ n. option_or (place_in c.loop-place.table.items j) (cond (nat_eq n j) (Some c.loop-place.place) None)) c.number.ensures
    ∙ (ap (λ o. option_or o (cond (nat_eq c.index-blocks-place.result.label j) (Some c.loop-place.place) None)) (c.loop-place.invariant j)
    ∙ sym (places_further c.args.blocks.now c.loop-place.place c.index-blocks-place.result j c.loop-place-test.true c.index-blocks-place.is)))
