use Rattle.std.proofs.Common.{length, nat_lt, sym, ◌∙◌, ap}
use Rattle.block_layout.proofs.Placing.{named_place}
use Rattle.block_layout.proofs.placement.places.is_named.Goals as goal

pub returns : goal.returns
returns c = ap (λ p. nat_lt p (length c.args.order.now)) c.place.ensures ∙ sym (named_place c.args.order.now c.args.block)
