use Rattle.obj_link.specs.Prelude.{program}
use Rattle.qbec.proofs.ListingLemmas.{lists}
use Rattle.qbec.proofs.symbols.listing.listing_of.Goals as goal

pub returns : goal.returns
returns c =
    lists c.args.linked.now.texts.now (program c.args.linked.now) c.args.codes.now c.in_ok-found.found.items c.as_slice.result.now c.lines_of.result c.in_ok-found.ensures c.as_slice.ensures.value c.lines_of.ensures
