use Rattle.std.proofs.Common.{sym, ◌∙◌}
use Rattle.std.proofs.lemmas.List.{length-map}
use Rattle.obj_link.specs.Prelude.{program, shown}
use Rattle.obj_link.proofs.ImageLemmas.{image_made, contents_made}
use Rattle.obj_link.proofs.placing.place.image_at.Goals as goal

pub new-requires : goal.new-requires
new-requires c =
    image_made (program c.args.linked.now) c.args.codes.now c.args.addresses.now c.in_ok-words.words.items c.in_ok-bytes.bytes.items
    c.requires.codes (c.requires.one_each ∙ sym (length-map c.args.linked.now.functions shown)) c.requires.fits
    c.requires.addresses c.in_ok-words.ensures c.in_ok-bytes.ensures

pub returns : goal.returns
returns c =
    c.new.ensures
    ∙ contents_made (program c.args.linked.now) c.args.codes.now c.args.addresses.now c.in_ok-words.words.items c.in_ok-bytes.bytes.items
    c.requires.addresses c.in_ok-words.ensures c.in_ok-bytes.ensures
