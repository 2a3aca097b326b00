use Rattle.std.proofs.Common.{arith, sym}
use Rattle.rv_machine.specs.Width.{bytes_of}
use Rattle.rv_machine.proofs.PageLemmas.{read-made, read-unmade}
use Rattle.rv_machine.proofs.pages.paged_read.Goals as goal

pub returns-in_default : goal.returns-in_default
returns-in_default c =
    read-unmade c.args.regions.now c.args.pages.now c.args.at (bytes_of c.args.width) c.read_unmade.result c.in_default.ensures c.read_unmade.ensures.room c.read_unmade.ensures.read

pub returns : goal.returns
returns c =
    read-made c.args.regions.now c.args.pages.now c.args.at (bytes_of c.args.width) c.number.result c.in-Some.page.now c.deref.result.now c.requires (sym c.in-Some.ensures) c.ranges.at.fits c.if-place-page.false (omega (arith, c.if-page-end.false, c.bytes.ensures)) c.if-not-page.false c.deref.ensures.value c.number.ensures.value c.number.ensures.small
