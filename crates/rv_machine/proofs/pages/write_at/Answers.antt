use Rattle.rv_machine.specs.Width.{bytes_of}
use Rattle.rv_machine.proofs.PageLemmas.{writes, not-made-writes}
use Rattle.rv_machine.proofs.pages.write_at.Goals as goal

pub returns-in-Some : goal.returns-in-Some
returns-in-Some c =
    writes c.args.k c.args.place (bytes_of c.args.width) c.args.value c.args.pages.now c.index-pages-k.result c.in-Some.page c.write_page.new.page c.requires.long c.in-Some.is c.write_page.ensures

pub returns-in_default : goal.returns-in_default
returns-in_default c =
    not-made-writes c.args.k c.args.place (bytes_of c.args.width) c.args.value c.args.pages.now _ c.index-pages-k.result c.requires.long c.in_default.is c.requires.made
