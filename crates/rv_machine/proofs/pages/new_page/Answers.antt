use Rattle.rv_machine.proofs.PageLemmas.{copy-in, copy-part}
use Rattle.rv_machine.proofs.pages.new_page.Goals as goal

pub returns-then-spans : goal.returns-then-spans
returns-then-spans c =
    copy-in c.args.regions.now c.in-Some.i c.args.k c.index-regions-i.result c.page_in_region.result c.index-regions-i.is c.in-Some.ensures c.if-spans.ensures c.page_in_region.ensures

pub returns-else-spans : goal.returns-else-spans
returns-else-spans c =
    copy-part c.args.regions.now c.in-Some.i c.args.k c.index-regions-i.result c.page_with.result c.index-regions-i.is c.in-Some.ensures c.page_with.ensures
