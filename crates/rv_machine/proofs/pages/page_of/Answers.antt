use Rattle.std.proofs.Common.{◌∙◌, sym}
use Rattle.rv_machine.proofs.PageLemmas.{page_in-read, page_in-past}
use Rattle.rv_machine.proofs.pages.page_of.Goals as goal

pub returns-then-k-pages : goal.returns-then-k-pages
returns-then-k-pages c =
    c.as_ref.ensures.value ∙ c.index-pages-k.is ∙ sym (page_in-read c.args.pages.now c.args.k c.index-pages-k.result c.if-k-pages.true)

pub returns-else-k-pages : goal.returns-else-k-pages
returns-else-k-pages c = sym (page_in-past c.args.pages.now c.args.k c.if-k-pages.false)
