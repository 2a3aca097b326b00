use Rattle.std.proofs.Common.{ap, is_some}
use Rattle.rv_machine.proofs.PageLemmas.{makes, unmade, made-bytes, made-permits, made-stay}
use Rattle.rv_machine.proofs.pages.make_page.Goals as goal

pub returns-clause-stay : goal.returns-clause-stay
returns-clause-stay c =
    made-stay c.args.regions.now c.args.k c.args.pages.now.items _
    (makes c.args.regions.now c.args.k c.args.pages.now.items c.extend_to.new.pages.items c.in_ok-page.page (unmade _ _ _ _ c.page_of.ensures c.deref.ensures.value c.if-is_some.ensures) c.in_ok-extend_to.ensures.same c.in_ok-extend_to.ensures.long c.in_ok-page.ensures)

pub returns-clause-bytes : goal.returns-clause-bytes
returns-clause-bytes c =
    made-bytes c.args.regions.now c.args.k c.args.pages.now.items _
    (makes c.args.regions.now c.args.k c.args.pages.now.items c.extend_to.new.pages.items c.in_ok-page.page (unmade _ _ _ _ c.page_of.ensures c.deref.ensures.value c.if-is_some.ensures) c.in_ok-extend_to.ensures.same c.in_ok-extend_to.ensures.long c.in_ok-page.ensures)

pub returns-clause-permits : goal.returns-clause-permits
returns-clause-permits c =
    made-permits c.args.regions.now c.args.k c.args.pages.now.items _
    (makes c.args.regions.now c.args.k c.args.pages.now.items c.extend_to.new.pages.items c.in_ok-page.page (unmade _ _ _ _ c.page_of.ensures c.deref.ensures.value c.if-is_some.ensures) c.in_ok-extend_to.ensures.same c.in_ok-extend_to.ensures.long c.in_ok-page.ensures)
    c.requires.permits

pub returns-clause-made : goal.returns-clause-made
returns-clause-made c =
    let m = makes c.args.regions.now c.args.k c.args.pages.now.items c.extend_to.new.pages.items c.in_ok-page.page (unmade _ _ _ _ c.page_of.ensures c.deref.ensures.value c.if-is_some.ensures) c.in_ok-extend_to.ensures.same c.in_ok-extend_to.ensures.long c.in_ok-page.ensures in
    ap (λ p. is_some p) m.after
