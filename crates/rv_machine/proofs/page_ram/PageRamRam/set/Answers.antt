use Rattle.std.proofs.Common.{List, Option, subst, sym, ap, ◌∙◌}
use Rattle.rv_machine.specs.declared.page.Page.{Page}
use Rattle.rv_isa.specs.Prelude.{updated}
use Rattle.rv_machine.specs.Pages.{AllPermit, paged_byte}
use Rattle.rv_machine.proofs.PageLemmas.{items-after}
use Rattle.rv_machine.proofs.page_ram.PageRamRam.set.Goals as goal

pub invariant_of-self : goal.invariant_of-self
invariant_of-self c = record {
  permits = let e = items-after c.args.self.now.pages.len c.paged_set.new.pages c.args.self.now.pages.items c.as_mut_slice.result.now c.paged_set.auto.pages c.as_mut_slice.ensures.len in
      let P : List (Option Page) → Type 0 = λ l. AllPermit c.args.self.now.regions.items l in
      subst P (sym e) (c.paged_set.ensures.permits c.args.self.now.regions.items (subst P (sym c.as_mut_slice.ensures.value) c.args.self.now.permits));
}

pub returns-clause-bytes : goal.returns-clause-bytes
returns-clause-bytes c =
    let e = items-after c.args.self.now.pages.len c.paged_set.new.pages c.args.self.now.pages.items c.as_mut_slice.result.now c.paged_set.auto.pages c.as_mut_slice.ensures.len in
    ap (λ l. paged_byte c.args.self.now.regions.items l) e ∙ c.paged_set.ensures.bytes c.args.self.now.regions.items
    ∙ ap (λ l. updated (paged_byte c.args.self.now.regions.items l) c.args.at c.args.byte) c.as_mut_slice.ensures.value
