use Rattle.std.proofs.Common.{List, Option, subst, sym}
use Rattle.rv_machine.specs.declared.page.Page.{Page}
use Rattle.rv_machine.specs.Pages.{AllPermit}
use Rattle.rv_machine.proofs.PageLemmas.{items-after}
use Rattle.rv_machine.proofs.page_ram.PageRamRam.store.Goals as goal

pub invariant_of-self : goal.invariant_of-self
invariant_of-self c = record {
  permits = let e = items-after c.args.self.now.pages.len c.paged_write.new.pages c.args.self.now.pages.items c.as_mut_slice.result.now c.paged_write.auto.pages c.as_mut_slice.ensures.len in
      let P : List (Option Page) → Type 0 = λ l. AllPermit c.args.self.now.regions.items l in
      subst P (sym e) (c.paged_write.ensures.permits c.args.self.now.regions.items (subst P (sym c.as_mut_slice.ensures.value) c.args.self.now.permits));
}
