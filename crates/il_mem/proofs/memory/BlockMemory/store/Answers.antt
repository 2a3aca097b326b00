use Rattle.std.proofs.Common.{◌∙◌, sym}
use Rattle.il_mem.proofs.Accesses.{store_at, store_nowhere}
use Rattle.il_mem.proofs.memory.BlockMemory.store.Goals as goal

pub returns-then-store_place-clause-some : goal.returns-then-store_place-clause-some
returns-then-store_place-clause-some c =
    store_at c.args.self.now _ c.args.at c.args.value c.in-Some.place (sym c.pointed.ensures ∙ c.in-Some.is)
    ∙ c.store_place.ensures.gives.done c.if-store_place.true

pub returns-else-store_place-clause-none : goal.returns-else-store_place-clause-none
returns-else-store_place-clause-none c =
    store_at c.args.self.now _ c.args.at c.args.value c.in-Some.place (sym c.pointed.ensures ∙ c.in-Some.is)
    ∙ c.store_place.ensures.gives.nothing c.if-store_place.false

pub returns-in-None-clause-none : goal.returns-in-None-clause-none
returns-in-None-clause-none c = store_nowhere c.args.self.now _ c.args.at c.args.value (sym c.pointed.ensures ∙ c.in-None.is)
