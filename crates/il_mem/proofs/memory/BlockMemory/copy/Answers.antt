use Rattle.std.proofs.Common.{◌∙◌, sym, arith}
use Rattle.il_mem.proofs.Accesses.{copy_none, copy_at, copy_from_nowhere, copy_to_nowhere}
use Rattle.il_mem.proofs.memory.BlockMemory.copy.Goals as goal

pub returns-then-count-eq0-clause-some : goal.returns-then-count-eq0-clause-some
returns-then-count-eq0-clause-some c = copy_none c.args.self.now c.args.count c.args.from c.args.to (omega arith)

pub returns-then-copy_place-clause-some : goal.returns-then-copy_place-clause-some
returns-then-copy_place-clause-some c =
    copy_at c.args.self.now c.args.count c.args.from c.args.to c.in-Some.source c.in-Some-pointed.target (λ e. omega arith)
    (sym c.pointed.ensures ∙ c.in-Some.is) (sym c.pointed-in-Some.ensures ∙ c.in-Some-pointed.is)
    ∙ c.copy_place.ensures.gives.done c.if-copy_place.true

pub returns-else-copy_place-clause-none : goal.returns-else-copy_place-clause-none
returns-else-copy_place-clause-none c =
    copy_at c.args.self.now c.args.count c.args.from c.args.to c.in-Some.source c.in-Some-pointed.target (λ e. omega arith)
    (sym c.pointed.ensures ∙ c.in-Some.is) (sym c.pointed-in-Some.ensures ∙ c.in-Some-pointed.is)
    ∙ c.copy_place.ensures.gives.nothing c.if-copy_place.false

pub returns-in-None-pointed-clause-none : goal.returns-in-None-pointed-clause-none
returns-in-None-pointed-clause-none c =
    copy_to_nowhere c.args.self.now c.args.count c.args.from c.args.to (λ e. omega arith) (sym c.pointed-in-Some.ensures ∙ c.in-None-pointed.is)

pub returns-in-None-clause-none : goal.returns-in-None-clause-none
returns-in-None-clause-none c =
    copy_from_nowhere c.args.self.now c.args.count c.args.from c.args.to (λ e. omega arith) (sym c.pointed.ensures ∙ c.in-None.is)
