use Rattle.std.proofs.Common.{length, sym, ◌∙◌, ap}
use Rattle.std.proofs.Math.Path.{fun_ext}
use Rattle.propagation.specs.FactTable.{Facts, facts_of, changed, over}
use Rattle.propagation.specs.Forwarded.{fact_of}
use Rattle.propagation.proofs.Writing.{known_low}
use Rattle.propagation.proofs.MakingFacts.{after_write, after_nothing}
use Rattle.propagation.proofs.constants.propagate.pass.Goals as goal

pub returns-in-Some-clause-after : goal.returns-in-Some-clause-after
returns-in-Some-clause-after c = λ q.
    let n = length c.args.table.now.written.items in
    let l = c.args.line.now in
    let r = c.in-Some.register in
    let fs : Facts = facts_of c.args.table.now in
    c.write.ensures.facts q
    ∙ ap (λ m. over m r c.fact_of.result (facts_of c.tick.new.self) q) c.tick.ensures.count
    ∙ ap (λ k. over n r k (facts_of c.tick.new.self) q) c.fact_of.ensures
    ∙ ap (λ (gs : Facts). over n r (fact_of l) gs q) (fun_ext c.tick.ensures.facts)
    ∙ ap (λ b. over n r (fact_of l) (changed b fs) q) c.changes_memory.ensures
    ∙ sym (after_write n l r fs (sym c.line_writes.ensures ∙ c.in-Some.is) q)

pub returns-in_default-clause-after : goal.returns-in_default-clause-after
returns-in_default-clause-after c = λ q.
    let n = length c.args.table.now.written.items in
    let l = c.args.line.now in
    let fs : Facts = facts_of c.args.table.now in
    c.tick.ensures.facts q ∙ ap (λ b. changed b fs q) c.changes_memory.ensures ∙ sym (after_nothing n l fs (sym c.line_writes.ensures ∙ c.in_default.is) (known_low c.args.table.now c.requires.table) q)
