use Rattle.std.proofs.Common.{ap, arith, ◌∙◌}
use Rattle.rv_machine.specs.Width.{bytes_of}
use Rattle.rv_machine.proofs.WholeLemmas.{whole-found, untouched-more, high-unmapped, untouched-unmapped, full-contains}
use Rattle.rv_machine.proofs.lookup.whole.Goals as goal

pub returns-then-contains-clause-whole : goal.returns-then-contains-clause-whole
returns-then-contains-clause-whole c =
    whole-found c.args.at c.bytes-n.result (bytes_of c.args.width) c.loop-k.k c.args.regions.now c.index-regions-k.result c.bytes-n.ensures c.loop-k-test.true c.index-regions-k.is c.if-contains.ensures c.loop-k.invariant

pub loop-k-preserved : goal.loop-k-preserved
loop-k-preserved c =
    untouched-more c.args.at c.bytes-n.result c.loop-k.k c.args.regions.now c.index-regions-k.result c.index-regions-k.is c.if-touches.ensures c.loop-k.invariant

pub returns-then-at-clause-byte : goal.returns-then-at-clause-byte
returns-then-at-clause-byte c = λ byte full mapped. absurd (high-unmapped c.args.regions.now c.args.at (omega (arith, c.if-at.true)) mapped)

pub returns-else-contains-clause-byte : goal.returns-else-contains-clause-byte
returns-else-contains-clause-byte c =
    λ byte full mapped. absurd (
    full-contains c.args.regions.now c.args.at c.bytes-n.result c.loop-k.k c.index-regions-k.result (c.bytes-n.ensures ∙ ap bytes_of byte) full c.loop-k-test.true c.index-regions-k.is c.if-touches.ensures c.if-contains.ensures
    )

pub returns-clause-byte : goal.returns-clause-byte
returns-clause-byte c =
    λ byte full mapped. absurd (untouched-unmapped c.args.regions.now c.args.at c.bytes-n.result (c.bytes-n.ensures ∙ ap bytes_of byte) (λ j q below. c.loop-k.invariant j q (omega (arith, c.loop-k-test.false, below))) mapped)
