use Rattle.std.proofs.Common.{arith}
use Rattle.std.proofs.lemmas.Grind.{common_steps}
use Rattle.rv_machine.specs.Width.{bytes_of}
use Rattle.rv_machine.proofs.WholeLemmas.{whole-allows}
use Rattle.rv_machine.proofs.lookup.write.Goals as goal

pub returns-clause-done : goal.returns-clause-done
returns-clause-done c = record {
  may = whole-allows (λ p. p.writable) c.args.at (bytes_of c.args.width) c.in-Some.k c.args.regions.now c.index-regions-k.result c.in-Some.ensures.whole c.if-not-regions-k.false;
  value = c.write_in.ensures.bytes;
}

pub returns-in_default-clause-done : goal.returns-in_default-clause-done
returns-in_default-clause-done c = grind (arith, common_steps)
