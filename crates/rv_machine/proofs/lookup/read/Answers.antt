use Rattle.rv_machine.specs.Width.{bytes_of}
use Rattle.rv_machine.proofs.WholeLemmas.{whole-allows, whole-within}
use Rattle.rv_machine.proofs.lookup.read.Goals as goal

pub returns : goal.returns
returns c = record {
  may = whole-allows (λ p. p.readable) c.args.at (bytes_of c.args.width) c.in_ok-k.k c.args.regions.now c.index-regions-k.result c.in_ok-k.ensures.whole c.if-not-regions-k.false;
  value = c.number_in.ensures.value;
  small = c.number_in.ensures.small;
}

pub bounds-regions-k : goal.bounds-regions-k
bounds-regions-k c = whole-within c.args.at (bytes_of c.args.width) c.in_ok-k.k c.args.regions.now c.in_ok-k.ensures.whole

pub bounds-regions-k-in_ok-k : goal.bounds-regions-k-in_ok-k
bounds-regions-k-in_ok-k c = λ _. whole-within c.args.at (bytes_of c.args.width) c.in_ok-k.k c.args.regions.now c.in_ok-k.ensures.whole

pub number_in-requires : goal.number_in-requires
number_in-requires c = c.in_ok-k.ensures.whole
