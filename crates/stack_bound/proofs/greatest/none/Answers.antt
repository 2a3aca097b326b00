use Rattle.stack_bound.proofs.Unbounded.{unbounded_of}
use Rattle.stack_bound.proofs.greatest.none.Goals as goal

pub returns : goal.returns
returns c = λ p. unbounded_of p c.new.result c.new-2.result c.new.ensures c.new-2.ensures
