use Rattle.il_reader.proofs.OneTree.{one_tree}
use Rattle.il_reader.proofs.laws.one_tree.Goals as goal

pub returns : goal.returns
returns c = one_tree
