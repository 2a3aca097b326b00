use Rattle.bitset.proofs.Lanes.{UnionIn-lanes, ChangedIn-lanes}
use Rattle.bitset.proofs.words.join_lanes.Goals as goal

pub returns-clause-union : goal.returns-clause-union
returns-clause-union c = UnionIn-lanes c.args.at c.args.words.now c.args.other.now c.requires.inside c.requires.same_length

pub returns-clause-changed : goal.returns-clause-changed
returns-clause-changed c = ChangedIn-lanes c.args.at c.args.words.now c.args.other.now c.requires.inside c.requires.same_length
