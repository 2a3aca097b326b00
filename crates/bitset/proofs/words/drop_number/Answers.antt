use Rattle.bitset.proofs.Members.{without_number, is_set-without_number}
use Rattle.bitset.proofs.words.drop_number.Goals as goal

pub returns-clause-members : goal.returns-clause-members
unfolding without_number
returns-clause-members c = is_set-without_number c.args.words.now c.args.i c.requires
