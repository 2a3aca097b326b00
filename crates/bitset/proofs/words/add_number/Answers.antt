use Rattle.bitset.proofs.Members.{with_number, is_set-with_number}
use Rattle.bitset.proofs.words.add_number.Goals as goal

pub returns-clause-members : goal.returns-clause-members
unfolding with_number
returns-clause-members c = is_set-with_number c.args.words.now c.args.i c.requires
