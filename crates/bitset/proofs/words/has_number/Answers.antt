use Rattle.bitset.proofs.Members.{is_set-read}
use Rattle.bitset.proofs.words.has_number.Goals as goal

pub returns : goal.returns
returns c = is_set-read c.args.words.now c.args.i
