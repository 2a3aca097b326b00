use Rattle.vcode.proofs.Words.{words_are_read}
use Rattle.vcode.proofs.laws.words_are_read.Goals as goal

pub returns : goal.returns
returns c = words_are_read
