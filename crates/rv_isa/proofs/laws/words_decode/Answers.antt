use Rattle.rv_isa.proofs.DecodingLaws.{instruction_of-word}
use Rattle.rv_isa.proofs.laws.words_decode.Goals as goal

pub returns : goal.returns
returns c = instruction_of-word
