use Rattle.std.proofs.Common.{map}
use Rattle.qbec.proofs.Placing.{words_answer}
use Rattle.qbec.proofs.codes.words_of.Goals as goal

pub returns-clause-stand : goal.returns-clause-stand
returns-clause-stand g c =
    words_answer c.args.text c.args.func.now c.candidates_in.result.now (map (λ t. t.items) c.args.tables.now) c.candidates_in.ensures
    c.function_words.result c.function_words.ensures.stand
