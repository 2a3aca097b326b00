use Rattle.std.proofs.Common.{length, rules}
use Rattle.bitset.proofs.Members.{is_set-zeros}
use Rattle.bitset.proofs.words.drop_all.Goals as goal

pub returns-clause-empty : goal.returns-clause-empty
returns-clause-empty c =
    is_set-zeros c.fill.new.self (length c.args.words.now) (c.fill.ensures.after (λ y h. search rules))
