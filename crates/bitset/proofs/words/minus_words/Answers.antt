use Rattle.bitset.proofs.Members.{is_set-minus}
use Rattle.bitset.proofs.words.minus_words.Goals as goal

pub returns-clause-members : goal.returns-clause-members
returns-clause-members c =
    is_set-minus c.args.words.now c.args.other.now c.clear_words.new.words c.clear_words.ensures (λ k. (c.type_inv.other k).fits)
