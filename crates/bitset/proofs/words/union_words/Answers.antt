use Rattle.bitset.proofs.Members.{is_set-union, grew-changed}
use Rattle.bitset.proofs.words.union_words.Goals as goal

pub returns-clause-members : goal.returns-clause-members
returns-clause-members c =
    is_set-union c.args.words.now c.args.other.now c.join_words.new.words c.requires c.join_words.ensures.union

pub returns-clause-grew : goal.returns-clause-grew
returns-clause-grew c =
    grew-changed c.args.words.now c.args.other.now c.join_words.new.words c.join_words.result c.join_words.ensures.union c.join_words.ensures.changed (λ k. (c.type_inv.other k).fits)
