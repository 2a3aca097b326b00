use Rattle.std.proofs.Common.{[], ◌∷◌, refl, rules}
use Rattle.bitset.proofs.Members.{is_set-zeros}
use Rattle.bitset.proofs.kept.no_words.Goals as goal

pub returns-then-count-eq1-clause-empty : goal.returns-then-count-eq1-clause-empty
returns-then-count-eq1-clause-empty c = is_set-zeros (0 ∷ []) 1 refl

pub returns-clause-empty : goal.returns-clause-empty
returns-clause-empty c =
    is_set-zeros c.in_ok-words.words.items c.args.count (c.in_ok-words.ensures.items_if_clones_equal (λ y h. search rules))
