-- Lines and blocks are made one after another.
use Rattle.std.proofs.Common.{◌≡◌, ℕ, ◌+◌, ◌<◌, Bool, List, ◌∷◌, Option, length, get_or, drop, sym, subst}
use Rattle.vcode.specs.declared.line.Line.{Line}
use Rattle.vcode.specs.declared.line.Jump.{Jump}
use Rattle.vcode.specs.declared.code.Block.{Block}
use Rattle.vcode.proofs.Lists.{item_next}
use Rattle.value_numbering.specs.declared.fact.Fact.{Fact}
use Rattle.value_numbering.specs.declared.ways.Order.{Order}
use Rattle.value_numbering.specs.Steps.{after}
use Rattle.value_numbering.specs.Reused.{IsKnown, AllKnown, Made, AreReused, IsReused, AllReused}

-- one fact more is known
pub facts_on : (marks : List Bool) (wanted facts : List Fact) (order : Option Order) (i : ℕ) (f : Fact) → i < length wanted → f ≡ get_or wanted i f → IsKnown marks facts order f → AllKnown marks facts order (drop (i + 1) wanted)
    → AllKnown marks facts order (drop i wanted)
facts_on marks wanted facts order i f low is known rest = subst (λ (xs : List Fact). AllKnown marks facts order xs) (sym (item_next wanted i f low is)) (known, rest)

-- one line more
pub lines_on : (n : ℕ) (marks : List Bool) (claims : List (List Fact)) (facts : List Fact) (lines : List (Line ℕ)) (i : ℕ) (l m : Line ℕ) (rest : List (Line ℕ)) (j : Jump ℕ) → i < length lines → l ≡ get_or lines i l → Made n facts l m
    → AreReused n marks claims (after m facts) (drop (i + 1) lines) rest j → AreReused n marks claims facts (drop i lines) (m ∷ rest) j
lines_on n marks claims facts lines i l m rest j low is made on = subst (λ (xs : List (Line ℕ)). AreReused n marks claims facts xs (m ∷ rest) j) (sym (item_next lines i l low is)) (made, on)

-- one block more
pub blocks_on : (n : ℕ) (marks : List Bool) (claims : List (List Fact)) (blocks : List (Block ℕ)) (i : ℕ) (b d : Block ℕ) (rest : List (Block ℕ)) → i < length blocks → b ≡ get_or blocks i b → IsReused n marks claims i b d
    → AllReused n marks claims (i + 1) (drop (i + 1) blocks) rest → AllReused n marks claims i (drop i blocks) (d ∷ rest)
blocks_on n marks claims blocks i b d rest low is made on = subst (λ (xs : List (Block ℕ)). AllReused n marks claims i xs (d ∷ rest)) (sym (item_next blocks i b low is)) (made, on)
