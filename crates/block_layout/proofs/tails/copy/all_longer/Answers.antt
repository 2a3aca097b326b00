use Rattle.std.proofs.Common.{◌≡◌, ◌+◌, ◌<◌, Bool, List, [], ◌∷◌, ◌++◌, ℕ, length, get_or, drop, sym, ◌∙◌, ap, subst, arith}
use Rattle.std.proofs.lemmas.List.{drop_all, append-nil}
use Rattle.vcode.specs.declared.code.Block.{Block}
use Rattle.vcode.proofs.Lists.{item_next}
use Rattle.block_layout.specs.Joined.{longer, AllLonger}
use Rattle.block_layout.proofs.tails.copy.all_longer.Goals as goal
use Rattle.il_ast.proofs.Listed.{append_one}

-- one block more
blocks_on : (blocks : List (Block ℕ)) (i : ℕ) (b d : Block ℕ) (chosen : Bool) (rest : List (Block ℕ)) → i < length blocks → b ≡ get_or blocks i b → d ≡ longer blocks chosen b
    → AllLonger blocks (drop (i + 1) blocks) rest → AllLonger blocks (drop i blocks) (d ∷ rest)
blocks_on blocks i b d chosen rest low is made on = subst (λ (xs : List (Block ℕ)). AllLonger blocks xs (d ∷ rest)) (sym (item_next blocks i b low is)) ((chosen, made), on)

pub loop-number-preserved : goal.loop-number-preserved
loop-number-preserved c = λ rest h.
    let blocks = c.args.blocks.now in
    let b : Block ℕ = c.index-blocks-number.result in
    let d : Block ℕ = c.in_ok-longer.field-0 in
    subst (λ (xs : List (Block ℕ)). AllLonger blocks blocks xs)
    (sym (ap (λ (xs : List (Block ℕ)). xs ++ rest) c.in_ok-push.ensures.items ∙ append_one c.loop-number.made.items d rest))
    (c.loop-number.invariant (d ∷ rest) (blocks_on blocks c.loop-number.number b d c.is_listed.result rest c.loop-number-test.true c.index-blocks-number.is c.in_ok-longer.ensures h))

pub returns : goal.returns
returns c =
    let blocks = c.args.blocks.now in
    let none : drop c.loop-number.number blocks ≡ [] = drop_all c.loop-number.number blocks (let past = c.loop-number-test.false in omega arith) in
    subst (λ (xs : List (Block ℕ)). AllLonger blocks blocks xs) (append-nil c.loop-number.made.items)
    (c.loop-number.invariant [] (subst (λ (xs : List (Block ℕ)). AllLonger blocks xs []) (sym none) tt))
