use Rattle.std.proofs.Common.{◌≡◌, ◌+◌, ◌<◌, List, [], ◌∷◌, ◌++◌, ℕ, length, get_or, drop, sym, ◌∙◌, ap, subst, arith}
use Rattle.std.proofs.lemmas.List.{drop_all, append-nil}
use Rattle.vcode.specs.declared.code.Block.{Block}
use Rattle.vcode.proofs.Lists.{item_next}
use Rattle.il_ast.proofs.Listed.{append_one}
use Rattle.code_motion.specs.Later.{IsLater, AllLater}
use Rattle.code_motion.proofs.later.put_off.all_later.Goals as goal

-- one block more
blocks_on : (blocks : List (Block ℕ)) (i : ℕ) (b d : Block ℕ) (rest : List (Block ℕ)) → i < length blocks → b ≡ get_or blocks i b → IsLater b d
    → AllLater (drop (i + 1) blocks) rest → AllLater (drop i blocks) (d ∷ rest)
blocks_on blocks i b d rest low is made on = subst (λ (xs : List (Block ℕ)). AllLater xs (d ∷ rest)) (sym (item_next blocks i b low is)) (made, on)

pub loop-block-preserved : goal.loop-block-preserved
loop-block-preserved c = λ rest h.
    let b : Block ℕ = c.block-item.result in
    let d : Block ℕ = c.in_ok-later.field-0 in
    subst (λ (xs : List (Block ℕ)). AllLater c.args.from.now xs)
    (sym (ap (λ (xs : List (Block ℕ)). xs ++ rest) c.in_ok-push.ensures.items ∙ append_one c.loop-block.made.items d rest))
    (c.loop-block.invariant (d ∷ rest) (blocks_on c.args.from.now c.loop-block.block-index b d rest c.loop-block-test.true c.block-item.is c.in_ok-later.ensures h))

pub returns : goal.returns
returns c =
    let none : drop c.loop-block.block-index c.args.from.now ≡ [] = drop_all c.loop-block.block-index c.args.from.now (let past = c.loop-block-test.false in omega arith) in
    subst (λ (xs : List (Block ℕ)). AllLater c.args.from.now xs) (append-nil c.loop-block.made.items)
    (c.loop-block.invariant [] (subst (λ (xs : List (Block ℕ)). AllLater xs []) (sym none) tt))
