use Rattle.std.proofs.Common.{◌≡◌, ◌+◌, ◌<◌, List, [], ◌∷◌, ◌++◌, ℕ, length, get_or, drop, sym, ◌∙◌, ap, subst, arith}
use Rattle.std.proofs.lemmas.List.{drop_all, append-nil}
use Rattle.vcode.specs.declared.code.Block.{Block}
use Rattle.vcode.proofs.Lists.{item_next}
use Rattle.code_motion.specs.Longer.{IsLonger, AllLonger}
use Rattle.code_motion.proofs.longer.all_longer.Goals as goal
use Rattle.il_ast.proofs.Listed.{append_one}

-- one block more
blocks_on : (n m : ℕ) (blocks : List (Block ℕ)) (i : ℕ) (b d : Block ℕ) (rest : List (Block ℕ)) → i < length blocks → b ≡ get_or blocks i b → IsLonger n m b d
    → AllLonger n m (drop (i + 1) blocks) rest → AllLonger n m (drop i blocks) (d ∷ rest)
blocks_on n m blocks i b d rest low is made on = subst (λ (xs : List (Block ℕ)). AllLonger n m xs (d ∷ rest)) (sym (item_next blocks i b low is)) (made, on)

pub loop-number-preserved : goal.loop-number-preserved
loop-number-preserved c = λ rest h.
    let n = c.args.registers.before in
    let m = c.args.registers.after in
    let b : Block ℕ = c.index-from-number.result in
    let d : Block ℕ = c.in_ok-planned.field-0 in
    subst (λ (xs : List (Block ℕ)). AllLonger n m c.args.from.now xs)
    (sym (ap (λ (xs : List (Block ℕ)). xs ++ rest) c.in_ok-push.ensures.items ∙ append_one c.loop-number.made.items d rest))
    (c.loop-number.invariant (d ∷ rest) (blocks_on n m c.args.from.now c.loop-number.number b d rest c.loop-number-test.true c.index-from-number.is c.in_ok-planned.ensures h))

pub returns : goal.returns
returns c =
    let n = c.args.registers.before in
    let m = c.args.registers.after in
    let none : drop c.loop-number.number c.args.from.now ≡ [] = drop_all c.loop-number.number c.args.from.now (let past = c.loop-number-test.false in omega arith) in
    subst (λ (xs : List (Block ℕ)). AllLonger n m c.args.from.now xs) (append-nil c.loop-number.made.items)
    (c.loop-number.invariant [] (subst (λ (xs : List (Block ℕ)). AllLonger n m xs []) (sym none) tt))
