use Rattle.std.proofs.Common.{◌≡◌, ◌+◌, ◌<◌, List, [], ◌∷◌, ◌++◌, ℕ, length, get_or, drop, sym, ◌∙◌, ap, subst, arith}
use Rattle.std.proofs.lemmas.List.{drop_all, append-nil}
use Rattle.vcode.specs.declared.code.Block.{Block}
use Rattle.vcode.proofs.Lists.{item_next}
use Rattle.constant_placement.specs.declared.sinking.known.Known.{Known}
use Rattle.constant_placement.specs.declared.sinking.known.Plan.{Plan}
use Rattle.constant_placement.specs.Known.{plan_at, Sinks, IsSunk, AllSunk}
use Rattle.constant_placement.proofs.sinking.with_sets.all_sunk.Goals as goal
use Rattle.il_ast.proofs.Listed.{append_one}

-- one block more
blocks_on : (n : ℕ) (plans : List Plan) (blocks : List (Block ℕ)) (i : ℕ) (b d : Block ℕ) (rest : List (Block ℕ)) → i < length blocks → b ≡ get_or blocks i b → IsSunk n plans i b d
    → AllSunk n plans (i + 1) (drop (i + 1) blocks) rest → AllSunk n plans i (drop i blocks) (d ∷ rest)
blocks_on n plans blocks i b d rest low is made on = subst (λ (xs : List (Block ℕ)). AllSunk n plans i xs (d ∷ rest)) (sym (item_next blocks i b low is)) (made, on)

pub loop-number-preserved : goal.loop-number-preserved
loop-number-preserved c = λ rest h.
    let n = c.args.registers in
    let plans = c.args.plans.now in
    let i = c.loop-number.number in
    let b : Block ℕ = c.index-from-number.result in
    let d : Block ℕ = c.in_ok-sinks.field-0 in
    let sinks : Sinks n (plan_at plans i) b d = subst (λ (plan : List Known). Sinks n plan b d) c.plan_at.ensures c.in_ok-sinks.ensures in
    let is : IsSunk n plans i b d = record { sinks = sinks; leads = c.leads_well.ensures c.if-not-leads_well.false } in
    subst (λ (xs : List (Block ℕ)). AllSunk n plans 0 c.args.from.now xs)
    (sym (ap (λ (xs : List (Block ℕ)). xs ++ rest) c.in_ok-push.ensures.items ∙ append_one c.loop-number.made.items d rest))
    (c.loop-number.invariant (d ∷ rest) (blocks_on n plans c.args.from.now i b d rest c.loop-number-test.true c.index-from-number.is is h))

pub returns : goal.returns
returns c =
    let n = c.args.registers in
    let plans = c.args.plans.now in
    let none : drop c.loop-number.number c.args.from.now ≡ [] = drop_all c.loop-number.number c.args.from.now (let past = c.loop-number-test.false in omega arith) in
    subst (λ (xs : List (Block ℕ)). AllSunk n plans 0 c.args.from.now xs) (append-nil c.loop-number.made.items)
    (c.loop-number.invariant [] (subst (λ (xs : List (Block ℕ)). AllSunk n plans c.loop-number.number xs []) (sym none) tt))
