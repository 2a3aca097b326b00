use Rattle.std.proofs.Common.{◌≡◌, ◌+◌, List, [], ℕ, Option, drop, arith, subst}
use Rattle.std.proofs.lemmas.List.{drop_all}
use Rattle.vcode.specs.declared.line.Line.{Line}
use Rattle.vcode.proofs.Lists.{item_next}
use Rattle.code_motion.specs.declared.later.waiting.Waiting.{Waiting}
use Rattle.code_motion.specs.Later.{Makes}
use Rattle.code_motion.proofs.later.put_off.later_lines.Goals as goal

pub loop-number-preserved : goal.loop-number-preserved
loop-number-preserved c =
    let from : List (Line ℕ) = c.args.from.now in
    let i = c.loop-number.number in
    let l : Line ℕ = c.index-from-number.result in
    let q : Option Waiting = c.loop-number.put_off.waiting in
    c.in_ok-put_off.ensures from (drop (i + 1) from) (subst (λ (xs : List (Line ℕ)). Makes from c.loop-number.made.items q xs) (item_next from i l c.loop-number-test.true c.index-from-number.is) c.loop-number.invariant)

pub returns : goal.returns
returns c =
    let from : List (Line ℕ) = c.args.from.now in
    let q : Option Waiting = c.loop-number.put_off.waiting in
    let none : drop c.loop-number.number from ≡ [] = drop_all c.loop-number.number from (let past = c.loop-number-test.false in omega arith) in
    c.in_ok-finish.ensures from (subst (λ (xs : List (Line ℕ)). Makes from c.loop-number.made.items q xs) none c.loop-number.invariant)
