use Rattle.std.proofs.Common.{◌≡◌, List, [], ◌++◌, ℕ, drop, sym, ◌∙◌, ap, subst, arith}
use Rattle.std.proofs.lemmas.List.{drop_all, append_assoc, append-nil}
use Rattle.vcode.specs.declared.line.Line.{Line}
use Rattle.code_motion.specs.Longer.{AreLonger, NoLines, with_front}
use Rattle.code_motion.proofs.Making.{line_on}
use Rattle.code_motion.proofs.longer.with_fronts.Goals as goal

pub loop-number-preserved : goal.loop-number-preserved
loop-number-preserved c = λ rest h.
    let n = c.args.registers.before in
    let m = c.args.registers.after in
    let l : Line ℕ = c.index-from-number.result in
    let more : List (Line ℕ) = with_front c.front.result l in
    subst (λ (xs : List (Line ℕ)). AreLonger n m c.args.from.now xs)
    (sym (ap (λ (xs : List (Line ℕ)). xs ++ rest) c.in_ok-push_with_front.ensures ∙ append_assoc c.loop-number.lines.items more rest))
    (c.loop-number.invariant (more ++ rest) (line_on n m c.args.from.now c.loop-number.number c.front.result l rest c.loop-number-test.true c.index-from-number.is c.front.ensures h))

pub returns : goal.returns
returns c =
    let n = c.args.registers.before in
    let m = c.args.registers.after in
    let none : drop c.loop-number.number c.args.from.now ≡ [] = drop_all c.loop-number.number c.args.from.now (let past = c.loop-number-test.false in omega arith) in
    subst (λ (xs : List (Line ℕ)). AreLonger n m c.args.from.now xs) (append-nil c.loop-number.lines.items)
    (c.loop-number.invariant [] (subst (λ (xs : List (Line ℕ)). AreLonger n m xs []) (sym none) NoLines))
