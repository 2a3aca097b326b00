use Rattle.std.proofs.Common.{◌≡◌, ◌+◌, List, [], ◌∷◌, ◌++◌, ℕ, drop, sym, ◌∙◌, ap, subst, arith}
use Rattle.std.proofs.lemmas.List.{drop_all, append-nil}
use Rattle.vcode.specs.declared.line.Line.{Line}
use Rattle.value_numbering.specs.declared.fact.Fact.{Fact}
use Rattle.value_numbering.specs.Steps.{after}
use Rattle.value_numbering.specs.Reused.{Made, AreReused}
use Rattle.value_numbering.proofs.Making.{lines_on}
use Rattle.value_numbering.proofs.lines.lines.Goals as goal
use Rattle.il_ast.proofs.Listed.{append_one}

pub loop-line-preserved : goal.loop-line-preserved
loop-line-preserved c = λ rest marks claims j h.
    let n = c.args.registers in
    let m : Line ℕ = c.in_ok-made.made in
    let facts : List Fact = c.loop-line.facts.items in
    let made : Made n facts c.line-item.result m = subst (λ (fs : List Fact). Made n fs c.line-item.result m) c.as_slice.ensures.value c.in_ok-made.ensures in
    let on : AreReused n marks claims (after m facts) (drop (c.loop-line.line-index + 1) c.args.from.now) rest j =
    subst (λ (fs : List Fact). AreReused n marks claims fs (drop (c.loop-line.line-index + 1) c.args.from.now) rest j) c.in_ok-pass.ensures h
    in
    subst (λ (xs : List (Line ℕ)). AreReused n marks claims c.args.facts.now.items c.args.from.now xs j)
    (sym (ap (λ (xs : List (Line ℕ)). xs ++ rest) c.in_ok-push.ensures.items ∙ append_one c.loop-line.all.items m rest))
    (c.loop-line.invariant (m ∷ rest) marks claims j (lines_on n marks claims facts c.args.from.now c.loop-line.line-index c.line-item.result m rest j c.loop-line-test.true c.line-item.is made on))

pub returns : goal.returns
returns c = λ marks claims j h.
    let n = c.args.registers in
    let none : drop c.loop-line.line-index c.args.from.now ≡ [] = drop_all c.loop-line.line-index c.args.from.now (let past = c.loop-line-test.false in omega arith) in
    subst (λ (xs : List (Line ℕ)). AreReused n marks claims c.args.facts.now.items c.args.from.now xs j) (append-nil c.loop-line.all.items)
    (c.loop-line.invariant [] marks claims j (subst (λ (xs : List (Line ℕ)). AreReused n marks claims c.loop-line.facts.items xs [] j) (sym none) h))
