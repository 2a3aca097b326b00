use Rattle.std.proofs.Common.{◌≡◌, ℕ, List, [], ◌∷◌, ◌++◌, length, drop, sym, ap, ◌∙◌, subst, arith}
use Rattle.std.proofs.lemmas.List.{drop_all, append-nil}
use Rattle.vcode.specs.declared.line.Line.{Line}
use Rattle.propagation.specs.FactTable.{facts_of}
use Rattle.propagation.specs.Forwarded.{AreForwarded, after}
use Rattle.propagation.proofs.MakingFacts.{lines_on}
use Rattle.propagation.proofs.constants.propagate.forwarded_lines.Goals as goal
use Rattle.il_ast.proofs.Listed.{append_one}

pub loop-line-preserved : goal.loop-line-preserved
loop-line-preserved c =
    let n = length c.args.table.now.written.items in
    let t = c.loop-line.table in
    let u = c.pass.new.table in
    record {
      table = c.pass.ensures.table;
      count = c.pass.ensures.count ∙ c.loop-line.invariant.count;
      clock = let one = c.pass.ensures.clock in let before = c.loop-line.invariant.clock in omega (arith, one, before);
      runs = c.loop-line.invariant.runs;
      made = λ es rest whole j k h.
          subst (λ (xs : List (Line ℕ)). AreForwarded n es whole (facts_of c.args.table.now) c.args.lines.now xs j k)
          (sym (ap (λ (xs : List (Line ℕ)). xs ++ rest) c.in_ok-push.ensures.items ∙ append_one c.loop-line.made.items c.in_ok-put.put rest))
          (c.loop-line.invariant.made es (c.in_ok-put.put ∷ rest) whole j k
          (lines_on n es whole t u c.args.lines.now c.loop-line.line-index c.line-item.result c.in_ok-put.put rest j k c.loop-line-test.true c.line-item.is
          c.in_ok-put.ensures
          (λ q. c.pass.ensures.after q ∙ ap (λ m. after m c.in_ok-put.put (facts_of t) q) c.loop-line.invariant.count) h));
    }

pub returns-clause-lines : goal.returns-clause-lines
returns-clause-lines c = λ es whole j k h.
    let n = length c.args.table.now.written.items in
    let none : drop c.loop-line.line-index c.args.lines.now ≡ [] = drop_all c.loop-line.line-index c.args.lines.now (let past = c.loop-line-test.false in omega arith) in
    subst (λ (xs : List (Line ℕ)). AreForwarded n es whole (facts_of c.args.table.now) c.args.lines.now xs j k) (append-nil c.loop-line.made.items)
    (c.loop-line.invariant.made es [] whole j k (subst (λ (xs : List (Line ℕ)). AreForwarded n es whole (facts_of c.loop-line.table) xs [] j k) (sym none) h))
