use Rattle.std.proofs.Common.{◌≡◌, ℕ, List, [], ◌∷◌, ◌++◌, ◌+◌, drop, ap, ◌∙◌, arith}
use Rattle.std.proofs.lemmas.Grind.{common_steps}
use Rattle.vcode.specs.declared.line.Line.{Line}
use Rattle.vcode.specs.Prelude.{with_line}
use Rattle.propagation.specs.declared.copies.known.KnownCopy.{KnownCopy}
use Rattle.propagation.specs.Copied.{read_by, reading_lines, known_behind}
use Rattle.propagation.proofs.MakingCopies.{lines_on, known_on}
use Rattle.propagation.proofs.copies.read.lines.Goals as goal

pub loop-item-preserved : goal.loop-item-preserved
loop-item-preserved c =
    let copies : List KnownCopy = c.loop-item.known.copies.items in
    let from : List (Line ℕ) = c.args.from.now in
    let i : ℕ = c.loop-item.item-index in
    let is : c.in_ok-put.put ≡ with_line (read_by copies) c.item-item.result = c.in_ok-put.ensures in
    record {
      made =
          ap (λ (ls : List (Line ℕ)). ls ++ reading_lines c.pass.new.self.copies.items (drop (i + 1) from)) c.in_ok-push.ensures.items
          ∙ ap (λ (cs : List KnownCopy). (c.loop-item.made.items ++ c.in_ok-put.put ∷ []) ++ reading_lines cs (drop (i + 1) from)) c.in_ok-pass.ensures
          ∙ lines_on c.loop-item.made.items copies from i c.item-item.result c.in_ok-put.put c.loop-item-test.true c.item-item.is is
          ∙ c.loop-item.invariant.made;
      known =
          ap (λ (cs : List KnownCopy). known_behind cs (drop (i + 1) from)) c.in_ok-pass.ensures
          ∙ known_on copies from i c.item-item.result c.in_ok-put.put c.loop-item-test.true c.item-item.is is
          ∙ c.loop-item.invariant.known;
    }

pub returns-clause-lines : goal.returns-clause-lines
returns-clause-lines c = grind (arith, common_steps)

pub returns-clause-known : goal.returns-clause-known
returns-clause-known c = grind (arith, common_steps)
