use Rattle.std.proofs.Common.{◌≡◌, List, ◌++◌, ℕ, sym, ◌∙◌, ap, subst}
use Rattle.vcode.specs.declared.line.Line.{Line}
use Rattle.code_motion.specs.Longer.{AreLonger}
use Rattle.code_motion.proofs.Making.{behind}
use Rattle.code_motion.proofs.longer.longer_lines.Goals as goal

pub returns : goal.returns
returns c =
    let n = c.args.registers.before in
    let m = c.args.registers.after in
    let extra : List (Line ℕ) = c.in_ok-extra.extra.items in
    let lines : List (Line ℕ) = c.in_ok-lines.lines.items in
    let same : c.push_lines.new.to.items ≡ lines ++ extra = c.in_ok-push_lines.ensures ∙ ap (λ (xs : List (Line ℕ)). lines ++ xs) c.as_slice-3.ensures.value in
    subst (AreLonger n m c.args.from.now) (sym same) (behind n m extra c.in_ok-lines.ensures c.in_ok-extra.ensures)
