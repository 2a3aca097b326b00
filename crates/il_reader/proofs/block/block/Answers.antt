use Rattle.std.proofs.Common.{◌≡◌, ℕ, Option, Some, sym, ap, ◌∙◌}
use Rattle.std.proofs.lemmas.Result.{err_from_is_err_and}
use Rattle.il_ast.specs.declared.block.Block.{Block}
use Rattle.il_ast.specs.declared.instruction.Lined.{Lined}
use Rattle.il_ast.specs.declared.instruction.Jump.{Jump}
use Rattle.il_reader.specs.Prelude.{State, Step, ◌>>=◌, give, maybe, sees, label, on_line, lined, jump, is_word, Lines, body, block}
use Rattle.il_reader.proofs.Binding.{bind_some, bind_none, on_line_then}
use Rattle.il_reader.proofs.block.block.Goals as goal

abbrev end : Step (Option (Lined Jump))
end = maybe (sees is_word) (on_line (lined jump))

abbrev behind_lines : ℕ → ℕ → Lines → Step Block
behind_lines n l parts = end >>= λ end. give (record { line = n; label = l; phis = parts.0; insts = parts.1; jump = end })

abbrev behind_label : ℕ → ℕ → Step Block
behind_label n l = body >>= behind_lines n l

block_is : (s : State) → block s ≡ ◌>>=◌ (on_line label) (behind_label s.line) s
block_is s = on_line_then label (behind_label s.line) s

pub returns-in_err-label : goal.returns-in_err-label
returns-in_err-label c =
    let p = err_from_is_err_and c.from_residual.result c.from_residual.ensures.1 in
    let s = c.args.reader.now in
    rw (p.1, p.2) (λ e. block_is s ∙ bind_none (on_line label) (behind_label s.line) s (c.in_err-label.ensures e))

pub returns-in_err-phis : goal.returns-in_err-phis
returns-in_err-phis c =
    let p = err_from_is_err_and c.from_residual-in_err-phis.result c.from_residual-in_err-phis.ensures.1 in
    let s = c.args.reader.now in
    let m = c.label_line.new.reader in
    rw (p.1, p.2) (λ e. block_is s
    ∙ bind_some (on_line label) (behind_label s.line) s m c.in_ok-label.label c.in_ok-label.ensures
    ∙ bind_none body (behind_lines s.line c.in_ok-label.label) m (c.in_err-phis.ensures e))

pub returns-in_err-jump : goal.returns-in_err-jump
returns-in_err-jump c =
    let p = err_from_is_err_and c.from_residual-in_err-jump.result c.from_residual-in_err-jump.ensures.1 in
    let s = c.args.reader.now in
    let m = c.label_line.new.reader in
    let l = c.in_ok-label.label in
    let n = c.body.new.reader in
    rw (p.1, p.2) (λ e. block_is s
    ∙ bind_some (on_line label) (behind_label s.line) s m l c.in_ok-label.ensures
    ∙ bind_some body (behind_lines s.line l) m n (c.in_ok-phis.phis, c.in_ok-phis.insts) c.in_ok-phis.ensures
    ∙ bind_none end (λ end. give (record { line = s.line; label = l; phis = c.in_ok-phis.phis; insts = c.in_ok-phis.insts; jump = end })) n (c.in_err-jump.ensures e))

pub returns : goal.returns
returns c =
    let s = c.args.reader.now in
    let m = c.label_line.new.reader in
    let l = c.in_ok-label.label in
    let n = c.body.new.reader in
    let finish = λ (end : Option (Lined Jump)). give (record { line = s.line; label = l; phis = c.in_ok-phis.phis; insts = c.in_ok-phis.insts; jump = end }) in
    block_is s
    ∙ bind_some (on_line label) (behind_label s.line) s m l c.in_ok-label.ensures
    ∙ bind_some body (behind_lines s.line l) m n (c.in_ok-phis.phis, c.in_ok-phis.insts) c.in_ok-phis.ensures
    ∙ bind_some end finish n c.optional_jump.new.reader c.in_ok-jump.jump c.in_ok-jump.ensures
    ∙ ap (λ (line : ℕ). Some (record { line = line; label = l; phis = c.in_ok-phis.phis; insts = c.in_ok-phis.insts; jump = c.in_ok-jump.jump }, c.optional_jump.new.reader)) (sym c.line-line.ensures)
