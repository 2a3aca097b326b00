use Rattle.std.proofs.Common.{◌≡◌, List, reverse, ap, ◌∙◌, ℕ}
use Rattle.std.proofs.Math.Path.{fun_ext}
use Rattle.std.proofs.lemmas.List.{reverse-reverse}
use Rattle.bitset.specs.Bits.{is_member}
use Rattle.vcode.specs.declared.line.Line.{Line}
use Rattle.vcode.specs.declared.code.Block.{Block}
use Rattle.dead_code.specs.Without.{Wanted, kept_lines, wanted_at, wanted_behind}
use Rattle.dead_code.proofs.remove.kept_block.Goals as goal

pub returns-clause-block : goal.returns-clause-block
returns-clause-block c =
    let b : Block ℕ = c.args.block.now in
    let out : Wanted = is_member c.begin.new.set in
    let begun : out ≡ wanted_behind c.args.set.now.length c.args.starts.now b.jump = fun_ext (λ r. c.begin.ensures.wanted r) in
    ap (λ (ls : List (Line ℕ)). record { lines = ls; jump = b.jump })
    (c.from_vec.ensures ∙ c.reverse.ensures.items ∙ ap reverse c.in_ok-lines.ensures.lines ∙ reverse-reverse (kept_lines out c.as_slice.result.now)
    ∙ ap (kept_lines out) c.as_slice.ensures ∙ ap (λ (w : Wanted). kept_lines w b.lines) begun)

pub returns-clause-wanted : goal.returns-clause-wanted
returns-clause-wanted c =
    let b : Block ℕ = c.args.block.now in
    let out : Wanted = is_member c.begin.new.set in
    let begun : out ≡ wanted_behind c.args.set.now.length c.args.starts.now b.jump = fun_ext (λ r. c.begin.ensures.wanted r) in
    c.in_ok-lines.ensures.wanted ∙ ap (wanted_at out) c.as_slice.ensures ∙ ap (λ (w : Wanted). wanted_at w b.lines) begun
