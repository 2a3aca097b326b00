use Rattle.std.proofs.Common.{◌≡◌, ◌∙◌, ◌++◌, ℕ, List, map, ap}
use Rattle.vcode.specs.declared.code.Block.{Block}
use Rattle.vcode.specs.declared.line.Line.{Line}
use Rattle.vcode.specs.declared.line.Jump.{Jump}
use Rattle.inlining.specs.InPlace.{moved_line, result_brought}
use Rattle.inlining.proofs.blocks.candidate_block.Goals as goal

abbrev with_jump : List (Line ℕ) → Jump ℕ → Block ℕ
with_jump lines jump = record { lines = lines; jump = jump }

pub returns : goal.returns
returns c =
    let base = c.args.base in
    let b = c.args.block.now in
    let brought = result_brought base c.args.class c.args.to b.jump in
    let moved : c.push_moved.new.lines.items ≡ map (moved_line base) b.lines =
    c.in_ok-push_moved.ensures ∙ ap (λ (xs : List (Line ℕ)). xs ++ map (moved_line base) c.as_slice.result.now) c.in_ok-lines.ensures.items
    ∙ ap (map (moved_line base)) c.as_slice.ensures in
    let all : c.from_vec.result ≡ map (moved_line base) b.lines ++ brought =
    c.from_vec.ensures ∙ c.in_ok-push_result.ensures ∙ ap (λ (xs : List (Line ℕ)). xs ++ brought) moved in
    ap (λ (xs : List (Line ℕ)). with_jump xs c.moved_jump.result) all ∙ ap (with_jump (map (moved_line base) b.lines ++ brought)) c.moved_jump.ensures
