use Rattle.std.proofs.Common.{◌≡◌, ◌∙◌, ◌++◌, ◌+◌, ℕ, List, take, ap}
use Rattle.vcode.specs.declared.code.Block.{Block}
use Rattle.vcode.specs.declared.line.Line.{Line}
use Rattle.vcode.specs.declared.line.Jump.TheVariants.{Goto}
use Rattle.inlining.specs.InPlace.{arguments_brought}
use Rattle.inlining.proofs.blocks.up_to_call.Goals as goal

abbrev leading : ℕ → List (Line ℕ) → Block ℕ
leading to lines = record { lines = lines; jump = Goto to }

pub returns : goal.returns
returns c =
    let j = c.args.line in
    let site = c.args.site.now in
    let brought = arguments_brought c.args.base c.args.params.now site.args.now in
    let front : c.push_lines.new.to.items ≡ take j site.block.now.lines =
    c.in_ok-push_lines.ensures ∙ ap (λ (xs : List (Line ℕ)). xs ++ take j c.as_slice.result.now) c.in_ok-lines.ensures.items ∙ ap (take j) c.as_slice.ensures in
    ap (leading (c.args.behind + 1)) (c.from_vec.ensures ∙ c.in_ok-push_arguments.ensures ∙ ap (λ (xs : List (Line ℕ)). xs ++ brought) front)
