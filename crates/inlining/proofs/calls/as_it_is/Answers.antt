use Rattle.std.proofs.Common.{◌++◌, List, ℕ, refl, ◌∙◌, ap}
use Rattle.vcode.specs.declared.code.Block.{Block}
use Rattle.inlining.specs.declared.growth.Growth.{Growth}
use Rattle.inlining.specs.declared.limits.TheConstants.{LINES, COPIES}
use Rattle.inlining.proofs.Growing.{grown_itself}
use Rattle.inlining.proofs.calls.as_it_is.Goals as goal

pub returns : goal.returns
returns c = λ candidates.
    let v = c.args.function.now in
    let g : Growth = record { blocks = c.push_copies.new.to; room = record { registers = v.registers; weight_left = c.args.weight_left; lines_left = LINES; copies_left = COPIES } } in
    grown_itself candidates v g
    (c.in_ok-push_copies.ensures ∙ ap (λ (bs : List (Block ℕ)). bs ++ c.as_slice.result.now) c.in_ok-blocks.ensures.items ∙ c.as_slice.ensures) refl c.requires
