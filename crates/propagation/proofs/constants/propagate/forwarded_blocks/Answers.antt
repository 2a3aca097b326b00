use Rattle.std.proofs.Common.{◌≡◌, ℕ, List, [], length, drop, sym, ◌∙◌, subst, arith}
use Rattle.std.proofs.lemmas.List.{drop_all, append-nil}
use Rattle.vcode.specs.declared.code.Block.{Block}
use Rattle.propagation.specs.Forwarded.{AllForwarded}
use Rattle.std.proofs.lemmas.Grind.{common_steps}
use Rattle.propagation.proofs.constants.propagate.forwarded_blocks.Goals as goal

pub returns : goal.returns
returns c =
    let n = length c.args.table.now.written.items in
    let none : drop c.loop-number.number c.args.blocks.now ≡ [] = drop_all c.loop-number.number c.args.blocks.now (let past = c.loop-number-test.false in omega arith) in
    subst (λ (xs : List (Block ℕ)). AllForwarded n c.args.entries.now 0 c.args.blocks.now xs) (append-nil c.loop-number.made.items ∙ sym c.from_vec.ensures)
    (c.loop-number.invariant.made [] (subst (λ (xs : List (Block ℕ)). AllForwarded n c.args.entries.now c.loop-number.number xs []) (sym none) tt))

pub loop-number-preserved : goal.loop-number-preserved
loop-number-preserved c = grind (arith, common_steps)
