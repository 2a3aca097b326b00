use Rattle.std.proofs.Common.{◌+◌, ◌++◌, drop, sym, ap, ◌∙◌}
use Rattle.std.proofs.lemmas.List.{drop_all, append-nil}
use Rattle.vcode.proofs.Lists.{item_next}
use Rattle.abi_frames.specs.Emission.{register_items, register_all}
use Rattle.abi_frames.proofs.Walking.{code_next}
use Rattle.abi_frames.proofs.call.push_register_arguments.Goals as goal

pub loop-number-preserved : goal.loop-number-preserved
loop-number-preserved c =
    let args = c.args.arguments.now in
    let k = c.loop-number.number in
    let a = c.index-arguments-number.result in
    let y = c.args.layout.now in
    let before = c.loop-number.items.items in
    code_next before c.push_in_register.new.items.items (register_items y k a) (register_all y (k + 1) (drop (k + 1) args)) (c.args.items.now.items ++ register_all y 0 args) c.in_ok-push_in_register.ensures
    (ap (λ rows. before ++ register_all y k rows) (sym (item_next args k a c.loop-number-test.true c.index-arguments-number.is)) ∙ c.loop-number.invariant)

pub returns : goal.returns
returns c =
    let items = c.loop-number.items.items in
    sym (append-nil items) ∙ ap (λ rows. items ++ register_all c.args.layout.now c.loop-number.number rows) (sym (drop_all c.loop-number.number c.args.arguments.now c.loop-number-test.false)) ∙ c.loop-number.invariant
