use Rattle.std.proofs.Common.{◌+◌, ◌++◌, [], ◌∷◌, drop, get_or, length, sym, ap, ◌∙◌, arith}
use Rattle.std.proofs.lemmas.List.{drop_all, drop_more, append-nil}
use Rattle.rv_isa.specs.declared.abi.TheConstants.{STACK_POINTER}
use Rattle.rv_isa.specs.declared.labelled.Item.{Item}
use Rattle.operation_code.specs.Constants.{load_8}
use Rattle.abi_frames.specs.Emission.{restore_all}
use Rattle.abi_frames.proofs.Walking.{code_next}
use Rattle.abi_frames.proofs.ends.push_restores.Goals as goal

pub loop-number-preserved : goal.loop-number-preserved
loop-number-preserved c =
    let registers = c.args.registers.now in
    let i = c.loop-number.number-index in
    let r = get_or registers i 0 in
    let offset = c.loop-number.offset in
    let before = c.loop-number.items.items in
    let next = drop_more registers i 0 c.loop-number-test.true in
    let left = ap length next in
    let all = c.loop-number.invariant.1 in (
      code_next before c.push.new.self.items (load_8 r STACK_POINTER offset ∷ []) (restore_all (offset + 8) (drop (i + 1) registers)) (c.args.items.now.items ++ restore_all c.args.from registers)
          (c.in_ok-push.ensures.items ∙ ap (λ (y : Item). before ++ y ∷ []) c.load.ensures)
          (ap (λ rows. before ++ restore_all offset rows) (sym next) ∙ c.loop-number.invariant.0),
      omega (arith, left, all),
    )

pub returns : goal.returns
returns c =
    let items = c.loop-number.items.items in
    sym (append-nil items) ∙ ap (λ rows. items ++ restore_all c.loop-number.offset rows) (sym (drop_all c.loop-number.number-index c.args.registers.now c.loop-number-test.false)) ∙ c.loop-number.invariant.0
