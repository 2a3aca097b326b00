use Rattle.std.proofs.Common.{◌≡◌, ◌∙◌, ◌-◌, ap, subst, sym, Bool, arith, slice_get, None, MatchBool}
use Rattle.std.proofs.lemmas.Grind.{common_steps}
use Rattle.std.proofs.lemmas.Option.{slice_get_past}
use Rattle.obj_link.specs.Prelude.{shown}
use Rattle.il_interp.specs.Machine.{program_of}
use Rattle.il_interp.specs.Hops.{Ends, GoesAlong}
use Rattle.il_interp.proofs.HopLemmas.{along_further, along_hop, along_row}
use Rattle.il_interp.proofs.hops.turns_in_block.Goals as goal

pub returns-then-branch-clause-means : goal.returns-then-branch-clause-means
returns-then-branch-clause-means c =
    let p = program_of c.args.prepared.now in
    let f = shown c.args.function.now in
    let b = c.args.block.now in
    let old = c.args.frame.now in
    let next = c.operate_in_row-next.result in
    let row = record old { next = next; temps = c.operate_in_row-next.new.temps } in
    let none : slice_get b.insts next ≡ None =
    ap (λ is. slice_get is next) (sym c.as_slice-insts.ensures) ∙ slice_get_past c.as_slice-insts.result.now next (omega (arith, c.if-next-insts.false))
    in
    let hops = subst (λ (done : Bool). MatchBool done (Ends p f b row c.hop.new.frame) (c.hop.new.frame ≡ row)) c.if-branch.true c.in_ok-hop.ensures.ends in
    let before = c.args.memory.now in
    let after = c.operate_in_row-next.new.memory in
    along_further p old row c.hop.new.frame before after after (next - old.next) 1
    (along_row p f b c.as_slice-insts.result.now old before after next c.operate_in_row-next.new.temps c.requires.function c.requires.block (sym c.as_slice-insts.ensures)
    c.operate_in_row-next.ensures.goes)
    (along_hop p f b row c.hop.new.frame after c.requires.function c.requires.block none hops)

pub returns-else-branch-clause-means : goal.returns-else-branch-clause-means
returns-else-branch-clause-means c =
    let p = program_of c.args.prepared.now in
    let f = shown c.args.function.now in
    let b = c.args.block.now in
    let old = c.args.frame.now in
    let next = c.operate_in_row-next.result in
    let row = record old { next = next; temps = c.operate_in_row-next.new.temps } in
    let stays = subst (λ (done : Bool). MatchBool done (Ends p f b row c.hop.new.frame) (c.hop.new.frame ≡ row)) c.if-branch.false c.in_ok-hop.ensures.ends in
    let before = c.args.memory.now in
    let after = c.operate_in_row-next.new.memory in
    subst (λ fr. GoesAlong p old before (next - old.next) fr after) (sym stays)
    (along_row p f b c.as_slice-insts.result.now old before after next c.operate_in_row-next.new.temps c.requires.function c.requires.block (sym c.as_slice-insts.ensures)
    c.operate_in_row-next.ensures.goes)

pub returns-in_err-hop-clause-same : goal.returns-in_err-hop-clause-same
returns-in_err-hop-clause-same c = grind (arith, common_steps)

pub returns-then-done-most-clause-same : goal.returns-then-done-most-clause-same
returns-then-done-most-clause-same c = grind (arith, common_steps)

pub overflow_sub-done : goal.overflow_sub-done
overflow_sub-done c = grind (arith, common_steps)
