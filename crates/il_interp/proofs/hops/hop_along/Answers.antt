use Rattle.std.proofs.Common.{◌≡◌, ◌∙◌, ◌+◌, ◌-◌, ◌≤◌, subst, arith}
use Rattle.std.proofs.lemmas.Grind.{common_steps}
use Rattle.il_interp.specs.Machine.{program_of}
use Rattle.il_interp.specs.Hops.{GoesAlong}
use Rattle.il_interp.proofs.HopLemmas.{along_further}
use Rattle.il_interp.proofs.hops.hop_along.Goals as goal

pub returns-then-not-goes_on-clause-means : goal.returns-then-not-goes_on-clause-means
returns-then-not-goes_on-clause-means c =
    let p = program_of c.args.prepared.now in
    let old = c.args.frame.now in
    let new = c.turns_in_block.new.frame in
    let count : c.args.most - c.loop-left.left + c.in_ok-done.done ≡ c.args.most - (c.loop-left.left - c.in_ok-done.done) = omega (arith, c.in_ok-done.ensures.few, c.loop-left.invariant.0) in
    subst (λ k. GoesAlong p old c.args.memory.now k new c.turns_in_block.new.memory) count
    (along_further p old c.loop-left.frame new c.args.memory.now c.loop-left.memory c.turns_in_block.new.memory (c.args.most - c.loop-left.left) c.in_ok-done.done c.loop-left.invariant.2 c.in_ok-done.ensures.means)

pub loop-left-preserved : goal.loop-left-preserved
loop-left-preserved c =
    let p = program_of c.args.prepared.now in
    let old = c.args.frame.now in
    let new = c.turns_in_block.new.frame in
    let fewer : c.loop-left.left - c.in_ok-done.done ≤ c.args.most = omega (arith, c.loop-left.invariant.0) in
    let count : c.args.most - c.loop-left.left + c.in_ok-done.done ≡ c.args.most - (c.loop-left.left - c.in_ok-done.done) = omega (arith, c.in_ok-done.ensures.few, c.loop-left.invariant.0) in (
      fewer,
      c.in_ok-done.ensures.same ∙ c.loop-left.invariant.1,
      subst (λ k. GoesAlong p old c.args.memory.now k new c.turns_in_block.new.memory) count
          (along_further p old c.loop-left.frame new c.args.memory.now c.loop-left.memory c.turns_in_block.new.memory (c.args.most - c.loop-left.left) c.in_ok-done.done c.loop-left.invariant.2 c.in_ok-done.ensures.means),
    )

pub turns_in_block-requires-clause-function : goal.turns_in_block-requires-clause-function
turns_in_block-requires-clause-function c = grind (arith, common_steps)

pub returns-in-None-clause-few : goal.returns-in-None-clause-few
returns-in-None-clause-few c = grind (arith, common_steps)

pub overflow_sub-result : goal.overflow_sub-result
overflow_sub-result c = grind (arith, common_steps)

pub returns-in-None-block_at-clause-few : goal.returns-in-None-block_at-clause-few
returns-in-None-block_at-clause-few c = grind (arith, common_steps)

pub overflow_sub-left : goal.overflow_sub-left
overflow_sub-left c = grind (arith, common_steps)

pub overflow_sub-result-then-not-goes_on : goal.overflow_sub-result-then-not-goes_on
overflow_sub-result-then-not-goes_on c = grind (arith, common_steps)

pub returns-then-not-goes_on-clause-few : goal.returns-then-not-goes_on-clause-few
returns-then-not-goes_on-clause-few c = grind (arith, common_steps)

pub returns-clause-few : goal.returns-clause-few
returns-clause-few c = grind (arith, common_steps)

pub returns-clause-means : goal.returns-clause-means
returns-clause-means c = grind (arith, common_steps)

pub returns-in-None-block_at-clause-means : goal.returns-in-None-block_at-clause-means
returns-in-None-block_at-clause-means c = grind (arith, common_steps)

pub returns-in-None-clause-means : goal.returns-in-None-clause-means
returns-in-None-clause-means c = grind (arith, common_steps)
