use Rattle.std.proofs.Common.{rules, ◌≡◌, ◌+◌, ◌++◌, [], ◌∷◌, length, drop, sym, ap, ◌∙◌, append_assoc}
use Rattle.std.proofs.lemmas.List.{drop_all, append-nil}
use Rattle.vcode.proofs.Lists.{item_next}
use Rattle.cfg_live.specs.Rows.{with_block, with_blocks, starts_after}
use Rattle.cfg_live.proofs.points.push_blocks.Goals as goal

pub loop-block-preserved : goal.loop-block-preserved
loop-block-preserved c =
    let blocks = c.args.blocks.now in
    let i = c.loop-block.block-index in
    let block = c.block-item.result in
    let rest = drop (i + 1) blocks in
    let uses = c.loop-block.uses.items in
    let firsts = c.loop-block.firsts.items in
    let pushed : c.push.new.self.items ≡ firsts ++ length uses ∷ [] = search rules in
    let next = sym (item_next blocks i block c.loop-block-test.true c.block-item.is) in (
      ap (λ us. with_blocks us rest) c.in_ok-push_block.ensures ∙ (ap (with_blocks uses) next ∙ c.loop-block.invariant.0),
      ap (λ us. c.push.new.self.items ++ starts_after us rest) c.in_ok-push_block.ensures
          ∙ (ap (λ l. l ++ starts_after (with_block uses block) rest) pushed
          ∙ (append_assoc firsts (length uses ∷ []) (starts_after (with_block uses block) rest)
          ∙ (ap (λ bs. firsts ++ starts_after uses bs) next ∙ c.loop-block.invariant.1))),
    )

pub returns-clause-uses : goal.returns-clause-uses
returns-clause-uses c =
    ap (with_blocks c.loop-block.uses.items) (sym (drop_all c.loop-block.block-index c.args.blocks.now c.loop-block-test.false)) ∙ c.loop-block.invariant.0

pub returns-clause-firsts : goal.returns-clause-firsts
returns-clause-firsts c =
    let firsts = c.loop-block.firsts.items in
    sym (append-nil firsts)
    ∙ (ap (λ bs. firsts ++ starts_after c.loop-block.uses.items bs) (sym (drop_all c.loop-block.block-index c.args.blocks.now c.loop-block-test.false))
    ∙ c.loop-block.invariant.1)
