use Rattle.std.proofs.Common.{ℕ, List, ap, ◌∙◌}
use Rattle.std.specs.List.{list_all}
use Rattle.vcode.specs.declared.limits.TheConstants.{PLACES}
use Rattle.vcode.specs.declared.code.Block.{Block}
use Rattle.vcode.specs.Prelude.{block_keeps, is_below, leads_inside}
use Rattle.inlining.specs.declared.limits.TheConstants.{BLOCKS}
use Rattle.inlining.proofs.WithinLimits.{inside_all, blocks_known}
use Rattle.inlining.proofs.cut.blocks_behind.Goals as goal

pub push_candidate-requires-clause-inside : goal.push_candidate-requires-clause-inside
push_candidate-requires-clause-inside c =
    ap (λ (bs : List (Block ℕ)). list_all (λ (b : Block ℕ). leads_inside BLOCKS b.jump) bs) c.as_slice-blocks.ensures ∙ inside_all c.args.candidate.now c.args.behind c.requires.few

pub push_candidate-requires-clause-known : goal.push_candidate-requires-clause-known
push_candidate-requires-clause-known c = ap (λ (bs : List (Block ℕ)). list_all (block_keeps (is_below PLACES)) bs) c.as_slice-blocks.ensures ∙ blocks_known c.args.candidate.now
