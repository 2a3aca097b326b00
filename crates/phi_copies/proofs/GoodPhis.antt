-- The phis of a function of a good text: each label has one argument.
use Rattle.std.proofs.Common.{◌≡◌, ℕ, true, refl, slice_get, Option, Some, None}
use Rattle.il_ast.specs.declared.block.Block.{Block}
use Rattle.il_ast.specs.declared.function.Func.{Func}
use Rattle.il_types.specs.declared.rule.Rule.TheVariants.{PhiCoversPredecessors}
use Rattle.il_types.specs.Prelude.{are_all_distinct}
use Rattle.il_types.proofs.ArgumentLemmas.{block_distinct}
use Rattle.phi_copies.specs.Good.{IsGoodFunction}
use Rattle.phi_copies.specs.Copies.{phis_of, phis_at}

-- the phis of the block at a place
pub good_distinct : (f : Func) (k : ℕ) → IsGoodFunction f → are_all_distinct (phis_at f.blocks k) ≡ true
good_distinct f k good = by (slice_get f.blocks k) refl
  where
    by : (b : Option Block) → slice_get f.blocks k ≡ b → are_all_distinct (phis_of b) ≡ true
    by None e = refl
    by (Some b) e = block_distinct f (good.rules PhiCoversPredecessors) k b e
