use Rattle.std.proofs.Common.{◌≡◌, ℕ, take}
use Rattle.il_ast.specs.Prelude.{place_of}
use Rattle.il_types.specs.Prelude.{place_in}
use Rattle.il_types.proofs.label_blocks.block_places.Given as goal

abbrev pub invariant-loop-place : goal.invariant-loop-place
invariant-loop-place l = (j : ℕ) → place_in l.table.items j ≡ place_of (take l.place l.blocks) j
