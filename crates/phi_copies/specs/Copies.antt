-- What the copies are that stand for the phis of a block, where it is entered from another. Which
-- copies they are is left open.
use Rattle.std.specs.Prelude.{◌≡◌, ℕ, zero, suc, ◌+◌, ◌*◌, ◌<◌, ◌≤◌, List, [], ◌∷◌, length, take, slice_get, Option, Some, None, option_map}
use Rattle.il_ast.specs.declared.operand.Val.{Val}
use Rattle.il_ast.specs.declared.operand.Val.TheVariants.{Int, Temp, Global}
use Rattle.il_ast.specs.declared.block.Phi.{Phi}
use Rattle.il_ast.specs.declared.block.Block.{Block}
use Rattle.il_ast.specs.declared.function.Func.{Func}
use Rattle.il_ast.specs.declared.value.Value.{Value}
use Rattle.il_ast.specs.Prelude.{phi_count, phi_values, with_phis}
use Rattle.phi_copies.specs.declared.ending.Assignment.{Assignment}
use Rattle.phi_copies.specs.Classed.{Classes, CopiesFit, PhisFit}
use Rattle.phi_copies.specs.Endings.{copied}

abbrev pub phis_of : Option Block → List Phi
phis_of None = []
phis_of (Some b) = b.phis

-- the phis of the block at place k
abbrev pub phis_at : List Block → ℕ → List Phi
phis_at blocks k = phis_of (slice_get blocks k)

-- how many phis the first k blocks have
abbrev pub phis_before : List Block → ℕ → ℕ
phis_before [] k = 0
phis_before (b ∷ blocks) zero = 0
phis_before (b ∷ blocks) (suc k) = length b.phis + phis_before blocks k

-- the first temporary of the phis of the block at place k: they are numbered after the function's
-- own and those of the phis before
abbrev pub first_own : Func → (k : ℕ) → ℕ
first_own f k = length f.temps + phis_before f.blocks k

-- each temporary that the copies name has a number below n
abbrev pub ValueBelow : ℕ → Val → Type 0
ValueBelow n (Int m) = Unit {0}
ValueBelow n (Temp t) = t < n
ValueBelow n (Global g) = Unit {0}

abbrev pub CopiesBelow : ℕ → List Assignment → Type 0
CopiesBelow n [] = Unit {0}
CopiesBelow n (c ∷ cs) = (c.to.temp < n) × ValueBelow n c.value × CopiesBelow n cs

-- copies for the phis of the block at place k, where it is entered from the block with this label
pub record AreCopies (f : Func) (from k : ℕ) (copies : List Assignment) : Type 0 where
  -- where the phis have values, they leave in the function's own temporaries what writing these at
  -- once leaves there
  pub at_once :
      (globals : List Value) (temps : List (Option Value)) (values : List Value)
      → length temps ≡ length f.temps + phi_count f
      → phi_values globals (take (length f.temps) temps) from (phis_at f.blocks k) ≡ Some values
      → option_map (take (length f.temps)) (copied globals temps copies)
      ≡ Some (with_phis (take (length f.temps) temps) (phis_at f.blocks k) values)
  -- they fit any classes that the phis fit
  pub fit :
      (classes : Classes)
      → PhisFit classes from (first_own f k) (phis_at f.blocks k)
      → CopiesFit classes copies
  -- beside the function's temporaries they name those of its phis alone
  pub below : CopiesBelow (length f.temps + phi_count f) copies
  -- three copies are enough for two phis
  pub few : 2 * length copies ≤ 3 * length (phis_at f.blocks k)
