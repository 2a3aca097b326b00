-- What a table of the places of labels' blocks is read for.
use Rattle.std.proofs.Common.{◌≡◌, ℕ, List, ap, sym, ◌∙◌, slice_get, Option, Some, None}
use Rattle.std.specs.Option.{option_flatten}
use Rattle.il_ast.specs.declared.block.Block.{Block}
use Rattle.il_ast.specs.Prelude.{place_of}
use Rattle.il_types.specs.Prelude.{place_in}
use Rattle.phi_copies.specs.Lowered.{or_zero, target}

pub found : (blocks : List Block) (table : List (Option ℕ)) (l : ℕ) (o : Option ℕ) → ((j : ℕ) → place_in table j ≡ place_of blocks j) → slice_get table l ≡ Some o → or_zero o ≡ target blocks l
found blocks table l o same e = ap or_zero (sym (ap option_flatten e) ∙ same l)

pub found_none : (blocks : List Block) (table : List (Option ℕ)) (l : ℕ) → ((j : ℕ) → place_in table j ≡ place_of blocks j) → slice_get table l ≡ None → 0 ≡ target blocks l
found_none blocks table l same e = ap or_zero (sym (ap option_flatten e) ∙ same l)
