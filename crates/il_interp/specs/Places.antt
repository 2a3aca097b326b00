-- What is worked out before a run: the room that functions need, and the places of their labels.
use Rattle.std.specs.Prelude.{ℕ, List, map, slice_get, Option, option_and_then}
use Rattle.il_ast.specs.declared.function.Func.{Func}
use Rattle.il_ast.specs.declared.program.InText.{InText}
use Rattle.il_ast.specs.Prelude.{need, place_of}
use Rattle.il_types.specs.Prelude.{capped, place_in}

abbrev pub needs_of : List (InText Func) → List ℕ
needs_of functions = map (λ (f : InText Func). capped (need f.item)) functions

-- tables of places, by function and label
abbrev pub placed : List (List (Option ℕ)) → ℕ → ℕ → Option ℕ
placed tables k l = option_and_then (λ table. place_in table l) (slice_get tables k)

-- the place of the block with this label in this function
abbrev pub places_of : List (InText Func) → ℕ → ℕ → Option ℕ
places_of functions k l =
    option_and_then (λ (f : InText Func). place_of f.item.blocks l) (slice_get functions k)
