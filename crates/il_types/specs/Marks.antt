-- Which temporaries are assigned with a class.
use Rattle.std.specs.Prelude.{ℕ, Bool, false, nat_eq, ◌&&◌, List, slice_index_or}
use Rattle.std.specs.List.{list_any}
use Rattle.il_ast.specs.declared.operation.Class.{Class}
use Rattle.il_ast.specs.Prelude.{same_class}
use Rattle.il_types.specs.declared.site.Definer.{Definer}

-- a number past the end is not marked
abbrev pub marked : List Bool → ℕ → Bool
marked marks t = slice_index_or marks t false

-- a parameter, phi or instruction assigns the temporary with this class
abbrev pub is_given : Class → ℕ → List Definer → Bool
is_given c t definers = list_any (λ (d : Definer). nat_eq d.temp t && same_class d.class c) definers
