-- Where nothing has a bound, bounds are right.
use Rattle.std.proofs.Common.{◌≡◌, ℕ, ◌+◌, Bool, true, List, [], ◌∷◌, refl, sym, subst, slice_get, Option, Some, None}
use Rattle.std.specs.List.{list_all}
use Rattle.std.proofs.lemmas.Bool.{and_from}
use Rattle.il_ast.specs.declared.function.Func.{Func}
use Rattle.il_ast.specs.declared.datum.Item.{Item}
use Rattle.il_ast.specs.declared.datum.Item.TheVariants.{Int, Bytes, Address}
use Rattle.il_ast.specs.declared.datum.Field.{Field}
use Rattle.il_ast.specs.declared.datum.Field.TheVariants.{Items, Zeros}
use Rattle.il_ast.specs.declared.datum.DataDef.{DataDef}
use Rattle.il_ast.specs.declared.program.InText.{InText}
use Rattle.il_ast.specs.declared.program.Target.{Target}
use Rattle.il_ast.specs.declared.program.Target.TheVariants.{Code, Object}
use Rattle.il_ast.specs.declared.program.Program.{Program}
use Rattle.il_ast.specs.declared.value.Callee.TheVariants.{Defined, SystemWrite, SystemExit}
use Rattle.stack_bound.specs.declared.bounds.Bounds.{Bounds}
use Rattle.stack_bound.specs.Bounds.{name_fits, names_in, function_fits, functions_fit, bound_of, item_fits, field_fits, object_fits, are_bounds, AreBounds}

abbrev nothing_bounded : Bounds
nothing_bounded = record { functions = []; pointed = [] }

all_pass : {A : Type 0} (test : A → Bool) → ((x : A) → test x ≡ true) → (xs : List A) → list_all test xs ≡ true
all_pass test h [] = refl
all_pass test h (x ∷ xs) = and_from (test x) (list_all test xs) (h x) (all_pass test h xs)

functions_pass : (p : Program) (n : ℕ) (fs : List (InText Func)) → functions_fit p nothing_bounded n fs ≡ true
functions_pass p n [] = refl
functions_pass p n (f ∷ fs) = and_from (function_fits p nothing_bounded f (bound_of nothing_bounded (Defined n))) (functions_fit p nothing_bounded (n + 1) fs) refl (functions_pass p (n + 1) fs)

name_passes : (p : Program) (t : Option Target) → name_fits p nothing_bounded t ≡ true
name_passes p None = refl
name_passes p (Some (Object k)) = refl
name_passes p (Some (Code (Defined f))) = refl
name_passes p (Some (Code SystemWrite)) = refl
name_passes p (Some (Code SystemExit)) = refl

item_passes : (p : Program) (names : List Target) (i : Item) → item_fits p nothing_bounded names i ≡ true
item_passes p names (Int n) = refl
item_passes p names (Bytes text) = refl
item_passes p names (Address g offset) = name_passes p (slice_get names g)

field_passes : (p : Program) (names : List Target) (f : Field) → field_fits p nothing_bounded names f ≡ true
field_passes p names (Items size items) = all_pass (item_fits p nothing_bounded names) (item_passes p names) items
field_passes p names (Zeros n) = refl

unbounded : (p : Program) → AreBounds p nothing_bounded
unfolding are_bounds
unbounded p =
    and_from (functions_fit p nothing_bounded 0 p.functions) (list_all (object_fits p nothing_bounded) p.objects)
    (functions_pass p 0 p.functions)
    (all_pass (object_fits p nothing_bounded)
    (λ (d : InText DataDef). all_pass (field_fits p nothing_bounded (names_in p d.text)) (field_passes p (names_in p d.text)) d.item.fields) p.objects)

pub unbounded_of : (p : Program) (functions pointed : List (Option ℕ)) → functions ≡ [] → pointed ≡ [] → AreBounds p (record { functions = functions; pointed = pointed })
unbounded_of p functions pointed f g =
    subst (λ (x : List (Option ℕ)). AreBounds p (record { functions = x; pointed = pointed })) (sym f)
    (subst (λ (x : List (Option ℕ)). AreBounds p (record { functions = []; pointed = x })) (sym g) (unbounded p))
