-- The table of what texts define, one name further.
use Rattle.std.proofs.Common.{◌≡◌, ℕ, ◌+◌, ◌<◌, Bool, true, false, cond, List, [], ◌∷◌, ◌++◌, length, take, get_or, nat_eq, refl, ap, sym, ◌∙◌, arith, ◌&&◌, Option, Some, None, find}
use Rattle.std.specs.Option.{option_map, option_or, is_some}
use Rattle.std.proofs.lemmas.List.{take_more}
use Rattle.std.proofs.lemmas.List.Folds.{find-append}
use Rattle.std.proofs.lemmas.Bool.Decides.{nat_tests}
use Rattle.il_ast.specs.declared.program.Target.{Target}
use Rattle.obj_link.specs.declared.linking.names.GlobalName.{GlobalName}
use Rattle.obj_link.specs.Prelude.{is_own, own}
use Rattle.obj_link.proofs.ExportLemmas.{map_or}

own_push : (names : List GlobalName) (g : GlobalName) (t s : ℕ) → own (names ++ g ∷ []) t s ≡ option_or (own names t s) (cond (is_own t s g) (Some g.target) None)
own_push names g t s =
    ap (option_map (λ (x : GlobalName). x.target)) (find-append (is_own t s) names (g ∷ []))
    ∙ (map_or (find (is_own t s) names) (find (is_own t s) (g ∷ []))
    ∙ ap (option_or (own names t s)) (by (is_own t s g)))
  where
    by : (b : Bool) → option_map (λ (x : GlobalName). x.target) (cond b (Some g) None) ≡ cond b (Some g.target) None
    by true = refl
    by false = refl

pub own_further : (names : List GlobalName) (i : ℕ) (g : GlobalName) (t s : ℕ) → i < length names → g ≡ get_or names i g → own (take (i + 1) names) t s ≡ option_or (own (take i names) t s) (cond (nat_eq g.text t && nat_eq g.symbol s) (Some g.target) None)
own_further names i g t s lt at =
    ap (λ xs. own xs t s) (take_more names i g lt ∙ ap (λ x. take i names ++ x ∷ []) (sym at)) ∙ own_push (take i names) g t s

same_pair : (a b t s : ℕ) → (nat_eq a t && nat_eq b s) ≡ true → (a ≡ t) × (b ≡ s)
same_pair a b t s h = (grind (arith, nat_tests), grind (arith, nat_tests))

pub defined_at : (f g : ℕ → ℕ → Option Target) (a b : ℕ) (target : Target) → f a b ≡ None → (t s : ℕ) → g t s ≡ cond (nat_eq a t && nat_eq b s) (Some target) (f t s) → g t s ≡ option_or (f t s) (cond (nat_eq a t && nat_eq b s) (Some target) None)
defined_at f g a b target free t s set = set ∙ by (nat_eq a t && nat_eq b s) refl
  where
    or_none : (o : Option Target) → o ≡ option_or o None
    or_none None = refl
    or_none (Some x) = refl

    by : (x : Bool) → (nat_eq a t && nat_eq b s) ≡ x → cond x (Some target) (f t s) ≡ option_or (f t s) (cond x (Some target) None)
    by true e =
        let same = same_pair a b t s e in
        let absent : f t s ≡ None = ap (λ y. f y s) (sym same.0) ∙ (ap (f a) (sym same.1) ∙ free) in
        ap (λ o. option_or o (Some target)) (sym absent)
    by false e = or_none (f t s)

pub none_where_absent : (o : Option Target) → is_some o ≡ false → o ≡ None
none_where_absent None e = refl
none_where_absent (Some x) e = cc
