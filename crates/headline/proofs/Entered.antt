-- The call of `main` is kept.
use Rattle.std.proofs.Common.{◌≡◌, ℕ, suc, ◌%◌, ◌^◌, ◌<◌, List, [], ◌∷◌, length, refl, sym, subst, ap, arith, slice_get, Some}
use Rattle.il_ast.specs.declared.operation.Class.TheVariants.{W}
use Rattle.il_ast.specs.declared.function.Param.{Param}
use Rattle.il_ast.specs.declared.program.Program.{Program}
use Rattle.il_ast.specs.declared.value.Value.TheVariants.{Integer}
use Rattle.il_ast.specs.Prelude.{Outcome, start_memory, callees, main_call, main_classes, main_args, params_of, stack_room, outcome, Asked, AreArgs}
use Rattle.rv_isa.specs.Prelude.{State}
use Rattle.flat_code.specs.Flat.{FlatGiven, FlatAsked}
use Rattle.headline.specs.Knot.{Setting, IsSetting, KeptCall, NativesPerform}
use Rattle.headline.specs.Executables.{FunctionsKept, CallsMain}
use Rattle.headline.proofs.Answer.{grown_same}
use Rattle.headline.proofs.InPlace.{below_same}
use Rattle.headline.proofs.Tied.{calls_are_kept}

main_typed : (objects words : ℕ) → words < 2 ^ 32 → (params : List Param) → AreArgs (main_classes params) (main_args objects words params)
main_typed objects words few [] = tt
main_typed objects words few (x ∷ xs) =
    let same : words % 2 ^ 32 ≡ words = omega arith in (ap (λ n. Some (Integer n)) same, (refl, tt))

-- what `main` is asked in n turns
abbrev pub main_asked : Program → List (List ℕ) → ℕ → Asked
main_asked p words n = record { call = main_call p words; turns = n; room = stack_room; memory = start_memory p words }

abbrev pub main_given : (c : Setting) (p : Program) (words : List (List ℕ)) (s : State) → CallsMain c p words s → ℕ → FlatGiven
main_given c p words s start n = record { turns = n; room = stack_room; args = start.args; memory = start.memory }

abbrev pub main_flat : (c : Setting) (p : Program) (words : List (List ℕ)) (s : State) → CallsMain c p words s → ℕ → FlatAsked
main_flat c p words s start n =
    record { at = start.at; classes = (main_call p words).classes; wants = Some W; given = main_given c p words s start n }

pub main_kept : (c : Setting) (p : Program) (words : List (List ℕ)) (s : State) → IsSetting c → FunctionsKept c p → NativesPerform c → length words < 2 ^ 32 → (start : CallsMain c p words s) → (n : ℕ) → KeptCall c start.sp c.start (main_asked p words n) (main_flat c p words s start n) (outcome p words n)
unfolding outcome
main_kept c p words s is functions natives few start n =
    subst (λ (o : Outcome). KeptCall c start.sp c.start (main_asked p words n) (main_flat c p words s start n) o)
    (sym (below_same (suc n) (callees p (suc n)) (suc n) (omega arith) (main_call p words) n stack_room (start_memory p words) (omega arith)))
    (calls_are_kept c p is functions natives (suc n) start.sp (main_asked p words n) c.start (main_flat c p words s start n) (grown_same c.start)
    (record {
      at = start.is_main;
      classes = refl;
      wants = refl;
      typed = main_typed (length p.objects) (length words) few (params_of (slice_get p.functions p.main));
      given = record { turns = refl; room = refl; args = start.args_show; memory = start.shows; clear = start.clear };
    })
    start.stack)
