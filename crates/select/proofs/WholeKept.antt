-- The virtual code of a function of a good text is the function's.
use Rattle.std.proofs.Common.{◌≡◌, List, [], ◌∷◌, map, refl, ap}
use Rattle.il_ast.specs.declared.operation.Class.{Class}
use Rattle.il_ast.specs.declared.function.Param.{Param}
use Rattle.il_ast.specs.declared.function.Func.{Func}
use Rattle.il_ast.specs.Prelude.{IsCodeOf, classes_of, body_of}
use Rattle.il_ast.proofs.Simulated.{meaning_composes}
use Rattle.phi_copies.specs.Endings.{Endings, begin as begin_source, step as step_source}
use Rattle.phi_copies.specs.Good.{IsGoodFunction}
use Rattle.phi_copies.specs.Lowered.{IsLowered}
use Rattle.phi_copies.proofs.Lowering.{lowered_keeps}
use Rattle.vcode.specs.Prelude.{classes_in, coded, virtual, begin, step}
use Rattle.select.specs.Selected.{parameter_of, selected, classes_in as temp_classes}
use Rattle.select.specs.Typed.{Classes}
use Rattle.select.proofs.Ending.{selected_keeps}
use Rattle.select.proofs.LoweredTyping.{lowered_is_typed}

classes_are : (ps : List Param) → classes_in (map parameter_of ps) ≡ classes_of ps
classes_are [] = refl
classes_are (p ∷ ps) = ap (λ (cs : List Class). p.class ∷ cs) (classes_are ps)

selected_classes : (classes : Classes) (f : Func) (code : Endings) → classes_in (selected classes f code).params ≡ classes_of f.params
unfolding selected
selected_classes classes f code = classes_are f.params

selected_result : (classes : Classes) (f : Func) (code : Endings) → (selected classes f code).result ≡ f.result
unfolding selected
selected_result classes f code = refl

pub is_code : (f : Func) (code : Endings) → IsGoodFunction f → IsLowered f code → IsCodeOf f (coded virtual (selected (temp_classes f) f code))
is_code f code good is =
    let classes = temp_classes f in
    let v = selected classes f code in
    record {
      params = selected_classes classes f code;
      result = selected_result classes f code;
      runs = λ globals.
          meaning_composes (classes_of f.params) (body_of f globals) (begin_source f) (step_source globals f code) (begin virtual v) (step virtual globals v)
          (lowered_keeps f code is globals) (selected_keeps classes f code (lowered_is_typed f code good is) globals);
    }
