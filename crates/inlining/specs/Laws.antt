-- The law of a call in place.
use Rattle.std.specs.Prelude.{◌≡◌, ℕ, List, slice_get, Some}
use Rattle.il_ast.specs.declared.value.Callee.{Callee}
use Rattle.il_ast.specs.declared.value.Value.{Value}
use Rattle.il_ast.specs.declared.value.Value.TheVariants.{Function}
use Rattle.il_ast.specs.Prelude.{Callees}
use Rattle.vcode.specs.declared.code.Code.{Code}
use Rattle.vcode.specs.Prelude.{classes_in, virtual, begin, step, KeepsIn}
use Rattle.inlining.specs.InPlace.{Site, IsSite, in_place, IsCandidateOf}

-- Where calls of the function that is named go as the candidate's code, the code with one of them in place
-- runs as the code with the call.
abbrev pub CallsInPlaceKeep : Type 0
CallsInPlaceKeep =
    (v candidate : Code ℕ) (base k j : ℕ) (s : Site)
    → IsSite v candidate base k j s
    → (callees : Callees) (turns : ℕ) (globals : List Value) (f : Callee)
    → slice_get globals s.name ≡ Some (Function f)
    → IsCandidateOf callees turns globals candidate f
    → KeepsIn callees turns (classes_in v.params) (begin virtual v) (step virtual globals v)
    (begin virtual (in_place v candidate base k j s)) (step virtual globals (in_place v candidate base k j s))
