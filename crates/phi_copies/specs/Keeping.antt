-- What a function without phis owes: it keeps what the function's body means.
use Rattle.std.specs.Prelude.{List}
use Rattle.il_ast.specs.declared.function.Func.{Func}
use Rattle.il_ast.specs.declared.value.Value.{Value}
use Rattle.il_ast.specs.Prelude.{KeepsMeaning, classes_of, body_of}
use Rattle.phi_copies.specs.Endings.{Endings, begin, step}

-- with these values of the text's global names
abbrev pub KeepsFunction : Func → Endings → Type 0
KeepsFunction f code =
    (globals : List Value) → KeepsMeaning (classes_of f.params) (begin f) (step globals f code)
    (body_of f globals)
