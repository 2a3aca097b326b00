-- A program whose definitions stand in the texts, as the program itself.
use Rattle.std.specs.Prelude.{ℕ, List, map}
use Rattle.std.specs.Borrow.{Bor}
use Rattle.il_ast.specs.declared.function.Func.{Func}
use Rattle.il_ast.specs.declared.datum.DataDef.{DataDef}
use Rattle.il_ast.specs.declared.program.InText.{InText}
use Rattle.il_ast.specs.declared.program.Target.{Target}
use Rattle.il_ast.specs.declared.program.Program.{Program}
use Rattle.obj_link.specs.Shown.{shown}

abbrev pub program_with : List (List Target) → List (InText (Bor Func)) →
    List (InText (Bor DataDef)) → ℕ → Program
program_with targets functions objects main =
    record {
      targets = targets;
      functions = map shown functions;
      objects = map shown objects;
      main = main;
    }
