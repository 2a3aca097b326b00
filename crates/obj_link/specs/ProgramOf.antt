-- The program that linked texts are.
use Rattle.std.specs.Prelude.{◌≡◌, List}
use Rattle.il_ast.specs.declared.program.Program.{Program}
use Rattle.il_types.specs.declared.checked.Checked.{Checked}
use Rattle.obj_link.specs.declared.linking.linked.Linked.{Linked}
use Rattle.obj_link.specs.Linked.{program_with}
use Rattle.obj_link.specs.Program.{IsProgram}

abbrev pub program : Linked → Program
program l = program_with l.targets l.functions l.objects l.main

-- these texts, linked
pub record IsLinked (texts : List Checked) (l : Linked) : Type 0 where
  pub texts_are : l.texts.now ≡ texts
  pub is_program : IsProgram texts (program l)
