-- When texts that keep the rules are a program.
use Rattle.std.specs.Prelude.{◌≡◌, ℕ, ◌≤◌, true, List, Some}
use Rattle.il_ast.specs.declared.program.Program.{Program}
use Rattle.il_types.specs.declared.checked.Checked.{Checked}
use Rattle.obj_link.specs.Names.{functions_of, objects_of, names_of, targets_of, times_exported}
use Rattle.obj_link.specs.Main.{main_of}
use Rattle.obj_link.specs.Limits.{within_limits}

pub record IsProgram (texts : List Checked) (p : Program) : Type 0 where
  -- it has all their functions and data, in order
  pub functions : p.functions ≡ functions_of texts
  pub objects : p.objects ≡ objects_of texts
  -- every name means something, and it has that meaning
  pub targets : targets_of texts ≡ Some p.targets
  -- no name is exported twice, and none of a predefined function is
  pub once : (name : List ℕ) → times_exported texts (names_of texts) name ≤ 1
  -- `main` is an exported function of one of two forms
  pub main : main_of texts ≡ Some p.main
  pub limits : within_limits texts (functions_of texts) (objects_of texts) ≡ true
