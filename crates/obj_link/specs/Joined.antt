-- What the names of texts mean, where these names are what the texts define.
use Rattle.std.specs.Prelude.{◌≡◌, ◌<◌, ◌≤◌, ℕ, List, Option, Some, codes}
use Rattle.std.specs.Option.{option_or}
use Rattle.il_ast.specs.declared.program.Target.{Target}
use Rattle.il_types.specs.declared.checked.Checked.{Checked}
use Rattle.obj_link.specs.declared.linking.names.GlobalName.{GlobalName}
use Rattle.obj_link.specs.declared.linking.error.LinkError.{LinkError}
use Rattle.obj_link.specs.declared.linking.error.LinkError.TheVariants.{UnknownName, ExportedTwice, NoMain, Limit, Memory}
use Rattle.obj_link.specs.Names.{own, visible, times_exported, targets_by, IsUnknown}

abbrev pub meaning_by : List Checked → List GlobalName → ℕ → ℕ → List ℕ → Option Target
meaning_by texts names t s name = option_or (own names t s) (visible texts names name)

pub record IsJoined (texts : List Checked) (names : List GlobalName) (targets : List (List Target))
    (main : Option Target) : Type 0 where
  pub found : targets_by (meaning_by texts names) 0 texts ≡ Some targets
  pub once : (name : List ℕ) → times_exported texts names name ≤ 1
  pub main_is : main ≡ visible texts names (codes "main")

abbrev pub RefusesJoined : LinkError → List Checked → List GlobalName → Type 0
RefusesJoined (UnknownName name) texts names = IsUnknown (meaning_by texts names) texts name.now
RefusesJoined (ExportedTwice name) texts names = 1 < times_exported texts names name.now
RefusesJoined NoMain texts names = ⊥
RefusesJoined Limit texts names = ⊥
RefusesJoined Memory texts names = Unit {0}
