-- What a refusal says of texts.
use Rattle.std.specs.Prelude.{◌≡◌, ◌<◌, ℕ, false, List, Option, Some, None, slice_get}
use Rattle.il_ast.specs.declared.program.Target.{Target}
use Rattle.il_types.specs.declared.checked.Checked.{Checked}
use Rattle.obj_link.specs.declared.linking.names.GlobalName.{GlobalName}
use Rattle.obj_link.specs.declared.linking.error.LinkError.{LinkError}
use Rattle.obj_link.specs.declared.linking.error.LinkError.TheVariants.{UnknownName, ExportedTwice, NoMain, Limit, Memory}
use Rattle.obj_link.specs.Names.{times_exported, meaning_of, names_of, functions_of, objects_of, IsUnknown}
use Rattle.obj_link.specs.Main.{ExportsMain}
use Rattle.obj_link.specs.Limits.{within_limits}

-- a name is exported more than once, or memory was refused
abbrev pub RefusesExports : LinkError → List Checked → List GlobalName → Type 0
RefusesExports (UnknownName name) texts names = ⊥
RefusesExports (ExportedTwice name) texts names = 1 < times_exported texts names name.now
RefusesExports NoMain texts names = ⊥
RefusesExports Limit texts names = ⊥
RefusesExports Memory texts names = Unit {0}

-- a symbol has no meaning, or memory was refused
abbrev pub RefusesSymbols : LinkError → (ℕ → List ℕ → Option Target) → List (List ℕ) → Type 0
RefusesSymbols (UnknownName name) meaning symbols =
    (s : ℕ) × (slice_get symbols s ≡ Some name.now) × (meaning s name.now ≡ None)
RefusesSymbols (ExportedTwice name) meaning symbols = ⊥
RefusesSymbols NoMain meaning symbols = ⊥
RefusesSymbols Limit meaning symbols = ⊥
RefusesSymbols Memory meaning symbols = Unit {0}

abbrev pub RefusesNames : LinkError → (ℕ → ℕ → List ℕ → Option Target) → List Checked → Type 0
RefusesNames (UnknownName name) meaning texts = IsUnknown meaning texts name.now
RefusesNames (ExportedTwice name) meaning texts = ⊥
RefusesNames NoMain meaning texts = ⊥
RefusesNames Limit meaning texts = ⊥
RefusesNames Memory meaning texts = Unit {0}

-- what a refusal says of texts: nothing where memory was refused
abbrev pub Refuses : LinkError → List Checked → Type 0
Refuses (UnknownName name) texts = IsUnknown (meaning_of texts) texts name.now
Refuses (ExportedTwice name) texts = 1 < times_exported texts (names_of texts) name.now
Refuses NoMain texts = ExportsMain texts → ⊥
Refuses Limit texts = within_limits texts (functions_of texts) (objects_of texts) ≡ false
Refuses Memory texts = Unit {0}
