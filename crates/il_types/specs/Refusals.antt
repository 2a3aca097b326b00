-- What a refusal says of a text.
use Rattle.std.specs.Prelude.{◌≡◌, Some, false}
use Rattle.il_ast.specs.declared.text.Text.{Text}
use Rattle.il_types.specs.declared.error.CheckError.{CheckError}
use Rattle.il_types.specs.declared.error.CheckError.TheVariants.{Rule, Limit, Memory}
use Rattle.il_types.specs.Rules.{broken, within_limits}

-- the rule is broken at that line; a limit is passed; nothing is said of the text where memory was
-- refused
abbrev pub Refuses : CheckError → Text → Type 0
Refuses (Rule fault) t = broken fault.rule t ≡ Some fault.line
Refuses Limit t = within_limits t ≡ false
Refuses Memory t = Unit {0}
