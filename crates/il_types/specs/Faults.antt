-- The fault that is found first in a definition: an order of the rules.
use Rattle.std.specs.Prelude.{ℕ, List, [], ◌∷◌, Option, Some, None}
use Rattle.il_ast.specs.declared.function.Func.{Func}
use Rattle.il_ast.specs.declared.datum.DataDef.{DataDef}
use Rattle.il_ast.specs.declared.text.Text.{Text}
use Rattle.il_ast.specs.declared.text.Definition.{Definition}
use Rattle.il_ast.specs.declared.text.Definition.TheVariants.{Function, Object}
use Rattle.il_types.specs.declared.rule.Rule.{Rule}
use Rattle.il_types.specs.declared.rule.Rule.TheVariants.{DistinctGlobals, DistinctLocals, KnownLabels, EntryNotTarget, LastBlockEnds, OneType, OperandFits, PhiCoversPredecessors, AllocInEntry, ReturnFits, DefinedTemporaries, DataFields, Alignment, BlitSize}
use Rattle.il_types.specs.declared.rule.BrokenRule.{BrokenRule}
use Rattle.il_types.specs.Locals.{repeated_local, unknown_label, jump_to_entry, block_without_jump, two_types, misplaced, uncovered_phi, wrong_alloc, wrong_return, undefined_temp, long_blit}
use Rattle.il_types.specs.Rules.{wrong_fields, wrong_alignment, repeated_global}

abbrev pub fault_at : Rule → Option ℕ → Option BrokenRule
fault_at rule None = None
fault_at rule (Some line) = Some (record { rule = rule; line = line })

abbrev pub fault_or : Option BrokenRule → Option BrokenRule → Option BrokenRule
fault_or None other = other
fault_or (Some fault) other = Some fault

unfoldable pub label_fault : Func → Option BrokenRule
label_fault f =
    fault_or (fault_at DistinctLocals (repeated_local f))
    (fault_or (fault_at KnownLabels (unknown_label f))
    (fault_or (fault_at EntryNotTarget (jump_to_entry f))
    (fault_at LastBlockEnds (block_without_jump f))))

unfoldable pub temp_fault : Func → Option BrokenRule
temp_fault f =
    fault_or (fault_at OneType (two_types f))
    (fault_or (fault_at OperandFits (misplaced f))
    (fault_or (fault_at ReturnFits (wrong_return f))
    (fault_at DefinedTemporaries (undefined_temp f))))

unfoldable pub size_fault : Func → Option BrokenRule
size_fault f =
    fault_or (fault_at PhiCoversPredecessors (uncovered_phi f))
    (fault_or (fault_at AllocInEntry (wrong_alloc f)) (fault_at BlitSize (long_blit f)))

abbrev pub function_fault : Func → Option BrokenRule
function_fault f = fault_or (label_fault f) (fault_or (temp_fault f) (size_fault f))

abbrev pub object_fault : DataDef → Option BrokenRule
object_fault d =
    fault_or (fault_at DataFields (wrong_fields d)) (fault_at Alignment (wrong_alignment d))

abbrev pub definition_fault : Definition → Option BrokenRule
definition_fault (Function f) = function_fault f
definition_fault (Object d) = object_fault d

abbrev pub first_fault : List Definition → Option BrokenRule
first_fault [] = None
first_fault (d ∷ definitions) = fault_or (definition_fault d) (first_fault definitions)

unfoldable pub text_fault : Text → Option BrokenRule
text_fault t = fault_or (fault_at DistinctGlobals (repeated_global t)) (first_fault t.definitions)
