-- The numbers of the rules, as refusals print them.
use Rattle.std.specs.Prelude.{ℕ}
use Rattle.il_types.specs.declared.rule.Rule.{Rule}
use Rattle.il_types.specs.declared.rule.Rule.TheVariants.{DistinctGlobals, DistinctLocals, KnownLabels, EntryNotTarget, LastBlockEnds, OneType, OperandFits, PhiCoversPredecessors, AllocInEntry, ReturnFits, DefinedTemporaries, DataFields, Alignment, BlitSize}

abbrev pub rule_number : Rule → ℕ
rule_number DistinctGlobals = 1
rule_number DistinctLocals = 2
rule_number KnownLabels = 3
rule_number EntryNotTarget = 4
rule_number LastBlockEnds = 5
rule_number OneType = 6
rule_number OperandFits = 7
rule_number PhiCoversPredecessors = 8
rule_number AllocInEntry = 9
rule_number ReturnFits = 10
rule_number DefinedTemporaries = 11
rule_number DataFields = 12
rule_number Alignment = 13
rule_number BlitSize = 14
