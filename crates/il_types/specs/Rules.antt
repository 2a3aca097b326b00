-- The rules of a text: the line of the first place that breaks a rule, or none where nothing does;
-- and the limits.
use Rattle.std.specs.Prelude.{◌≡◌, ℕ, ◌*◌, ◌^◌, Bool, true, false, not, nat_eq, nat_lt, nat_le, ◌&&◌, ◌||◌, List, map, length, Option, None}
use Rattle.std.specs.List.{list_any, list_all}
use Rattle.il_ast.specs.declared.limits.TheConstants.{TEXT_BYTES, FUNCTION_WEIGHT, TEMPORARIES, ARGUMENTS, ALLOC_BYTES}
use Rattle.il_ast.specs.declared.operation.Size.{Size}
use Rattle.il_ast.specs.declared.operation.Size.TheVariants.{Byte, Half, Word, Long}
use Rattle.il_ast.specs.declared.instruction.Inst.{Inst}
use Rattle.il_ast.specs.declared.instruction.Inst.TheVariants.{Call}
use Rattle.il_ast.specs.declared.instruction.Lined.{Lined}
use Rattle.il_ast.specs.declared.block.Block.{Block}
use Rattle.il_ast.specs.declared.function.Func.{Func}
use Rattle.il_ast.specs.declared.datum.Item.{Item}
use Rattle.il_ast.specs.declared.datum.Item.TheVariants.{Int, Bytes, Address}
use Rattle.il_ast.specs.declared.datum.Field.{Field}
use Rattle.il_ast.specs.declared.datum.Field.TheVariants.{Items, Zeros}
use Rattle.il_ast.specs.declared.datum.DataDef.{DataDef}
use Rattle.il_ast.specs.declared.text.Definition.{Definition}
use Rattle.il_ast.specs.declared.text.Definition.TheVariants.{Function, Object}
use Rattle.il_ast.specs.declared.text.Text.{Text}
use Rattle.il_ast.specs.Prelude.{weight, alloc_area}
use Rattle.il_types.specs.declared.rule.Rule.{Rule}
use Rattle.il_types.specs.declared.rule.Rule.TheVariants.{DistinctGlobals, DistinctLocals, KnownLabels, EntryNotTarget, LastBlockEnds, OneType, OperandFits, PhiCoversPredecessors, AllocInEntry, ReturnFits, DefinedTemporaries, DataFields, Alignment, BlitSize}
use Rattle.il_types.specs.declared.site.Site.{Site}
use Rattle.il_types.specs.First.{when, first}
use Rattle.il_types.specs.Locals.{first_repeated, repeated_local, unknown_label, jump_to_entry, block_without_jump, two_types, misplaced, uncovered_phi, wrong_alloc, wrong_return, undefined_temp, long_blit}

-- ---- data

-- a string outside a `b` field, or a global name outside an `l` field
abbrev pub is_misfit : Size → Item → Bool
is_misfit size (Int n) = false
is_misfit Byte (Bytes bytes) = false
is_misfit Half (Bytes bytes) = true
is_misfit Word (Bytes bytes) = true
is_misfit Long (Bytes bytes) = true
is_misfit Byte (Address g offset) = true
is_misfit Half (Address g offset) = true
is_misfit Word (Address g offset) = true
is_misfit Long (Address g offset) = false

abbrev pub has_misfit : Field → Bool
has_misfit (Items size items) = list_any (is_misfit size) items
has_misfit (Zeros n) = false

abbrev pub takes_bytes : Item → Bool
takes_bytes (Int n) = true
takes_bytes (Bytes bytes) = nat_lt 0 (length bytes)
takes_bytes (Address g offset) = true

abbrev pub has_bytes : Field → Bool
has_bytes (Items size items) = list_any takes_bytes items
has_bytes (Zeros n) = nat_lt 0 n

-- data fields: each item fits, and there is at least one byte
abbrev pub wrong_fields : DataDef → Option ℕ
wrong_fields d = when (list_any has_misfit d.fields || not (list_any has_bytes d.fields)) d.line

abbrev pub is_alignment : ℕ → Bool
is_alignment n = nat_eq n 1 || (nat_eq n 2 || (nat_eq n 4 || (nat_eq n 8 || nat_eq n 16)))

abbrev pub wrong_alignment : DataDef → Option ℕ
wrong_alignment d = when (not (is_alignment d.alignment)) d.line

-- ---- one definition

abbrev pub broken_in_function : Rule → Func → Option ℕ
broken_in_function DistinctGlobals f = None
broken_in_function DistinctLocals f = repeated_local f
broken_in_function KnownLabels f = unknown_label f
broken_in_function EntryNotTarget f = jump_to_entry f
broken_in_function LastBlockEnds f = block_without_jump f
broken_in_function OneType f = two_types f
broken_in_function OperandFits f = misplaced f
broken_in_function PhiCoversPredecessors f = uncovered_phi f
broken_in_function AllocInEntry f = wrong_alloc f
broken_in_function ReturnFits f = wrong_return f
broken_in_function DefinedTemporaries f = undefined_temp f
broken_in_function DataFields f = None
broken_in_function Alignment f = None
broken_in_function BlitSize f = long_blit f

abbrev pub broken_in_object : Rule → DataDef → Option ℕ
broken_in_object DataFields d = wrong_fields d
broken_in_object Alignment d = wrong_alignment d
broken_in_object rule d = None

abbrev pub broken_in : Rule → Definition → Option ℕ
broken_in rule (Function f) = broken_in_function rule f
broken_in rule (Object d) = broken_in_object rule d

-- ---- a text

abbrev pub definition_site : Definition → Site
definition_site (Function f) = record { line = f.line; number = f.name }
definition_site (Object d) = record { line = d.line; number = d.name }

abbrev pub global_sites : List Definition → List Site
global_sites definitions = map definition_site definitions

-- distinct globals: functions and data together
abbrev pub repeated_global : Text → Option ℕ
repeated_global t = first_repeated (global_sites t.definitions)

-- the line of the first place of a text that breaks the rule
abbrev pub broken : Rule → Text → Option ℕ
broken DistinctGlobals t = repeated_global t
broken rule t = first (broken_in rule) t.definitions

-- ---- limits of one text

abbrev pub has_few_args : Inst → Bool
has_few_args (Call to callee args) = nat_le (length args) ARGUMENTS
has_few_args i = true

abbrev pub is_within : Func → Bool
is_within f =
    nat_le (weight f) FUNCTION_WEIGHT
    && (nat_le (length f.temps) TEMPORARIES
    && (nat_le (length f.params) ARGUMENTS
    && (nat_le (alloc_area f) ALLOC_BYTES
    && list_all (λ (b : Block). list_all (λ (i : Lined Inst). has_few_args i.item) b.insts)
    f.blocks)))

abbrev pub definition_within : Definition → Bool
definition_within (Function f) = is_within f
definition_within (Object d) = true

abbrev pub within_limits : Text → Bool
within_limits t = nat_le t.bytes TEXT_BYTES && list_all definition_within t.definitions

-- ---- good texts

-- no rule is broken, and no limit passed
pub record IsGood (t : Text) : Type 0 where
  pub rules : (rule : Rule) → broken rule t ≡ None
  pub limits : within_limits t ≡ true
