-- A function of a good text is such as can be lowered.
use Rattle.std.proofs.Common.{◌≡◌, ℕ, ◌*◌, ◌^◌, Bool, true, ◌&&◌, nat_le, List, [], ◌∷◌, refl, sym, ◌∙◌, ap, zero, suc, slice_get, Option, Some, None}
use Rattle.std.specs.List.{list_all}
use Rattle.std.proofs.lemmas.Bool.{and_parts}
use Rattle.il_ast.specs.declared.function.Func.{Func}
use Rattle.il_ast.specs.declared.text.Definition.{Definition}
use Rattle.il_ast.specs.declared.text.Definition.TheVariants.{Function}
use Rattle.il_ast.specs.declared.text.Text.{Text}
use Rattle.il_types.specs.declared.rule.Rule.{Rule}
use Rattle.il_types.specs.declared.rule.Rule.TheVariants.{DistinctGlobals, DistinctLocals, KnownLabels, EntryNotTarget, LastBlockEnds, OneType, OperandFits, PhiCoversPredecessors, AllocInEntry, ReturnFits, DefinedTemporaries, DataFields, Alignment, BlitSize}
use Rattle.il_types.specs.Prelude.{first, broken_in_function, broken_in, definition_within, IsGood}
use Rattle.phi_copies.specs.Good.{IsGoodFunction}
use Rattle.il_types.proofs.ArgumentLemmas.{none_first}

-- what no definition breaks, none does
none_at : (g : Definition → Option ℕ) (ds : List Definition) (k : ℕ) (d : Definition) → first g ds ≡ None → slice_get ds k ≡ Some d → g d ≡ None
none_at g [] k d h at = absurd (let no : ⊥ = cc in no)
none_at g (x ∷ ds) zero d h at = let same : x ≡ d = cc in ap g (sym same) ∙ (none_first (g x) (first g ds) h).0
none_at g (x ∷ ds) (suc k) d h at = none_at g ds k d (none_first (g x) (first g ds) h).1 at

all_at : (g : Definition → Bool) (ds : List Definition) (k : ℕ) (d : Definition) → list_all g ds ≡ true → slice_get ds k ≡ Some d → g d ≡ true
all_at g [] k d h at = absurd (let no : ⊥ = cc in no)
all_at g (x ∷ ds) zero d h at = let same : x ≡ d = cc in ap g (sym same) ∙ (and_parts (g x) (list_all g ds) h).0
all_at g (x ∷ ds) (suc k) d h at = all_at g ds k d (and_parts (g x) (list_all g ds) h).1 at

no_rule_broken : (t : Text) → IsGood t → (k : ℕ) (f : Func) → slice_get t.definitions k ≡ Some (Function f) → (rule : Rule) → broken_in_function rule f ≡ None
no_rule_broken t good k f at DistinctGlobals = refl
no_rule_broken t good k f at DistinctLocals = none_at (broken_in DistinctLocals) t.definitions k (Function f) (good.rules DistinctLocals) at
no_rule_broken t good k f at KnownLabels = none_at (broken_in KnownLabels) t.definitions k (Function f) (good.rules KnownLabels) at
no_rule_broken t good k f at EntryNotTarget = none_at (broken_in EntryNotTarget) t.definitions k (Function f) (good.rules EntryNotTarget) at
no_rule_broken t good k f at LastBlockEnds = none_at (broken_in LastBlockEnds) t.definitions k (Function f) (good.rules LastBlockEnds) at
no_rule_broken t good k f at OneType = none_at (broken_in OneType) t.definitions k (Function f) (good.rules OneType) at
no_rule_broken t good k f at OperandFits = none_at (broken_in OperandFits) t.definitions k (Function f) (good.rules OperandFits) at
no_rule_broken t good k f at PhiCoversPredecessors = none_at (broken_in PhiCoversPredecessors) t.definitions k (Function f) (good.rules PhiCoversPredecessors) at
no_rule_broken t good k f at AllocInEntry = none_at (broken_in AllocInEntry) t.definitions k (Function f) (good.rules AllocInEntry) at
no_rule_broken t good k f at ReturnFits = none_at (broken_in ReturnFits) t.definitions k (Function f) (good.rules ReturnFits) at
no_rule_broken t good k f at DefinedTemporaries = none_at (broken_in DefinedTemporaries) t.definitions k (Function f) (good.rules DefinedTemporaries) at
no_rule_broken t good k f at DataFields = refl
no_rule_broken t good k f at Alignment = refl
no_rule_broken t good k f at BlitSize = none_at (broken_in BlitSize) t.definitions k (Function f) (good.rules BlitSize) at

pub good_function : (t : Text) → IsGood t → (k : ℕ) (f : Func) → slice_get t.definitions k ≡ Some (Function f) → IsGoodFunction f
good_function t good k f at =
    record {
      rules = no_rule_broken t good k f at;
      limits = all_at definition_within t.definitions k (Function f) (and_parts (nat_le t.bytes (16 * 2 ^ 20)) (list_all definition_within t.definitions) good.limits).1 at;
    }
