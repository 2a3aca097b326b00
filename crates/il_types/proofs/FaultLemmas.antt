-- A fault that is found breaks its rule, and where none is found no rule is broken.
use Rattle.std.proofs.Common.{◌≡◌, ℕ, List, [], ◌∷◌, refl, ap, sym, subst, ◌∙◌, Option, Some, None}
use Rattle.il_ast.specs.declared.function.Func.{Func}
use Rattle.il_ast.specs.declared.datum.DataDef.{DataDef}
use Rattle.il_ast.specs.declared.text.Definition.{Definition}
use Rattle.il_ast.specs.declared.text.Definition.TheVariants.{Function, Object}
use Rattle.il_ast.specs.declared.text.Text.{Text}
use Rattle.il_types.specs.declared.rule.Rule.{Rule}
use Rattle.il_types.specs.declared.rule.Rule.TheVariants.{DistinctGlobals, DistinctLocals, KnownLabels, EntryNotTarget, LastBlockEnds, OneType, OperandFits, PhiCoversPredecessors, AllocInEntry, ReturnFits, DefinedTemporaries, DataFields, Alignment, BlitSize}
use Rattle.il_types.specs.declared.rule.BrokenRule.{BrokenRule}
use Rattle.il_types.specs.Prelude.{or_else, first, fault_at, fault_or, label_fault, temp_fault, size_fault, function_fault, object_fault, definition_fault, first_fault, text_fault, repeated_local, unknown_label, jump_to_entry, block_without_jump, two_types, misplaced, uncovered_phi, wrong_alloc, wrong_return, undefined_temp, long_blit, wrong_fields, wrong_alignment, repeated_global, broken_in_function, broken_in_object, broken_in, broken}

-- ---- choices

none_both : (a b : Option BrokenRule) → fault_or a b ≡ None → (a ≡ None) × (b ≡ None)
none_both None b h = (refl, h)
none_both (Some f) b h = cc

none_at : (r : Rule) (o : Option ℕ) → fault_at r o ≡ None → o ≡ None
none_at r None h = refl
none_at r (Some l) h = cc

-- a claim of a fault that holds of each of two holds of the one that is chosen
either : (P : BrokenRule → Type 0) (a b : Option BrokenRule) (f : BrokenRule) → fault_or a b ≡ Some f → (a ≡ Some f → P f) → (b ≡ Some f → P f) → P f
either P None b f h p q = q h
either P (Some g) b f h p q = p h

some_at : (P : BrokenRule → Type 0) (r : Rule) (o : Option ℕ) (f : BrokenRule) → fault_at r o ≡ Some f → ((l : ℕ) → o ≡ Some l → P (record { rule = r; line = l })) → P f
some_at P r None f h p = cc
some_at P r (Some l) f h p = let e : record { rule = r; line = l } ≡ f = cc in subst P e (p l refl)

-- ---- chains of three and four

pub record None3 (a b c : Option ℕ) : Type 0 where
  pub first : a ≡ None
  pub second : b ≡ None
  pub third : c ≡ None

pub record None4 (a b c d : Option ℕ) : Type 0 where
  pub first : a ≡ None
  pub second : b ≡ None
  pub third : c ≡ None
  pub fourth : d ≡ None

none_3 : (p q r : Rule) (a b c : Option ℕ) → fault_or (fault_at p a) (fault_or (fault_at q b) (fault_at r c)) ≡ None → None3 a b c
none_3 p q r a b c h =
    let both = none_both (fault_at p a) (fault_or (fault_at q b) (fault_at r c)) h in
    let rest = none_both (fault_at q b) (fault_at r c) both.1 in
    record { first = none_at p a both.0; second = none_at q b rest.0; third = none_at r c rest.1 }

none_4 : (p q r s : Rule) (a b c d : Option ℕ) → fault_or (fault_at p a) (fault_or (fault_at q b) (fault_or (fault_at r c) (fault_at s d))) ≡ None → None4 a b c d
none_4 p q r s a b c d h =
    let both = none_both (fault_at p a) (fault_or (fault_at q b) (fault_or (fault_at r c) (fault_at s d))) h in
    let rest = none_3 q r s b c d both.1 in
    record { first = none_at p a both.0; second = rest.first; third = rest.second; fourth = rest.third }

some_3 : (P : BrokenRule → Type 0) (p q r : Rule) (a b c : Option ℕ) (f : BrokenRule) → fault_or (fault_at p a) (fault_or (fault_at q b) (fault_at r c)) ≡ Some f → ((l : ℕ) → a ≡ Some l → P (record { rule = p; line = l })) → ((l : ℕ) → b ≡ Some l → P (record { rule = q; line = l })) → ((l : ℕ) → c ≡ Some l → P (record { rule = r; line = l })) → P f
some_3 P p q r a b c f h x y z =
    either P (fault_at p a) (fault_or (fault_at q b) (fault_at r c)) f h (λ e. some_at P p a f e x)
    (λ e. either P (fault_at q b) (fault_at r c) f e (λ d. some_at P q b f d y) (λ d. some_at P r c f d z))

some_4 : (P : BrokenRule → Type 0) (p q r s : Rule) (a b c d : Option ℕ) (f : BrokenRule) → fault_or (fault_at p a) (fault_or (fault_at q b) (fault_or (fault_at r c) (fault_at s d))) ≡ Some f → ((l : ℕ) → a ≡ Some l → P (record { rule = p; line = l })) → ((l : ℕ) → b ≡ Some l → P (record { rule = q; line = l })) → ((l : ℕ) → c ≡ Some l → P (record { rule = r; line = l })) → ((l : ℕ) → d ≡ Some l → P (record { rule = s; line = l })) → P f
some_4 P p q r s a b c d f h x y z w =
    either P (fault_at p a) (fault_or (fault_at q b) (fault_or (fault_at r c) (fault_at s d))) f h (λ e. some_at P p a f e x)
    (λ e. some_3 P q r s b c d f e y z w)

-- ---- one definition

abbrev pub Breaks : Func → BrokenRule → Type 0
Breaks g f = broken_in_function f.rule g ≡ Some f.line

label_breaks : (g : Func) (f : BrokenRule) → label_fault g ≡ Some f → Breaks g f
unfolding label_fault
label_breaks g f h = some_4 (Breaks g) DistinctLocals KnownLabels EntryNotTarget LastBlockEnds (repeated_local g) (unknown_label g) (jump_to_entry g) (block_without_jump g) f h (λ l o. o) (λ l o. o) (λ l o. o) (λ l o. o)

label_keeps : (g : Func) → label_fault g ≡ None → None4 (repeated_local g) (unknown_label g) (jump_to_entry g) (block_without_jump g)
unfolding label_fault
label_keeps g h = none_4 DistinctLocals KnownLabels EntryNotTarget LastBlockEnds (repeated_local g) (unknown_label g) (jump_to_entry g) (block_without_jump g) h

temp_breaks : (g : Func) (f : BrokenRule) → temp_fault g ≡ Some f → Breaks g f
unfolding temp_fault
temp_breaks g f h = some_4 (Breaks g) OneType OperandFits ReturnFits DefinedTemporaries (two_types g) (misplaced g) (wrong_return g) (undefined_temp g) f h (λ l o. o) (λ l o. o) (λ l o. o) (λ l o. o)

temp_keeps : (g : Func) → temp_fault g ≡ None → None4 (two_types g) (misplaced g) (wrong_return g) (undefined_temp g)
unfolding temp_fault
temp_keeps g h = none_4 OneType OperandFits ReturnFits DefinedTemporaries (two_types g) (misplaced g) (wrong_return g) (undefined_temp g) h

size_breaks : (g : Func) (f : BrokenRule) → size_fault g ≡ Some f → Breaks g f
unfolding size_fault
size_breaks g f h = some_3 (Breaks g) PhiCoversPredecessors AllocInEntry BlitSize (uncovered_phi g) (wrong_alloc g) (long_blit g) f h (λ l o. o) (λ l o. o) (λ l o. o)

size_keeps : (g : Func) → size_fault g ≡ None → None3 (uncovered_phi g) (wrong_alloc g) (long_blit g)
unfolding size_fault
size_keeps g h = none_3 PhiCoversPredecessors AllocInEntry BlitSize (uncovered_phi g) (wrong_alloc g) (long_blit g) h

function_breaks : (g : Func) (f : BrokenRule) → function_fault g ≡ Some f → Breaks g f
function_breaks g f h =
    either (Breaks g) (label_fault g) (fault_or (temp_fault g) (size_fault g)) f h (label_breaks g f)
    (λ e. either (Breaks g) (temp_fault g) (size_fault g) f e (temp_breaks g f) (size_breaks g f))

pub record Keeps (g : Func) : Type 0 where
  pub labels : None4 (repeated_local g) (unknown_label g) (jump_to_entry g) (block_without_jump g)
  pub temps : None4 (two_types g) (misplaced g) (wrong_return g) (undefined_temp g)
  pub sizes : None3 (uncovered_phi g) (wrong_alloc g) (long_blit g)

all_keep : (g : Func) → function_fault g ≡ None → Keeps g
all_keep g h =
    let both = none_both (label_fault g) (fault_or (temp_fault g) (size_fault g)) h in
    let rest = none_both (temp_fault g) (size_fault g) both.1 in
    record { labels = label_keeps g both.0; temps = temp_keeps g rest.0; sizes = size_keeps g rest.1 }

kept : (g : Func) → Keeps g → (r : Rule) → broken_in_function r g ≡ None
kept g h DistinctGlobals = refl
kept g h DistinctLocals = h.labels.first
kept g h KnownLabels = h.labels.second
kept g h EntryNotTarget = h.labels.third
kept g h LastBlockEnds = h.labels.fourth
kept g h OneType = h.temps.first
kept g h OperandFits = h.temps.second
kept g h PhiCoversPredecessors = h.sizes.first
kept g h AllocInEntry = h.sizes.second
kept g h ReturnFits = h.temps.third
kept g h DefinedTemporaries = h.temps.fourth
kept g h DataFields = refl
kept g h Alignment = refl
kept g h BlitSize = h.sizes.third

function_keeps : (g : Func) → function_fault g ≡ None → (r : Rule) → broken_in_function r g ≡ None
function_keeps g h r = kept g (all_keep g h) r

abbrev pub BreaksObject : DataDef → BrokenRule → Type 0
BreaksObject d f = broken_in_object f.rule d ≡ Some f.line

object_breaks : (d : DataDef) (f : BrokenRule) → object_fault d ≡ Some f → broken_in_object f.rule d ≡ Some f.line
object_breaks d f h =
    either (BreaksObject d) (fault_at DataFields (wrong_fields d)) (fault_at Alignment (wrong_alignment d)) f h
    (λ e. some_at (BreaksObject d) DataFields (wrong_fields d) f e (λ l o. o))
    (λ e. some_at (BreaksObject d) Alignment (wrong_alignment d) f e (λ l o. o))

object_keeps : (d : DataDef) → object_fault d ≡ None → (r : Rule) → broken_in_object r d ≡ None
object_keeps d h DistinctGlobals = refl
object_keeps d h DistinctLocals = refl
object_keeps d h KnownLabels = refl
object_keeps d h EntryNotTarget = refl
object_keeps d h LastBlockEnds = refl
object_keeps d h OneType = refl
object_keeps d h OperandFits = refl
object_keeps d h PhiCoversPredecessors = refl
object_keeps d h AllocInEntry = refl
object_keeps d h ReturnFits = refl
object_keeps d h DefinedTemporaries = refl
object_keeps d h DataFields =
    let both = none_both (fault_at DataFields (wrong_fields d)) (fault_at Alignment (wrong_alignment d)) h in none_at DataFields (wrong_fields d) both.0
object_keeps d h Alignment =
    let both = none_both (fault_at DataFields (wrong_fields d)) (fault_at Alignment (wrong_alignment d)) h in none_at Alignment (wrong_alignment d) both.1
object_keeps d h BlitSize = refl

definition_breaks : (d : Definition) (f : BrokenRule) → definition_fault d ≡ Some f → broken_in f.rule d ≡ Some f.line
definition_breaks (Function g) f h = function_breaks g f h
definition_breaks (Object d) f h = object_breaks d f h

definition_keeps : (d : Definition) → definition_fault d ≡ None → (r : Rule) → broken_in r d ≡ None
definition_keeps (Function g) h r = function_keeps g h r
definition_keeps (Object d) h r = object_keeps d h r

-- ---- a text

first_keeps : (ds : List Definition) → first_fault ds ≡ None → (r : Rule) → first (broken_in r) ds ≡ None
first_keeps [] h r = refl
first_keeps (d ∷ ds) h r =
    let both = none_both (definition_fault d) (first_fault ds) h in
    ap (λ o. or_else o (first (broken_in r) ds)) (definition_keeps d both.0 r) ∙ first_keeps ds both.1 r

first_breaks_at : (d : Definition) (ds : List Definition) (f : BrokenRule) (o : Option BrokenRule) → definition_fault d ≡ o → fault_or o (first_fault ds) ≡ Some f → (first_fault ds ≡ Some f → first (broken_in f.rule) ds ≡ Some f.line) → first (broken_in f.rule) (d ∷ ds) ≡ Some f.line
first_breaks_at d ds f None e h rest =
    ap (λ o. or_else o (first (broken_in f.rule) ds)) (definition_keeps d e f.rule) ∙ rest h
first_breaks_at d ds f (Some g) e h rest =
    ap (λ o. or_else o (first (broken_in f.rule) ds)) (definition_breaks d f (e ∙ h))

first_breaks : (ds : List Definition) (f : BrokenRule) → first_fault ds ≡ Some f → first (broken_in f.rule) ds ≡ Some f.line
first_breaks [] f h = cc
first_breaks (d ∷ ds) f h = first_breaks_at d ds f (definition_fault d) refl h (first_breaks ds f)

no_globals_in : (d : Definition) → broken_in DistinctGlobals d ≡ None
no_globals_in (Function g) = refl
no_globals_in (Object d) = refl

no_globals : (ds : List Definition) → first (broken_in DistinctGlobals) ds ≡ None
no_globals [] = refl
no_globals (d ∷ ds) = ap (λ o. or_else o (first (broken_in DistinctGlobals) ds)) (no_globals_in d) ∙ no_globals ds

as_broken : (t : Text) (r : Rule) (l : ℕ) → first (broken_in r) t.definitions ≡ Some l → broken r t ≡ Some l
as_broken t DistinctGlobals l h = let bad : None ≡ Some l = sym (no_globals t.definitions) ∙ h in cc
as_broken t DistinctLocals l h = h
as_broken t KnownLabels l h = h
as_broken t EntryNotTarget l h = h
as_broken t LastBlockEnds l h = h
as_broken t OneType l h = h
as_broken t OperandFits l h = h
as_broken t PhiCoversPredecessors l h = h
as_broken t AllocInEntry l h = h
as_broken t ReturnFits l h = h
as_broken t DefinedTemporaries l h = h
as_broken t DataFields l h = h
as_broken t Alignment l h = h
as_broken t BlitSize l h = h

abbrev pub BreaksText : Text → BrokenRule → Type 0
BreaksText t f = broken f.rule t ≡ Some f.line

pub text_breaks : (t : Text) (f : BrokenRule) → text_fault t ≡ Some f → broken f.rule t ≡ Some f.line
unfolding text_fault
text_breaks t f h =
    either (BreaksText t) (fault_at DistinctGlobals (repeated_global t)) (first_fault t.definitions) f h
    (λ e. some_at (BreaksText t) DistinctGlobals (repeated_global t) f e (λ l o. o))
    (λ e. as_broken t f.rule f.line (first_breaks t.definitions f e))

text_both : (t : Text) → text_fault t ≡ None → (repeated_global t ≡ None) × (first_fault t.definitions ≡ None)
unfolding text_fault
text_both t h =
    let both = none_both (fault_at DistinctGlobals (repeated_global t)) (first_fault t.definitions) h in
    (none_at DistinctGlobals (repeated_global t) both.0, both.1)

pub text_keeps : (t : Text) → text_fault t ≡ None → (r : Rule) → broken r t ≡ None
text_keeps t h DistinctGlobals = (text_both t h).0
text_keeps t h DistinctLocals = first_keeps t.definitions (text_both t h).1 DistinctLocals
text_keeps t h KnownLabels = first_keeps t.definitions (text_both t h).1 KnownLabels
text_keeps t h EntryNotTarget = first_keeps t.definitions (text_both t h).1 EntryNotTarget
text_keeps t h LastBlockEnds = first_keeps t.definitions (text_both t h).1 LastBlockEnds
text_keeps t h OneType = first_keeps t.definitions (text_both t h).1 OneType
text_keeps t h OperandFits = first_keeps t.definitions (text_both t h).1 OperandFits
text_keeps t h PhiCoversPredecessors = first_keeps t.definitions (text_both t h).1 PhiCoversPredecessors
text_keeps t h AllocInEntry = first_keeps t.definitions (text_both t h).1 AllocInEntry
text_keeps t h ReturnFits = first_keeps t.definitions (text_both t h).1 ReturnFits
text_keeps t h DefinedTemporaries = first_keeps t.definitions (text_both t h).1 DefinedTemporaries
text_keeps t h DataFields = first_keeps t.definitions (text_both t h).1 DataFields
text_keeps t h Alignment = first_keeps t.definitions (text_both t h).1 Alignment
text_keeps t h BlitSize = first_keeps t.definitions (text_both t h).1 BlitSize
