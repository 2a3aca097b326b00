-- Programs in whose functions temporaries are promoted: they mean what they did.
use Rattle.std.specs.Prelude.{◌≡◌, ◌≢◌, ℕ, ◌<◌, ◌^◌, List, [], ◌∷◌, length, slice_get, Option, Some}
use Rattle.il_ast.specs.declared.datum.Item.{Item}
use Rattle.il_ast.specs.declared.datum.Item.TheVariants.{Int, Bytes, Address}
use Rattle.il_ast.specs.declared.datum.Field.{Field}
use Rattle.il_ast.specs.declared.datum.Field.TheVariants.{Items, Zeros}
use Rattle.il_ast.specs.declared.datum.DataDef.{DataDef}
use Rattle.il_ast.specs.declared.function.Func.{Func}
use Rattle.il_ast.specs.declared.program.Target.{Target}
use Rattle.il_ast.specs.declared.program.Target.TheVariants.{Code, Object}
use Rattle.il_ast.specs.declared.program.InText.{InText}
use Rattle.il_ast.specs.declared.program.Program.{Program}
use Rattle.il_ast.specs.declared.value.Value.{Value}
use Rattle.il_ast.specs.declared.value.End.TheVariants.{Exit, Halt, Undefined, Stack, Turns}
use Rattle.il_ast.specs.Prelude.{Memory, Outcome, Returned, Ended, end_of, outcome, meaning}
use Rattle.promote.specs.Uses.{IsPromoted}

-- ---- programs

-- each function of the second list is that of the first with its temporaries promoted
abbrev pub ArePromoted : List (InText Func) → List (InText Func) → Type 0
ArePromoted [] [] = Unit {0}
ArePromoted [] (g ∷ gs) = ⊥
ArePromoted (f ∷ fs) [] = ⊥
ArePromoted (f ∷ fs) (g ∷ gs) = (g.text ≡ f.text) × IsPromoted f.item g.item × ArePromoted fs gs

pub record IsProgramPromoted (p q : Program) : Type 0 where
  pub targets : q.targets ≡ p.targets
  pub functions : ArePromoted p.functions q.functions
  pub objects : q.objects ≡ p.objects
  pub main : q.main ≡ p.main

-- ---- what linked programs and argument words have

abbrev pub AreBytes : List ℕ → Type 0
AreBytes [] = Unit {0}
AreBytes (b ∷ bs) = (b < 256) × AreBytes bs

abbrev pub AreWords : List (List ℕ) → Type 0
AreWords [] = Unit {0}
AreWords (word ∷ words) = AreBytes word × AreWords words

abbrev pub ItemsHaveBytes : List Item → Type 0
ItemsHaveBytes [] = Unit {0}
ItemsHaveBytes (Int n ∷ items) = ItemsHaveBytes items
ItemsHaveBytes (Bytes bytes ∷ items) = AreBytes bytes × ItemsHaveBytes items
ItemsHaveBytes (Address g offset ∷ items) = ItemsHaveBytes items

abbrev pub FieldsHaveBytes : List Field → Type 0
FieldsHaveBytes [] = Unit {0}
FieldsHaveBytes (Items size items ∷ fields) = ItemsHaveBytes items × FieldsHaveBytes fields
FieldsHaveBytes (Zeros n ∷ fields) = FieldsHaveBytes fields

abbrev pub ObjectsHaveBytes : List (InText DataDef) → Type 0
ObjectsHaveBytes [] = Unit {0}
ObjectsHaveBytes (d ∷ ds) = FieldsHaveBytes d.item.fields × ObjectsHaveBytes ds

-- the data that these names mean are among n
abbrev pub AreAmong : ℕ → List Target → Type 0
AreAmong n [] = Unit {0}
AreAmong n (Code f ∷ targets) = AreAmong n targets
AreAmong n (Object k ∷ targets) = (k < n) × AreAmong n targets

-- bytes are below 256, names mean data that there is, and the words can be counted
pub record HasBytes (p : Program) (words : List (List ℕ)) : Type 0 where
  pub names : (t : ℕ) (targets : List Target) → slice_get p.targets t ≡ Some targets →
      AreAmong (length p.objects) targets
  pub data_bytes : ObjectsHaveBytes p.objects
  pub word_bytes : AreWords words
  pub count : length words < 2 ^ 64

-- ---- the law

-- the same is spent and put out, and a value that means the same end of `main` is returned, or the
-- same end comes; nothing is asked where the first became undefined or ran out of stack
abbrev pub SameOutcome : Outcome → Outcome → Type 0
SameOutcome (Returned s v m) o =
    (u : Option Value) × (n : Memory) × (o ≡ Returned s u n) × (end_of u ≡ end_of v)
SameOutcome (Ended s Undefined) o = Unit {0}
SameOutcome (Ended s (Exit n)) o = o ≡ Ended s (Exit n)
SameOutcome (Ended s Halt) o = o ≡ Ended s Halt
SameOutcome (Ended s Stack) o = Unit {0}
SameOutcome (Ended s Turns) o = o ≡ Ended s Turns

abbrev pub OutcomeStays : Type 0
OutcomeStays =
    (p q : Program) (words : List (List ℕ)) (n : ℕ)
    → IsProgramPromoted p q
    → HasBytes p words
    → SameOutcome (outcome p words n) (outcome q words n)

-- the same output and end, at all turns at which the program doesn't become undefined or run out of
-- stack
abbrev pub MeaningStays : Type 0
MeaningStays =
    (p q : Program) (words : List (List ℕ)) (n : ℕ)
    → IsProgramPromoted p q
    → HasBytes p words
    → (meaning p words n).ending ≢ Undefined
    → (meaning p words n).ending ≢ Stack
    → meaning q words n ≡ meaning p words n
