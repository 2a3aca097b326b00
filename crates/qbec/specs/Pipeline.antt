-- How far a function has come on the way to its words.
use Rattle.std.specs.Prelude.{◌≡◌, ℕ, ◌+◌, ◌*◌, ◌≤◌, IsTrue, List, length, slice_get, Option, Some, [], ◌∷◌}
use Rattle.il_ast.specs.declared.function.Func.{Func}
use Rattle.il_ast.specs.declared.program.InText.{InText}
use Rattle.il_ast.specs.declared.program.Program.{Program}
use Rattle.il_ast.specs.declared.value.Callee.TheVariants.{Defined}
use Rattle.il_ast.specs.declared.value.Value.TheVariants.{Function}
use Rattle.il_ast.specs.Prelude.{weight, Coded, globals_of}
use Rattle.vcode.specs.declared.function.LFunc.{LFunc}
use Rattle.vcode.specs.declared.function.VFunc.{VFunc}
use Rattle.vcode.specs.Prelude.{virtual_code, code_weight}
use Rattle.inlining.specs.InPlace.{is_candidate}
use Rattle.abi_frames.specs.Functions.{IsFrameOf}
use Rattle.rv_isa.specs.declared.labelled.Item.{Item}
use Rattle.rv_isa.specs.Prelude.{LaysOut, Words}
use Rattle.asm_layout.specs.Forms.{HaveForm}
use Rattle.asm_layout.specs.declared.call.CallForm.{CallForm}
use Rattle.headline.specs.Executables.{IsCodeIn}
use Rattle.headline.specs.Compiled.{StandIn}
use Rattle.il_ast.specs.declared.program.Target.{Target}
use Rattle.il_ast.specs.declared.program.Target.TheVariants.{Code}
use Rattle.promote.specs.Uses.{IsPromoted}
use Rattle.promote.specs.Programs.{IsProgramPromoted}
use Rattle.std.specs.Borrow.{Bor}
use Rattle.phi_copies.specs.Good.{IsGoodFunction}
use Rattle.obj_link.specs.Prelude.{AreCodes, EveryCode}

-- ---- candidates

-- in this text of the program the name means a function of the same text, whose code this is; and
-- that is a candidate
pub record IsCandidateNamed (p : Program) (text name : ℕ) (candidate : VFunc) : Type 0 where
  pub number : ℕ
  pub function : InText Func
  pub means : slice_get (globals_of p text) name ≡ Some (Function (Defined number))
  pub here : slice_get p.functions number ≡ Some function
  pub same : function.text ≡ text
  pub is : IsCodeIn p function (virtual_code candidate)
  pub calm : IsTrue (is_candidate candidate.code)

-- for some names of this text, the code of the candidates that they mean
abbrev pub AreCandidatesOf : Program → (text : ℕ) → List (Option VFunc) → Type 0
AreCandidatesOf p text candidates =
    (name : ℕ) (candidate : VFunc) → slice_get candidates name ≡ Some (Some candidate) →
    IsCandidateNamed p text name candidate

-- ---- one function

-- code of the function, in every text of a program whose candidates these are
abbrev pub IsCodeWith : List (Option VFunc) → Func → Coded → Type 0
IsCodeWith candidates f c =
    (p : Program) (text : ℕ) → AreCandidatesOf p text candidates →
    IsCodeIn p (record { text = text; item = f }) c

-- words for location code, wherever they stand, with calls in this form, and how many they are at
-- most
pub record IsLaidOut (form : CallForm) (l : LFunc) (c : Words) : Type 0 where
  pub items : List Item
  pub machine : IsFrameOf l.code l.slots items
  pub laid : LaysOut items c.words c.holes
  pub calls : HaveForm form c.holes
  pub few : length c.words ≤ 32 * code_weight l.code + 256

-- words that stand in for the function, in every text of a program whose candidates these are
abbrev pub StandWith : List (Option VFunc) → Func → Words → Type 0
StandWith candidates f c =
    (p : Program) (text : ℕ) → AreCandidatesOf p text candidates →
    StandIn p (record { text = text; item = f }) c

-- and as few as its weight allows, 32 for each unit, and 256; with calls in this form
abbrev pub StandWithin : CallForm → List (Option VFunc) → Func → Words → Type 0
StandWithin form candidates f c =
    StandWith candidates f c × (length c.words ≤ 32 * weight f + 256) × HaveForm form c.holes

-- ---- the candidates that the names of a program's texts mean: functions that make no block of memory, in
-- what the program becomes where locals are taken out of memory.

-- code of what a function becomes, with calls of these candidates in place; it is a candidate
pub record IsCandidateCode (below : List (Option VFunc)) (f : Func) (candidate : VFunc) : Type 0 where
  pub promoted : Func
  pub is : IsPromoted f promoted
  pub code : IsCodeWith below promoted (virtual_code candidate)
  pub calm : IsTrue (is_candidate candidate.code)

-- a name that means this is one of a function of the same text, whose code the candidate's is
pub record IsCandidateIn (q : Program) (text : ℕ) (target : Target) (candidate : VFunc) : Type 0 where
  pub number : ℕ
  pub function : InText Func
  pub means : target ≡ Code (Defined number)
  pub here : slice_get q.functions number ≡ Some function
  pub same : function.text ≡ text
  pub is : IsCodeIn q function (virtual_code candidate)
  pub calm : IsTrue (is_candidate candidate.code)

abbrev pub IsCandidateMeant : Program → (text : ℕ) → Target → VFunc → Type 0
IsCandidateMeant p text target candidate =
    (q : Program) → IsProgramPromoted p q → IsCandidateIn q text target candidate

-- for some names of a text, the candidates that they mean
abbrev pub AreCandidatesMeant : Program → (text : ℕ) → List Target → List (Option VFunc) → Type 0
AreCandidatesMeant p text targets candidates =
    (name : ℕ) (candidate : VFunc) → slice_get candidates name ≡ Some (Some candidate) →
    (target : Target) × ((slice_get targets name ≡ Some target) × IsCandidateMeant p text target candidate)

-- candidates of a text, and of each text, in what the program becomes
abbrev pub AreCandidatesAt : Program → (text : ℕ) → List (Option VFunc) → Type 0
AreCandidatesAt p text candidates = (q : Program) → IsProgramPromoted p q → AreCandidatesOf q text candidates

abbrev pub AreCandidatesIn : Program → List (List (Option VFunc)) → Type 0
AreCandidatesIn p tables =
    (text : ℕ) (candidates : List (Option VFunc)) → slice_get tables text ≡ Some candidates →
    AreCandidatesAt p text candidates

-- ---- the program that is compiled in a program's place: each function with its locals taken out of
-- memory.

-- words that stand in for what a function of the program becomes, in what the program becomes
pub record StandPromoted (p : Program) (f : InText Func) (c : Words) : Type 0 where
  pub promoted : Func
  pub is : IsPromoted f.item promoted
  pub stand : (q : Program)
      → IsProgramPromoted p q
      → StandIn q (record { text = f.text; item = promoted }) c

-- one for each function, in order
abbrev pub EachPromoted : Program → List Words → List (InText Func) → Type 0
EachPromoted p [] [] = Unit {0}
EachPromoted p [] (f ∷ fs) = ⊥
EachPromoted p (c ∷ codes) [] = ⊥
EachPromoted p (c ∷ codes) (f ∷ fs) = StandPromoted p f c × EachPromoted p codes fs

-- the program with these functions
abbrev pub with_functions : Program → List (InText Func) → Program
with_functions p functions =
    record { targets = p.targets; functions = functions; objects = p.objects; main = p.main }

-- ---- the functions of linked texts, and codes for them

-- each can be lowered
abbrev pub AreGood : List (InText (Bor Func)) → Type 0
AreGood fs = (k : ℕ) (f : InText (Bor Func)) → slice_get fs k ≡ Some f → IsGoodFunction f.item.now

-- words that stand in for what each of these functions of the program becomes, and not too many
pub record AreWordsIn (p : Program) (codes : List Words) (fs : List (InText Func)) : Type 0 where
  pub stand : EachPromoted p codes fs
  pub few : AreCodes codes fs
  pub every : EveryCode codes

-- all have calls in this form
abbrev pub AllHaveForm : CallForm → List Words → Type 0
AllHaveForm form [] = Unit {0}
AllHaveForm form (c ∷ codes) = HaveForm form c.holes × AllHaveForm form codes

-- so for all its functions
abbrev pub AreWords : List Words → Program → Type 0
AreWords codes p = AreWordsIn p codes p.functions
