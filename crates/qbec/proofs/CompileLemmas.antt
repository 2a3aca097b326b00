-- What compiling answers, from what its parts answer.
use Rattle.std.proofs.Common.{◌≡◌, inr, ℕ, ◌<◌, List, sym, subst, Vec, Global, Result, Ok, Err, IfOk, IfErr, MatchResult}
use Rattle.il_ast.specs.declared.program.Program.{Program}
use Rattle.il_types.specs.declared.checked.Checked.{Checked}
use Rattle.obj_link.specs.declared.linking.error.LinkError.{LinkError}
use Rattle.obj_link.specs.declared.linking.error.LinkError.TheVariants.{UnknownName as LinkUnknown, ExportedTwice as LinkTwice, NoMain as LinkNoMain, Limit as LinkLimit, Memory as LinkMemory}
use Rattle.obj_link.specs.Prelude.{times_exported, meaning_of, names_of, IsUnknown, Refuses as LinkRefuses}
use Rattle.qbec.specs.declared.error.CompileError.{CompileError}
use Rattle.qbec.specs.declared.error.CompileError.TheVariants.{Syntax, Rule, UnknownName, ExportedTwice, NoMain, Limit, Memory}
use Rattle.qbec.specs.Refusals.{AreTexts, AreProgram, Refuses, SaysAsMuch, IsFile, IsCompiled}

-- ---- refusals to link

pub link_says : (texts : List (List ℕ)) (checked : List Checked) → AreTexts texts checked → (e : LinkError) (r : CompileError) → SaysAsMuch e r → LinkRefuses e checked → Refuses r texts
link_says texts checked are (LinkUnknown name) (Syntax text line) h says = absurd h
link_says texts checked are (LinkUnknown name) (Rule text fault) h says = absurd h
link_says texts checked are (LinkUnknown name) (UnknownName copy) h says = (checked, are, subst (λ xs. IsUnknown (meaning_of checked) checked xs) (sym h) says)
link_says texts checked are (LinkUnknown name) (ExportedTwice copy) h says = absurd h
link_says texts checked are (LinkUnknown name) NoMain h says = absurd h
link_says texts checked are (LinkUnknown name) Limit h says = absurd h
link_says texts checked are (LinkUnknown name) Memory h says = tt
link_says texts checked are (LinkTwice name) (Syntax text line) h says = absurd h
link_says texts checked are (LinkTwice name) (Rule text fault) h says = absurd h
link_says texts checked are (LinkTwice name) (UnknownName copy) h says = absurd h
link_says texts checked are (LinkTwice name) (ExportedTwice copy) h says = (checked, are, subst (λ xs. 1 < times_exported checked (names_of checked) xs) (sym h) says)
link_says texts checked are (LinkTwice name) NoMain h says = absurd h
link_says texts checked are (LinkTwice name) Limit h says = absurd h
link_says texts checked are (LinkTwice name) Memory h says = tt
link_says texts checked are LinkNoMain (Syntax text line) h says = absurd h
link_says texts checked are LinkNoMain (Rule text fault) h says = absurd h
link_says texts checked are LinkNoMain (UnknownName copy) h says = absurd h
link_says texts checked are LinkNoMain (ExportedTwice copy) h says = absurd h
link_says texts checked are LinkNoMain NoMain h says = (checked, are, says)
link_says texts checked are LinkNoMain Limit h says = absurd h
link_says texts checked are LinkNoMain Memory h says = absurd h
link_says texts checked are LinkLimit (Syntax text line) h says = absurd h
link_says texts checked are LinkLimit (Rule text fault) h says = absurd h
link_says texts checked are LinkLimit (UnknownName copy) h says = absurd h
link_says texts checked are LinkLimit (ExportedTwice copy) h says = absurd h
link_says texts checked are LinkLimit NoMain h says = absurd h
link_says texts checked are LinkLimit Limit h says = inr (checked, are, says)
link_says texts checked are LinkLimit Memory h says = absurd h
link_says texts checked are LinkMemory (Syntax text line) h says = absurd h
link_says texts checked are LinkMemory (Rule text fault) h says = absurd h
link_says texts checked are LinkMemory (UnknownName copy) h says = absurd h
link_says texts checked are LinkMemory (ExportedTwice copy) h says = absurd h
link_says texts checked are LinkMemory NoMain h says = absurd h
link_says texts checked are LinkMemory Limit h says = absurd h
link_says texts checked are LinkMemory Memory h says = tt

-- ---- files

pub file_compiled : (texts : List (List ℕ)) (p : Program) (r : Result (Vec ℕ Global) CompileError) → AreProgram texts p
    → MatchResult r (λ v. IsFile p v.items) (λ e. e ≡ Memory) → IfOk r (λ v. IsCompiled texts v.items)
file_compiled texts p (Ok v) are h = record { program = p; are = are; is = h }
file_compiled texts p (Err e) are h = tt

pub file_refused : (texts : List (List ℕ)) (p : Program) (r : Result (Vec ℕ Global) CompileError) → MatchResult r (λ v. IsFile p v.items) (λ e. e ≡ Memory)
    → IfErr r (λ e. Refuses e texts)
file_refused texts p (Ok v) h = tt
file_refused texts p (Err e) h = subst (λ x. Refuses x texts) (sym h) tt

pub file_ours : (p : Program) (r : Result (Vec ℕ Global) CompileError) → MatchResult r (λ v. IsFile p v.items) (λ e. e ≡ Memory) → IfErr r (λ e. e ≡ Memory)
file_ours p (Ok v) h = tt
file_ours p (Err e) h = h
