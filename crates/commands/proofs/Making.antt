-- A file that is made of what was compiled, or isn't.
use Rattle.std.proofs.Common.{◌≡◌, ℕ, List, Bor, Vec, Global, Result, Ok, Err, IfOk, IfErr, OnOk, OnErr, subst, inl, inr}
use Rattle.shell.specs.Disk.{DiskState}
use Rattle.qbec.specs.declared.error.CompileError.{CompileError}
use Rattle.qbec.specs.Refusals.{IsCompiled, Refuses as RefusesTexts}
use Rattle.commands.specs.declared.failure.Failure.{Failure}
use Rattle.commands.specs.declared.failure.Failure.TheVariants.{Refused}
use Rattle.commands.specs.Refusals.{compile_refusal}
use Rattle.commands.specs.Parts.{IsWritten, IsUnwritten, IsMade, MakingFails}

pub made : (old new : DiskState) (texts : List (List ℕ)) (out : List ℕ) (compiled : Result (Vec ℕ Global) CompileError) (result : Result (Unit {0}) Failure)
    → IfOk compiled (λ v. IsCompiled texts v.items) → IfErr compiled (λ e. (result ≡ Err (Refused (compile_refusal e))) × (new ≡ old)) → IfOk compiled (λ v. OnOk result (IsWritten old new out v.items))
    → OnOk result (IsMade old new texts out)
made old new texts out (Ok bytes) (Ok done) compiled refused written = record {
  bytes = bytes.items;
  compiled = compiled;
  written = written.0;
  spared = written.1;
  clean = written.2;
}
made old new texts out (Ok bytes) (Err f) compiled refused written = tt
made old new texts out (Err e) (Ok done) compiled refused written = absurd (subst (λ (r : Result (Unit {0}) Failure). OnErr r ⊥) refused.0 tt)
made old new texts out (Err e) (Err f) compiled refused written = tt

pub making_fails : (old new : DiskState) (texts : List (List ℕ)) (out : Bor (List ℕ)) (compiled : Result (Vec ℕ Global) CompileError) (result : Result (Unit {0}) Failure)
    → IfOk compiled (λ v. IsCompiled texts v.items) → IfErr compiled (λ e. RefusesTexts e texts) → IfErr compiled (λ e. (result ≡ Err (Refused (compile_refusal e))) × (new ≡ old))
    → OnOk compiled (IfErr result (IsUnwritten old new out)) → IfErr result (MakingFails old new texts out)
unfolding MakingFails
making_fails old new texts out (Ok bytes) (Ok done) compiled says refused fault = tt
making_fails old new texts out (Ok bytes) (Err f) compiled says refused fault = inr (bytes.items, compiled, fault)
making_fails old new texts out (Err e) (Ok done) compiled says refused fault = tt
making_fails old new texts out (Err e) (Err f) compiled says refused fault =
    let is = refused.0 in let said : f ≡ Refused (compile_refusal e) = cc in inl (e, says, said, refused.1)
