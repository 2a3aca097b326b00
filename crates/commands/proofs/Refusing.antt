-- Texts that are refused, from why.
use Rattle.std.proofs.Common.{◌≡◌, ℕ, List, inl, inr, ◌∙◌, ap}
use Rattle.il_ast.specs.declared.program.Program.{Program}
use Rattle.il_interp.specs.declared.error.RunError.{RunError}
use Rattle.il_interp.specs.Begun.{Refuses as RefusesWords}
use Rattle.qbec.specs.declared.error.CompileError.{CompileError}
use Rattle.qbec.specs.Refusals.{AreProgram, Refuses as RefusesTexts}
use Rattle.commands.specs.declared.refusal.Refusal.{Refusal}
use Rattle.commands.specs.declared.failure.Failure.{Failure}
use Rattle.commands.specs.declared.failure.Failure.TheVariants.{Refused}
use Rattle.commands.specs.Refusals.{compile_refusal, run_refusal, TextsAreRefused}

pub as_compiled : (texts words : List (List ℕ)) (f : Failure) (e : CompileError) (r : Refusal) → RefusesTexts e texts → r ≡ compile_refusal e → f ≡ Refused r → TextsAreRefused texts words f
unfolding TextsAreRefused
as_compiled texts words f e r says is made = inl (e, says, made ∙ ap (λ (x : Refusal). Refused x) is)

pub as_run : (texts words : List (List ℕ)) (f : Failure) (e : RunError) (p : Program) → AreProgram texts p → RefusesWords e words → f ≡ Refused (run_refusal e) → TextsAreRefused texts words f
unfolding TextsAreRefused
as_run texts words f e p are says made = inr (e, p, are, says, made)
