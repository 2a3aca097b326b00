-- A program that stays in the stack is executed to its end.
use Rattle.std.proofs.Common.{◌≡◌, inl, inr, refl}
use Rattle.il_ast.specs.declared.value.End.{End}
use Rattle.il_ast.specs.declared.value.End.TheVariants.{Exit, Halt, Undefined, Stack, Turns}
use Rattle.il_ast.specs.Prelude.{meaning}
use Rattle.commands.specs.Bounded.{DoesAsMuch, StayingIsExecuted}

pub staying_is_executed : StayingIsExecuted
staying_is_executed p words s stays runs n defined = by_end (meaning p words n).ending refl
  where
    by_end : (e : End) → (meaning p words n).ending ≡ e → DoesAsMuch p words n s
    by_end (Exit status) is = inl (status, is, runs.exits n status is)
    by_end Halt is = inr (inl (runs.halts n is))
    by_end Turns is = inr (inr (runs.goes_on n is))
    by_end Undefined is = absurd (defined is)
    by_end Stack is = absurd (stays words n is)
