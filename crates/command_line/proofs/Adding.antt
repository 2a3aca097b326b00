-- A command with one more subcommand or argument.
use Rattle.std.proofs.Common.{◌∙◌, ◌||◌, ap, ap₂, IfOk, Result}
use Rattle.std.specs.declared.alloc.AllocError.{AllocError}
use Rattle.std.proofs.lemmas.Result.{IfOk-weaker}
use Rattle.clap.specs.Simple.{App, with_rule, with_subcommand}
use Rattle.clap.specs.Built.{AddsArg, AddsSubcommand}
use Rattle.clap.specs.Walk.{Rule}
use Rattle.clap.specs.declared.builder.arg.Arg.{Arg}
use Rattle.clap.specs.declared.builder.command.Command.{Command}
use Rattle.command_line.specs.Grammar.{IsRead, IsRuled}

pub one_more : (old sub new : Command) (a b : App) → AddsSubcommand old sub new → IsRead old a → IsRead sub b → IsRead new (with_subcommand a b.top)
one_more old sub new a b adds is sub_is =
    (adds.shape sub_is.1 ∙ ap₂ with_subcommand is.0 (ap (λ (x : App). x.top) sub_is.0), adds.globals ∙ ap₂ (λ x y. x || y) is.1 sub_is.1)

pub one_argument : (old new : Command) (argument : Arg) (a : App) (r : Rule) → AddsArg old argument new → IsRead old a → IsRuled argument r → IsRead new (with_rule a r)
one_argument old new argument a r adds is ruled =
    (adds.shape ruled.1 ∙ ap₂ with_rule is.0 ruled.0, adds.globals ∙ ap₂ (λ x y. x || y) is.1 ruled.1)

-- where there was memory for it
pub last_argument : (old : Command) (argument : Arg) (result : Result Command AllocError) (a : App) (r : Rule) → IfOk result (λ c. AddsArg old argument c) → IsRead old a → IsRuled argument r
    → IfOk result (λ c. IsRead c (with_rule a r))
last_argument old argument result a r adds is ruled = IfOk-weaker result _ _ (λ c h. one_argument old c argument a r h is ruled) adds
