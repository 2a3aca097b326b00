use Rattle.std.proofs.Common.{map, ℕ, List, Bor, Option, None, subst}
use Rattle.clap.specs.Simple.{subcommand_rows_of}
use Rattle.command_line.specs.Asked.{AsksIn, MayHandOn}
use Rattle.command_line.specs.declared.Command.{Command}
use Rattle.command_line.proofs.Dashes.{asks_for}
use Rattle.command_line.proofs.Naming.{never_none}
use Rattle.command_line.proofs.command_of.Goals as goal

pub returns-clause-asks : goal.returns-clause-asks
returns-clause-asks c =
    let text : Bor (List ℕ) → List ℕ = λ w. w.now in
    asks_for (map text c.args.words.now) (map text c.split.result.0.now) (map text c.split.result.1.now) (subcommand_rows_of c.in_ok-matches.matches) c.in-Some.command
    c.split.ensures.read c.split.ensures.handed c.in_ok-matches.ensures.clean c.in_ok-matches.ensures.found
    (subst (λ (o : Option Command). AsksIn (subcommand_rows_of c.in_ok-matches.matches) o) c.in-Some.is c.in_ok-command.ensures.asks)
    (subst (λ (o : Option Command). MayHandOn (map text c.split.result.1.now) o) c.in-Some.is c.in_ok-command.ensures.hands)

pub unreachable-requires : goal.unreachable-requires
unreachable-requires c =
    let words = map (λ (w : Bor (List ℕ)). w.now) c.split.result.0.now in
    never_none words c.in_ok-matches.ensures.clean (subst (λ o. AsksIn o None) c.in_ok-matches.ensures.found (rw c.in-None.is at c.in_ok-command.ensures.asks))
