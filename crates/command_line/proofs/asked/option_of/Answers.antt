use Rattle.clap.specs.Matches.{found_of}
use Rattle.clap.proofs.WalkLemmas.{first_value-rows}
use Rattle.std.proofs.Common.{rules}
use Rattle.command_line.proofs.asked.option_of.Goals as goal

pub returns : goal.returns
returns c = rw (← first_value-rows (found_of c.args.found.now) c.args.name.now) (search rules)
