use Rattle.clap.specs.Matches.{found_of}
use Rattle.clap.proofs.WalkLemmas.{raw_values-rows}
use Rattle.std.proofs.Common.{rules}
use Rattle.command_line.proofs.asked.words_of.Goals as goal

pub returns : goal.returns
returns c = rw (← raw_values-rows (found_of c.args.found.now) c.args.name.now) (search rules)
