use Rattle.clap.specs.Matches.{found_of}
use Rattle.clap.proofs.WalkLemmas.{one_text-rows}
use Rattle.std.proofs.Common.{◌∙◌, codes, rules}
use Rattle.command_line.proofs.asked.last_of.Goals as goal

pub returns : goal.returns
returns c =
    let same = one_text-rows (found_of c.args.found.now) (codes "last") in
    record {
      given = λ t is numeral low. let here = same ∙ is in search rules;
      missing = λ is. let here = same ∙ is in search rules;
    }
