use Rattle.clap.specs.Matches.{found_of}
use Rattle.clap.proofs.WalkLemmas.{one_text-rows}
use Rattle.std.proofs.Common.{◌∙◌, codes}
use Rattle.command_line.proofs.asked.explain_of.Goals as goal

pub returns : goal.returns
returns c =
    let same = one_text-rows (found_of c.args.found.now) (codes "explain") in
    record {
      given = λ is. c.get_flag.ensures.value (same ∙ is);
      unset = λ is. c.get_flag.ensures.other (same ∙ is);
      missing = λ is. c.get_flag.ensures.none (same ∙ is);
    }
