use Rattle.std.proofs.Common.{refl}
use Rattle.clap.proofs.OnLiterals.{clap_on_literals}
use Rattle.command_line.specs.Examples.{Examples}
use Rattle.command_line.proofs.laws.examples_are_computed.Goals as goal

examples : Examples
unfolding clap_on_literals
examples = record {
  build_is_clean = refl;
  build = refl;
  build_out = refl;
  build_files = refl;
  build_explain = refl;
  explain_is_clean = refl;
  explain = refl;
  run_is_clean = refl;
  run_limit = refl;
  run_words_are = refl;
  plain_is_clean = refl;
  plain_file = refl;
  plain_limit = refl;
  no_command = refl;
  help = refl;
  no_out = refl;
  great_limit = refl;
}

pub returns : goal.returns
returns c = examples
