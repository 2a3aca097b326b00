use Rattle.std.proofs.Common.{refl}
use Rattle.std.specs.Fmt.{digits}
use Rattle.shell.specs.Digits.{sixteen_digits}
use Rattle.commands.specs.Messages.{Examples}
use Rattle.commands.proofs.laws.examples_are_computed.Goals as goal

examples : Examples
unfolding digits sixteen_digits
examples = record {
  halt = refl;
  limit = refl;
  first_fault = refl;
  last_fault = refl;
  undefined = refl;
  stack = refl;
  memory = refl;
  syntax = refl;
  rule = refl;
  long_numbers = refl;
  no_main = refl;
  too_much = refl;
  not_compiled = refl;
  words = refl;
  cut_off = refl;
  not_loaded = refl;
  unread = λ path is. rw is refl;
  unwritten = λ path is. rw is refl;
  output = refl;
}

pub returns : goal.returns
returns c = examples
