-- What runs of a compiled file answer.
use Rattle.rv_machine.specs.Steps.{start_state}
use Rattle.rv_machine.proofs.Arguments.{arguments_count, arguments_size}
use Rattle.rv_machine.proofs.StartLaws.{machine_starts}
use Rattle.headline.proofs.Answering.{runs_answer}
use Rattle.qbec.specs.Laws.{CompiledFilesAnswer}

pub compiled_files_answer : CompiledFilesAnswer
compiled_files_answer texts file x words refuses limit output stop is read fit bytes ends =
    let starts = machine_starts x words read.keeps read.entry read.bytes fit bytes in
    let executes = (is.is.every x read.loads).runs words (start_state x words) starts (arguments_count words fit) (arguments_size words fit) in
    record {
      program = is.program;
      are = is.are;
      answers = runs_answer is.program words (start_state x words) refuses limit output stop executes ends;
    }
