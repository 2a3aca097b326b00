use Rattle.std.proofs.Common.{arith}
use Rattle.std.proofs.lemmas.Grind.{common_steps}
use Rattle.elf_file.proofs.read.read_segment.Goals as goal

pub returns-in_default : goal.returns-in_default
returns-in_default c = grind (arith, common_steps)

pub returns-then-not-is_loadable : goal.returns-then-not-is_loadable
returns-then-not-is_loadable c = grind (arith, common_steps)

pub returns-in_err-file_bytes : goal.returns-in_err-file_bytes
returns-in_err-file_bytes c = grind (arith, common_steps)

pub returns : goal.returns
returns c = grind (arith, common_steps)
