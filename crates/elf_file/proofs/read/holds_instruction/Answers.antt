use Rattle.std.proofs.Common.{rules}
use Rattle.elf_file.proofs.read.holds_instruction.Goals as goal

pub returns-then-address-end : goal.returns-then-address-end
returns-then-address-end c = search rules

pub returns-else-address-end : goal.returns-else-address-end
returns-else-address-end c = search rules
