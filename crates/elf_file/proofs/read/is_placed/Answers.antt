use Rattle.std.proofs.Common.{rules}
use Rattle.elf_file.proofs.read.is_placed.Goals as goal

pub returns-then-h-le-IMAGE_END : goal.returns-then-h-le-IMAGE_END
returns-then-h-le-IMAGE_END c = search rules
