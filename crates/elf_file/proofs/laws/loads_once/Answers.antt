use Rattle.elf_file.proofs.Reading.{Loads-unique}
use Rattle.elf_file.proofs.laws.loads_once.Goals as goal

pub returns : goal.returns
returns c = Loads-unique
