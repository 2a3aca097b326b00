use Rattle.elf_file.proofs.Reading.{loaded-only, loaded-refused}
use Rattle.elf_file.proofs.read.read_image.Goals as goal

pub returns-clause-only : goal.returns-clause-only
returns-clause-only c = loaded-only c.args.file.now c.load.result c.load.ensures.loads

pub returns-clause-refused : goal.returns-clause-refused
returns-clause-refused c = loaded-refused c.args.file.now c.load.result c.load.ensures.loads
