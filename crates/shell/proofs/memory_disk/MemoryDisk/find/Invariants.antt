use Rattle.std.proofs.Common.{◌≡◌, drop}
use Rattle.shell.specs.MemoryDisk.{first_at}
use Rattle.shell.proofs.memory_disk.MemoryDisk.find.Given as goal

abbrev pub invariant-loop-file : goal.invariant-loop-file
invariant-loop-file l = first_at (drop l.file-index l.file-items) l.path ≡ first_at l.self.files.items l.path
