-- What files in memory hold: of two at one path the first.
use Rattle.std.specs.Prelude.{if◌then◌else◌, List, [], ◌∷◌, Some, None, bytes_eq, string_bytes}
use Rattle.shell.specs.Disk.{Files}
use Rattle.shell.specs.declared.memory_disk.MemoryFile.{MemoryFile}

abbrev pub first_at : List MemoryFile → Files
first_at [] path = None
first_at (file ∷ rest) path =
    if bytes_eq (string_bytes file.path) path then Some file.bytes.items else first_at rest path
