use Rattle.std.proofs.Common.{◌≡◌, ◌++◌, take}
use Rattle.elf_file.specs.File.{fields_bytes}
use Rattle.elf_file.proofs.push.push_fields.Given as goal

abbrev pub invariant-loop-field : goal.invariant-loop-field
invariant-loop-field l = l.file.items ≡ l.fn.file.items ++ fields_bytes (take l.field-index l.fields)
