use Rattle.std.proofs.Common.{◌≡◌, ◌++◌, take, flat_map}
use Rattle.elf_file.specs.File.{fields_bytes, program_header_fields}
use Rattle.elf_file.proofs.write.push_program_headers.Given as goal

abbrev pub invariant-loop-header : goal.invariant-loop-header
invariant-loop-header l =
    l.file.items ≡ l.fn.file.items ++ flat_map (λ h. fields_bytes (program_header_fields h)) (take l.header-index l.headers)
