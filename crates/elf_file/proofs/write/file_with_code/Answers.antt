use Rattle.elf_file.proofs.Writing.{length-written_headers}
use Rattle.elf_file.proofs.write.file_with_code.Goals as goal

pub pad-requires : goal.pad-requires
pad-requires c =
    rw c.push_program_headers.new.file.ok.0 (
    length-written_headers c.args.headers.now c.in_ok-file.file.items c.push_file_header.new.file.items c.push_program_headers.new.file.items c.header_for.result c.in_ok-file.ensures.items c.header_for.ensures c.in_ok-push_file_header.ensures c.in_ok-push_program_headers.ensures c.requires
    )
