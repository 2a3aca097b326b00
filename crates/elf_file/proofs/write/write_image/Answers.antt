use Rattle.std.proofs.Common.{length, sym, ap, arith, ◌∙◌}
use Rattle.std.proofs.lemmas.Bool.Decides.{nat_tests}
use Rattle.elf_file.proofs.Standing.{Stands-executable_of}
use Rattle.elf_file.proofs.Writing.{loads-file, file-code, file-data, fits-before_data}
use Rattle.elf_file.proofs.write.write_image.Goals as goal

pub returns-then-is_empty-clause-file : goal.returns-then-is_empty-clause-file
returns-then-is_empty-clause-file c =
    let none = c.if-is_empty.ensures in
    let value = c.data-data_bytes.ensures.value in
    let code = c.segment_header-code.ensures in
    let size = c.code_size.ensures.value in
    file-code c.args.image.now c.segment_header-code.result c.in_ok-file.file.items (cc) (sym (ap length value) ∙ grind (arith, nat_tests, none)) c.in_ok-file.ensures

pub returns-then-is_empty-clause-loads : goal.returns-then-is_empty-clause-loads
returns-then-is_empty-clause-loads c =
    loads-file c.args.image.now c.in_ok-file.file.items c.data-data_bytes.ensures.image (returns-then-is_empty-clause-file c)

pub pad-requires : goal.pad-requires
pad-requires c =
    rw (c.in_ok-file-2.file.ok.0, c.data_offset-offset.ensures.value) (
    fits-before_data c.args.image.now c.segment_header-code.result c.segment_header.result c.in_ok-file-2.file.items c.in_ok-file-2.ensures
    )

pub returns-clause-file : goal.returns-clause-file
returns-clause-file c =
    let some = c.if-is_empty.ensures in
    let value = c.data-data_bytes.ensures.value in
    let code = c.segment_header-code.ensures in
    let size = c.code_size.ensures.value in
    let more = c.segment_header.ensures in
    let start = c.data_start.ensures.value in
    let offset = c.data_offset-offset.ensures.value in
    let padded = c.in_ok-pad.ensures in
    let rest = c.in_ok-extend_from_slice.ensures.items in
    file-data c.args.image.now c.segment_header-code.result c.segment_header.result c.in_ok-file-2.file.items c.pad.new.file.items c.extend_from_slice.new.self.items (cc) (cc) (grind (arith, nat_tests, some, ap length value)) c.in_ok-file-2.ensures (cc) (cc)

pub returns-clause-loads : goal.returns-clause-loads
returns-clause-loads c =
    loads-file c.args.image.now c.extend_from_slice.new.self.items c.data-data_bytes.ensures.image (returns-clause-file c)

pub returns-then-is_empty-clause-stands : goal.returns-then-is_empty-clause-stands
returns-then-is_empty-clause-stands c = Stands-executable_of c.args.image.now

pub returns-clause-stands : goal.returns-clause-stands
returns-clause-stands c = Stands-executable_of c.args.image.now
