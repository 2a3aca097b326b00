use Rattle.std.proofs.Common.{sym, ap, ◌∙◌}
use Rattle.elf_file.specs.Conditions.{has_entry}
use Rattle.elf_file.proofs.Reading.{IsExecutable-from_segments}
use Rattle.elf_file.proofs.read.load.Goals as goal

pub new-requires : goal.new-requires
new-requires c =
    IsExecutable-from_segments c.args.file.now _ c.in_ok-header.header.e_phnum c.in_ok-segments.ensures.segments c.if-header-ne0.false
    (ap (has_entry c.in_ok-header.header.e_entry) (sym c.deref.ensures.value) ∙ sym c.if-not-has_entry.ensures)
