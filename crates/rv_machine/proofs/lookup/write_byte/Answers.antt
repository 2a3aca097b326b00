use Rattle.std.proofs.Common.{ap, ◌∙◌}
use Rattle.rv_isa.specs.Prelude.{stored}
use Rattle.rv_machine.specs.Regions.{region_byte}
use Rattle.rv_machine.proofs.WholeLemmas.{stored-byte}
use Rattle.rv_machine.proofs.lookup.write_byte.Goals as goal

pub returns-in-Some-clause-bytes : goal.returns-in-Some-clause-bytes
returns-in-Some-clause-bytes c =
    c.write_in.ensures.bytes ∙ ap (stored (region_byte c.args.regions.now) c.args.at 1) c.from.ensures ∙ stored-byte (region_byte c.args.regions.now) c.args.at c.args.byte c.ranges.byte.fits
