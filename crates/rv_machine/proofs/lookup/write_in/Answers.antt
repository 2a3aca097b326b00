use Rattle.rv_machine.specs.Width.{bytes_of}
use Rattle.rv_machine.proofs.WholeLemmas.{bytes-written, permission-written, full-written, written-whole}
use Rattle.rv_machine.proofs.lookup.write_in.Goals as goal

pub returns-clause-bytes : goal.returns-clause-bytes
returns-clause-bytes c =
    bytes-written c.args.at (bytes_of c.args.width) c.args.value c.args.k c.args.regions.now c.write_to.new.region c.requires
    (written-whole c.args.at (bytes_of c.args.width) c.args.value c.args.k c.args.regions.now c.index-regions-k.result c.write_to.new.region c.requires c.write_to.ensures)

pub returns-clause-permissions : goal.returns-clause-permissions
returns-clause-permissions c =
    permission-written c.args.at (bytes_of c.args.width) c.args.value c.args.k c.args.regions.now c.write_to.new.region c.requires
    (written-whole c.args.at (bytes_of c.args.width) c.args.value c.args.k c.args.regions.now c.index-regions-k.result c.write_to.new.region c.requires c.write_to.ensures)

pub returns-clause-full : goal.returns-clause-full
returns-clause-full c =
    full-written c.args.at (bytes_of c.args.width) c.args.value c.args.k c.args.regions.now c.write_to.new.region c.requires
    (written-whole c.args.at (bytes_of c.args.width) c.args.value c.args.k c.args.regions.now c.index-regions-k.result c.write_to.new.region c.requires c.write_to.ensures)
