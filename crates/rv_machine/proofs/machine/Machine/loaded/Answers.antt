-- What the memory answered at once may be read.
use Rattle.std.proofs.Common.{ap, sym}
use Rattle.rv_isa.specs.Prelude.{load_size}
use Rattle.rv_machine.specs.Entries.{view}
use Rattle.rv_machine.proofs.AtOnce.{may_read}
use Rattle.rv_machine.proofs.machine.Machine.loaded.Goals as goal

pub returns-in-Ld-clause-may : goal.returns-in-Ld-clause-may
returns-in-Ld-clause-may g c = may_read (view g.R.Ram c.args.self.now) c.args.op c.args.at 8 c.load-in-Ld.result (sym (ap load_size c.in-Ld.is)) c.load-in-Ld.ensures

pub returns-in-Lbu-clause-may : goal.returns-in-Lbu-clause-may
returns-in-Lbu-clause-may g c = may_read (view g.R.Ram c.args.self.now) c.args.op c.args.at 1 c.load-in-Lbu.result (sym (ap load_size c.in-Lbu.is)) c.load-in-Lbu.ensures

pub returns-in-Lhu-clause-may : goal.returns-in-Lhu-clause-may
returns-in-Lhu-clause-may g c = may_read (view g.R.Ram c.args.self.now) c.args.op c.args.at 2 c.load-in-Lhu.result (sym (ap load_size c.in-Lhu.is)) c.load-in-Lhu.ensures

pub returns-in-Lwu-clause-may : goal.returns-in-Lwu-clause-may
returns-in-Lwu-clause-may g c = may_read (view g.R.Ram c.args.self.now) c.args.op c.args.at 4 c.load-in-Lwu.result (sym (ap load_size c.in-Lwu.is)) c.load-in-Lwu.ensures
