use Rattle.std.proofs.Common.{arith, vec_len}
use Rattle.rv_machine.proofs.RegionLemmas.{index-filled}
use Rattle.rv_machine.proofs.regions.filled.Goals as goal

pub returns-clause-bytes : goal.returns-clause-bytes
returns-clause-bytes c =
    index-filled c.in_ok-filled.filled.items c.extend_from_slice.new.self.items c.resize.new.self.items c.args.bytes.now c.max-all.result (vec_len c.extend_from_slice.new.self) c.in_ok-filled.ensures.items c.in_ok-extend_from_slice.ensures.items (omega (arith, c.max-all.ensures)) c.in_ok-resize.ensures.items
