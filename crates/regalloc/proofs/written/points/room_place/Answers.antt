use Rattle.std.proofs.Common.{rules}
use Rattle.regalloc.proofs.written.points.room_place.Goals as goal

pub machine_register-requires : goal.machine_register-requires
machine_register-requires c = search rules
