use Rattle.std.proofs.Common.{◌≡◌, take, map}
use Rattle.il_reader.specs.Prelude.{key_bytes}
use Rattle.il_reader.proofs.names.copied.Given as goal

abbrev pub invariant-loop-name : goal.invariant-loop-name
invariant-loop-name l = l.copies ≡ map key_bytes (take l.name-index l.names)
