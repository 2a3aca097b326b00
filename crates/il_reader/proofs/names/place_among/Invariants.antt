use Rattle.std.proofs.Common.{◌≡◌, ◌+◌, drop, map}
use Rattle.il_reader.specs.Prelude.{key_bytes, place}
use Rattle.il_reader.proofs.names.place_among.Given as goal

abbrev pub invariant-loop-k : goal.invariant-loop-k
invariant-loop-k l = l.k + place l.name (map key_bytes (drop l.k l.names)) ≡ place l.name (map key_bytes l.names)
