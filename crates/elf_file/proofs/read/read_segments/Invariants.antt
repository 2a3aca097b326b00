use Rattle.std.proofs.Common.{◌≡◌, ◌≤◌}
use Rattle.obj_link.specs.Prelude.{code_start}
use Rattle.elf_file.specs.Conditions.{MapsAll, lowest}
use Rattle.elf_file.proofs.read.read_segments.Given as goal

abbrev pub invariant-loop-k : goal.invariant-loop-k
invariant-loop-k l = MapsAll l.file l.k l.segments.items × (l.low ≡ lowest l.file l.k) × (code_start ≤ l.low)
