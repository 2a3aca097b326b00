-- Addresses of memory: a base, and a distance from it in bytes.
use Rattle.std.specs.Prelude.{ℕ, ◌%◌}
use Rattle.std.proofs.Common.{lit<, mod-lt}
use Rattle.rv_isa.specs.Prelude.{widened, signed, signed12_fits}
use Rattle.rv_isa.specs.declared.ranges.Immediate.{Immediate}
use Rattle.vcode.specs.Types.{Operand, Address}

-- the low 12 bits, read with a sign
abbrev pub low : ℕ → Immediate
low n = record {
  value = signed 12 (n % 4096);
  in_range = signed12_fits (n % 4096) (mod-lt n (lit< tt));
}

-- the number modulo 2^64 that is added to the base
abbrev pub distance : {P : Type 0} → Address P → ℕ
distance at = widened at.offset.value

abbrev pub beyond : {P : Type 0} → Operand P → ℕ → Address P
beyond a n = record { base = a; offset = low n }

abbrev pub at_once : {P : Type 0} → Operand P → Address P
at_once a = beyond a 0
