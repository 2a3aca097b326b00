use Rattle.std.proofs.Common.{◌≡◌, ℕ, drop, nat_eq, nat_lt, ◌||◌, ◌&&◌}
use Rattle.std.specs.List.{list_any}
use Rattle.bitset.specs.Bits.{is_member}
use Rattle.cfg_live.proofs.flow.take_in_all.Given as goal

abbrev pub invariant-loop-register : goal.invariant-loop-register
invariant-loop-register l =
    (l.set.length ≡ l.fn.set.length)
    × ((r : ℕ)
    → (is_member l.set r || (nat_lt r l.fn.set.length && list_any (λ k. nat_eq k r) (drop l.register-index l.registers)))
    ≡ (is_member l.fn.set r || (nat_lt r l.fn.set.length && list_any (λ k. nat_eq k r) l.fn.registers)))
