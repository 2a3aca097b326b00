use Rattle.std.proofs.Common.{◌≡◌, ℕ, ◌*◌, ◌-◌, ◌/◌, ◌%◌, ◌^◌, ◌<◌, length, get_or, false}
use Rattle.std.specs.Fmt.{digit_glyph}
use Rattle.shell.proofs.digits.sixteen_digits.Given as goal

abbrev pub invariant-loop-place : goal.invariant-loop-place
invariant-loop-place l =
    (length l.digits ≡ 16) × ((k : ℕ) → k < l.place → get_or l.digits k 0 ≡ digit_glyph false (l.number / 2 ^ (60 - 4 * k) % 16))
