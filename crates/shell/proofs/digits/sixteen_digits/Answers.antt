use Rattle.std.proofs.Common.{arith, ◌*◌, ◌-◌, ◌/◌, ◌%◌, ◌^◌, false, rules}
use Rattle.std.specs.Fmt.{digit_glyph}
use Rattle.std.proofs.lemmas.List.FromFn.{fill_by_all}
use Rattle.shell.specs.Digits.{sixteen_digits}
use Rattle.std.proofs.lemmas.Grind.{common_steps}
use Rattle.shell.proofs.digits.sixteen_digits.Goals as goal

pub returns : goal.returns
unfolding sixteen_digits
returns c = fill_by_all (λ k. digit_glyph false (c.args.number / 2 ^ (60 - 4 * k) % 16)) c.loop-place.digits 16 0 c.loop-place.invariant.0 (search rules)

pub loop-place-preserved : goal.loop-place-preserved
loop-place-preserved c = grind (arith, common_steps)
