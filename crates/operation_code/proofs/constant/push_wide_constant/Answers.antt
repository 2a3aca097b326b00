use Rattle.std.proofs.Common.{◌≡◌, sym, ◌∙◌, arith, false}
use Rattle.operation_code.specs.Constants.{is_word}
use Rattle.operation_code.proofs.Joining.{joined_as, long_is_wide}
use Rattle.operation_code.proofs.constant.push_wide_constant.Goals as goal

pub returns-in_ok-push_long_constant : goal.returns-in_ok-push_long_constant
returns-in_ok-push_long_constant c =
    let fits = c.ranges.number.fits in
    let long : is_word c.args.number ≡ false = sym c.is_word.ensures ∙ c.if-is_word.false in
    joined_as _ _ _ _ c.in_ok-push_long_constant.ensures (long_is_wide c.args.to c.args.number (omega (arith, fits)) long)
