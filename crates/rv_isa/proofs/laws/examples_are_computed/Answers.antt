use Rattle.std.proofs.Common.{refl}
use Rattle.rv_isa.proofs.laws.examples_are_computed.Goals as goal

pub returns : goal.returns
returns c = record {
  division_by_zero = refl;
  remainder_by_zero = refl;
  overflowing_quotient = refl;
  overflowing_remainder = refl;
  word_division_by_zero = refl;
  word_remainder_by_zero = refl;
  overflowing_word_quotient = refl;
  overflowing_word_remainder = refl;
  division_toward_zero = refl;
  remainder_of_dividend = refl;
  high_of_signed = refl;
  high_of_signed_by_unsigned = refl;
  high_of_unsigned = refl;
  shift_by_65 = refl;
  word_shift_by_33 = refl;
  shift_right_signed = refl;
  word_sum = refl;
  below_immediate = refl;
  word_immediate = refl;
  loaded_byte = refl;
  loaded_unsigned_byte = refl;
  cleared_bit = refl;
}
