-- The examples, by computing them.
use Rattle.std.proofs.Common.{refl}
use Rattle.il_ast.specs.Prelude.{load, store, copy, operate_one, operate_two, inst_effect, effect, run, callees, outcome, meaning, Examples}

pub examples : Examples
unfolding load store copy operate_one operate_two inst_effect effect run callees outcome meaning
examples =
    record {
      sum_in_402_turns = refl;
      sum_in_401_turns = refl;
      sum_weighs = refl;
      sum_costs = refl;
      phis_exchange = refl;
      words_wrap = refl;
      ten_arguments = refl;
      need_of_ten = refl;
      pointer_is_kept = refl;
      part_has_no_value = refl;
      thousand_deep = refl;
      thousand_deep_less = refl;
      need_of_down = refl;
      need_of_down_main = refl;
      room_ends = refl;
      greeting = refl;
      greeting_costs = refl;
      other_descriptor = refl;
      output_before_the_end = refl;
      exit_is_modulo_256 = refl;
      whole_blit = refl;
      half_blit = refl;
      blit_weighs = refl;
      blit_needs = refl;
      two_data_differ = refl;
      not_at_the_end = refl;
      words_are_read = refl;
      read_too_early = refl;
      halt_ends = refl;
      halt_is_a_turn = refl;
      result_is_missing = refl;
      quotient_toward_zero = refl;
      remainder_has_the_sign = refl;
      least_over_minus_one = refl;
      by_zero = refl;
      unsigned_remainder = refl;
      shift_is_modulo_32 = refl;
      sign_is_copied = refl;
    }
