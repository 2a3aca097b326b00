-- The examples, by computing them.
use Rattle.std.proofs.Common.{refl}
use Rattle.il_ast.specs.Prelude.{load, store, copy, operate_one, operate_two, Logged}
use Rattle.vcode.specs.Prelude.{operate, loaded, line_step, jump_step, step, Examples}

pub examples : Examples
unfolding load store copy operate_one operate_two Logged operate loaded line_step jump_step step
examples =
    record {
      sums = (refl, refl);
      out_of_turns = (refl, refl);
      out_of_the_last = (refl, refl);
      word_is_extended = (refl, refl);
      word_is_read = (refl, refl);
      long_is_cut = (refl, refl);
      low_bits_decide = (refl, refl);
      nonzero = (refl, refl);
      claim_holds = refl;
      claim_fails = refl;
      long_claims_nothing = refl;
      calls_and_adds = (refl, (refl, refl));
      caller_forgets = (refl, (refl, refl));
      result_is_missing = (refl, (refl, refl));
      ends_in_the_call = (refl, (refl, refl));
      turns_end_after_it = (refl, (refl, refl));
      callee_keeps_x9 = (refl, (refl, refl));
      callee_keeps_x18 = (refl, (refl, refl));
      callee_changes_x5 = (refl, (refl, refl));
      callee_changes_x17 = (refl, (refl, refl));
      callee_changes_x28 = (refl, (refl, refl));
      virtual_is_kept = (refl, (refl, refl));
      loaded_word = (refl, refl);
      loaded_byte = (refl, refl);
      loaded_beyond = (refl, refl);
      loaded_before = (refl, refl);
      beyond_the_end = (refl, refl);
      made_unnamed = (refl, refl);
      unnamed_takes_16 = refl;
      pointer_is_kept = (refl, refl);
      pointers_compare = (refl, refl);
      words_compare = (refl, refl);
      unknown_is_copied = (refl, refl);
      unknown_is_not_returned = (refl, refl);
      nothing_is_not_asked = (refl, refl);
      nothing_is_not_returned = (refl, refl);
      weight_alone = (refl, refl);
      halt_ends = (refl, refl);
      nowhere = (refl, refl);
      sum_is_regular = record { few_params = refl; inside = refl; first = refl; small = refl; paid = refl; paced = refl; few_args = refl };
      sum_names_two = refl;
      one_is_too_few = refl;
      caller_names_places = refl;
      scratch_is_no_place = refl;
      memory_takes_16 = refl;
      callers = refl;
      callees = refl;
      to_the_first = refl;
      to_the_second = refl;
      past_the_last = refl;
      blocks_of_memory = refl;
      too_dear = refl;
      paid = refl;
      paid_too_late = refl;
      far_parameter = refl;
      near_parameter = refl;
      one_place_for_two = refl;
    }
