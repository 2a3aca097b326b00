-- The examples, by computing them.
use Rattle.std.proofs.Common.{refl, lit<}
use Rattle.il_ast.specs.Prelude.{load, store, copy, Logged}
use Rattle.vcode.specs.Prelude.{operate, loaded, line_step, jump_step, step}
use Rattle.flat_code.specs.Step.{known_number, all_there, copied, computed, flat_line, flat_jump, flat_step}
use Rattle.flat_code.specs.Examples.{PremisesHold, Examples}

premises_hold : PremisesHold
unfolding load store copy Logged operate loaded line_step jump_step step
premises_hold =
    record {
      regular = record { few_params = refl; inside = refl; first = refl; small = refl; paid = refl; paced = refl; few_args = refl };
      entries = record { distinct = λ f g x h k. cc; small = λ f x h. cc };
      names = tt;
      shows = record {
        turns = refl;
        room = refl;
        args = tt;
        memory = record {
          placed = λ b cells h. cc;
          unmade = λ b h. refl;
          cells = λ b x k cells c h is got. cc;
          apart = λ b c x y xs ys differ h k is at some some2. cc;
          bytes = λ x n h. cc;
        };
        clear = λ x le lt. refl;
      };
      below_end = lit< tt;
      runs = (refl, refl);
    }

pub examples : Examples
unfolding known_number all_there copied computed flat_line flat_jump flat_step
examples =
    record {
      number_is_kept = refl;
      blank_is_not_read = refl;
      nothing_past_the_end = refl;
      low_byte_with_its_sign = refl;
      fresh_blocks_follow = refl;
      unknown_is_not_asked = refl;
      unknown_is_not_returned = refl;
      bytes_are_copied = refl;
      first_block_at_the_base = refl;
      name_has_an_address = refl;
      word_is_extended = refl;
      word_is_cut = refl;
      premises_hold = premises_hold;
    }
