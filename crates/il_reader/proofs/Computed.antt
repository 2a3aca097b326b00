-- The examples, by computing them.
use Rattle.std.proofs.Common.{refl}
use Rattle.il_lex.specs.Scan.{item, string_bytes, natural, name, negative, quoted, lexeme, symbol_of, comment, scan_from, scan}
use Rattle.il_reader.specs.Prelude.{Examples, empty_tree, data_tree, table_tree, falls_tree, loop_tree}
use Rattle.il_reader.proofs.ExactTexts.{text_sound, none_read}

pub examples : Examples
unfolding item string_bytes natural name negative quoted lexeme symbol_of comment scan_from scan
examples =
    record {
      empty = text_sound _ empty_tree refl;
      data_is_read = text_sound _ data_tree refl;
      table_is_read = text_sound _ table_tree refl;
      falls_is_read = text_sound _ falls_tree refl;
      loop_is_read = text_sound _ loop_tree refl;
      no_field = none_read _ refl;
      no_item = none_read _ refl;
      two_commas = none_read _ refl;
      longer_word = none_read _ refl;
      no_block = none_read _ refl;
      label_behind_brace = none_read _ refl;
      late_phi = none_read _ refl;
      behind_the_jump = none_read _ refl;
      one_line = none_read _ refl;
      no_token = none_read _ refl;
    }
