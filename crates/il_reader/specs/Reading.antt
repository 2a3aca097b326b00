-- The rules up to jumps, and what stands on lines of its own, as functions of the state.
pub use Rattle.il_reader.specs.Operands.{word_in, table, class_of, size_of, unary_of, compared, binary_of, alloc_of, store_of, class, is_number, is_temp, value, comma, destination, argument, phi_argument, word_is, ahead_is, sees_word, is_value, storing, blit, goto, branch, returning, halt, is_text, jump, is_word, is_comma, arguments}
pub use Rattle.il_reader.specs.Statements.{is_label, line, lined, is_newline, line_ends, on_line}
