-- The definitions that the code, proofs and crates above cite, passed on from one place. Declares nothing.
pub use Rattle.il_reader.specs.Answers.{IsTree, NamesLine}
pub use Rattle.il_reader.specs.Blocks.{Lines, alloc_to, assigned, assignment, before_lines, binary_to, block, body, called, effect, is_jump, lines, operation_of, sees_statement, statement, unary_to, with_inst, with_phi}
pub use Rattle.il_reader.specs.Definitions.{DefinitionParts, FunctionOf, FunctionParts, IsFound, ObjectOf, TextParts, address, aligned, alignment, between, blocks, definition, definition_parts, definitions, exporting, field, fields, function, function_body, function_head, function_names, function_params, function_parts, is_end, is_item, is_plus, is_quoted, item, items, newlines, object, object_head, offset, parameter, parameters, spaced, text_parts, text_step, whole, zeros}
pub use Rattle.il_reader.specs.Examples.{Examples, data_tree, empty_tree, falls_tree, loop_tree, table_tree}
pub use Rattle.il_reader.specs.Gives.{Gives, appended, definition_list, fallen, falling_blocks, fell, next_fallen, one_line, parts_of, passed, pushed, some, to_the_end, whole_text, with_line, with_lines}
pub use Rattle.il_reader.specs.Grammar.{phi}
pub use Rattle.il_reader.specs.Keys.{key_bytes}
pub use Rattle.il_reader.specs.Laws.{OneTree}
pub use Rattle.il_reader.specs.Reading.{alloc_of, argument, arguments, binary_of, blit, branch, class, class_of, comma, destination, goto, is_comma, is_label, is_newline, is_number, is_temp, is_text, is_value, is_word, jump, line_ends, lined, on_line, phi_argument, returning, sees_word, size_of, store_of, storing, unary_of, value}
pub use Rattle.il_reader.specs.Reads.{Reads, falling, jump_to}
pub use Rattle.il_reader.specs.Rules.{many}
pub use Rattle.il_reader.specs.State.{State, place, start, with_name}
pub use Rattle.il_reader.specs.Steps.{Step, commas, give, integer, integer_test, keyword, kind_is, label, label_test, maybe, natural, natural_test, newline, newline_test, next, piece, piece_test, repeated, sees, separated, string, string_test, symbol, symbol_test, temp_test, word, word_test, ◌>>=◌, ◌>>◌}
pub use Rattle.il_reader.specs.Words.{alloc_word, binary_word, class_word, size_word, store_word, unary_word}
