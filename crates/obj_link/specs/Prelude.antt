-- The definitions that the code, proofs and crates above cite, passed on from one place. Declares nothing.
pub use Rattle.obj_link.specs.Arguments.{WORDS, WORD_BYTES, are_arguments, hold_no_zero}
pub use Rattle.obj_link.specs.Placed.{address_bytes, field_bytes, item_bytes, slot_bytes, IsImageOf, StandFrom, callee_address, cell_byte, object_addresses, object_bytes, value_number, AreCodes, EveryCode, FitsBelow, addresses_of, calls_reach, code_of, contents_of, function_addresses, functions_end, functions_reach, functions_words, meaning, name_address, objects_end, objects_start, target_address, AtMostOneProgram, HasWhatNamesMean, IsThere, ProgramsExportMain, ProgramsFit, ProgramsHaveWhatNamesMean}
pub use Rattle.obj_link.specs.Image.{Contents, IsImage, code_size, code_start, data_start, exit_address, functions_start, image_end, round_to_page, write_address}
unfoldable pub use Rattle.obj_link.specs.Placed.{in_slots}
pub use Rattle.obj_link.specs.Joined.{IsJoined, RefusesJoined, meaning_by}
pub use Rattle.obj_link.specs.Limits.{field_size, item_size, object_size, total_size, total_weight, within_limits}
pub use Rattle.obj_link.specs.Linked.{program_with}
pub use Rattle.obj_link.specs.Main.{ExportsMain, IsMain, gives_word, is_main, main_at, main_in, main_of, takes_words}
pub use Rattle.obj_link.specs.Names.{IsUnknown, exported, function_in, functions_from, functions_of, is_export, is_own, meaning_of, names_of, names_of_functions, names_of_objects, object_in, objects_from, objects_of, own, predefined, symbol_at, symbol_in, symbol_name, symbols_by, targets_by, targets_of, times_exported, visible}
pub use Rattle.obj_link.specs.Natives.{exit_words, jump_to, load_double, start_words, write_words}
pub use Rattle.obj_link.specs.Program.{IsProgram}
pub use Rattle.obj_link.specs.ProgramOf.{IsLinked, program}
pub use Rattle.obj_link.specs.Refusals.{Refuses, RefusesExports, RefusesNames, RefusesSymbols}
pub use Rattle.obj_link.specs.Shown.{shown}
pub use Rattle.obj_link.specs.Tables.{held, is_free, meaning_in, seen}
