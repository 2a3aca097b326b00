-- The definitions that the code, proofs and crates above cite, passed on from one place. Declares nothing.
pub use Rattle.il_ast.specs.Cost.{alloc_area, alloc_bytes, args_on_stack, block_weight, end_weight, inst_weight, largest_in, largest_of, need, phi_count, round_16, weight}
pub use Rattle.il_ast.specs.Effect.{Activation, Asks, Call, Done, Effect, Ends, Env, Fails, Goes, InstEffect, Locals, Returns, after_inst, all_operands, assign, assigned, blit_weight, branch_to, branched, call_effect, call_weight, calls_value, changed, end_effect, enter, enter_at, enter_place, entered, jump_effect, operand, phi_value, phi_values, place_of, return_value, returned, stored_class, turn_in, turn_of, value_at, with_phis}
unfoldable pub use Rattle.il_ast.specs.Effect.{effect, inst_effect}
pub use Rattle.il_ast.specs.ExamplePrograms.{halts}
pub use Rattle.il_ast.specs.Examples.{Examples}
pub use Rattle.il_ast.specs.Keeps.{AllGo, AreArgs, Asked, Body, Fine, Given, KeepsCode, KeepsMeaning, Log, Passes, Suits}
pub use Rattle.il_ast.specs.Laws.{DepthIsEnough, EndsStay, IsFailure, OutputComesFirst, OutputGrows, StillGoes, TurnsAreSpent}
pub use Rattle.il_ast.specs.Logged.{Calls, Does, Entry, Event, LoggedEvent, LoggedNext, Next, On, Over}
unfoldable pub use Rattle.il_ast.specs.Logged.{Logged}
pub use Rattle.il_ast.specs.Meaning.{Behaviour, answered, behaviour_of, call_fits, call_function, call_named, end_of, exit_call, main_args, main_call, main_classes, params_of, put_out, result_fits, same_classes, spent_of, stack_room, write_bytes, write_call, write_integer}
unfoldable pub use Rattle.il_ast.specs.Meaning.{callees, meaning, outcome}
pub use Rattle.il_ast.specs.Memory.{Memory, apart_or_same, are_parts_from, block_at, cells_at, cells_for, free, free_all, fresh, parts, plain_bytes, put, size_at, span, value_of, write_at}
unfoldable pub use Rattle.il_ast.specs.Memory.{copy, load, store}
pub use Rattle.il_ast.specs.Mentions.{are_distinct, come_after, labels_at_end, labels_in_block, labels_in_jump, labels_of, temps_at_end, temps_in_block, temps_in_destination, temps_in_inst, temps_in_jump, temps_in_phi, temps_in_value, temps_of}
pub use Rattle.il_ast.specs.Operations.{can_divide, compare_places, compare_pointers, compare_with_zero, extended, extension_bytes, holds, left_class, lies_in, on_functions, on_integers, on_offsets, on_places, operand_class, reaches, right_class, shift_amount, truth, where_different, widened}
unfoldable pub use Rattle.il_ast.specs.Operations.{operate_one, operate_two}
pub use Rattle.il_ast.specs.Passes.{Coded, IsCodeOf, Keeps, body_of, classes_of}
pub use Rattle.il_ast.specs.Run.{Callees, Ended, Outcome, Rest, Returned, Spent, after, begun, body, both, nothing, one_call, one_turn, perform, price, receive, resume, with_args}
unfoldable pub use Rattle.il_ast.specs.Run.{run}
pub use Rattle.il_ast.specs.Start.{address_cells, field_cells, globals_of, item_cells, list_cells, object_cells, pointers_from, start_memory, target_value, values_of, word_cells}
pub use Rattle.il_ast.specs.Symbols.{symbols_at_end, symbols_in_block, symbols_in_definition, symbols_in_field, symbols_in_inst, symbols_in_item, symbols_in_jump, symbols_in_phi, symbols_in_value, symbols_of}
pub use Rattle.il_ast.specs.Types.{Block, Branch, Callee, Class, Defined, Dest, End, Exit, Func, Function, Goto, Halt, InText, Inst, Integer, Jump, L, Lined, Param, Phi, Pointer, Program, Return, Stack, SystemExit, SystemWrite, Turns, Undefined, Val, Value, W}
pub use Rattle.il_ast.specs.Values.{byte_count, bytes_of, in_place, modulus, number_of, same_callee, same_class, same_value, signed, unsigned}
pub use Rattle.il_ast.specs.Written.{has_argument, has_block, have_arguments}
