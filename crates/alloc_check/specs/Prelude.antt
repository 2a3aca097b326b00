-- The definitions that the code, proofs and crates above cite, passed on from one place. Declares nothing.
pub use Rattle.alloc_check.specs.Slotted.{end_point, equalities_exist, exists_in, has_lengths, is_accepted, is_placed, is_whole, names_once, EachHasOnePlace, OneMoveIsPaid, SlotsAreAccepted, SoundKeeps, SpillAllIsAccepted, blocks_named, lines_named, BlocksWant, IsSlotted, LinesWant, Wanted, blocks_own, is_empty, is_own, lines_own, names, own_at, start_wanted, targets_wanted, writes_to}
pub use Rattle.alloc_check.specs.Certified.{begins_at, blocks_right, certified_block, certified_blocks, certified_lines, certified_params, entry_right, is_param, is_sound, jump_point, jump_right, layout_at, lines_right, moves_at, next_point, own_params, params_placed, place_by, placed_by, places_at, starts_at, transfers, Agrees, Owners, after_line, all_hold, are_apart, args_held, is_at, known, moved, nobody, nowhere, operand_held, other_than, own_also, own_kept, own_move, own_put, owns, received, stand_also, standing, where_held}
pub use Rattle.alloc_check.specs.Kept.{RunsAlike}
pub use Rattle.alloc_check.specs.Walk.{Forgotten, HasRoom, IsFirst, IsTable, Rewrites, cell_at, counted, counts, first_at, forgets, in_table, item, latest, own_by, own_of, stands_at, after_reads, also_in, block_in, block_stays, blocks_in, bounded, certified_line, entry_holds, entry_in, jump_in, known_in, line_in, line_stays, lines_in, lines_stay, machine_stays, makes_in, move_in, moved_in, moves_before, moves_stay, owner_put, place_stays, point_in, put_in, receives_in, register_stays, sound_in, starts_stay, targets_in, write_stays}
pub use Rattle.alloc_check.specs.Placed.{Layout, in_slots, placed_address, placed_argument, placed_block, placed_comparison, placed_destination, placed_jump, placed_line, placed_operand, placed_returned}
