-- The definitions that the code, proofs and crates above cite, passed on from one place. Declares nothing.
pub use Rattle.il_types.specs.Arguments.{are_all_distinct, are_distinct}
pub use Rattle.il_types.specs.Capped.{capped}
pub use Rattle.il_types.specs.Covering.{are_all_named, are_args_right, covers_by, first_uncovered_by, predecessor_in, predecessors_of, row, uncovered_by}
pub use Rattle.il_types.specs.Faults.{definition_fault, fault_at, fault_or, first_fault, function_fault, object_fault}
unfoldable pub use Rattle.il_types.specs.Faults.{label_fault, size_fault, temp_fault, text_fault}
pub use Rattle.il_types.specs.First.{first, or_else, when}
pub use Rattle.il_types.specs.LabelBlocks.{place_in}
pub use Rattle.il_types.specs.Locals.{block_without_jump, breaks_in, covers, first_repeated, fits, fits_result, goes_to, has_wrong_result, has_wrong_size, in_insts, in_returns, is_alloc, is_defined, is_entry, is_label, is_long_blit, is_long_only, is_predecessor, is_word, jump_to_entry, jumps_to, label_sites, long_blit, misplaced, names_from, param_sites, phi_sites, repeated_local, returned_breaks, times, two_types, uncovered_in, uncovered_phi, undefined_temp, unknown_label, value_returned, wrong_alloc, wrong_alloc_in, wrong_return}
pub use Rattle.il_types.specs.Marks.{is_given, marked}
pub use Rattle.il_types.specs.Parts.{insts_alloc, insts_weight, phis_weight}
pub use Rattle.il_types.specs.Refusals.{Refuses}
pub use Rattle.il_types.specs.RuleNumber.{rule_number}
pub use Rattle.il_types.specs.Rules.{IsGood, broken, broken_in, broken_in_function, broken_in_object, definition_site, definition_within, global_sites, has_bytes, has_few_args, has_misfit, is_alignment, is_misfit, is_within, repeated_global, takes_bytes, within_limits, wrong_alignment, wrong_fields}
pub use Rattle.il_types.specs.Sites.{arg_operands, block_definers, block_operands, block_targets, definer, definers_of, end_operands, end_sites, inst_definers, inst_operands, item_definers, item_operands, jump_operands, jump_sites, operand_at, operands_of, param_definers, phi_definers, phi_operands, phi_sources, sources_in, sources_of, targets_of}
pub use Rattle.il_types.specs.Tables.{result_takes, returned_at, returned_misfit, returned_undefined, value_fits, value_is_defined}
pub use Rattle.il_types.specs.Tally.{NothingNamed, is_again, is_never, is_once, named, often, once_more, times_in}
