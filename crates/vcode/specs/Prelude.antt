-- The definitions that the code, proofs and crates above cite, passed on from one place. Declares nothing.
pub use Rattle.vcode.specs.Rewrites.{Act, Answers, Asks, Enters, Fails, Gives, Halts, Leaves, Lost, Makes, Spends, Way, act, answering, asked, entering, given, left, way, written, Alike, Arrives, BehindCall, Both, Come, DoAlike, FirstOn, Follows, Gone, Jumps, LeadAlike, Less, MayCome, MayGo, OnlyGives, SecondOn, Rewrites, classes_in, coded, location_code, virtual_code, Claims, Becomes, with_these, line_writes, place_of}
pub use Rattle.vcode.specs.Addresses.{at_once, beyond, distance, low}
pub use Rattle.vcode.specs.Cost.{affords, branch_cost, is_immediate, is_paid, jump_cost, line_cost, operand_cost, operation_cost, place_cost}
pub use Rattle.vcode.specs.ExampleCodes.{block, code, destination, returned, straight}
pub use Rattle.vcode.specs.Examples.{Examples}
pub use Rattle.vcode.specs.InPlace.{GoesSo, HasRoom, IsCheaper, KeepsIn, KeepsRuns, RunsAs}
pub use Rattle.vcode.specs.Laws.{PassesCompose, PlacingStays, VirtualPassesStay, WordsAreRead}
pub use Rattle.vcode.specs.Named.{are_distinct, are_low, are_near, block_keeps, is_below, is_near, is_place, jump_keeps, keeps_places, line_keeps, made_keeps, operand_keeps, wanted_keeps}
pub use Rattle.vcode.specs.Operations.{extended, held, is_extended, narrowed, passed, reg_on_places, stands_extended}
unfoldable pub use Rattle.vcode.specs.Operations.{loaded, operate}
pub use Rattle.vcode.specs.Outgoing.{args_on_stack, frame_bound, most_in_blocks, most_in_lines, outgoing}
pub use Rattle.vcode.specs.Places.{Places, Values, assign, is_callers, kept, located, put, same_location, unknown, virtual}
pub use Rattle.vcode.specs.Regular.{IsRegular, alloc_bytes, allocs_first, area, code_weight, is_alloc, is_target, leads_inside, passes_few, turns_of, weight_of}
pub use Rattle.vcode.specs.Replaced.{Replacing, with_argument, with_base, with_comparison, with_jump, with_line, with_returned}
pub use Rattle.vcode.specs.Spent.{spent}
pub use Rattle.vcode.specs.Step.{State, address_of, begin, block_step, bound, branches, calls, changes, compared, enters, fails, goes_on, made_in, operated, read, read_all, read_argument, read_result, receives, resumes, returns, sets, step_in, takes, ticks, value_of, weighs}
unfoldable pub use Rattle.vcode.specs.Step.{jump_step, line_step, step}
pub use Rattle.vcode.specs.Types.{Address, Alloc, Argument, At, Blit, Block, Branch, Call, Code, Compare, Destination, Goto, Halt, Jump, Line, Load, Name, Number, Operand, Operate, PLACES, Reg, Return, Set, Store, Tick, VFunc}
