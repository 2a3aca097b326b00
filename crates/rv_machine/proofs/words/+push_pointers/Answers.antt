use Rattle.std.proofs.Common.{arith}
use Rattle.std.proofs.lemmas.Grind.{common_steps}
use Rattle.rv_machine.proofs.words.+push_pointers.Goals as goal

pub returns-in_err-extend_from_slice-in-len1-up : goal.returns-in_err-extend_from_slice-in-len1-up
returns-in_err-extend_from_slice-in-len1-up c = grind (arith, common_steps)

pub slice_bounds-rest-count : goal.slice_bounds-rest-count
slice_bounds-rest-count c = grind (arith, common_steps)

pub slice_bounds-extend_from_slice-end : goal.slice_bounds-extend_from_slice-end
slice_bounds-extend_from_slice-end c = grind (arith, common_steps)
