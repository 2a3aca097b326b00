use Rattle.std.proofs.Common.{◌∙◌, ap}
use Rattle.abi_frames.specs.Performs.{is_marked}
use Rattle.abi_frames.proofs.Marking.{unmarked}
use Rattle.abi_frames.proofs.saved.push_written.Goals as goal

pub push_by_marks-requires-clause-none : goal.push_by_marks-requires-clause-none
push_by_marks-requires-clause-none c = λ n low. ap (λ marks. is_marked marks n) c.as_mut_slice.ensures.value ∙ unmarked 32 n
