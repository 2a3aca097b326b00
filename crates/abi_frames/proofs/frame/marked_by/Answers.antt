use Rattle.std.proofs.Common.{arith}
use Rattle.frame_ways.proofs.Suiting.{no_area}
use Rattle.abi_frames.proofs.Outgoing.{few_passed}
use Rattle.abi_frames.proofs.frame.marked_by.Goals as goal

pub layout_of-shared-requires-clause-few : goal.layout_of-shared-requires-clause-few
layout_of-shared-requires-clause-few c = few_passed c.args.marked.now.code c.requires.made.marked.few_args

pub layout_of-shared-requires-clause-small : goal.layout_of-shared-requires-clause-small
layout_of-shared-requires-clause-small c = let none = no_area c.args.marked.now.code.blocks c.requires.made.marked.none_made in omega (arith, none)

pub layout_of-shared-requires-clause-paced : goal.layout_of-shared-requires-clause-paced
layout_of-shared-requires-clause-paced c = c.requires.made.marked.paced
