use Rattle.operation_code.proofs.Joining.{joined_4}
use Rattle.operation_code.proofs.constant.push_parted_constant.Goals as goal

pub returns : goal.returns
returns c =
    joined_4 _ _ _ _ _ _ _ _ _ c.in_ok-push_top.ensures c.in_ok-push_part.ensures c.in_ok-push_part-2.ensures c.in_ok-push_part-3.ensures
