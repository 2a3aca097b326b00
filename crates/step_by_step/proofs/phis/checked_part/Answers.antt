use Rattle.phi_copies.proofs.GoodTexts.{good_function}
use Rattle.step_by_step.proofs.phis.checked_part.Goals as goal

pub part_of-requires : goal.part_of-requires
part_of-requires c =
    let text = c.in-Ok.checked.text in
    good_function text c.in-Ok.checked.good 0 c.in-Some.function.now c.in-Some.ensures
