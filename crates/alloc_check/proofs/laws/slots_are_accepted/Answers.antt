use Rattle.alloc_check.proofs.Slots.{slotted_accepted, slotted_code}
use Rattle.alloc_check.proofs.laws.slots_are_accepted.Goals as goal

pub returns : goal.returns
returns c = λ wanted v d is. (slotted_accepted wanted v d is, slotted_code wanted v d is)
