use Rattle.cfg_live.specs.Rows.{holds}
use Rattle.certificates.specs.Listed.{slotted}
use Rattle.alloc_check.proofs.Slots.{slotted_accepted, slotted_code}
use Rattle.alloc_check.proofs.Spilled.{spilled}
use Rattle.alloc_check.proofs.laws.spill_all_is_accepted.Goals as goal

pub returns : goal.returns
returns c =
    λ v rows live. (slotted_accepted (holds rows) v (slotted v.code v.registers rows) (spilled v rows live), slotted_code (holds rows) v (slotted v.code v.registers rows) (spilled v rows live))
