use Rattle.std.proofs.Common.{◌∙◌}
use Rattle.commands.proofs.tell.tell_fault.Goals as goal

pub returns : goal.returns
returns g c =
    let number = c.as_bytes.ensures.value ∙ c.format-number.ensures.text in
    rw (← number, ← c.sixteen_digits-digits.ensures) c.tell_parts.ensures
