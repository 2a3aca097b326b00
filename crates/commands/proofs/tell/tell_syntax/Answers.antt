use Rattle.std.proofs.Common.{◌∙◌}
use Rattle.commands.proofs.tell.tell_syntax.Goals as goal

pub returns : goal.returns
returns g c =
    let text = c.as_bytes.ensures.value ∙ c.format.ensures.text in
    let line = c.as_bytes-2.ensures.value ∙ c.format-2.ensures.text in
    rw (← text, ← line) c.tell_parts.ensures
