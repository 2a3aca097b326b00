use Rattle.std.proofs.Common.{◌∙◌}
use Rattle.commands.proofs.tell.tell_rule.Goals as goal

pub returns : goal.returns
returns g c =
    let rule = c.as_bytes.ensures.value ∙ c.format.ensures.text in
    let text = c.as_bytes-2.ensures.value ∙ c.format-2.ensures.text in
    let line = c.as_bytes-3.ensures.value ∙ c.format-3.ensures.text in
    rw (← rule, ← text, ← line) c.tell_parts.ensures
