use Rattle.std.proofs.Common.{map, subst, ◌∙◌, ap, string_bytes}
use Rattle.std.specs.List.{concat}
use Rattle.shell.specs.Sink.{Tells}
use Rattle.commands.proofs.check.show_verdict.Goals as goal

pub returns-clause-shows : goal.returns-clause-shows
returns-clause-shows g c = record {
  verdict = c.in_ok-verdict.verdict;
  is = c.in_ok-verdict.ensures;
  told = subst (λ bytes. Tells (g.E.Sink.told c.args.err.now) (g.E.Sink.told c.tell_lines.new.err) bytes) (ap concat (ap (map string_bytes) c.as_slice.ensures.value ∙ c.in_ok-lines.ensures)) c.tell_lines.ensures;
  tells = c.status.ensures;
}
