use Rattle.std.proofs.Common.{◌≡◌, []}
use Rattle.qbec.proofs.TextLemmas.{TextsSoFar, bytes_of}
use Rattle.commands.specs.Verdicts.{AreTrue}
use Rattle.commands.proofs.Judging.{FirstTold}
use Rattle.commands.proofs.verdict.judge.Given as goal

abbrev pub invariant-loop-k : goal.invariant-loop-k
invariant-loop-k l = record {
  are : AreTrue (bytes_of l.texts) l.findings.items;
  told : FirstTold (bytes_of l.texts) l.k l.findings.items;
  so_far : l.findings.items ≡ [] → TextsSoFar l.texts l.k l.checked.items;
}
