use Rattle.std.proofs.Common.{◌≡◌, ℕ, List, Bor, map, take, string_bytes}
use Rattle.commands.specs.Verdicts.{error_line}
use Rattle.commands.proofs.verdict_lines.error_lines.Given as goal

abbrev pub invariant-loop-finding : goal.invariant-loop-finding
invariant-loop-finding l = map string_bytes l.lines.items ≡ map (error_line (map (λ (p : Bor (List ℕ)). p.now) l.paths)) (take l.finding-index l.findings)
