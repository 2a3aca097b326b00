use Rattle.std.proofs.Common.{◌≡◌, ℕ, List, Bor, map, take, string_bytes}
use Rattle.commands.specs.Verdicts.{warning_line}
use Rattle.commands.proofs.verdict_lines.warning_lines.Given as goal

abbrev pub invariant-loop-note : goal.invariant-loop-note
invariant-loop-note l = map string_bytes l.lines.items ≡ map (warning_line (map (λ (p : Bor (List ℕ)). p.now) l.paths)) (take l.note-index l.notes)
