use Rattle.std.proofs.Common.{ℕ, List, Bor, map, take}
use Rattle.std.specs.List.{concat}
use Rattle.shell.specs.Sink.{Sends}
use Rattle.shell.proofs.write_exe.write_parts.Given as goal

abbrev pub invariant-loop-part : goal.invariant-loop-part
invariant-loop-part g l = Sends (g.S.Sink.told l.fn.out) (g.S.Sink.told l.out) (concat (map (λ (p : Bor (List ℕ)). p.now) (take l.part-index l.parts)))
