use Rattle.std.proofs.Common.{◌≡◌, ℕ, List, Bor, map, take}
use Rattle.commands.specs.Parts.{AllHold}
use Rattle.commands.proofs.files.read_all.Given as goal

abbrev pub invariant-loop-path : goal.invariant-loop-path
invariant-loop-path g l = record {
  held : AllHold (g.D.Disk.told l.fn.disk).files (map (λ (p : Bor (List ℕ)). p.now) (take l.path-index l.paths)) (map (λ t. t.items) l.texts.items);
  same : g.D.Disk.told l.disk ≡ g.D.Disk.told l.fn.disk;
}
