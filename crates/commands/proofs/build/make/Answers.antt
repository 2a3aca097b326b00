use Rattle.std.proofs.Common.{ℕ, List, Bor, map}
use Rattle.commands.proofs.Making.{made, making_fails}
use Rattle.commands.proofs.build.make.Goals as goal

pub returns-clause-made : goal.returns-clause-made
returns-clause-made g c =
    made (g.D.Disk.told c.args.disk.now) (g.D.Disk.told c.put_compiled.new.disk) (map (λ (t : Bor (List ℕ)). t.now) c.args.texts.now) c.args.out.now c.compile-compiled.result c.put_compiled.result
    c.compile-compiled.ensures.file c.put_compiled.ensures.refused c.put_compiled.ensures.written

pub returns-clause-fails : goal.returns-clause-fails
returns-clause-fails g c =
    making_fails (g.D.Disk.told c.args.disk.now) (g.D.Disk.told c.put_compiled.new.disk) (map (λ (t : Bor (List ℕ)). t.now) c.args.texts.now) c.args.out c.compile-compiled.result c.put_compiled.result
    c.compile-compiled.ensures.file c.compile-compiled.ensures.refused c.put_compiled.ensures.refused c.put_compiled.ensures.fault
