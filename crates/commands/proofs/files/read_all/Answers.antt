use Rattle.std.proofs.Common.{◌∙◌, ap, inl}
use Rattle.std.proofs.lemmas.Result.{err_from_is_err_and}
use Rattle.shell.specs.Disk.{DiskState}
use Rattle.commands.proofs.Holding.{all_hold_next, missed}
use Rattle.commands.proofs.files.read_all.Goals as goal

pub loop-path-preserved : goal.loop-path-preserved
loop-path-preserved g c =
    let before = c.loop-path.invariant in
    let read = c.in_ok-bytes.ensures in
    record {
      held = all_hold_next _ _ c.args.paths.now c.loop-path.texts.items c.push.new.self.items c.loop-path.path-index _ c.in_ok-bytes.bytes (ap (λ (d : DiskState). d.files) before.same) c.loop-path-test.true c.in_ok-push.ensures.items before.held read.holds;
      same = read.same ∙ before.same;
    }

pub returns-in_err-bytes-clause-fails : goal.returns-in_err-bytes-clause-fails
returns-in_err-bytes-clause-fails g c =
    let before = c.loop-path.invariant in
    let p = err_from_is_err_and c.from_residual.result c.from_residual.ensures.1 in
    rw (p.1, p.2)
    (inl (missed (g.D.Disk.told c.args.disk.now) (g.D.Disk.told c.loop-path.disk) (g.D.Disk.told c.read.new.disk) c.args.paths.now _ c.loop-path.path-index _ _ before.same c.loop-path-test.true before.held c.in_err-bytes.ensures.fault))
