use Rattle.std.proofs.Common.{◌++◌, map}
use Rattle.il_ast.specs.declared.value.Cell.TheVariants.{Plain}
use Rattle.il_ast.specs.Prelude.{bytes_of}
use Rattle.il_interp.proofs.StartLemmas.{number_next}
use Rattle.il_interp.proofs.object.push_number.Goals as goal

pub loop-done-preserved : goal.loop-done-preserved
loop-done-preserved c =
    number_next c.args.count c.loop-done._done c.loop-done.rest c.loop-done.block c.push.new.self
    (c.args.block.now ++ map Plain (bytes_of c.args.count c.args.number)) c.loop-done-test.true c.loop-done.invariant c.in_ok-push.ensures
