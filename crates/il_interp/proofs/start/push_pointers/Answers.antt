use Rattle.std.proofs.Common.{◌++◌}
use Rattle.il_ast.specs.Prelude.{pointers_from}
use Rattle.il_interp.proofs.StartLemmas.{pointers_next}
use Rattle.il_interp.proofs.start.push_pointers.Goals as goal

pub loop-number-preserved : goal.loop-number-preserved
loop-number-preserved c =
    pointers_next c.args.first c.args.count c.loop-number.number c.loop-number.block c.push_parts.new.block
    (c.args.block.now ++ pointers_from c.args.first c.args.count) c.loop-number-test.true c.loop-number.invariant c.in_ok-push_parts.ensures
