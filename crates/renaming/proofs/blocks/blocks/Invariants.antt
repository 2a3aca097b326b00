use Rattle.std.proofs.Common.{◌≡◌, ℕ, List, ◌++◌, drop}
use Rattle.vcode.specs.declared.code.Block.{Block}
use Rattle.renaming.specs.Renamed.{AllRenamed, owners_of}
use Rattle.renaming.proofs.blocks.blocks.Given as goal

abbrev pub invariant-loop-number : goal.invariant-loop-number
invariant-loop-number l =
    record {
      blocks : (rest : List (Block ℕ)) → AllRenamed (owners_of l.fn.names) l.plan.starts.items l.number (drop l.number l.from) rest
          → AllRenamed (owners_of l.fn.names) l.plan.starts.items 0 l.from (l.made.items ++ rest);
      owners : owners_of l.names ≡ owners_of l.fn.names;
    }
