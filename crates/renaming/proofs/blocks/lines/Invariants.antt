use Rattle.std.proofs.Common.{◌≡◌, take}
use Rattle.renaming.specs.Renamed.{AreRenamed, owners_of, names_of}
use Rattle.renaming.proofs.blocks.lines.Given as goal

abbrev pub invariant-loop-number : goal.invariant-loop-number
invariant-loop-number l =
    record {
      lines : AreRenamed (owners_of l.fn.names) (names_of l.fn.names) (take l.number l.from) l.made.items (names_of l.names);
      owners : owners_of l.names ≡ owners_of l.fn.names;
    }
