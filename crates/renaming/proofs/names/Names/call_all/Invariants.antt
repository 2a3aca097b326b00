use Rattle.std.proofs.Common.{◌≡◌, drop, true}
use Rattle.renaming.specs.Renamed.{all_called, are_names, owners_of, names_of}
use Rattle.renaming.proofs.names.Names.call_all.Given as goal

abbrev pub invariant-loop-renamed : goal.invariant-loop-renamed
invariant-loop-renamed l =
    record {
      names : all_called (names_of l.self) (drop l.renamed-index l.names) ≡ all_called (names_of l.fn.self) l.fn.names;
      owners : owners_of l.self ≡ owners_of l.fn.self;
      rest : are_names (owners_of l.self) (drop l.renamed-index l.names) ≡ true;
    }
