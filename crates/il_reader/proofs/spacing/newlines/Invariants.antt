use Rattle.std.proofs.Common.{◌≡◌, ◌-◌, suc, length}
use Rattle.il_reader.specs.Prelude.{sees, repeated, newline, is_newline, passed}
use Rattle.il_reader.proofs.spacing.newlines.Given as goal

abbrev pub invariant-loop : goal.invariant-loop
invariant-loop l =
    passed (repeated (l.end - l.counter) (sees is_newline) newline l.reader)
    ≡ passed (repeated (suc (length l.fn.reader.rest)) (sees is_newline) newline l.fn.reader)
