use Rattle.std.proofs.Common.{◌≡◌, ◌-◌, suc, length}
use Rattle.il_reader.specs.Prelude.{sees, repeated, is_item, item, appended}
use Rattle.il_reader.proofs.datum.more_items.Given as goal

abbrev pub invariant-loop : goal.invariant-loop
invariant-loop l =
    appended l.items (repeated (l.end - l.counter) (sees is_item) item l.reader)
    ≡ appended l.fn.items (repeated (suc (length l.fn.reader.rest)) (sees is_item) item l.fn.reader)
