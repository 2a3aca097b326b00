use Rattle.std.proofs.Common.{◌≡◌, ◌-◌, suc, length}
use Rattle.il_reader.specs.Prelude.{sees, separated, is_newline, is_word, between, definition, appended, parts_of}
use Rattle.il_reader.proofs.text.more_definitions.Given as goal

abbrev pub invariant-loop : goal.invariant-loop
invariant-loop l =
    appended (parts_of l.definitions) (separated (l.end - l.counter) (sees is_newline) between (sees is_word) definition l.reader)
    ≡ appended (parts_of l.fn.definitions) (separated (suc (length l.fn.reader.rest)) (sees is_newline) between (sees is_word) definition l.fn.reader)
