use Rattle.std.proofs.Common.{◌≡◌, ◌<◌, ℕ, length, take, if◌then◌else◌}
use Rattle.il_ast.specs.declared.operation.Class.TheVariants.{W}
use Rattle.select.specs.Narrow.{listed, has_word}
use Rattle.select.proofs.classes.mark_words.Given as goal

abbrev pub invariant-loop-to : goal.invariant-loop-to
invariant-loop-to l =
    record {
      long : length l.table ≡ length l.fn.table;
      entries : (t : ℕ) → t < length l.fn.table → listed l.table t ≡ (if has_word t (take l.to-index l.assigned) then W else listed l.fn.table t);
    }
