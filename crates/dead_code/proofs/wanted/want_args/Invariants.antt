use Rattle.std.proofs.Common.{◌≡◌, ℕ, true, ◌||◌, drop}
use Rattle.std.specs.List.{list_any, list_all}
use Rattle.bitset.specs.Bits.{is_member}
use Rattle.vcode.specs.Prelude.{operand_keeps, is_below}
use Rattle.dead_code.specs.Without.{names_it}
use Rattle.dead_code.proofs.wanted.want_args.Given as goal

abbrev pub invariant-loop-arg : goal.invariant-loop-arg
invariant-loop-arg l =
    record {
      length : l.set.length ≡ l.fn.set.length;
      below : list_all (λ a. operand_keeps (is_below l.fn.set.length) a.value) (drop l.arg-index l.args) ≡ true;
      wanted :
          (r : ℕ) → (is_member l.set r || list_any (λ a. names_it a.value r) (drop l.arg-index l.args))
          ≡ (is_member l.fn.set r || list_any (λ a. names_it a.value r) l.fn.args);
    }
