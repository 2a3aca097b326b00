use Rattle.std.proofs.Common.{◌≡◌, ◌++◌, ◌<◌, ℕ, true, false, drop, map, slice_get, Some}
use Rattle.bitset.specs.Bits.{is_member}
use Rattle.vcode.specs.declared.code.Block.{Block}
use Rattle.dead_code.specs.Without.{kept_block, wanted_in, held}
use Rattle.dead_code.proofs.remove.kept_blocks.Given as goal

abbrev pub invariant-loop-k : goal.invariant-loop-k
invariant-loop-k l =
    record {
      length : l.set.length ≡ l.fn.set.length;
      empty : (r : ℕ) → is_member l.empty r ≡ false;
      kept : l.kept.items ++ map (kept_block l.fn.set.length l.starts) (drop l.k l.blocks) ≡ map (kept_block l.fn.set.length l.starts) l.fn.blocks;
      closed : (k : ℕ) (b : Block ℕ) → k < l.k → slice_get l.blocks k ≡ Some b → (r : ℕ) → wanted_in l.fn.set.length l.starts b r ≡ true → held l.fn.set.length l.starts k r ≡ true;
    }
