use Rattle.std.proofs.Common.{rules, ◌≡◌, ◌<◌, ◌++◌, length, Some, None, ◌-◌, ◌+◌, ap, sym, ◌∙◌, append_assoc, arith}
use Rattle.std.proofs.lemmas.Grind.{common_steps}
use Rattle.abi_frames.specs.Moves.{earlier_at, arrived, is_read, move_up, all_move_up, all_moved_up}
use Rattle.abi_frames.proofs.MovingUp.{next_moves, next_moved, one_length}
use Rattle.abi_frames.proofs.moves.push_moves_up.Goals as goal

pub loop-number-preserved-in-Some : goal.loop-number-preserved-in-Some
loop-number-preserved-in-Some c =
    let k = c.loop-number.number in
    let args = c.loop-number.now.items in
    let from = c.in-Some.from in
    let some : 0 < k = c.loop-number-test.true in
    let found : earlier_at (k - 1) args ≡ Some from = search rules in
    let now = c.in_ok-now-2.now.items in
    let after : now ≡ arrived (k - 1) from (is_read (10 + (k - 1)) args) args = search rules in
    let pushed : c.push_move_up.new.items.items ≡ c.loop-number.items.items ++ move_up (k - 1) from (is_read (10 + (k - 1)) args) = search rules in
    record {
      items =
          ap (λ l. l ++ all_move_up (k - 1) now) pushed
          ∙ (append_assoc c.loop-number.items.items (move_up (k - 1) from (is_read (10 + (k - 1)) args)) (all_move_up (k - 1) now)
          ∙ (ap (λ l. c.loop-number.items.items ++ (move_up (k - 1) from (is_read (10 + (k - 1)) args) ++ all_move_up (k - 1) l)) after
          ∙ (ap (λ l. c.loop-number.items.items ++ l) (sym (next_moves k args (Some from) some found)) ∙ c.loop-number.invariant.items)));
      arguments = ap (all_moved_up (k - 1)) after ∙ (sym (next_moved k args (Some from) some found) ∙ c.loop-number.invariant.arguments);
      length = ap length after ∙ (one_length (k - 1) args (Some from) ∙ c.loop-number.invariant.length);
    }

pub loop-number-preserved : goal.loop-number-preserved
loop-number-preserved c =
    let k = c.loop-number.number in
    let args = c.loop-number.now.items in
    let some : 0 < k = c.loop-number-test.true in
    let none : earlier_at (k - 1) args ≡ None = search rules in
    record {
      items = ap (λ l. c.loop-number.items.items ++ l) (sym (next_moves k args None some none)) ∙ c.loop-number.invariant.items;
      arguments = sym (next_moved k args None some none) ∙ c.loop-number.invariant.arguments;
      length = c.loop-number.invariant.length;
    }

pub returns-clause-items : goal.returns-clause-items
returns-clause-items c = grind (arith, common_steps)

pub returns-clause-arguments : goal.returns-clause-arguments
returns-clause-arguments c = grind (arith, common_steps)
