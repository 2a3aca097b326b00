use Rattle.std.proofs.Common.{◌≡◌, List, ℕ, drop, length, sym, ap, arith, length-drop}
use Rattle.il_lex.specs.Scan.{items_len}
use Rattle.il_lex.proofs.Plain.{item_some, len_stop, len_turn}
use Rattle.il_lex.proofs.quoted.items_len.Goals as goal

pub returns-in-None-clause-value : goal.returns-in-None-clause-value
returns-in-None-clause-value c =
    let stop = len_stop c.loop.rest.now c.behind-left.result.now c.plain_len-run.result c.plain_len-run.ensures.value c.behind-left.ensures (sym c.in-None.ensures.value) in
    omega (arith, c.loop.invariant.0, stop)

pub loop-preserved : goal.loop-preserved
loop-preserved c =
    let rest = c.loop.rest.now in
    let left = c.behind-left.result.now in
    let run = c.plain_len-run.result in
    let found = sym c.in-Some.ensures.value in
    let turn = len_turn rest left run (c.in-Some.field-0-0, c.in-Some.n) c.plain_len-run.ensures.value c.behind-left.ensures found in
    let some = item_some left (c.in-Some.field-0-0, c.in-Some.n) found in
    let there : c.behind-rest.result.now ≡ drop c.in-Some.n left = c.behind-rest.ensures in
    let later = ap (λ (r : List ℕ). items_len (length r) r) there in
    let left_len = ap length c.behind-left.ensures in
    let later_len = ap length there in (
      omega (arith, c.loop.invariant.0, turn, later),
      omega (arith, c.loop.invariant.1, left_len, later_len, length-drop run rest, length-drop c.in-Some.n left, c.plain_len-run.ensures.bound, c.in-Some.ensures.bound),
      omega (arith, c.loop.invariant.2, some),
    )
