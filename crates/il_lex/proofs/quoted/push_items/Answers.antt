use Rattle.std.proofs.Common.{◌≡◌, List, ℕ, ◌++◌, ◌∷◌, [], drop, length, take, sym, ap, ◌∙◌, append_assoc, arith, append-nil, length-drop}
use Rattle.il_lex.specs.Scan.{items}
use Rattle.il_lex.proofs.Plain.{item_some, items_stop, items_turn}
use Rattle.il_lex.proofs.quoted.push_items.Goals as goal

pub returns-in-None : goal.returns-in-None
returns-in-None c =
    let rest = c.loop.rest.now in
    let out = c.loop.out.items in
    let run = c.plain_len-run.result in
    let stop = items_stop rest c.behind-left.result.now run c.plain_len-run.ensures.value c.behind-left.ensures (sym c.in-None.ensures.value) in
    c.in_ok-extend_from_slice.ensures.items
    ∙ ap (λ (xs : List ℕ). out ++ xs) (c.front.ensures ∙ sym (append-nil (take run rest)) ∙ sym stop)
    ∙ c.loop.invariant.0

pub loop-preserved : goal.loop-preserved
loop-preserved c =
    let rest = c.loop.rest.now in
    let out = c.loop.out.items in
    let left = c.behind-left.result.now in
    let run = c.plain_len-run.result in
    let byte = c.in-Some.byte in
    let len = c.in-Some.len in
    let found = sym c.in-Some.ensures.value in
    let turn = items_turn rest left run (byte, len) c.plain_len-run.ensures.value c.behind-left.ensures found in
    let some = item_some left (byte, len) found in
    let there : c.behind-rest.result.now ≡ drop len left = c.behind-rest.ensures in
    let later = items (length (drop len left)) (drop len left) in
    let copied = c.extend_from_slice.new.self.items in
    let extended : copied ≡ out ++ take run rest = c.in_ok-extend_from_slice.ensures.items ∙ ap (λ (xs : List ℕ). out ++ xs) c.front.ensures in
    let pushed : c.push.new.self.items ≡ copied ++ byte ∷ [] = c.in_ok-push-in-Some.ensures.items in (
      ap (λ (r : List ℕ). c.push.new.self.items ++ items (length r) r) there
          ∙ ap (λ (xs : List ℕ). xs ++ later) pushed
          ∙ append_assoc copied (byte ∷ []) later
          ∙ ap (λ (xs : List ℕ). xs ++ byte ∷ later) extended
          ∙ append_assoc out (take run rest) (byte ∷ later)
          ∙ ap (λ (xs : List ℕ). out ++ xs) (sym turn)
          ∙ c.loop.invariant.0,
      omega (arith, c.loop.invariant.1, some, ap length c.behind-left.ensures, ap length there, length-drop run rest, length-drop len left, c.plain_len-run.ensures.bound, c.in-Some.ensures.bound),
    )
