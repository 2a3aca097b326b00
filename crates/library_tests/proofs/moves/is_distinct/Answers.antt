use Rattle.std.proofs.Common.{◌≡◌, ◌≢◌, ℕ, ◌+◌, ◌-◌, ◌<◌, List, length, get_or, drop, All, sym, ap, ◌∙◌, ⊎_elim, arith, length-drop, get_or-drop}
use Rattle.std.proofs.lemmas.Bool.{cases_eq}
use Rattle.std.proofs.lemmas.List.{take_rest, get_or_default}
use Rattle.phi_copies.specs.Order.{no_move}
use Rattle.phi_copies.specs.declared.moves.Move.{Move}
use Rattle.library_tests.proofs.moves.is_distinct.Goals as goal

-- each move behind place i goes elsewhere
later : (ms : List Move) (i b to : ℕ) (d : Move) → All (λ n. to ≢ n.to) (drop (i + 1) ms) → i < b → b < length ms → to ≢ (get_or ms b d).to
later ms i b to d h l m =
    let size = length-drop (i + 1) ms in
    let place : i + 1 + (b - (i + 1)) ≡ b = omega arith in
    let here : get_or (drop (i + 1) ms) (b - (i + 1)) d ≡ get_or ms b d = get_or-drop (i + 1) ms (b - (i + 1)) d ∙ ap (λ k. get_or ms k d) place in
    λ e. h (b - (i + 1)) d (omega arith) (e ∙ ap (λ n. n.to) (sym here))

pub loop-i-preserved : goal.loop-i-preserved
loop-i-preserved c = λ a b d l m n.
    let ms = c.args.moves.now in
    let i = c.loop-i.i in
    let rest : All (λ n. (get_or ms i d).to ≢ n.to) (drop (i + 1) ms) = λ k e h.
    let here : get_or ms i no_move ≡ get_or ms i d = get_or_default ms i no_move d (omega arith) in
    λ same. rw (take_rest ms (i + 1)) at (c.goes_elsewhere.ensures c.if-not-goes_elsewhere.false) k e h (ap (λ m. m.to) here ∙ same) in
    ⊎_elim
    (λ e. rw e (later ms i b (get_or ms i d).to d rest (omega arith) n))
    (λ ne. c.loop-i.invariant a b d (omega arith) m n)
    (cases_eq a i)
