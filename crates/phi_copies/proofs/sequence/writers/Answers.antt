use Rattle.std.proofs.Common.{◌≡◌, ◌≢◌, ◌+◌, ℕ, List, Option, Some, None, false, sym, ap, ◌∙◌, ⊎_elim, arith, nat_cmp}
use Rattle.std.specs.BTreeMap.{get, is_at}
use Rattle.std.proofs.lemmas.Bool.Decides.{nat_tests}
use Rattle.phi_copies.specs.Order.{to_of, IsWritten}
use Rattle.phi_copies.specs.declared.moves.Move.{Move}
use Rattle.phi_copies.proofs.sequence.writers.Goals as goal
use Rattle.std.proofs.lemmas.Bool.{cases_eq}

-- one move more, that goes elsewhere
elsewhere : (ms : List Move) (place i : ℕ) (o : Option ℕ) → place ≢ to_of ms i → IsWritten ms place i o → IsWritten ms place (i + 1) o
elsewhere ms place i None n w = λ b l. ⊎_elim (λ e. λ same. n (sym same ∙ ap (to_of ms) e)) (λ m. w b (omega arith)) (cases_eq b i)
elsewhere ms place i (Some b) n w = (omega (arith, w.0), w.1)

other_key : (a b : ℕ) → b ≢ a → is_at (nat_cmp a) b ≡ false
other_key a b n = grind (arith, nat_tests)

pub loop-i-preserved : goal.loop-i-preserved
loop-i-preserved c = λ place.
    let ms = c.args.moves.now in
    let i = c.loop-i.i in
    ⊎_elim
    (λ e. let here : get nat_cmp c.insert.new.self place ≡ Some i = ap (get nat_cmp c.insert.new.self) e ∙ c.in_ok-insert.ensures.updates.1 in rw here (omega arith, sym e))
    (λ n. let there : get nat_cmp c.insert.new.self place ≡ get nat_cmp c.loop-i.writers place = c.in_ok-insert.ensures.updates.2 place (other_key (to_of ms i) place n) in
    rw there (elsewhere ms place i _ n (c.loop-i.invariant place)))
    (cases_eq place (to_of ms i))
