use Rattle.std.proofs.Common.{◌≡◌, length, map, sym, ◌∙◌, ap, subst, arith}
use Rattle.std.proofs.lemmas.List.{length-map}
use Rattle.il_types.specs.Prelude.{are_all_distinct}
use Rattle.phi_copies.specs.Copies.{AreCopies}
use Rattle.phi_copies.specs.Together.{HasDistinctDestinations, IsUnnamed, wanted, moves_in, first_in, IsInOrder}
use Rattle.phi_copies.proofs.EntryCopies.{entered, collected, apart, unnamed, entry_are, nothing}
use Rattle.phi_copies.proofs.EntryNumbers.{entry_small, entry_unnumbered}
use Rattle.phi_copies.proofs.GoodPhis.{good_distinct}
use Rattle.phi_copies.proofs.copies.entry_copies.Goals as goal

pub returns-in_default : goal.returns-in_default
returns-in_default c =
    let f = c.args.map.now.func.now in
    let k = c.args.place in
    let none = entry_unnumbered f c.args.map.now.firsts.items k c.args.map.now.firsts_are (sym c.first_number.ensures ∙ c.in_default.is) in
    subst (AreCopies f c.args.from k) (sym c.new.ensures) (nothing f c.args.from k none)

pub wanted-requires : goal.wanted-requires
wanted-requires c = ap are_all_distinct c.phis_at.ensures ∙ good_distinct c.args.map.now.func.now c.args.place c.args.map.now.good

pub in_order-requires-clause-few : goal.in_order-requires-clause-few
in_order-requires-clause-few c =
    let f = c.args.map.now.func.now in
    let few = entry_small f c.args.map.now.firsts.items c.args.place c.in-Some.number c.args.map.now.good c.args.map.now.firsts_are (sym c.first_number.ensures ∙ c.in-Some.is) in
    let same = ap length (c.deref.ensures.value ∙ c.in_ok-copies.ensures) in
    let long = length-map c.phis_at.result.now (wanted c.args.from) in
    let phis = ap length c.phis_at.ensures in
    omega (arith, few, same, long, phis)

pub in_order-requires-clause-distinct : goal.in_order-requires-clause-distinct
in_order-requires-clause-distinct c = λ j.
    let f = c.args.map.now.func.now in
    let from = c.args.from in
    let k = c.args.place in
    let n = c.in-Some.number in
    let g = entered f c.args.map.now.firsts.items from k n c.args.map.now.good c.args.map.now.firsts_are (sym c.first_number.ensures ∙ c.in-Some.is) in
    let cs = c.deref.result.now in
    let are : cs ≡ map (wanted from) g.block.phis = collected f from k n g c.phis_at.result.now cs c.phis_at.ensures (c.deref.ensures.value ∙ c.in_ok-copies.ensures) in
    subst (λ xs. HasDistinctDestinations (moves_in j xs)) (sym are) (apart f from k n g j)

pub in_order-requires-clause-unnamed : goal.in_order-requires-clause-unnamed
in_order-requires-clause-unnamed c = λ j.
    let f = c.args.map.now.func.now in
    let from = c.args.from in
    let k = c.args.place in
    let n = c.in-Some.number in
    let g = entered f c.args.map.now.firsts.items from k n c.args.map.now.good c.args.map.now.firsts_are (sym c.first_number.ensures ∙ c.in-Some.is) in
    let cs = c.deref.result.now in
    let are : cs ≡ map (wanted from) g.block.phis = collected f from k n g c.phis_at.result.now cs c.phis_at.ensures (c.deref.ensures.value ∙ c.in_ok-copies.ensures) in
    subst (λ xs. IsUnnamed (first_in j n xs) (moves_in j xs)) (sym are) (unnamed f from k n g j)

pub returns : goal.returns
returns c =
    let f = c.args.map.now.func.now in
    let from = c.args.from in
    let k = c.args.place in
    let n = c.in-Some.number in
    let g = entered f c.args.map.now.firsts.items from k n c.args.map.now.good c.args.map.now.firsts_are (sym c.first_number.ensures ∙ c.in-Some.is) in
    let cs = c.deref.result.now in
    let are : cs ≡ map (wanted from) g.block.phis = collected f from k n g c.phis_at.result.now cs c.phis_at.ensures (c.deref.ensures.value ∙ c.in_ok-copies.ensures) in
    let out = c.in_ok-in_order.field-0.items in
    subst (AreCopies f from k) (sym c.from_vec.ensures) (entry_are f from k n g out (subst (λ xs. IsInOrder n xs out) are c.in_ok-in_order.ensures))
