use Rattle.std.proofs.Common.{◌≡◌, ◌∙◌, sym, ap, length, arith, ◌++◌, ◌∷◌, [], true, is_ok}
use Rattle.il_mem.proofs.BlocksLemmas.{length-blocks}
use Rattle.il_mem.proofs.FoundLemmas.{numbered_pushed, fresh_pushed}
use Rattle.il_mem.proofs.memory.BlockMemory.add.Goals as goal

pub overflow_add-self : goal.overflow_add-self
overflow_add-self c =
    let same : length c.args.self.now ≡ c.self.inside.made = ap length (sym c.self.view_is) ∙ length-blocks _ 0 c.self.inside.made in
    omega arith

pub returns-clause-number : goal.returns-clause-number
returns-clause-number c = sym (length-blocks _ 0 c.self.inside.made) ∙ ap length c.self.view_is

pub invariant_of-self-2 : goal.invariant_of-self-2
invariant_of-self-2 c =
    let ok : is_ok c.push-2.result ≡ true = c.push-2.ensures.succeeds (omega (arith, c.in_ok-reserve.ensures.ok)) in
    let items : c.push-2.new.self.items ≡ c.reserve.new.self.items ++ c.self.inside.made ∷ [] = rw ok at c.push-2.ensures.items in
    numbered_pushed c.self.inside.numbers.items c.push-2.new.self.items c.self.inside.live.items c.push.new.self.items c.self.inside.made c.args.block
    (items ∙ ap (λ xs. xs ++ c.self.inside.made ∷ []) c.in_ok-reserve.ensures.items) c.in_ok-push.ensures.items c.self.invariant

pub returns-clause-ok : goal.returns-clause-ok
returns-clause-ok c =
    let ok : is_ok c.push-2.result ≡ true = c.push-2.ensures.succeeds (omega (arith, c.in_ok-reserve.ensures.ok)) in
    let items : c.push-2.new.self.items ≡ c.reserve.new.self.items ++ c.self.inside.made ∷ [] = rw ok at c.push-2.ensures.items in
    fresh_pushed c.self.inside.numbers.items c.push-2.new.self.items c.self.inside.live.items c.push.new.self.items c.self.inside.made c.args.block c.args.self.now
    (items ∙ ap (λ xs. xs ++ c.self.inside.made ∷ []) c.in_ok-reserve.ensures.items) c.in_ok-push.ensures.items c.self.invariant c.self.view_is
