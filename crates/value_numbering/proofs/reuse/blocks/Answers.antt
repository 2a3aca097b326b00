use Rattle.std.proofs.Common.{◌≡◌, Option, IfSome, List, [], ◌∷◌, ◌++◌, ℕ, drop, sym, ◌∙◌, ap, subst, arith}
use Rattle.std.proofs.lemmas.List.{drop_all, append-nil}
use Rattle.vcode.specs.declared.code.Block.{Block}
use Rattle.value_numbering.specs.Reused.{IsReused, AllReused}
use Rattle.value_numbering.proofs.Making.{blocks_on}
use Rattle.value_numbering.proofs.reuse.blocks.Goals as goal
use Rattle.il_ast.proofs.Listed.{append_one}

pub loop-number-preserved : goal.loop-number-preserved
loop-number-preserved c = λ rest h.
    let n = c.args.registers in
    let marks = c.args.marks.now in
    let claims = c.args.claims.now in
    let b : Block ℕ = c.index-from-number.result in
    let d : Block ℕ = c.in-Some.block in
    let made : IsReused n marks claims c.loop-number.number b d = subst (λ (o : Option (Block ℕ)). IfSome o (λ (x : Block ℕ). IsReused n marks claims c.loop-number.number b x)) c.in-Some.is c.in_ok-block.ensures in
    subst (λ (xs : List (Block ℕ)). AllReused n marks claims 0 c.args.from.now xs)
    (sym (ap (λ (xs : List (Block ℕ)). xs ++ rest) c.in_ok-push-in-Some.ensures.items ∙ append_one c.loop-number.made.items d rest))
    (c.loop-number.invariant (d ∷ rest) (blocks_on n marks claims c.args.from.now c.loop-number.number b d rest c.loop-number-test.true c.index-from-number.is made h))

pub returns : goal.returns
returns c =
    let n = c.args.registers in
    let none : drop c.loop-number.number c.args.from.now ≡ [] = drop_all c.loop-number.number c.args.from.now (let past = c.loop-number-test.false in omega arith) in
    subst (λ (xs : List (Block ℕ)). AllReused n c.args.marks.now c.args.claims.now 0 c.args.from.now xs) (append-nil c.loop-number.made.items)
    (c.loop-number.invariant [] (subst (λ (xs : List (Block ℕ)). AllReused n c.args.marks.now c.args.claims.now c.loop-number.number xs []) (sym none) tt))
