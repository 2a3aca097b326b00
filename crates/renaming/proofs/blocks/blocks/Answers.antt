use Rattle.std.proofs.Common.{◌≡◌, ℕ, ◌+◌, ◌<◌, List, [], ◌∷◌, ◌++◌, length, get_or, drop, sym, ◌∙◌, ap, subst, arith, rules}
use Rattle.std.proofs.lemmas.List.{drop_all, append-nil}
use Rattle.vcode.specs.declared.code.Block.{Block}
use Rattle.vcode.proofs.Lists.{item_next}
use Rattle.il_ast.proofs.Listed.{append_one}
use Rattle.renaming.specs.declared.plan.Renamed.{Renamed}
use Rattle.renaming.specs.Renamed.{Owners, IsRenamedBlock, AllRenamed, owners_of}
use Rattle.renaming.proofs.blocks.blocks.Goals as goal

-- one block more
blocks_on : (o : Owners) (starts : List (List Renamed)) (blocks : List (Block ℕ)) (i : ℕ) (b d : Block ℕ) (rest : List (Block ℕ)) → i < length blocks → b ≡ get_or blocks i b → IsRenamedBlock o starts i b d
    → AllRenamed o starts (i + 1) (drop (i + 1) blocks) rest → AllRenamed o starts i (drop i blocks) (d ∷ rest)
blocks_on o starts blocks i b d rest low is made on = subst (λ (xs : List (Block ℕ)). AllRenamed o starts i xs (d ∷ rest)) (sym (item_next blocks i b low is)) (made, on)

pub loop-number-preserved : goal.loop-number-preserved
loop-number-preserved c =
    let o : Owners = owners_of c.args.names.now in
    let starts : List (List Renamed) = c.args.plan.now.starts.items in
    let n : ℕ = c.loop-number.number in
    let b : Block ℕ = c.index-from-number.result in
    let d : Block ℕ = c.in-Some.put in
    let one : IsRenamedBlock (owners_of c.loop-number.names) starts n b d = search rules in
    let own : IsRenamedBlock o starts n b d = subst (λ (x : Owners). IsRenamedBlock x starts n b d) c.loop-number.invariant.owners one in
    record {
      blocks = λ rest h.
          subst (λ (xs : List (Block ℕ)). AllRenamed o starts 0 c.args.from.now xs)
          (sym (ap (λ (xs : List (Block ℕ)). xs ++ rest) c.in_ok-push-in-Some.ensures.items ∙ append_one c.loop-number.made.items d rest))
          (c.loop-number.invariant.blocks (d ∷ rest) (blocks_on o starts c.args.from.now n b d rest c.loop-number-test.true c.index-from-number.is own h));
      owners = c.in_ok-put.ensures.owners ∙ c.loop-number.invariant.owners;
    }

pub returns : goal.returns
returns c =
    let o : Owners = owners_of c.args.names.now in
    let starts : List (List Renamed) = c.args.plan.now.starts.items in
    let none : drop c.loop-number.number c.args.from.now ≡ [] = drop_all c.loop-number.number c.args.from.now (let past = c.loop-number-test.false in omega arith) in
    subst (λ (xs : List (Block ℕ)). AllRenamed o starts 0 c.args.from.now xs) (append-nil c.loop-number.made.items)
    (c.loop-number.invariant.blocks [] (subst (λ (xs : List (Block ℕ)). AllRenamed o starts c.loop-number.number xs []) (sym none) tt))
