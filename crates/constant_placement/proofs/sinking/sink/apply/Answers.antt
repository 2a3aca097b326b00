use Rattle.std.proofs.Common.{◌≡◌, ℕ, Option, IfSome, Vec, Global, List, [], ◌∷◌, length, refl, sym, ◌∙◌, ap, subst}
use Rattle.vcode.specs.declared.code.Block.{Block}
use Rattle.vcode.proofs.Results.{becomes_these}
use Rattle.constant_placement.specs.declared.sinking.known.Known.{Known}
use Rattle.constant_placement.specs.Known.{plan_at, AllSunk}
use Rattle.constant_placement.proofs.KeepingSunk.{owed}
use Rattle.constant_placement.proofs.sinking.sink.apply.Goals as goal

nothing_in : (plan : List Known) → length plan ≡ 0 → plan ≡ []
nothing_in [] h = refl
nothing_in (s ∷ plan) h = absurd (let no : ⊥ = cc in no)

pub with_blocks-requires-clause-becomes : goal.with_blocks-requires-clause-becomes
with_blocks-requires-clause-becomes c =
    let v = c.args.function.now in
    let plans = c.args.plans.now in
    let items = c.in-Some.blocks.items in
    let all : AllSunk v.registers plans 0 c.as_slice.result.now items =
    subst (λ (o : Option (Vec (Block ℕ) Global)). IfSome o (λ (x : Vec (Block ℕ) Global). AllSunk v.registers plans 0 c.as_slice.result.now x.items)) c.in-Some.is c.in_ok-blocks.ensures
    in
    let nothing : length (plan_at plans 0) ≡ 0 = ap length (sym c.plan_at.ensures) ∙ c.if-plan_at-ne0.false in
    let own : AllSunk v.registers plans 0 v.code.blocks items = subst (λ (bs : List (Block ℕ)). AllSunk v.registers plans 0 bs items) c.as_slice.ensures all in
    becomes_these v v.registers items c.from_vec.result (owed v plans items (nothing_in (plan_at plans 0) nothing) own) c.from_vec.ensures
