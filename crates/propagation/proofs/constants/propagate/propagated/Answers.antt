use Rattle.std.proofs.Common.{◌≡◌, ℕ, Option, IfSome, List, [], ◌∷◌, length, refl, sym, ◌∙◌, subst}
use Rattle.vcode.specs.declared.code.Block.{Block}
use Rattle.vcode.proofs.Results.{becomes}
use Rattle.propagation.specs.declared.constants.claim.Claim.{Claim}
use Rattle.propagation.specs.declared.constants.claim.Entry.{Entry}
use Rattle.propagation.specs.Forwarded.{claims_at, AllForwarded}
use Rattle.propagation.proofs.KeepingFacts.{owed}
use Rattle.propagation.proofs.constants.propagate.propagated.Goals as goal

nothing_in : (claims : List Claim) → length claims ≡ 0 → claims ≡ []
nothing_in [] h = refl
nothing_in (c ∷ claims) h = absurd (let no : ⊥ = cc in no)

pub with_blocks-requires-clause-becomes : goal.with_blocks-requires-clause-becomes
with_blocks-requires-clause-becomes c =
    let v = c.args.function.now in
    let es : List Entry = c.args.entries.now in
    let n = length c.in_ok-table.table.written.items in
    let blocks : List (Block ℕ) = c.in-Some-2.blocks in
    let none : claims_at es 0 ≡ [] = sym c.claims_at.ensures ∙ nothing_in c.claims_at.result.now c.if-claims_at-ne0.false in
    let made : AllForwarded n es 0 c.as_slice-blocks.result.now blocks =
    subst (λ (o : Option (List (Block ℕ))). IfSome o (λ (x : List (Block ℕ)). AllForwarded n es 0 c.as_slice-blocks.result.now x)) c.in-Some-2.is c.in_ok-blocks.ensures in
    let own : AllForwarded n es 0 v.code.blocks blocks = subst (λ (xs : List (Block ℕ)). AllForwarded n es 0 xs blocks) c.as_slice-blocks.ensures made in
    becomes v v.registers blocks (owed v es blocks none (subst (λ m. AllForwarded m es 0 v.code.blocks blocks) c.in_ok-table.ensures.count own))
