use Rattle.std.proofs.Common.{◌≡◌, ℕ, Option, IfSome, Vec, Global, List, [], ◌∷◌, length, refl, sym, ◌∙◌, ap, subst}
use Rattle.vcode.specs.declared.code.Block.{Block}
use Rattle.vcode.proofs.Results.{becomes_these}
use Rattle.value_numbering.specs.declared.fact.Fact.{Fact}
use Rattle.value_numbering.specs.Reused.{AllReused, claims_at}
use Rattle.value_numbering.proofs.Keeping.{owed}
use Rattle.value_numbering.proofs.reuse.apply.Goals as goal

nothing_in : (facts : List Fact) → length facts ≡ 0 → facts ≡ []
nothing_in [] h = refl
nothing_in (f ∷ facts) h = absurd (let no : ⊥ = cc in no)

pub with_blocks-requires-clause-becomes : goal.with_blocks-requires-clause-becomes
with_blocks-requires-clause-becomes c =
    let v = c.args.function.now in
    let marks = c.args.marks.now in
    let claims = c.args.claims.now in
    let items = c.in-Some.blocks.items in
    let all : AllReused v.registers marks claims 0 c.as_slice.result.now items =
    subst (λ (o : Option (Vec (Block ℕ) Global)). IfSome o (λ (x : Vec (Block ℕ) Global). AllReused v.registers marks claims 0 c.as_slice.result.now x.items)) c.in-Some.is c.in_ok-blocks.ensures
    in
    let nothing : length (claims_at claims 0) ≡ 0 = ap length (sym c.claims_at.ensures) ∙ c.if-claims_at-ne0.false in
    let own : AllReused v.registers marks claims 0 v.code.blocks items = subst (λ (bs : List (Block ℕ)). AllReused v.registers marks claims 0 bs items) c.as_slice.ensures all in
    becomes_these v v.registers items c.from_vec.result (owed v marks claims items c.requires (nothing_in (claims_at claims 0) nothing) own) c.from_vec.ensures
