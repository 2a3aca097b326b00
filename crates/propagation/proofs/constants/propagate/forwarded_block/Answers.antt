use Rattle.std.proofs.Common.{◌≡◌, ℕ, List, [], length, None, sym, ap, ◌∙◌, subst}
use Rattle.std.proofs.Math.Path.{fun_ext}
use Rattle.vcode.specs.declared.line.Line.{Line}
use Rattle.vcode.specs.declared.line.Jump.{Jump}
use Rattle.vcode.specs.declared.code.Block.{Block}
use Rattle.propagation.specs.declared.constants.claim.Claim.{Claim}
use Rattle.propagation.specs.declared.constants.claim.Entry.{Entry}
use Rattle.propagation.specs.FactTable.{Facts, facts_of}
use Rattle.propagation.specs.Forwarded.{claimed, known_at, IsPutJump, AreForwarded, IsForwarded}
use Rattle.propagation.proofs.MakingFacts.{as_it_was}
use Rattle.propagation.proofs.constants.propagate.forwarded_block.Goals as goal

pub returns-clause-block : goal.returns-clause-block
returns-clause-block c =
    let n = length c.args.table.now.written.items in
    let es : List Entry = c.args.entries.now in
    let items : List (Line ℕ) = c.in_ok-lines.lines.items in
    let from : List (Line ℕ) = c.as_slice-lines.result.now in
    let claims : List Claim = c.claims_at-claims.result.now in
    let old : Jump ℕ = c.args.block.now.jump in
    let new : Jump ℕ = c.put_jump-jump.result in
    let start : Facts = facts_of c.claim_all.new.table in
    let begun : length c.begin.new.self.written.items ≡ n = c.begin.ensures.count in
    let count : length c.claim_all.new.table.written.items ≡ n = c.claim_all.ensures.count ∙ begun in
    let known : start ≡ known_at n es c.args.number =
    c.claim_all.ensures.facts ∙ ap (λ m. claimed m (facts_of c.begin.new.self) claims) begun
    ∙ ap (λ (fs : Facts). claimed n fs claims) (fun_ext c.begin.ensures.nothing)
    ∙ ap (λ (cs : List Claim). claimed n (λ r. None) cs) c.claims_at-claims.ensures
    in
    let made : IsPutJump items (facts_of c.forwarded_lines.new.table) old new =
    subst (λ (xs : List (Line ℕ)). IsPutJump xs (facts_of c.forwarded_lines.new.table) old new) c.deref.ensures.value c.put_jump-jump.ensures in
    let all : AreForwarded n es items start from items old new =
    subst (λ m. AreForwarded m es items start from items old new) count (c.in_ok-lines.ensures.lines es items old new (made, c.leads_well.ensures c.if-not-leads_well.false)) in
    subst (λ (xs : List (Line ℕ)). AreForwarded n es xs (known_at n es c.args.number) c.args.block.now.lines xs old new) (sym c.from_vec.ensures)
    (subst (λ (fs : Facts). AreForwarded n es items fs c.args.block.now.lines items old new) known
    (subst (λ (xs : List (Line ℕ)). AreForwarded n es items start xs items old new) c.as_slice-lines.ensures all))

pub returns-then-stays-clause-block : goal.returns-then-stays-clause-block
returns-then-stays-clause-block c =
    let n = length c.args.table.now.written.items in
    let b : Block ℕ = c.args.block.now in
    subst (λ (es : List Entry). IsForwarded n es c.args.number b c.in_ok-same.same) (sym (c.stays.ensures c.if-stays.true))
    (subst (λ (d : Block ℕ). IsForwarded n [] c.args.number b d) (sym c.in_ok-same.ensures) (as_it_was n c.args.number b))
