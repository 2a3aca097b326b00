use Rattle.std.proofs.Common.{◌≡◌, List, ◌+◌, length, drop, sym, ap, ◌∙◌, arith}
use Rattle.std.proofs.Math.Path.{fun_ext}
use Rattle.vcode.proofs.Lists.{item_next}
use Rattle.propagation.specs.declared.constants.claim.Claim.{Claim}
use Rattle.propagation.specs.FactTable.{Facts, facts_of}
use Rattle.propagation.specs.Forwarded.{after, making, claimed}
use Rattle.propagation.proofs.constants.propagate.claim_all.Goals as goal

pub loop-claim-preserved : goal.loop-claim-preserved
loop-claim-preserved c =
    let n = length c.args.table.now.written.items in
    let t = c.loop-claim.table in
    let u = c.pass.new.table in
    let i = c.loop-claim.claim-index in
    let claims : List Claim = c.args.claims.now in
    let one : Claim = c.claim-item.result in
    let next : facts_of u ≡ after n (making one) (facts_of t) =
    fun_ext (λ q. c.pass.ensures.after q ∙ ap (λ m. after m (making one) (facts_of t) q) c.loop-claim.invariant.count) in
    record {
      table = c.pass.ensures.table;
      clock = let step = c.pass.ensures.clock in let before = c.loop-claim.invariant.clock in omega (arith, step, before);
      runs = c.loop-claim.invariant.runs;
      count = c.pass.ensures.count ∙ c.loop-claim.invariant.count;
      made =
          ap (λ (fs : Facts). claimed n fs (drop (i + 1) claims)) next
          ∙ sym (ap (λ (cs : List Claim). claimed n (facts_of t) cs) (item_next claims i one c.loop-claim-test.true c.claim-item.is))
          ∙ c.loop-claim.invariant.made;
    }
