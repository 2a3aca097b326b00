use Rattle.std.proofs.Common.{◌≡◌, false, drop, sym, ap, ◌∙◌}
use Rattle.bitset.specs.Bits.{is_member}
use Rattle.dead_code.specs.Without.{Wanted, is_dead, wanted_at, as_wanted}
use Rattle.dead_code.proofs.Walking.{lines_above, wanted_on}
use Rattle.dead_code.proofs.remove.kept_backward.Goals as goal

pub loop-k-preserved-then-not-is_dead : goal.loop-k-preserved-then-not-is_dead
loop-k-preserved-then-not-is_dead c =
    let out : Wanted = is_member c.args.set.now in
    let lines = c.args.lines.now in
    let k = c.loop-k.k in
    let l = c.index-lines-k.result in
    let stays : is_dead (wanted_at out (drop k lines)) l ≡ false =
    ap (λ (w : Wanted). is_dead w l) (sym c.loop-k.invariant.wanted) ∙ sym c.is_dead.ensures ∙ c.if-not-is_dead.true in
    record {
      length = c.pass.ensures.length ∙ c.loop-k.invariant.length;
      lines =
          lines_above out lines k l c.in_ok-as_wanted.field-0 c.loop-k.kept.items c.push.new.self.items c.loop-k-test.true c.loop-k.auto.k c.index-lines-k.is stays
          (c.in_ok-as_wanted.ensures ∙ ap (λ (w : Wanted). as_wanted w l) c.loop-k.invariant.wanted) c.in_ok-push.ensures.items c.loop-k.invariant.lines;
      wanted =
          wanted_on out lines k l (is_member c.loop-k.set) (is_member c.pass.new.set) c.loop-k-test.true c.loop-k.auto.k c.index-lines-k.is stays c.loop-k.invariant.wanted c.pass.ensures.wanted;
    }
