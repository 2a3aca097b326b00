use Rattle.std.proofs.Common.{◌≡◌, ℕ, List, length, slice_get, Some, refl, sym, ap, ◌∙◌, arith}
use Rattle.std.proofs.lemmas.Option.{slice_get_read}
use Rattle.bitset.specs.Bits.{Bits, is_member}
use Rattle.vcode.specs.declared.code.Block.{Block}
use Rattle.vcode.specs.Prelude.{block_keeps, is_below}
use Rattle.dead_code.specs.Without.{Wanted, kept_block, wanted_in, held}
use Rattle.dead_code.proofs.Walking.{blocks_on, closed_on, inside_at}
use Rattle.dead_code.proofs.remove.kept_blocks.Goals as goal
use Rattle.il_ast.proofs.Listed.{all_at}

pub kept_block-requires : goal.kept_block-requires
kept_block-requires c =
    let k = c.loop-k.k in
    let b : Block ℕ = c.index-blocks-k.result in
    let blocks = c.args.blocks.now in
    ap (λ n. block_keeps (is_below n) b) c.loop-k.invariant.length
    ∙ all_at (block_keeps (is_below c.args.set.now.length)) blocks k b c.requires (slice_get_read blocks (length blocks) k b refl (omega arith) c.index-blocks-k.is)

pub loop-k-preserved : goal.loop-k-preserved
loop-k-preserved c =
    let n = c.args.set.now.length in
    let starts : List Bits = c.args.starts.now in
    let k = c.loop-k.k in
    let b : Block ℕ = c.index-blocks-k.result in
    let blocks = c.args.blocks.now in
    let e : c.loop-k.set.length ≡ n = c.loop-k.invariant.length in
    let at : slice_get blocks k ≡ Some b = slice_get_read blocks (length blocks) k b refl (omega arith) c.index-blocks-k.is in
    let same : c.kept_block.new.set.length ≡ n = c.in_ok-kept_block.ensures.length ∙ e in
    let made : c.in_ok-kept_block.field-0 ≡ kept_block n starts b = c.in_ok-kept_block.ensures.block ∙ ap (λ m. kept_block m starts b) e in
    let wanted : is_member c.kept_block.new.set ≡ wanted_in n starts b = c.in_ok-kept_block.ensures.wanted ∙ ap (λ m. wanted_in m starts b) e in
    let within = c.is_within.ensures.within c.if-not-is_within.false in
    record {
      length = c.is_within.ensures.length ∙ same;
      empty = c.is_within.ensures.empty c.if-not-is_within.false;
      kept = blocks_on n starts blocks k b c.in_ok-kept_block.field-0 c.loop-k.kept.items c.push.new.self.items c.loop-k-test.true c.index-blocks-k.is made c.in_ok-push.ensures.items c.loop-k.invariant.kept;
      closed =
          closed_on n starts blocks k b at (λ r h. ap (λ m. held m starts k r) (sym same) ∙ within r (ap (λ (w : Wanted). w r) wanted ∙ h)) c.loop-k.invariant.closed;
    }

pub returns-clause-closed : goal.returns-clause-closed
returns-clause-closed c = λ k b at. c.loop-k.invariant.closed k b (let low = inside_at c.args.blocks.now k b at in let past = c.loop-k-test.false in omega (arith, low, past)) at
