use Rattle.std.proofs.Common.{ℕ, length, refl, ap, ◌∙◌, arith}
use Rattle.std.proofs.lemmas.Option.{slice_get_read}
use Rattle.vcode.specs.declared.code.Block.{Block}
use Rattle.vcode.specs.Prelude.{block_keeps, is_below}
use Rattle.dead_code.proofs.guess.sweep_down.Goals as goal
use Rattle.il_ast.proofs.Listed.{all_at}

pub go-has_grown-requires : goal.go-has_grown-requires
go-has_grown-requires c =
    let k = c.loop-k.k in
    let b : Block ℕ = c.index-blocks-k.result in
    let blocks = c.args.blocks.now in
    ap (λ n. block_keeps (is_below n) b) c.loop-k.invariant
    ∙ all_at (block_keeps (is_below c.args.set.now.length)) blocks k b c.requires (slice_get_read blocks (length blocks) k b refl (omega arith) c.index-blocks-k.is)
