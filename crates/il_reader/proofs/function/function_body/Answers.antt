use Rattle.std.proofs.Common.{List, ◌∙◌}
use Rattle.std.proofs.lemmas.Result.{err_from_is_err_and}
use Rattle.il_ast.specs.declared.block.Block.{Block}
use Rattle.il_lex.specs.declared.kind.Symbol.TheVariants.{LeftBrace, RightBrace}
use Rattle.il_reader.specs.Prelude.{falling, Step, ◌>>=◌, ◌>>◌, give, piece, on_line, blocks, falling_blocks}
use Rattle.il_reader.proofs.Binding.{bind_some, bind_none, on_line_then}
use Rattle.il_reader.proofs.Falling.{falling_then}
use Rattle.il_reader.proofs.function.function_body.Goals as goal

abbrev closed : List Block → Step (List Block)
closed bs = piece RightBrace >> give bs

abbrev inside : Unit {0} → Step (List Block)
inside x = blocks >>= λ bs. closed (falling bs)

pub returns-in_err-piece : goal.returns-in_err-piece
returns-in_err-piece c =
    let p = err_from_is_err_and c.from_residual-in_err-piece.result c.from_residual-in_err-piece.ensures.1 in
    let s = c.args.reader.now in
    let m = c.brace_line.new.reader in
    let n = c.falling_blocks.new.reader in
    let bs = c.in_ok-blocks.blocks in
    rw (p.1, p.2) (λ e.
    on_line_then (piece LeftBrace) inside s
    ∙ bind_some (on_line (piece LeftBrace)) inside s m tt c.in_ok-brace_line.ensures
    ∙ falling_then closed m
    ∙ bind_some falling_blocks closed m n bs c.in_ok-blocks.ensures
    ∙ bind_none (piece RightBrace) (λ x. give bs) n (c.in_err-piece.ensures e))
