use Rattle.std.proofs.Common.{◌+◌, ◌*◌, ◌≤◌, length, arith}
use Rattle.std.proofs.lemmas.Result.{IfOk-weaker}
use Rattle.il_ast.specs.declared.function.Func.{Func}
use Rattle.il_ast.specs.Prelude.{weight}
use Rattle.promote.specs.Uses.{IsPromoted}
use Rattle.asm_layout.specs.Forms.{HaveForm}
use Rattle.qbec.specs.Pipeline.{StandWith, StandWithin}
use Rattle.qbec.proofs.PromotedFunctions.{still_good, same_weights}
use Rattle.qbec.proofs.pipeline.function_words.Goals as goal

pub returns-then-not-has_alloc-clause-stand : goal.returns-then-not-has_alloc-clause-stand
returns-then-not-has_alloc-clause-stand g c =
    let candidates = c.args.candidates.now in
    let f = c.args.func.now in
    IfOk-weaker c.promoted_words.result (λ code. StandWithin c.args.form candidates f code) (λ code. (promoted : Func) × IsPromoted f promoted × StandWith candidates promoted code)
    (λ code h. (f, c.has_alloc.ensures c.if-not-has_alloc.true, h.0)) c.promoted_words.ensures

pub returns-then-not-has_alloc-clause-few : goal.returns-then-not-has_alloc-clause-few
returns-then-not-has_alloc-clause-few g c =
    let f = c.args.func.now in
    IfOk-weaker c.promoted_words.result (λ code. StandWithin c.args.form c.args.candidates.now f code) (λ code. length code.words ≤ 32 * weight f + 256)
    (λ code h. h.1) c.promoted_words.ensures

pub promoted_words-requires-2 : goal.promoted_words-requires-2
promoted_words-requires-2 g c = still_good c.args.func.now c.in_ok-promoted.promoted c.in_ok-promoted.ensures c.requires

pub returns-clause-stand : goal.returns-clause-stand
returns-clause-stand g c =
    let candidates = c.args.candidates.now in
    let f = c.args.func.now in
    let p = c.in_ok-promoted.promoted in
    IfOk-weaker c.promoted_words-2.result (λ code. StandWithin c.args.form candidates p code) (λ code. (promoted : Func) × IsPromoted f promoted × StandWith candidates promoted code)
    (λ code h. (p, c.in_ok-promoted.ensures, h.0)) c.promoted_words-2.ensures

pub returns-clause-few : goal.returns-clause-few
returns-clause-few g c =
    let f = c.args.func.now in
    let p = c.in_ok-promoted.promoted in
    let same = same_weights f p c.in_ok-promoted.ensures in
    IfOk-weaker c.promoted_words-2.result (λ code. StandWithin c.args.form c.args.candidates.now p code) (λ code. length code.words ≤ 32 * weight f + 256)
    (λ code h. let few = h.1 in omega (arith, few, same)) c.promoted_words-2.ensures

pub returns-then-not-has_alloc-clause-calls : goal.returns-then-not-has_alloc-clause-calls
returns-then-not-has_alloc-clause-calls g c =
    IfOk-weaker c.promoted_words.result (λ code. StandWithin c.args.form c.args.candidates.now c.args.func.now code) (λ code. HaveForm c.args.form code.holes)
    (λ code h. h.2) c.promoted_words.ensures

pub returns-clause-calls : goal.returns-clause-calls
returns-clause-calls g c =
    IfOk-weaker c.promoted_words-2.result (λ code. StandWithin c.args.form c.args.candidates.now c.in_ok-promoted.promoted code) (λ code. HaveForm c.args.form code.holes)
    (λ code h. h.2) c.promoted_words-2.ensures
