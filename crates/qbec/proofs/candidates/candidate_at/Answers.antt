use Rattle.std.proofs.Common.{◌≡◌, List, Bor, Some, slice_get, subst}
use Rattle.il_ast.specs.declared.function.Func.{Func}
use Rattle.il_ast.specs.declared.program.InText.{InText}
use Rattle.obj_link.specs.Prelude.{program, shown}
use Rattle.qbec.proofs.Placing.{got_at, got_mapped, candidate_answer}
use Rattle.qbec.proofs.candidates.candidate_at.Goals as goal

pub candidate_code-requires : goal.candidate_code-requires
candidate_code-requires c =
    c.requires.good c.args.number c.in-Some.found.now
    (subst (λ (fs : List (InText (Bor Func))). slice_get fs c.args.number ≡ Some c.in-Some.found.now) c.as_slice.ensures
    (got_at c.as_slice.result.now c.args.number c.in-Some.found.now _ c.in-Some.ensures.lookup.0 c.in-Some.ensures.lookup.1))

pub returns-then-is_marked : goal.returns-then-is_marked
returns-then-is_marked c =
    let at =
    subst (λ (fs : List (InText (Bor Func))). slice_get fs c.args.number ≡ Some c.in-Some.found.now) c.as_slice.ensures
    (got_at c.as_slice.result.now c.args.number c.in-Some.found.now _ c.in-Some.ensures.lookup.0 c.in-Some.ensures.lookup.1)
    in
    candidate_answer (program c.args.linked.now) c.args.text c.args.number c.args.below.now (shown c.in-Some.found.now)
    (got_mapped shown c.args.linked.now.functions c.args.number c.in-Some.found.now at) c.if-found-text.true c.requires.below c.candidate_code.result c.candidate_code.ensures
