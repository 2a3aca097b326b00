use Rattle.std.proofs.Common.{List, Vec, Global, Option, Bor, map, sym, subst}
use Rattle.std.proofs.lemmas.Result.{IfOk-weaker}
use Rattle.il_ast.specs.declared.function.Func.{Func}
use Rattle.il_ast.specs.declared.program.InText.{InText}
use Rattle.il_ast.specs.declared.program.Program.{Program}
use Rattle.obj_link.specs.Prelude.{program, shown}
use Rattle.vcode.specs.declared.function.VFunc.{VFunc}
use Rattle.qbec.specs.Pipeline.{AreGood, AreWords, AreWordsIn, AreCandidatesIn}
use Rattle.qbec.proofs.codes.codes_in.Goals as goal

pub codes_with-requires : goal.codes_with-requires
codes_with-requires g c = subst AreGood (sym c.as_slice-functions.ensures) c.requires

pub returns-clause-words : goal.returns-clause-words
returns-clause-words g c =
    let p = program c.args.linked.now in
    let tables = c.as_slice.result.now in
    let are = subst (λ (ts : List (Vec (Option VFunc) Global)). AreCandidatesIn p (map (λ t. t.items) ts)) (sym c.as_slice.ensures.value) c.in_ok-tables.ensures in
    IfOk-weaker c.codes_with.result (λ v. (q : Program) → AreCandidatesIn q (map (λ t. t.items) tables) → AreWordsIn q v.items (map shown c.as_slice-functions.result.now))
    (λ v. AreWords v.items p)
    (λ v each. subst (λ (fs : List (InText (Bor Func))). AreWordsIn p v.items (map shown fs)) c.as_slice-functions.ensures (each p are)) c.codes_with.ensures.words
