use Rattle.std.proofs.Common.{ℕ, List, [], ◌∷◌, ◌++◌, Option, None, sym, ◌∙◌, ap, subst}
use Rattle.vcode.specs.declared.line.Line.{Line}
use Rattle.code_motion.specs.declared.later.waiting.Waiting.{Waiting}
use Rattle.code_motion.specs.Later.{AreLater, Makes}
use Rattle.code_motion.proofs.MakingLater.{settled}
use Rattle.code_motion.proofs.later.put_off.settle.Goals as goal

pub returns-in_ok-push-in-Some-clause-makes : goal.returns-in_ok-push-in-Some-clause-makes
returns-in_ok-push-in-Some-clause-makes c = λ all ls makes rest h.
    let made : List (Line ℕ) = c.args.made.now.items in
    let p : Waiting = c.in-Some.operation in
    let left : List (Line ℕ) = c.args.line.now ∷ ls in
    subst (λ (xs : List (Line ℕ)). AreLater None all (xs ++ rest)) (sym (c.in_ok-push-in-Some.ensures.items ∙ ap (λ (x : Line ℕ). made ++ x ∷ []) c.line.ensures))
    (settled all made p left (subst (λ (q : Option Waiting). Makes all made q left) c.in-Some.is makes) rest h)
