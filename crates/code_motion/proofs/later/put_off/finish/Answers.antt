use Rattle.std.proofs.Common.{ℕ, List, [], ◌∷◌, ◌++◌, Option, None, sym, ◌∙◌, ap, subst}
use Rattle.vcode.specs.declared.line.Line.{Line}
use Rattle.code_motion.specs.declared.later.waiting.Waiting.{Waiting}
use Rattle.code_motion.specs.Later.{line_of, AreLater, Makes}
use Rattle.code_motion.proofs.MakingLater.{settled, all_done}
use Rattle.code_motion.proofs.later.put_off.finish.Goals as goal

pub returns-in_ok-push-in-Some : goal.returns-in_ok-push-in-Some
returns-in_ok-push-in-Some c = λ all makes.
    let made : List (Line ℕ) = c.args.made.now.items in
    let p : Waiting = c.in-Some.operation in
    subst (AreLater None all) (sym (c.in_ok-push-in-Some.ensures.items ∙ ap (λ (x : Line ℕ). made ++ x ∷ []) c.line.ensures))
    (all_done all (made ++ line_of p ∷ []) (settled all made p [] (subst (λ (q : Option Waiting). Makes all made q []) c.in-Some.is makes)))

pub returns-in-None : goal.returns-in-None
returns-in-None c = λ all makes. all_done all c.args.made.now.items (subst (λ (q : Option Waiting). Makes all c.args.made.now.items q []) c.in-None.is makes)
