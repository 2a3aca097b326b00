use Rattle.std.proofs.Common.{ℕ, List, [], ◌∷◌, ◌++◌, Option, None, sym, ◌∙◌, ap, subst}
use Rattle.vcode.specs.declared.line.Line.{Line}
use Rattle.code_motion.specs.declared.later.waiting.Waiting.{Waiting}
use Rattle.code_motion.specs.Later.{AreLater, Makes}
use Rattle.code_motion.proofs.MakingLater.{begun_later, line_done}
use Rattle.code_motion.proofs.later.put_off.go_on.Goals as goal

pub returns-in-Some : goal.returns-in-Some
returns-in-Some c = λ all ls makes.
    let made : List (Line ℕ) = c.args.made.now.items in
    let l : Line ℕ = c.args.line.now in
    begun_later all made c.in-Some.begun l ls c.in-Some.ensures.line c.in-Some.ensures.may (subst (λ (q : Option Waiting). Makes all made q (l ∷ ls)) c.in-Some.ensures.free makes)

pub returns-in_ok-push-in-None : goal.returns-in_ok-push-in-None
returns-in_ok-push-in-None c = λ all ls makes rest h.
    let made : List (Line ℕ) = c.args.made.now.items in
    let l : Line ℕ = c.args.line.now in
    subst (λ (xs : List (Line ℕ)). AreLater None all (xs ++ rest)) (sym (c.in_ok-push-in-None.ensures.items ∙ ap (λ (x : Line ℕ). made ++ x ∷ []) c.in_ok-try_clone-in-None.ensures))
    (line_done all made c.args.waiting l ls c.requires makes rest h)
