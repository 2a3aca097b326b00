-- Lines are done or put off one after another.
use Rattle.std.proofs.Common.{◌≡◌, ℕ, true, List, [], ◌∷◌, ◌++◌, Option, Some, None, IfSome, Result, Ok, Err, IfOk, refl, sym, subst, append-nil}
use Rattle.il_ast.proofs.Listed.{append_one}
use Rattle.vcode.specs.declared.line.Line.{Line}
use Rattle.vcode.specs.declared.code.Block.{Block}
use Rattle.code_motion.specs.declared.later.waiting.Waiting.{Waiting}
use Rattle.code_motion.specs.Later.{line_of, may_wait, lets_wait, AreLater, NoLines, Own, PutOff, Waits, Done, Makes, IsLater}

-- what was put off is done
pub settled : (all made : List (Line ℕ)) (p : Waiting) (left : List (Line ℕ)) → Makes all made (Some p) left → Makes all (made ++ line_of p ∷ []) None left
settled all made p left makes = λ rest h. subst (AreLater None all) (sym (append_one made (line_of p) rest)) (makes (line_of p ∷ rest) (Done h))

-- a line is put off
pub begun_later : (all made : List (Line ℕ)) (p : Waiting) (l : Line ℕ) (left : List (Line ℕ)) → l ≡ line_of p → may_wait p ≡ true → Makes all made None (l ∷ left) → Makes all made (Some p) left
begun_later all made p l left is may makes = λ rest h. makes rest (subst (λ (x : Line ℕ). AreLater None (x ∷ left) rest) (sym is) (PutOff may h))

-- a line is done
pub line_done : (all made : List (Line ℕ)) (q : Option Waiting) (l : Line ℕ) (left : List (Line ℕ)) → IfSome q (λ p. lets_wait p l ≡ true) → Makes all made q (l ∷ left) → Makes all (made ++ l ∷ []) q left
line_done all made None l left fits makes = λ rest h. subst (AreLater None all) (sym (append_one made l rest)) (makes (l ∷ rest) (Own h))
line_done all made (Some p) l left fits makes = λ rest h. subst (AreLater None all) (sym (append_one made l rest)) (makes (l ∷ rest) (Waits fits h))

-- nothing is put off at the end
pub all_done : (all made : List (Line ℕ)) → Makes all made None [] → AreLater None all made
all_done all made makes = subst (AreLater None all) (append-nil made) (makes [] NoLines)

itself : (lines : List (Line ℕ)) → AreLater None lines lines
itself [] = NoLines
itself (l ∷ lines) = Own (itself lines)

pub copied_later : {E : Type 0} (b : Block ℕ) (r : Result (Block ℕ) E) → IfOk r (λ d. d ≡ b) → IfOk r (λ d. IsLater b d)
copied_later b (Ok d) same = subst (IsLater b) (sym same) (record { lines = itself b.lines; jump = refl; paid = λ h. h })
copied_later b (Err e) same = tt
