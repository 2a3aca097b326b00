-- What the bound of `main` says of its program.
use Rattle.std.proofs.Common.{◌≡◌, ◌≤◌, ℕ, sym, Option, Some, None, IfSome}
use Rattle.il_ast.specs.declared.limits.TheConstants.{STACK_ROOM}
use Rattle.il_ast.specs.declared.program.Program.{Program}
use Rattle.il_ast.specs.declared.value.Callee.TheVariants.{Defined}
use Rattle.stack_bound.specs.declared.bounds.Bounds.{Bounds}
use Rattle.stack_bound.specs.Bounds.{AreBounds, bound_of, IsEnough, StaysInStack}
use Rattle.stack_bound.proofs.GoodRuns.{bounds_are_enough, enough_stays}

pub main_enough : (p : Program) (b : Bounds) (r : Option ℕ) → AreBounds p b → r ≡ bound_of b (Defined p.main) → IfSome r (IsEnough p)
main_enough p b None right is = tt
main_enough p b (Some n) right is = bounds_are_enough p b n right (sym is)

pub main_stays : (p : Program) (b : Bounds) (r : Option ℕ) → AreBounds p b → r ≡ bound_of b (Defined p.main) → IfSome r (λ (n : ℕ). n ≤ STACK_ROOM → StaysInStack p)
main_stays p b None right is = tt
main_stays p b (Some n) right is = λ le. enough_stays p n (bounds_are_enough p b n right (sym is)) le
