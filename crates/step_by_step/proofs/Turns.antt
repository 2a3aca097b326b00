-- Few turns begin in few lines.
use Rattle.std.proofs.Common.{◌≡◌, ◌≤◌, true, false, ◌&&◌, nat_le, List, [], ◌∷◌, length, refl, ◌∙◌, ap, arith}
use Rattle.std.specs.List.{list_all, sum_by}
use Rattle.std.proofs.lemmas.Bool.Decides.{nat_tests}
use Rattle.std.proofs.lemmas.List.Sums.{sum_by-cons}
use Rattle.std.proofs.lemmas.Bool.{and_parts}
use Rattle.il_ast.specs.declared.limits.TheConstants.{FUNCTION_WEIGHT}
use Rattle.vcode.specs.declared.line.Line.{Line}
use Rattle.vcode.specs.declared.line.Line.TheVariants.{Tick, Set, Operate, Load, Store, Alloc, Blit, Call}
use Rattle.vcode.specs.declared.code.Block.{Block}
use Rattle.vcode.specs.Prelude.{turns_of}

one_at_most : {P : Type 0} (l : Line P) → turns_of l ≤ 1
one_at_most (Tick true w) = omega arith
one_at_most (Tick false w) = omega arith
one_at_most (Set to a) = omega arith
one_at_most (Operate to op a b) = omega arith
one_at_most (Load to op at) = omega arith
one_at_most (Store size a at) = omega arith
one_at_most (Alloc to size) = omega arith
one_at_most (Blit from to count) = omega arith
one_at_most (Call to callee args) = omega arith

few_turns : {P : Type 0} (lines : List (Line P)) → sum_by turns_of lines ≤ length lines
few_turns [] = omega arith
few_turns (l ∷ lines) =
    let e = sum_by-cons turns_of l lines in
    let here = one_at_most l in
    let rest = few_turns lines in
    omega (arith, e, here, rest)

short_is_paced : {P : Type 0} (lines : List (Line P)) → nat_le (length lines) FUNCTION_WEIGHT ≡ true → nat_le (sum_by turns_of lines) FUNCTION_WEIGHT ≡ true
short_is_paced lines h = let few = few_turns lines in grind (arith, nat_tests)

-- blocks of so few lines are paced
pub are_paced : {P : Type 0} (blocks : List (Block P))
    → list_all (λ (b : Block P). nat_le (length b.lines) FUNCTION_WEIGHT) blocks ≡ true → list_all (λ (b : Block P). nat_le (sum_by turns_of b.lines) FUNCTION_WEIGHT) blocks ≡ true
are_paced [] h = refl
are_paced (b ∷ blocks) h =
    let e = and_parts (nat_le (length b.lines) FUNCTION_WEIGHT) (list_all (λ c. nat_le (length c.lines) FUNCTION_WEIGHT) blocks) h in
    ap (λ t. t && list_all (λ c. nat_le (sum_by turns_of c.lines) FUNCTION_WEIGHT) blocks) (short_is_paced b.lines e.0) ∙ are_paced blocks e.1
