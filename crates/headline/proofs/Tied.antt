-- The knot: all calls are kept, by induction on how deep they nest.
use Rattle.std.proofs.Common.{◌≡◌, ℕ, zero, suc, ◌≤◌, refl, subst, arith, nat_lt, slice_get, Some}
use Rattle.std.proofs.lemmas.Bool.Decides.{nat_tests}
use Rattle.il_ast.specs.declared.program.Program.{Program}
use Rattle.il_ast.specs.declared.value.Callee.{Callee}
use Rattle.il_ast.specs.declared.value.Callee.TheVariants.{Defined, SystemWrite, SystemExit}
use Rattle.il_ast.specs.declared.value.End.TheVariants.{Turns}
use Rattle.il_ast.specs.Prelude.{nothing, Ended, call_named, callees, Asked}
use Rattle.headline.specs.Executables.{calls_in, FunctionsKept, CallsAreKept}
use Rattle.headline.specs.Knot.{Setting, KeepsCall, AllKept, NativesPerform}
use Rattle.headline.proofs.Trivial.{nothing_kept, by_test}
use Rattle.headline.proofs.Called.{function_call_kept}
use Rattle.headline.proofs.NativeCalls.{write_kept, exit_kept}

named_kept : (c : Setting) (p : Program) → FunctionsKept c p → NativesPerform c → (turns : ℕ) → AllKept c (calls_in p turns) → (sp : ℕ) (i : Asked) → i.turns ≤ turns → (f : Callee) → i.call.callee ≡ f
    → KeepsCall c sp i (call_named p (callees p turns) i.call i.turns i.room i.memory f)
named_kept c p functions natives turns all sp i low (Defined k) is =
    function_call_kept c p turns all sp i low (slice_get p.functions k)
    (λ f found at here. functions turns k at f found (subst (λ g. c.entries g ≡ Some at) is here))
named_kept c p functions natives turns all sp i low SystemWrite is = write_kept c p natives (callees p turns) sp i is
named_kept c p functions natives turns all sp i low SystemExit is = exit_kept c p natives (callees p turns) sp i is

pub calls_are_kept : CallsAreKept
unfolding callees
calls_are_kept c p is functions natives zero sp i =
    by_test (nat_lt i.turns 0) (KeepsCall c sp i) (Ended nothing Turns) (Ended nothing Turns) (λ some. nothing_kept c sp i) (λ none. nothing_kept c sp i)
calls_are_kept c p is functions natives (suc k) sp i =
    by_test (nat_lt i.turns (suc k)) (KeepsCall c sp i) (call_named p (callees p k) i.call i.turns i.room i.memory i.call.callee) (Ended nothing Turns)
    (λ some. (let low : i.turns ≤ k = grind (arith, nat_tests) in
    named_kept c p functions natives k (calls_are_kept c p is functions natives k) sp i low i.call.callee refl))
    (λ none. nothing_kept c sp i)
