-- Depth of calls, and steps, beyond the turns change nothing.
use Rattle.std.proofs.Common.{◌≡◌, ℕ, zero, suc, ◌-◌, ◌<◌, ◌≤◌, Bool, map, refl, ap, ◌∙◌, arith, cond, nat_lt, slice_get, Option, Some, None}
use Rattle.il_ast.specs.Prelude.{Dest, Param, Func, InText, Program, Callee, Defined, SystemWrite, SystemExit, Value, Undefined, Stack, Memory, need, Env, Activation, Call, Effect, Goes, Returns, Ends, effect, nothing, one_turn, one_call, Outcome, Returned, Ended, after, Callees, Rest, receive, resume, perform, run, begun, globals_of, call_fits, call_function, call_named, callees}
use Rattle.il_ast.specs.Effect.{Calls}

-- the same for every call with fewer turns than t; and for every activation with at most t turns
abbrev pub SameBelow : ℕ → Callees → Callees → Type 0
SameBelow t f g = (call : Call) (u room : ℕ) (m : Memory) → u < t → f call u room m ≡ g call u room m

abbrev pub SameUpTo : ℕ → Rest → Rest → Type 0
SameUpTo t f g = (u : ℕ) (a : Activation) (m : Memory) → u ≤ t → f u a m ≡ g u a m

same_receive : (f g : Rest) (t u : ℕ) → SameUpTo t f g → u ≤ t → (to : Option Dest) (a : Activation) (v : Option Value) (m : Memory) → receive f u to a v m ≡ receive g u to a v m
same_receive f g t u h le None a v m = h u a m le
same_receive f g t u h le (Some to) a None m = refl
same_receive f g t u h le (Some to) a (Some v) m = h u _ m le

same_resume : (f g : Rest) (t : ℕ) → SameUpTo t f g → (to : Option Dest) (a : Activation) (o : Outcome) → resume f t to a o ≡ resume g t to a o
same_resume f g t h to a (Returned s v m) = ap (after s) (same_receive f g t (t - s.turns) h (omega arith) to a v m)
same_resume f g t h to a (Ended s e) = refl

same_perform : (c d : Callees) (room : ℕ) (f g : Rest) (t : ℕ) → SameBelow (suc t) c d → SameUpTo t f g → (m : Memory) (e : Effect) → perform c room f t m e ≡ perform d room g t m e
same_perform c d room f g t cs h m (Goes w a now) = ap (after (one_turn w)) (h t a now (omega arith))
same_perform c d room f g t cs h m (Calls w call to a) =
    let first : resume f t to a (c call t room m) ≡ resume g t to a (c call t room m) = same_resume f g t h to a (c call t room m) in
    let second : resume g t to a (c call t room m) ≡ resume g t to a (d call t room m) =
    ap (resume g t to a) (cs call t room m (omega arith)) in
    ap (after (one_turn w)) (first ∙ second)
same_perform c d room f g t cs h m (Returns v now) = refl
same_perform c d room f g t cs h m (Ends e) = refl

-- steps of which there are as many as turns are enough
pub same_run : (env : Env) (c d : Callees) (room t j k : ℕ) → SameBelow t c d → t ≤ j → t ≤ k → SameUpTo t (run env c room j) (run env d room k)
unfolding run
same_run env c d room t zero zero cs tj tk u a m le = refl
same_run env c d room t zero (suc k) cs tj tk zero a m le = refl
same_run env c d room t zero (suc k) cs tj tk (suc u) a m le = absurd (omega arith)
same_run env c d room t (suc j) zero cs tj tk zero a m le = refl
same_run env c d room t (suc j) zero cs tj tk (suc u) a m le = absurd (omega arith)
same_run env c d room t (suc j) (suc k) cs tj tk zero a m le = refl
same_run env c d room t (suc j) (suc k) cs tj tk (suc u) a m le =
    same_perform c d room (run env c room j) (run env d room k) u
    (λ call v r n lt. cs call v r n (omega arith))
    (same_run env c d room u j k (λ call v r n lt. cs call v r n (omega arith)) (omega arith) (omega arith))
    m (effect env a m)

cond_same : (b : Bool) (o p x : Outcome) → o ≡ p → cond b o x ≡ cond b p x
cond_same b o p x e = ap (λ q. cond b q x) e

cond_second : (b : Bool) (x o p : Outcome) → o ≡ p → cond b x o ≡ cond b x p
cond_second b x o p e = ap (λ q. cond b x q) e

same_function : (p : Program) (c d : Callees) (t : ℕ) → SameBelow t c d → (call : Call) (room : ℕ) (m : Memory) (f : Option (InText Func)) → call_function p c call t room m f ≡ call_function p d call t room m f
same_function p c d t cs call room m None = refl
same_function p c d t cs call room m (Some f) =
    cond_same (call_fits call (map (λ (x : Param). x.class) f.item.params) f.item.result) _ _ (Ended nothing Undefined)
    (cond_second (nat_lt room (need f.item)) (Ended nothing Stack) _ _
    (ap (after one_call)
    (same_run (record { func = f.item; globals = globals_of p f.text }) c d (room - need f.item) t t t cs (omega arith) (omega arith)
    t (begun f.item call.args) m (omega arith))))

same_named : (p : Program) (c d : Callees) (t : ℕ) → SameBelow t c d → (call : Call) (room : ℕ) (m : Memory) (f : Callee) → call_named p c call t room m f ≡ call_named p d call t room m f
same_named p c d t cs call room m (Defined f) = same_function p c d t cs call room m (slice_get p.functions f)
same_named p c d t cs call room m SystemWrite = refl
same_named p c d t cs call room m SystemExit = refl

pub same_callees : (p : Program) (j k : ℕ) (call : Call) (t room : ℕ) (m : Memory) → t < j → t < k → callees p j call t room m ≡ callees p k call t room m
unfolding callees
same_callees p zero k call t room m tj tk = absurd (omega arith)
same_callees p (suc j) zero call t room m tj tk = absurd (omega arith)
same_callees p (suc j) (suc k) call t room m tj tk =
    same_named p (callees p j) (callees p k) t
    (λ inner u r n lt. same_callees p j k inner u r n (omega arith) (omega arith)) call room m call.callee
