-- The machine gives what the recursive meaning gives.
use Rattle.std.proofs.Common.{◌≡◌, ℕ, zero, suc, ◌+◌, ◌-◌, Bool, true, false, cond, List, [], ◌∷◌, ◌++◌, map, refl, ap, sym, ◌∙◌, arith, append_assoc, nat_eq, nat_lt, slice_get, Option, Some, None, option_and_then, append-nil}
use Rattle.il_ast.specs.declared.operation.Class.TheVariants.{W, L}
use Rattle.il_ast.specs.declared.operand.Dest.{Dest}
use Rattle.il_ast.specs.declared.function.Param.{Param}
use Rattle.il_ast.specs.declared.program.InText.{InText}
use Rattle.il_ast.specs.declared.function.Func.{Func}
use Rattle.il_ast.specs.declared.program.Program.{Program}
use Rattle.il_ast.specs.declared.value.Callee.{Callee}
use Rattle.il_ast.specs.declared.value.Callee.TheVariants.{Defined, SystemWrite, SystemExit}
use Rattle.il_ast.specs.declared.value.Value.{Value}
use Rattle.il_ast.specs.declared.value.Value.TheVariants.{Integer, Pointer, Function}
use Rattle.il_ast.specs.declared.value.End.{End}
use Rattle.il_ast.specs.declared.value.End.TheVariants.{Undefined, Stack, Turns}
use Rattle.il_ast.specs.Prelude.{Memory, cells_at, plain_bytes, need, Env, Activation, Call, Effect, Goes, Returns, Ends, effect, Spent, nothing, one_turn, one_call, Outcome, Returned, Ended, after, Callees, Rest, receive, resume, perform, run, begun, body, start_memory, call_fits, call_function, call_named, callees, write_call, write_integer, write_bytes, put_out, answered, exit_call, stack_room, main_call, Behaviour, behaviour_of, end_of, spent_of, outcome, meaning}
use Rattle.il_ast.specs.Effect.{Calls}
use Rattle.il_ast.proofs.SameDepth.{SameUpTo, same_run, same_callees}
use Rattle.il_interp.specs.declared.state.Frame.{Frame}
use Rattle.il_interp.specs.declared.state.State.{State}
use Rattle.il_interp.specs.Machine.{Next, Over, act_of, standing, env_of, received, return_to, first_frame, entered, function_step, native_step, named_step, react, turn_in_function, step, go_on, machine, main_frame, started}

-- ---- a body in so many turns, with as much depth as the turns need

abbrev go : Program → Env → (room : ℕ) → Rest
go p env room t a m = run env (callees p (suc t)) room t t a m

same_perform : (c d : Callees) (room : ℕ) (f g : Rest) (t : ℕ) → ((call : Call) (m : Memory) → c call t room m ≡ d call t room m) → SameUpTo t f g → (m : Memory) (e : Effect) → perform c room f t m e ≡ perform d room g t m e
same_perform c d room f g t cs h m (Goes w a now) = ap (after (one_turn w)) (h t a now (omega arith))
same_perform c d room f g t cs h m (Calls w call to a) =
    ap (after (one_turn w)) (resumed (c call t room m) ∙ ap (resume g t to a) (cs call m))
  where
    taken : (s : Spent) (to : Option Dest) (v : Option Value) (now : Memory) → receive f (t - s.turns) to a v now ≡ receive g (t - s.turns) to a v now
    taken s None v now = h (t - s.turns) a now (omega arith)
    taken s (Some d) None now = refl
    taken s (Some d) (Some v) now = h (t - s.turns) _ now (omega arith)

    resumed : (o : Outcome) → resume f t to a o ≡ resume g t to a o
    resumed (Returned s v now) = ap (after s) (taken s to v now)
    resumed (Ended s e) = refl
same_perform c d room f g t cs h m (Returns v now) = refl
same_perform c d room f g t cs h m (Ends e) = refl

go_further : (p : Program) (env : Env) (room t : ℕ) (a : Activation) (m : Memory) → go p env room (suc t) a m ≡ perform (callees p (suc t)) room (go p env room) t m (effect env a m)
unfolding run
go_further p env room t a m =
    same_perform (callees p (suc (suc t))) (callees p (suc t)) room (run env (callees p (suc (suc t))) room t) (go p env room) t
    (λ call n. same_callees p (suc (suc t)) (suc t) call t room n (omega arith) (omega arith))
    (λ u b n le. same_run env (callees p (suc (suc t))) (callees p (suc u)) room u t u
    (λ call v r k lt. same_callees p (suc (suc t)) (suc u) call v r k (omega arith) (omega arith)) le (omega arith) u b n (omega arith))
    m (effect env a m)

go_none : (p : Program) (env : Env) (room : ℕ) (a : Activation) (m : Memory) → go p env room zero a m ≡ Ended nothing Turns
unfolding run
go_none p env room a m = refl

body_goes : (p : Program) (env : Env) (room t : ℕ) (args : List Value) (m : Memory) → body env (callees p t) t room args m ≡ go p env room t (begun env.func args) m
body_goes p env room t args m =
    same_run env (callees p t) (callees p (suc t)) room t t t
    (λ call v r k lt. same_callees p t (suc t) call v r k (omega arith) (omega arith)) (omega arith) (omega arith) t (begun env.func args) m (omega arith)

-- ---- how an activation of the machine goes on

abbrev rest_at : Program → ℕ → Option (InText Func) → Rest
rest_at p room None zero a m = Ended nothing Turns
rest_at p room None (suc t) a m = Ended nothing Undefined
rest_at p room (Some f) t a m = go p (env_of p f) room t a m

abbrev rest_of : Program → Frame → Rest
rest_of p f t a m = rest_at p f.room (slice_get p.functions f.function) t a m

rest_none : (p : Program) (room : ℕ) (o : Option (InText Func)) (a : Activation) (m : Memory) → rest_at p room o zero a m ≡ Ended nothing Turns
rest_none p room None a m = refl
rest_none p room (Some f) a m = go_none p (env_of p f) room a m

-- ---- what a run comes to where an activation ends so, below which these wait

abbrev unwind : Program → (t : ℕ) → List Frame → List ℕ → Outcome → Behaviour
unwind p t [] out (Returned s v m) = record { output = out ++ s.output; ending = end_of v }
unwind p t [] out (Ended s e) = record { output = out ++ s.output; ending = e }
unwind p t (f ∷ fs) out (Returned s v m) =
    unwind p (t - s.turns) fs (out ++ s.output) (receive (rest_of p f) (t - s.turns) f.waits (act_of f) v m)
unwind p t (f ∷ fs) out (Ended s e) = record { output = out ++ s.output; ending = e }

abbrev behaves : List ℕ → End → Behaviour
behaves out e = record { output = out; ending = e }

unwind_ended : (p : Program) (t : ℕ) (fs : List Frame) (out : List ℕ) (s : Spent) (e : End) → s.output ≡ [] → unwind p t fs out (Ended s e) ≡ behaves out e
unwind_ended p t [] out s e n = ap (λ x. behaves x e) (ap (λ x. out ++ x) n ∙ append-nil out)
unwind_ended p t (f ∷ fs) out s e n = ap (λ x. behaves x e) (ap (λ x. out ++ x) n ∙ append-nil out)

over : (p : Program) (t : ℕ) (fs : List Frame) (out : List ℕ) (s : Spent) (e : End) → behaves (out ++ s.output) e ≡ unwind p t fs out (Ended s e)
over p t [] out s e = refl
over p t (f ∷ fs) out s e = refl

unwind_after : (p : Program) (t : ℕ) (fs : List Frame) (out : List ℕ) (s : Spent) (o : Outcome) → unwind p t fs out (after s o) ≡ unwind p (t - s.turns) fs (out ++ s.output) o
unwind_after p t [] out s (Returned u v m) = ap (λ x. behaves x (end_of v)) (sym (append_assoc out s.output u.output))
unwind_after p t [] out s (Ended u e) = ap (λ x. behaves x e) (sym (append_assoc out s.output u.output))
unwind_after p t (f ∷ fs) out s (Returned u v m) =
    let turns : t - (s.turns + u.turns) ≡ (t - s.turns) - u.turns = omega arith in
    ap (λ x. unwind p (t - (s.turns + u.turns)) fs x (receive (rest_of p f) (t - (s.turns + u.turns)) f.waits (act_of f) v m)) (sym (append_assoc out s.output u.output))
    ∙ ap (λ k. unwind p k fs ((out ++ s.output) ++ u.output) (receive (rest_of p f) k f.waits (act_of f) v m)) turns
unwind_after p t (f ∷ fs) out s (Ended u e) = ap (λ x. behaves x e) (sym (append_assoc out s.output u.output))

-- after a turn, and after the entry of a call
unwind_turn : (p : Program) (n : ℕ) (fs : List Frame) (out : List ℕ) (w : ℕ) (o : Outcome) → unwind p (suc n) fs out (after (one_turn w) o) ≡ unwind p n fs out o
unwind_turn p n fs out w o =
    let one : suc n - 1 ≡ n = omega arith in
    unwind_after p (suc n) fs out (one_turn w) o ∙ (ap (λ k. unwind p k fs (out ++ []) o) one ∙ ap (λ x. unwind p n fs x o) (append-nil out))

unwind_call : (p : Program) (n : ℕ) (fs : List Frame) (out : List ℕ) (o : Outcome) → unwind p n fs out (after one_call o) ≡ unwind p n fs out o
unwind_call p n fs out o =
    let none : n - 0 ≡ n = omega arith in
    unwind_after p n fs out one_call o ∙ (ap (λ k. unwind p k fs (out ++ []) o) none ∙ ap (λ x. unwind p n fs x o) (append-nil out))

-- an activation that waits
unwind_waits : (p : Program) (n : ℕ) (g : Frame) (to : Option Dest) (fs : List Frame) (out : List ℕ) (o : Outcome) → unwind p n fs out (resume (rest_of p g) n to (act_of g) o) ≡ unwind p n (record g { waits = to } ∷ fs) out o
unwind_waits p n g to fs out (Returned s v m) = unwind_after p n fs out s (receive (rest_of p g) (n - s.turns) to (act_of g) v m)
unwind_waits p n g to fs out (Ended s e) = sym (over p n fs out s e)

-- ---- one turn

abbrev Unwinds : Program → ℕ → Type 0
Unwinds p n = (st : State) → machine p n st ≡ unwind p n st.below st.output (rest_of p st.frame n (act_of st.frame) st.memory)

received_is : (p : Program) (n : ℕ) → Unwinds p n → (st : State) (to : Option Dest) (v : Option Value) → go_on (machine p n) (received st to v) ≡ unwind p n st.below st.output (receive (rest_of p st.frame) n to (act_of st.frame) v st.memory)
received_is p n ih st None v = ih st
received_is p n ih st (Some to) None = sym (unwind_ended p n st.below st.output nothing Undefined refl)
received_is p n ih st (Some to) (Some v) = ih _

native_is : (p : Program) (n : ℕ) → Unwinds p n → (st : State) (to : Option Dest) (o : Outcome) → (spent_of o).turns ≡ 0 → go_on (machine p n) (native_step st to o) ≡ unwind p n st.below st.output (resume (rest_of p st.frame) n to (act_of st.frame) o)
native_is p n ih st to (Returned s v m) z =
    let none : n - s.turns ≡ n = omega (arith, z) in
    received_is p n ih (record st { memory = m; output = st.output ++ s.output }) to v
    ∙ sym (unwind_after p n st.below st.output s (receive (rest_of p st.frame) (n - s.turns) to (act_of st.frame) v m)
    ∙ ap (λ k. unwind p k st.below (st.output ++ s.output) (receive (rest_of p st.frame) k to (act_of st.frame) v m)) none)
native_is p n ih st to (Ended s e) z = over p n st.below st.output s e

-- the predefined functions take no turn
put_free : (n : ℕ) (m : Memory) (bytes : Option (List ℕ)) → (spent_of (put_out n m bytes)).turns ≡ 0
put_free n m None = refl
put_free n m (Some bytes) = refl

cond_free : (b : Bool) (o p : Outcome) → (spent_of o).turns ≡ 0 → (spent_of p).turns ≡ 0 → (spent_of (cond b o p)).turns ≡ 0
cond_free true o p h k = h
cond_free false o p h k = k

bytes_free : (p : Value) (n : ℕ) (m : Memory) → (spent_of (write_bytes p n m)).turns ≡ 0
bytes_free (Pointer b o) n m = cond_free (nat_eq n 0) (answered [] 0 m) _ refl (put_free n m (option_and_then plain_bytes (cells_at m b o n)))
bytes_free (Integer k) n m = cond_free (nat_eq n 0) (answered [] 0 m) (Ended nothing Undefined) refl refl
bytes_free (Function f) n m = cond_free (nat_eq n 0) (answered [] 0 m) (Ended nothing Undefined) refl refl

integer_free : (p n : Value) (m : Memory) → (spent_of (write_integer p n m)).turns ≡ 0
integer_free p (Integer n) m = bytes_free p n m
integer_free p (Pointer b o) m = refl
integer_free p (Function f) m = refl

write_free : (args : List Value) (m : Memory) → (spent_of (write_call args m)).turns ≡ 0
write_free [] m = refl
write_free (Pointer b o ∷ args) m = refl
write_free (Function f ∷ args) m = refl
write_free (Integer d ∷ []) m = refl
write_free (Integer d ∷ p ∷ []) m = refl
write_free (Integer d ∷ p ∷ n ∷ []) m = cond_free (nat_eq d 1) (write_integer p n m) _ (integer_free p n m) refl
write_free (Integer d ∷ p ∷ n ∷ q ∷ args) m = refl

exit_free : (args : List Value) → (spent_of (exit_call args)).turns ≡ 0
exit_free [] = refl
exit_free (Pointer b o ∷ args) = refl
exit_free (Function f ∷ args) = refl
exit_free (Integer s ∷ []) = refl
exit_free (Integer s ∷ a ∷ args) = refl

-- a choice on both sides
cond_is : (b : Bool) (rest : State → Behaviour) (f : Outcome → Behaviour) (x y : Next) (o q : Outcome) → go_on rest x ≡ f o → go_on rest y ≡ f q → go_on rest (cond b x y) ≡ f (cond b o q)
cond_is true rest f x y o q h k = h
cond_is false rest f x y o q h k = k

undefined_is : (p : Program) (n : ℕ) (st : State) (to : Option Dest) (e : End) → go_on (machine p n) (Over st.output e) ≡ unwind p n st.below st.output (resume (rest_of p st.frame) n to (act_of st.frame) (Ended nothing e))
undefined_is p n st to e = sym (unwind_ended p n st.below st.output nothing e refl)

entered_is : (p : Program) (n : ℕ) → Unwinds p n → (st : State) (to : Option Dest) (call : Call) (k : ℕ) (f : InText Func) → slice_get p.functions k ≡ Some f → machine p n (entered st to call k f.item) ≡ unwind p n st.below st.output (resume (rest_of p st.frame) n to (act_of st.frame) (after one_call (body (env_of p f) (callees p n) n (st.frame.room - need f.item) call.args st.memory)))
entered_is p n ih st to call k f at =
    let fs : List Frame = record st.frame { waits = to } ∷ st.below in
    let room : ℕ = st.frame.room - need f.item in
    ih (entered st to call k f.item)
    ∙ (ap (λ o. unwind p n fs st.output (rest_at p room o n (begun f.item call.args) st.memory)) at
    ∙ (ap (unwind p n fs st.output) (sym (body_goes p (env_of p f) room n call.args st.memory))
    ∙ (sym (unwind_call p n fs st.output (body (env_of p f) (callees p n) n room call.args st.memory))
    ∙ sym (unwind_waits p n st.frame to st.below st.output (after one_call (body (env_of p f) (callees p n) n room call.args st.memory))))))

function_is : (p : Program) (n : ℕ) → Unwinds p n → (st : State) (to : Option Dest) (call : Call) (k : ℕ) (o : Option (InText Func)) → slice_get p.functions k ≡ o → go_on (machine p n) (function_step st to call k o) ≡ unwind p n st.below st.output (resume (rest_of p st.frame) n to (act_of st.frame) (call_function p (callees p n) call n st.frame.room st.memory o))
function_is p n ih st to call k None at = undefined_is p n st to Undefined
function_is p n ih st to call k (Some f) at =
    cond_is (call_fits call (map (λ (x : Param). x.class) f.item.params) f.item.result) (machine p n)
    (λ o. unwind p n st.below st.output (resume (rest_of p st.frame) n to (act_of st.frame) o)) _ _ _ _
    (cond_is (nat_lt st.frame.room (need f.item)) (machine p n)
    (λ o. unwind p n st.below st.output (resume (rest_of p st.frame) n to (act_of st.frame) o)) _ _ _ _
    (undefined_is p n st to Stack) (entered_is p n ih st to call k f at))
    (undefined_is p n st to Undefined)

named_is : (p : Program) (n : ℕ) → Unwinds p n → (st : State) (to : Option Dest) (call : Call) (k : Callee) → go_on (machine p n) (named_step p st to call k) ≡ unwind p n st.below st.output (resume (rest_of p st.frame) n to (act_of st.frame) (call_named p (callees p n) call n st.frame.room st.memory k))
named_is p n ih st to call (Defined k) = function_is p n ih st to call k (slice_get p.functions k) refl
named_is p n ih st to call SystemWrite =
    cond_is (call_fits call (W ∷ L ∷ L ∷ []) (Some L)) (machine p n)
    (λ o. unwind p n st.below st.output (resume (rest_of p st.frame) n to (act_of st.frame) o)) _ _ _ _
    (native_is p n ih st to (write_call call.args st.memory) (write_free call.args st.memory)) (undefined_is p n st to Undefined)
named_is p n ih st to call SystemExit =
    cond_is (call_fits call (W ∷ []) None) (machine p n)
    (λ o. unwind p n st.below st.output (resume (rest_of p st.frame) n to (act_of st.frame) o)) _ _ _ _
    (native_is p n ih st to (exit_call call.args) (exit_free call.args)) (undefined_is p n st to Undefined)

return_is : (p : Program) (n : ℕ) → Unwinds p n → (fs : List Frame) (out : List ℕ) (v : Option Value) (m : Memory) → go_on (machine p n) (return_to out m v fs) ≡ unwind p (suc n) fs out (Returned (one_turn 1) v m)
return_is p n ih [] out v m = ap (λ x. behaves x (end_of v)) (sym (append-nil out))
return_is p n ih (f ∷ fs) out v m =
    let one : suc n - 1 ≡ n = omega arith in
    received_is p n ih (record { frame = f; below = fs; memory = m; output = out }) f.waits v
    ∙ sym (ap (λ k. unwind p k fs (out ++ []) (receive (rest_of p f) k f.waits (act_of f) v m)) one
    ∙ ap (λ x. unwind p n fs x (receive (rest_of p f) n f.waits (act_of f) v m)) (append-nil out))

-- the rest of the activation's function, at any room
rest_some : (p : Program) (fr : Frame) (f : InText Func) → slice_get p.functions fr.function ≡ Some f → (t : ℕ) (a : Activation) (m : Memory) → rest_of p fr t a m ≡ go p (env_of p f) fr.room t a m
rest_some p fr f at t a m = ap (λ o. rest_at p fr.room o t a m) at

reacts : (p : Program) (n : ℕ) → Unwinds p n → (st : State) (f : InText Func) → slice_get p.functions st.frame.function ≡ Some f → (e : Effect) → go_on (machine p n) (react p st e) ≡ unwind p (suc n) st.below st.output (perform (callees p (suc n)) st.frame.room (rest_of p st.frame) n st.memory e)
unfolding callees
reacts p n ih st f at (Goes w a m) =
    ih (record st { frame = standing st.frame a; memory = m }) ∙ sym (unwind_turn p n st.below st.output w (rest_of p st.frame n a m))
reacts p n ih st f at (Calls w call to a) =
    named_is p n ih (record st { frame = standing st.frame a }) to call call.callee
    ∙ sym (unwind_turn p n st.below st.output w (resume (rest_of p st.frame) n to a (call_named p (callees p n) call n st.frame.room st.memory call.callee)))
reacts p n ih st f at (Returns v m) = return_is p n ih st.below st.output v m
reacts p n ih st f at (Ends e) = sym (unwind_ended p (suc n) st.below st.output (one_turn 1) e refl)

pub unwinds : (p : Program) (n : ℕ) → Unwinds p n
unfolding machine step
unwinds p zero st =
    sym (ap (unwind p zero st.below st.output) (rest_none p st.frame.room (slice_get p.functions st.frame.function) (act_of st.frame) st.memory)
    ∙ unwind_ended p zero st.below st.output nothing Turns refl)
unwinds p (suc n) st = at (unwinds p n) (slice_get p.functions st.frame.function) refl
  where
    at : Unwinds p n → (o : Option (InText Func)) → slice_get p.functions st.frame.function ≡ o → go_on (machine p n) (turn_in_function p st (slice_get p.functions st.frame.function)) ≡ unwind p (suc n) st.below st.output (rest_of p st.frame (suc n) (act_of st.frame) st.memory)
    at ih None e =
        ap (λ o. go_on (machine p n) (turn_in_function p st o)) e
        ∙ sym (ap (λ o. unwind p (suc n) st.below st.output (rest_at p st.frame.room o (suc n) (act_of st.frame) st.memory)) e
        ∙ unwind_ended p (suc n) st.below st.output nothing Undefined refl)
    at ih (Some f) e =
        ap (λ o. go_on (machine p n) (turn_in_function p st o)) e
        ∙ (reacts p n ih st f e (effect (env_of p f) (act_of st.frame) st.memory)
        ∙ ap (unwind p (suc n) st.below st.output) (whole f e))
      where
        whole : (f : InText Func) → slice_get p.functions st.frame.function ≡ Some f → perform (callees p (suc n)) st.frame.room (rest_of p st.frame) n st.memory (effect (env_of p f) (act_of st.frame) st.memory) ≡ rest_of p st.frame (suc n) (act_of st.frame) st.memory
        whole f e =
            same_perform (callees p (suc n)) (callees p (suc n)) st.frame.room (rest_of p st.frame) (go p (env_of p f) st.frame.room) n
            (λ call m. refl) (λ u a m le. rest_some p st.frame f e u a m) st.memory (effect (env_of p f) (act_of st.frame) st.memory)
            ∙ (sym (go_further p (env_of p f) st.frame.room n (act_of st.frame) st.memory)
            ∙ sym (rest_some p st.frame f e (suc n) (act_of st.frame) st.memory))

-- ---- the whole

begins : (p : Program) (n : ℕ) (m : Memory) (call : Call) (k : ℕ) (o : Option (InText Func)) → slice_get p.functions k ≡ o → go_on (machine p n) (main_frame m call k o) ≡ behaviour_of (call_function p (callees p n) call n stack_room m o)
begins p n m call k None at = refl
begins p n m call k (Some f) at =
    cond_is (call_fits call (map (λ (x : Param). x.class) f.item.params) f.item.result) (machine p n) behaviour_of _ _ _ _
    (cond_is (nat_lt stack_room (need f.item)) (machine p n) behaviour_of _ _ _ _ refl first)
    refl
  where
    room : ℕ
    room = stack_room - need f.item

    end_of_all : (o : Outcome) → unwind p n [] [] o ≡ behaviour_of (after one_call o)
    end_of_all (Returned s v now) = refl
    end_of_all (Ended s e) = refl

    first : machine p n (record { frame = first_frame k stack_room f.item call.args; below = []; memory = m; output = [] }) ≡ behaviour_of (after one_call (body (env_of p f) (callees p n) n room call.args m))
    first =
        unwinds p n (record { frame = first_frame k stack_room f.item call.args; below = []; memory = m; output = [] })
        ∙ (ap (λ o. unwind p n [] [] (rest_at p room o n (begun f.item call.args) m)) at
        ∙ (ap (unwind p n [] []) (sym (body_goes p (env_of p f) room n call.args m))
        ∙ end_of_all (body (env_of p f) (callees p n) n room call.args m)))

pub machine_means : (p : Program) (words : List (List ℕ)) (n : ℕ) → go_on (machine p n) (started p words) ≡ meaning p words n
unfolding meaning outcome callees started
machine_means p words n = begins p n (start_memory p words) (main_call p words) p.main (slice_get p.functions p.main) refl
