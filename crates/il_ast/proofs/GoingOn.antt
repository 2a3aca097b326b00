-- More turns go on from where fewer stopped.
use Rattle.std.proofs.Common.{◌≡◌, ◌≢◌, ℕ, zero, suc, ◌-◌, ◌≤◌, Bool, true, false, List, [], ◌∷◌, ◌++◌, map, refl, sym, ◌∙◌, ap, subst, append_assoc, arith, cond, nat_lt, slice_get, Option, Some, None}
use Rattle.il_ast.specs.Prelude.{Dest, Param, Func, InText, Program, Callee, Defined, SystemWrite, SystemExit, Value, End, Exit, Halt, Undefined, Stack, Turns, Memory, need, Env, Activation, Call, Effect, Goes, Returns, Ends, effect, Spent, nothing, one_turn, one_call, both, Outcome, Returned, Ended, after, Callees, Rest, receive, resume, perform, run, begun, body, globals_of, start_memory, call_fits, call_function, call_named, callees, main_call, stack_room, outcome, meaning, spent_of, behaviour_of}
use Rattle.il_ast.specs.Effect.{Calls}

-- what was put out
abbrev pub output_of : Outcome → List ℕ
output_of o = (spent_of o).output

-- the output of the second begins with that of the first
pub record Adds (s : List ℕ) (o : Outcome) : Type 0 where
  pub more : List ℕ
  pub is : output_of o ≡ s ++ more

-- an end, as more turns have it: out of turns it may go on, and else it stays
abbrev pub EndGoesOn : Spent → End → Outcome → Type 0
EndGoesOn s (Exit n) o = o ≡ Ended s (Exit n)
EndGoesOn s Halt o = o ≡ Ended s Halt
EndGoesOn s Undefined o = o ≡ Ended s Undefined
EndGoesOn s Stack o = o ≡ Ended s Stack
EndGoesOn s Turns o = Adds s.output o

abbrev pub GoesOn : Outcome → Outcome → Type 0
GoesOn (Returned s v m) o = o ≡ Returned s v m
GoesOn (Ended s e) o = EndGoesOn s e o

abbrev pub CalleesGoOn : Callees → Callees → Type 0
CalleesGoOn f g = (call : Call) (t u room : ℕ) (m : Memory) → t ≤ u → GoesOn (f call t room m) (g call u room m)

abbrev pub RestGoesOn : Rest → Rest → Type 0
RestGoesOn f g = (t u : ℕ) (a : Activation) (m : Memory) → t ≤ u → GoesOn (f t a m) (g u a m)

adds_self : (s : List ℕ) (o : Outcome) → output_of o ≡ s → Adds s o
adds_self s o e = record { more = []; is = e ∙ sym (append_nil s) }
  where
    append_nil : (xs : List ℕ) → xs ++ [] ≡ xs
    append_nil [] = refl
    append_nil (x ∷ xs) = ap (λ ys. x ∷ ys) (append_nil xs)

-- nothing done yet goes on as anything
from_nothing : (o : Outcome) → Adds [] o
from_nothing o = record { more = output_of o; is = refl }

end_stays : (s : Spent) (e : End) → EndGoesOn s e (Ended s e)
end_stays s (Exit n) = refl
end_stays s Halt = refl
end_stays s Undefined = refl
end_stays s Stack = refl
end_stays s Turns = adds_self s.output (Ended s Turns) refl

pub stays : (o : Outcome) → GoesOn o o
stays (Returned s v m) = refl
stays (Ended s e) = end_stays s e

output_after : (s : Spent) (o : Outcome) → output_of (after s o) ≡ s.output ++ output_of o
output_after s (Returned t v m) = refl
output_after s (Ended t e) = refl

adds_after : (s : Spent) (xs : List ℕ) (o : Outcome) → Adds xs o → Adds (s.output ++ xs) (after s o)
adds_after s xs o h =
    record { more = h.more; is = output_after s o ∙ (ap (λ ys. s.output ++ ys) h.is ∙ sym (append_assoc s.output xs h.more)) }

end_after : (s t : Spent) (e : End) (o : Outcome) → EndGoesOn t e o → EndGoesOn (both s t) e (after s o)
end_after s t (Exit n) o h = ap (after s) h
end_after s t Halt o h = ap (after s) h
end_after s t Undefined o h = ap (after s) h
end_after s t Stack o h = ap (after s) h
end_after s t Turns o h = adds_after s t.output o h

pub after_goes_on : (s : Spent) (o u : Outcome) → GoesOn o u → GoesOn (after s o) (after s u)
after_goes_on s (Returned t v m) u h = ap (after s) h
after_goes_on s (Ended t e) u h = end_after s t e u h

receive_goes_on : (f g : Rest) → RestGoesOn f g → (t u : ℕ) → t ≤ u → (to : Option Dest) (a : Activation) (v : Option Value) (m : Memory) → GoesOn (receive f t to a v m) (receive g u to a v m)
receive_goes_on f g h t u le None a v m = h t u a m le
receive_goes_on f g h t u le (Some to) a None m = refl
receive_goes_on f g h t u le (Some to) a (Some v) m = h t u _ m le

output_resume : (g : Rest) (u : ℕ) (to : Option Dest) (a : Activation) (o : Outcome) → Adds (output_of o) (resume g u to a o)
output_resume g u to a (Returned s v m) =
    record { more = output_of (receive g (u - s.turns) to a v m); is = output_after s (receive g (u - s.turns) to a v m) }
output_resume g u to a (Ended s e) = adds_self s.output (Ended s e) refl

adds_more : (xs : List ℕ) (o u : Outcome) → Adds xs o → Adds (output_of o) u → Adds xs u
adds_more xs o u h k =
    record { more = h.more ++ k.more; is = k.is ∙ (ap (λ ys. ys ++ k.more) h.is ∙ append_assoc xs h.more k.more) }

resume_end : (g : Rest) (u : ℕ) (to : Option Dest) (a : Activation) (s : Spent) (e : End) (p : Outcome) → EndGoesOn s e p → EndGoesOn s e (resume g u to a p)
resume_end g u to a s (Exit n) p h = ap (resume g u to a) h
resume_end g u to a s Halt p h = ap (resume g u to a) h
resume_end g u to a s Undefined p h = ap (resume g u to a) h
resume_end g u to a s Stack p h = ap (resume g u to a) h
resume_end g u to a s Turns p h = adds_more s.output p (resume g u to a p) h (output_resume g u to a p)

resume_goes_on : (f g : Rest) → RestGoesOn f g → (t u : ℕ) → t ≤ u → (to : Option Dest) (a : Activation) (o p : Outcome) → GoesOn o p → GoesOn (resume f t to a o) (resume g u to a p)
resume_goes_on f g h t u le to a (Returned s v m) p e =
    let same : resume g u to a (Returned s v m) ≡ resume g u to a p = ap (resume g u to a) (sym e) in
    subst (λ (q : Outcome). GoesOn (resume f t to a (Returned s v m)) q) same
    (after_goes_on s (receive f (t - s.turns) to a v m) (receive g (u - s.turns) to a v m)
    (receive_goes_on f g h (t - s.turns) (u - s.turns) (omega arith) to a v m))
resume_goes_on f g h t u le to a (Ended s e) p k = resume_end g u to a s e p k

perform_goes_on : (c d : Callees) → CalleesGoOn c d → (room : ℕ) (f g : Rest) → RestGoesOn f g → (t u : ℕ) → t ≤ u → (m : Memory) (e : Effect) → GoesOn (perform c room f t m e) (perform d room g u m e)
perform_goes_on c d cs room f g h t u le m (Goes w a now) = after_goes_on (one_turn w) (f t a now) (g u a now) (h t u a now le)
perform_goes_on c d cs room f g h t u le m (Calls w call to a) =
    after_goes_on (one_turn w) (resume f t to a (c call t room m)) (resume g u to a (d call u room m))
    (resume_goes_on f g h t u le to a (c call t room m) (d call u room m) (cs call t u room m le))
perform_goes_on c d cs room f g h t u le m (Returns v now) = refl
perform_goes_on c d cs room f g h t u le m (Ends e) = end_stays (one_turn 1) e

pub run_goes_on : (env : Env) (c d : Callees) → CalleesGoOn c d → (room j k : ℕ) → j ≤ k → RestGoesOn (run env c room j) (run env d room k)
unfolding run
run_goes_on env c d cs room zero k jk t u a m le = from_nothing (run env d room k u a m)
run_goes_on env c d cs room (suc j) k jk zero u a m le = from_nothing (run env d room k u a m)
run_goes_on env c d cs room (suc j) zero jk (suc t) u a m le = absurd (omega arith)
run_goes_on env c d cs room (suc j) (suc k) jk (suc t) zero a m le = absurd (omega arith)
run_goes_on env c d cs room (suc j) (suc k) jk (suc t) (suc u) a m le =
    perform_goes_on c d cs room (run env c room j) (run env d room k) (run_goes_on env c d cs room j k (omega arith)) t u (omega arith) m (effect env a m)

body_goes_on : (env : Env) (c d : Callees) → CalleesGoOn c d → (t u room : ℕ) (args : List Value) (m : Memory) → t ≤ u → GoesOn (body env c t room args m) (body env d u room args m)
body_goes_on env c d cs t u room args m le = run_goes_on env c d cs room t u le t u (begun env.func args) m le

cond_goes_on : (b : Bool) (o p x : Outcome) → GoesOn o p → GoesOn (cond b o x) (cond b p x)
cond_goes_on true o p x h = h
cond_goes_on false o p x h = stays x

cond_first : (b : Bool) (x o p : Outcome) → GoesOn o p → GoesOn (cond b x o) (cond b x p)
cond_first true x o p h = stays x
cond_first false x o p h = h

function_goes_on : (p : Program) (c d : Callees) → CalleesGoOn c d → (call : Call) (t u room : ℕ) (m : Memory) → t ≤ u → (f : Option (InText Func)) → GoesOn (call_function p c call t room m f) (call_function p d call u room m f)
function_goes_on p c d cs call t u room m le None = refl
function_goes_on p c d cs call t u room m le (Some f) =
    cond_goes_on (call_fits call (map (λ (x : Param). x.class) f.item.params) f.item.result) _ _ (Ended nothing Undefined)
    (cond_first (nat_lt room (need f.item)) (Ended nothing Stack) _ _
    (after_goes_on one_call _ _
    (body_goes_on (record { func = f.item; globals = globals_of p f.text }) c d cs t u (room - need f.item) call.args m le)))

named_goes_on : (p : Program) (c d : Callees) → CalleesGoOn c d → (call : Call) (t u room : ℕ) (m : Memory) → t ≤ u → (f : Callee) → GoesOn (call_named p c call t room m f) (call_named p d call u room m f)
named_goes_on p c d cs call t u room m le (Defined f) = function_goes_on p c d cs call t u room m le (slice_get p.functions f)
named_goes_on p c d cs call t u room m le SystemWrite = stays (call_named p c call t room m SystemWrite)
named_goes_on p c d cs call t u room m le SystemExit = stays (call_named p c call t room m SystemExit)

pub callees_go_on : (p : Program) (j k : ℕ) → j ≤ k → CalleesGoOn (callees p j) (callees p k)
unfolding callees
callees_go_on p zero k jk call t u room m le = from_nothing (callees p k call u room m)
callees_go_on p (suc j) zero jk call t u room m le = absurd (omega arith)
callees_go_on p (suc j) (suc k) jk call t u room m le =
    named_goes_on p (callees p j) (callees p k) (callees_go_on p j k (omega arith)) call t u room m le call.callee

pub outcome_goes_on : (p : Program) (words : List (List ℕ)) (n k : ℕ) → n ≤ k → GoesOn (outcome p words n) (outcome p words k)
unfolding outcome
outcome_goes_on p words n k le =
    callees_go_on p (suc n) (suc k) (omega arith) (main_call p words) n k stack_room (start_memory p words) le

-- ---- the meaning

behaviour_stays : (s : Spent) (e : End) (o : Outcome) → e ≢ Turns → EndGoesOn s e o → behaviour_of o ≡ behaviour_of (Ended s e)
behaviour_stays s (Exit n) o ne h = ap behaviour_of h
behaviour_stays s Halt o ne h = ap behaviour_of h
behaviour_stays s Undefined o ne h = ap behaviour_of h
behaviour_stays s Stack o ne h = ap behaviour_of h
behaviour_stays s Turns o ne h = absurd (ne refl)

outcome_stays : (o u : Outcome) → (behaviour_of o).ending ≢ Turns → GoesOn o u → behaviour_of u ≡ behaviour_of o
outcome_stays (Returned s v m) u ne h = ap behaviour_of h
outcome_stays (Ended s e) u ne h = behaviour_stays s e u ne h

pub meaning_stays : (p : Program) (words : List (List ℕ)) (n k : ℕ) → n ≤ k → (meaning p words n).ending ≢ Turns → meaning p words k ≡ meaning p words n
unfolding meaning
meaning_stays p words n k le ne = outcome_stays (outcome p words n) (outcome p words k) ne (outcome_goes_on p words n k le)

behaviour_output : (o : Outcome) → (behaviour_of o).output ≡ output_of o
behaviour_output (Returned s v m) = refl
behaviour_output (Ended s e) = refl

end_grows : (s : Spent) (e : End) (u : Outcome) → EndGoesOn s e u → Adds s.output u
end_grows s (Exit n) u h = adds_self s.output u (ap output_of h)
end_grows s Halt u h = adds_self s.output u (ap output_of h)
end_grows s Undefined u h = adds_self s.output u (ap output_of h)
end_grows s Stack u h = adds_self s.output u (ap output_of h)
end_grows s Turns u h = h

outcome_grows : (o u : Outcome) → GoesOn o u → Adds (output_of o) u
outcome_grows (Returned s v m) u h = adds_self s.output u (ap output_of h)
outcome_grows (Ended s e) u h = end_grows s e u h

pub meaning_grows : (p : Program) (words : List (List ℕ)) (n k : ℕ) → n ≤ k → (more : List ℕ) × ((meaning p words k).output ≡ (meaning p words n).output ++ more)
unfolding meaning
meaning_grows p words n k le =
    let grown : Adds (output_of (outcome p words n)) (outcome p words k) =
    outcome_grows (outcome p words n) (outcome p words k) (outcome_goes_on p words n k le) in (
      grown.more,
      behaviour_output (outcome p words k) ∙ (grown.is ∙ ap (λ xs. xs ++ grown.more) (sym (behaviour_output (outcome p words n)))),
    )
