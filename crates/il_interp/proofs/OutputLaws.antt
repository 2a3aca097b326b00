-- What was put out before changes nothing of a turn, and stands in front of what is put out after.
use Rattle.std.proofs.Common.{◌≡◌, ℕ, zero, suc, Bool, true, false, List, [], ◌∷◌, ◌++◌, map, refl, ap, ◌∙◌, sym, append_assoc, append-nil, nat_lt, if◌then◌else◌, slice_get, Option, Some, None}
use Rattle.il_ast.specs.declared.operation.Class.TheVariants.{W, L}
use Rattle.il_ast.specs.declared.operand.Dest.{Dest}
use Rattle.il_ast.specs.declared.function.Param.{Param}
use Rattle.il_ast.specs.declared.function.Func.{Func}
use Rattle.il_ast.specs.declared.program.InText.{InText}
use Rattle.il_ast.specs.declared.program.Program.{Program}
use Rattle.il_ast.specs.declared.value.Callee.{Callee}
use Rattle.il_ast.specs.declared.value.Callee.TheVariants.{Defined, SystemWrite, SystemExit}
use Rattle.il_ast.specs.declared.value.Value.{Value}
use Rattle.il_ast.specs.Prelude.{Memory, need, Call, Effect, Goes, Returns, Ends, effect, Outcome, Returned, Ended, call_fits, write_call, exit_call}
use Rattle.il_ast.specs.Effect.{Calls}
use Rattle.il_interp.specs.declared.state.Frame.{Frame}
use Rattle.il_interp.specs.declared.state.State.{State}
use Rattle.il_interp.specs.Machine.{Next, On, Over, act_of, standing, env_of, received, return_to, function_step, native_step, named_step, react, turn_in_function, step, go_on, machine, put_before}

-- the state, with these bytes put out before
abbrev pub after_output : List ℕ → State → State
after_output o st = record st { output = o ++ st.output }

abbrev pub next_after : List ℕ → Next → Next
next_after o (On st) = On (after_output o st)
next_after o (Over out e) = Over (o ++ out) e

-- ---- one turn

each_way : (o : List ℕ) (b : Bool) (x y x' y' : Next) → x ≡ next_after o x' → y ≡ next_after o y' → (if b then x else y) ≡ next_after o (if b then x' else y')
each_way o true x y x' y' p q = p
each_way o false x y x' y' p q = q

received_after : (o : List ℕ) (st : State) (to : Option Dest) (v : Option Value) → received (after_output o st) to v ≡ next_after o (received st to v)
received_after o st None v = refl
received_after o st (Some to) None = refl
received_after o st (Some to) (Some v) = refl

returned_after : (o out : List ℕ) (m : Memory) (v : Option Value) (fs : List Frame) → return_to (o ++ out) m v fs ≡ next_after o (return_to out m v fs)
returned_after o out m v [] = refl
returned_after o out m v (f ∷ fs) = received_after o (record { frame = f; below = fs; memory = m; output = out }) f.waits v

function_after : (o : List ℕ) (st : State) (to : Option Dest) (call : Call) (k : ℕ) (f : Option (InText Func))
    → function_step (after_output o st) to call k f ≡ next_after o (function_step st to call k f)
function_after o st to call k None = refl
function_after o st to call k (Some f) =
    each_way o (call_fits call (map (λ (x : Param). x.class) f.item.params) f.item.result) _ _ _ _
    (each_way o (nat_lt st.frame.room (need f.item)) _ _ _ _ refl refl) refl

native_after : (o : List ℕ) (st : State) (to : Option Dest) (r : Outcome) → native_step (after_output o st) to r ≡ next_after o (native_step st to r)
native_after o st to (Returned s v m) =
    ap (λ out. received (record st { memory = m; output = out }) to v) (append_assoc o st.output s.output)
    ∙ received_after o (record st { memory = m; output = st.output ++ s.output }) to v
native_after o st to (Ended s e) = ap (λ out. Over out e) (append_assoc o st.output s.output)

named_after : (o : List ℕ) (p : Program) (st : State) (to : Option Dest) (call : Call) (callee : Callee)
    → named_step p (after_output o st) to call callee ≡ next_after o (named_step p st to call callee)
named_after o p st to call (Defined k) = function_after o st to call k (slice_get p.functions k)
named_after o p st to call SystemWrite =
    each_way o (call_fits call (W ∷ L ∷ L ∷ []) (Some L)) _ _ _ _ (native_after o st to (write_call call.args st.memory)) refl
named_after o p st to call SystemExit = each_way o (call_fits call (W ∷ []) None) _ _ _ _ (native_after o st to (exit_call call.args)) refl

react_after : (o : List ℕ) (p : Program) (st : State) (e : Effect) → react p (after_output o st) e ≡ next_after o (react p st e)
react_after o p st (Goes w a m) = refl
react_after o p st (Calls w call to a) = named_after o p (record st { frame = standing st.frame a }) to call call.callee
react_after o p st (Returns v m) = returned_after o st.output m v st.below
react_after o p st (Ends e) = refl

turn_after : (o : List ℕ) (p : Program) (st : State) (f : Option (InText Func)) → turn_in_function p (after_output o st) f ≡ next_after o (turn_in_function p st f)
turn_after o p st None = refl
turn_after o p st (Some f) = react_after o p st (effect (env_of p f) (act_of st.frame) st.memory)

pub step_after : (o : List ℕ) (p : Program) (st : State) → step p (after_output o st) ≡ next_after o (step p st)
unfolding step
step_after o p st = turn_after o p st (slice_get p.functions st.frame.function)

-- ---- runs

pub machine_after : (o : List ℕ) (p : Program) (n : ℕ) (st : State) → machine p n (after_output o st) ≡ put_before o (machine p n st)
unfolding machine
machine_after o p zero st = refl
machine_after o p (suc n) st = ap (go_on (machine p n)) (step_after o p st) ∙ by_step (step p st) (λ t. machine_after o p n t)
  where
    by_step : (r : Next) → ((t : State) → machine p n (after_output o t) ≡ put_before o (machine p n t)) → go_on (machine p n) (next_after o r) ≡ put_before o (go_on (machine p n) r)
    by_step (On t) h = h t
    by_step (Over out e) h = refl

abbrev pub emptied : State → State
emptied st = record st { output = [] }

-- a state puts out what it holds, and then what the same does that holds nothing
pub machine_emptied : (p : Program) (n : ℕ) (st : State) → machine p n st ≡ put_before st.output (machine p n (emptied st))
machine_emptied p n st =
    ap (λ (out : List ℕ). machine p n (record st { output = out })) (sym (append-nil st.output)) ∙ machine_after st.output p n (emptied st)
