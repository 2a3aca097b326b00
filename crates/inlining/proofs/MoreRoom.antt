-- A call that neither becomes undefined nor runs out of stack goes the same in a larger room.
use Rattle.std.proofs.Common.{◌≡◌, ℕ, zero, suc, ◌-◌, ◌<◌, ◌≤◌, nat_lt, Bool, true, false, map, refl, ap, ◌∙◌, arith, slice_get, Option, Some, None, if◌then◌else◌}
use Rattle.std.proofs.lemmas.Bool.Decides.{nat_tests}
use Rattle.il_ast.specs.declared.operand.Dest.{Dest}
use Rattle.il_ast.specs.declared.function.Param.{Param}
use Rattle.il_ast.specs.declared.function.Func.{Func}
use Rattle.il_ast.specs.declared.program.InText.{InText}
use Rattle.il_ast.specs.declared.program.Program.{Program}
use Rattle.il_ast.specs.declared.value.Callee.{Callee}
use Rattle.il_ast.specs.declared.value.Callee.TheVariants.{Defined, SystemWrite, SystemExit}
use Rattle.il_ast.specs.declared.value.Value.{Value}
use Rattle.il_ast.specs.declared.value.End.TheVariants.{Exit, Halt, Undefined, Stack, Turns}
use Rattle.il_ast.specs.Prelude.{Memory, need, Env, Activation, Call, Effect, Goes, Returns, Ends, effect, Spent, nothing, one_turn, one_call, Outcome, Returned, Ended, after, Callees, Rest, receive, resume, perform, run, body, begun, globals_of, call_fits, call_function, call_named, callees}
use Rattle.il_ast.specs.Effect.{Calls}
use Rattle.vcode.specs.Prelude.{HasRoom}

-- the second goes as the first, where that has room
abbrev Stays : Outcome → Outcome → Type 0
Stays o p = HasRoom o → p ≡ o

-- so does every call in less than so many turns, in a larger room; and every activation in at most so many
abbrev CallsStay : ℕ → Callees → Callees → Type 0
CallsStay t c d = (call : Call) (u room more : ℕ) (m : Memory) → u < t → room ≤ more → Stays (c call u room m) (d call u more m)

abbrev RestStays : ℕ → Rest → Rest → Type 0
RestStays t f g = (u : ℕ) (a : Activation) (m : Memory) → u ≤ t → Stays (f u a m) (g u a m)

pub room_before : (s : Spent) (o : Outcome) → HasRoom (after s o) → HasRoom o
room_before s (Returned t v m) h = h
room_before s (Ended t (Exit n)) h = h
room_before s (Ended t Halt) h = h
room_before s (Ended t Undefined) h = h
room_before s (Ended t Stack) h = h
room_before s (Ended t Turns) h = h

after_stays : (s : Spent) (o p : Outcome) → Stays o p → Stays (after s o) (after s p)
after_stays s o p same h = ap (after s) (same (room_before s o h))

receive_stays : (f g : Rest) (t u : ℕ) → RestStays t f g → u ≤ t → (to : Option Dest) (a : Activation) (v : Option Value) (m : Memory) → Stays (receive f u to a v m) (receive g u to a v m)
receive_stays f g t u same le None a v m = same u a m le
receive_stays f g t u same le (Some to) a None m = λ h. refl
receive_stays f g t u same le (Some to) a (Some v) m = same u _ m le

resume_stays : (f g : Rest) (t : ℕ) → RestStays t f g → (to : Option Dest) (a : Activation) (o : Outcome) → Stays (resume f t to a o) (resume g t to a o)
resume_stays f g t same to a (Returned s v m) =
    after_stays s (receive f (t - s.turns) to a v m) (receive g (t - s.turns) to a v m) (receive_stays f g t (t - s.turns) same (omega arith) to a v m)
resume_stays f g t same to a (Ended s e) = λ h. refl

-- a call behind which there is room has room
resumed_room : (f : Rest) (t : ℕ) (to : Option Dest) (a : Activation) (o : Outcome) → HasRoom (resume f t to a o) → HasRoom o
resumed_room f t to a (Returned s v m) h = tt
resumed_room f t to a (Ended s e) h = h

perform_stays : (c d : Callees) (room more : ℕ) (f g : Rest) (t : ℕ) → CallsStay (suc t) c d → room ≤ more → RestStays t f g → (m : Memory) (e : Effect) → Stays (perform c room f t m e) (perform d more g t m e)
perform_stays c d room more f g t calls le same m (Goes w a now) = after_stays (one_turn w) (f t a now) (g t a now) (same t a now (omega arith))
perform_stays c d room more f g t calls le same m (Calls w call to a) =
    after_stays (one_turn w) (resume f t to a (c call t room m)) (resume g t to a (d call t more m))
    (λ h.
    ap (resume g t to a) (calls call t room more m (omega arith) le (resumed_room f t to a (c call t room m) h))
    ∙ resume_stays f g t same to a (c call t room m) h)
perform_stays c d room more f g t calls le same m (Returns v now) = λ h. refl
perform_stays c d room more f g t calls le same m (Ends e) = λ h. refl

run_stays : (env : Env) (c d : Callees) (room more t j k : ℕ) → CallsStay t c d → room ≤ more → t ≤ j → t ≤ k → RestStays t (run env c room j) (run env d more k)
unfolding run
run_stays env c d room more t zero zero calls le tj tk u a m low = λ h. refl
run_stays env c d room more t zero (suc k) calls le tj tk zero a m low = λ h. refl
run_stays env c d room more t zero (suc k) calls le tj tk (suc u) a m low = absurd (omega (arith, tj, low))
run_stays env c d room more t (suc j) zero calls le tj tk zero a m low = λ h. refl
run_stays env c d room more t (suc j) zero calls le tj tk (suc u) a m low = absurd (omega (arith, tk, low))
run_stays env c d room more t (suc j) (suc k) calls le tj tk zero a m low = λ h. refl
run_stays env c d room more t (suc j) (suc k) calls le tj tk (suc u) a m low =
    perform_stays c d room more (run env c room j) (run env d more k) u
    (λ call v r s n lt. calls call v r s n (omega (arith, lt, low))) le
    (run_stays env c d room more u j k (λ call v r s n lt. calls call v r s n (omega (arith, lt, low))) le (omega (arith, tj, low)) (omega (arith, tk, low)))
    m (effect env a m)

-- where the room is enough, so is a larger one
entered_stays : (low high : Bool) (o p : Outcome) → (low ≡ false → high ≡ false) → Stays o p → Stays (if low then Ended nothing Stack else o) (if high then Ended nothing Stack else p)
entered_stays true high o p enough same h = absurd h
entered_stays false true o p enough same h = absurd (let no : true ≡ false = enough refl in cc)
entered_stays false false o p enough same h = same h

fitted_stays : (b : Bool) (o p : Outcome) → Stays o p → Stays (if b then o else Ended nothing Undefined) (if b then p else Ended nothing Undefined)
fitted_stays true o p same h = same h
fitted_stays false o p same h = absurd h

still_enough : (room more n : ℕ) → room ≤ more → nat_lt room n ≡ false → nat_lt more n ≡ false
still_enough room more n le e = by (nat_lt more n) refl
  where
    by : (b : Bool) → nat_lt more n ≡ b → b ≡ false
    by false h = refl
    by true h = absurd (grind (arith, nat_tests))

function_stays : (p : Program) (c d : Callees) (t : ℕ) → CallsStay t c d → (call : Call) (room more : ℕ) (m : Memory) → room ≤ more → (f : Option (InText Func))
    → Stays (call_function p c call t room m f) (call_function p d call t more m f)
function_stays p c d t calls call room more m le None = λ h. refl
function_stays p c d t calls call room more m le (Some f) =
    let env : Env = record { func = f.item; globals = globals_of p f.text } in
    let o : Outcome = body env c t (room - need f.item) call.args m in
    let q : Outcome = body env d t (more - need f.item) call.args m in
    fitted_stays (call_fits call (map (λ (x : Param). x.class) f.item.params) f.item.result) _ _
    (entered_stays (nat_lt room (need f.item)) (nat_lt more (need f.item)) (after one_call o) (after one_call q) (still_enough room more (need f.item) le)
    (after_stays one_call o q
    (run_stays env c d (room - need f.item) (more - need f.item) t t t calls (omega (arith, le)) (omega arith) (omega arith) t (begun f.item call.args) m (omega arith))))

named_stays : (p : Program) (c d : Callees) (t : ℕ) → CallsStay t c d → (call : Call) (room more : ℕ) (m : Memory) → room ≤ more → (f : Callee) → Stays (call_named p c call t room m f) (call_named p d call t more m f)
named_stays p c d t calls call room more m le (Defined f) = function_stays p c d t calls call room more m le (slice_get p.functions f)
named_stays p c d t calls call room more m le SystemWrite = λ h. refl
named_stays p c d t calls call room more m le SystemExit = λ h. refl

-- however deep calls may nest
pub callees_stay : (p : Program) (j k : ℕ) (call : Call) (t room more : ℕ) (m : Memory) → t < j → t < k → room ≤ more → Stays (callees p j call t room m) (callees p k call t more m)
unfolding callees
callees_stay p zero k call t room more m tj tk le = absurd (omega (arith, tj))
callees_stay p (suc j) zero call t room more m tj tk le = absurd (omega (arith, tk))
callees_stay p (suc j) (suc k) call t room more m tj tk le =
    named_stays p (callees p j) (callees p k) t
    (λ inner u r s n lt low. callees_stay p j k inner u r s n (omega (arith, lt, tj)) (omega (arith, lt, tk)) low) call room more m le call.callee
