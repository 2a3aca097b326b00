-- A code that takes each turn of a function's body keeps what the body means.
use Rattle.std.proofs.Common.{◌≡◌, ℕ, zero, suc, ◌+◌, ◌-◌, ◌≤◌, List, [], ◌∷◌, ◌++◌, refl, sym, ◌∙◌, ap, subst, arith, Some, None, append-nil, append_assoc, Option}
use Rattle.il_ast.specs.Prelude.{Dest, Class, Value, End, Exit, Halt, Undefined, Stack, Turns, Memory, Env, Activation, Effect, Goes, Returns, Ends, assign, effect, Spent, nothing, one_turn, both, Outcome, Returned, Ended, after, Callees, Rest, receive, resume, perform, run, begun, body, Next, On, Over, Event, Calls, Asked, Given, AreArgs, Fine, Log, AllGo, KeepsMeaning}
use Rattle.il_ast.proofs.Simulation.{Leads, Stands, ComesTo, EndsIn, Receives, Resumes, TakesTurn, Takes, TakesTurns}
use Rattle.il_ast.specs.Effect.{Calls as CallsFor}
use Rattle.il_ast.proofs.Simulated.{LoggedFrom, lead_back, call_back}

-- ---- what was spent

spent_of : ℕ → ℕ → ℕ → List ℕ → Spent
spent_of t w c o = record { turns = t; weight = w; calls = c; output = o }

same_spent : (t u w x c d : ℕ) (o p : List ℕ) → t ≡ u → w ≡ x → c ≡ d → o ≡ p → spent_of t w c o ≡ spent_of u x d p
unfolding spent_of
same_spent t u w x c d o p h j k l =
    ap (λ n. spent_of n w c o) h ∙ ap (λ n. spent_of u n c o) j ∙ ap (λ n. spent_of u x n o) k ∙ ap (λ n. spent_of u x d n) l

pub both_nothing : (s : Spent) → both s nothing ≡ s
unfolding spent_of
both_nothing s =
    same_spent (s.turns + 0) s.turns (s.weight + 0) s.weight (s.calls + 0) s.calls (s.output ++ []) s.output (omega arith) (omega arith) (omega arith) (append-nil s.output)

pub nothing_both : (s : Spent) → both nothing s ≡ s
unfolding spent_of
nothing_both s = same_spent (0 + s.turns) s.turns (0 + s.weight) s.weight (0 + s.calls) s.calls s.output s.output (omega arith) (omega arith) (omega arith) refl

pub both_assoc : (s t u : Spent) → both (both s t) u ≡ both s (both t u)
unfolding spent_of
both_assoc s t u =
    same_spent (s.turns + t.turns + u.turns) (s.turns + (t.turns + u.turns)) (s.weight + t.weight + u.weight) (s.weight + (t.weight + u.weight))
    (s.calls + t.calls + u.calls) (s.calls + (t.calls + u.calls)) ((s.output ++ t.output) ++ u.output) (s.output ++ (t.output ++ u.output))
    (omega arith) (omega arith) (omega arith) (append_assoc s.output t.output u.output)

pub after_nothing : (o : Outcome) → after nothing o ≡ o
after_nothing (Returned s v m) = ap (λ t. Returned t v m) (nothing_both s)
after_nothing (Ended s e) = ap (λ t. Ended t e) (nothing_both s)

pub after_both : (s t : Spent) (o : Outcome) → after (both s t) o ≡ after s (after t o)
after_both s t (Returned u v m) = ap (λ x. Returned x v m) (both_assoc s t u)
after_both s t (Ended u e) = ap (λ x. Ended x e) (both_assoc s t u)

fine_before : (s : Spent) (o : Outcome) → Fine (after s o) → Fine o
fine_before s (Returned t v m) h = tt
fine_before s (Ended t (Exit n)) h = tt
fine_before s (Ended t Halt) h = tt
fine_before s (Ended t Undefined) h = absurd h
fine_before s (Ended t Stack) h = tt
fine_before s (Ended t Turns) h = tt

fine_end : (s t : Spent) (e : End) → Fine (Ended s e) → Fine (Ended t e)
fine_end s t (Exit n) h = tt
fine_end s t Halt h = tt
fine_end s t Undefined h = absurd h
fine_end s t Stack h = tt
fine_end s t Turns h = tt

-- ---- runs with their calls

-- the code goes on from x, as o, with calls that go as these callees have it
abbrev Reaches : {S : Type 0} → Callees → (S → Event S Asked Outcome) → Next S Outcome → Outcome → Type 0
Reaches callees step x o = (log : Log) × AllGo callees log × ((n : ℕ) × LoggedFrom step n x log o)

led : {S : Type 0} (callees : Callees) (step : S → Event S Asked Outcome) (k : ℕ) (x y : Next S Outcome) (o : Outcome) → Leads step k x y → Reaches callees step y o → Reaches callees step x o
led callees step k x y o h r =
    let a = lead_back step k x y r.0 o h r.2.0 r.2.1 in (r.0, r.1, (a.0, a.1))

ended : {S : Type 0} (callees : Callees) (step : S → Event S Asked Outcome) (x : Next S Outcome) (o : Outcome) → Fine o → EndsIn step x o → Reaches callees step x o
ended callees step x o fine h = let a = h fine in led callees step a.0 x (Over o) o a.1 ([], tt, (0, (refl, refl)))

-- what is left of the run, from related states
abbrev Later : {S : Type 0} → Callees → (S → Event S Asked Outcome) → Stands S → (turns room k : ℕ) → Rest → Type 0
Later {S} callees step stands turns room k rest =
    (a : Activation) (m : Memory) (s : Spent) (t : S) (left : ℕ)
    → left ≡ turns - s.turns
    → left ≤ k
    → stands a m s t
    → Fine (rest left a m)
    → Reaches callees step (On t) (after s (rest left a m))

came : {S : Type 0} (callees : Callees) (step : S → Event S Asked Outcome) (stands : Stands S) (turns room k : ℕ) (rest : Rest) → Later callees step stands turns room k rest → (x : Next S Outcome) (a : Activation) (m : Memory) (s : Spent) (left : ℕ) → left ≡ turns - s.turns → left ≤ k → ComesTo stands step x a m s → Fine (rest left a m) → Reaches callees step x (after s (rest left a m))
came callees step stands turns room k rest later x a m s left e fits h fine =
    led callees step h.0 x (On h.1.0) (after s (rest left a m)) h.1.1 (later a m s h.1.0 left e fits h.1.2 fine)

received : {S : Type 0} (callees : Callees) (step : S → Event S Asked Outcome) (stands : Stands S) (turns room k : ℕ) (rest : Rest) → Later callees step stands turns room k rest → (x : Next S Outcome) (to : Option Dest) (a : Activation) (v : Option Value) (m : Memory) (s : Spent) (left : ℕ) → left ≡ turns - s.turns → left ≤ k → Receives stands step x to a v m s → Fine (receive rest left to a v m) → Reaches callees step x (after s (receive rest left to a v m))
received callees step stands turns room k rest later x None a v m s left e fits h fine =
    came callees step stands turns room k rest later x a m s left e fits h fine
received callees step stands turns room k rest later x (Some d) a None m s left e fits h fine = absurd fine
received callees step stands turns room k rest later x (Some d) a (Some v) m s left e fits h fine =
    came callees step stands turns room k rest later x (record a { locals = assign a.locals d.temp v }) m s left e fits h fine

resumed : {S : Type 0} (callees : Callees) (step : S → Event S Asked Outcome) (stands : Stands S) (turns room k : ℕ) (rest : Rest) → Later callees step stands turns room k rest → (x : Next S Outcome) (to : Option Dest) (a : Activation) (s : Spent) (n : ℕ) → n ≡ turns - s.turns → n ≤ k → (o : Outcome) → Resumes stands step x to a s o → Fine (resume rest n to a o) → Reaches callees step x (after s (resume rest n to a o))
resumed {S} callees step stands turns room k rest later x to a s n e fits (Returned t v m) h fine =
    subst (λ (o : Outcome). Reaches callees step x o) (after_both s t (receive rest (n - t.turns) to a v m))
    (received callees step stands turns room k rest later x to a v m (both s t) (n - t.turns) (omega (arith, e)) (omega (arith, fits)) h
    (fine_before t (receive rest (n - t.turns) to a v m) fine))
resumed callees step stands turns room k rest later x to a s n e fits (Ended t z) h fine =
    ended callees step x (Ended (both s t) z) (fine_end t (both s t) z fine) h

called : {S : Type 0} (callees : Callees) (step : S → Event S Asked Outcome) (t u : S) (i : Asked) (g : Outcome → Next S Outcome) (o : Outcome) (k : ℕ) → Leads step k (On t) (On u) → step u ≡ Calls i g → Reaches callees step (g (callees i.call i.turns i.room i.memory)) o → Reaches callees step (On t) o
called callees step t u i g o k leads e r =
    led callees step k (On t) (On u) o leads (
      record { asked = i; went = callees i.call i.turns i.room i.memory } ∷ r.0,
      (refl, r.1),
      (suc r.2.0, call_back step u i g (record { asked = i; went = callees i.call i.turns i.room i.memory }) r.0 o e refl r.2.0 r.2.1),
    )

performed : {S : Type 0} (callees : Callees) (step : S → Event S Asked Outcome) (stands : Stands S) (turns room k : ℕ) (rest : Rest) → Later callees step stands turns room k rest → (m : Memory) (s : Spent) (t : S) (n : ℕ) → suc n ≡ turns - s.turns → n ≤ k → (e : Effect) → TakesTurn stands step room n m s t e → Fine (perform callees room rest n m e) → Reaches callees step (On t) (after s (perform callees room rest n m e))
performed {S} callees step stands turns room k rest later m s t n e fits (Goes w a now) h fine =
    subst (λ (o : Outcome). Reaches callees step (On t) o) (after_both s (one_turn w) (rest n a now))
    (came callees step stands turns room k rest later (On t) a now (both s (one_turn w)) n (omega (arith, e)) fits h (fine_before (one_turn w) (rest n a now) fine))
performed {S} callees step stands turns room k rest later m s t n e fits (CallsFor w call to a) h fine =
    let i : Asked = record { call = call; turns = n; room = room; memory = m } in
    let went = callees call n room m in
    let g = h.1.2.0 in
    subst (λ (o : Outcome). Reaches callees step (On t) o) (after_both s (one_turn w) (resume rest n to a went))
    (called callees step t h.1.0 i g (after (both s (one_turn w)) (resume rest n to a went)) h.0 h.1.1 h.1.2.1
    (resumed callees step stands turns room k rest later (g went) to a (both s (one_turn w)) n (omega (arith, e)) fits went (h.1.2.2 went)
    (fine_before (one_turn w) (resume rest n to a went) fine)))
performed callees step stands turns room k rest later m s t n e fits (Returns v now) h fine =
    ended callees step (On t) (Returned (both s (one_turn 1)) v now) tt h
performed callees step stands turns room k rest later m s t n e fits (Ends z) h fine =
    ended callees step (On t) (Ended (both s (one_turn 1)) z) (fine_end (one_turn 1) (both s (one_turn 1)) z fine) h

-- where no turn is left
stopped : {S : Type 0} (callees : Callees) (step : S → Event S Asked Outcome) (s : Spent) (t : S) → EndsIn step (On t) (Ended s Turns) → Reaches callees step (On t) (Ended (both s nothing) Turns)
stopped {S} callees step s t h =
    subst (λ (u : Spent). Reaches callees step (On t) (Ended u Turns)) (sym (both_nothing s)) (ended callees step (On t) (Ended s Turns) tt h)

taken : {S : Type 0} (env : Env) (stands : Stands S) (step : S → Event S Asked Outcome) (turns room : ℕ) → TakesTurns env stands step turns room → (a : Activation) (m : Memory) (s : Spent) (t : S) (left : ℕ) → left ≡ turns - s.turns → stands a m s t → Takes env stands step room left a m s t
taken env stands step turns room takes a m s t left e r =
    subst (λ (n : ℕ). Takes env stands step room n a m s t) (sym e) (takes a m s t r)

pub turns_log : {S : Type 0} (env : Env) (callees : Callees) (stands : Stands S) (step : S → Event S Asked Outcome) (turns room : ℕ) → TakesTurns env stands step turns room → (k : ℕ) → Later callees step stands turns room k (run env callees room k)
unfolding run
turns_log env callees stands step turns room takes zero a m s t zero e fits r fine =
    stopped callees step s t (taken env stands step turns room takes a m s t zero e r)
turns_log env callees stands step turns room takes zero a m s t (suc n) e fits r fine = absurd (omega (arith, fits))
turns_log env callees stands step turns room takes (suc k) a m s t zero e fits r fine =
    stopped callees step s t (taken env stands step turns room takes a m s t zero e r)
turns_log env callees stands step turns room takes (suc k) a m s t (suc n) e fits r fine =
    performed callees step stands turns room k (run env callees room k) (turns_log env callees stands step turns room takes k) m s t n e (omega (arith, fits))
    (effect env a m) (taken env stands step turns room takes a m s t (suc n) e r) fine

-- a code that takes each turn of the body, from a start that is related to the body's, keeps what the body means
pub turns_keep : {S : Type 0} (params : List Class) (env : Env) (start : Given → S) (step : Given → S → Event S Asked Outcome) (stands : Given → Stands S) → ((i : Given) → AreArgs params i.args → stands i (begun env.func i.args) i.memory nothing (start i)) → ((i : Given) → TakesTurns env (stands i) (step i) i.turns i.room) → KeepsMeaning params start step (λ callees (i : Given). body env callees i.turns i.room i.args i.memory)
turns_keep {S} params env start step stands begins takes callees i args fine =
    let o = body env callees i.turns i.room i.args i.memory in
    let r = turns_log env callees (stands i) (step i) i.turns i.room (takes i) i.turns (begun env.func i.args) i.memory nothing (start i) i.turns (omega arith) (omega arith) (begins i args) fine in
    subst (λ (p : Outcome). Reaches callees (step i) (On (start i)) p) (after_nothing o) r
