-- A code on bytes that goes beside a code on blocks, one step for one, plays it.
use Rattle.std.proofs.Common.{◌≡◌, ℕ, zero, suc, [], ◌∷◌, sym, subst}
use Rattle.il_ast.specs.Prelude.{Outcome, Next, On, Over, Event, Does, Calls, LoggedNext, LoggedEvent, Logged, Asked, Log, Fine}
use Rattle.flat_code.specs.Flat.{Bases, Grown, FlatAsked, FlatOutcome, ShowsAsked, ShowsOutcome, Frame, PlaysNext, PlaysEvent, Plays}

-- the code on bytes comes to a related state, or to an end that shows the other's; nothing is owed for an end that isn't fine
abbrev pub BesideNext : {S T : Type 0} → Frame → (Bases → S → T → Type 0) → Bases → Next S Outcome → Next T FlatOutcome → Type 0
BesideNext {S} {T} c related p (On s) n = (t : T) × (n ≡ On t) × ((q : Bases) × Grown p q × related q s t)
BesideNext c related p (Over o) n = Fine o → (r : FlatOutcome) × (n ≡ Over r) × ((q : Bases) × Grown p q × ShowsOutcome c.entries q c.result c.before c.made o r)

-- or it makes a call that shows the other's, and goes on beside it however that goes
abbrev pub Beside : {S T : Type 0} → Frame → (Bases → S → T → Type 0) → Bases → Event S Asked Outcome → Event T FlatAsked FlatOutcome → Type 0
Beside {S} {T} c related p (Does (On s)) e = (t : T) × (e ≡ Does (On t)) × ((q : Bases) × Grown p q × related q s t)
Beside c related p (Does (Over o)) e = Fine o → (r : FlatOutcome) × (e ≡ Does (Over r)) × ((q : Bases) × Grown p q × ShowsOutcome c.entries q c.result c.before c.made o r)
Beside {S} {T} c related p (Calls i k) e =
    (j : FlatAsked)
    × ((g : FlatOutcome → Next T FlatOutcome)
    × (e ≡ Calls j g)
    × ShowsAsked c.entries p c.low c.high i j
    × (i.room ≡ c.room)
    × ((went : Outcome) (u : Bases) (r : FlatOutcome)
    → Grown p u
    → ShowsOutcome c.entries u i.call.wants j.given.memory i.memory went r
    → BesideNext c related u (k went) (g r)))

-- what was beside plays as well
abbrev Later : {S T : Type 0} → (Bases → S → T → Type 0) → (S → Log → Type 0) → (Bases → T → Log → Type 0) → Type 0
Later {S} {T} related go go2 = (q : Bases) (s : S) (t : T) (rest : Log) → related q s t → go s rest → go2 q t rest

next_plays : {S T : Type 0} (c : Frame) (related : Bases → S → T → Type 0) (o : Outcome) → Fine o → (go : S → Log → Type 0) (go2 : Bases → T → Log → Type 0) → Later related go go2
    → (p : Bases) (x : Next S Outcome) (y : Next T FlatOutcome) (log : Log) → BesideNext c related p x y → LoggedNext go o x log → PlaysNext c go2 o p y log
next_plays {S} {T} c related o f go go2 later p (On s) y log h logged =
    subst (λ (z : Next T FlatOutcome). PlaysNext c go2 o p z log) (sym h.1) (h.2.0, h.2.1, later h.2.0 s h.0 log h.2.2 logged)
next_plays {S} {T} c related o f go go2 later p (Over w) y log h logged =
    let a = h (subst Fine (sym logged.0) f) in
    subst (λ (z : Next T FlatOutcome). PlaysNext c go2 o p z log) (sym a.1)
    (a.2.0, a.2.1, subst (λ (v : Outcome). ShowsOutcome c.entries a.2.0 c.result c.before c.made v a.0) logged.0 a.2.2, logged.1)

event_plays : {S T : Type 0} (c : Frame) (related : Bases → S → T → Type 0) (o : Outcome) → Fine o → (go : S → Log → Type 0) (go2 : Bases → T → Log → Type 0) → Later related go go2
    → (p : Bases) (x : Event S Asked Outcome) (y : Event T FlatAsked FlatOutcome) (log : Log) → Beside c related p x y → LoggedEvent go o x log → PlaysEvent c go2 o p y log
event_plays {S} {T} c related o f go go2 later p (Does (On s)) y log h logged =
    subst (λ (z : Event T FlatAsked FlatOutcome). PlaysEvent c go2 o p z log) (sym h.1) (h.2.0, h.2.1, later h.2.0 s h.0 log h.2.2 logged)
event_plays {S} {T} c related o f go go2 later p (Does (Over w)) y log h logged =
    let a = h (subst Fine (sym logged.0) f) in
    subst (λ (z : Event T FlatAsked FlatOutcome). PlaysEvent c go2 o p z log) (sym a.1)
    (a.2.0, a.2.1, subst (λ (v : Outcome). ShowsOutcome c.entries a.2.0 c.result c.before c.made v a.0) logged.0 a.2.2, logged.1)
event_plays c related o f go go2 later p (Calls i k) y [] h logged = absurd logged
event_plays {S} {T} c related o f go go2 later p (Calls i k) y (l ∷ log) h logged =
    let j : FlatAsked = h.0 in
    let g : FlatOutcome → Next T FlatOutcome = h.1.0 in
    let asked : ShowsAsked c.entries p c.low c.high l.asked j = subst (λ (a : Asked). ShowsAsked c.entries p c.low c.high a j) (sym logged.0) h.1.2 in
    let room : l.asked.room ≡ c.room = subst (λ (a : Asked). a.room ≡ c.room) (sym logged.0) h.1.3 in
    subst (λ (z : Event T FlatAsked FlatOutcome). PlaysEvent c go2 o p z (l ∷ log)) (sym h.1.1) (
      p,
      λ b a e. e,
      asked,
      room,
      λ u r grown went. next_plays c related o f go go2 later u (k l.went) (g r) log
          (h.1.4 l.went u r grown (subst (λ (a : Asked). ShowsOutcome c.entries u a.call.wants j.given.memory a.memory l.went r) logged.0 went))
          logged.1,
    )

-- a code that goes beside another from related states plays it
pub plays_by : {S T : Type 0} (c : Frame) (related : Bases → S → T → Type 0) (step : S → Event S Asked Outcome) (step2 : T → Event T FlatAsked FlatOutcome) (o : Outcome) → Fine o
    → ((p : Bases) (s : S) (t : T) → related p s t → Beside c related p (step s) (step2 t))
    → (n : ℕ) (p : Bases) (s : S) (t : T) (log : Log) → related p s t → Logged step n s log o → Plays c step2 o n p t log
unfolding Logged Plays
plays_by c related step step2 o f beside zero p s t log h logged = absurd logged
plays_by {S} {T} c related step step2 o f beside (suc n) p s t log h logged =
    event_plays c related o f (λ (u : S) rest. Logged step n u rest o) (λ (q : Bases) (u : T) rest. Plays c step2 o n q u rest)
    (λ q u v rest r l. plays_by c related step step2 o f beside n q u v rest r l) p (step s) (step2 t) log (beside p s t h) logged
