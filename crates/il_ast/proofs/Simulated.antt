-- A code that simulates another keeps it; what keeps is composed.
use Rattle.std.proofs.Common.{◌≡◌, ℕ, zero, suc, List, [], ◌∷◌, refl, sym, subst}
use Rattle.il_ast.specs.Prelude.{Class, Next, On, Over, Event, Does, Calls, Entry, LoggedNext, LoggedEvent, Logged, Outcome, Asked, Given, AreArgs, Body, Fine, KeepsMeaning, KeepsCode}
use Rattle.il_ast.proofs.Simulation.{Leads, Matches, MatchesEvent, Simulates, TogetherNext, Together, Lockstep}

-- ---- composing

pub codes_compose : {S T U : Type 0} (params : List Class) (start : Given → S) (step : Given → S → Event S Asked Outcome) (start2 : Given → T) (step2 : Given → T → Event T Asked Outcome) (start3 : Given → U) (step3 : Given → U → Event U Asked Outcome) → KeepsCode params start step start2 step2 → KeepsCode params start2 step2 start3 step3 → KeepsCode params start step start3 step3
codes_compose params start step start2 step2 start3 step3 h k log i o args fine n runs =
    let a = h log i o args fine n runs in k log i o args fine a.0 a.1

pub meaning_composes : {S T : Type 0} (params : List Class) (body : Body) (start : Given → S) (step : Given → S → Event S Asked Outcome) (start2 : Given → T) (step2 : Given → T → Event T Asked Outcome) → KeepsMeaning params start step body → KeepsCode params start step start2 step2 → KeepsMeaning params start2 step2 body
meaning_composes params body start step start2 step2 h k callees i args fine =
    let a = h callees i args fine in (a.0, a.1, k a.0 i (body callees i) args fine a.2.0 a.2.1)

-- ---- steps without calls

-- within n steps it goes on from x so
abbrev pub LoggedFrom : {T I O : Type 0} → (T → Event T I O) → ℕ → Next T O → List (Entry I O) → O → Type 0
LoggedFrom {T} step n x log o = LoggedNext (λ (t : T) rest. Logged step n t rest o) o x log

pub step_back : {T I O : Type 0} (step : T → Event T I O) (t : T) (z : Next T O) (log : List (Entry I O)) (o : O) → step t ≡ Does z → (n : ℕ) → LoggedFrom step n z log o → Logged step (suc n) t log o
unfolding Logged
step_back {T} {I} {O} step t z log o e n h =
    subst (λ (x : Event T I O). LoggedEvent (λ (u : T) rest. Logged step n u rest o) o x log) (sym e) h

pub lead_back : {T I O : Type 0} (step : T → Event T I O) (k : ℕ) (x y : Next T O) (log : List (Entry I O)) (o : O) → Leads step k x y → (n : ℕ) → LoggedFrom step n y log o → (m : ℕ) × LoggedFrom step m x log o
lead_back {T} {I} {O} step zero x y log o h n logged = (n, subst (λ (v : Next T O). LoggedFrom step n v log o) (sym h) logged)
lead_back {T} {I} {O} step (suc k) x y log o h n logged =
    let a = lead_back step k h.2.0 y log o h.2.2 n logged in
    (suc a.0, subst (λ (v : Next T O). LoggedFrom step (suc a.0) v log o) (sym h.1) (step_back step h.0 h.2.0 log o h.2.1 a.0 a.1))

-- a call that is made is the next of the list
pub call_back : {T I O : Type 0} (step : T → Event T I O) (t : T) (i : I) (g : O → Next T O) (l : Entry I O) (log : List (Entry I O)) (o : O) → step t ≡ Calls i g → l.asked ≡ i → (n : ℕ) → LoggedFrom step n (g l.went) log o → Logged step (suc n) t (l ∷ log) o
unfolding Logged
call_back {T} {I} {O} step t i g l log o e same n h =
    subst (λ (x : Event T I O). LoggedEvent (λ (u : T) rest. Logged step n u rest o) o x (l ∷ log)) (sym e) (same, h)

-- ---- simulation

-- what was matched runs as well
abbrev Later : {S T I O : Type 0} → (S → T → Type 0) → (T → Event T I O) → O → (S → List (Entry I O) → Type 0) → Type 0
Later {S} {T} {I} {O} related step o go =
    (s : S) (t : T) (rest : List (Entry I O)) → related s t → go s rest → (m : ℕ) × Logged step m t rest o

next_matched : {S T I O : Type 0} (related : S → T → Type 0) (fine : O → Type 0) (step : T → Event T I O) (o : O) → fine o → (go : S → List (Entry I O) → Type 0) → Later related step o go → (x : Next S O) (y : Next T O) (log : List (Entry I O)) → Matches related fine step x y → LoggedNext go o x log → (m : ℕ) × LoggedFrom step m y log o
next_matched related fine step o f go later (On s) y log h logged =
    let a = later s h.1.0 log h.1.2 logged in lead_back step h.0 y (On h.1.0) log o h.1.1 a.0 a.1
next_matched related fine step o f go later (Over p) y log h logged =
    let a = h (subst fine (sym logged.0) f) in lead_back step a.0 y (Over p) log o a.1 0 logged

event_matched : {S T I O : Type 0} (related : S → T → Type 0) (fine : O → Type 0) (step : T → Event T I O) (o : O) → fine o → (go : S → List (Entry I O) → Type 0) → Later related step o go → (x : Event S I O) (t : T) (log : List (Entry I O)) → MatchesEvent related fine step x t → LoggedEvent go o x log → (m : ℕ) × Logged step m t log o
event_matched related fine step o f go later (Does n) t log h logged = next_matched related fine step o f go later n (On t) log h logged
event_matched related fine step o f go later (Calls i next) t [] h logged = absurd logged
event_matched related fine step o f go later (Calls i next) t (l ∷ log) h logged =
    let g = h.1.2.0 in
    let a = next_matched related fine step o f go later (next l.went) (g l.went) log (h.1.2.2 l.went) logged.1 in
    lead_back step h.0 (On t) (On h.1.0) (l ∷ log) o h.1.1 (suc a.0) (call_back step h.1.0 i g l log o h.1.2.1 logged.0 a.0 a.1)

pub simulated : {S T I O : Type 0} (related : S → T → Type 0) (fine : O → Type 0) (step : S → Event S I O) (step2 : T → Event T I O) → Simulates related fine step step2 → (n : ℕ) (s : S) (t : T) (log : List (Entry I O)) (o : O) → fine o → related s t → Logged step n s log o → (m : ℕ) × Logged step2 m t log o
unfolding Logged
simulated related fine step step2 sim zero s t log o f r logged = absurd logged
simulated {S} {T} {I} {O} related fine step step2 sim (suc n) s t log o f r logged =
    event_matched related fine step2 o f (λ (u : S) rest. Logged step n u rest o)
    (λ u v rest q l. simulated related fine step step2 sim n u v rest o f q l) (step s) t log (sim s t r) logged

-- a code that simulates another from related starts keeps it
pub simulation_keeps : {S T : Type 0} (params : List Class) (start : Given → S) (step : Given → S → Event S Asked Outcome) (start2 : Given → T) (step2 : Given → T → Event T Asked Outcome) (related : Given → S → T → Type 0) → ((i : Given) → AreArgs params i.args → related i (start i) (start2 i)) → ((i : Given) → Simulates (related i) Fine (step i) (step2 i)) → KeepsCode params start step start2 step2
simulation_keeps params start step start2 step2 related begins sim log i o args fine n logged =
    simulated (related i) Fine (step i) (step2 i) (sim i) n (start i) (start2 i) log o fine (begins i args) logged

-- ---- one step for one

next_together : {S T I O : Type 0} (related : S → T → Type 0) (fine : O → Type 0) (step : T → Event T I O) (x : Next S O) (y : Next T O) → TogetherNext related fine x y → Matches related fine step x y
next_together related fine step (On s) y h = (0, (h.0, h.1, h.2))
next_together related fine step (Over o) y h = λ f. (0, h f)

pub event_together : {S T I O : Type 0} (related : S → T → Type 0) (fine : O → Type 0) (step : T → Event T I O) (x : Event S I O) (t : T) → Together related fine x (step t) → MatchesEvent related fine step x t
event_together related fine step (Does (On s)) t h = (1, (h.0, (t, refl, (On h.0, h.1, refl)), h.2))
event_together related fine step (Does (Over o)) t h = λ f. (1, (t, refl, (Over o, h f, refl)))
event_together related fine step (Calls i next) t h =
    (0, (t, refl, (h.0, h.1, λ o. next_together related fine step (next o) (h.0 o) (h.2 o))))

-- the second does a step alone
pub step_before : {S T I O : Type 0} (related : S → T → Type 0) (fine : O → Type 0) (step : T → Event T I O) (x : Event S I O) (t u : T) → step t ≡ Does (On u) → MatchesEvent related fine step x u → MatchesEvent related fine step x t
step_before related fine step (Does (On s)) t u e h = (suc h.0, (h.1.0, (t, refl, (On u, e, h.1.1)), h.1.2))
step_before related fine step (Does (Over o)) t u e h = λ f. let a = h f in (suc a.0, (t, refl, (On u, e, a.1)))
step_before related fine step (Calls i next) t u e h = (suc h.0, (h.1.0, (t, refl, (On u, e, h.1.1)), h.1.2))

pub lockstep_simulates : {S T I O : Type 0} (related : S → T → Type 0) (fine : O → Type 0) (step : S → Event S I O) (step2 : T → Event T I O) → Lockstep related fine step step2 → Simulates related fine step step2
lockstep_simulates related fine step step2 h s t r = event_together related fine step2 (step s) t (h s t r)

-- a code that goes in lockstep with another from related starts keeps it
pub lockstep_keeps : {S T : Type 0} (params : List Class) (start : Given → S) (step : Given → S → Event S Asked Outcome) (start2 : Given → T) (step2 : Given → T → Event T Asked Outcome) (related : Given → S → T → Type 0) → ((i : Given) → AreArgs params i.args → related i (start i) (start2 i)) → ((i : Given) → Lockstep (related i) Fine (step i) (step2 i)) → KeepsCode params start step start2 step2
lockstep_keeps params start step start2 step2 related begins lock =
    simulation_keeps params start step start2 step2 related begins
    (λ i. lockstep_simulates (related i) Fine (step i) (step2 i) (lock i))
