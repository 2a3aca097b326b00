-- From a run on bytes whose calls are open, and callees that are kept: a run on bytes with the list of its calls, each of which the machine performs.
use Rattle.std.proofs.Common.{◌≡◌, ℕ, zero, suc, List, [], ◌∷◌, refl, sym, subst, Option}
use Rattle.il_ast.specs.declared.operation.Class.{Class}
use Rattle.il_ast.specs.Prelude.{Memory, Outcome, Returned, Ended, Callees, Next, On, Over, Event, Does, Calls, Entry, LoggedNext, LoggedEvent, Logged, Log, AllGo}
use Rattle.flat_code.specs.Flat.{Spots, Bases, Entries, Grown, FlatAsked, FlatOutcome, FlatReturned, FlatEnded, ShowsAsked, ShowsOutcome, Frame, PlaysNext, PlaysEvent, Plays}
use Rattle.abi_frames.specs.Performs.{GoodStack, AllPerform, ReachStays}
use Rattle.headline.specs.Knot.{Setting, IsSetting, KeepsCall, AllKept}

pub grown_same : (p : Bases) → Grown p p
grown_same p b a h = h

pub grown_both : (p q r : Bases) → Grown p q → Grown q r → Grown p r
grown_both p q r h k b a e = k b a (h b a e)

reach_of : (e : Entries) (p : Bases) (wants : Option Class) (before : Spots) (made : Memory) (o : Outcome) (r : FlatOutcome) → ShowsOutcome e p wants before made o r → ReachStays before r
reach_of e p wants before made (Returned s v m) (FlatReturned t x f) h = h.reach
reach_of e p wants before made (Returned s v m) (FlatEnded t y) h = absurd h
reach_of e p wants before made (Ended s z) (FlatReturned t x f) h = absurd h
reach_of e p wants before made (Ended s z) (FlatEnded t y) h = tt

abbrev FlatLog : Type 0
FlatLog = List (Entry FlatAsked FlatOutcome)

-- a run from here, with the list of its calls
pub record Answer {T : Type 0} (c : Setting) (f : Frame) (step : T → Event T FlatAsked FlatOutcome) (o : Outcome) (p : Bases) (s : T) : Type 0 where
  pub placed : Bases
  pub log : FlatLog
  pub went : FlatOutcome
  pub steps : ℕ
  pub grown : Grown p placed
  pub logged : Logged step steps s log went
  pub all : AllPerform c.world f.high log
  pub shows : ShowsOutcome f.entries placed f.result f.before f.made o went

record AfterNext {T : Type 0} (c : Setting) (f : Frame) (step : T → Event T FlatAsked FlatOutcome) (o : Outcome) (p : Bases) (x : Next T FlatOutcome) : Type 0 where
  placed : Bases
  log : FlatLog
  went : FlatOutcome
  steps : ℕ
  grown : Grown p placed
  logged : LoggedNext (λ t rest. Logged step steps t rest went) went x log
  all : AllPerform c.world f.high log
  shows : ShowsOutcome f.entries placed f.result f.before f.made o went

record AfterEvent {T : Type 0} (c : Setting) (f : Frame) (step : T → Event T FlatAsked FlatOutcome) (o : Outcome) (p : Bases) (x : Event T FlatAsked FlatOutcome) : Type 0 where
  placed : Bases
  log : FlatLog
  went : FlatOutcome
  steps : ℕ
  grown : Grown p placed
  logged : LoggedEvent (λ t rest. Logged step steps t rest went) went x log
  all : AllPerform c.world f.high log
  shows : ShowsOutcome f.entries placed f.result f.before f.made o went

abbrev Later : {T : Type 0} → Setting → Frame → (T → Event T FlatAsked FlatOutcome) → Outcome → Callees → (Bases → T → Log → Type 0) → Type 0
Later {T} c f step o callees go =
    (q : Bases) (t : T) (rest : Log) → Grown c.start q → go q t rest → AllGo callees rest → Answer c f step o q t

after_next : {T : Type 0} (c : Setting) (f : Frame) (step : T → Event T FlatAsked FlatOutcome) (o : Outcome) (callees : Callees) (go : Bases → T → Log → Type 0) → Later c f step o callees go → (p : Bases) (x : Next T FlatOutcome) (log : Log) → Grown c.start p → PlaysNext f go o p x log → AllGo callees log → AfterNext c f step o p x
after_next c f step o callees go later p (On s) log g h all =
    let a = later h.0 s log (grown_both c.start p h.0 g h.1) h.2 all in
    record {
      placed = a.placed;
      log = a.log;
      went = a.went;
      steps = a.steps;
      grown = grown_both p h.0 a.placed h.1 a.grown;
      logged = a.logged;
      all = a.all;
      shows = a.shows;
    }
after_next c f step o callees go later p (Over r) log g h all =
    record { placed = h.0; log = []; went = r; steps = 0; grown = h.1; logged = (refl, refl); all = tt; shows = h.2 }

after_event : {T : Type 0} (c : Setting) (f : Frame) → IsSetting c → f.entries ≡ c.entries → f.low ≡ c.world.bottom → GoodStack c.world f.high f.room → (step : T → Event T FlatAsked FlatOutcome) (o : Outcome) (callees : Callees) → AllKept c callees → (go : Bases → T → Log → Type 0) → Later c f step o callees go → (p : Bases) (x : Event T FlatAsked FlatOutcome) (log : Log) → Grown c.start p → PlaysEvent f go o p x log → AllGo callees log → AfterEvent c f step o p x
after_event c f is same low good step o callees kept go later p (Does n) log g h all =
    let a = after_next c f step o callees go later p n log g h all in
    record {
      placed = a.placed;
      log = a.log;
      went = a.went;
      steps = a.steps;
      grown = a.grown;
      logged = a.logged;
      all = a.all;
      shows = a.shows;
    }
after_event c f is same low good step o callees kept go later p (Calls j k) [] g h all = absurd h
after_event c f is same low good step o callees kept go later p (Calls j k) (l ∷ log) g h all =
    let q = h.0 in
    let shown : ShowsAsked c.entries q c.world.bottom f.high l.asked j =
    subst (λ (e : Entries). ShowsAsked e q c.world.bottom f.high l.asked j) same
    (subst (λ (b : ℕ). ShowsAsked f.entries q b f.high l.asked j) low h.2)
    in
    let keeps : KeepsCall c f.high l.asked l.went = subst (λ (w : Outcome). KeepsCall c f.high l.asked w) all.0 (kept f.high l.asked) in
    let went = keeps q j (grown_both c.start p q g h.1) shown (subst (λ (b : ℕ). GoodStack c.world f.high b) (sym h.3) good) in
    let shows : ShowsOutcome f.entries went.placed l.asked.call.wants j.given.memory l.asked.memory l.went went.went =
    subst (λ (e : Entries). ShowsOutcome e went.placed l.asked.call.wants j.given.memory l.asked.memory l.went went.went) (sym same) went.shows
    in
    let a = after_next c f step o callees go later went.placed (k went.went) log
    (grown_both c.start q went.placed (grown_both c.start p q g h.1) went.grown)
    (h.4 went.placed went.went went.grown shows) all.1
    in
    record {
      placed = a.placed;
      log = record { asked = j; went = went.went } ∷ a.log;
      went = a.went;
      steps = a.steps;
      grown = grown_both p q a.placed h.1 (grown_both q went.placed a.placed went.grown a.grown);
      logged = (refl, a.logged);
      all = (
        went.performs,
        is.aligned l.asked.call.callee j.at shown.at,
        reach_of f.entries went.placed l.asked.call.wants j.given.memory l.asked.memory l.went went.went shows,
        a.all,
      );
      shows = a.shows;
    }

pub answer : {T : Type 0} (c : Setting) (f : Frame) → IsSetting c → f.entries ≡ c.entries → f.low ≡ c.world.bottom → GoodStack c.world f.high f.room → (step : T → Event T FlatAsked FlatOutcome) (o : Outcome) (callees : Callees) → AllKept c callees → (n : ℕ) (p : Bases) (s : T) (log : Log) → Grown c.start p → Plays f step o n p s log → AllGo callees log → Answer c f step o p s
unfolding Plays Logged
answer c f is same low good step o callees kept zero p s log g h all = absurd h
answer c f is same low good step o callees kept (suc n) p s log g h all =
    let a = after_event c f is same low good step o callees kept (λ q t rest. Plays f step o n q t rest)
    (λ q t rest gr pl al. answer c f is same low good step o callees kept n q t rest gr pl al) p (step s) log g h all
    in
    record {
      placed = a.placed;
      log = a.log;
      went = a.went;
      steps = suc a.steps;
      grown = a.grown;
      logged = a.logged;
      all = a.all;
      shows = a.shows;
    }
