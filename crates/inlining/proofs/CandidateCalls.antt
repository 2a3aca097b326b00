-- Calls that a candidate's code makes: a turn began before each, and each finds the room that was given.
use Rattle.std.proofs.Common.{◌≡◌, ℕ, zero, suc, ◌+◌, ◌-◌, ◌<◌, Bool, true, false, nat_lt, ◌||◌, if◌then◌else◌, List, [], ◌∷◌, ◌++◌, length, slice_get, Option, Some, None, refl, sym, ap, subst, arith}
use Rattle.std.proofs.lemmas.Bool.{and_parts}
use Rattle.std.proofs.lemmas.Bool.Decides.{nat_tests}
use Rattle.il_ast.specs.declared.operation.Class.{Class}
use Rattle.il_ast.specs.declared.value.Value.{Value}
use Rattle.il_ast.specs.declared.value.Value.TheVariants.{Pointer}
use Rattle.il_ast.specs.declared.value.End.TheVariants.{Turns}
use Rattle.il_ast.specs.Prelude.{Memory, fresh, Call as Calling, Spent, one_turn, both, Outcome, Returned, Ended, Over, Event, Does, LoggedNext, LoggedEvent, Logged, Asked, Given, Log}
use Rattle.vcode.specs.declared.line.Line.{Line}
use Rattle.vcode.specs.declared.line.Line.TheVariants.{Tick, Set, Operate, Load, Store, Alloc, Blit, Call}
use Rattle.vcode.specs.declared.line.Jump.{Jump}
use Rattle.vcode.specs.declared.code.Block.{Block}
use Rattle.vcode.specs.declared.code.Code.{Code}
use Rattle.vcode.specs.Prelude.{held, Values, virtual, State, begin, weighs, goes_on, step, line_writes, Act, Fails, Spends, Gives, Leaves, Makes, Asks, given, left, act, written, Way, Lost, Enters, Answers, Halts, way, HasRoom}
use Rattle.vcode.proofs.Acting.{perform, lead, received, resumed}
use Rattle.vcode.proofs.Rewriting.{Left, at_start, behind_it, line_is, jump_is}
use Rattle.vcode.proofs.Stepping.{step_nowhere}
use Rattle.inlining.specs.InPlace.{begins_turn, is_calm, calm_behind, is_candidate, AllLater}
use Rattle.inlining.proofs.Turns.{IsTurn, turn_act, Begun, begun_further, ended_room}
use Rattle.il_ast.proofs.Listed.{all_at}

-- ---- lines that may call

abbrev IsAsked : Act → Type 0
IsAsked (Asks call) = Unit {0}
IsAsked a = ⊥

given_asks_not : (o : Option Value) → IsAsked (given o) → ⊥
given_asks_not None h = h
given_asks_not (Some v) h = h

left_asks_not : (o : Option Memory) → IsAsked (left o) → ⊥
left_asks_not None h = h
left_asks_not (Some m) h = h

-- a turn began before a call
asks_turned : (turned : Bool) (globals : List Value) (m : Memory) (values : Values ℕ) (l : Line ℕ) → is_calm turned l ≡ true → IsAsked (act globals m values l) → turned ≡ true
asks_turned turned globals m values (Tick turn w) h asks = absurd asks
asks_turned turned globals m values (Set to a) h asks = absurd asks
asks_turned turned globals m values (Operate to op a b) h asks = absurd asks
asks_turned turned globals m values (Load to op at) h asks = absurd (given_asks_not _ asks)
asks_turned turned globals m values (Store size a at) h asks = absurd (left_asks_not _ asks)
asks_turned turned globals m values (Alloc to size) h asks = absurd asks
asks_turned turned globals m values (Blit from to count) h asks = absurd (left_asks_not _ asks)
asks_turned turned globals m values (Call to callee args) h asks = h

-- ---- a candidate's run

module _ (globals : List Value) (candidate : Code ℕ) (i : Given) (calm : is_candidate candidate ≡ true) (went : Outcome) (fine : HasRoom went) where
  abbrev Runs : ℕ → State ℕ → Log → Type 0
  Runs steps s log = Logged (step virtual globals candidate i) steps s log went

  -- what is to hold of the calls behind a line that does this
  abbrev Onward : ℕ → State ℕ → Act → Type 0
  Onward steps s a =
      (u : State ℕ) (rest : Log) → u.block ≡ s.block → u.next ≡ s.next + 1 → (IsTurn a → Begun i u.spent) → (Begun i s.spent → Begun i u.spent) → Runs steps u rest → AllLater i rest

  over_later : (log : Log) → log ≡ [] → AllLater i log
  over_later log none = subst (AllLater i) (sym none) tt

  tick_later : (steps w : ℕ) (s : State ℕ) (q : Bool) → nat_lt s.spent.turns i.turns ≡ q → (log : Log)
      → LoggedEvent (Runs steps) went (if q then goes_on (record s { spent = both s.spent (one_turn w) }) else Does (Over (Ended s.spent Turns))) log → Onward steps s (Spends true w) → AllLater i log
  tick_later steps w s true left log run on =
      let u : State ℕ = record s { next = s.next + 1; spent = both s.spent (one_turn w) } in
      let begun : Begun i u.spent = record { given = (let p : 0 < i.turns = grind (arith, nat_tests) in p); spent = omega arith } in
      on u log refl refl (λ _. begun) (λ _. begun) run
  tick_later steps w s false left log run on = over_later log run.1

  -- behind a call that returns
  received_later : (steps : ℕ) (s : State ℕ) (to : Option ℕ) (call : Calling) (wants : Option Class) (x : Spent) (v : Option Value) (m : Memory) (rest : Log)
      → LoggedNext (Runs steps) went (received (record s { memory = m; spent = both s.spent x }) to wants v) rest → Onward steps s (Asks call) → AllLater i rest
  unfolding received
  received_later steps s to call None x v m rest run on =
      on (record s { next = s.next + 1; memory = m; spent = both s.spent x }) rest refl refl (λ p. absurd p) (begun_further i s.spent x) run
  received_later steps s to call (Some k) x None m rest run on = over_later rest run.1
  received_later steps s to call (Some k) x (Some v) m rest run on =
      on (record s { next = s.next + 1; values = written to (Some (held k v)) s.values; memory = m; spent = both s.spent x }) rest refl refl (λ p. absurd p) (begun_further i s.spent x) run

  resumed_later : (steps : ℕ) (s : State ℕ) (to : Option ℕ) (call : Calling) (o : Outcome) (rest : Log) → LoggedNext (Runs steps) went (resumed s to call.wants o) rest → Onward steps s (Asks call)
      → HasRoom o × AllLater i rest
  unfolding resumed
  resumed_later steps s to call (Returned x v m) rest run on = (tt, received_later steps s to call call.wants x v m rest run on)
  resumed_later steps s to call (Ended x e) rest run on = (ended_room (both s.spent x) x e (subst HasRoom (sym run.0) fine), over_later rest run.1)

  fewer : (x : Spent) → Begun i x → i.turns - x.turns < i.turns
  fewer x begun =
      let p = begun.given in
      let q = begun.spent in
      omega (arith, p, q)

  acts_later : (steps : ℕ) (s : State ℕ) (to : Option ℕ) (a : Act) → (IsAsked a → Begun i s.spent) → (log : Log) → LoggedEvent (Runs steps) went (perform i s to a) log → Onward steps s a → AllLater i log
  acts_later steps s to Fails begun log run on = over_later log run.1
  acts_later steps s to (Spends false w) begun log run on =
      on (record s { next = s.next + 1; spent = both s.spent (weighs w) }) log refl refl (λ p. absurd p) (begun_further i s.spent (weighs w)) run
  acts_later steps s to (Spends true w) begun log run on = tick_later steps w s (nat_lt s.spent.turns i.turns) refl log run on
  acts_later steps s to (Gives o) begun log run on =
      on (record s { next = s.next + 1; values = written to o s.values }) log refl refl (λ p. absurd p) (λ p. p) run
  acts_later steps s to (Leaves m) begun log run on =
      on (record s { next = s.next + 1; memory = m }) log refl refl (λ p. absurd p) (λ p. p) run
  acts_later steps s to (Makes size) begun log run on =
      on
      (record s {
        next = s.next + 1;
        values = written to (Some (Pointer (length s.memory) 0)) s.values;
        memory = fresh s.memory size;
        owned = s.owned ++ length s.memory ∷ [];
      }) log refl refl (λ p. absurd p) (λ p. p) run
  acts_later steps s to (Asks call) begun [] run on = absurd run
  acts_later steps s to (Asks call) begun (e ∷ rest) run on =
      let later = resumed_later steps s to call e.went rest run.1 on in
      (subst (λ (a : Asked). a.turns < i.turns) (sym run.0) (fewer s.spent (begun tt)), ap (λ (a : Asked). a.room) run.0, later.0, later.1)

  -- the calls from where a block goes on
  abbrev Later : ℕ → Type 0
  Later steps =
      (s : State ℕ) (turned : Bool) (ls : List (Line ℕ)) (j : Jump ℕ) (log : Log) → Left candidate s.block s.next ls j → calm_behind turned ls ≡ true → (turned ≡ true → Begun i s.spent)
      → Runs steps s log → AllLater i log

  nowhere_later : (steps : ℕ) (s : State ℕ) (log : Log) → slice_get candidate.blocks s.block ≡ None → Runs steps s log → AllLater i log
  unfolding Logged
  nowhere_later zero s log e run = absurd run
  nowhere_later (suc steps) s log e run =
      let over = subst (λ (x : Event (State ℕ) Asked Outcome). LoggedEvent (Runs steps) went x log) (step_nowhere virtual globals candidate i s e) run in
      over_later log over.1

  block_later : (steps : ℕ) → Later steps → (s : State ℕ) (k : ℕ) (log : Log) → Runs steps (record s { block = k; next = 0 }) log → AllLater i log
  block_later steps later s k log run = by (slice_get candidate.blocks k) refl
    where
      by : (o : Option (Block ℕ)) → slice_get candidate.blocks k ≡ o → AllLater i log
      by None e = nowhere_later steps (record s { block = k; next = 0 }) log e run
      by (Some b) e =
          later (record s { block = k; next = 0 }) false b.lines b.jump log (at_start candidate k b e)
          (all_at (λ (d : Block ℕ). calm_behind false d.lines) candidate.blocks k b calm e) (λ no. absurd (let n : ⊥ = cc in n)) run

  ways_later : (steps : ℕ) → Later steps → (s : State ℕ) (w : Way) (log : Log) → LoggedEvent (Runs steps) went (lead s w) log → AllLater i log
  ways_later steps later s Lost log run = over_later log run.1
  ways_later steps later s (Enters k) log run = block_later steps later s k log run
  ways_later steps later s (Answers v) log run = over_later log run.1
  ways_later steps later s Halts log run = over_later log run.1

  -- a turn has begun behind the line, if one began before it or in it
  turned_behind : (turned : Bool) (l : Line ℕ) (s u : State ℕ) → (turned ≡ true → Begun i s.spent) → (IsTurn (act globals s.memory s.values l) → Begun i u.spent) → (Begun i s.spent → Begun i u.spent)
      → (turned || begins_turn l) ≡ true → Begun i u.spent
  turned_behind true l s u begun turn more is = more (begun refl)
  turned_behind false l s u begun turn more is = turn (turn_act globals s.memory s.values l is)

  candidate_later : (steps : ℕ) → Later steps
  unfolding Logged
  candidate_later zero s turned ls j log here quiet begun run = absurd run
  candidate_later (suc steps) s turned [] j log here quiet begun run =
      ways_later steps (λ u t ms k rest h q b r. candidate_later steps u t ms k rest h q b r) s (way globals candidate.result s.memory s.values j) log
      (subst (λ (x : Event (State ℕ) Asked Outcome). LoggedEvent (Runs steps) went x log) (jump_is candidate globals i s j here) run)
  candidate_later (suc steps) s turned (l ∷ ls) j log here quiet begun run =
      let parts = and_parts (is_calm turned l) (calm_behind (turned || begins_turn l) ls) quiet in
      acts_later steps s (line_writes l) (act globals s.memory s.values l) (λ asks. begun (asks_turned turned globals s.memory s.values l parts.0 asks)) log
      (subst (λ (x : Event (State ℕ) Asked Outcome). LoggedEvent (Runs steps) went x log) (line_is candidate globals i s l ls j here) run)
      (λ u rest at next turn more run2.
      candidate_later steps u (turned || begins_turn l) ls j rest
      (subst (λ (q : ℕ). Left candidate q u.next ls j) (sym at) (subst (λ (q : ℕ). Left candidate s.block q ls j) (sym next) (behind_it candidate s.block s.next l ls j here)))
      parts.1 (turned_behind turned l s u begun turn more) run2)

-- each call of a candidate's run is made in fewer turns than the run was given, and finds the room that
-- was given; where the whole run neither becomes undefined nor runs out of stack, no call does
pub asked_later : (globals : List Value) (candidate : Code ℕ) (i : Given) → is_candidate candidate ≡ true → (steps : ℕ) (log : Log) (went : Outcome)
    → Logged (step virtual globals candidate i) steps (begin virtual candidate i) log went → HasRoom went → AllLater i log
asked_later globals candidate i calm steps log went run fine =
    block_later globals candidate i calm went fine steps (candidate_later globals candidate i calm went fine steps) (begin virtual candidate i) 0 log run
