-- The candidate's code in place runs as the candidate, up to where it returns.
use Rattle.std.proofs.Common.{◌≡◌, ℕ, zero, suc, ◌+◌, ◌-◌, ◌≤◌, Bool, true, false, nat_eq, nat_lt, if◌then◌else◌, List, [], ◌∷◌, ◌++◌, map, slice_get, Option, Some, None, refl, sym, ◌∙◌, ap, subst, arith, option_map, option_and_then}
use Rattle.std.specs.List.{list_all}
use Rattle.std.proofs.lemmas.Bool.{and_parts}
use Rattle.std.proofs.lemmas.Bool.Decides.{nat_tests}
use Rattle.il_ast.specs.declared.operation.Class.{Class}
use Rattle.il_ast.specs.declared.value.Value.{Value}
use Rattle.il_ast.specs.declared.value.Value.TheVariants.{Integer, Pointer, Function}
use Rattle.il_ast.specs.declared.value.End.TheVariants.{Halt as Halted, Turns}
use Rattle.il_ast.specs.Prelude.{Memory, free_all, Call as Calling, result_fits, Spent, nothing, one_turn, both, Outcome, Returned, Ended, On, Over, Event, Does, Entry, LoggedNext, LoggedEvent, Logged, Asked, Given, Log}
use Rattle.vcode.specs.declared.place.ReturnValue.{ReturnValue}
use Rattle.vcode.specs.declared.place.Destination.{Destination}
use Rattle.vcode.specs.declared.line.Line.{Line}
use Rattle.vcode.specs.declared.line.Operation.TheVariants.{Compare}
use Rattle.vcode.specs.declared.line.Jump.{Jump}
use Rattle.vcode.specs.declared.line.Jump.TheVariants.{Goto, Branch, Return, Halt}
use Rattle.vcode.specs.declared.code.Block.{Block}
use Rattle.vcode.specs.Prelude.{held, passed, Values, virtual, State, begin, value_of, operated, read_result, weighs, goes_on, step, line_writes, Act, Fails, Spends, Gives, Leaves, Makes, Asks, act, written, Way, entering, answering, way, IsCheaper, GoesSo, HasRoom}
use Rattle.vcode.proofs.Acting.{perform, lead, received, resumed}
use Rattle.vcode.proofs.Following.{AllFollow, ActFollows, act_follows, WayFollows, way_follows, then_follows, assign_follows}
use Rattle.vcode.proofs.InPlace.{as_cheap, cheaper_after}
use Rattle.vcode.proofs.Rewriting.{Left, at_start, behind_it, line_is, jump_is}
use Rattle.vcode.proofs.Stepping.{step_nowhere}
use Rattle.inlining.specs.InPlace.{moved, moved_line, moved_jump, AllGoFrom, brought, result_brought, candidate_block}
use Rattle.inlining.proofs.Calm.{makes_none, candidate_makes_none}
use Rattle.inlining.proofs.Beside.{Setting, placed, placed_step, Goes, GoesNext, does_goes, calls_goes, cheaper_both, cheaper_turned, cheaper_alone, IsLow}
use Rattle.inlining.proofs.PlacedBlocks.{behind_at, first_at, candidate_block_at}
use Rattle.inlining.proofs.Passed.{result_is}
use Rattle.inlining.proofs.MovedActs.{from_base, moved_to, moved_follows, beyond_follows, value_moved, act_moved, writes_moved, IsCalm, act_calm, moved_way, branch_moved}
use Rattle.inlining.proofs.Entering.{brought_goes}
use Rattle.il_ast.proofs.Listed.{all_at}

-- ---- what the candidate's end owes

-- the caller's registers with what is wanted of a result
abbrev pub answered : Option (Destination ℕ) → Option Value → Values ℕ → Values ℕ
answered None v values = values
answered (Some d) None values = values
answered (Some d) (Some v) values = written (Some d.place) (Some (held d.class v)) values

-- behind the call, with the memory that the candidate left
abbrev pub resumed_at : Setting → State ℕ → Memory → Values ℕ → Spent → State ℕ
resumed_at c s m el sp = record { block = behind_at c; next = 0; values = el; memory = m; owned = s.owned; spent = sp }

abbrev pub Behind : Setting → Option (Destination ℕ) → State ℕ → Outcome → Type 0
Behind c to s (Returned x v m) =
    (el : Values ℕ) (sp : Spent) → IsCheaper sp (both s.spent x) → AllFollow el (answered to v s.values) → Goes c (resumed_at c s m el sp)
Behind c to s (Ended x e) = (sp : Spent) → IsCheaper sp (both s.spent x) → GoesSo (Ended sp e) c.o

-- ---- where the candidate's code stands

-- with the candidate's memory, and the caller's blocks of memory
abbrev pub inside : (s l : State ℕ) → (block next : ℕ) → Values ℕ → Spent → State ℕ
inside s l b n el sp = record { block = b; next = n; values = el; memory = l.memory; owned = s.owned; spent = sp }

-- the candidate made no blocks; the caller's registers hold what they did, and moved ones what the candidate's do
pub record Inside (c : Setting) (s l : State ℕ) (el : Values ℕ) (sp : Spent) : Type 0 where
  pub owned : l.owned ≡ []
  pub follows : AllFollow el s.values
  pub moved : AllFollow (from_base c.base el) l.values
  pub cheap : IsCheaper sp (both s.spent l.spent)

cheaper_more : (a l x sp : Spent) → IsCheaper sp (both a l) → IsCheaper (both sp x) (both a (both l x))
cheaper_more a l x sp h =
    cheaper_after (both sp x) (both (both a l) x) (both a (both l x)) (cheaper_both sp (both a l) x x h (as_cheap x)) (cheaper_turned a l x)

-- turns are left in both or in neither
same_tick : (all a l g sp : ℕ) → g ≡ all - a → sp ≡ a + l → nat_lt sp all ≡ nat_lt l g
same_tick all a l g sp e f = by (nat_lt l g) refl
  where
    by : (b : Bool) → nat_lt l g ≡ b → nat_lt sp all ≡ b
    by true h = grind (arith, nat_tests)
    by false h = grind (arith, nat_tests)

-- and as many
same_left : (all a l g sp : ℕ) → g ≡ all - a → sp ≡ a + l → all - sp ≡ g - l
same_left all a l g sp e f = omega (arith, e, f)

module _ (c : Setting) (s : State ℕ) (g : Given) (went : Outcome) where
  abbrev candidate_step : State ℕ → Event (State ℕ) Asked Outcome
  candidate_step = step virtual c.globals c.candidate g

  abbrev Runs : ℕ → State ℕ → Log → Type 0
  Runs steps u rest = Logged candidate_step steps u rest went

  -- what is to go on behind a line
  abbrev Onward : (steps : ℕ) → State ℕ → (block next : ℕ) → Type 0
  Onward steps l b n =
      (u : State ℕ) (el : Values ℕ) (sp : Spent) (rest : Log) → u.block ≡ l.block → u.next ≡ l.next + 1 → Inside c s u el sp → AllGoFrom c.callees rest → Runs steps u rest
      → Goes c (inside s u b (n + 1) el sp)

  -- a tick that begins a turn
  tick_goes : (steps w : ℕ) (l : State ℕ) (b n : ℕ) (el : Values ℕ) (sp : Spent) → Inside c s l el sp → Behind c c.site.to s went → Onward steps l b n → (log : Log) → AllGoFrom c.callees log → (q : Bool)
      → placed_step c (inside s l b n el sp)
      ≡ (if q then goes_on (record (inside s l b n el sp) { spent = both sp (one_turn w) }) else Does (Over (Ended sp Turns)))
      → LoggedEvent (Runs steps) went (if q then goes_on (record l { spent = both l.spent (one_turn w) }) else Does (Over (Ended l.spent Turns))) log → Goes c (inside s l b n el sp)
  tick_goes steps w l b n el sp h behind on log gone true at run =
      let u : State ℕ = record l { next = l.next + 1; spent = both l.spent (one_turn w) } in
      does_goes c (inside s l b n el sp) (On (inside s u b (n + 1) el (both sp (one_turn w)))) at
      (on u el (both sp (one_turn w)) log refl refl
      (record { owned = h.owned; follows = h.follows; moved = h.moved; cheap = cheaper_more s.spent l.spent (one_turn w) sp h.cheap }) gone run)
  tick_goes steps w l b n el sp h behind on log gone false at run =
      does_goes c (inside s l b n el sp) (Over (Ended sp Turns)) at (subst (Behind c c.site.to s) (sym run.0) behind sp h.cheap)

  -- the call that the placed code makes goes as the candidate's
  asked_goes : (l : State ℕ) (call : Calling) (sp : Spent) (e : Entry Asked Outcome) → g.turns ≡ c.given.turns - s.spent.turns → g.room ≤ c.given.room → sp.turns ≡ s.spent.turns + l.spent.turns
      → e.asked ≡ record { call = call; turns = g.turns - l.spent.turns; room = g.room; memory = l.memory }
      → ((room : ℕ) → e.asked.room ≤ room → c.callees e.asked.call e.asked.turns room e.asked.memory ≡ e.went)
      → c.callees call (c.given.turns - sp.turns) c.given.room l.memory ≡ e.went
  asked_goes l call sp e same wide turns asks gone =
      let large : e.asked.room ≤ c.given.room = subst (λ (a : Asked). a.room ≤ c.given.room) (sym asks) wide in
      subst (λ (k : ℕ). c.callees call k c.given.room l.memory ≡ e.went) (sym (same_left c.given.turns s.spent.turns l.spent.turns g.turns sp.turns same turns))
      (subst (λ (a : Asked). c.callees a.call a.turns c.given.room a.memory ≡ e.went) asks (gone c.given.room large))

  -- behind a call that returns
  received_goes : (steps : ℕ) (l : State ℕ) (b n : ℕ) (el : Values ℕ) (sp : Spent) → IsLow c.base s.values → HasRoom went → Inside c s l el sp → Onward steps l b n → (to : Option ℕ) (wants : Option Class)
      → (x : Spent) (v : Option Value) (m : Memory) (rest : Log) → AllGoFrom c.callees rest → LoggedNext (Runs steps) went (received (record l { memory = m; spent = both l.spent x }) to wants v) rest
      → GoesNext c (received (record (inside s l b n el sp) { memory = m; spent = both sp x }) (moved_to c.base to) wants v)
  unfolding received
  received_goes steps l b n el sp low fine h on to None x v m rest gone run =
      on (record l { next = l.next + 1; memory = m; spent = both l.spent x }) el (both sp x) rest refl refl
      (record { owned = h.owned; follows = h.follows; moved = h.moved; cheap = cheaper_more s.spent l.spent x sp h.cheap }) gone run
  received_goes steps l b n el sp low fine h on to (Some k) x None m rest gone run = absurd (subst HasRoom (sym run.0) fine)
  received_goes steps l b n el sp low fine h on to (Some k) x (Some v) m rest gone run =
      let o : Option Value = Some (held k v) in
      on (record l { next = l.next + 1; values = written to o l.values; memory = m; spent = both l.spent x }) (written (moved_to c.base to) o el) (both sp x) rest refl refl
      (record {
        owned = h.owned;
        follows = beyond_follows c.base to o el s.values low h.follows;
        moved = moved_follows c.base to o o el l.values (λ y e. e) h.moved;
        cheap = cheaper_more s.spent l.spent x sp h.cheap;
      }) gone run

  resumed_goes : (steps : ℕ) (l : State ℕ) (b n : ℕ) (el : Values ℕ) (sp : Spent) → IsLow c.base s.values → HasRoom went → Behind c c.site.to s went → Inside c s l el sp → Onward steps l b n
      → (to : Option ℕ) (call : Calling) (o : Outcome) (rest : Log) → AllGoFrom c.callees rest → LoggedNext (Runs steps) went (resumed l to call.wants o) rest
      → GoesNext c (resumed (inside s l b n el sp) (moved_to c.base to) call.wants o)
  unfolding resumed
  resumed_goes steps l b n el sp low fine behind h on to call (Returned x v m) rest gone run = received_goes steps l b n el sp low fine h on to call.wants x v m rest gone run
  resumed_goes steps l b n el sp low fine behind h on to call (Ended x e) rest gone run =
      subst (Behind c c.site.to s) (sym run.0) behind (both sp x) (cheaper_more s.spent l.spent x sp h.cheap)

  -- both do a line
  acts_go : (steps : ℕ) (l : State ℕ) (b n : ℕ) (el : Values ℕ) (sp : Spent) → g.turns ≡ c.given.turns - s.spent.turns → g.room ≤ c.given.room → IsLow c.base s.values → HasRoom went → Behind c c.site.to s went
      → Inside c s l el sp → Onward steps l b n → (to : Option ℕ) (a x : Act) → IsCalm a → ActFollows x a
      → placed_step c (inside s l b n el sp) ≡ perform c.given (inside s l b n el sp) (moved_to c.base to) x → (log : Log) → AllGoFrom c.callees log → LoggedEvent (Runs steps) went (perform g l to a) log → Goes c (inside s l b n el sp)
  acts_go steps l b n el sp same wide low fine behind h on to Fails x calm f at log gone run = absurd (subst HasRoom (sym run.0) fine)
  acts_go steps l b n el sp same wide low fine behind h on to (Spends false w) x calm f at log gone run =
      let t : State ℕ = inside s l b n el sp in
      let u : State ℕ = record l { next = l.next + 1; spent = both l.spent (weighs w) } in
      does_goes c t (On (inside s u b (n + 1) el (both sp (weighs w)))) (at ∙ ap (perform c.given t (moved_to c.base to)) f)
      (on u el (both sp (weighs w)) log refl refl
      (record { owned = h.owned; follows = h.follows; moved = h.moved; cheap = cheaper_more s.spent l.spent (weighs w) sp h.cheap }) gone run)
  acts_go steps l b n el sp same wide low fine behind h on to (Spends true w) x calm f at log gone run =
      let t : State ℕ = inside s l b n el sp in
      tick_goes steps w l b n el sp h behind on log gone (nat_lt l.spent.turns g.turns)
      (at ∙ ap (perform c.given t (moved_to c.base to)) f
      ∙ ap (λ (q : Bool). if q then goes_on (record t { spent = both sp (one_turn w) }) else Does (Over (Ended sp Turns)))
      (same_tick c.given.turns s.spent.turns l.spent.turns g.turns sp.turns same h.cheap.turns)) run
  acts_go steps l b n el sp same wide low fine behind h on to (Gives o) x calm f at log gone run =
      let t : State ℕ = inside s l b n el sp in
      let u : State ℕ = record l { next = l.next + 1; values = written to o l.values } in
      let el2 : Values ℕ = written (moved_to c.base to) f.0 el in
      does_goes c t (On (inside s u b (n + 1) el2 sp)) (at ∙ ap (perform c.given t (moved_to c.base to)) f.1.0)
      (on u el2 sp log refl refl
      (record {
        owned = h.owned;
        follows = beyond_follows c.base to f.0 el s.values low h.follows;
        moved = moved_follows c.base to f.0 o el l.values f.1.1 h.moved;
        cheap = h.cheap;
      }) gone run)
  acts_go steps l b n el sp same wide low fine behind h on to (Leaves m) x calm f at log gone run =
      let t : State ℕ = inside s l b n el sp in
      let u : State ℕ = record l { next = l.next + 1; memory = m } in
      does_goes c t (On (inside s u b (n + 1) el sp)) (at ∙ ap (perform c.given t (moved_to c.base to)) f)
      (on u el sp log refl refl (record { owned = h.owned; follows = h.follows; moved = h.moved; cheap = h.cheap }) gone run)
  acts_go steps l b n el sp same wide low fine behind h on to (Makes size) x calm f at log gone run = absurd calm
  acts_go steps l b n el sp same wide low fine behind h on to (Asks call) x calm f at [] gone run = absurd run
  acts_go steps l b n el sp same wide low fine behind h on to (Asks call) x calm f at (e ∷ rest) gone run =
      let t : State ℕ = inside s l b n el sp in
      let here : Asked = record { call = call; turns = c.given.turns - sp.turns; room = c.given.room; memory = l.memory } in
      calls_goes c t here (resumed t (moved_to c.base to) call.wants) (record { asked = here; went = e.went }) (at ∙ ap (perform c.given t (moved_to c.base to)) f) refl
      (asked_goes l call sp e same wide h.cheap.turns run.0 gone.0) (resumed t (moved_to c.base to) call.wants e.went) refl
      (resumed_goes steps l b n el sp low fine behind h on to call e.went rest gone.1 run.1)

  line_goes : (steps : ℕ) (l : State ℕ) (b n : ℕ) (el : Values ℕ) (sp : Spent) → g.turns ≡ c.given.turns - s.spent.turns → g.room ≤ c.given.room → IsLow c.base s.values → HasRoom went → Behind c c.site.to s went
      → Inside c s l el sp → Onward steps l b n → (x : Line ℕ) (ls ms : List (Line ℕ)) (j k : Jump ℕ) → Left c.candidate l.block l.next (x ∷ ls) j → Left (placed c) b n (moved_line c.base x ∷ ms) k
      → makes_none x ≡ true → (log : Log) → AllGoFrom c.callees log → Runs (suc steps) l log → Goes c (inside s l b n el sp)
  unfolding Logged
  line_goes steps l b n el sp same wide low fine behind h on x ls ms j k first second calm log gone run =
      let t : State ℕ = inside s l b n el sp in
      acts_go steps l b n el sp same wide low fine behind h on (line_writes x) (act c.globals l.memory l.values x) (act c.globals l.memory (from_base c.base el) x)
      (act_calm c.globals l.memory l.values x calm) (act_follows c.globals l.memory l.values (from_base c.base el) x h.moved)
      (line_is (placed c) c.globals c.given t (moved_line c.base x) ms k second
      ∙ ap (λ (r : Option ℕ). perform c.given t r (act c.globals l.memory el (moved_line c.base x))) (writes_moved c.base x calm)
      ∙ ap (perform c.given t (moved_to c.base (line_writes x))) (act_moved c.globals l.memory c.base el x calm))
      log gone
      (subst (λ (e : Event (State ℕ) Asked Outcome). LoggedEvent (Runs steps) went e log) (line_is c.candidate c.globals g l x ls j first) run)

  -- ---- where the candidate jumps

  -- what is to go on in a block
  abbrev Arrives : ℕ → State ℕ → Values ℕ → Spent → Log → Type 0
  Arrives steps l el sp log = (k : ℕ) → Runs steps (record l { block = k; next = 0 }) log → Goes c (inside s l (k + first_at c) 0 el sp)

  branch_goes : (steps : ℕ) (l : State ℕ) (b n : ℕ) (el : Values ℕ) (sp : Spent) → HasRoom went → (log : Log) → Arrives steps l el sp log → (met otherwise : ℕ) (o : Option Value) (y : Way)
      → placed_step c (inside s l b n el sp) ≡ lead (inside s l b n el sp) (moved_way (first_at c) y) → WayFollows y (entering met otherwise o)
      → LoggedEvent (Runs steps) went (lead l (entering met otherwise o)) log → Goes c (inside s l b n el sp)
  branch_goes steps l b n el sp fine log arrives met otherwise None y at f run = absurd (subst HasRoom (sym run.0) fine)
  branch_goes steps l b n el sp fine log arrives met otherwise (Some (Integer m)) y at f run =
      let k : ℕ = if nat_eq m 0 then otherwise else met in
      let t : State ℕ = inside s l b n el sp in
      does_goes c t (On (inside s l (k + first_at c) 0 el sp)) (at ∙ ap (λ (z : Way). lead t (moved_way (first_at c) z)) f) (arrives k run)
  branch_goes steps l b n el sp fine log arrives met otherwise (Some (Pointer x m)) y at f run = absurd (subst HasRoom (sym run.0) fine)
  branch_goes steps l b n el sp fine log arrives met otherwise (Some (Function x)) y at f run = absurd (subst HasRoom (sym run.0) fine)

  -- the jump behind the call
  out_goes : (l : State ℕ) (b n : ℕ) (el : Values ℕ) (sp : Spent) → Left (placed c) b n [] (Goto (behind_at c)) → Goes c (resumed_at c s l.memory el sp) → Goes c (inside s l b n el sp)
  out_goes l b n el sp here go =
      does_goes c (inside s l b n el sp) (On (resumed_at c s l.memory el sp)) (jump_is (placed c) c.globals c.given (inside s l b n el sp) (Goto (behind_at c)) here) go

  freed : (m : Memory) (owned : List ℕ) → owned ≡ [] → free_all m owned ≡ m
  freed m owned e = ap (free_all m) e

  -- a value is returned, which is wanted or not
  wanted_goes : (l : State ℕ) (b n : ℕ) (el : Values ℕ) (sp : Spent) → Inside c s l el sp → (to : Option (Destination ℕ)) (k : Class) → result_fits (option_map (λ (d : Destination ℕ). d.class) to) (Some k) ≡ true
      → (a : ReturnValue ℕ) (v : Value) → read_result c.globals l.values k a ≡ Some v → Left (placed c) b n (result_brought c.base (Some k) to (Return (Some a))) (Goto (behind_at c))
      → Behind c to s (Returned l.spent (Some v) l.memory) → Goes c (inside s l b n el sp)
  wanted_goes l b n el sp h None k fits a v is here behind = out_goes l b n el sp here (behind el sp h.cheap h.follows)
  wanted_goes l b n el sp h (Some d) k fits a v is here behind =
      let o : Option Value = Some (held k v) in
      let el2 : Values ℕ = written (Some d.place) o el in
      brought_goes c (inside s l b n el sp) d.place k a.extension (moved c.base a.value) [] (Goto (behind_at c)) v here
      (ap (option_and_then (passed a.extension k)) (value_moved c.globals c.base el a.value)
      ∙ then_follows c.globals l.values (from_base c.base el) a.value (passed a.extension k) h.moved v is)
      (out_goes l b (n + 1) el2 sp (behind_it (placed c) b n (brought d.place k a.extension (moved c.base a.value)) [] (Goto (behind_at c)) here)
      (behind el2 sp h.cheap
      (assign_follows (Some d.place) (Some (held d.class v)) o s.values el
      (λ x e. ap (λ (q : Class). Some (held q v)) (sym (result_is d.class k fits)) ∙ e) h.follows)))

  value_goes : (steps : ℕ) (l : State ℕ) (b n : ℕ) (el : Values ℕ) (sp : Spent) → HasRoom went → Inside c s l el sp → (to : Option (Destination ℕ)) (k : Class) → result_fits (option_map (λ (d : Destination ℕ). d.class) to) (Some k) ≡ true
      → (a : ReturnValue ℕ) (o : Option Value) → read_result c.globals l.values k a ≡ o → Left (placed c) b n (result_brought c.base (Some k) to (Return (Some a))) (Goto (behind_at c))
      → Behind c to s went → (log : Log) → LoggedEvent (Runs steps) went (lead l (answering o)) log → Goes c (inside s l b n el sp)
  value_goes steps l b n el sp fine h to k fits a None is here behind log run = absurd (subst HasRoom (sym run.0) fine)
  value_goes steps l b n el sp fine h to k fits a (Some v) is here behind log run =
      wanted_goes l b n el sp h to k fits a v is here
      (subst (λ (m : Memory). Behind c to s (Returned l.spent (Some v) m)) (freed l.memory l.owned h.owned) (subst (Behind c to s) (sym run.0) behind))

  returns_go : (steps : ℕ) (l : State ℕ) (b n : ℕ) (el : Values ℕ) (sp : Spent) → HasRoom went → Inside c s l el sp → (to : Option (Destination ℕ)) (result : Option Class) → result_fits (option_map (λ (d : Destination ℕ). d.class) to) result ≡ true
      → (a : ReturnValue ℕ) → Left (placed c) b n (result_brought c.base result to (Return (Some a))) (Goto (behind_at c))
      → Behind c to s went → (log : Log) → LoggedEvent (Runs steps) went (lead l (way c.globals result l.memory l.values (Return (Some a)))) log → Goes c (inside s l b n el sp)
  returns_go steps l b n el sp fine h to None fits a here behind log run = absurd (subst HasRoom (sym run.0) fine)
  returns_go steps l b n el sp fine h to (Some k) fits a here behind log run =
      value_goes steps l b n el sp fine h to k fits a (read_result c.globals l.values k a) refl here behind log run

  none_answered : (to : Option (Destination ℕ)) (el : Values ℕ) → AllFollow el s.values → AllFollow el (answered to None s.values)
  none_answered None el follows = follows
  none_answered (Some d) el follows = follows

  -- nothing is brought where no value is returned
  abbrev GivesNone : Jump ℕ → Type 0
  GivesNone (Return (Some a)) = ⊥
  GivesNone j = Unit {0}

  none_brought : (base : ℕ) (result : Option Class) (to : Option (Destination ℕ)) (j : Jump ℕ) → GivesNone j → result_brought base result to j ≡ []
  none_brought base None to j h = refl
  none_brought base (Some k) None j h = refl
  none_brought base (Some k) (Some d) (Goto n) h = refl
  none_brought base (Some k) (Some d) (Branch on met otherwise) h = refl
  none_brought base (Some k) (Some d) (Return None) h = refl
  none_brought base (Some k) (Some d) (Return (Some a)) h = absurd h
  none_brought base (Some k) (Some d) Halt h = refl

  only_jump : (b n : ℕ) (j k : Jump ℕ) → GivesNone j → Left (placed c) b n (result_brought c.base c.candidate.result c.site.to j) k → Left (placed c) b n [] k
  only_jump b n j k none here = subst (λ (ls : List (Line ℕ)). Left (placed c) b n ls k) (none_brought c.base c.candidate.result c.site.to j none) here

  jump_goes : (steps : ℕ) (l : State ℕ) (b n : ℕ) (el : Values ℕ) (sp : Spent) → HasRoom went → Behind c c.site.to s went → Inside c s l el sp → (log : Log) → Arrives steps l el sp log → (j : Jump ℕ)
      → Left (placed c) b n (result_brought c.base c.candidate.result c.site.to j) (moved_jump (first_at c) (behind_at c) c.base j)
      → LoggedEvent (Runs steps) went (lead l (way c.globals c.candidate.result l.memory l.values j)) log → Goes c (inside s l b n el sp)
  jump_goes steps l b n el sp fine behind h log arrives (Goto k) here run =
      let t : State ℕ = inside s l b n el sp in
      does_goes c t (On (inside s l (k + first_at c) 0 el sp))
      (jump_is (placed c) c.globals c.given t (Goto (k + first_at c)) (only_jump b n (Goto k) (Goto (k + first_at c)) tt here)) (arrives k run)
  jump_goes steps l b n el sp fine behind h log arrives (Branch on met otherwise) here run =
      let t : State ℕ = inside s l b n el sp in
      let j : Jump ℕ = moved_jump (first_at c) (behind_at c) c.base (Branch on met otherwise) in
      branch_goes steps l b n el sp fine log arrives met otherwise
      (operated l.memory (Compare on.condition on.class) (value_of c.globals l.values on.left) (value_of c.globals l.values on.right))
      (way c.globals c.candidate.result l.memory (from_base c.base el) (Branch on met otherwise))
      (jump_is (placed c) c.globals c.given t j (only_jump b n (Branch on met otherwise) j tt here)
      ∙ ap (lead t) (branch_moved c.globals (placed c).result c.candidate.result l.memory (first_at c) (behind_at c) c.base el on met otherwise))
      (way_follows c.globals c.candidate.result l.memory l.values (from_base c.base el) (Branch on met otherwise) h.moved) run
  jump_goes steps l b n el sp fine behind h log arrives (Return None) here run =
      out_goes l b n el sp (only_jump b n (Return None) (Goto (behind_at c)) tt here)
      (subst (λ (m : Memory). Behind c c.site.to s (Returned l.spent None m)) (freed l.memory l.owned h.owned) (subst (Behind c c.site.to s) (sym run.0) behind)
      el sp h.cheap (none_answered c.site.to el h.follows))
  jump_goes steps l b n el sp fine behind h log arrives (Return (Some a)) here run =
      returns_go steps l b n el sp fine h c.site.to c.candidate.result c.is.result a here behind log run
  jump_goes steps l b n el sp fine behind h log arrives Halt here run =
      does_goes c (inside s l b n el sp) (Over (Ended sp Halted))
      (jump_is (placed c) c.globals c.given (inside s l b n el sp) Halt (only_jump b n Halt Halt tt here)) (subst (Behind c c.site.to s) (sym run.0) behind sp h.cheap)

  -- ---- the whole of it

  nowhere : (steps : ℕ) (u : State ℕ) → HasRoom went → slice_get c.candidate.blocks u.block ≡ None → (log : Log) → Runs steps u log → ⊥
  unfolding Logged
  nowhere zero u fine e log run = run
  nowhere (suc steps) u fine e log run =
      let over = subst (λ (x : Event (State ℕ) Asked Outcome). LoggedEvent (Runs steps) went x log) (step_nowhere virtual c.globals c.candidate g u e) run in
      subst HasRoom (sym over.0) fine

  -- the candidate's code goes on from each line
  abbrev Later : ℕ → Type 0
  Later steps =
      (l : State ℕ) (b n : ℕ) (el : Values ℕ) (sp : Spent) (ls : List (Line ℕ)) (j : Jump ℕ) → Left c.candidate l.block l.next ls j
      → Left (placed c) b n (map (moved_line c.base) ls ++ result_brought c.base c.candidate.result c.site.to j) (moved_jump (first_at c) (behind_at c) c.base j)
      → list_all makes_none ls ≡ true → Inside c s l el sp → (log : Log) → AllGoFrom c.callees log → Runs steps l log → Goes c (inside s l b n el sp)

  block_arrives : (steps : ℕ) → HasRoom went → Later steps → (l : State ℕ) (el : Values ℕ) (sp : Spent) → Inside c s l el sp → (log : Log) → AllGoFrom c.callees log → Arrives steps l el sp log
  block_arrives steps fine later l el sp h log gone k run = by (slice_get c.candidate.blocks k) refl
    where
      by : (o : Option (Block ℕ)) → slice_get c.candidate.blocks k ≡ o → Goes c (inside s l (k + first_at c) 0 el sp)
      by None e = absurd (nowhere steps (record l { block = k; next = 0 }) fine e log run)
      by (Some x) e =
          later (record l { block = k; next = 0 }) (k + first_at c) 0 el sp x.lines x.jump (at_start c.candidate k x e)
          (at_start (placed c) (k + first_at c) (candidate_block (first_at c) (behind_at c) c.base c.candidate.result c.site.to x) (candidate_block_at c k x e))
          (all_at (λ (d : Block ℕ). list_all makes_none d.lines) c.candidate.blocks k x (candidate_makes_none c.candidate c.is.calm) e)
          (record { owned = h.owned; follows = h.follows; moved = h.moved; cheap = h.cheap }) log gone run

  candidate_goes : g.turns ≡ c.given.turns - s.spent.turns → g.room ≤ c.given.room → IsLow c.base s.values → HasRoom went → Behind c c.site.to s went → (steps : ℕ) → Later steps
  unfolding Logged
  candidate_goes same wide low fine behind zero l b n el sp ls j first second calm h log gone run = absurd run
  candidate_goes same wide low fine behind (suc steps) l b n el sp [] j first second calm h log gone run =
      jump_goes steps l b n el sp fine behind h log
      (block_arrives steps fine (λ u d m e q ms k f p z i o w r. candidate_goes same wide low fine behind steps u d m e q ms k f p z i o w r) l el sp h log gone) j second
      (subst (λ (x : Event (State ℕ) Asked Outcome). LoggedEvent (Runs steps) went x log) (jump_is c.candidate c.globals g l j first) run)
  candidate_goes same wide low fine behind (suc steps) l b n el sp (x ∷ ls) j first second calm h log gone run =
      let ms : List (Line ℕ) = map (moved_line c.base) ls ++ result_brought c.base c.candidate.result c.site.to j in
      let k : Jump ℕ = moved_jump (first_at c) (behind_at c) c.base j in
      let parts = and_parts (makes_none x) (list_all makes_none ls) calm in
      line_goes steps l b n el sp same wide low fine behind h
      (λ u el2 sp2 rest at next h2 gone2 run2.
      candidate_goes same wide low fine behind steps u b (n + 1) el2 sp2 ls j
      (subst (λ (q : ℕ). Left c.candidate q u.next ls j) (sym at) (subst (λ (q : ℕ). Left c.candidate l.block q ls j) (sym next) (behind_it c.candidate l.block l.next x ls j first)))
      (behind_it (placed c) b n (moved_line c.base x) ms k second) parts.1 h2 rest gone2 run2)
      x ls ms j k first second parts.0 log gone run

  -- from its first line, with the arguments brought
  pub candidate_enters : g.turns ≡ c.given.turns - s.spent.turns → g.room ≤ c.given.room → IsLow c.base s.values → HasRoom went → Behind c c.site.to s went → (steps : ℕ) (el : Values ℕ) (sp : Spent) (log : Log)
      → AllFollow el s.values → AllFollow (from_base c.base el) (begin virtual c.candidate g).values → IsCheaper sp s.spent → AllGoFrom c.callees log → Runs steps (begin virtual c.candidate g) log
      → Goes c (inside s (begin virtual c.candidate g) (first_at c) 0 el sp)
  candidate_enters same wide low fine behind steps el sp log follows moved cheap gone run =
      let l : State ℕ = begin virtual c.candidate g in
      let h : Inside c s l el sp =
      record { owned = refl; follows = follows; moved = moved; cheap = cheaper_after sp s.spent (both s.spent nothing) cheap (cheaper_alone s.spent) } in
      subst (λ (k : ℕ). Goes c (inside s l k 0 el sp)) (let e : 0 + first_at c ≡ first_at c = omega arith in e)
      (block_arrives steps fine (candidate_goes same wide low fine behind steps) l el sp h log gone 0 run)
