-- Code with a call in place runs as the code with the call.
use Rattle.std.proofs.Common.{◌≡◌, ℕ, zero, suc, ◌+◌, ◌-◌, ◌<◌, ◌≤◌, Bool, true, false, nat_eq, nat_lt, ◌&&◌, if◌then◌else◌, ◌⊎◌, inl, inr, List, [], ◌∷◌, ◌++◌, map, length, take, drop, slice_get, Option, Some, None, refl, sym, ◌∙◌, ap, subst, arith, option_map}
use Rattle.std.specs.List.{list_all, list_any}
use Rattle.std.proofs.lemmas.Bool.{and_parts}
use Rattle.std.proofs.lemmas.Bool.Decides.{nat_tests}
use Rattle.il_ast.specs.declared.operation.Class.{Class}
use Rattle.il_ast.specs.declared.value.Value.{Value}
use Rattle.il_ast.specs.declared.value.Value.TheVariants.{Pointer, Function}
use Rattle.il_ast.specs.declared.value.End.TheVariants.{Halt as Halted, Undefined, Turns}
use Rattle.il_ast.specs.Prelude.{Memory, fresh, free_all, Call as Calling, same_classes, result_fits, Spent, nothing, one_turn, one_call, both, Outcome, Returned, Ended, after, On, Over, Event, Does, LoggedNext, LoggedEvent, Logged, Asked, Log, AreArgs, AllGo}
use Rattle.vcode.specs.declared.place.Operand.TheVariants.{Name}
use Rattle.vcode.specs.declared.place.Argument.{Argument}
use Rattle.vcode.specs.declared.place.Destination.{Destination}
use Rattle.vcode.specs.declared.line.Line.{Line}
use Rattle.vcode.specs.declared.line.Line.TheVariants.{Tick, Set, Operate, Load, Store, Alloc, Blit, Call}
use Rattle.vcode.specs.declared.line.Jump.{Jump}
use Rattle.vcode.specs.declared.line.Jump.TheVariants.{Goto}
use Rattle.vcode.specs.declared.code.Block.{Block}
use Rattle.vcode.specs.Prelude.{classes_in, line_keeps, is_below, held, Values, virtual, unknown, put, State, bound, begin, read_all, weighs, goes_on, step, place_of, line_writes, Act, Fails, Spends, Gives, Leaves, Makes, Asks, asked, act, written, Way, Lost, Enters, Answers, Halts, way, IsCheaper, GoesSo, HasRoom}
use Rattle.vcode.proofs.Acting.{perform, lead, received, resumed}
use Rattle.vcode.proofs.Following.{AllFollow, ActFollows, act_follows, WayFollows, way_follows, assign_follows}
use Rattle.vcode.proofs.InPlace.{as_cheap, cheaper_after, goes_room}
use Rattle.vcode.proofs.Rewriting.{Left, at_start, behind_it, line_is, jump_is}
use Rattle.vcode.proofs.Stepping.{step_nowhere}
use Rattle.inlining.specs.InPlace.{arguments_brought, behind_call, begins_turn, given_by, GoesAs}
use Rattle.inlining.specs.Laws.{CallsInPlaceKeep}
use Rattle.inlining.proofs.Beside.{Setting, placed, placed_step, Goes, GoesNext, does_goes, calls_goes, cheaper_both, cheaper_unentered, IsLow}
use Rattle.inlining.proofs.PlacedBlocks.{cut_at, behind_at, first_at, cut_block, other_block, call_block, rest_block, block_known}
use Rattle.inlining.proofs.Turns.{IsTurn, turn_act, one_or_other, Begun, begun_further, ended_room}
use Rattle.inlining.proofs.Passed.{args_are}
use Rattle.inlining.proofs.Entering.{along, arguments_goes}
use Rattle.inlining.proofs.PerCandidate.{answered, resumed_at, Behind, candidate_enters}
use Rattle.il_ast.proofs.Alike.{same_classes_are}

-- ---- registers

abbrev IsLowPlace : ℕ → Option ℕ → Type 0
IsLowPlace base None = Unit {0}
IsLowPlace base (Some r) = is_below base r ≡ true

written_low : (base : ℕ) (to : Option ℕ) (o : Option Value) (values : Values ℕ) → IsLowPlace base to → IsLow base values → IsLow base (written to o values)
written_low base None o values place low q far = low q far
written_low base (Some r) o values place low q far = ap (λ (b : Bool). if b then o else values q) apart ∙ low q far
  where
    apart : nat_eq q r ≡ false
    apart = grind (arith, nat_tests)

line_low : (base : ℕ) (l : Line ℕ) → line_keeps (is_below base) l ≡ true → IsLowPlace base (line_writes l)
line_low base (Tick turn w) h = tt
line_low base (Set to a) h = (and_parts _ _ h).0
line_low base (Operate to op a b) h = (and_parts _ _ h).0
line_low base (Load to op at) h = (and_parts _ _ h).0
line_low base (Store size a at) h = tt
line_low base (Alloc None size) h = tt
line_low base (Alloc (Some to) size) h = h
line_low base (Blit from to count) h = tt
line_low base (Call None callee args) h = tt
line_low base (Call (Some d) callee args) h = (and_parts _ _ h).0

bound_low : (base : ℕ) (ds : List (Destination ℕ)) (vs : List Value) (values : Values ℕ) → list_all (λ (d : Destination ℕ). is_below base d.place) ds ≡ true → IsLow base values → IsLow base (bound virtual values ds vs)
bound_low base [] vs values h low = low
bound_low base (d ∷ ds) [] values h low = low
bound_low base (d ∷ ds) (v ∷ vs) values h low =
    let parts = and_parts (is_below base d.place) (list_all (λ (d : Destination ℕ). is_below base d.place) ds) h in
    bound_low base ds vs (put virtual d.place (held d.class v) values) parts.1 (written_low base (Some d.place) (Some (held d.class v)) values parts.0 low)

-- ---- the codes side by side

record Beside (c : Setting) (s : State ℕ) (el : Values ℕ) (sp : Spent) : Type 0 where
  follows : AllFollow el s.values
  low : IsLow c.base s.values
  cheap : IsCheaper sp s.spent

module _ (c : Setting) where
  abbrev given_step : State ℕ → Event (State ℕ) Asked Outcome
  given_step = step virtual c.globals c.v c.given

  abbrev Runs : ℕ → State ℕ → Log → Type 0
  Runs steps u rest = Logged given_step steps u rest c.o

  -- what is to go on behind a line that does this
  abbrev Onward : (steps : ℕ) → State ℕ → (block next : ℕ) → Act → Type 0
  Onward steps s b n a =
      (u : State ℕ) (el : Values ℕ) (sp : Spent) (rest : Log) → u.block ≡ s.block → u.next ≡ s.next + 1 → Beside c u el sp → (IsTurn a → Begun c.given u.spent) → (Begun c.given s.spent → Begun c.given u.spent)
      → AllGo c.callees rest → Runs steps u rest → Goes c (along u b (n + 1) el sp)

  -- the end with the call isn't undefined, nor out of stack
  undefined_never : (x : Spent) → Ended x Undefined ≡ c.o → ⊥
  undefined_never x e = subst HasRoom (sym e) c.room

  tick_goes : (steps w : ℕ) (s : State ℕ) (b n : ℕ) (el : Values ℕ) (sp : Spent) → Beside c s el sp → (log : Log) → AllGo c.callees log → Onward steps s b n (Spends true w) → (q : Bool) → nat_lt s.spent.turns c.given.turns ≡ q
      → placed_step c (along s b n el sp)
      ≡ (if q then goes_on (record (along s b n el sp) { spent = both sp (one_turn w) }) else Does (Over (Ended sp Turns)))
      → LoggedEvent (Runs steps) c.o (if q then goes_on (record s { spent = both s.spent (one_turn w) }) else Does (Over (Ended s.spent Turns))) log → Goes c (along s b n el sp)
  tick_goes steps w s b n el sp h log gone on true left at run =
      let u : State ℕ = record s { next = s.next + 1; spent = both s.spent (one_turn w) } in
      let begun : Begun c.given u.spent =
      record { given = (let p : 0 < c.given.turns = grind (arith, nat_tests) in p); spent = omega arith } in
      does_goes c (along s b n el sp) (On (along u b (n + 1) el (both sp (one_turn w)))) at
      (on u el (both sp (one_turn w)) log refl refl
      (record { follows = h.follows; low = h.low; cheap = cheaper_both sp s.spent (one_turn w) (one_turn w) h.cheap (as_cheap (one_turn w)) })
      (λ _. begun) (λ _. begun) gone run)
  tick_goes steps w s b n el sp h log gone on false left at run =
      does_goes c (along s b n el sp) (Over (Ended sp Turns)) at (subst (GoesSo (Ended sp Turns)) run.0 (h.cheap, refl))

  -- behind a call that returns
  received_goes : (steps : ℕ) (s : State ℕ) (b n : ℕ) (el : Values ℕ) (sp : Spent) → Beside c s el sp → (to : Option ℕ) → IsLowPlace c.base to → (call : Calling) (wants : Option Class) → Onward steps s b n (Asks call)
      → (x : Spent) (v : Option Value) (m : Memory) (rest : Log) → AllGo c.callees rest → LoggedNext (Runs steps) c.o (received (record s { memory = m; spent = both s.spent x }) to wants v) rest
      → GoesNext c (received (record (along s b n el sp) { memory = m; spent = both sp x }) to wants v)
  unfolding received
  received_goes steps s b n el sp h to place call None on x v m rest gone run =
      on (record s { next = s.next + 1; memory = m; spent = both s.spent x }) el (both sp x) rest refl refl
      (record { follows = h.follows; low = h.low; cheap = cheaper_both sp s.spent x x h.cheap (as_cheap x) }) (λ p. absurd p) (begun_further c.given s.spent x) gone run
  received_goes steps s b n el sp h to place call (Some k) on x None m rest gone run = absurd (undefined_never _ run.0)
  received_goes steps s b n el sp h to place call (Some k) on x (Some v) m rest gone run =
      let o : Option Value = Some (held k v) in
      on (record s { next = s.next + 1; values = written to o s.values; memory = m; spent = both s.spent x }) (written to o el) (both sp x) rest refl refl
      (record {
        follows = assign_follows to o o s.values el (λ y e. e) h.follows;
        low = written_low c.base to o s.values place h.low;
        cheap = cheaper_both sp s.spent x x h.cheap (as_cheap x);
      }) (λ p. absurd p) (begun_further c.given s.spent x) gone run

  resumed_goes : (steps : ℕ) (s : State ℕ) (b n : ℕ) (el : Values ℕ) (sp : Spent) → Beside c s el sp → (to : Option ℕ) → IsLowPlace c.base to → (call : Calling) → Onward steps s b n (Asks call)
      → (went : Outcome) (rest : Log) → AllGo c.callees rest → LoggedNext (Runs steps) c.o (resumed s to call.wants went) rest → GoesNext c (resumed (along s b n el sp) to call.wants went)
  unfolding resumed
  resumed_goes steps s b n el sp h to place call on (Returned x v m) rest gone run = received_goes steps s b n el sp h to place call call.wants on x v m rest gone run
  resumed_goes steps s b n el sp h to place call on (Ended x e) rest gone run =
      subst (GoesSo (Ended (both sp x) e)) run.0 (cheaper_both sp s.spent x x h.cheap (as_cheap x), refl)

  -- both do a line
  acts_go : (steps : ℕ) (s : State ℕ) (b n : ℕ) (el : Values ℕ) (sp : Spent) → Beside c s el sp → (to : Option ℕ) → IsLowPlace c.base to → (a x : Act) → ActFollows x a → placed_step c (along s b n el sp) ≡ perform c.given (along s b n el sp) to x
      → (log : Log) → AllGo c.callees log → LoggedEvent (Runs steps) c.o (perform c.given s to a) log → Onward steps s b n a → Goes c (along s b n el sp)
  acts_go steps s b n el sp h to place Fails x f at log gone run on = absurd (undefined_never s.spent run.0)
  acts_go steps s b n el sp h to place (Spends false w) x f at log gone run on =
      let t : State ℕ = along s b n el sp in
      let u : State ℕ = record s { next = s.next + 1; spent = both s.spent (weighs w) } in
      does_goes c t (On (along u b (n + 1) el (both sp (weighs w)))) (at ∙ ap (perform c.given t to) f)
      (on u el (both sp (weighs w)) log refl refl
      (record { follows = h.follows; low = h.low; cheap = cheaper_both sp s.spent (weighs w) (weighs w) h.cheap (as_cheap (weighs w)) }) (λ p. absurd p) (begun_further c.given s.spent (weighs w)) gone run)
  acts_go steps s b n el sp h to place (Spends true w) x f at log gone run on =
      let t : State ℕ = along s b n el sp in
      tick_goes steps w s b n el sp h log gone on (nat_lt s.spent.turns c.given.turns) refl
      (at ∙ ap (perform c.given t to) f
      ∙ ap (λ (k : ℕ). if nat_lt k c.given.turns then goes_on (record t { spent = both sp (one_turn w) }) else Does (Over (Ended sp Turns))) h.cheap.turns) run
  acts_go steps s b n el sp h to place (Gives o) x f at log gone run on =
      let t : State ℕ = along s b n el sp in
      let u : State ℕ = record s { next = s.next + 1; values = written to o s.values } in
      let el2 : Values ℕ = written to f.0 el in
      does_goes c t (On (along u b (n + 1) el2 sp)) (at ∙ ap (perform c.given t to) f.1.0)
      (on u el2 sp log refl refl
      (record { follows = assign_follows to o f.0 s.values el f.1.1 h.follows; low = written_low c.base to o s.values place h.low; cheap = h.cheap }) (λ p. absurd p) (λ p. p) gone run)
  acts_go steps s b n el sp h to place (Leaves m) x f at log gone run on =
      let t : State ℕ = along s b n el sp in
      let u : State ℕ = record s { next = s.next + 1; memory = m } in
      does_goes c t (On (along u b (n + 1) el sp)) (at ∙ ap (perform c.given t to) f)
      (on u el sp log refl refl (record { follows = h.follows; low = h.low; cheap = h.cheap }) (λ p. absurd p) (λ p. p) gone run)
  acts_go steps s b n el sp h to place (Makes size) x f at log gone run on =
      let t : State ℕ = along s b n el sp in
      let o : Option Value = Some (Pointer (length s.memory) 0) in
      let u : State ℕ =
      record s { next = s.next + 1; values = written to o s.values; memory = fresh s.memory size; owned = s.owned ++ length s.memory ∷ [] } in
      does_goes c t (On (along u b (n + 1) (written to o el) sp)) (at ∙ ap (perform c.given t to) f)
      (on u (written to o el) sp log refl refl
      (record { follows = assign_follows to o o s.values el (λ y e. e) h.follows; low = written_low c.base to o s.values place h.low; cheap = h.cheap }) (λ p. absurd p) (λ p. p) gone run)
  acts_go steps s b n el sp h to place (Asks call) x f at [] gone run on = absurd run
  acts_go steps s b n el sp h to place (Asks call) x f at (e ∷ rest) gone run on =
      let t : State ℕ = along s b n el sp in
      let asks : ℕ → Asked = λ k. record { call = call; turns = c.given.turns - k; room = c.given.room; memory = s.memory } in
      calls_goes c t (asks sp.turns) (resumed t to call.wants) e (at ∙ ap (perform c.given t to) f) (run.0 ∙ ap asks (sym h.cheap.turns)) gone.0 (resumed t to call.wants e.went) refl
      (resumed_goes steps s b n el sp h to place call on e.went rest gone.1 run.1)

  line_goes : (steps : ℕ) (s : State ℕ) (b n : ℕ) (el : Values ℕ) (sp : Spent) → Beside c s el sp → (l : Line ℕ) (ls ms : List (Line ℕ)) (j k : Jump ℕ) → Left c.v s.block s.next (l ∷ ls) j → Left (placed c) b n (l ∷ ms) k
      → line_keeps (is_below c.base) l ≡ true → (log : Log) → AllGo c.callees log → Runs (suc steps) s log → Onward steps s b n (act c.globals s.memory s.values l) → Goes c (along s b n el sp)
  unfolding Logged
  line_goes steps s b n el sp h l ls ms j k first second known log gone run on =
      acts_go steps s b n el sp h (line_writes l) (line_low c.base l known) (act c.globals s.memory s.values l) (act c.globals s.memory el l) (act_follows c.globals s.memory s.values el l h.follows)
      (line_is (placed c) c.globals c.given (along s b n el sp) l ms k second) log gone
      (subst (λ (e : Event (State ℕ) Asked Outcome). LoggedEvent (Runs steps) c.o e log) (line_is c.v c.globals c.given s l ls j first) run) on

  -- both jump
  ways_go : (steps : ℕ) (s : State ℕ) (b n : ℕ) (el : Values ℕ) (sp : Spent) → Beside c s el sp → (y x : Way) → WayFollows x y → placed_step c (along s b n el sp) ≡ lead (along s b n el sp) x → (log : Log)
      → LoggedEvent (Runs steps) c.o (lead s y) log → ((k : ℕ) → Runs steps (record s { block = k; next = 0 }) log → Goes c (along s k 0 el sp)) → Goes c (along s b n el sp)
  ways_go steps s b n el sp h Lost x f at log run arrives = absurd (undefined_never s.spent run.0)
  ways_go steps s b n el sp h (Enters k) x f at log run arrives =
      does_goes c (along s b n el sp) (On (along s k 0 el sp)) (at ∙ ap (lead (along s b n el sp)) f) (arrives k run)
  ways_go steps s b n el sp h (Answers v) x f at log run arrives =
      let m : Memory = free_all s.memory s.owned in
      does_goes c (along s b n el sp) (Over (Returned sp v m)) (at ∙ ap (lead (along s b n el sp)) f) (subst (GoesSo (Returned sp v m)) run.0 (h.cheap, refl, refl))
  ways_go steps s b n el sp h Halts x f at log run arrives =
      does_goes c (along s b n el sp) (Over (Ended sp Halted)) (at ∙ ap (lead (along s b n el sp)) f) (subst (GoesSo (Ended sp Halted)) run.0 (h.cheap, refl))

  -- ---- where they stand

  abbrev call_line : Line ℕ
  call_line = Call c.site.to (Name c.site.name) c.site.args

  abbrev rest_lines : List (Line ℕ)
  rest_lines = drop (c.j + 1) c.site.block.lines

  abbrev entry_lines : List (Line ℕ)
  entry_lines = arguments_brought c.base c.candidate.params c.site.args

  abbrev AreKnown : List (Line ℕ) → Type 0
  AreKnown ls = list_all (line_keeps (is_below c.base)) ls ≡ true

  -- nowhere, where nothing is owed; before the same lines; before the call, in whose place arguments are brought
  data At (s : State ℕ) (b n : ℕ) : Type 0 where
    Nowhere : slice_get c.v.blocks s.block ≡ None → At s b n
    Same : (ls : List (Line ℕ)) (j : Jump ℕ) → Left c.v s.block s.next ls j → Left (placed c) b n ls j → AreKnown ls → At s b n
    Before : (pre : List (Line ℕ)) → Left c.v s.block s.next (pre ++ call_line ∷ rest_lines) c.site.block.jump → Left (placed c) b n (pre ++ entry_lines) (Goto (first_at c))
        → AreKnown (pre ++ call_line ∷ rest_lines) → (list_any begins_turn pre ≡ true) ⊎ Begun c.given s.spent → At s b n

  -- at the start of a block
  cut_arrives : (s : State ℕ) → At (record s { block = c.k; next = 0 }) c.k 0
  cut_arrives s =
      let cut : c.site.block.lines ≡ take c.j c.site.block.lines ++ call_line ∷ rest_lines = cut_at c.site.block.lines c.j call_line c.is.call in
      Before (take c.j c.site.block.lines)
      (subst (λ (ls : List (Line ℕ)). Left c.v c.k 0 ls c.site.block.jump) cut (at_start c.v c.k c.site.block c.is.block))
      (at_start (placed c) c.k (cut_block c) (call_block c))
      (subst AreKnown cut (block_known c c.k c.site.block c.is.block))
      (inl c.is.turn)

  other_arrives : (s : State ℕ) (k : ℕ) (x : Block ℕ) → nat_eq k c.k ≡ false → slice_get c.v.blocks k ≡ Some x → At (record s { block = k; next = 0 }) k 0
  other_arrives s k x apart e = Same x.lines x.jump (at_start c.v k x e) (at_start (placed c) k x (other_block c k x apart e)) (block_known c k x e)

  arrives : (s : State ℕ) (k : ℕ) → At (record s { block = k; next = 0 }) k 0
  arrives s k = by (slice_get c.v.blocks k) refl (nat_eq k c.k) refl
    where
      by : (o : Option (Block ℕ)) → slice_get c.v.blocks k ≡ o → (q : Bool) → nat_eq k c.k ≡ q → At (record s { block = k; next = 0 }) k 0
      by None e q is = Nowhere e
      by (Some x) e true is =
          let same : c.k ≡ k = grind (arith, nat_tests) in
          subst (λ (z : ℕ). At (record s { block = z; next = 0 }) z 0) same (cut_arrives s)
      by (Some x) e false is = other_arrives s k x is e

  -- the code goes on with the call in place, wherever it stands
  abbrev Later : ℕ → Type 0
  Later steps =
      (s : State ℕ) (b n : ℕ) (el : Values ℕ) (sp : Spent) (log : Log) → At s b n → Beside c s el sp → AllGo c.callees log → Runs steps s log → Goes c (along s b n el sp)

  jump_goes : (steps : ℕ) → Later steps → (s : State ℕ) (b n : ℕ) (el : Values ℕ) (sp : Spent) → Beside c s el sp → (j : Jump ℕ) → Left c.v s.block s.next [] j → Left (placed c) b n [] j
      → (log : Log) → AllGo c.callees log → Runs (suc steps) s log → Goes c (along s b n el sp)
  unfolding Logged
  jump_goes steps later s b n el sp h j first second log gone run =
      ways_go steps s b n el sp h (way c.globals c.v.result s.memory s.values j) (way c.globals c.v.result s.memory el j) (way_follows c.globals c.v.result s.memory s.values el j h.follows)
      (jump_is (placed c) c.globals c.given (along s b n el sp) j second) log
      (subst (λ (e : Event (State ℕ) Asked Outcome). LoggedEvent (Runs steps) c.o e log) (jump_is c.v c.globals c.given s j first) run)
      (λ k r. later (record s { block = k; next = 0 }) k 0 el sp log (arrives s k) (record { follows = h.follows; low = h.low; cheap = h.cheap }) gone r)

  -- ---- behind the call

  -- what is wanted of the call is received
  received_runs : (steps : ℕ) (s : State ℕ) (to : Option (Destination ℕ)) (x : Spent) (v : Option Value) (m : Memory) (rest : Log)
      → LoggedNext (Runs steps) c.o (received (record s { memory = m; spent = both s.spent x }) (place_of to) (option_map (λ (d : Destination ℕ). d.class) to) v) rest
      → Runs steps (record s { next = s.next + 1; values = answered to v s.values; memory = m; spent = both s.spent x }) rest
  unfolding received
  received_runs steps s None x v m rest run = run
  received_runs steps s (Some d) x None m rest run = absurd (undefined_never _ run.0)
  received_runs steps s (Some d) x (Some v) m rest run = run

  answered_low : (to : Option (Destination ℕ)) (v : Option Value) (values : Values ℕ) → IsLowPlace c.base (place_of to) → IsLow c.base values → IsLow c.base (answered to v values)
  answered_low None v values place low = low
  answered_low (Some d) None values place low = low
  answered_low (Some d) (Some v) values place low = written_low c.base (Some d.place) (Some (held d.class v)) values place low

  -- the call, where it returns, and the candidate's code in place
  behind_goes : (steps : ℕ) → Later steps → (s : State ℕ) → IsLow c.base s.values → IsLowPlace c.base (place_of c.site.to) → Left c.v s.block (s.next + 1) rest_lines c.site.block.jump → AreKnown rest_lines
      → (rest : Log) → AllGo c.callees rest → (x : Spent) (v : Option Value) (m : Memory)
      → Runs steps (record s { next = s.next + 1; values = answered c.site.to v s.values; memory = m; spent = both s.spent (both one_call x) }) rest → (el : Values ℕ) (sp : Spent)
      → IsCheaper sp (both s.spent (both one_call x)) → AllFollow el (answered c.site.to v s.values) → Goes c (resumed_at c s m el sp)
  behind_goes steps later s low place here known rest gone x v m run el sp cheap follows =
      later (record s { next = s.next + 1; values = answered c.site.to v s.values; memory = m; spent = both s.spent (both one_call x) }) (behind_at c) 0 el sp rest
      (Same rest_lines c.site.block.jump here (at_start (placed c) (behind_at c) (behind_call c.j c.site) (rest_block c)) known)
      (record { follows = follows; low = answered_low c.site.to v s.values place low; cheap = cheap }) gone run

  -- one call more
  cheaper_called : (a x y sp : Spent) → IsCheaper x y → IsCheaper sp (both a x) → IsCheaper sp (both a (both one_call y))
  cheaper_called a x y sp g h =
      cheaper_after sp (both a x) (both a (both one_call y)) h
      (cheaper_both a a x (both one_call y) (as_cheap a) (cheaper_after x y (both one_call y) g (cheaper_unentered y)))

  end_owed : (steps : ℕ) → Later steps → (s : State ℕ) → IsLow c.base s.values → IsLowPlace c.base (place_of c.site.to) → Left c.v s.block (s.next + 1) rest_lines c.site.block.jump → AreKnown rest_lines
      → (rest : Log) → AllGo c.callees rest → (went meant : Outcome) → GoesSo went meant
      → LoggedNext (Runs steps) c.o (resumed s (place_of c.site.to) (option_map (λ (d : Destination ℕ). d.class) c.site.to) (after one_call meant)) rest → Behind c c.site.to s went
  unfolding resumed
  end_owed steps later s low place here known rest gone (Returned x v m) (Returned y u l) g run =
      λ el sp cheap follows.
      subst (λ (z : Memory). Goes c (resumed_at c s z el sp)) (sym g.2)
      (behind_goes steps later s low place here known rest gone y u l (received_runs steps s c.site.to (both one_call y) u l rest run) el sp (cheaper_called s.spent x y sp g.0 cheap)
      (subst (λ (z : Option Value). AllFollow el (answered c.site.to z s.values)) g.1 follows))
  end_owed steps later s low place here known rest gone (Returned x v m) (Ended y f) g run = absurd g
  end_owed steps later s low place here known rest gone (Ended x e) (Returned y u l) g run = absurd g
  end_owed steps later s low place here known rest gone (Ended x e) (Ended y f) g run =
      λ sp cheap. subst (GoesSo (Ended sp e)) run.0 (cheaper_called s.spent x y sp g.0 cheap, g.1)

  -- a call behind which the code has room has room
  call_room : (steps : ℕ) (s : State ℕ) (to : Option ℕ) (wants : Option Class) (went : Outcome) (rest : Log) → LoggedNext (Runs steps) c.o (resumed s to wants went) rest → HasRoom went
  unfolding resumed
  call_room steps s to wants (Returned x v m) rest run = tt
  call_room steps s to wants (Ended x e) rest run = ended_room (both s.spent x) x e (subst HasRoom (sym run.0) c.room)

  -- and so has what the candidate means
  after_room : (o : Outcome) → HasRoom (after one_call o) → HasRoom o
  after_room (Returned x v m) h = tt
  after_room (Ended x e) h = ended_room (both one_call x) x e h

  -- ---- the call

  both_hold : (a b : Bool) → a ≡ true → b ≡ true → (a && b) ≡ true
  both_hold a b e f = ap (λ q. q && b) e ∙ f

  abbrev the_call : List Value → Calling
  the_call vs =
      record {
        callee = c.callee;
        classes = map (λ (a : Argument ℕ). a.class) c.site.args;
        wants = option_map (λ (d : Destination ℕ). d.class) c.site.to;
        args = vs;
      }

  fewer : (i x all : ℕ) → i ≤ all → 0 < i → 0 < x → i - x < all
  fewer i x all h p q = omega (arith, h, p, q)

  abbrev the_asked : State ℕ → List Value → Asked
  the_asked s vs = record { call = the_call vs; turns = c.given.turns - s.spent.turns; room = c.given.room; memory = s.memory }

  abbrev call_place : Option ℕ
  call_place = place_of c.site.to

  abbrev call_wants : Option Class
  call_wants = option_map (λ (d : Destination ℕ). d.class) c.site.to

  -- what the call goes as
  candidate_goes : (s : State ℕ) → Begun c.given s.spent → (vs : List Value) → read_all c.globals s.values c.site.args ≡ Some vs → HasRoom (c.callees (the_call vs) (c.given.turns - s.spent.turns) c.given.room s.memory)
      → GoesAs c.callees c.globals c.candidate (the_call vs) (c.given.turns - s.spent.turns) c.given.room s.memory
  candidate_goes s begun vs read fine =
      c.as_candidate (the_call vs) (c.given.turns - s.spent.turns) c.given.room s.memory refl (fewer c.given.turns s.spent.turns c.turns c.low begun.given begun.spent)
      (both_hold (same_classes (map (λ (a : Argument ℕ). a.class) c.site.args) (classes_in c.candidate.params)) (result_fits call_wants c.candidate.result) c.is.classes c.is.result)
      (subst (λ (ks : List Class). AreArgs ks vs) (same_classes_are (map (λ (a : Argument ℕ). a.class) c.site.args) (classes_in c.candidate.params) c.is.classes) (args_are c.globals s.values c.site.args vs read))
      fine

  -- the arguments are brought, and the candidate's code runs
  entered_goes : (steps : ℕ) → Later steps → (s : State ℕ) (b n : ℕ) (el : Values ℕ) (sp : Spent) → Beside c s el sp → IsLowPlace c.base call_place → Left c.v s.block (s.next + 1) rest_lines c.site.block.jump → AreKnown rest_lines
      → Left (placed c) b n entry_lines (Goto (first_at c)) → (vs : List Value) → read_all c.globals s.values c.site.args ≡ Some vs → (went : Outcome) (rest : Log) → AllGo c.callees rest
      → HasRoom went → LoggedNext (Runs steps) c.o (resumed s call_place call_wants went) rest
      → (a : GoesAs c.callees c.globals c.candidate (the_call vs) (c.given.turns - s.spent.turns) c.given.room s.memory) → went ≡ after one_call a.meant → Goes c (along s b n el sp)
  entered_goes steps later s b n el sp h place here known second vs read went rest gone fine run a is =
      let room : HasRoom a.went = goes_room a.went a.meant a.goes (after_room a.meant (subst HasRoom is fine)) in
      let behind : Behind c c.site.to s a.went =
      end_owed steps later s h.low place here known rest gone a.went a.meant a.goes (subst (λ (w : Outcome). LoggedNext (Runs steps) c.o (resumed s call_place call_wants w) rest) is run) in
      arguments_goes c s h.low sp b c.candidate.params c.site.args vs n el unknown (same_classes_are (map (λ (a : Argument ℕ). a.class) c.site.args) (classes_in c.candidate.params) c.is.classes) read h.follows
      (λ r x e. absurd (let no : ⊥ = cc in no)) second
      (λ el2 follows moved.
      candidate_enters c s (given_by (the_call vs) (c.given.turns - s.spent.turns) a.below s.memory) a.went refl a.fits h.low room behind a.steps el2 sp a.log follows moved h.cheap a.calls a.runs)

  asked_goes : (steps : ℕ) → Later steps → (s : State ℕ) (b n : ℕ) (el : Values ℕ) (sp : Spent) → Beside c s el sp → Begun c.given s.spent → IsLowPlace c.base call_place → Left c.v s.block (s.next + 1) rest_lines c.site.block.jump
      → AreKnown rest_lines → Left (placed c) b n entry_lines (Goto (first_at c)) → (r : Option (List Value)) → read_all c.globals s.values c.site.args ≡ r → (log : Log) → AllGo c.callees log
      → LoggedEvent (Runs steps) c.o (perform c.given s call_place (asked c.site.to c.site.args (Some (Function c.callee)) r)) log → Goes c (along s b n el sp)
  asked_goes steps later s b n el sp h begun place here known second None read log gone run = absurd (undefined_never s.spent run.0)
  asked_goes steps later s b n el sp h begun place here known second (Some vs) read [] gone run = absurd run
  asked_goes steps later s b n el sp h begun place here known second (Some vs) read (e ∷ rest) gone run =
      let is : c.callees (the_call vs) (c.given.turns - s.spent.turns) c.given.room s.memory ≡ e.went =
      subst (λ (a : Asked). c.callees a.call a.turns a.room a.memory ≡ e.went) run.0 gone.0 in
      let fine : HasRoom e.went = call_room steps s call_place call_wants e.went rest run.1 in
      let a = candidate_goes s begun vs read (subst HasRoom (sym is) fine) in
      entered_goes steps later s b n el sp h place here known second vs read e.went rest gone.1 fine run.1 a (sym is ∙ a.is)

  call_goes : (steps : ℕ) → Later steps → (s : State ℕ) (b n : ℕ) (el : Values ℕ) (sp : Spent) → Beside c s el sp → Begun c.given s.spent → Left c.v s.block s.next (call_line ∷ rest_lines) c.site.block.jump
      → AreKnown (call_line ∷ rest_lines) → Left (placed c) b n entry_lines (Goto (first_at c)) → (log : Log) → AllGo c.callees log → Runs (suc steps) s log → Goes c (along s b n el sp)
  unfolding Logged
  call_goes steps later s b n el sp h begun first known second log gone run =
      let parts = and_parts (line_keeps (is_below c.base) call_line) (list_all (line_keeps (is_below c.base)) rest_lines) known in
      asked_goes steps later s b n el sp h begun (line_low c.base call_line parts.0) (behind_it c.v s.block s.next call_line rest_lines c.site.block.jump first) parts.1 second
      (read_all c.globals s.values c.site.args) refl log gone
      (subst (λ (o : Option Value). LoggedEvent (Runs steps) c.o (perform c.given s call_place (asked c.site.to c.site.args o (read_all c.globals s.values c.site.args))) log) c.named
      (subst (λ (e : Event (State ℕ) Asked Outcome). LoggedEvent (Runs steps) c.o e log) (line_is c.v c.globals c.given s call_line rest_lines c.site.block.jump first) run))

  -- ---- the whole of it

  nowhere_goes : (steps : ℕ) (s : State ℕ) (log : Log) → slice_get c.v.blocks s.block ≡ None → Runs (suc steps) s log → ⊥
  unfolding Logged
  nowhere_goes steps s log e run =
      let over = subst (λ (x : Event (State ℕ) Asked Outcome). LoggedEvent (Runs steps) c.o x log) (step_nowhere virtual c.globals c.v c.given s e) run in
      undefined_never s.spent over.0

  -- a turn has begun once a line that begins one is done
  begun_behind : (s u : State ℕ) (l : Line ℕ) (pre : List (Line ℕ)) → (list_any begins_turn (l ∷ pre) ≡ true) ⊎ Begun c.given s.spent → (IsTurn (act c.globals s.memory s.values l) → Begun c.given u.spent)
      → (Begun c.given s.spent → Begun c.given u.spent) → (list_any begins_turn pre ≡ true) ⊎ Begun c.given u.spent
  begun_behind s u l pre (inr begun) turn more = inr (more begun)
  begun_behind s u l pre (inl any) turn more = by (one_or_other (begins_turn l) (list_any begins_turn pre) any)
    where
      by : (begins_turn l ≡ true) ⊎ (list_any begins_turn pre ≡ true) → (list_any begins_turn pre ≡ true) ⊎ Begun c.given u.spent
      by (inl is) = inr (turn (turn_act c.globals s.memory s.values l is))
      by (inr rest) = inl rest

  begun_there : (x : Spent) → (false ≡ true) ⊎ Begun c.given x → Begun c.given x
  begun_there x (inl e) = absurd (let no : ⊥ = cc in no)
  begun_there x (inr begun) = begun

  -- a line on, in the given code
  next_left : (s u : State ℕ) (l : Line ℕ) (ls : List (Line ℕ)) (j : Jump ℕ) → u.block ≡ s.block → u.next ≡ s.next + 1 → Left c.v s.block s.next (l ∷ ls) j → Left c.v u.block u.next ls j
  next_left s u l ls j at next first =
      subst (λ (q : ℕ). Left c.v q u.next ls j) (sym at) (subst (λ (q : ℕ). Left c.v s.block q ls j) (sym next) (behind_it c.v s.block s.next l ls j first))

  calls_run : (steps : ℕ) → Later steps
  unfolding Logged
  calls_run zero s b n el sp log at h gone run = absurd run
  calls_run (suc steps) s b n el sp log (Nowhere e) h gone run = absurd (nowhere_goes steps s log e run)
  calls_run (suc steps) s b n el sp log (Same [] j first second known) h gone run =
      jump_goes steps (λ u d m e q z i f g r. calls_run steps u d m e q z i f g r) s b n el sp h j first second log gone run
  calls_run (suc steps) s b n el sp log (Same (l ∷ ls) j first second known) h gone run =
      let parts = and_parts (line_keeps (is_below c.base) l) (list_all (line_keeps (is_below c.base)) ls) known in
      line_goes steps s b n el sp h l ls ls j j first second parts.0 log gone run
      (λ u el2 sp2 rest at next h2 turn more gone2 run2.
      calls_run steps u b (n + 1) el2 sp2 rest (Same ls j (next_left s u l ls j at next first) (behind_it (placed c) b n l ls j second) parts.1) h2 gone2 run2)
  calls_run (suc steps) s b n el sp log (Before [] first second known begun) h gone run =
      call_goes steps (λ u d m e q z i f g r. calls_run steps u d m e q z i f g r) s b n el sp h (begun_there s.spent begun) first known second log gone run
  calls_run (suc steps) s b n el sp log (Before (l ∷ pre) first second known begun) h gone run =
      let ls : List (Line ℕ) = pre ++ call_line ∷ rest_lines in
      let ms : List (Line ℕ) = pre ++ entry_lines in
      let parts = and_parts (line_keeps (is_below c.base) l) (list_all (line_keeps (is_below c.base)) ls) known in
      line_goes steps s b n el sp h l ls ms c.site.block.jump (Goto (first_at c)) first second parts.0 log gone run
      (λ u el2 sp2 rest at next h2 turn more gone2 run2.
      calls_run steps u b (n + 1) el2 sp2 rest
      (Before pre (next_left s u l ls c.site.block.jump at next first) (behind_it (placed c) b n l ms (Goto (first_at c)) second) parts.1 (begun_behind s u l pre begun turn more)) h2 gone2 run2)

  -- from the start
  starts_go : (steps : ℕ) (log : Log) → AllGo c.callees log → Runs steps (begin virtual c.v c.given) log → Goes c (begin virtual (placed c) c.given)
  starts_go steps log gone run =
      let s : State ℕ = begin virtual c.v c.given in
      calls_run steps s 0 0 s.values nothing log (arrives s 0)
      (record {
        follows = λ r x e. e;
        low = bound_low c.base c.v.params c.given.args unknown (and_parts _ _ c.is.known).0 (λ r far. refl);
        cheap = as_cheap nothing;
      }) gone run

pub calls_keep : CallsInPlaceKeep
calls_keep v candidate base k j s is callees turns globals f named as_candidate i o log n low args room gone run =
    let c : Setting =
    record {
      v = v;
      candidate = candidate;
      base = base;
      k = k;
      j = j;
      site = s;
      is = is;
      callees = callees;
      turns = turns;
      globals = globals;
      callee = f;
      named = named;
      as_candidate = as_candidate;
      given = i;
      low = low;
      o = o;
      room = room;
    } in
    let h = starts_go c n log gone run in
    record { went = h.went; goes = h.goes; log = h.log; calls = h.calls; steps = h.steps; runs = h.runs }
