-- A line's step performs what it does in values, and a jump's goes where its way leads; and two that do the same in values go together.
use Rattle.std.proofs.Common.{◌≡◌, ℕ, ◌+◌, ◌-◌, nat_lt, Bool, true, false, if◌then◌else◌, List, [], ◌∷◌, ◌++◌, map, length, Option, Some, None, refl, sym, ap, subst, option_map, option_and_then}
use Rattle.std.proofs.Math.Path.{fun_ext}
use Rattle.il_ast.specs.declared.operation.Class.{Class}
use Rattle.il_ast.specs.declared.value.Value.{Value}
use Rattle.il_ast.specs.declared.value.Value.TheVariants.{Integer, Pointer, Function}
use Rattle.il_ast.specs.declared.value.End.TheVariants.{Halt as Halted, Undefined, Turns}
use Rattle.il_ast.specs.Prelude.{byte_count, Memory, store, copy, fresh, free_all, Call as Calling, stored_class, one_turn, both, Outcome, Returned, Ended, Next, On, Over, Event, Does, Calls, Asked, Given, Fine}
use Rattle.il_ast.proofs.Simulation.{TogetherNext, Together}
use Rattle.vcode.specs.Prelude.{Destination, Argument, Line, Tick, Set, Operate, Load, Store, Alloc, Blit, Call, Jump, Goto, Branch, Return, Halt, held, loaded, Values, virtual, State, value_of, read, read_result, read_all, address_of, fails, goes_on, sets, changes, weighs, ticks, resumes, calls, line_step, enters, compared, branches, returns, jump_step, place_of, line_writes, Act, Fails, Spends, Gives, Leaves, Makes, Asks, given, left, asked, act, written, Way, Lost, Enters, Answers, Halts, entering, answering, way, BehindCall, DoAlike}

-- ---- what a line's act performs

unfoldable pub received : State ℕ → Option ℕ → Option Class → Option Value → Next (State ℕ) Outcome
received s to None v = On (record s { next = s.next + 1 })
received s to (Some k) None = Over (Ended s.spent Undefined)
received s to (Some k) (Some v) = On (record s { next = s.next + 1; values = written to (Some (held k v)) s.values })

unfoldable pub resumed : State ℕ → Option ℕ → Option Class → Outcome → Next (State ℕ) Outcome
resumed s to wants (Returned t v m) = received (record s { memory = m; spent = both s.spent t }) to wants v
resumed s to wants (Ended t e) = Over (Ended (both s.spent t) e)

abbrev pub perform : Given → State ℕ → Option ℕ → Act → Event (State ℕ) Asked Outcome
perform i s to Fails = fails s
perform i s to (Spends turn w) = ticks i s turn w
perform i s to (Gives o) = goes_on (record s { values = written to o s.values })
perform i s to (Leaves m) = goes_on (record s { memory = m })
perform i s to (Makes size) =
    goes_on
    (record s {
      values = written to (Some (Pointer (length s.memory) 0)) s.values;
      memory = fresh s.memory size;
      owned = s.owned ++ length s.memory ∷ [];
    })
perform i s to (Asks call) = Calls (record { call = call; turns = i.turns - s.spent.turns; room = i.room; memory = s.memory }) (resumed s to call.wants)

sets_act : (i : Given) (s : State ℕ) (to : ℕ) (o : Option Value) → sets virtual s to o ≡ perform i s (Some to) (given o)
sets_act i s to None = refl
sets_act i s to (Some v) = refl

changes_act : (i : Given) (s : State ℕ) (to : Option ℕ) (o : Option Memory) → changes s o ≡ perform i s to (left o)
changes_act i s to None = refl
changes_act i s to (Some m) = refl

resumed_same : (s : State ℕ) (to : Option (Destination ℕ)) (o : Outcome) → resumes virtual s to o ≡ resumed s (place_of to) (option_map (λ (d : Destination ℕ). d.class) to) o
unfolding received resumed
resumed_same s to (Ended t e) = refl
resumed_same s None (Returned t v m) = refl
resumed_same s (Some d) (Returned t None m) = refl
resumed_same s (Some d) (Returned t (Some v) m) = refl

calls_act : (i : Given) (s : State ℕ) (to : Option (Destination ℕ)) (args : List (Argument ℕ)) (x : Option Value) (vs : Option (List Value))
    → calls virtual i s to args x vs ≡ perform i s (place_of to) (asked to args x vs)
calls_act i s to args (Some (Function g)) (Some vs) =
    let call : Calling =
    record { callee = g; classes = map (λ (a : Argument ℕ). a.class) args; wants = option_map (λ (d : Destination ℕ). d.class) to; args = vs } in
    let asks : Asked = record { call = call; turns = i.turns - s.spent.turns; room = i.room; memory = s.memory } in
    ap (λ (k : Outcome → Next (State ℕ) Outcome). Calls asks k) (fun_ext (resumed_same s to))
calls_act i s to args (Some (Function g)) None = refl
calls_act i s to args (Some (Integer k)) vs = refl
calls_act i s to args (Some (Pointer b k)) vs = refl
calls_act i s to args None vs = refl

pub line_acts : (globals : List Value) (i : Given) (s : State ℕ) (l : Line ℕ) → line_step virtual globals i s l ≡ perform i s (line_writes l) (act globals s.memory s.values l)
unfolding line_step
line_acts globals i s (Tick turn w) = refl
line_acts globals i s (Set to a) = refl
line_acts globals i s (Operate to op a b) = refl
line_acts globals i s (Load to op at) = sets_act i s to (option_and_then (loaded s.memory op) (address_of globals s.memory s.values at))
line_acts globals i s (Store size a at) =
    changes_act i s None
    (option_and_then (λ v. option_and_then (λ p. store s.memory (byte_count size) p v) (address_of globals s.memory s.values at)) (read globals s.values (stored_class size) a))
line_acts globals i s (Alloc None size) = refl
line_acts globals i s (Alloc (Some to) size) = refl
line_acts globals i s (Blit from to count) =
    changes_act i s None (option_and_then (λ p. option_and_then (λ q. copy s.memory count p q) (value_of globals s.values to)) (value_of globals s.values from))
line_acts globals i s (Call to callee args) = calls_act i s to args (value_of globals s.values callee) (read_all globals s.values args)

-- ---- what a jump's way leads to

abbrev pub lead : State ℕ → Way → Event (State ℕ) Asked Outcome
lead s Lost = fails s
lead s (Enters k) = enters s k
lead s (Answers v) = Does (Over (Returned s.spent v (free_all s.memory s.owned)))
lead s Halts = Does (Over (Ended s.spent Halted))

branches_way : (s : State ℕ) (met otherwise : ℕ) (o : Option Value) → branches s met otherwise o ≡ lead s (entering met otherwise o)
branches_way s met otherwise None = refl
branches_way s met otherwise (Some (Integer n)) = refl
branches_way s met otherwise (Some (Pointer b k)) = refl
branches_way s met otherwise (Some (Function g)) = refl

returns_way : (s : State ℕ) (o : Option Value) → returns s o ≡ lead s (answering o)
returns_way s None = refl
returns_way s (Some v) = refl

pub jump_leads : (globals : List Value) (result : Option Class) (s : State ℕ) (j : Jump ℕ) → jump_step globals result s j ≡ lead s (way globals result s.memory s.values j)
unfolding jump_step
jump_leads globals result s (Goto k) = refl
jump_leads globals result s (Branch on met otherwise) = branches_way s met otherwise (compared globals s on)
jump_leads globals result s (Return None) = refl
jump_leads globals None s (Return (Some a)) = refl
jump_leads globals (Some k) s (Return (Some a)) = returns_way s (read_result globals s.values k a)
jump_leads globals result s Halt = refl

-- ---- another code in a state with the same memory, which has spent the same

abbrev pub beside : State ℕ → (block next : ℕ) → Values ℕ → State ℕ
beside s b n values = record { block = b; next = n; values = values; memory = s.memory; owned = s.owned; spent = s.spent }

abbrev pub Relation : Type 1
Relation = State ℕ → State ℕ → Type 0

-- what is to be related behind a line: states in which this holds
abbrev pub Onward : Relation → (Memory → Values ℕ → Values ℕ → Type 0) → State ℕ → (block next : ℕ) → Type 0
Onward related holds s b n =
    (u : State ℕ) (new : Values ℕ) → u.block ≡ s.block → u.next ≡ s.next + 1 → holds u.memory u.values new → related u (beside u b (n + 1) new)

receives_alike : (related : Relation) (holds : Memory → Values ℕ → Values ℕ → Type 0) (s : State ℕ) (b n : ℕ) (el : Values ℕ) (to to2 : Option ℕ) (k : Option Class) (v : Option Value)
    → BehindCall holds to to2 s.values el k → Onward related holds s b n → TogetherNext related Fine (received s to k v) (received (beside s b n el) to2 k v)
unfolding received
receives_alike related holds s b n el to to2 None v behind on =
    let u : State ℕ = record s { next = s.next + 1 } in (beside u b (n + 1) el, refl, on u el refl refl (behind s.memory))
receives_alike related holds s b n el to to2 (Some k) None behind on = λ f. absurd f
receives_alike related holds s b n el to to2 (Some k) (Some v) behind on =
    let o : Option Value = Some (held k v) in
    let u : State ℕ = record s { next = s.next + 1; values = written to o s.values } in
    (beside u b (n + 1) (written to2 o el), refl, on u (written to2 o el) refl refl (behind s.memory v))

same_act : (related : Relation) (i : Given) (t : State ℕ) (to2 : Option ℕ) (x : Event (State ℕ) Asked Outcome) (a b : Act) → b ≡ a → Together related Fine x (perform i t to2 a) → Together related Fine x (perform i t to2 b)
same_act related i t to2 x a b same h = subst (λ (c : Act). Together related Fine x (perform i t to2 c)) (sym same) h

-- lines that do alike go together
pub acts_together : (related : Relation) (holds : Memory → Values ℕ → Values ℕ → Type 0) (i : Given) (s : State ℕ) (b n : ℕ) (el : Values ℕ) (to to2 : Option ℕ) (a c : Act)
    → DoAlike holds s.memory to to2 s.values el a c → Onward related holds s b n → Together related Fine (perform i s to a) (perform i (beside s b n el) to2 c)
unfolding received resumed
acts_together related holds i s b n el to to2 Fails c h on = λ f. absurd f
acts_together related holds i s b n el to to2 (Spends false w) c h on =
    let u : State ℕ = record s { next = s.next + 1; spent = both s.spent (weighs w) } in
    same_act related i (beside s b n el) to2 (ticks i s false w) (Spends false w) c h.0 (beside u b (n + 1) el, refl, on u el refl refl h.1)
acts_together related holds i s b n el to to2 (Spends true w) c h on =
    same_act related i (beside s b n el) to2 (ticks i s true w) (Spends true w) c h.0 (by (nat_lt s.spent.turns i.turns))
  where
    by : (c : Bool)
        → Together related Fine (if c then goes_on (record s { spent = both s.spent (one_turn w) }) else Does (Over (Ended s.spent Turns)))
        (if c then goes_on (record (beside s b n el) { spent = both s.spent (one_turn w) }) else Does (Over (Ended s.spent Turns)))
    by true =
        let u : State ℕ = record s { next = s.next + 1; spent = both s.spent (one_turn w) } in (beside u b (n + 1) el, refl, on u el refl refl h.1)
    by false = λ f. refl
acts_together related holds i s b n el to to2 (Gives o) c h on =
    let u : State ℕ = record s { next = s.next + 1; values = written to o s.values } in
    same_act related i (beside s b n el) to2 (perform i s to (Gives o)) (Gives h.0) c h.1.0 (beside u b (n + 1) (written to2 h.0 el), refl, on u (written to2 h.0 el) refl refl h.1.1)
acts_together related holds i s b n el to to2 (Leaves m) c h on =
    let u : State ℕ = record s { next = s.next + 1; memory = m } in
    same_act related i (beside s b n el) to2 (perform i s to (Leaves m)) (Leaves m) c h.0 (beside u b (n + 1) el, refl, on u el refl refl h.1)
acts_together related holds i s b n el to to2 (Makes size) c h on =
    let o : Option Value = Some (Pointer (length s.memory) 0) in
    let u : State ℕ =
    record s { next = s.next + 1; values = written to o s.values; memory = fresh s.memory size; owned = s.owned ++ length s.memory ∷ [] } in
    same_act related i (beside s b n el) to2 (perform i s to (Makes size)) (Makes size) c h.0 (beside u b (n + 1) (written to2 o el), refl, on u (written to2 o el) refl refl h.1)
acts_together related holds i s b n el to to2 (Asks call) c h on =
    same_act related i (beside s b n el) to2 (perform i s to (Asks call)) (Asks call) c h.0 (resumed (beside s b n el) to2 call.wants, refl, answers)
  where
    answers : (o : Outcome) → TogetherNext related Fine (resumed s to call.wants o) (resumed (beside s b n el) to2 call.wants o)
    answers (Returned t v m) = receives_alike related holds (record s { memory = m; spent = both s.spent t }) b n el to to2 call.wants v h.1 on
    answers (Ended t e) = λ f. refl
