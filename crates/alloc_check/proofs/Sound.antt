-- A right certificate keeps the code: each step of the virtual code is matched by moves and one step of the certified code.
use Rattle.std.proofs.Common.{◌≡◌, ℕ, zero, suc, ◌+◌, ◌-◌, Bool, true, false, not, ◌&&◌, ◌||◌, nat_eq, nat_lt, if◌then◌else◌, List, [], ◌∷◌, ◌++◌, map, drop, length, Option, Some, None, slice_get, refl, sym, ◌∙◌, ap, subst, arith, inl, inr, append-nil}
use Rattle.std.specs.Option.{option_map, option_and_then, option_map_or}
use Rattle.std.specs.List.{list_all}
use Rattle.std.proofs.lemmas.Bool.{and_parts, or_cases}
use Rattle.il_ast.specs.declared.operation.Class.{Class}
use Rattle.il_ast.specs.declared.value.Value.{Value}
use Rattle.il_ast.specs.declared.value.Value.TheVariants.{Integer, Pointer, Function}
use Rattle.il_ast.specs.declared.value.End.TheVariants.{Turns}
use Rattle.il_ast.specs.Prelude.{byte_count, Memory, store, copy, fresh, stored_class, one_turn, both, Outcome, Returned, Ended, Next, On, Over, Event, Does, Calls, Asked, Given, Fine, AreArgs}
use Rattle.il_ast.proofs.Simulation.{Leads, Matches, MatchesEvent, Simulates, TogetherNext, Together}
use Rattle.il_ast.proofs.Simulated.{simulation_keeps}
use Rattle.vcode.specs.declared.place.Location.{Location}
use Rattle.vcode.specs.declared.place.Operand.{Operand}
use Rattle.vcode.specs.declared.place.Address.{Address}
use Rattle.vcode.specs.declared.place.Operand.TheVariants.{At, Number}
use Rattle.vcode.specs.declared.place.Destination.{Destination}
use Rattle.vcode.specs.declared.place.Argument.{Argument}
use Rattle.vcode.specs.declared.line.Line.{Line}
use Rattle.vcode.specs.declared.line.Line.TheVariants.{Tick, Set, Operate, Load, Store, Alloc, Blit, Call}
use Rattle.rv_isa.specs.declared.instruction.RegOp.TheVariants.{Add}
use Rattle.vcode.specs.declared.line.Operation.TheVariants.{Reg, Compare}
use Rattle.vcode.specs.declared.line.Jump.{Jump}
use Rattle.vcode.specs.declared.line.Jump.TheVariants.{Goto, Branch, Return, Halt}
use Rattle.vcode.specs.declared.code.Block.{Block}
use Rattle.vcode.specs.declared.code.Code.{Code}
use Rattle.vcode.specs.Prelude.{distance, held, operate, loaded, Values, unknown, put, assign, kept, virtual, located, State, bound, begin, value_of, read, read_result, read_all, operated, address_of, goes_on, sets, takes, changes, weighs, ticks, receives, resumes, calls, line_step, enters, compared, branches, returns, jump_step, step}
use Rattle.vcode.proofs.Following.{Follows, follows_then}
use Rattle.vcode.proofs.Lists.{head_at, tail_at, nothing_at, same_some}
use Rattle.vcode.proofs.Stepping.{step_line, step_jump, step_nowhere}
use Rattle.certificates.specs.declared.certificate.Equality.{Equality}
use Rattle.certificates.specs.declared.certificate.Transfer.{Transfer}
use Rattle.certificates.specs.declared.certificate.Certificate.{Certificate}
use Rattle.alloc_check.specs.Prelude.{Layout, placed_operand, placed_address, placed_argument, placed_destination, placed_line, placed_comparison, placed_jump, placed_returned, RunsAlike, Owners, nobody, Agrees, own_put, own_move, own_kept, moved, known, owns, operand_held, args_held, all_hold, where_held, received, after_line, moves_at, starts_at, layout_at, transfers, certified_lines, jump_point, certified_block, certified_blocks, certified_params, placed_by, jump_right, lines_right, blocks_right, own_params, is_param, entry_right, params_placed, is_sound}
use Rattle.alloc_check.proofs.Agreeing.{operand_follows, read_follows, args_follow, put_agrees, move_agrees, kept_agrees, AllFollow, known_agrees, all_follow, nobody_agrees, params_agree, other_unknown, owned_follows, result_follows}

-- ---- a state with the next line and the values of the other code

abbrev pub carry : State ℕ → ℕ → Values Location → State Location
carry s n el =
    record { block = s.block; next = n; values = el; memory = s.memory; owned = s.owned; spent = s.spent }

abbrev Relation : Type 1
Relation = State ℕ → State Location → Type 0

abbrev Beside : Relation → Event (State ℕ) Asked Outcome → Event (State Location) Asked Outcome → Type 0
Beside related e f = Together related Fine e f

-- what is to be related after a line: the next state, whatever else it has, with values that agree with the owners then
abbrev Onward : Relation → State ℕ → ℕ → Owners → Type 0
Onward related s n own =
    (u : State ℕ) (el : Values Location) → u.block ≡ s.block → u.next ≡ s.next + 1 → Agrees own u.values el → related u (carry u (n + 1) el)

-- ---- a line

held_is : (b : Bool) (x o : Owners) → where_held b x ≡ Some o → (b ≡ true) × (x ≡ o)
held_is true x o h = (refl, some_same x o h)
  where
    some_same : (x o : Owners) → Some x ≡ Some o → x ≡ o
    some_same x o h = ap (λ (q : Option Owners). option_map_or (λ (w : Owners). w) q x) h
held_is false x o h = absurd (none_some o h)
  where
    none_some : (o : Owners) → None ≡ Some o → ⊥
    none_some o h = let e : false ≡ true = ap (λ (q : Option Owners). option_map_or (λ (w : Owners). true) q false) h in cc

takes_beside : (related : Relation) (s : State ℕ) (n : ℕ) (el : Values Location) (own : Owners) (d : Location) (r : ℕ) (o p : Option Value) → Follows p o → Agrees own s.values el
    → Onward related s n (own_put d r own) → Beside related (takes virtual s r o) (takes located (carry s n el) d p)
takes_beside related s n el own d r o p follows agrees on =
    let ev2 : Values ℕ = assign virtual r o s.values in
    let el2 : Values Location = assign located d p el in (
      carry (record s { next = s.next + 1; values = ev2 }) (n + 1) el2,
      refl,
      on (record s { next = s.next + 1; values = ev2 }) el2 refl refl (put_agrees own s.values el d r o p follows agrees),
    )

sets_beside : (related : Relation) (s : State ℕ) (n : ℕ) (el : Values Location) (own : Owners) (d : Location) (r : ℕ) (o p : Option Value) → Follows p o → Agrees own s.values el
    → Onward related s n (own_put d r own) → Beside related (sets virtual s r o) (sets located (carry s n el) d p)
sets_beside related s n el own d r None p follows agrees on = λ f. absurd f
sets_beside related s n el own d r (Some v) p follows agrees on =
    subst (λ (q : Option Value). Beside related (sets virtual s r (Some v)) (sets located (carry s n el) d q)) (sym (follows v refl))
    (takes_beside related s n el own d r (Some v) (Some v) (λ x e. e) agrees on)

changes_beside : (related : Relation) (s : State ℕ) (n : ℕ) (el : Values Location) (own : Owners) (o p : Option Memory) → Follows p o → Agrees own s.values el
    → Onward related s n own → Beside related (changes s o) (changes (carry s n el) p)
changes_beside related s n el own None p follows agrees on = λ f. absurd f
changes_beside related s n el own (Some m) p follows agrees on =
    subst (λ (q : Option Memory). Beside related (changes s (Some m)) (changes (carry s n el) q)) (sym (follows m refl))
    (carry (record s { next = s.next + 1; memory = m }) (n + 1) el, refl, on (record s { next = s.next + 1; memory = m }) el refl refl agrees)

ticks_if : (related : Relation) (s : State ℕ) (n : ℕ) (el : Values Location) (own : Owners) (w : ℕ) (b : Bool) → Agrees own s.values el → Onward related s n own
    → Beside related (if b then goes_on (record s { spent = both s.spent (one_turn w) }) else Does (Over (Ended s.spent Turns)))
    (if b then goes_on (record (carry s n el) { spent = both s.spent (one_turn w) }) else Does (Over (Ended s.spent Turns)))
ticks_if related s n el own w true agrees on =
    (carry (record s { next = s.next + 1; spent = both s.spent (one_turn w) }) (n + 1) el, refl, on (record s { next = s.next + 1; spent = both s.spent (one_turn w) }) el refl refl agrees)
ticks_if related s n el own w false agrees on = λ f. refl

ticks_beside : (related : Relation) (i : Given) (s : State ℕ) (n : ℕ) (el : Values Location) (own : Owners) (turn : Bool) (w : ℕ) → Agrees own s.values el → Onward related s n own
    → Beside related (ticks i s turn w) (ticks i (carry s n el) turn w)
ticks_beside related i s n el own false w agrees on =
    (carry (record s { next = s.next + 1; spent = both s.spent (weighs w) }) (n + 1) el, refl, on (record s { next = s.next + 1; spent = both s.spent (weighs w) }) el refl refl agrees)
ticks_beside related i s n el own true w agrees on = ticks_if related s n el own w (nat_lt s.spent.turns i.turns) agrees on

-- ---- a call

receives_beside : (related : Relation) (s : State ℕ) (n : ℕ) (el : Values Location) (own : Owners) (f : Layout) (to : Option (Destination ℕ)) (v : Option Value) → Agrees own s.values el
    → Onward related s n (received f to own) → TogetherNext related Fine (receives virtual s to v) (receives located (carry s n el) (option_map (placed_destination f) to) v)
receives_beside related s n el own f None v agrees on = (carry (record s { next = s.next + 1 }) (n + 1) el, refl, on (record s { next = s.next + 1 }) el refl refl agrees)
receives_beside related s n el own f (Some d) None agrees on = λ f. absurd f
receives_beside related s n el own f (Some d) (Some v) agrees on = (
  carry (record s { next = s.next + 1; values = put virtual d.place (held d.class v) s.values }) (n + 1) (put located (f d.place) (held d.class v) el),
  refl,
  on (record s { next = s.next + 1; values = put virtual d.place (held d.class v) s.values }) (put located (f d.place) (held d.class v) el) refl refl
      (put_agrees own s.values el (f d.place) d.place (Some (held d.class v)) (Some (held d.class v)) (λ x e. e) agrees),
)

resumes_beside : (related : Relation) (s : State ℕ) (n : ℕ) (el : Values Location) (own : Owners) (f : Layout) (to : Option (Destination ℕ)) (o : Outcome) → Agrees own s.values el
    → Onward related s n (received f to (own_kept own)) → TogetherNext related Fine (resumes virtual s to o) (resumes located (carry s n el) (option_map (placed_destination f) to) o)
resumes_beside related s n el own f to (Returned t v now) agrees on =
    receives_beside related (record s { values = kept virtual s.values; memory = now; spent = both s.spent t }) n (kept located el) (own_kept own) f to v (kept_agrees own s.values el agrees) on
resumes_beside related s n el own f to (Ended t e) agrees on = λ fine. refl

classes_placed : (f : Layout) (args : List (Argument ℕ)) → map (λ (a : Argument Location). a.class) (map (placed_argument f) args) ≡ map (λ (a : Argument ℕ). a.class) args
classes_placed f [] = refl
classes_placed f (a ∷ args) = ap (λ cs. a.class ∷ cs) (classes_placed f args)

wanted_placed : (f : Layout) (to : Option (Destination ℕ)) → option_map (λ (d : Destination Location). d.class) (option_map (placed_destination f) to) ≡ option_map (λ (d : Destination ℕ). d.class) to
wanted_placed f None = refl
wanted_placed f (Some d) = refl

calls_same : (related : Relation) (i : Given) (s : State ℕ) (n : ℕ) (el : Values Location) (own : Owners) (f : Layout) (to : Option (Destination ℕ)) (args : List (Argument ℕ)) (x : Option Value) (vs : Option (List Value))
    → Agrees own s.values el → Onward related s n (received f to (own_kept own))
    → Beside related (calls virtual i s to args x vs) (calls located i (carry s n el) (option_map (placed_destination f) to) (map (placed_argument f) args) x vs)
calls_same related i s n el own f to args (Some (Function g)) (Some vs) agrees on = (
  resumes located (carry s n el) (option_map (placed_destination f) to),
  ap
      (λ (cs : List Class). Calls
      (record {
        call = record { callee = g; classes = cs; wants = option_map (λ (d : Destination Location). d.class) (option_map (placed_destination f) to); args = vs };
        turns = i.turns - s.spent.turns;
        room = i.room;
        memory = s.memory;
      })
      (resumes located (carry s n el) (option_map (placed_destination f) to)))
      (classes_placed f args)
      ∙ ap
      (λ (ws : Option Class). Calls
      (record {
        call = record { callee = g; classes = map (λ (a : Argument ℕ). a.class) args; wants = ws; args = vs };
        turns = i.turns - s.spent.turns;
        room = i.room;
        memory = s.memory;
      })
      (resumes located (carry s n el) (option_map (placed_destination f) to)))
      (wanted_placed f to),
  λ o. resumes_beside related s n el own f to o agrees on,
)
calls_same related i s n el own f to args (Some (Function g)) None agrees on = λ fine. absurd fine
calls_same related i s n el own f to args (Some (Integer k)) vs agrees on = λ fine. absurd fine
calls_same related i s n el own f to args (Some (Pointer b k)) vs agrees on = λ fine. absurd fine
calls_same related i s n el own f to args None vs agrees on = λ fine. absurd fine

calls_beside : (related : Relation) (i : Given) (s : State ℕ) (n : ℕ) (el : Values Location) (own : Owners) (f : Layout) (to : Option (Destination ℕ)) (args : List (Argument ℕ))
    (x y : Option Value) (vs ws : Option (List Value)) → Follows y x → Follows ws vs
    → Agrees own s.values el → Onward related s n (received f to (own_kept own))
    → Beside related (calls virtual i s to args x vs) (calls located i (carry s n el) (option_map (placed_destination f) to) (map (placed_argument f) args) y ws)
calls_beside related i s n el own f to args None y vs ws fx fv agrees on = λ fine. absurd fine
calls_beside related i s n el own f to args (Some (Integer k)) y vs ws fx fv agrees on = λ fine. absurd fine
calls_beside related i s n el own f to args (Some (Pointer b k)) y vs ws fx fv agrees on = λ fine. absurd fine
calls_beside related i s n el own f to args (Some (Function g)) y None ws fx fv agrees on = λ fine. absurd fine
calls_beside related i s n el own f to args (Some (Function g)) y (Some vs) ws fx fv agrees on =
    subst
    (λ (z : Option Value). Beside related (calls virtual i s to args (Some (Function g)) (Some vs)) (calls located i (carry s n el) (option_map (placed_destination f) to) (map (placed_argument f) args) z ws))
    (sym (fx (Function g) refl))
    (subst
    (λ (z : Option (List Value)). Beside related (calls virtual i s to args (Some (Function g)) (Some vs)) (calls located i (carry s n el) (option_map (placed_destination f) to) (map (placed_argument f) args) (Some (Function g)) z))
    (sym (fv vs refl))
    (calls_same related i s n el own f to args (Some (Function g)) (Some vs) agrees on))

-- ---- each line

onward_by : (related : Relation) (s : State ℕ) (n : ℕ) (x o : Owners) → x ≡ o → Onward related s n o → Onward related s n x
onward_by related s n x o e on = subst (λ (w : Owners). Onward related s n w) (sym e) on

two_follow : {R : Type 0} (globals : List Value) (own : Owners) (ev : Values ℕ) (el : Values Location) (f : Layout) (a b : Operand ℕ) (act : Value → Value → Option R)
    → (operand_held own f a && operand_held own f b) ≡ true → Agrees own ev el
    → Follows (option_and_then (λ u. option_and_then (λ v. act u v) (value_of globals el (placed_operand f b))) (value_of globals el (placed_operand f a)))
    (option_and_then (λ u. option_and_then (λ v. act u v) (value_of globals ev b)) (value_of globals ev a))
two_follow {R} globals own ev el f a b act h agrees =
    let both = and_parts (operand_held own f a) (operand_held own f b) h in
    follows_then (value_of globals el (placed_operand f a)) (value_of globals ev a)
    (λ u. option_and_then (λ v. act u v) (value_of globals ev b)) (λ u. option_and_then (λ v. act u v) (value_of globals el (placed_operand f b)))
    (operand_follows globals own ev el f a both.0 agrees)
    (λ u. follows_then (value_of globals el (placed_operand f b)) (value_of globals ev b) (λ v. act u v) (λ v. act u v) (operand_follows globals own ev el f b both.1 agrees) (λ v y e. e))

address_follows : (globals : List Value) (m : Memory) (own : Owners) (ev : Values ℕ) (el : Values Location) (f : Layout) (at : Address ℕ) → operand_held own f at.base ≡ true → Agrees own ev el
    → Follows (address_of globals m el (placed_address f at)) (address_of globals m ev at)
address_follows globals m own ev el f at h agrees =
    either (nat_eq (distance at) 0) (value_of globals el (placed_operand f at.base))
    (operated m (Reg Add) (value_of globals el (placed_operand f at.base)) (value_of globals el (Number (distance at)))) (value_of globals ev at.base)
    (operated m (Reg Add) (value_of globals ev at.base) (value_of globals ev (Number (distance at)))) (operand_follows globals own ev el f at.base h agrees)
    (two_follow globals own ev el f at.base (Number (distance at)) (operate m (Reg Add)) (ap (λ b. b && true) h) agrees)
  where
    either : (b : Bool) (u v x y : Option Value) → Follows u x → Follows v y → Follows (if b then u else v) (if b then x else y)
    either true u v x y h k = h
    either false u v x y h k = k

line_beside : (related : Relation) (globals : List Value) (i : Given) (s : State ℕ) (n : ℕ) (el : Values Location) (own o : Owners) (f : Layout) (l : Line ℕ) → Agrees own s.values el
    → after_line own f l ≡ Some o → Onward related s n o
    → Beside related (line_step virtual globals i s l) (line_step located globals i (carry s n el) (placed_line f l))
unfolding line_step
line_beside related globals i s n el own o f (Tick turn w) agrees h on =
    ticks_beside related i s n el own turn w agrees (onward_by related s n own o (held_is true own o h).1 on)
line_beside related globals i s n el own o f (Set to a) agrees h on =
    let found = held_is (operand_held own f a) (own_put (f to) to own) o h in
    takes_beside related s n el own (f to) to (value_of globals s.values a) (value_of globals el (placed_operand f a)) (operand_follows globals own s.values el f a found.0 agrees) agrees
    (onward_by related s n (own_put (f to) to own) o found.1 on)
line_beside related globals i s n el own o f (Operate to op a b) agrees h on =
    let found = held_is (operand_held own f a && operand_held own f b) (own_put (f to) to own) o h in
    takes_beside related s n el own (f to) to
    (option_and_then (λ u. option_and_then (λ v. operate s.memory op u v) (value_of globals s.values b)) (value_of globals s.values a))
    (option_and_then (λ u. option_and_then (λ v. operate s.memory op u v) (value_of globals el (placed_operand f b))) (value_of globals el (placed_operand f a)))
    (two_follow globals own s.values el f a b (operate s.memory op) found.0 agrees) agrees
    (onward_by related s n (own_put (f to) to own) o found.1 on)
line_beside related globals i s n el own o f (Load to op at) agrees h on =
    let found = held_is (operand_held own f at.base) (own_put (f to) to own) o h in
    sets_beside related s n el own (f to) to (option_and_then (loaded s.memory op) (address_of globals s.memory s.values at)) (option_and_then (loaded s.memory op) (address_of globals s.memory el (placed_address f at)))
    (follows_then (address_of globals s.memory el (placed_address f at)) (address_of globals s.memory s.values at) (loaded s.memory op) (loaded s.memory op) (address_follows globals s.memory own s.values el f at found.0 agrees) (λ v y e. e))
    agrees
    (onward_by related s n (own_put (f to) to own) o found.1 on)
line_beside related globals i s n el own o f (Store size a at) agrees h on =
    let found = held_is (operand_held own f a && operand_held own f at.base) own o h in
    let held_both = and_parts (operand_held own f a) (operand_held own f at.base) found.0 in
    changes_beside related s n el own
    (option_and_then (λ v. option_and_then (λ p. store s.memory (byte_count size) p v) (address_of globals s.memory s.values at)) (read globals s.values (stored_class size) a))
    (option_and_then (λ v. option_and_then (λ p. store s.memory (byte_count size) p v) (address_of globals s.memory el (placed_address f at))) (read globals el (stored_class size) (placed_operand f a)))
    (follows_then (read globals el (stored_class size) (placed_operand f a)) (read globals s.values (stored_class size) a)
    (λ v. option_and_then (λ p. store s.memory (byte_count size) p v) (address_of globals s.memory s.values at))
    (λ v. option_and_then (λ p. store s.memory (byte_count size) p v) (address_of globals s.memory el (placed_address f at)))
    (read_follows globals own s.values el f (stored_class size) a held_both.0 agrees)
    (λ v. follows_then (address_of globals s.memory el (placed_address f at)) (address_of globals s.memory s.values at) (λ p. store s.memory (byte_count size) p v) (λ p. store s.memory (byte_count size) p v)
    (address_follows globals s.memory own s.values el f at held_both.1 agrees) (λ p y e. e)))
    agrees
    (onward_by related s n own o found.1 on)
line_beside related globals i s n el own o f (Alloc None size) agrees h on =
    let same = (held_is true own o h).1 in
    let u : State ℕ = record s { next = s.next + 1; memory = fresh s.memory size; owned = s.owned ++ length s.memory ∷ [] } in
    (carry u (n + 1) el, refl, onward_by related s n own o same on u el refl refl agrees)
line_beside related globals i s n el own o f (Alloc (Some to) size) agrees h on =
    let same = (held_is true (own_put (f to) to own) o h).1 in
    let v : Value = Pointer (length s.memory) 0 in
    let u : State ℕ = record s { next = s.next + 1; values = put virtual to v s.values; memory = fresh s.memory size; owned = s.owned ++ length s.memory ∷ [] } in (
      carry u (n + 1) (put located (f to) v el),
      refl,
      onward_by related s n (own_put (f to) to own) o same on u (put located (f to) v el) refl refl
          (put_agrees own s.values el (f to) to (Some v) (Some v) (λ x e. e) agrees),
    )
line_beside related globals i s n el own o f (Blit from to count) agrees h on =
    let found = held_is (operand_held own f from && operand_held own f to) own o h in
    changes_beside related s n el own
    (option_and_then (λ p. option_and_then (λ q. copy s.memory count p q) (value_of globals s.values to)) (value_of globals s.values from))
    (option_and_then (λ p. option_and_then (λ q. copy s.memory count p q) (value_of globals el (placed_operand f to))) (value_of globals el (placed_operand f from)))
    (two_follow globals own s.values el f from to (λ p q. copy s.memory count p q) found.0 agrees) agrees
    (onward_by related s n own o found.1 on)
line_beside related globals i s n el own o f (Call to callee args) agrees h on =
    let found = held_is (operand_held own f callee && args_held own f args) (received f to (own_kept own)) o h in
    let held_both = and_parts (operand_held own f callee) (args_held own f args) found.0 in
    calls_beside related i s n el own f to args (value_of globals s.values callee) (value_of globals el (placed_operand f callee)) (read_all globals s.values args)
    (read_all globals el (map (placed_argument f) args))
    (operand_follows globals own s.values el f callee held_both.0 agrees)
    (args_follow globals own s.values el f args held_both.1 agrees)
    agrees
    (onward_by related s n (received f to (own_kept own)) o found.1 on)

-- ---- each jump

-- a block is entered whose equalities hold
abbrev Entering : Relation → Certificate → State ℕ → Owners → Values Location → Type 0
Entering related c s own el =
    (k : ℕ) → all_hold own (starts_at c k) ≡ true → related (record s { block = k; next = 0 }) (carry (record s { block = k; next = 0 }) 0 el)

branch_to : (related : Relation) (c : Certificate) (s : State ℕ) (n : ℕ) (own : Owners) (el : Values Location) (met otherwise : ℕ) (b : Bool)
    → all_hold own (starts_at c met) ≡ true → all_hold own (starts_at c otherwise) ≡ true → Entering related c s own el
    → Beside related (enters s (if b then otherwise else met)) (enters (carry s n el) (if b then otherwise else met))
branch_to related c s n own el met otherwise true x y enter = (carry (record s { block = otherwise; next = 0 }) 0 el, refl, enter otherwise y)
branch_to related c s n own el met otherwise false x y enter = (carry (record s { block = met; next = 0 }) 0 el, refl, enter met x)

branch_beside : (related : Relation) (c : Certificate) (s : State ℕ) (n : ℕ) (own : Owners) (el : Values Location) (met otherwise : ℕ) (o p : Option Value) → Follows p o
    → all_hold own (starts_at c met) ≡ true → all_hold own (starts_at c otherwise) ≡ true → Entering related c s own el
    → Beside related (branches s met otherwise o) (branches (carry s n el) met otherwise p)
branch_beside related c s n own el met otherwise None p follows x y enter = λ f. absurd f
branch_beside related c s n own el met otherwise (Some (Pointer b k)) p follows x y enter = λ f. absurd f
branch_beside related c s n own el met otherwise (Some (Function g)) p follows x y enter = λ f. absurd f
branch_beside related c s n own el met otherwise (Some (Integer k)) p follows x y enter =
    subst (λ (q : Option Value). Beside related (branches s met otherwise (Some (Integer k))) (branches (carry s n el) met otherwise q)) (sym (follows (Integer k) refl))
    (branch_to related c s n own el met otherwise (nat_eq k 0) x y enter)

returns_beside : (related : Relation) (s : State ℕ) (n : ℕ) (el : Values Location) (o p : Option Value) → Follows p o → Beside related (returns s o) (returns (carry s n el) p)
returns_beside related s n el None p follows = λ f. absurd f
returns_beside related s n el (Some v) p follows =
    subst (λ (q : Option Value). Beside related (returns s (Some v)) (returns (carry s n el) q)) (sym (follows v refl)) (λ f. refl)

jump_beside : (related : Relation) (c : Certificate) (globals : List Value) (result : Option Class) (s : State ℕ) (n : ℕ) (el : Values Location) (own : Owners) (f : Layout) (j : Jump ℕ)
    → jump_right c own f j ≡ true → Agrees own s.values el → Entering related c s own el
    → Beside related (jump_step globals result s j) (jump_step globals result (carry s n el) (placed_jump f j))
unfolding jump_step
jump_beside related c globals result s n el own f (Goto k) h agrees enter = (carry (record s { block = k; next = 0 }) 0 el, refl, enter k h)
jump_beside related c globals result s n el own f (Branch on met otherwise) h agrees enter =
    let first = and_parts (operand_held own f on.left && operand_held own f on.right) (all_hold own (starts_at c met) && all_hold own (starts_at c otherwise)) h in
    let targets = and_parts (all_hold own (starts_at c met)) (all_hold own (starts_at c otherwise)) first.1 in
    branch_beside related c s n own el met otherwise (compared globals s on) (compared globals (carry s n el) (placed_comparison f on))
    (two_follow globals own s.values el f on.left on.right (operate s.memory (Compare on.condition on.class)) first.0 agrees) targets.0 targets.1 enter
jump_beside related c globals result s n el own f (Return None) h agrees enter = λ fine. refl
jump_beside related c globals None s n el own f (Return (Some a)) h agrees enter = λ fine. absurd fine
jump_beside related c globals (Some k) s n el own f (Return (Some a)) h agrees enter =
    returns_beside related s n el (read_result globals s.values k a) (read_result globals el k (placed_returned f a)) (result_follows globals own s.values el f k a h agrees)
jump_beside related c globals result s n el own f Halt h agrees enter = λ fine. refl

-- ---- steps before the one that matches

leads_then : {T : Type 0} (go : T → Event T Asked Outcome) (k : ℕ) (x : Next T Outcome) (u : T) (z : Next T Outcome) → Leads go k x (On u) → go u ≡ Does z → (m : ℕ) × Leads go m x z
leads_then go zero x u z h e = (1, (u, h, (z, e, refl)))
leads_then go (suc k) x u z h e =
    let rest = leads_then go k h.2.0 u z h.2.2 e in
    (suc rest.0, (h.0, h.1, (h.2.0, h.2.1, rest.1)))

next_matches : {S T : Type 0} (related : S → T → Type 0) (go : T → Event T Asked Outcome) (x : Next S Outcome) (y : Next T Outcome) → TogetherNext related Fine x y → Matches related Fine go x y
next_matches related go (On s) y h = (0, (h.0, h.1, h.2))
next_matches related go (Over o) y h = λ f. (0, h f)

after_steps : {S T : Type 0} (related : S → T → Type 0) (go : T → Event T Asked Outcome) (k : ℕ) (t u : T) (x : Event S Asked Outcome) → Leads go k (On t) (On u) → Together related Fine x (go u) → MatchesEvent related Fine go x t
after_steps related go k t u (Does (On s)) leads h =
    let all = leads_then go k (On t) u (On h.0) leads h.1 in
    (all.0, (h.0, all.1, h.2))
after_steps related go k t u (Does (Over o)) leads h = λ f. leads_then go k (On t) u (Over o) leads (h f)
after_steps related go k t u (Calls i next) leads h = (k, (u, leads, (h.0, h.1, λ o. next_matches related go (next o) (h.0 o) (h.2 o))))

-- ---- moves

-- the moves are done, and these lines are next
record Led (globals : List Value) (l : Code Location) (i : Given) (s : State ℕ) (b : Block Location) (n : ℕ) (el : Values Location) (own : Owners) (rest : List (Line Location)) : Type 0 where
  steps : ℕ
  next : ℕ
  values : Values Location
  leads : Leads (step located globals l i) steps (On (carry s n el)) (On (carry s next values))
  ahead : drop next b.lines ≡ rest
  agrees : Agrees own s.values values

move_step : (globals : List Value) (i : Given) (s : State ℕ) (n : ℕ) (el : Values Location) (m : Transfer)
    → line_step located globals i (carry s n el) (Set m.to (At m.from)) ≡ Does (On (carry s (n + 1) (assign located m.to (el m.from) el)))
unfolding line_step
move_step globals i s n el m = refl

moves_lead : (globals : List Value) (l : Code Location) (i : Given) (s : State ℕ) (b : Block Location) → slice_get l.blocks s.block ≡ Some b
    → (ms : List Transfer) (rest : List (Line Location)) (n : ℕ) (el : Values Location) (own : Owners) → drop n b.lines ≡ transfers ms ++ rest → Agrees own s.values el
    → Led globals l i s b n el (moved ms own) rest
moves_lead globals l i s b at [] rest n el own h agrees = record { steps = 0; next = n; values = el; leads = refl; ahead = h; agrees = agrees }
moves_lead globals l i s b at (m ∷ ms) rest n el own h agrees =
    let here = head_at b.lines n (Set m.to (At m.from)) (transfers ms ++ rest) h in
    let el2 : Values Location = assign located m.to (el m.from) el in
    let led = moves_lead globals l i s b at ms rest (n + 1) el2 (own_move m own) (tail_at b.lines n (Set m.to (At m.from)) (transfers ms ++ rest) h) (move_agrees own s.values el m agrees) in
    record {
      steps = suc led.steps;
      next = led.next;
      values = led.values;
      leads = (carry s n el, refl, (On (carry s (n + 1) el2), step_line located globals l i (carry s n el) b (Set m.to (At m.from)) at here ∙ move_step globals i s n el m, led.leads));
      ahead = led.ahead;
      agrees = led.agrees;
    }

-- ---- states side by side

-- in block b, which is found, with these lines left of the virtual block
record Here (v : Code ℕ) (c : Certificate) (s : State ℕ) (n : ℕ) (el : Values Location) (b : Block ℕ) (left : List (Line ℕ)) : Type 0 where
  point : ℕ
  own : Owners
  block : Block Location
  found : slice_get (certified_blocks c 0 v.blocks) s.block ≡ Some block
  lines : drop n block.lines ≡ certified_lines c point left
  jump : block.jump ≡ placed_jump (layout_at c (jump_point point left)) b.jump
  right : lines_right c point own b.jump left ≡ true
  agrees : Agrees own s.values el

record Related (v : Code ℕ) (c : Certificate) (s : State ℕ) (t : State Location) : Type 0 where
  next : ℕ
  values : Values Location
  is : t ≡ carry s next values
  there : (b : Block ℕ) → slice_get v.blocks s.block ≡ Some b → Here v c s next values b (drop s.next b.lines)

-- a line was done: what is left is behind it
onward : (v : Code ℕ) (c : Certificate) (s : State ℕ) (n : ℕ) (b : Block ℕ) (block : Block Location) (l : Line ℕ) (ll : Line Location) (left : List (Line ℕ)) (point : ℕ) (own : Owners)
    → slice_get v.blocks s.block ≡ Some b → slice_get (certified_blocks c 0 v.blocks) s.block ≡ Some block
    → drop s.next b.lines ≡ l ∷ left → drop n block.lines ≡ ll ∷ certified_lines c point left
    → block.jump ≡ placed_jump (layout_at c (jump_point point left)) b.jump
    → lines_right c point own b.jump left ≡ true
    → Onward (Related v c) s n own
onward v c s n b block l ll left point own at found ahead ahead2 jump right u el e f agrees =
    record {
      next = n + 1;
      values = el;
      is = refl;
      there = λ d h.
          let same : b ≡ d = same_some b d (slice_get v.blocks s.block) at (ap (slice_get v.blocks) (sym e) ∙ h) in
          let behind : drop u.next b.lines ≡ left = ap (λ k. drop k b.lines) f ∙ tail_at b.lines s.next l left ahead in
          subst (λ (x : Block ℕ). Here v c u (n + 1) el x (drop u.next x.lines)) same
          (subst (λ (xs : List (Line ℕ)). Here v c u (n + 1) el b xs) (sym behind)
          (record {
            point = point;
            own = own;
            block = block;
            found = ap (slice_get (certified_blocks c 0 v.blocks)) e ∙ found;
            lines = tail_at block.lines n ll (certified_lines c point left) ahead2;
            jump = jump;
            right = right;
            agrees = agrees;
          }));
    }

-- ---- blocks

record Found (v : Code ℕ) (c : Certificate) (p k j : ℕ) (blocks : List (Block ℕ)) (b : Block ℕ) : Type 0 where
  point : ℕ
  found : slice_get (certified_blocks c p blocks) j ≡ Some (certified_block c point b)
  right : lines_right c point (known (starts_at c (k + j)) nobody) b.jump b.lines ≡ true

block_found : (v : Code ℕ) (c : Certificate) (p k : ℕ) (blocks : List (Block ℕ)) → blocks_right c p k blocks ≡ true → (j : ℕ) (b : Block ℕ) → slice_get blocks j ≡ Some b → Found v c p k j blocks b
block_found v c p k [] h j b e = let f : None ≡ Some b = e in absurd (none_is_some b f)
  where
    none_is_some : (b : Block ℕ) → None ≡ Some b → ⊥
    none_is_some b f = cc
block_found v c p k (d ∷ blocks) h zero b e =
    let same : d ≡ b = some_is_some d b e in
    let first = and_parts (lines_right c p (known (starts_at c k) nobody) d.jump d.lines) (blocks_right c (jump_point p d.lines + 1) (k + 1) blocks) h in
    record {
      point = p;
      found = ap (λ (x : Block ℕ). Some (certified_block c p x)) same;
      right =
          subst (λ (x : Block ℕ). lines_right c p (known (starts_at c (k + 0)) nobody) x.jump x.lines ≡ true) same
          (ap (λ m. lines_right c p (known (starts_at c m) nobody) d.jump d.lines) (let z : k + 0 ≡ k = omega arith in z) ∙ first.0);
    }
  where
    some_is_some : (x y : Block ℕ) → Some x ≡ Some y → x ≡ y
    some_is_some x y f = cc
block_found v c p k (d ∷ blocks) h (suc j) b e =
    let first = and_parts (lines_right c p (known (starts_at c k) nobody) d.jump d.lines) (blocks_right c (jump_point p d.lines + 1) (k + 1) blocks) h in
    let rest = block_found v c (jump_point p d.lines + 1) (k + 1) blocks first.1 j b e in
    record {
      point = rest.point;
      found = rest.found;
      right = ap (λ m. lines_right c rest.point (known (starts_at c m) nobody) b.jump b.lines) (let z : k + suc j ≡ k + 1 + j = omega arith in z) ∙ rest.right;
    }

-- at the start of a block whose equalities hold
at_start : (v : Code ℕ) (c : Certificate) (s : State ℕ) (k : ℕ) (el : Values Location) → blocks_right c 0 0 v.blocks ≡ true → AllFollow s.values el (starts_at c k)
    → Related v c (record s { block = k; next = 0 }) (carry (record s { block = k; next = 0 }) 0 el)
at_start v c s k el right all =
    record {
      next = 0;
      values = el;
      is = refl;
      there = λ b h.
          let block = block_found v c 0 0 v.blocks right k b h in
          record {
            point = block.point;
            own = known (starts_at c k) nobody;
            block = certified_block c block.point b;
            found = block.found;
            lines = refl;
            jump = refl;
            right = ap (λ m. lines_right c block.point (known (starts_at c m) nobody) b.jump b.lines) (let z : k ≡ 0 + k = omega arith in z) ∙ block.right;
            agrees = known_agrees s.values el (starts_at c k) nobody all (nobody_agrees s.values el);
          };
    }

-- ---- a step

right_by : (c : Certificate) (p : ℕ) (j : Jump ℕ) (left : List (Line ℕ)) (x : Option Owners) → option_map_or (λ (o : Owners). lines_right c p o j left) x false ≡ true
    → (o : Owners) × (x ≡ Some o) × (lines_right c p o j left ≡ true)
right_by c p j left None h = cc
right_by c p j left (Some o) h = (o, refl, h)

line_matched : (v : Code ℕ) (c : Certificate) (globals : List Value) (i : Given) (s : State ℕ) (n : ℕ) (el : Values Location) (b : Block ℕ) (block : Block Location) (l : Line ℕ) (left : List (Line ℕ)) (p : ℕ) (own : Owners)
    → slice_get v.blocks s.block ≡ Some b → slice_get (certified_blocks c 0 v.blocks) s.block ≡ Some block
    → drop s.next b.lines ≡ l ∷ left
    → drop n block.lines ≡ transfers (moves_at c p) ++ placed_line (layout_at c p) l ∷ certified_lines c (p + 1) left
    → block.jump ≡ placed_jump (layout_at c (jump_point (p + 1) left)) b.jump
    → option_map_or (λ (o : Owners). lines_right c (p + 1) o b.jump left) (after_line (moved (moves_at c p) own) (layout_at c p) l) false ≡ true
    → Agrees own s.values el
    → MatchesEvent (Related v c) Fine (step located globals (placed_by v c) i) (step virtual globals v i s) (carry s n el)
line_matched v c globals i s n el b block l left p own at found ahead ahead2 jump right agrees =
    let ll : Line Location = placed_line (layout_at c p) l in
    let led : Led globals (placed_by v c) i s block n el (moved (moves_at c p) own) (ll ∷ certified_lines c (p + 1) left) =
    moves_lead globals (placed_by v c) i s block found (moves_at c p) (ll ∷ certified_lines c (p + 1) left) n el own ahead2 agrees
    in
    let after = right_by c (p + 1) b.jump left (after_line (moved (moves_at c p) own) (layout_at c p) l) right in
    let first : step virtual globals v i s ≡ line_step virtual globals i s l = step_line virtual globals v i s b l at (head_at b.lines s.next l left ahead) in
    let second : step located globals (placed_by v c) i (carry s led.next led.values) ≡ line_step located globals i (carry s led.next led.values) ll =
    step_line located globals (placed_by v c) i (carry s led.next led.values) block ll found (head_at block.lines led.next ll (certified_lines c (p + 1) left) led.ahead)
    in
    let together : Together (Related v c) Fine (line_step virtual globals i s l) (line_step located globals i (carry s led.next led.values) ll) =
    line_beside (Related v c) globals i s led.next led.values (moved (moves_at c p) own) after.0 (layout_at c p) l led.agrees after.1
    (onward v c s led.next b block l ll left (p + 1) after.0 at found ahead led.ahead jump after.2)
    in
    after_steps (Related v c) (step located globals (placed_by v c) i) led.steps (carry s n el) (carry s led.next led.values) (step virtual globals v i s) led.leads
    (subst (λ (x : Event (State ℕ) Asked Outcome). Together (Related v c) Fine x (step located globals (placed_by v c) i (carry s led.next led.values))) (sym first)
    (subst (λ (x : Event (State Location) Asked Outcome). Together (Related v c) Fine (line_step virtual globals i s l) x) (sym second) together))

tick_matched : (v : Code ℕ) (c : Certificate) (globals : List Value) (i : Given) (s : State ℕ) (n : ℕ) (el : Values Location) (b : Block ℕ) (block : Block Location) (turn : Bool) (w : ℕ) (left : List (Line ℕ)) (p : ℕ) (own : Owners)
    → slice_get v.blocks s.block ≡ Some b → slice_get (certified_blocks c 0 v.blocks) s.block ≡ Some block
    → drop s.next b.lines ≡ Tick turn w ∷ left
    → drop n block.lines ≡ Tick turn w ∷ certified_lines c p left
    → block.jump ≡ placed_jump (layout_at c (jump_point p left)) b.jump
    → lines_right c p own b.jump left ≡ true
    → Agrees own s.values el
    → MatchesEvent (Related v c) Fine (step located globals (placed_by v c) i) (step virtual globals v i s) (carry s n el)
tick_matched v c globals i s n el b block turn w left p own at found ahead ahead2 jump right agrees =
    let first : step virtual globals v i s ≡ line_step virtual globals i s (Tick turn w) = step_line virtual globals v i s b (Tick turn w) at (head_at b.lines s.next (Tick turn w) left ahead) in
    let second : step located globals (placed_by v c) i (carry s n el) ≡ line_step located globals i (carry s n el) (Tick turn w) =
    step_line located globals (placed_by v c) i (carry s n el) block (Tick turn w) found (head_at block.lines n (Tick turn w) (certified_lines c p left) ahead2)
    in
    let together : Together (Related v c) Fine (line_step virtual globals i s (Tick turn w)) (line_step located globals i (carry s n el) (Tick turn w)) =
    line_beside (Related v c) globals i s n el own own (layout_at c p) (Tick turn w) agrees refl
    (onward v c s n b block (Tick turn w) (Tick turn w) left p own at found ahead ahead2 jump right)
    in
    after_steps (Related v c) (step located globals (placed_by v c) i) 0 (carry s n el) (carry s n el) (step virtual globals v i s) refl
    (subst (λ (x : Event (State ℕ) Asked Outcome). Together (Related v c) Fine x (step located globals (placed_by v c) i (carry s n el))) (sym first)
    (subst (λ (x : Event (State Location) Asked Outcome). Together (Related v c) Fine (line_step virtual globals i s (Tick turn w)) x) (sym second) together))

jump_matched : (v : Code ℕ) (c : Certificate) (globals : List Value) (i : Given) (s : State ℕ) (n : ℕ) (el : Values Location) (b : Block ℕ) (block : Block Location) (p : ℕ) (own : Owners)
    → blocks_right c 0 0 v.blocks ≡ true
    → slice_get v.blocks s.block ≡ Some b → slice_get (certified_blocks c 0 v.blocks) s.block ≡ Some block
    → drop s.next b.lines ≡ []
    → drop n block.lines ≡ transfers (moves_at c p)
    → block.jump ≡ placed_jump (layout_at c p) b.jump
    → jump_right c (moved (moves_at c p) own) (layout_at c p) b.jump ≡ true
    → Agrees own s.values el
    → MatchesEvent (Related v c) Fine (step located globals (placed_by v c) i) (step virtual globals v i s) (carry s n el)
jump_matched v c globals i s n el b block p own blocks at found ahead ahead2 jump right agrees =
    let led : Led globals (placed_by v c) i s block n el (moved (moves_at c p) own) [] =
    moves_lead globals (placed_by v c) i s block found (moves_at c p) [] n el own (ahead2 ∙ sym (append-nil (transfers (moves_at c p)))) agrees
    in
    let first : step virtual globals v i s ≡ jump_step globals v.result s b.jump = step_jump virtual globals v i s b at (nothing_at b.lines s.next ahead) in
    let second : step located globals (placed_by v c) i (carry s led.next led.values) ≡ jump_step globals v.result (carry s led.next led.values) (placed_jump (layout_at c p) b.jump) =
    step_jump located globals (placed_by v c) i (carry s led.next led.values) block found (nothing_at block.lines led.next led.ahead)
    ∙ ap (jump_step globals v.result (carry s led.next led.values)) jump
    in
    let together : Together (Related v c) Fine (jump_step globals v.result s b.jump) (jump_step globals v.result (carry s led.next led.values) (placed_jump (layout_at c p) b.jump)) =
    jump_beside (Related v c) c globals v.result s led.next led.values (moved (moves_at c p) own) (layout_at c p) b.jump right led.agrees
    (λ k h. at_start v c s k led.values blocks (all_follow (moved (moves_at c p) own) s.values led.values (starts_at c k) h led.agrees))
    in
    after_steps (Related v c) (step located globals (placed_by v c) i) led.steps (carry s n el) (carry s led.next led.values) (step virtual globals v i s) led.leads
    (subst (λ (x : Event (State ℕ) Asked Outcome). Together (Related v c) Fine x (step located globals (placed_by v c) i (carry s led.next led.values))) (sym first)
    (subst (λ (x : Event (State Location) Asked Outcome). Together (Related v c) Fine (jump_step globals v.result s b.jump) x) (sym second) together))

-- whatever is left of the block
left_matched : (v : Code ℕ) (c : Certificate) (globals : List Value) (i : Given) (s : State ℕ) (n : ℕ) (el : Values Location) (b : Block ℕ) (left : List (Line ℕ))
    → blocks_right c 0 0 v.blocks ≡ true → slice_get v.blocks s.block ≡ Some b → drop s.next b.lines ≡ left → Here v c s n el b left
    → MatchesEvent (Related v c) Fine (step located globals (placed_by v c) i) (step virtual globals v i s) (carry s n el)
left_matched v c globals i s n el b [] blocks at ahead h =
    jump_matched v c globals i s n el b h.block h.point h.own blocks at h.found ahead h.lines h.jump h.right h.agrees
left_matched v c globals i s n el b (Tick turn w ∷ left) blocks at ahead h =
    tick_matched v c globals i s n el b h.block turn w left h.point h.own at h.found ahead h.lines h.jump h.right h.agrees
left_matched v c globals i s n el b (Set to a ∷ left) blocks at ahead h =
    line_matched v c globals i s n el b h.block (Set to a) left h.point h.own at h.found ahead h.lines h.jump h.right h.agrees
left_matched v c globals i s n el b (Operate to op x y ∷ left) blocks at ahead h =
    line_matched v c globals i s n el b h.block (Operate to op x y) left h.point h.own at h.found ahead h.lines h.jump h.right h.agrees
left_matched v c globals i s n el b (Load to op x ∷ left) blocks at ahead h =
    line_matched v c globals i s n el b h.block (Load to op x) left h.point h.own at h.found ahead h.lines h.jump h.right h.agrees
left_matched v c globals i s n el b (Store size x y ∷ left) blocks at ahead h =
    line_matched v c globals i s n el b h.block (Store size x y) left h.point h.own at h.found ahead h.lines h.jump h.right h.agrees
left_matched v c globals i s n el b (Alloc to size ∷ left) blocks at ahead h =
    line_matched v c globals i s n el b h.block (Alloc to size) left h.point h.own at h.found ahead h.lines h.jump h.right h.agrees
left_matched v c globals i s n el b (Blit x y count ∷ left) blocks at ahead h =
    line_matched v c globals i s n el b h.block (Blit x y count) left h.point h.own at h.found ahead h.lines h.jump h.right h.agrees
left_matched v c globals i s n el b (Call to callee args ∷ left) blocks at ahead h =
    line_matched v c globals i s n el b h.block (Call to callee args) left h.point h.own at h.found ahead h.lines h.jump h.right h.agrees

block_matched : (v : Code ℕ) (c : Certificate) (globals : List Value) (i : Given) (s : State ℕ) (n : ℕ) (el : Values Location) (o : Option (Block ℕ)) → blocks_right c 0 0 v.blocks ≡ true
    → slice_get v.blocks s.block ≡ o → ((b : Block ℕ) → slice_get v.blocks s.block ≡ Some b → Here v c s n el b (drop s.next b.lines))
    → MatchesEvent (Related v c) Fine (step located globals (placed_by v c) i) (step virtual globals v i s) (carry s n el)
block_matched v c globals i s n el None blocks at there =
    subst (λ (x : Event (State ℕ) Asked Outcome). MatchesEvent (Related v c) Fine (step located globals (placed_by v c) i) x (carry s n el)) (sym (step_nowhere virtual globals v i s at)) (λ f. absurd f)
block_matched v c globals i s n el (Some b) blocks at there =
    left_matched v c globals i s n el b (drop s.next b.lines) blocks at refl (there b at)

simulates : (v : Code ℕ) (c : Certificate) (globals : List Value) (i : Given) → blocks_right c 0 0 v.blocks ≡ true → Simulates (Related v c) Fine (step virtual globals v i) (step located globals (placed_by v c) i)
simulates v c globals i blocks s t h =
    subst (λ (u : State Location). MatchesEvent (Related v c) Fine (step located globals (placed_by v c) i) (step virtual globals v i s) u) (sym h.is)
    (block_matched v c globals i s h.next h.values (slice_get v.blocks s.block) blocks refl h.there)

-- ---- the start

entry_follows : (ds : List (Destination ℕ)) (qs : List Location) (vs : List Value) (own : Owners) (es : List Equality)
    → Agrees own (bound virtual unknown ds vs) (bound located unknown (certified_params ds qs) vs)
    → list_all (λ (e : Equality). owns own e.place e.register || not (is_param ds e.register)) es ≡ true
    → AllFollow (bound virtual unknown ds vs) (bound located unknown (certified_params ds qs) vs) es
entry_follows ds qs vs own [] agrees h = tt
entry_follows ds qs vs own (e ∷ es) agrees h =
    let first = and_parts (owns own e.place e.register || not (is_param ds e.register)) (list_all (λ (d : Equality). owns own d.place d.register || not (is_param ds d.register)) es) h in (
      elim (or_cases (owns own e.place e.register) (not (is_param ds e.register)) first.0) [
        | inl here ↦ owned_follows own (bound virtual unknown ds vs) (bound located unknown (certified_params ds qs) vs) e.place e.register here agrees
        | inr other ↦ (λ x is. let none : bound virtual unknown ds vs e.register ≡ None = other_unknown unknown ds vs e.register other in cc)
      ],
      entry_follows ds qs vs own es agrees first.1,
    )

begins : (v : Code ℕ) (c : Certificate) (i : Given) → is_sound v c ≡ true → AreArgs (map (λ d. d.class) v.params) i.args → Related v c (begin virtual v i) (begin located (placed_by v c) i)
begins v c i sound args =
    let first = and_parts (params_placed v.params c.params) (entry_right v c && blocks_right c 0 0 v.blocks) sound in
    let second = and_parts (entry_right v c) (blocks_right c 0 0 v.blocks) first.1 in
    at_start v c (begin virtual v i) 0 (bound located unknown (certified_params v.params c.params) i.args) second.1
    (entry_follows v.params c.params i.args (own_params v.params c.params nobody) (starts_at c 0)
    (params_agree nobody unknown unknown v.params c.params i.args first.0 args (nobody_agrees unknown unknown)) second.0)

pub sound_keeps : (v : Code ℕ) (c : Certificate) → is_sound v c ≡ true → RunsAlike v (placed_by v c)
sound_keeps v c sound globals =
    let first = and_parts (params_placed v.params c.params) (entry_right v c && blocks_right c 0 0 v.blocks) sound in
    let second = and_parts (entry_right v c) (blocks_right c 0 0 v.blocks) first.1 in
    simulation_keeps (map (λ d. d.class) v.params) (begin virtual v) (step virtual globals v) (begin located (placed_by v c)) (step located globals (placed_by v c)) (λ i. Related v c)
    (λ i args. begins v c i sound args)
    (λ i. simulates v c globals i second.1)
