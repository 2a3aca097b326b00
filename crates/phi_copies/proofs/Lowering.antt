-- A lowered function takes each turn of the function's body.
use Rattle.std.proofs.Common.{◌≡◌, ℕ, zero, suc, ◌+◌, ◌-◌, ◌%◌, ◌^◌, ◌<◌, ◌≤◌, Bool, true, false, cond, nat_eq, nat_lt, List, [], ◌∷◌, ◌++◌, length, replicate, take, drop, refl, sym, ◌∙◌, ap, subst, arith, slice_get, slice_set, Option, Some, None, option_and_then}
use Rattle.std.proofs.lemmas.Bool.Decides.{nat_tests}
use Rattle.std.proofs.lemmas.List.{length-set, length-append, length-replicate, replicate-append-replicate, length-drop}
use Rattle.std.proofs.lemmas.Option.{slice_get_past, slice_get_within}
use Rattle.il_ast.specs.declared.operation.Class.{Class}
use Rattle.il_ast.specs.declared.operation.Class.TheVariants.{W}
use Rattle.il_ast.specs.declared.operand.Dest.{Dest}
use Rattle.il_ast.specs.declared.operand.Val.{Val}
use Rattle.il_ast.specs.declared.instruction.Inst.{Inst}
use Rattle.il_ast.specs.declared.instruction.Jump.{Jump}
use Rattle.il_ast.specs.declared.instruction.Jump.TheVariants.{Goto, Branch, Return, Halt}
use Rattle.il_ast.specs.declared.instruction.Lined.{Lined}
use Rattle.il_ast.specs.declared.block.Phi.{Phi}
use Rattle.il_ast.specs.declared.block.Block.{Block}
use Rattle.il_ast.specs.declared.function.Param.{Param}
use Rattle.il_ast.specs.declared.function.Func.{Func}
use Rattle.il_ast.specs.declared.value.Value.{Value}
use Rattle.il_ast.specs.declared.value.Value.TheVariants.{Integer, Pointer, Function}
use Rattle.il_ast.specs.declared.value.End.TheVariants.{Turns}
use Rattle.il_ast.specs.Prelude.{in_place, Memory, phi_count, Env, Activation, InstEffect, Done, Asks, Fails, value_at, operand, assign, inst_effect, phi_values, with_phis, place_of, entered, enter_at, enter_place, enter, branched, returned, return_value, jump_effect, end_effect, after_inst, turn_in, turn_of, effect, branch_to, Spent, nothing, one_turn, both, Outcome, Returned, Ended, with_args, begun, Next, On, Over, Event, Does, Calls, Asked, Given, classes_of}
use Rattle.il_ast.proofs.Simulation.{Leads, ComesTo, Receives, Resumes, TakesTurn, Takes, TakesTurns}
use Rattle.il_ast.proofs.TurnsLogged.{turns_keep, both_assoc}
use Rattle.phi_copies.specs.declared.ending.Leave.TheVariants.{Goto as GotoBlock, Branch as BranchTo, Return as ReturnWith, Halt as HaltRun}
use Rattle.phi_copies.specs.declared.ending.Ending.{Ending}
use Rattle.phi_copies.specs.Endings.{Endings, State, begin, weighs, receives, resumes, goes_on, in_turn, copied, branches, returns, returns_in, leaves, copies_and_leaves, after_mark, marked, ends, block_step, step_in, step}
use Rattle.phi_copies.specs.Copies.{phis_of, phis_at, AreCopies}
use Rattle.phi_copies.specs.Lowered.{or_zero, target, Edge, edge_with, edge, past_edge, branch_target, jump_edges, end_edges, one_turn_ending, block_edges, all_edges, IsJumpEnding, IsEndEnding, IsOnEdge, IsLowered, straight_if, straight}
use Rattle.phi_copies.specs.Keeping.{KeepsFunction}
use Rattle.phi_copies.proofs.MoreKnown.{operand_less, behind, set_both, length_behind, Follows, locals, inst_follows}
use Rattle.phi_copies.proofs.Lists.{take_own, parts_of, mapped, length_copied, length_with_phis}
use Rattle.phi_copies.proofs.EdgePlaces.{edges_before, ending_at, on_edge_at, edge_at}
use Rattle.il_ast.proofs.Listed.{get_behind}

-- ---- related states

-- the lowered function's state, with these further temporaries
abbrev at : Activation → Memory → Spent → List (Option Value) → State
at a m s extra = record { block = a.block; next = a.next; locals = locals (a.locals.temps ++ extra) a.locals.owned; memory = m; spent = s }

-- the activation is in a block of the function
abbrev IsInside : Func → ℕ → Type 0
IsInside f k = k < length f.blocks

record Related (f : Func) (a : Activation) (m : Memory) (s : Spent) (t : State) : Type 0 where
  extra : List (Option Value)
  long : length extra ≡ phi_count f
  own : length a.locals.temps ≡ length f.temps
  inside : IsInside f a.block
  is : t ≡ at a m s extra

-- ---- turns that are left

some_left : (s n k : ℕ) → suc k ≡ n - s → nat_lt s n ≡ true
some_left s n k e = let lt : s < n = omega (arith, e) in grind (arith, nat_tests)

none_left : (s n : ℕ) → zero ≡ n - s → nat_lt s n ≡ false
none_left s n e = let le : n ≤ s = omega (arith, e) in grind (arith, nat_tests)

turn_taken : (i : Given) (t : State) (e : Event State Asked Outcome) (k : ℕ) → suc k ≡ i.turns - t.spent.turns → in_turn i t e ≡ e
turn_taken i t e k left = ap (λ b. cond b e (Does (Over (Ended t.spent Turns)))) (some_left t.spent.turns i.turns k left)

turn_missing : (i : Given) (t : State) (e : Event State Asked Outcome) → zero ≡ i.turns - t.spent.turns → in_turn i t e ≡ Does (Over (Ended t.spent Turns))
turn_missing i t e left = ap (λ b. cond b e (Does (Over (Ended t.spent Turns)))) (none_left t.spent.turns i.turns left)

-- ---- steps

-- all that stays fixed
record Setting : Type 0 where
  func : Func
  code : Endings
  is : IsLowered func code
  globals : List Value
  given : Given

abbrev go : Setting → State → Event State Asked Outcome
go c = step c.globals c.func c.code c.given

abbrev env : Setting → Env
env c = record { func = c.func; globals = c.globals }

abbrev Rel : Setting → Activation → Memory → Spent → State → Type 0
Rel c = Related c.func

in_block : (c : Setting) (t : State) (b : Block) → slice_get c.func.blocks t.block ≡ Some b → go c t ≡ block_step c.globals c.func c.code c.given t (slice_get b.insts t.next)
unfolding step
in_block c t b e = ap (step_in c.globals c.func c.code c.given t) e

past_blocks : (c : Setting) (t : State) → slice_get c.func.blocks t.block ≡ None → go c t ≡ ends c.globals c.func.result c.given t (slice_get c.code.edges (t.block - length c.func.blocks))
unfolding step
past_blocks c t e = ap (step_in c.globals c.func c.code c.given t) e

at_inst : (c : Setting) (t : State) (b : Block) (i : Lined Inst) → slice_get c.func.blocks t.block ≡ Some b → slice_get b.insts t.next ≡ Some i → go c t ≡ in_turn c.given t (goes_on c.given t (inst_effect c.globals t.locals t.memory i.item))
at_inst c t b i e f = in_block c t b e ∙ ap (block_step c.globals c.func c.code c.given t) f

at_ending : (c : Setting) (t : State) (b : Block) (e : Ending) → slice_get c.func.blocks t.block ≡ Some b → slice_get b.insts t.next ≡ None → slice_get c.code.endings t.block ≡ Some e → go c t ≡ ends c.globals c.func.result c.given t (Some e)
at_ending c t b e here none ending =
    in_block c t b here
    ∙ ap (block_step c.globals c.func c.code c.given t) none
    ∙ ap (ends c.globals c.func.result c.given t) ending

one_step : (c : Setting) (t : State) (z : Next State Outcome) → go c t ≡ Does z → Leads (go c) 1 (On t) z
one_step c t z e = (t, refl, (z, e, refl))

-- ---- an instruction

came_on : (c : Setting) (w : ℕ) (a : Activation) (m : Memory) (s : Spent) (extra : List (Option Value)) → length extra ≡ phi_count c.func → length a.locals.temps ≡ length c.func.temps → IsInside c.func a.block → ComesTo (Rel c) (go c) (On (at a m s extra)) a m s
came_on c w a m s extra long own inside =
    (0, (at a m s extra, refl, record { extra = extra; long = long; own = own; inside = inside; is = refl }))

received : (c : Setting) (a : Activation) (m : Memory) (s : Spent) (extra : List (Option Value)) → length extra ≡ phi_count c.func → length a.locals.temps ≡ length c.func.temps → IsInside c.func a.block → (to : Option Dest) (v : Option Value) → Receives (Rel c) (go c) (receives (at a m s extra) to v) to a v m s
received c a m s extra long own inside None v = came_on c 0 a m s extra long own inside
received c a m s extra long own inside (Some d) None = tt
received c a m s extra long own inside (Some d) (Some v) =
    let xs = a.locals.temps in
    let now : Activation = record a { locals = assign a.locals d.temp v } in
    let more = behind xs extra d.temp (Some v) in (
      0,
      (
        at now m s more,
        ap (λ ts. On (record { block = a.block; next = a.next; locals = locals ts a.locals.owned; memory = m; spent = s })) (set_both xs extra d.temp (Some v)),
        record {
          extra = more;
          long = length_behind xs extra d.temp (Some v) ∙ long;
          own = length-set xs d.temp (Some v) ∙ own;
          inside = inside;
          is = refl;
        },
      ),
    )

resumed : (c : Setting) (a : Activation) (m : Memory) (s : Spent) (extra : List (Option Value)) → length extra ≡ phi_count c.func → length a.locals.temps ≡ length c.func.temps → IsInside c.func a.block → (to : Option Dest) (o : Outcome) → Resumes (Rel c) (go c) (resumes (at a m s extra) to o) to a s o
resumed c a m s extra long own inside to (Returned t v now) = received c a now (both s t) extra long own inside to v
resumed c a m s extra long own inside to (Ended t e) = λ fine. (0, refl)

inst_taken : (c : Setting) (n : ℕ) (a : Activation) (m : Memory) (s : Spent) (extra : List (Option Value)) → length extra ≡ phi_count c.func → length a.locals.temps ≡ length c.func.temps → IsInside c.func a.block → suc n ≡ c.given.turns - s.turns → (e e2 : InstEffect) → Follows (length a.locals.temps) (length extra) e e2 → go c (at a m s extra) ≡ goes_on c.given (at a m s extra) e2 → TakesTurn (Rel c) (go c) c.given.room n m s (at a m s extra) (after_inst a.block a.next a.locals e)
inst_taken c n a m s extra long own inside left (Done w now m2) e2 follows goes =
    let b : Activation = record { block = a.block; next = a.next + 1; locals = now } in
    let t = at b m2 (both s (one_turn w)) follows.1.0 in (
      1,
      (
        t,
        one_step c (at a m s extra) (On t) (goes ∙ ap (goes_on c.given (at a m s extra)) follows.1.2),
        record { extra = follows.1.0; long = follows.1.1 ∙ long; own = follows.0 ∙ own; inside = inside; is = refl },
      ),
    )
inst_taken c n a m s extra long own inside left (Asks w call to) e2 follows goes =
    let b : Activation = record { block = a.block; next = a.next + 1; locals = a.locals } in
    let t = at b m (both s (one_turn w)) extra in
    let fewer : c.given.turns - (s.turns + 1) ≡ n = omega (arith, left) in (
      0,
      (
        at a m s extra,
        refl,
        (
          resumes t to,
          goes
              ∙ ap (goes_on c.given (at a m s extra)) follows
              ∙ ap (λ k. Calls (record { call = call; turns = k; room = c.given.room; memory = m }) (resumes t to)) fewer,
          resumed c b m (both s (one_turn w)) extra long own inside to,
        ),
      ),
    )
inst_taken c n a m s extra long own inside left Fails e2 follows goes = λ fine. absurd fine

-- ---- entering a block

-- the activation in the block at place k, after its phis
abbrev into : Activation → ℕ → List Phi → List Value → Activation
into a k phis vs = record { block = k; next = 0; locals = record a.locals { temps = with_phis a.locals.temps phis vs } }

-- a block that the phis of the turn let enter
record Enters (c : Setting) (a : Activation) (from l k : ℕ) (b : Block) (vs : List Value) : Type 0 where
  place : place_of c.func.blocks l ≡ Some k
  here : slice_get c.func.blocks k ≡ Some b
  values : phi_values c.globals a.locals.temps from b.phis ≡ Some vs

-- the copies are done, and the way goes into the block
record EntryDone (c : Setting) (a : Activation) (m : Memory) (s : Spent) (extra : List (Option Value)) (k : ℕ) (b : Block) (vs : List Value) (e : Ending) : Type 0 where
  more : List (Option Value)
  long : length more ≡ phi_count c.func
  goes : after_mark c.globals c.func.result (at a m s extra) e ≡ Does (On (at (into a k b.phis vs) m s more))

entry_done : (c : Setting) (a : Activation) (m : Memory) (s : Spent) (extra : List (Option Value)) (from l k : ℕ) (b : Block) (vs : List Value) (e : Ending) → length extra ≡ phi_count c.func → length a.locals.temps ≡ length c.func.temps → Enters c a from l k b vs → AreCopies c.func from k e.copies → e.leave ≡ GotoBlock k → EntryDone c a m s extra k b vs e
entry_done c a m s extra from l k b vs e long own enters copies leave =
    let xs = a.locals.temps in
    let n = length c.func.temps in
    let mine : take n (xs ++ extra) ≡ xs = take_own xs extra n (sym own) in
    let phis : phis_at c.func.blocks k ≡ b.phis = ap phis_of enters.here in
    let all : length (xs ++ extra) ≡ n + phi_count c.func = length-append xs extra ∙ ap (λ j. j + length extra) own ∙ ap (λ j. n + j) long in
    let values : phi_values c.globals (take n (xs ++ extra)) from (phis_at c.func.blocks k) ≡ Some vs =
    ap (λ ts. phi_values c.globals ts from (phis_at c.func.blocks k)) mine ∙ ap (phi_values c.globals xs from) phis ∙ enters.values in
    let r = mapped (take n) (copied c.globals (xs ++ extra) e.copies) _ (copies.at_once c.globals (xs ++ extra) vs all values) in
    let now : take n r.item ≡ with_phis xs b.phis vs = r.to ∙ ap (λ ts. with_phis ts (phis_at c.func.blocks k) vs) mine ∙ ap (λ ps. with_phis xs ps vs) phis in
    let many = length_copied c.globals (xs ++ extra) r.item e.copies r.is in
    let rest = length-drop n r.item in
    let done : copied c.globals (xs ++ extra) e.copies ≡ Some (with_phis xs b.phis vs ++ drop n r.item) =
    r.is ∙ ap Some (parts_of n r.item) ∙ ap (λ ts. Some (ts ++ drop n r.item)) now in
    record {
      more = drop n r.item;
      long = omega (arith, rest, many, all);
      goes =
          ap (λ o. copies_and_leaves c.globals c.func.result (at a m s extra) e.leave o) done
          ∙ ap (leaves c.globals c.func.result (at (record a { locals = record a.locals { temps = with_phis xs b.phis vs } }) m s (drop n r.item))) leave;
    }

inside_at : (blocks : List Block) (k : ℕ) (b : Block) → slice_get blocks k ≡ Some b → k < length blocks
inside_at = slice_get_within

-- a step, and then on
led_to : (c : Setting) (t u : State) (a : Activation) (m : Memory) (s : Spent) → go c t ≡ Does (On u) → ComesTo (Rel c) (go c) (On u) a m s → ComesTo (Rel c) (go c) (On t) a m s
led_to c t u a m s e r = (suc r.0, (r.1.0, (t, refl, (On u, e, r.1.1)), r.1.2))

entry_comes : (c : Setting) (t : State) (a : Activation) (m : Memory) (s z : Spent) (extra : List (Option Value)) (from l k : ℕ) (b : Block) (vs : List Value) (e : Ending) → length a.locals.temps ≡ length c.func.temps → Enters c a from l k b vs → EntryDone c a m s extra k b vs e → go c t ≡ after_mark c.globals c.func.result (at a m s extra) e → s ≡ z → ComesTo (Rel c) (go c) (On t) (into a k b.phis vs) m z
entry_comes c t a m s z extra from l k b vs e own enters done goes same = (
  1,
  (
    at (into a k b.phis vs) m s done.more,
    one_step c t (On (at (into a k b.phis vs) m s done.more)) (goes ∙ done.goes),
    record {
      extra = done.more;
      long = done.long;
      own = length_with_phis a.locals.temps b.phis vs ∙ own;
      inside = inside_at c.func.blocks k b enters.here;
      is = ap (λ y. at (into a k b.phis vs) m y done.more) same;
    },
  ),
)

-- what a turn owes that enters a block, or is undefined
abbrev Entering : (c : Setting) (n : ℕ) (a : Activation) (m : Memory) (s : Spent) (t : State) (from l : ℕ) → Type 0
Entering c n a m s t from l =
    (k : ℕ) (b : Block) (vs : List Value) → Enters c a from l k b vs → ComesTo (Rel c) (go c) (On t) (into a k b.phis vs) m (both s (one_turn (1 + length b.phis)))

enter_taken : (c : Setting) (n : ℕ) (a : Activation) (m : Memory) (s : Spent) (t : State) (from l : ℕ) → Entering c n a m s t from l → TakesTurn (Rel c) (go c) c.given.room n m s t (enter (env c) from a.locals m l)
enter_taken c n a m s t from l comes = by_place (place_of c.func.blocks l) refl
  where
    by_values : (k : ℕ) (b : Block) (vs : Option (List Value)) → place_of c.func.blocks l ≡ Some k → slice_get c.func.blocks k ≡ Some b → phi_values c.globals a.locals.temps from b.phis ≡ vs → TakesTurn (Rel c) (go c) c.given.room n m s t (entered a.locals m k b.phis vs)
    by_values k b None p h v = λ fine. absurd fine
    by_values k b (Some vs) p h v = comes k b vs (record { place = p; here = h; values = v })

    by_block : (k : ℕ) (b : Option Block) → place_of c.func.blocks l ≡ Some k → slice_get c.func.blocks k ≡ b → TakesTurn (Rel c) (go c) c.given.room n m s t (enter_at (env c) from a.locals m k b)
    by_block k None p h = λ fine. absurd fine
    by_block k (Some b) p h = by_values k b (phi_values c.globals a.locals.temps from b.phis) p h refl

    by_place : (k : Option ℕ) → place_of c.func.blocks l ≡ k → TakesTurn (Rel c) (go c) c.given.room n m s t (enter_place (env c) from a.locals m k)
    by_place None p = λ fine. absurd fine
    by_place (Some k) p = by_block k (slice_get c.func.blocks k) p refl

-- ---- jumps

-- all that is known where a turn is due
record Due (c : Setting) (n : ℕ) (a : Activation) (m : Memory) (s : Spent) (extra : List (Option Value)) : Type 0 where
  long : length extra ≡ phi_count c.func
  own : length a.locals.temps ≡ length c.func.temps
  inside : IsInside c.func a.block
  left : suc n ≡ c.given.turns - s.turns

ends_turn : (c : Setting) (n : ℕ) (a : Activation) (m : Memory) (s : Spent) (extra : List (Option Value)) (e : Ending) → Due c n a m s extra → e.turn ≡ true → go c (at a m s extra) ≡ ends c.globals c.func.result c.given (at a m s extra) (Some e) → go c (at a m s extra) ≡ after_mark c.globals c.func.result (at a m (both s (one_turn e.weight)) extra) e
ends_turn c n a m s extra e due turn goes =
    let t = at a m s extra in
    goes
    ∙ ap (marked c.given c.globals c.func.result t e) turn
    ∙ turn_taken c.given t (after_mark c.globals c.func.result (at a m (both s (one_turn e.weight)) extra) e) n due.left

-- the block that is due ends so
abbrev EndsWith : Setting → Activation → Memory → Spent → List (Option Value) → Ending → Type 0
EndsWith c a m s extra e = go c (at a m s extra) ≡ ends c.globals c.func.result c.given (at a m s extra) (Some e)

goto_taken : (c : Setting) (n : ℕ) (a : Activation) (m : Memory) (s : Spent) (extra : List (Option Value)) (from number l : ℕ) → Due c n a m s extra → (e : Ending) → IsJumpEnding c.func from number (Goto l) e → EndsWith c a m s extra e → TakesTurn (Rel c) (go c) c.given.room n m s (at a m s extra) (enter (env c) from a.locals m l)
goto_taken c n a m s extra from number l due e is goes =
    let blocks = c.func.blocks in
    let copies = e.copies in
    let now : Ending = record { turn = true; weight = 1 + length (phis_at blocks (target blocks l)); copies = copies; leave = GotoBlock (target blocks l) } in
    enter_taken c n a m s (at a m s extra) from l
    (λ k b vs enters.
    let here : target blocks l ≡ k = ap or_zero enters.place in
    let phis : length (phis_at blocks (target blocks l)) ≡ length b.phis = ap (λ j. length (phis_at blocks j)) here ∙ ap (λ o. length (phis_of o)) enters.here in
    entry_comes c (at a m s extra) a m (both s (one_turn now.weight)) (both s (one_turn (1 + length b.phis))) extra from l k b vs now due.own enters
    (entry_done c a m (both s (one_turn now.weight)) extra from l k b vs now due.long due.own enters (subst (λ j. AreCopies c.func from j copies) here is.1) (ap GotoBlock here))
    (ends_turn c n a m s extra now due refl (subst (EndsWith c a m s extra) is.0 goes))
    (ap (λ w. both s (one_turn (1 + w))) phis))

-- ---- edges

-- the ending that has this number, for a block with phis
record EdgeAt (c : Setting) (from number k : ℕ) : Type 0 where
  ending : Ending
  here : slice_get c.code.edges number ≡ Some ending
  is : IsOnEdge c.func (record { from = from; to = k }) ending

abbrev HasEdge : Setting → (from number k : ℕ) → List Phi → Type 0
HasEdge c from number k [] = Unit {0}
HasEdge c from number k (p ∷ ps) = EdgeAt c from number k

-- the way past the edge, if there is one
edge_comes : (c : Setting) (a : Activation) (m : Memory) (s : Spent) (extra : List (Option Value)) (from number l k : ℕ) (b : Block) (vs : List Value) → length extra ≡ phi_count c.func → length a.locals.temps ≡ length c.func.temps → Enters c a from l k b vs → (phis : List Phi) → b.phis ≡ phis → HasEdge c from number k phis → ComesTo (Rel c) (go c) (On (at (record { block = past_edge c.func number k phis; next = 0; locals = a.locals }) m (both s (one_turn 1)) extra)) (into a k b.phis vs) m (both s (one_turn (1 + length b.phis)))
edge_comes c a m s extra from number l k b vs long own enters [] e has =
    let inside = inside_at c.func.blocks k b enters.here in
    subst (λ ps. ComesTo (Rel c) (go c) (On (at (record { block = k; next = 0; locals = a.locals }) m (both s (one_turn 1)) extra)) (into a k ps vs) m (both s (one_turn (1 + length ps)))) (sym e)
    (came_on c 0 (record { block = k; next = 0; locals = a.locals }) m (both s (one_turn 1)) extra long own inside)
edge_comes c a m s extra from number l k b vs long own enters (p ∷ ps) e has =
    let u : Activation = record { block = length c.func.blocks + number; next = 0; locals = a.locals } in
    let t = at u m (both s (one_turn 1)) extra in
    let many = length (phis_at c.func.blocks k) in
    let copies = has.ending.copies in
    let now : Ending = record { turn = false; weight = many; copies = copies; leave = GotoBlock k } in
    let z = both (both s (one_turn 1)) (weighs many) in
    let behind_all : slice_get c.func.blocks (length c.func.blocks + number) ≡ None = slice_get_past c.func.blocks (length c.func.blocks + number) (omega arith) in
    let which : length c.func.blocks + number - length c.func.blocks ≡ number = omega arith in
    let goes : go c t ≡ after_mark c.globals c.func.result (at u m z extra) now =
    past_blocks c t behind_all
    ∙ ap (λ j. ends c.globals c.func.result c.given t (slice_get c.code.edges j)) which
    ∙ ap (ends c.globals c.func.result c.given t) (has.here ∙ ap Some has.is.0) in
    let spends : z ≡ both s (one_turn (1 + length b.phis)) =
    both_assoc s (one_turn 1) (weighs many) ∙ ap (λ (o : Option Block). both s (one_turn (1 + length (phis_of o)))) enters.here in
    entry_comes c t u m z (both s (one_turn (1 + length b.phis))) extra from l k b vs now own
    (record { place = enters.place; here = enters.here; values = enters.values })
    (entry_done c u m z extra from l k b vs now long own (record { place = enters.place; here = enters.here; values = enters.values }) has.is.1 refl)
    goes spends

-- ---- branches

-- a word is an integer
record IsWord (v : Value) : Type 0 where
  number : ℕ
  is : v ≡ Integer number

word_place : (o : Option Value) (v : Value) → option_and_then (in_place W) o ≡ Some v → IsWord v
word_place None v h = absurd (let no : ⊥ = cc in no)
word_place (Some (Integer n)) v h = record { number = n % 2 ^ 32; is = cc }
word_place (Some (Pointer b o)) v h = absurd (let no : ⊥ = cc in no)
word_place (Some (Function f)) v h = absurd (let no : ⊥ = cc in no)

-- after a branch: on to the block of this label, or to its edge
side_taken : (c : Setting) (n : ℕ) (a : Activation) (m : Memory) (s : Spent) (extra : List (Option Value)) (from number l : ℕ) → Due c n a m s extra → HasEdge c from number (target c.func.blocks l) (phis_at c.func.blocks (target c.func.blocks l)) → go c (at a m s extra) ≡ Does (On (at (record { block = branch_target c.func number (target c.func.blocks l); next = 0; locals = a.locals }) m (both s (one_turn 1)) extra)) → TakesTurn (Rel c) (go c) c.given.room n m s (at a m s extra) (enter (env c) from a.locals m l)
side_taken c n a m s extra from number l due has goes =
    let blocks = c.func.blocks in
    enter_taken c n a m s (at a m s extra) from l
    (λ k b vs enters.
    let here : target blocks l ≡ k = ap or_zero enters.place in
    let phis : phis_at blocks k ≡ b.phis = ap phis_of enters.here in
    let there : go c (at a m s extra) ≡ Does (On (at (record { block = past_edge c.func number k b.phis; next = 0; locals = a.locals }) m (both s (one_turn 1)) extra)) =
    goes
    ∙ ap (λ j. Does (On (at (record { block = branch_target c.func number j; next = 0; locals = a.locals }) m (both s (one_turn 1)) extra))) here
    ∙ ap (λ ps. Does (On (at (record { block = past_edge c.func number k ps; next = 0; locals = a.locals }) m (both s (one_turn 1)) extra))) phis in
    let edge_is : HasEdge c from number k b.phis =
    subst (HasEdge c from number k) phis (subst (λ j. HasEdge c from number j (phis_at blocks j)) here has) in
    led_to c (at a m s extra) (at (record { block = past_edge c.func number k b.phis; next = 0; locals = a.locals }) m (both s (one_turn 1)) extra)
    (into a k b.phis vs) m (both s (one_turn (1 + length b.phis))) there
    (edge_comes c a m s extra from number l k b vs due.long due.own enters b.phis refl edge_is))

-- the edges of a branch have their numbers
number_has : (c : Setting) (from number k : ℕ) → slice_get (all_edges c.func c.func.blocks) number ≡ Some (record { from = from; to = k }) → EdgeAt c from number k
number_has c from number k e =
    let r = on_edge_at c.func (all_edges c.func c.func.blocks) c.code.edges number (record { from = from; to = k }) c.is.edges e in
    record { ending = r.ending; here = r.here; is = r.is }

first_edge : (c : Setting) (from number k : ℕ) (rest : List Edge) (phis : List Phi) → ((w : Edge) → slice_get (edge_with from k phis ++ rest) 0 ≡ Some w → slice_get (all_edges c.func c.func.blocks) number ≡ Some w) → HasEdge c from number k phis
first_edge c from number k rest [] h = tt
first_edge c from number k rest (p ∷ ps) h = number_has c from number k (h _ refl)

second_edge : (c : Setting) (from number k : ℕ) (before : List Edge) (phis : List Phi) → ((w : Edge) → slice_get (before ++ edge_with from k phis) (length before + 0) ≡ Some w → slice_get (all_edges c.func c.func.blocks) number ≡ Some w) → HasEdge c from number k phis
second_edge c from number k before [] h = tt
second_edge c from number k before (p ∷ ps) h = number_has c from number k (h _ (get_behind before (edge_with from k (p ∷ ps)) 0))

branch_taken : (c : Setting) (n : ℕ) (a : Activation) (m : Memory) (s : Spent) (extra : List (Option Value)) (b : Block) (j : Lined Jump) (on : Val) (nonzero otherwise : ℕ) → slice_get c.func.blocks a.block ≡ Some b → b.jump ≡ Some j → j.item ≡ Branch on nonzero otherwise → nat_eq nonzero otherwise ≡ false → Due c n a m s extra → (e : Ending) → IsJumpEnding c.func b.label (edges_before c.func c.func.blocks a.block) (Branch on nonzero otherwise) e → EndsWith c a m s extra e → TakesTurn (Rel c) (go c) c.given.room n m s (at a m s extra) (branched (env c) b.label a.locals m nonzero otherwise (operand c.globals a.locals.temps W on))
branch_taken c n a m s extra b j on nonzero otherwise here jump item differ due e is goes =
    by_value (operand c.globals a.locals.temps W on) refl
  where
    edges : block_edges c.func b ≡ edge c.func b.label (target c.func.blocks nonzero) ++ edge c.func b.label (target c.func.blocks otherwise)
    edges = ap (end_edges c.func b.label) jump ∙ (ap (λ x. jump_edges c.func b.label (straight x)) item ∙ ap (λ q. jump_edges c.func b.label (straight_if q on nonzero otherwise)) differ)

    stands : (i : ℕ) (w : Edge) → slice_get (edge c.func b.label (target c.func.blocks nonzero) ++ edge c.func b.label (target c.func.blocks otherwise)) i ≡ Some w → slice_get (all_edges c.func c.func.blocks) (edges_before c.func c.func.blocks a.block + i) ≡ Some w
    stands i w h = edge_at c.func c.func.blocks a.block i b w here (ap (λ es. slice_get es i) edges ∙ h)

    first_has : HasEdge c b.label (edges_before c.func c.func.blocks a.block) (target c.func.blocks nonzero) (phis_at c.func.blocks (target c.func.blocks nonzero))
    first_has =
        first_edge c b.label (edges_before c.func c.func.blocks a.block) (target c.func.blocks nonzero) (edge c.func b.label (target c.func.blocks otherwise)) (phis_at c.func.blocks (target c.func.blocks nonzero))
        (λ w h. let none : edges_before c.func c.func.blocks a.block ≡ edges_before c.func c.func.blocks a.block + 0 = omega arith in
        ap (slice_get (all_edges c.func c.func.blocks)) none ∙ stands 0 w h)

    second_has : HasEdge c b.label (edges_before c.func c.func.blocks a.block + length (edge c.func b.label (target c.func.blocks nonzero))) (target c.func.blocks otherwise) (phis_at c.func.blocks (target c.func.blocks otherwise))
    second_has =
        second_edge c b.label (edges_before c.func c.func.blocks a.block + length (edge c.func b.label (target c.func.blocks nonzero))) (target c.func.blocks otherwise) (edge c.func b.label (target c.func.blocks nonzero)) (phis_at c.func.blocks (target c.func.blocks otherwise))
        (λ w h. let none : edges_before c.func c.func.blocks a.block + length (edge c.func b.label (target c.func.blocks nonzero)) ≡ edges_before c.func c.func.blocks a.block + (length (edge c.func b.label (target c.func.blocks nonzero)) + 0) = omega arith in
        ap (slice_get (all_edges c.func c.func.blocks)) none ∙ stands (length (edge c.func b.label (target c.func.blocks nonzero)) + 0) w h)

    by_test : (x : Bool) → go c (at a m s extra) ≡ Does (On (at (record { block = cond x (branch_target c.func (edges_before c.func c.func.blocks a.block + length (edge c.func b.label (target c.func.blocks nonzero))) (target c.func.blocks otherwise)) (branch_target c.func (edges_before c.func c.func.blocks a.block) (target c.func.blocks nonzero)); next = 0; locals = a.locals }) m (both s (one_turn 1)) extra)) → TakesTurn (Rel c) (go c) c.given.room n m s (at a m s extra) (enter (env c) b.label a.locals m (cond x otherwise nonzero))
    by_test true h = side_taken c n a m s extra b.label (edges_before c.func c.func.blocks a.block + length (edge c.func b.label (target c.func.blocks nonzero))) otherwise due second_has h
    by_test false h = side_taken c n a m s extra b.label (edges_before c.func c.func.blocks a.block) nonzero due first_has h

    by_value : (v : Option Value) → operand c.globals a.locals.temps W on ≡ v → TakesTurn (Rel c) (go c) c.given.room n m s (at a m s extra) (branched (env c) b.label a.locals m nonzero otherwise v)
    by_value None known = λ fine. absurd fine
    by_value (Some v) is_known =
        let w = word_place (value_at c.globals a.locals.temps on) v is_known in
        let known : operand c.globals (a.locals.temps ++ extra) W on ≡ Some (Integer w.number) =
        operand_less c.globals a.locals.temps extra W on v is_known ∙ ap Some w.is in
        subst (λ u. TakesTurn (Rel c) (go c) c.given.room n m s (at a m s extra) (branched (env c) b.label a.locals m nonzero otherwise (Some u))) (sym w.is)
        (by_test (nat_eq w.number 0)
        (ends_turn c n a m s extra
        (one_turn_ending (BranchTo on (branch_target c.func (edges_before c.func c.func.blocks a.block) (target c.func.blocks nonzero)) (branch_target c.func (edges_before c.func c.func.blocks a.block + length (edge c.func b.label (target c.func.blocks nonzero))) (target c.func.blocks otherwise))))
        due refl (subst (EndsWith c a m s extra) is goes)
        ∙ ap (branches (at a m (both s (one_turn 1)) extra)
        (branch_target c.func (edges_before c.func c.func.blocks a.block) (target c.func.blocks nonzero))
        (branch_target c.func (edges_before c.func c.func.blocks a.block + length (edge c.func b.label (target c.func.blocks nonzero))) (target c.func.blocks otherwise))) known))

-- a branch that leads to one block by both ways
one_way : (n a b : ℕ) → nat_eq a b ≡ true → branch_to (Integer n) a b ≡ a
one_way n a b same = by (nat_eq n 0)
  where
    by : (x : Bool) → cond x b a ≡ a
    by true = grind (arith, nat_tests)
    by false = refl

straight_taken : (c : Setting) (n : ℕ) (a : Activation) (m : Memory) (s : Spent) (extra : List (Option Value)) (from number : ℕ) (on : Val) (nonzero otherwise : ℕ) → nat_eq nonzero otherwise ≡ true → Due c n a m s extra → (e : Ending) → IsJumpEnding c.func from number (Goto nonzero) e → EndsWith c a m s extra e → TakesTurn (Rel c) (go c) c.given.room n m s (at a m s extra) (branched (env c) from a.locals m nonzero otherwise (operand c.globals a.locals.temps W on))
straight_taken c n a m s extra from number on nonzero otherwise same due e is goes = by_value (operand c.globals a.locals.temps W on) refl
  where
    by_value : (v : Option Value) → operand c.globals a.locals.temps W on ≡ v → TakesTurn (Rel c) (go c) c.given.room n m s (at a m s extra) (branched (env c) from a.locals m nonzero otherwise v)
    by_value None e = λ fine. absurd fine
    by_value (Some v) known =
        let w = word_place (value_at c.globals a.locals.temps on) v known in
        let there : branch_to v nonzero otherwise ≡ nonzero = ap (λ u. branch_to u nonzero otherwise) w.is ∙ one_way w.number nonzero otherwise same in
        subst (λ l. TakesTurn (Rel c) (go c) c.given.room n m s (at a m s extra) (enter (env c) from a.locals m l)) (sym there) (goto_taken c n a m s extra from number nonzero due e is goes)

-- ---- other jumps

return_taken : (c : Setting) (n : ℕ) (a : Activation) (m : Memory) (s : Spent) (extra : List (Option Value)) (from number : ℕ) (v : Option Val) → Due c n a m s extra → (e : Ending) → IsJumpEnding c.func from number (Return v) e → EndsWith c a m s extra e → TakesTurn (Rel c) (go c) c.given.room n m s (at a m s extra) (jump_effect (env c) from a.locals m (Return v))
return_taken c n a m s extra from number None due e is goes =
    λ fine. (1, one_step c (at a m s extra) _ (ends_turn c n a m s extra (one_turn_ending (ReturnWith None)) due refl (subst (EndsWith c a m s extra) is goes)))
return_taken c n a m s extra from number (Some v) due e is goes =
    by_class c.func.result (ends_turn c n a m s extra (one_turn_ending (ReturnWith (Some v))) due refl (subst (EndsWith c a m s extra) is goes))
  where
    by_value : (k : Class) (w : Option Value) → operand c.globals a.locals.temps k v ≡ w → go c (at a m s extra) ≡ returns (at a m (both s (one_turn 1)) extra) (operand c.globals (a.locals.temps ++ extra) k v) → TakesTurn (Rel c) (go c) c.given.room n m s (at a m s extra) (returned a.locals m w)
    by_value k None e h = λ fine. absurd fine
    by_value k (Some w) e h =
        λ fine. (
          1,
          one_step c (at a m s extra) _
              (h ∙ ap (returns (at a m (both s (one_turn 1)) extra)) (operand_less c.globals a.locals.temps extra k v w e)),
        )

    by_class : (k : Option Class) → go c (at a m s extra) ≡ returns_in c.globals (at a m (both s (one_turn 1)) extra) k v → TakesTurn (Rel c) (go c) c.given.room n m s (at a m s extra) (return_value (env c) a.locals m k v)
    by_class None h = λ fine. absurd fine
    by_class (Some k) h = by_value k (operand c.globals a.locals.temps k v) refl h

jump_taken : (c : Setting) (n : ℕ) (a : Activation) (m : Memory) (s : Spent) (extra : List (Option Value)) (b : Block) (j : Lined Jump) (x : Jump) → slice_get c.func.blocks a.block ≡ Some b → b.jump ≡ Some j → j.item ≡ x → Due c n a m s extra → (e : Ending) → IsJumpEnding c.func b.label (edges_before c.func c.func.blocks a.block) (straight x) e → EndsWith c a m s extra e → TakesTurn (Rel c) (go c) c.given.room n m s (at a m s extra) (jump_effect (env c) b.label a.locals m x)
jump_taken c n a m s extra b j (Goto l) here jump item due e is goes = goto_taken c n a m s extra b.label (edges_before c.func c.func.blocks a.block) l due e is goes
jump_taken c n a m s extra b j (Branch on nonzero otherwise) here jump item due e is goes = by_ways (nat_eq nonzero otherwise) refl
  where
    as_it_is : (q : Bool) → nat_eq nonzero otherwise ≡ q → IsJumpEnding c.func b.label (edges_before c.func c.func.blocks a.block) (straight_if q on nonzero otherwise) e
    as_it_is q same = subst (λ x. IsJumpEnding c.func b.label (edges_before c.func c.func.blocks a.block) (straight_if x on nonzero otherwise) e) same is

    by_ways : (q : Bool) → nat_eq nonzero otherwise ≡ q → TakesTurn (Rel c) (go c) c.given.room n m s (at a m s extra) (branched (env c) b.label a.locals m nonzero otherwise (operand c.globals a.locals.temps W on))
    by_ways true same = straight_taken c n a m s extra b.label (edges_before c.func c.func.blocks a.block) on nonzero otherwise same due e (as_it_is true same) goes
    by_ways false same = branch_taken c n a m s extra b j on nonzero otherwise here jump item same due e (as_it_is false same) goes
jump_taken c n a m s extra b j (Return v) here jump item due e is goes = return_taken c n a m s extra b.label (edges_before c.func c.func.blocks a.block) v due e is goes
jump_taken c n a m s extra b j Halt here jump item due e is goes =
    λ fine. (1, one_step c (at a m s extra) _ (ends_turn c n a m s extra (one_turn_ending HaltRun) due refl (subst (EndsWith c a m s extra) is goes)))

end_taken : (c : Setting) (n : ℕ) (a : Activation) (m : Memory) (s : Spent) (extra : List (Option Value)) (b : Block) (j : Option (Lined Jump)) → slice_get c.func.blocks a.block ≡ Some b → b.jump ≡ j → Due c n a m s extra → (e : Ending) → IsEndEnding c.func b.label (edges_before c.func c.func.blocks a.block) j e → EndsWith c a m s extra e → TakesTurn (Rel c) (go c) c.given.room n m s (at a m s extra) (end_effect (env c) b.label a.locals m j)
end_taken c n a m s extra b None here jump due e is goes = λ fine. absurd fine
end_taken c n a m s extra b (Some j) here jump due e is goes = jump_taken c n a m s extra b j j.item here jump refl due e is goes

-- ---- a turn

turn_of_block : (c : Setting) (n : ℕ) (a : Activation) (m : Memory) (s : Spent) (extra : List (Option Value)) (b : Block) → slice_get c.func.blocks a.block ≡ Some b → Due c n a m s extra → (i : Option (Lined Inst)) → slice_get b.insts a.next ≡ i → TakesTurn (Rel c) (go c) c.given.room n m s (at a m s extra) (turn_in (env c) a m b i)
turn_of_block c n a m s extra b here due (Some i) is =
    let xs = a.locals.temps in
    let t = at a m s extra in
    let e2 = inst_effect c.globals (locals (xs ++ extra) a.locals.owned) m i.item in
    inst_taken c n a m s extra due.long due.own due.inside due.left (inst_effect c.globals a.locals m i.item) e2
    (inst_follows c.globals xs extra a.locals.owned m i.item)
    (at_inst c t b i here is ∙ turn_taken c.given t (goes_on c.given t e2) n due.left)
turn_of_block c n a m s extra b here due None is =
    let r = ending_at c.func c.code.endings a.block b c.is.endings here in
    end_taken c n a m s extra b b.jump here refl due r.ending r.is (at_ending c (at a m s extra) b r.ending here is r.here)

turn_due : (c : Setting) (n : ℕ) (a : Activation) (m : Memory) (s : Spent) (extra : List (Option Value)) → Due c n a m s extra → (b : Option Block) → slice_get c.func.blocks a.block ≡ b → TakesTurn (Rel c) (go c) c.given.room n m s (at a m s extra) (turn_of (env c) a m b)
turn_due c n a m s extra due None here = λ fine. absurd fine
turn_due c n a m s extra due (Some b) here = turn_of_block c n a m s extra b here due (slice_get b.insts a.next) refl

-- ---- no turn left

ending_turns : (f : Func) (from number : ℕ) (j : Option (Lined Jump)) (e : Ending) → IsEndEnding f from number j e → e.turn ≡ true
ending_turns f from number None e is = ap (λ (x : Ending). x.turn) is
ending_turns f from number (Some j) e is = by (straight j.item) is
  where
    by : (x : Jump) → IsJumpEnding f from number x e → e.turn ≡ true
    by (Goto l) h = ap (λ (x : Ending). x.turn) h.0
    by (Branch on nonzero otherwise) h = ap (λ (x : Ending). x.turn) h
    by (Return v) h = ap (λ (x : Ending). x.turn) h
    by Halt h = ap (λ (x : Ending). x.turn) h

not_inside : {A : Type 0} (xs : List A) (k : ℕ) → k < length xs → slice_get xs k ≡ None → ⊥
not_inside [] k lt e = omega arith
not_inside (x ∷ xs) zero lt e = cc
not_inside (x ∷ xs) (suc k) lt e = not_inside xs k (omega arith) e

ended_turn : (c : Setting) (t : State) (e : Ending) → e.turn ≡ true → zero ≡ c.given.turns - t.spent.turns → ends c.globals c.func.result c.given t (Some e) ≡ Does (Over (Ended t.spent Turns))
ended_turn c t e turn left = ap (marked c.given c.globals c.func.result t e) turn ∙ turn_missing c.given t _ left

stops : (c : Setting) (a : Activation) (m : Memory) (s : Spent) (extra : List (Option Value)) → IsInside c.func a.block → zero ≡ c.given.turns - s.turns → (b : Option Block) → slice_get c.func.blocks a.block ≡ b → go c (at a m s extra) ≡ Does (Over (Ended s Turns))
stops c a m s extra inside left None e = absurd (not_inside c.func.blocks a.block inside e)
stops c a m s extra inside left (Some b) e = by (slice_get b.insts a.next) refl
  where
    by : (i : Option (Lined Inst)) → slice_get b.insts a.next ≡ i → go c (at a m s extra) ≡ Does (Over (Ended s Turns))
    by (Some i) is = at_inst c (at a m s extra) b i e is ∙ turn_missing c.given (at a m s extra) _ left
    by None is =
        let r = ending_at c.func c.code.endings a.block b c.is.endings e in
        at_ending c (at a m s extra) b r.ending e is r.here
        ∙ ended_turn c (at a m s extra) r.ending (ending_turns c.func b.label (edges_before c.func c.func.blocks a.block) b.jump r.ending r.is) left

-- ---- the body

takes_at : (c : Setting) (a : Activation) (m : Memory) (s : Spent) (extra : List (Option Value)) → length extra ≡ phi_count c.func → length a.locals.temps ≡ length c.func.temps → IsInside c.func a.block → (left : ℕ) → left ≡ c.given.turns - s.turns → Takes (env c) (Rel c) (go c) c.given.room left a m s (at a m s extra)
unfolding effect
takes_at c a m s extra long own inside zero left =
    λ fine. (1, one_step c (at a m s extra) (Over (Ended s Turns)) (stops c a m s extra inside left (slice_get c.func.blocks a.block) refl))
takes_at c a m s extra long own inside (suc n) left =
    turn_due c n a m s extra (record { long = long; own = own; inside = inside; left = left }) (slice_get c.func.blocks a.block) refl

takes_turns : (c : Setting) → TakesTurns (env c) (Rel c) (go c) c.given.turns c.given.room
takes_turns c a m s t r =
    subst (λ u. Takes (env c) (Rel c) (go c) c.given.room (c.given.turns - s.turns) a m s u) (sym r.is)
    (takes_at c a m s r.extra r.long r.own r.inside (c.given.turns - s.turns) refl)

-- ---- the start

record Bound (xs ys : List (Option Value)) (params : List Param) (vs : List Value) : Type 0 where
  extra : List (Option Value)
  long : length extra ≡ length ys
  own : length (with_args xs params vs) ≡ length xs
  is : with_args (xs ++ ys) params vs ≡ with_args xs params vs ++ extra

bound : (xs ys : List (Option Value)) (params : List Param) (vs : List Value) → Bound xs ys params vs
bound xs ys [] vs = record { extra = ys; long = refl; own = refl; is = refl }
bound xs ys (p ∷ ps) [] = record { extra = ys; long = refl; own = refl; is = refl }
bound xs ys (p ∷ ps) (v ∷ vs) =
    let r = bound (slice_set xs p.temp (Some v)) (behind xs ys p.temp (Some v)) ps vs in
    record {
      extra = r.extra;
      long = r.long ∙ length_behind xs ys p.temp (Some v);
      own = r.own ∙ length-set xs p.temp (Some v);
      is = ap (λ zs. with_args zs ps vs) (set_both xs ys p.temp (Some v)) ∙ r.is;
    }

starts : (f : Func) (i : Given) → 0 < length f.blocks → Related f (begun f i.args) i.memory nothing (begin f i)
starts f i some =
    let n = length f.temps in
    let k = phi_count f in
    let xs : List (Option Value) = replicate n None in
    let ys : List (Option Value) = replicate k None in
    let r = bound xs ys f.params i.args in
    let all : with_args (replicate (n + k) None) f.params i.args ≡ with_args xs f.params i.args ++ r.extra =
    ap (λ zs. with_args zs f.params i.args) (sym (replicate-append-replicate n k None)) ∙ r.is in
    record {
      extra = r.extra;
      long = r.long ∙ length-replicate k None;
      own = r.own ∙ length-replicate n None;
      inside = some;
      is = ap (λ ts. record { block = 0; next = 0; locals = locals ts []; memory = i.memory; spent = nothing }) all;
    }

some_block : (f : Func) → 0 < length f.blocks
some_block f = let some : nat_lt 0 (length f.blocks) ≡ true = f.some_block in grind (arith, nat_tests)

pub lowered_keeps : (f : Func) (code : Endings) → IsLowered f code → KeepsFunction f code
lowered_keeps f code is globals =
    turns_keep (classes_of f.params) (record { func = f; globals = globals }) (begin f) (step globals f code) (λ i. Related f)
    (λ i args. starts f i (some_block f))
    (λ i. takes_turns (record { func = f; code = code; is = is; globals = globals; given = i }))
