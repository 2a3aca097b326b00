-- Which runs with fewer turns still go on: those below the turns that a return has taken, and those before a failure.
use Rattle.std.proofs.Common.{◌≡◌, ◌⊎◌, inl, inr, ℕ, zero, suc, ◌+◌, ◌-◌, ◌<◌, ◌≤◌, Bool, true, false, List, [], ◌∷◌, ◌++◌, map, refl, sym, ◌∙◌, ap, subst, arith, cond, append-nil, nat_eq, nat_lt, slice_get, Option, Some, None, option_and_then}
use Rattle.il_ast.specs.Prelude.{Dest, Val, Class, Inst, Jump, Goto, Branch, Return, Lined, Phi, Block, W, L, Param, InText, Program, Func, Callee, Defined, SystemWrite, SystemExit, Value, Integer, Pointer, Function, End, Exit, Halt, Undefined, Stack, Turns, Memory, cells_at, plain_bytes, need, Env, Activation, Call, InstEffect, Done, Asks, Fails, Locals, Effect, Goes, Returns, Ends, assign, inst_effect, operand, phi_values, entered, enter_at, enter_place, place_of, branch_to, branched, returned, return_value, jump_effect, end_effect, after_inst, turn_in, turn_of, effect, Spent, nothing, one_turn, one_call, both, Outcome, Returned, Ended, after, Callees, Rest, resume, perform, run, begun, body, globals_of, start_memory, call_fits, call_function, put_out, write_bytes, write_integer, write_call, exit_call, call_named, callees, main_call, stack_room, outcome, TurnsAreSpent, StillGoes, OutputComesFirst}
use Rattle.il_ast.specs.declared.instruction.Jump.TheVariants.{Halt as HaltJump}
use Rattle.il_ast.specs.Effect.{Calls}
use Rattle.il_ast.proofs.SameDepth.{same_run, same_callees}

-- what a run does, by its turns
abbrev Paced : Type 0
Paced = ℕ → Outcome

-- at k turns, at most t, it still goes on, and has put out so much
record GoesAt (f : Paced) (t : ℕ) (output : List ℕ) : Type 0 where
  k : ℕ
  spent : Spent
  few : k ≤ t
  going : f k ≡ Ended spent Turns
  is : spent.output ≡ output

abbrev Present : Option Value → Type 0
Present None = ⊥
Present (Some v) = Unit {0}

record ReturnsAt (f : Paced) (t : ℕ) (s : Spent) (v : Option Value) (m : Memory) : Type 0 where
  fits : s.turns ≤ t
  same : (u : ℕ) → s.turns ≤ u → u ≤ t → f u ≡ Returned s v m
  before : Present v ⊎ GoesAt f t s.output

abbrev FailsAt : Paced → ℕ → List ℕ → Type 0
FailsAt f t output = (output ≡ []) ⊎ GoesAt f t output

abbrev EndsAt : Paced → ℕ → Spent → End → Type 0
EndsAt f t s (Exit n) = Unit {0}
EndsAt f t s Halt = Unit {0}
EndsAt f t s Undefined = FailsAt f t s.output
EndsAt f t s Stack = FailsAt f t s.output
EndsAt f t s Turns = s.turns ≡ t

-- how it goes at t turns
abbrev GoesSo : Paced → ℕ → Outcome → Type 0
GoesSo f t (Returned s v m) = ReturnsAt f t s v m
GoesSo f t (Ended s e) = EndsAt f t s e

-- ---- before a turn

-- nothing is done without a turn
abbrev behind_turn : Paced → Paced
behind_turn g zero = Ended nothing Turns
behind_turn g (suc u) = g u

goes_behind : (f : Paced) (w t : ℕ) (output : List ℕ) → GoesAt f t output → GoesAt (behind_turn (λ u. after (one_turn w) (f u))) (suc t) output
goes_behind f w t output h =
    let few = h.few in
    record {
      k = suc h.k;
      spent = both (one_turn w) h.spent;
      few = omega arith;
      going = ap (after (one_turn w)) h.going;
      is = h.is;
    }

fails_behind : (f : Paced) (w t : ℕ) (output : List ℕ) → FailsAt f t output → FailsAt (behind_turn (λ u. after (one_turn w) (f u))) (suc t) output
fails_behind f w t output (inl h) = inl h
fails_behind f w t output (inr h) = inr (goes_behind f w t output h)

ends_behind : (f : Paced) (w t : ℕ) (s : Spent) (e : End) → EndsAt f t s e → EndsAt (behind_turn (λ u. after (one_turn w) (f u))) (suc t) (both (one_turn w) s) e
ends_behind f w t s (Exit n) h = tt
ends_behind f w t s Halt h = tt
ends_behind f w t s Undefined h = fails_behind f w t s.output h
ends_behind f w t s Stack h = fails_behind f w t s.output h
ends_behind f w t s Turns h = let is : s.turns ≡ t = h in omega arith

before_behind : (f : Paced) (w t : ℕ) (output : List ℕ) (v : Option Value) → Present v ⊎ GoesAt f t output → Present v ⊎ GoesAt (behind_turn (λ u. after (one_turn w) (f u))) (suc t) output
before_behind f w t output v (inl h) = inl h
before_behind f w t output v (inr h) = inr (goes_behind f w t output h)

same_behind : (f : Paced) (w t : ℕ) (s : Spent) (v : Option Value) (m : Memory) → ((u : ℕ) → s.turns ≤ u → u ≤ t → f u ≡ Returned s v m) → (u : ℕ) → 1 + s.turns ≤ u → u ≤ suc t → behind_turn (λ n. after (one_turn w) (f n)) u ≡ Returned (both (one_turn w) s) v m
same_behind f w t s v m h zero le up = absurd (omega arith)
same_behind f w t s v m h (suc u) le up = ap (after (one_turn w)) (h u (omega arith) (omega arith))

turn_goes_so : (f : Paced) (w t : ℕ) (o : Outcome) → GoesSo f t o → GoesSo (behind_turn (λ u. after (one_turn w) (f u))) (suc t) (after (one_turn w) o)
turn_goes_so f w t (Returned s v m) h =
    let fits = h.fits in
    record { fits = omega arith; same = same_behind f w t s v m h.same; before = before_behind f w t s.output v h.before }
turn_goes_so f w t (Ended s e) h = ends_behind f w t s e h

-- ---- after a call that has returned

-- f goes as g does once s was spent
abbrev Follows : Paced → Paced → ℕ → Spent → Type 0
Follows f g t s = (u : ℕ) → s.turns ≤ u → u ≤ t → f u ≡ after s (g (u - s.turns))

follows_at : (f g : Paced) (t : ℕ) (s : Spent) → s.turns ≤ t → Follows f g t s → (k : ℕ) → k ≤ t - s.turns → f (s.turns + k) ≡ after s (g k)
follows_at f g t s fits h k few =
    let same : s.turns + k - s.turns ≡ k = omega arith in
    h (s.turns + k) (omega arith) (omega arith) ∙ ap (λ n. after s (g n)) same

goes_after : (f g : Paced) (t : ℕ) (s : Spent) → s.turns ≤ t → Follows f g t s → (output : List ℕ) → GoesAt g (t - s.turns) output → GoesAt f t (s.output ++ output)
goes_after f g t s fits h output at =
    let few = at.few in
    record {
      k = s.turns + at.k;
      spent = both s at.spent;
      few = omega arith;
      going = follows_at f g t s fits h at.k at.few ∙ ap (after s) at.going;
      is = ap (λ xs. s.output ++ xs) at.is;
    }

fails_after : (f g : Paced) (t : ℕ) (s : Spent) → s.turns ≤ t → Follows f g t s → g 0 ≡ Ended nothing Turns → (output : List ℕ) → FailsAt g (t - s.turns) output → FailsAt f t (s.output ++ output)
fails_after f g t s fits h start output (inl none) =
    inr (record {
      k = s.turns + 0;
      spent = both s nothing;
      few = omega arith;
      going = follows_at f g t s fits h 0 (omega arith) ∙ ap (after s) start;
      is = ap (λ xs. s.output ++ xs) (sym none);
    })
fails_after f g t s fits h start output (inr at) = inr (goes_after f g t s fits h output at)

ends_after : (f g : Paced) (t : ℕ) (s : Spent) → s.turns ≤ t → Follows f g t s → g 0 ≡ Ended nothing Turns → (q : Spent) (e : End) → EndsAt g (t - s.turns) q e → EndsAt f t (both s q) e
ends_after f g t s fits h start q (Exit n) at = tt
ends_after f g t s fits h start q Halt at = tt
ends_after f g t s fits h start q Undefined at = fails_after f g t s fits h start q.output at
ends_after f g t s fits h start q Stack at = fails_after f g t s fits h start q.output at
ends_after f g t s fits h start q Turns at = let is : q.turns ≡ t - s.turns = at in omega arith

before_after : (f g : Paced) (t : ℕ) (s : Spent) → s.turns ≤ t → Follows f g t s → (output : List ℕ) (v : Option Value) → Present v ⊎ GoesAt g (t - s.turns) output → Present v ⊎ GoesAt f t (s.output ++ output)
before_after f g t s fits h output v (inl p) = inl p
before_after f g t s fits h output v (inr at) = inr (goes_after f g t s fits h output at)

after_goes_so : (f g : Paced) (t : ℕ) (s : Spent) → s.turns ≤ t → Follows f g t s → g 0 ≡ Ended nothing Turns → (o : Outcome) → GoesSo g (t - s.turns) o → GoesSo f t (after s o)
after_goes_so f g t s fits h start (Returned q v m) at =
    let inner = at.fits in
    record {
      fits = omega arith;
      same =
          λ u low high. h u (omega arith) high ∙ ap (after s) (at.same (u - s.turns) (omega arith) (omega arith));
      before = before_after f g t s fits h q.output v at.before;
    }
after_goes_so f g t s fits h start (Ended q e) at = ends_after f g t s fits h start q e at

-- ---- calls

-- calls with fewer turns than t go so
abbrev AllGoSo : ℕ → Callees → Type 0
AllGoSo t c = (call : Call) (u room : ℕ) (m : Memory) → u < t → GoesSo (λ n. c call n room m) u (c call u room m)

-- so does what comes with at most t turns, of which nothing is done without a turn
record RestGoesSo (t : ℕ) (rest : Rest) : Type 0 where
  start : (a : Activation) (m : Memory) → rest 0 a m ≡ Ended nothing Turns
  goes : (u : ℕ) (a : Activation) (m : Memory) → u ≤ t → GoesSo (λ n. rest n a m) u (rest u a m)

-- a call that still goes on, or has failed, does so for its caller
resumed_at : (rest : Rest) (to : Option Dest) (a : Activation) (c : Paced) (t : ℕ) (output : List ℕ) → GoesAt c t output → GoesAt (λ u. resume rest u to a (c u)) t output
resumed_at rest to a c t output at = record { k = at.k; spent = at.spent; few = at.few; going = ap (resume rest at.k to a) at.going; is = at.is }

resumed_failure : (rest : Rest) (to : Option Dest) (a : Activation) (c : Paced) (t : ℕ) (output : List ℕ) → FailsAt c t output → FailsAt (λ u. resume rest u to a (c u)) t output
resumed_failure rest to a c t output (inl none) = inl none
resumed_failure rest to a c t output (inr at) = inr (resumed_at rest to a c t output at)

resumed_end : (rest : Rest) (to : Option Dest) (a : Activation) (c : Paced) (t : ℕ) (s : Spent) (e : End) → EndsAt c t s e → EndsAt (λ u. resume rest u to a (c u)) t s e
resumed_end rest to a c t s (Exit n) at = tt
resumed_end rest to a c t s Halt at = tt
resumed_end rest to a c t s Undefined at = resumed_failure rest to a c t s.output at
resumed_end rest to a c t s Stack at = resumed_failure rest to a c t s.output at
resumed_end rest to a c t s Turns at = at

-- a result that is missing: the call's last turn was its return
missing_result : (rest : Rest) (to : Dest) (a : Activation) (c : Paced) (t : ℕ) (s : Spent) → Present None ⊎ GoesAt c t s.output → FailsAt (λ u. resume rest u (Some to) a (c u)) t (s.output ++ [])
missing_result rest to a c t s (inl p) = absurd p
missing_result rest to a c t s (inr at) =
    let here = resumed_at rest (Some to) a c t s.output at in
    inr (record { k = here.k; spent = here.spent; few = here.few; going = here.going; is = here.is ∙ sym (append-nil s.output) })

resume_goes_so : (rest : Rest) (t : ℕ) → RestGoesSo t rest → (to : Option Dest) (a : Activation) (c : Paced) (o : Outcome) → GoesSo c t o → GoesSo (λ u. resume rest u to a (c u)) t (resume rest t to a o)
resume_goes_so rest t h None a c (Returned s v m) at =
    after_goes_so (λ u. resume rest u None a (c u)) (λ u. rest u a m) t s at.fits (λ u low high. ap (resume rest u None a) (at.same u low high))
    (h.start a m) (rest (t - s.turns) a m) (h.goes (t - s.turns) a m (omega arith))
resume_goes_so rest t h (Some to) a c (Returned s None m) at = missing_result rest to a c t s at.before
resume_goes_so rest t h (Some to) a c (Returned s (Some v) m) at =
    let b : Activation = record a { locals = assign a.locals to.temp v } in
    after_goes_so (λ u. resume rest u (Some to) a (c u)) (λ u. rest u b m) t s at.fits (λ u low high. ap (resume rest u (Some to) a) (at.same u low high))
    (h.start b m) (rest (t - s.turns) b m) (h.goes (t - s.turns) b m (omega arith))
resume_goes_so rest t h None a c (Ended s e) at = resumed_end rest None a c t s e at
resume_goes_so rest t h (Some to) a c (Ended s e) at = resumed_end rest (Some to) a c t s e at

-- ---- turns

returned_first : (v : Option Value) (m : Memory) (t : ℕ) → GoesSo (behind_turn (λ u. Returned (one_turn 1) v m)) (suc t) (Returned (one_turn 1) v m)
returned_first v m t =
    record {
      fits = omega arith;
      same = same;
      before = inr (record { k = 0; spent = nothing; few = omega arith; going = refl; is = refl });
    }
  where
    same : (u : ℕ) → 1 ≤ u → u ≤ suc t → behind_turn (λ n. Returned (one_turn 1) v m) u ≡ Returned (one_turn 1) v m
    same zero le up = absurd (omega arith)
    same (suc u) le up = refl

-- ---- the ends of a turn

-- a turn alone ends a run as a halt or as undefined
abbrev EndsAlone : Effect → Type 0
EndsAlone (Goes w a m) = Unit {0}
EndsAlone (Calls w call to a) = Unit {0}
EndsAlone (Returns v m) = Unit {0}
EndsAlone (Ends (Exit n)) = ⊥
EndsAlone (Ends Halt) = Unit {0}
EndsAlone (Ends Undefined) = Unit {0}
EndsAlone (Ends Stack) = ⊥
EndsAlone (Ends Turns) = ⊥

entered_alone : (here : Locals) (m : Memory) (k : ℕ) (phis : List Phi) (vs : Option (List Value)) → EndsAlone (entered here m k phis vs)
entered_alone here m k phis None = tt
entered_alone here m k phis (Some vs) = tt

enter_at_alone : (env : Env) (from : ℕ) (here : Locals) (m : Memory) (k : ℕ) (b : Option Block) → EndsAlone (enter_at env from here m k b)
enter_at_alone env from here m k None = tt
enter_at_alone env from here m k (Some b) = entered_alone here m k b.phis (phi_values env.globals here.temps from b.phis)

enter_alone : (env : Env) (from : ℕ) (here : Locals) (m : Memory) (k : Option ℕ) → EndsAlone (enter_place env from here m k)
enter_alone env from here m None = tt
enter_alone env from here m (Some k) = enter_at_alone env from here m k (slice_get env.func.blocks k)

branched_alone : (env : Env) (from : ℕ) (here : Locals) (m : Memory) (nonzero otherwise : ℕ) (v : Option Value) → EndsAlone (branched env from here m nonzero otherwise v)
branched_alone env from here m nonzero otherwise None = tt
branched_alone env from here m nonzero otherwise (Some v) =
    enter_alone env from here m (place_of env.func.blocks (branch_to v nonzero otherwise))

returned_alone : (here : Locals) (m : Memory) (v : Option Value) → EndsAlone (returned here m v)
returned_alone here m None = tt
returned_alone here m (Some v) = tt

return_alone : (env : Env) (here : Locals) (m : Memory) (c : Option Class) (a : Val) → EndsAlone (return_value env here m c a)
return_alone env here m None a = tt
return_alone env here m (Some c) a = returned_alone here m (operand env.globals here.temps c a)

jump_alone : (env : Env) (from : ℕ) (here : Locals) (m : Memory) (j : Jump) → EndsAlone (jump_effect env from here m j)
jump_alone env from here m (Goto l) = enter_alone env from here m (place_of env.func.blocks l)
jump_alone env from here m (Branch a nonzero otherwise) =
    branched_alone env from here m nonzero otherwise (operand env.globals here.temps W a)
jump_alone env from here m (Return None) = tt
jump_alone env from here m (Return (Some a)) = return_alone env here m env.func.result a
jump_alone env from here m HaltJump = tt

end_alone : (env : Env) (from : ℕ) (here : Locals) (m : Memory) (j : Option (Lined Jump)) → EndsAlone (end_effect env from here m j)
end_alone env from here m None = tt
end_alone env from here m (Some j) = jump_alone env from here m j.item

inst_alone : (b k : ℕ) (here : Locals) (e : InstEffect) → EndsAlone (after_inst b k here e)
inst_alone b k here (Done w now m) = tt
inst_alone b k here (Asks w call to) = tt
inst_alone b k here Fails = tt

turn_alone : (env : Env) (a : Activation) (m : Memory) (b : Block) (i : Option (Lined Inst)) → EndsAlone (turn_in env a m b i)
turn_alone env a m b None = end_alone env b.label a.locals m b.jump
turn_alone env a m b (Some i) = inst_alone a.block a.next a.locals (inst_effect env.globals a.locals m i.item)

block_alone : (env : Env) (a : Activation) (m : Memory) (b : Option Block) → EndsAlone (turn_of env a m b)
block_alone env a m None = tt
block_alone env a m (Some b) = turn_alone env a m b (slice_get b.insts a.next)

effect_alone : (env : Env) (a : Activation) (m : Memory) → EndsAlone (effect env a m)
unfolding effect
effect_alone env a m = block_alone env a m (slice_get env.func.blocks a.block)

-- ---- bodies

turn_goes : (c : Callees) (room : ℕ) (rest : Rest) (t : ℕ) → AllGoSo (suc t) c → RestGoesSo t rest → (m : Memory) (e : Effect) → EndsAlone e → GoesSo (behind_turn (λ u. perform c room rest u m e)) (suc t) (perform c room rest t m e)
turn_goes c room rest t cs h m (Goes w a now) alone = turn_goes_so (λ u. rest u a now) w t (rest t a now) (h.goes t a now (omega arith))
turn_goes c room rest t cs h m (Calls w call to a) alone =
    turn_goes_so (λ u. resume rest u to a (c call u room m)) w t (resume rest t to a (c call t room m))
    (resume_goes_so rest t h to a (λ u. c call u room m) (c call t room m) (cs call t room m (omega arith)))
turn_goes c room rest t cs h m (Returns v now) alone = returned_first v now t
turn_goes c room rest t cs h m (Ends (Exit n)) alone = absurd alone
turn_goes c room rest t cs h m (Ends Halt) alone = tt
turn_goes c room rest t cs h m (Ends Undefined) alone = inl refl
turn_goes c room rest t cs h m (Ends Stack) alone = absurd alone
turn_goes c room rest t cs h m (Ends Turns) alone = absurd alone

run_starts : (env : Env) (c : Callees) (room k : ℕ) (a : Activation) (m : Memory) → run env c room k 0 a m ≡ Ended nothing Turns
unfolding run
run_starts env c room zero a m = refl
run_starts env c room (suc k) a m = refl

-- a run is what it is behind a turn
run_is : (env : Env) (c : Callees) (room k u : ℕ) (a : Activation) (m : Memory) → behind_turn (λ n. perform c room (run env c room k) n m (effect env a m)) u ≡ run env c room (suc k) u a m
unfolding run
run_is env c room k zero a m = refl
run_is env c room k (suc u) a m = refl

again_at : (f g : Paced) (t : ℕ) → ((u : ℕ) → u ≤ t → f u ≡ g u) → (output : List ℕ) → GoesAt f t output → GoesAt g t output
again_at f g t same output at = record { k = at.k; spent = at.spent; few = at.few; going = sym (same at.k at.few) ∙ at.going; is = at.is }

again_fails : (f g : Paced) (t : ℕ) → ((u : ℕ) → u ≤ t → f u ≡ g u) → (output : List ℕ) → FailsAt f t output → FailsAt g t output
again_fails f g t same output (inl none) = inl none
again_fails f g t same output (inr at) = inr (again_at f g t same output at)

again_before : (f g : Paced) (t : ℕ) → ((u : ℕ) → u ≤ t → f u ≡ g u) → (output : List ℕ) (v : Option Value) → Present v ⊎ GoesAt f t output → Present v ⊎ GoesAt g t output
again_before f g t same output v (inl p) = inl p
again_before f g t same output v (inr at) = inr (again_at f g t same output at)

again_ends : (f g : Paced) (t : ℕ) → ((u : ℕ) → u ≤ t → f u ≡ g u) → (s : Spent) (e : End) → EndsAt f t s e → EndsAt g t s e
again_ends f g t same s (Exit n) at = tt
again_ends f g t same s Halt at = tt
again_ends f g t same s Undefined at = again_fails f g t same s.output at
again_ends f g t same s Stack at = again_fails f g t same s.output at
again_ends f g t same s Turns at = at

again : (f g : Paced) (t : ℕ) → ((u : ℕ) → u ≤ t → f u ≡ g u) → (o : Outcome) → GoesSo f t o → GoesSo g t o
again f g t same (Returned s v m) at =
    record {
      fits = at.fits;
      same = λ u low high. sym (same u high) ∙ at.same u low high;
      before = again_before f g t same s.output v at.before;
    }
again f g t same (Ended s e) at = again_ends f g t same s e at

run_goes : (env : Env) (c : Callees) (room k t : ℕ) → t ≤ k → AllGoSo t c → (a : Activation) (m : Memory) → GoesSo (λ n. run env c room k n a m) t (run env c room k t a m)
unfolding run
run_goes env c room zero zero le cs a m = refl
run_goes env c room zero (suc t) le cs a m = absurd (omega arith)
run_goes env c room (suc k) zero le cs a m = refl
run_goes env c room (suc k) (suc t) le cs a m =
    again (behind_turn (λ n. perform c room (run env c room k) n m (effect env a m))) (λ n. run env c room (suc k) n a m) (suc t)
    (λ u few. run_is env c room k u a m) (run env c room (suc k) (suc t) a m)
    (turn_goes c room (run env c room k) t cs
    (record {
      start = λ b n. run_starts env c room k b n;
      goes = λ u b n few. run_goes env c room k u (omega arith) (λ call v r o lt. cs call v r o (omega arith)) b n;
    })
    m (effect env a m) (effect_alone env a m))

-- ---- calls of functions

same_steps : (env : Env) (c : Callees) (room t u : ℕ) → u ≤ t → (a : Activation) (m : Memory) → run env c room t u a m ≡ run env c room u u a m
same_steps env c room t u le a m = same_run env c c room u t u (λ call v r n lt. refl) le (omega arith) u a m (omega arith)

body_goes : (env : Env) (c : Callees) (t room : ℕ) (args : List Value) (m : Memory) → AllGoSo t c → GoesSo (λ n. body env c n room args m) t (body env c t room args m)
body_goes env c t room args m cs =
    again (λ n. run env c room t n (begun env.func args) m) (λ n. body env c n room args m) t
    (λ u few. same_steps env c room t u few (begun env.func args) m) (body env c t room args m)
    (run_goes env c room t t (omega arith) cs (begun env.func args) m)

body_starts : (env : Env) (c : Callees) (room : ℕ) (args : List Value) (m : Memory) → body env c 0 room args m ≡ Ended nothing Turns
body_starts env c room args m = run_starts env c room 0 (begun env.func args) m

cond_goes : (b : Bool) (f g : Paced) (t : ℕ) → GoesSo f t (f t) → GoesSo g t (g t) → GoesSo (λ n. cond b (f n) (g n)) t (cond b (f t) (g t))
cond_goes true f g t h k = h
cond_goes false f g t h k = k

entered_goes : (env : Env) (c : Callees) (t room : ℕ) (args : List Value) (m : Memory) → AllGoSo t c → GoesSo (λ n. after one_call (body env c n room args m)) t (after one_call (body env c t room args m))
entered_goes env c t room args m cs =
    after_goes_so (λ n. after one_call (body env c n room args m)) (λ n. body env c n room args m) t one_call (omega arith)
    (λ u low high. let same : u ≡ u - 0 = omega arith in ap (λ n. after one_call (body env c n room args m)) same)
    (body_starts env c room args m) (body env c t room args m)
    (let same : t - 0 ≡ t = omega arith in
    subst (λ n. GoesSo (λ k. body env c k room args m) n (body env c t room args m)) (sym same) (body_goes env c t room args m cs))

function_goes : (p : Program) (c : Callees) (t : ℕ) → AllGoSo t c → (call : Call) (room : ℕ) (m : Memory) (f : Option (InText Func)) → GoesSo (λ n. call_function p c call n room m f) t (call_function p c call t room m f)
function_goes p c t cs call room m None = inl refl
function_goes p c t cs call room m (Some f) =
    let env : Env = record { func = f.item; globals = globals_of p f.text } in
    cond_goes (call_fits call (map (λ (x : Param). x.class) f.item.params) f.item.result)
    (λ n. cond (nat_lt room (need f.item)) (Ended nothing Stack) (after one_call (body env c n (room - need f.item) call.args m))) (λ n. Ended nothing Undefined) t
    (cond_goes (nat_lt room (need f.item)) (λ n. Ended nothing Stack) (λ n. after one_call (body env c n (room - need f.item) call.args m)) t (inl refl)
    (entered_goes env c t (room - need f.item) call.args m cs))
    (inl refl)

-- ---- `write` and `exit`

-- one of the two: the same at every number of turns, with a result or as an end
abbrev IsNative : Outcome → Type 0
IsNative (Returned s None m) = ⊥
IsNative (Returned s (Some v) m) = s.turns ≡ 0
IsNative (Ended s (Exit n)) = Unit {0}
IsNative (Ended s Halt) = ⊥
IsNative (Ended s Undefined) = s.output ≡ []
IsNative (Ended s Stack) = ⊥
IsNative (Ended s Turns) = ⊥

native_goes : (t : ℕ) (o : Outcome) → IsNative o → GoesSo (λ n. o) t o
native_goes t (Returned s None m) h = absurd h
native_goes t (Returned s (Some v) m) h = let none : s.turns ≡ 0 = h in record { fits = omega arith; same = λ u low high. refl; before = inl tt }
native_goes t (Ended s (Exit n)) h = tt
native_goes t (Ended s Halt) h = absurd h
native_goes t (Ended s Undefined) h = inl h
native_goes t (Ended s Stack) h = absurd h
native_goes t (Ended s Turns) h = absurd h

cond_native : (b : Bool) (o p : Outcome) → IsNative o → IsNative p → IsNative (cond b o p)
cond_native true o p h k = h
cond_native false o p h k = k

put_out_native : (n : ℕ) (m : Memory) (bytes : Option (List ℕ)) → IsNative (put_out n m bytes)
put_out_native n m None = refl
put_out_native n m (Some bytes) = refl

write_bytes_native : (p : Value) (n : ℕ) (m : Memory) → IsNative (write_bytes p n m)
write_bytes_native (Pointer b o) n m = cond_native (nat_eq n 0) _ _ refl (put_out_native n m (option_and_then plain_bytes (cells_at m b o n)))
write_bytes_native (Integer k) n m = cond_native (nat_eq n 0) _ _ refl refl
write_bytes_native (Function f) n m = cond_native (nat_eq n 0) _ _ refl refl

write_integer_native : (p n : Value) (m : Memory) → IsNative (write_integer p n m)
write_integer_native p (Integer n) m = write_bytes_native p n m
write_integer_native p (Pointer b o) m = refl
write_integer_native p (Function f) m = refl

write_native : (args : List Value) (m : Memory) → IsNative (write_call args m)
write_native [] m = refl
write_native (Pointer b o ∷ vs) m = refl
write_native (Function f ∷ vs) m = refl
write_native (Integer d ∷ []) m = refl
write_native (Integer d ∷ p ∷ []) m = refl
write_native (Integer d ∷ p ∷ n ∷ []) m = cond_native (nat_eq d 1) _ _ (write_integer_native p n m) refl
write_native (Integer d ∷ p ∷ n ∷ v ∷ vs) m = refl

exit_native : (args : List Value) → IsNative (exit_call args)
exit_native [] = refl
exit_native (Integer s ∷ []) = tt
exit_native (Integer s ∷ v ∷ vs) = refl
exit_native (Pointer b o ∷ vs) = refl
exit_native (Function f ∷ vs) = refl

-- ---- all calls

named_goes : (p : Program) (c : Callees) (t : ℕ) → AllGoSo t c → (call : Call) (room : ℕ) (m : Memory) (f : Callee) → GoesSo (λ n. call_named p c call n room m f) t (call_named p c call t room m f)
named_goes p c t cs call room m (Defined f) = function_goes p c t cs call room m (slice_get p.functions f)
named_goes p c t cs call room m SystemWrite =
    native_goes t _ (cond_native (call_fits call (W ∷ L ∷ L ∷ []) (Some L)) _ _ (write_native call.args m) refl)
named_goes p c t cs call room m SystemExit = native_goes t _ (cond_native (call_fits call (W ∷ []) None) _ _ (exit_native call.args) refl)

callees_go : (p : Program) (k : ℕ) → AllGoSo k (callees p k)
unfolding callees
callees_go p zero call t room m lt = absurd (omega arith)
callees_go p (suc k) call t room m lt =
    named_goes p (callees p k) t (λ inner u r n less. callees_go p k inner u r n (omega arith)) call room m call.callee

outcome_goes : (p : Program) (words : List (List ℕ)) (n : ℕ) → GoesSo (λ k. callees p (suc n) (main_call p words) k stack_room (start_memory p words)) n (outcome p words n)
unfolding outcome
outcome_goes p words n = callees_go p (suc n) (main_call p words) n stack_room (start_memory p words) (omega arith)

-- ---- the laws

same_outcome : (p : Program) (words : List (List ℕ)) (n k : ℕ) → k ≤ n → callees p (suc n) (main_call p words) k stack_room (start_memory p words) ≡ outcome p words k
unfolding outcome
same_outcome p words n k le = same_callees p (suc n) (suc k) (main_call p words) k stack_room (start_memory p words) (omega arith) (omega arith)

pub turns_are_spent : TurnsAreSpent
turns_are_spent p words n s is = subst (λ o. GoesSo (λ k. callees p (suc n) (main_call p words) k stack_room (start_memory p words)) n o) is (outcome_goes p words n)

still_goes : (p : Program) (words : List (List ℕ)) (n : ℕ) (output : List ℕ) → FailsAt (λ k. callees p (suc n) (main_call p words) k stack_room (start_memory p words)) n output → (output ≡ []) ⊎ StillGoes p words n output
still_goes p words n output (inl none) = inl none
still_goes p words n output (inr at) =
    inr (record {
      turns = at.k;
      spent = at.spent;
      fewer = at.few;
      going = sym (same_outcome p words n at.k at.few) ∙ at.going;
      output_is = at.is;
    })

pub output_comes_first : OutputComesFirst
output_comes_first p words n s (Exit k) is failure = absurd failure
output_comes_first p words n s Halt is failure = absurd failure
output_comes_first p words n s Undefined is failure =
    still_goes p words n s.output
    (subst (λ o. GoesSo (λ k. callees p (suc n) (main_call p words) k stack_room (start_memory p words)) n o) is (outcome_goes p words n))
output_comes_first p words n s Stack is failure =
    still_goes p words n s.output
    (subst (λ o. GoesSo (λ k. callees p (suc n) (main_call p words) k stack_room (start_memory p words)) n o) is (outcome_goes p words n))
output_comes_first p words n s Turns is failure = absurd failure
