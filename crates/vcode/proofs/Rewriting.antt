-- Code that rewrites another keeps it.
use Rattle.std.proofs.Common.{◌≡◌, ℕ, ◌+◌, List, [], ◌∷◌, drop, Option, Some, None, slice_get, refl, sym, ◌∙◌, ap, subst}
use Rattle.il_ast.specs.declared.operation.Class.{Class}
use Rattle.il_ast.specs.declared.value.Value.{Value}
use Rattle.il_ast.specs.Prelude.{Outcome, Event, Asked, Given, Fine, KeepsCode}
use Rattle.il_ast.proofs.Simulation.{Together, MatchesEvent, Simulates}
use Rattle.il_ast.proofs.Simulated.{event_together, step_before, simulation_keeps}
use Rattle.vcode.specs.Prelude.{Line, Jump, Goto, Block, Code, classes_in, Values, virtual, State, begin, jump_step, step, line_writes, Act, Fails, Spends, Gives, Leaves, Makes, Asks, act, written, Way, Lost, Enters, Answers, Halts, way, Claims, OnlyGives, Arrives, Follows, Jumps, Both, Gone, Come, FirstOn, SecondOn, Less, Rewrites}
use Rattle.vcode.proofs.Lists.{head_at, tail_at, nothing_at}
use Rattle.vcode.proofs.Stepping.{step_line, step_jump, step_nowhere}
use Rattle.vcode.proofs.Acting.{perform, line_acts, lead, jump_leads, beside, acts_together}

-- ---- what is left of a block

pub record Left (f : Code ℕ) (block next : ℕ) (ls : List (Line ℕ)) (j : Jump ℕ) : Type 0 where
  pub whole : Block ℕ
  pub found : slice_get f.blocks block ≡ Some whole
  pub lines : drop next whole.lines ≡ ls
  pub jump : whole.jump ≡ j

pub at_start : (f : Code ℕ) (k : ℕ) (b : Block ℕ) → slice_get f.blocks k ≡ Some b → Left f k 0 b.lines b.jump
at_start f k b e = record { whole = b; found = e; lines = refl; jump = refl }

pub behind_it : (f : Code ℕ) (k n : ℕ) (l : Line ℕ) (ls : List (Line ℕ)) (j : Jump ℕ) → Left f k n (l ∷ ls) j → Left f k (n + 1) ls j
behind_it f k n l ls j h = record { whole = h.whole; found = h.found; lines = tail_at h.whole.lines n l ls h.lines; jump = h.jump }

pub line_is : (f : Code ℕ) (globals : List Value) (i : Given) (s : State ℕ) (l : Line ℕ) (ls : List (Line ℕ)) (j : Jump ℕ) → Left f s.block s.next (l ∷ ls) j
    → step virtual globals f i s ≡ perform i s (line_writes l) (act globals s.memory s.values l)
line_is f globals i s l ls j h = step_line virtual globals f i s h.whole l h.found (head_at h.whole.lines s.next l ls h.lines) ∙ line_acts globals i s l

pub jump_is : (f : Code ℕ) (globals : List Value) (i : Given) (s : State ℕ) (j : Jump ℕ) → Left f s.block s.next [] j → step virtual globals f i s ≡ lead s (way globals f.result s.memory s.values j)
jump_is f globals i s j h =
    step_jump virtual globals f i s h.whole h.found (nothing_at h.whole.lines s.next h.lines) ∙ ap (jump_step globals f.result s) h.jump ∙ jump_leads globals f.result s j

-- ---- states side by side

-- the one is nowhere, where nothing is owed, or the other is beside it
data Related (c : Claims) (v w : Code ℕ) (globals : List Value) (s t : State ℕ) : Type 0 where
  Nowhere : slice_get v.blocks s.block ≡ None → Related c v w globals s t
  There : {p : c.Claim} {ls ms : List (Line ℕ)} {j k : Jump ℕ} (b n : ℕ) (el : Values ℕ) → t ≡ beside s b n el → Left v s.block s.next ls j → Left w b n ms k
      → c.holds p globals s.memory s.values el → Follows c v w p ls j ms k → Related c v w globals s t

module _ (c : Claims) (v w : Code ℕ) (globals : List Value) (i : Given) (rewrites : Rewrites c v w) where
  abbrev Matched : State ℕ → State ℕ → Type 0
  Matched s t = MatchesEvent (Related c v w globals) Fine (step virtual globals w i) (step virtual globals v i s) t

  -- the blocks at which a claim arrives
  arrived : (s : State ℕ) (k n : ℕ) (el : Values ℕ) (q : c.Claim) → c.arrives q k n → c.holds q globals s.memory s.values el
      → Related c v w globals (record s { block = k; next = 0 }) (beside (record s { block = k; next = 0 }) n 0 el)
  arrived s k n el q arrives holds = by (slice_get v.blocks k) refl
    where
      by : (o : Option (Block ℕ)) → slice_get v.blocks k ≡ o → Related c v w globals (record s { block = k; next = 0 }) (beside (record s { block = k; next = 0 }) n 0 el)
      by None e = Nowhere e
      by (Some b) e =
          let d = rewrites.follows q k n arrives b e in There n 0 el refl (at_start v k b e) (at_start w n d.0 d.1.0) holds d.1.1

  -- both codes do their next step
  both_step : (s t : State ℕ) (x y : Event (State ℕ) Asked Outcome) → step virtual globals v i s ≡ x → step virtual globals w i t ≡ y → Together (Related c v w globals) Fine x y → Matched s t
  both_step s t x y first second h =
      event_together (Related c v w globals) Fine (step virtual globals w i) (step virtual globals v i s) t
      (subst (λ (z : Event (State ℕ) Asked Outcome). Together (Related c v w globals) Fine z (step virtual globals w i t)) (sym first)
      (subst (λ (z : Event (State ℕ) Asked Outcome). Together (Related c v w globals) Fine x z) (sym second) h))

  ways_together : (s : State ℕ) (b n : ℕ) (el : Values ℕ) (x y : Way) → Arrives c globals s.memory s.values el x y → Together (Related c v w globals) Fine (lead s x) (lead (beside s b n el) y)
  ways_together s b n el Lost y h = λ f. absurd f
  ways_together s b n el (Enters k) y h =
      (beside (record s { block = k; next = 0 }) h.0 0 el, ap (lead (beside s b n el)) h.1.0, arrived s k h.0 el h.1.1.0 h.1.1.1.0 h.1.1.1.1)
  ways_together s b n el (Answers o) y h = λ f. ap (lead (beside s b n el)) h
  ways_together s b n el Halts y h = λ f. ap (lead (beside s b n el)) h

  -- a line that does no more than give a value is matched by no step
  gone_matched : (s t : State ℕ) (to : Option ℕ) (a : Act) → OnlyGives (λ o. Related c v w globals (record s { next = s.next + 1; values = written to o s.values }) t) a
      → MatchesEvent (Related c v w globals) Fine (step virtual globals w i) (perform i s to a) t
  gone_matched s t to Fails h = λ f. absurd f
  gone_matched s t to (Gives o) h = (0, (t, refl, h))
  gone_matched s t to (Spends turn x) h = absurd h
  gone_matched s t to (Leaves m) h = absurd h
  gone_matched s t to (Makes size) h = absurd h
  gone_matched s t to (Asks call) h = absurd h

  only_more : (p q : Option Value → Type 0) → ((o : Option Value) → p o → q o) → (a : Act) → OnlyGives p a → OnlyGives q a
  only_more p q more Fails h = tt
  only_more p q more (Gives o) h = more o h
  only_more p q more (Spends turn x) h = absurd h
  only_more p q more (Leaves m) h = absurd h
  only_more p q more (Makes size) h = absurd h
  only_more p q more (Asks call) h = absurd h

  matched : {p : c.Claim} {ls ms : List (Line ℕ)} {j k : Jump ℕ} → Follows c v w p ls j ms k → (s : State ℕ) (b n : ℕ) (el : Values ℕ) → Left v s.block s.next ls j → Left w b n ms k
      → c.holds p globals s.memory s.values el → Matched s (beside s b n el)
  matched (Jumps {j = j} {k = k} alike) s b n el before after holds =
      let t : State ℕ = beside s b n el in
      both_step s t (lead s (way globals v.result s.memory s.values j)) (lead t (way globals v.result s.memory el k))
      (jump_is v globals i s j before)
      (jump_is w globals i t k after ∙ ap (λ (r : Option Class). lead t (way globals r s.memory el k)) rewrites.result)
      (ways_together s b n el (way globals v.result s.memory s.values j) (way globals v.result s.memory el k) (alike globals s.memory s.values el holds))
  matched (Both {q = q} {l = l} {m = m} {ls = ls} {ms = ms} {j = j} {k = k} alike rest) s b n el before after holds =
      let t : State ℕ = beside s b n el in
      let x : Act = act globals s.memory s.values l in
      let y : Act = act globals s.memory el m in
      both_step s t (perform i s (line_writes l) x) (perform i t (line_writes m) y) (line_is v globals i s l ls j before) (line_is w globals i t m ms k after)
      (acts_together (Related c v w globals) (c.holds q globals) i s b n el (line_writes l) (line_writes m) x y (alike globals s.memory s.values el holds)
      (λ u new e f holds.
      There b (n + 1) new refl
      (subst (λ a. Left v a u.next ls j) (sym e) (subst (λ a. Left v s.block a ls j) (sym f) (behind_it v s.block s.next l ls j before)))
      (behind_it w b n m ms k after)
      holds rest))
  matched (Gone {l = l} {ls = ls} {j = j} may rest) s b n el before after holds =
      let x : Act = act globals s.memory s.values l in
      subst (λ (z : Event (State ℕ) Asked Outcome). MatchesEvent (Related c v w globals) Fine (step virtual globals w i) z (beside s b n el)) (sym (line_is v globals i s l ls j before))
      (gone_matched s (beside s b n el) (line_writes l) x
      (only_more _ _ (λ o h. There b n el refl (behind_it v s.block s.next l ls j before) after h rest) x (may globals s.memory s.values el holds)))
  matched (Come {m = m} {ms = ms} {k = k} may rest) s b n el before after holds =
      let t : State ℕ = beside s b n el in
      let a = may globals s.memory s.values el holds in
      let new : Values ℕ = written (line_writes m) a.0 el in
      step_before (Related c v w globals) Fine (step virtual globals w i) (step virtual globals v i s) t (beside s b (n + 1) new)
      (line_is w globals i t m ms k after ∙ ap (perform i t (line_writes m)) a.1.0)
      (matched rest s b (n + 1) new before (behind_it w b n m ms k after) a.1.1)
  matched (FirstOn {n = k} {b = d} at rest) s b n el before after holds =
      subst (λ (z : Event (State ℕ) Asked Outcome). MatchesEvent (Related c v w globals) Fine (step virtual globals w i) z (beside s b n el)) (sym (jump_is v globals i s (Goto k) before))
      (0, (beside s b n el, refl, There b n el refl (at_start v k d at) after holds rest))
  matched (SecondOn {n = k} {b = d} at rest) s b n el before after holds =
      step_before (Related c v w globals) Fine (step virtual globals w i) (step virtual globals v i s) (beside s b n el) (beside s k 0 el)
      (jump_is w globals i (beside s b n el) (Goto k) after)
      (matched rest s k 0 el before (at_start w k d at) holds)
  matched (Less less rest) s b n el before after holds = matched rest s b n el before after (less globals s.memory s.values el holds)

  simulates : Simulates (Related c v w globals) Fine (step virtual globals v i) (step virtual globals w i)
  simulates s t (Nowhere at) =
      subst (λ (z : Event (State ℕ) Asked Outcome). MatchesEvent (Related c v w globals) Fine (step virtual globals w i) z t) (sym (step_nowhere virtual globals v i s at)) (λ f. absurd f)
  simulates s t (There b n el is before after holds follows) =
      subst (λ (u : State ℕ). Matched s u) (sym is) (matched follows s b n el before after holds)

pub rewrites_keep : (c : Claims) (v w : Code ℕ) → Rewrites c v w → (globals : List Value) → KeepsCode (classes_in v.params) (begin virtual v) (step virtual globals v) (begin virtual w) (step virtual globals w)
rewrites_keep c v w rewrites globals =
    simulation_keeps (classes_in v.params) (begin virtual v) (step virtual globals v) (begin virtual w) (step virtual globals w)
    (λ i. Related c v w globals)
    (λ i args. arrived c v w globals i rewrites (begin virtual v i) 0 0 (begin virtual w i).values rewrites.first rewrites.arrives (rewrites.begins globals i args))
    (λ i. simulates c v w globals i rewrites)
