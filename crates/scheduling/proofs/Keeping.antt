-- Code in which lines have changed places keeps the code that there was.
use Rattle.std.proofs.Common.{◌≡◌, ℕ, ◌+◌, Bool, true, false, ◌&&◌, nat_eq, nat_lt, if◌then◌else◌, List, [], ◌∷◌, ◌++◌, length, slice_get, Option, Some, None, refl, sym, ◌∙◌, ap, subst, arith}
use Rattle.std.proofs.lemmas.Bool.Decides.{nat_tests}
use Rattle.il_ast.specs.declared.operation.Class.{Class}
use Rattle.il_ast.specs.declared.value.Value.{Value}
use Rattle.il_ast.specs.declared.value.Value.TheVariants.{Integer, Pointer, Function}
use Rattle.il_ast.specs.declared.value.End.TheVariants.{Turns}
use Rattle.il_ast.specs.Prelude.{Memory, one_turn, both, Outcome, Returned, Ended, Next, On, Over, Event, Does, Calls, Asked, Given, Fine, KeepsCode, Keeps}
use Rattle.il_ast.proofs.Simulation.{MatchesEvent, Simulates, TogetherNext, Together}
use Rattle.il_ast.proofs.Simulated.{event_together, simulation_keeps, codes_compose}
use Rattle.vcode.specs.declared.place.Location.{Location}
use Rattle.vcode.specs.declared.place.Destination.{Destination}
use Rattle.vcode.specs.declared.place.Argument.{Argument}
use Rattle.vcode.specs.declared.line.Line.{Line}
use Rattle.vcode.specs.declared.line.Line.TheVariants.{Tick, Set, Operate, Load, Store, Alloc, Blit, Call}
use Rattle.vcode.specs.declared.line.Jump.{Jump}
use Rattle.vcode.specs.declared.line.Jump.TheVariants.{Goto, Branch, Return, Halt}
use Rattle.vcode.specs.declared.code.Block.{Block}
use Rattle.vcode.specs.declared.code.Code.{Code}
use Rattle.vcode.specs.declared.function.LFunc.{LFunc}
use Rattle.vcode.specs.Prelude.{classes_in, coded, location_code, located, State, begin, value_of, read_all, read_result, goes_on, sets, changes, calls, resumes, line_step, compared, branches, returns, jump_step, block_step, step_in, step}
use Rattle.vcode.proofs.Stepping.{step_line}
use Rattle.scheduling.specs.Independent.{is_independent, swapped, swaps_at, scheduled_block, scheduled_blocks, scheduled}
use Rattle.scheduling.proofs.Commuting.{Quiet, GoesOn, Fails, first_quiet, Commutes, Lost, Ends, Meets, independent_commute}
use Rattle.scheduling.proofs.Swapping.{Exchanged, Swapped, Stays, Moves, swapped_is, item_at, elsewhere}

abbrev Step : Type 0
Step = Event (State Location) Asked Outcome

-- ---- where a step leads

-- this holds of the state in which it goes on, if it does
abbrev LandsNext : (State Location → Type 0) → Next (State Location) Outcome → Type 0
LandsNext holds (On u) = holds u
LandsNext holds (Over o) = Unit {0}

abbrev Lands : (State Location → Type 0) → Step → Type 0
Lands holds (Does x) = LandsNext holds x
Lands holds (Calls a next) = (o : Outcome) → LandsNext holds (next o)

module _ (holds : State Location → Type 0) (globals : List Value) (i : Given) (s : State Location) where
  -- of the next line, whatever else has changed
  abbrev Onward : Type 0
  Onward = (u : State Location) → u.block ≡ s.block → u.next ≡ s.next + 1 → holds u

  sets_lands : Onward → (p : Location) (o : Option Value) → Lands holds (sets located s p o)
  sets_lands on p None = tt
  sets_lands on p (Some v) = on _ refl refl

  changes_lands : Onward → (o : Option Memory) → Lands holds (changes s o)
  changes_lands on None = tt
  changes_lands on (Some m) = on _ refl refl

  turn_lands : Onward → (w : ℕ) (b : Bool) → Lands holds (if b then goes_on (record s { spent = both s.spent (one_turn w) }) else Does (Over (Ended s.spent Turns)))
  turn_lands on w true = on _ refl refl
  turn_lands on w false = tt

  resumes_lands : Onward → (to : Option (Destination Location)) (o : Outcome) → LandsNext holds (resumes located s to o)
  resumes_lands on None (Returned t v m) = on _ refl refl
  resumes_lands on (Some d) (Returned t None m) = tt
  resumes_lands on (Some d) (Returned t (Some v) m) = on _ refl refl
  resumes_lands on to (Ended t e) = tt

  calls_lands : Onward → (to : Option (Destination Location)) (args : List (Argument Location)) (f : Option Value) (vs : Option (List Value)) → Lands holds (calls located i s to args f vs)
  calls_lands on to args (Some (Function f)) (Some vs) = resumes_lands on to
  calls_lands on to args (Some (Function f)) None = tt
  calls_lands on to args (Some (Integer n)) vs = tt
  calls_lands on to args (Some (Pointer b n)) vs = tt
  calls_lands on to args None vs = tt

  line_lands : Onward → (l : Line Location) → Lands holds (line_step located globals i s l)
  unfolding line_step
  line_lands on (Tick false w) = on _ refl refl
  line_lands on (Tick true w) = turn_lands on w (nat_lt s.spent.turns i.turns)
  line_lands on (Set to a) = on _ refl refl
  line_lands on (Operate to op a b) = on _ refl refl
  line_lands on (Load to op at) = sets_lands on to _
  line_lands on (Store size a at) = changes_lands on _
  line_lands on (Alloc to size) = on _ refl refl
  line_lands on (Blit from to count) = changes_lands on _
  line_lands on (Call to callee args) = calls_lands on to args (value_of globals s.values callee) (read_all globals s.values args)

  -- of the begin of a block
  abbrev Entered : Type 0
  Entered = (u : State Location) → u.next ≡ 0 → holds u

  branches_land : Entered → (met otherwise : ℕ) (o : Option Value) → Lands holds (branches s met otherwise o)
  branches_land on met otherwise None = tt
  branches_land on met otherwise (Some (Integer n)) = on _ refl
  branches_land on met otherwise (Some (Pointer b n)) = tt
  branches_land on met otherwise (Some (Function f)) = tt

  returns_land : (o : Option Value) → Lands holds (returns s o)
  returns_land None = tt
  returns_land (Some v) = tt

  jump_lands : Entered → (result : Option Class) (j : Jump Location) → Lands holds (jump_step globals result s j)
  unfolding jump_step
  jump_lands on result (Goto k) = on _ refl
  jump_lands on result (Branch c met otherwise) = branches_land on met otherwise (compared globals s c)
  jump_lands on result (Return None) = tt
  jump_lands on None (Return (Some a)) = tt
  jump_lands on (Some k) (Return (Some a)) = returns_land (read_result globals s.values k a)
  jump_lands on result Halt = tt

  block_lands : Onward → Entered → (f : Code Location) (b : Block Location) (o : Option (Line Location)) → Lands holds (block_step located globals f i s b o)
  block_lands on enter f b (Some l) = line_lands on l
  block_lands on enter f b None = jump_lands enter f.result b.jump

  found_lands : Onward → Entered → (f : Code Location) (o : Option (Block Location)) → Lands holds (step_in located globals f i s o)
  found_lands on enter f None = tt
  found_lands on enter f (Some b) = block_lands on enter f b (slice_get b.lines s.next)

  step_lands : Onward → Entered → (f : Code Location) → Lands holds (step located globals f i s)
  unfolding step
  step_lands on enter f = found_lands on enter f (slice_get f.blocks s.block)

-- ---- a swap in one block

-- the code with other blocks
abbrev with_blocks : Code Location → List (Block Location) → Code Location
with_blocks f blocks = record { result = f.result; params = f.params; blocks = blocks }

-- a block with other lines
abbrev with_lines : Block Location → List (Line Location) → Block Location
with_lines b lines = record { lines = lines; jump = b.jump }

both_false : (a b : Bool) → b ≡ false → (a && b) ≡ false
both_false true b h = h
both_false false b h = refl

module _ (globals : List Value) (i : Given) (f : Code Location) (front rest : List (Block Location)) (b : Block Location) (n : ℕ) (lines : List (Line Location)) (l m : Line Location)
    (apart : is_independent l m ≡ true) (is : Exchanged n b.lines lines l m) where
  abbrev before : Code Location
  before = with_blocks f (front ++ b ∷ rest)

  abbrev after : Code Location
  after = with_blocks f (front ++ with_lines b lines ∷ rest)

  -- not between the two lines
  abbrev Outside : State Location → Type 0
  Outside s = (nat_eq s.block (length front) && nat_eq s.next (n + 1)) ≡ false

  -- the states are the same, or the first code has done l, and the second stands before m
  data Beside : State Location → State Location → Type 0 where
    Same : {s : State Location} → Outside s → Beside s s
    Between : {s t : State Location} → t.block ≡ length front → t.next ≡ n → s.block ≡ length front → s.next ≡ n + 1 → line_step located globals i t l ≡ Does (On s) → Beside s t

  abbrev go : State Location → Step
  go = step located globals before i

  abbrev go_now : State Location → Step
  go_now = step located globals after i

  at_once : (u : State Location) → u.next ≡ 0 → Outside u
  at_once u h = both_false (nat_eq u.block (length front)) (nat_eq u.next (n + 1)) (ap (λ k. nat_eq k (n + 1)) h ∙ (let e : nat_eq 0 (n + 1) ≡ false = grind (arith, nat_tests) in e))

  further : (s : State Location) → (nat_eq s.block (length front) && nat_eq s.next n) ≡ false → (u : State Location) → u.block ≡ s.block → u.next ≡ s.next + 1 → Outside u
  further s h u e g =
      ap (λ k. nat_eq k (length front) && nat_eq u.next (n + 1)) e ∙ ap (λ k. nat_eq s.block (length front) && nat_eq k (n + 1)) g
      ∙ ap (λ x. nat_eq s.block (length front) && x) (let same : nat_eq (s.next + 1) (n + 1) ≡ nat_eq s.next n = grind (arith, nat_tests) in same) ∙ h

  next_together : (x : Next (State Location) Outcome) → LandsNext Outside x → TogetherNext Beside Fine x x
  next_together (On u) h = (u, refl, Same h)
  next_together (Over o) h = λ fine. refl

  together : (e : Step) → Lands Outside e → Together Beside Fine e e
  together (Does (On u)) h = (u, refl, Same h)
  together (Does (Over o)) h = λ fine. refl
  together (Calls a next) h = (next, refl, λ o. next_together (next o) (h o))

  -- any other line, or a jump
  elsewhere_matched : (s : State Location) → (nat_eq s.block (length front) && nat_eq s.next n) ≡ false → go_now s ≡ go s → MatchesEvent Beside Fine go_now (go s) s
  elsewhere_matched s h same =
      event_together Beside Fine go_now (go s) s
      (subst (λ (e : Step). Together Beside Fine (go s) e) (sym same) (together (go s) (step_lands Outside globals i s (further s h) at_once before)))

  -- the first line
  first_matched : (s : State Location) → s.block ≡ length front → s.next ≡ n → Quiet s (line_step located globals i s l) → go s ≡ line_step located globals i s l → MatchesEvent Beside Fine go_now (go s) s
  first_matched s hb hn (GoesOn u ub un e) first =
      subst (λ (x : Step). MatchesEvent Beside Fine go_now x s) (sym (first ∙ e)) (0, (s, refl, Between hb hn (ub ∙ hb) (un ∙ ap (λ k. k + 1) hn) e))
  first_matched s hb hn (Fails x e) first = subst (λ (y : Step). MatchesEvent Beside Fine go_now y s) (sym (first ∙ e)) (λ fine. absurd fine)

  -- the second line
  second_matched : (s t : State Location) → t.block ≡ length front → t.next ≡ n → Commutes globals i t s l m → go s ≡ line_step located globals i s m → go_now t ≡ line_step located globals i t m
      → ((w : State Location) → w.block ≡ length front → w.next ≡ n + 1 → go_now w ≡ line_step located globals i w l) → MatchesEvent Beside Fine go_now (go s) t
  second_matched s t hb hn (Lost x e) first second third = subst (λ (y : Step). MatchesEvent Beside Fine go_now y t) (sym (first ∙ e)) (λ fine. absurd fine)
  second_matched s t hb hn (Ends o e g) first second third =
      subst (λ (y : Step). MatchesEvent Beside Fine go_now y t) (sym (first ∙ e)) (λ fine. (1, (t, refl, (Over o, second ∙ g, refl))))
  second_matched s t hb hn (Meets u w ub un wb wn e g k) first second third =
      subst (λ (y : Step). MatchesEvent Beside Fine go_now y t) (sym (first ∙ e))
      (2, (u, (t, refl, (On w, second ∙ g, (w, refl, (On u, third w (wb ∙ hb) (wn ∙ ap (λ k. k + 1) hn) ∙ k, refl)))), Same outside))
    where
      outside : Outside u
      outside =
          both_false (nat_eq u.block (length front)) (nat_eq u.next (n + 1))
          (ap (λ k. nat_eq k (n + 1)) (un ∙ ap (λ k. k + 1 + 1) hn) ∙ (let e : nat_eq (n + 1 + 1) (n + 1) ≡ false = grind (arith, nat_tests) in e))

  same_lines : (s : State Location) → s.block ≡ length front → nat_eq s.next n ≡ false → nat_eq s.next (n + 1) ≡ false → go_now s ≡ go s
  unfolding step
  same_lines s hb hn hm =
      ap (step_in located globals after i s) (ap (slice_get after.blocks) hb ∙ item_at front (with_lines b lines) rest)
      ∙ ap (block_step located globals before i s b) (is.others s.next hn hm)
      ∙ sym (ap (step_in located globals before i s) (ap (slice_get before.blocks) hb ∙ item_at front b rest))

  same_blocks : (s : State Location) → nat_eq s.block (length front) ≡ false → go_now s ≡ go s
  unfolding step
  same_blocks s h = ap (step_in located globals before i s) (elsewhere front b (with_lines b lines) rest s.block h)

  found : (s : State Location) → s.block ≡ length front → slice_get before.blocks s.block ≡ Some b
  found s h = ap (slice_get before.blocks) h ∙ item_at front b rest

  found_now : (s : State Location) → s.block ≡ length front → slice_get after.blocks s.block ≡ Some (with_lines b lines)
  found_now s h = ap (slice_get after.blocks) h ∙ item_at front (with_lines b lines) rest

  is_at : (k j : ℕ) → nat_eq k j ≡ true → k ≡ j
  is_at k j h = grind (arith, nat_tests)

  same_matched : (s : State Location) → Outside s → (x y : Bool) → nat_eq s.block (length front) ≡ x → nat_eq s.next n ≡ y → MatchesEvent Beside Fine go_now (go s) s
  same_matched s outside false y hx hy = elsewhere_matched s (ap (λ z. z && nat_eq s.next n) hx) (same_blocks s hx)
  same_matched s outside true false hx hy =
      elsewhere_matched s (both_false (nat_eq s.block (length front)) (nat_eq s.next n) hy)
      (same_lines s (is_at s.block (length front) hx) hy (sym (ap (λ z. z && nat_eq s.next (n + 1)) hx) ∙ outside))
  same_matched s outside true true hx hy =
      let hb = is_at s.block (length front) hx in
      let hn = is_at s.next n hy in
      first_matched s hb hn (first_quiet globals i s l m apart) (step_line located globals before i s b l (found s hb) (ap (slice_get b.lines) hn ∙ is.first))

  swap_matched : Simulates Beside Fine go go_now
  swap_matched s t (Same outside) = same_matched s outside (nat_eq s.block (length front)) (nat_eq s.next n) refl refl
  swap_matched s t (Between tb tn sb sn at) =
      second_matched s t tb tn (independent_commute globals i t l m apart s at)
      (step_line located globals before i s b m (found s sb) (ap (slice_get b.lines) sn ∙ is.second))
      (step_line located globals after i t (with_lines b lines) m (found_now t tb) (ap (slice_get lines) tn ∙ is.first_now))
      (λ w wb wn. step_line located globals after i w (with_lines b lines) l (found_now w wb) (ap (slice_get lines) wn ∙ is.second_now))

  begins : Beside (begin located before i) (begin located after i)
  begins = Same (at_once (begin located before i) refl)

-- ---- any number of swaps

-- code with the second blocks keeps code with the first
abbrev KeepsBlocks : Code Location → List Value → (blocks blocks2 : List (Block Location)) → Type 0
KeepsBlocks f globals blocks blocks2 =
    KeepsCode (classes_in f.params) (begin located (with_blocks f blocks)) (step located globals (with_blocks f blocks)) (begin located (with_blocks f blocks2))
    (step located globals (with_blocks f blocks2))

stays_kept : (f : Code Location) (globals : List Value) (blocks : List (Block Location)) → KeepsBlocks f globals blocks blocks
stays_kept f globals blocks log i o args fine n runs = (n, runs)

kept_then : (f : Code Location) (globals : List Value) (xs ys zs : List (Block Location)) → KeepsBlocks f globals xs ys → KeepsBlocks f globals ys zs → KeepsBlocks f globals xs zs
kept_then f globals xs ys zs =
    codes_compose (classes_in f.params) (begin located (with_blocks f xs)) (step located globals (with_blocks f xs)) (begin located (with_blocks f ys)) (step located globals (with_blocks f ys))
    (begin located (with_blocks f zs)) (step located globals (with_blocks f zs))

swap_kept : (f : Code Location) (globals : List Value) (front rest : List (Block Location)) (b : Block Location) (at : ℕ) → Swapped at b.lines
    → KeepsBlocks f globals (front ++ b ∷ rest) (front ++ with_lines b (swapped at b.lines) ∷ rest)
swap_kept f globals front rest b at (Stays e) =
    subst (λ (lines : List (Line Location)). KeepsBlocks f globals (front ++ b ∷ rest) (front ++ with_lines b lines ∷ rest)) (sym e) (stays_kept f globals (front ++ b ∷ rest))
swap_kept f globals front rest b at (Moves l m apart is) =
    let lines = swapped at b.lines in
    let now = front ++ with_lines b lines ∷ rest in
    simulation_keeps (classes_in f.params) (begin located (with_blocks f (front ++ b ∷ rest))) (step located globals (with_blocks f (front ++ b ∷ rest))) (begin located (with_blocks f now))
    (step located globals (with_blocks f now)) (λ i. Beside globals i f front rest b at lines l m apart is) (λ i args. begins globals i f front rest b at lines l m apart is)
    (λ i. swap_matched globals i f front rest b at lines l m apart is)

block_kept : (f : Code Location) (globals : List Value) (front rest : List (Block Location)) (swaps : List ℕ) (b : Block Location)
    → KeepsBlocks f globals (front ++ b ∷ rest) (front ++ scheduled_block swaps b ∷ rest)
block_kept f globals front rest [] b = stays_kept f globals (front ++ b ∷ rest)
block_kept f globals front rest (at ∷ swaps) b =
    let once = with_lines b (swapped at b.lines) in
    kept_then f globals (front ++ b ∷ rest) (front ++ once ∷ rest) (front ++ scheduled_block swaps once ∷ rest) (swap_kept f globals front rest b at (swapped_is at b.lines))
    (block_kept f globals front rest swaps once)

one_more : (front : List (Block Location)) (b : Block Location) (rest : List (Block Location)) → (front ++ b ∷ []) ++ rest ≡ front ++ b ∷ rest
one_more [] b rest = refl
one_more (x ∷ front) b rest = ap (λ xs. x ∷ xs) (one_more front b rest)

blocks_kept : (f : Code Location) (globals : List Value) (plan : List (List ℕ)) (front : List (Block Location)) (number : ℕ) (blocks : List (Block Location))
    → KeepsBlocks f globals (front ++ blocks) (front ++ scheduled_blocks plan number blocks)
blocks_kept f globals plan front number [] = stays_kept f globals (front ++ [])
blocks_kept f globals plan front number (b ∷ blocks) =
    let now = scheduled_block (swaps_at plan number) b in
    kept_then f globals (front ++ b ∷ blocks) (front ++ now ∷ blocks) (front ++ now ∷ scheduled_blocks plan (number + 1) blocks) (block_kept f globals front blocks (swaps_at plan number) b)
    (subst (λ (x : List (Block Location)). KeepsBlocks f globals x (front ++ now ∷ scheduled_blocks plan (number + 1) blocks)) (one_more front now blocks)
    (subst (λ (y : List (Block Location)). KeepsBlocks f globals ((front ++ now ∷ []) ++ blocks) y) (one_more front now (scheduled_blocks plan (number + 1) blocks))
    (blocks_kept f globals plan (front ++ now ∷ []) (number + 1) blocks)))

-- the code by any plan keeps the function's
pub scheduled_keeps : (function : LFunc) (plan : List (List ℕ)) → Keeps (location_code function) (coded located (scheduled plan function.code))
scheduled_keeps function plan = record { params = refl; result = refl; runs = λ globals. blocks_kept function.code globals plan [] 0 function.code.blocks }
