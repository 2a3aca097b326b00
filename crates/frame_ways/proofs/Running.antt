-- The code of a plan that is right runs as the function's does.
use Rattle.std.proofs.Common.{◌≡◌, ℕ, ◌+◌, Bool, true, false, List, refl, sym, ap, ◌∙◌, subst, nat_eq, nat_lt, if◌then◌else◌, slice_get, Option, Some, None}
use Rattle.std.proofs.lemmas.Bool.{and_parts, eqb-true}
use Rattle.il_ast.proofs.Listed.{get_mapped}
use Rattle.il_ast.specs.declared.operation.Class.{Class}
use Rattle.il_ast.specs.declared.value.End.TheVariants.{Turns}
use Rattle.il_ast.specs.Prelude.{On, Over, Does, Entry, Logged, one_turn, both}
use Rattle.il_ast.proofs.Simulation.{Matches, MatchesEvent, Simulates, TogetherNext, Together}
use Rattle.il_ast.proofs.Simulated.{simulated, event_together}
use Rattle.vcode.specs.declared.place.Location.{Location}
use Rattle.vcode.specs.declared.place.Destination.{Destination}
use Rattle.vcode.specs.declared.place.Argument.{Argument}
use Rattle.vcode.specs.declared.place.ReturnValue.{ReturnValue}
use Rattle.vcode.specs.declared.line.Line.{Line}
use Rattle.vcode.specs.declared.line.Line.TheVariants.{Tick, Set, Operate, Load, Store, Alloc, Blit, Call}
use Rattle.vcode.specs.declared.line.Jump.{Jump}
use Rattle.vcode.specs.declared.line.Jump.TheVariants.{Goto, Branch, Return, Halt}
use Rattle.vcode.specs.declared.code.Block.{Block}
use Rattle.vcode.specs.declared.code.Code.{Code}
use Rattle.vcode.specs.Prelude.{area}
use Rattle.flat_code.specs.Flat.{Spots, FlatGiven, FlatAsked, FlatOutcome, FlatReturned, FlatEnded}
use Rattle.flat_code.specs.Step.{FlatState, FlatEvent, kept, number_of, read_all, read_result, closed, sets, changes, calls, receives, resumes, enters, compared, branches, leaves, returns, returns_as, flat_begin, flat_line, flat_jump, block_step, step_in, flat_step}
use Rattle.frame_ways.specs.declared.mark.Mark.{Mark}
use Rattle.frame_ways.specs.declared.mark.Mark.TheVariants.{Bare, Begin, Framed}
use Rattle.frame_ways.specs.declared.plan.Part.{Part}
use Rattle.frame_ways.specs.declared.plan.Plan.{Plan}
use Rattle.frame_ways.specs.Plans.{is_bare_block, is_bare, is_framed, is_outside, leads, part_for, renamed, with_targets, copy_of, part_block, planned, stands_for, is_copy_right}
use Rattle.frame_ways.specs.Keeping.{FlatFine}
use Rattle.frame_ways.proofs.Parts.{RightPlan, it_stands, Origin, is_copy, part_origin}

-- it isn't where the frame begins
abbrev runs : Mark → Bool
runs Bare = true
runs Begin = false
runs Framed = true

module _ (f : Code Location) (plan : Plan) (right : RightPlan f plan) (same_area : area (planned f plan) ≡ area f) (addresses : List ℕ) (base : ℕ) (j : FlatGiven) where
  abbrev g : Code Location
  g = planned f plan

  abbrev go : FlatState → FlatEvent
  go = flat_step f addresses base j

  abbrev go_now : FlatState → FlatEvent
  go_now = flat_step g addresses base j

  -- ---- states beside one another

  -- the part is a copy of the block
  record Copies (q i : ℕ) : Type 0 where
    pub part : Part
    pub there : slice_get plan.parts q ≡ Some part
    pub block : part.block ≡ i
    pub copy : runs part.mark ≡ true

  -- the same but for the block, whose copy it is
  abbrev Beside : FlatState → FlatState → Type 0
  Beside s t = (q : ℕ) × (t ≡ record s { block = q }) × Copies q s.block

  -- ---- lines

  module _ (s : FlatState) (q : ℕ) (copies : Copies q s.block) where
    abbrev t : FlatState
    t = record s { block = q }

    onward : (u : FlatState) → u.block ≡ s.block → Beside u (record u { block = q })
    onward u e = (q, refl, subst (λ i. Copies q i) (sym e) copies)

    sets_together : (to : Location) (o : Option ℕ) → Together Beside FlatFine (sets s to o) (sets t to o)
    sets_together to None = λ fine. refl
    sets_together to (Some x) = (_, refl, onward _ refl)

    changes_together : (o : Option Spots) → Together Beside FlatFine (changes s o) (changes t o)
    changes_together None = λ fine. refl
    changes_together (Some m) = (_, refl, onward _ refl)

    received : (u : FlatState) → u.block ≡ s.block → (to : Option (Destination Location)) (x : Option ℕ)
        → TogetherNext Beside FlatFine (receives u to x) (receives (record u { block = q }) to x)
    received u e None x = (_, refl, onward _ e)
    received u e (Some d) None = λ fine. refl
    received u e (Some d) (Some x) = (_, refl, onward _ e)

    resumed : (to : Option (Destination Location)) (o : FlatOutcome) → TogetherNext Beside FlatFine (resumes s to o) (resumes t to o)
    resumed to (FlatReturned w x m) = received (record s { numbers = kept s.numbers; memory = m; spent = both s.spent w }) refl to x
    resumed to (FlatEnded w e) = λ fine. refl

    calls_together : (to : Option (Destination Location)) (args : List (Argument Location)) (at : Option ℕ) (xs : Option (List ℕ))
        → Together Beside FlatFine (calls j s to args at xs) (calls j t to args at xs)
    calls_together to args (Some at) (Some xs) = (resumes t to, refl, λ o. resumed to o)
    calls_together to args (Some at) None = λ fine. refl
    calls_together to args None xs = λ fine. refl

    abbrev after_turn : FlatState → ℕ → Bool → FlatEvent
    after_turn u w more = if more then Does (On (record u { next = u.next + 1; spent = both u.spent (one_turn w) })) else Does (Over (FlatEnded u.spent Turns))

    turn_together : (w : ℕ) (more : Bool) → Together Beside FlatFine (after_turn s w more) (after_turn t w more)
    turn_together w true = (_, refl, onward _ refl)
    turn_together w false = λ fine. refl

    line_together : (l : Line Location) → Together Beside FlatFine (flat_line addresses base j s l) (flat_line addresses base j t l)
    unfolding flat_line
    line_together (Tick false w) = (_, refl, onward _ refl)
    line_together (Tick true w) = turn_together w (nat_lt s.spent.turns j.turns)
    line_together (Set to a) = (_, refl, onward _ refl)
    line_together (Operate to op a b) = (_, refl, onward _ refl)
    line_together (Load to op at) = sets_together to _
    line_together (Store size a at) = changes_together _
    line_together (Alloc to size) = (_, refl, onward _ refl)
    line_together (Blit from to count) = changes_together _
    line_together (Call to callee args) = calls_together to args (number_of addresses s.numbers callee) (read_all addresses s.numbers args)

  -- ---- steps

  stepped : (h : Code Location) (s : FlatState) (b : Block Location) (o : Option (Line Location)) → slice_get h.blocks s.block ≡ Some b → slice_get b.lines s.next ≡ o
      → flat_step h addresses base j s ≡ block_step h addresses base j s b o
  unfolding flat_step
  stepped h s b o at line = ap (step_in h addresses base j s) at ∙ ap (block_step h addresses base j s b) line

  -- the block of a part
  part_there : (q : ℕ) (part : Part) (o : Origin f plan part) → slice_get plan.parts q ≡ Some part → slice_get g.blocks q ≡ Some (copy_of plan part.block part.mark o.item)
  part_there q part o there = get_mapped (part_block f plan) plan.parts q part there ∙ ap Some (is_copy f plan part o)

  -- ---- jumps

  abbrev entered : FlatState → ℕ → FlatState
  entered s k = record s { block = k; next = 0 }

  -- where the frame begins for a block its framed part is next
  begins : (s : FlatState) (q : ℕ) (part : Part) → slice_get plan.parts q ≡ Some part → part.mark ≡ Begin
      → (go_now (entered s q) ≡ enters (entered s q) (part_for plan.behind part.block)) × Copies (part_for plan.behind part.block) part.block
  unfolding flat_jump
  begins s q part there mark =
      let o = part_origin f plan right q part there in
      let at = it_stands is_framed plan plan.behind part.block (subst (λ m. is_copy_right plan part.block m o.item ≡ true) mark o.holds) in
      let here : slice_get g.blocks q ≡ Some (copy_of plan part.block Begin o.item) = part_there q part o there ∙ ap (λ m. Some (copy_of plan part.block m o.item)) mark in (
        stepped g (entered s q) (copy_of plan part.block Begin o.item) None here refl,
        record { part = at.part; there = at.there; block = at.block; copy = framed_runs at.part.mark at.mark },
      )
    where
      framed_runs : (m : Mark) → is_framed m ≡ true → runs m ≡ true
      framed_runs Bare h = refl
      framed_runs Begin h = absurd (let no : ⊥ = cc in no)
      framed_runs Framed h = refl

  -- to the part that stands for a block, and from a begin to the framed part
  enters_part : (s : FlatState) (q k n : ℕ) (part : Part) → slice_get plan.parts n ≡ Some part → part.block ≡ k → go_now (record s { block = q }) ≡ enters s n
      → Matches Beside FlatFine go_now (On (entered s k)) (On (record s { block = q }))
  enters_part s q k n part there block e = by_mark part.mark refl
    where
      t : FlatState
      t = record s { block = q }

      by_mark : (m : Mark) → part.mark ≡ m → Matches Beside FlatFine go_now (On (entered s k)) (On (record s { block = q }))
      by_mark Begin mark =
          let b = begins s n part there mark in
          let last : ℕ = part_for plan.behind part.block in
          (2, (entered s last, (record s { block = q }, refl, (On (entered s n), e, (entered s n, refl, (On (entered s last), b.0, refl)))), (last, refl, subst (λ i. Copies last i) block b.1)))
      by_mark Bare mark =
          (1, (entered s n, (record s { block = q }, refl, (On (entered s n), e, refl)), (n, refl, record { part = part; there = there; block = block; copy = ap runs mark })))
      by_mark Framed mark =
          (1, (entered s n, (record s { block = q }, refl, (On (entered s n), e, refl)), (n, refl, record { part = part; there = there; block = block; copy = ap runs mark })))

  -- it is over, and so is the other
  over : (t : FlatState) (o p : FlatOutcome) → go_now t ≡ Does (Over p) → (FlatFine o → p ≡ o) → MatchesEvent Beside FlatFine go_now (Does (Over o)) t
  over t o p e same = λ fine. (1, (t, refl, (Over o, e ∙ ap (λ r. Does (Over r)) (same fine), refl)))

  leave_matched : (s : FlatState) (q : ℕ) (x : Option ℕ) → go_now (record s { block = q }) ≡ leaves g base (record s { block = q }) x
      → MatchesEvent Beside FlatFine go_now (leaves f base s x) (record s { block = q })
  leave_matched s q x e = over (record s { block = q }) _ _ e (λ fine. ap (λ n. FlatReturned s.spent x (closed s.memory base n)) same_area)

  module _ (s : FlatState) (q : ℕ) (may : Mark → Bool) (numbers : List ℕ) where
    abbrev now : FlatState
    now = record s { block = q }

    to_part : (k : ℕ) → stands_for may plan numbers k ≡ true → go_now now ≡ enters s (part_for numbers k) → MatchesEvent Beside FlatFine go_now (enters s k) now
    to_part k h e = let at = it_stands may plan numbers k h in enters_part s q k (part_for numbers k) at.part at.there at.block e

    branch_matched : (met otherwise : ℕ) → stands_for may plan numbers met ≡ true → stands_for may plan numbers otherwise ≡ true → (o : Option ℕ)
        → go_now now ≡ branches now (part_for numbers met) (part_for numbers otherwise) o → MatchesEvent Beside FlatFine go_now (branches s met otherwise o) now
    branch_matched met otherwise h k None e = λ fine. absurd fine
    branch_matched met otherwise h k (Some n) e = by_test (nat_eq n 0) e
      where
        by_test : (b : Bool) → go_now now ≡ enters now (if b then part_for numbers otherwise else part_for numbers met)
            → MatchesEvent Beside FlatFine go_now (enters s (if b then otherwise else met)) now
        by_test true e = to_part otherwise k e
        by_test false e = to_part met h e

    value_matched : (o : Option ℕ) → go_now now ≡ returns g base now o → MatchesEvent Beside FlatFine go_now (returns f base s o) now
    value_matched None e = λ fine. absurd fine
    value_matched (Some x) e = leave_matched s q (Some x) e

    return_matched : (o : Option Class) (a : ReturnValue Location) → go_now now ≡ returns_as g addresses base now o a
        → MatchesEvent Beside FlatFine go_now (returns_as f addresses base s o a) now
    return_matched None a e = λ fine. absurd fine
    return_matched (Some k) a e = value_matched (read_result addresses s.numbers k a) e

    jump_matched : (x : Jump Location) → leads (stands_for may plan numbers) x ≡ true → go_now now ≡ flat_jump g addresses base now (renamed numbers x)
        → MatchesEvent Beside FlatFine go_now (flat_jump f addresses base s x) now
    unfolding flat_jump
    jump_matched (Goto k) h e = to_part k h e
    jump_matched (Branch on met otherwise) h e =
        let both = and_parts (stands_for may plan numbers met) (stands_for may plan numbers otherwise) h in
        branch_matched met otherwise both.0 both.1 (compared addresses s on) e
    jump_matched (Return None) h e = leave_matched s q None e
    jump_matched (Return (Some a)) h e = return_matched f.result a e
    jump_matched Halt h e = over now _ _ e (λ fine. refl)

    -- ---- a copy of a block

    copy_matched : (b : Block Location) → slice_get f.blocks s.block ≡ Some b → slice_get g.blocks q ≡ Some (with_targets numbers b) → leads (stands_for may plan numbers) b.jump ≡ true
        → Copies q s.block → MatchesEvent Beside FlatFine go_now (go s) now
    copy_matched b at at_now h copies = by_line (slice_get b.lines s.next) refl
      where
        by_line : (o : Option (Line Location)) → slice_get b.lines s.next ≡ o → MatchesEvent Beside FlatFine go_now (go s) now
        by_line (Some l) line =
            event_together Beside FlatFine go_now (go s) now
            (subst (λ (x : FlatEvent). Together Beside FlatFine x (go_now now)) (sym (stepped f s b (Some l) at line))
            (subst (λ (y : FlatEvent). Together Beside FlatFine (flat_line addresses base j s l) y) (sym (stepped g now (with_targets numbers b) (Some l) at_now line))
            (line_together s q copies l)))
        by_line None line =
            subst (λ (x : FlatEvent). MatchesEvent Beside FlatFine go_now x now) (sym (stepped f s b None at line))
            (jump_matched b.jump h (stepped g now (with_targets numbers b) None at_now line))

  by_part : (s : FlatState) (q : ℕ) → Copies q s.block → MatchesEvent Beside FlatFine go_now (go s) (record s { block = q })
  by_part s q copies =
      let o = part_origin f plan right q copies.part copies.there in
      by_mark o (ap (slice_get f.blocks) (sym copies.block) ∙ o.is) copies.part.mark (part_there q copies.part o copies.there) o.holds copies.copy
    where
      by_mark : (o : Origin f plan copies.part) → slice_get f.blocks s.block ≡ Some o.item → (m : Mark) → slice_get g.blocks q ≡ Some (copy_of plan copies.part.block m o.item)
          → is_copy_right plan copies.part.block m o.item ≡ true → runs m ≡ true → MatchesEvent Beside FlatFine go_now (go s) (record s { block = q })
      by_mark o at Bare at_now h run =
          copy_matched s q is_outside plan.front o.item at at_now (and_parts (is_bare_block o.item) (leads (stands_for is_outside plan plan.front) o.item.jump) h).1 copies
      by_mark o at Begin at_now h run = absurd (let no : ⊥ = cc in no)
      by_mark o at Framed at_now h run =
          copy_matched s q is_framed plan.behind o.item at at_now (and_parts (nat_lt 0 copies.part.block) (leads (stands_for is_framed plan plan.behind) o.item.jump) h).1 copies

  matched : Simulates Beside FlatFine go go_now
  matched s u beside = subst (λ (v : FlatState). MatchesEvent Beside FlatFine go_now (go s) v) (sym beside.1) (by_part s beside.0 beside.2)

  pub runs_as : (log : List (Entry FlatAsked FlatOutcome)) (o : FlatOutcome) → FlatFine o → (n : ℕ)
      → Logged go n (flat_begin f base j) log o → (m : ℕ) × Logged go_now m (flat_begin g base j) log o
  runs_as log o fine n logged = simulated Beside FlatFine go go_now matched n (flat_begin f base j) (flat_begin g base j) log o fine (0, refl, first) logged
    where
      first : Copies 0 0
      first =
          let part = right.first.item in
          let is = and_parts (nat_eq part.block 0) (is_bare part.mark) right.first.holds in
          record { part = part; there = right.first.is; block = eqb-true part.block 0 is.0; copy = bare_runs part.mark is.1 }
        where
          bare_runs : (m : Mark) → is_bare m ≡ true → runs m ≡ true
          bare_runs Bare h = refl
          bare_runs Begin h = absurd (let no : ⊥ = cc in no)
          bare_runs Framed h = refl
