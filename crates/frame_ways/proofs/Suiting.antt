-- The blocks of a plan that is right suit their marks.
use Rattle.il_ast.specs.declared.limits.TheConstants.{FUNCTION_WEIGHT}
use Rattle.std.proofs.Common.{◌≡◌, ℕ, zero, suc, ◌+◌, ◌-◌, ◌*◌, Bool, true, false, List, [], ◌∷◌, refl, sym, ap, ◌∙◌, subst, arith, not, ◌&&◌, ◌||◌, nat_eq, nat_lt, nat_le, length, slice_get, Some, None}
use Rattle.std.specs.List.{list_all, list_any, sum_by}
use Rattle.std.proofs.lemmas.Bool.{and_parts, and_from, not-true, eqb-true, lt-ltb}
use Rattle.std.proofs.lemmas.Option.{same_Some, slice_get_within}
use Rattle.std.proofs.lemmas.List.Sums.{sum_by-cons}
use Rattle.il_ast.proofs.Listed.{all_at, get_mapped}
use Rattle.vcode.specs.declared.place.Location.{Location}
use Rattle.vcode.specs.declared.place.Destination.{Destination}
use Rattle.vcode.specs.declared.line.Line.{Line}
use Rattle.vcode.specs.declared.line.Line.TheVariants.{Tick, Set, Operate, Load, Store, Alloc, Blit, Call}
use Rattle.vcode.specs.declared.line.Jump.{Jump}
use Rattle.vcode.specs.declared.line.Jump.TheVariants.{Goto, Branch, Return, Halt}
use Rattle.vcode.specs.declared.code.Block.{Block}
use Rattle.vcode.specs.declared.code.Code.{Code}
use Rattle.vcode.specs.declared.function.LFunc.{LFunc}
use Rattle.vcode.specs.Prelude.{is_place, line_keeps, jump_keeps, block_keeps, line_cost, jump_cost, affords, is_paid, area, alloc_bytes, allocs_first, is_alloc, is_target, leads_inside, turns_of, passes_few}
use Rattle.frame_ways.specs.declared.mark.Mark.{Mark}
use Rattle.frame_ways.specs.declared.mark.Mark.TheVariants.{Bare, Begin, Framed}
use Rattle.frame_ways.specs.declared.plan.Part.{Part}
use Rattle.frame_ways.specs.declared.plan.Plan.{Plan}
use Rattle.frame_ways.specs.Plans.{writes, callee_saved, touches_no_slot, is_bare_line, is_bare_block, is_bare, is_framed, is_outside, mark_of, mark_at, leads, suits, IsMarked, part_for, renamed, with_targets, copy_of, part_block, planned, marks_of, stands_for, is_copy_right}
use Rattle.frame_ways.proofs.Parts.{made_of, RightPlan, it_stands, Origin, is_copy, part_origin, all_parts, copies_pass}

-- ---- other targets

pub cost_same : (numbers : List ℕ) (j : Jump Location) → jump_cost (renamed numbers j) ≡ jump_cost j
cost_same numbers (Goto t) = refl
cost_same numbers (Branch on met otherwise) = refl
cost_same numbers (Return a) = refl
cost_same numbers Halt = refl

paid_same : (numbers : List ℕ) (j : Jump Location) (credit : ℕ) (lines : List (Line Location)) → affords credit (renamed numbers j) lines ≡ affords credit j lines
paid_same numbers j credit [] = ap (λ n. nat_le n credit) (cost_same numbers j)
paid_same numbers j credit (Tick turn w ∷ lines) = paid_same numbers j (credit + 32 * w) lines
paid_same numbers j credit (Set to a ∷ lines) = let c : ℕ = line_cost (Set to a) in ap (λ b. nat_le c credit && b) (paid_same numbers j (credit - c) lines)
paid_same numbers j credit (Operate to op a b ∷ lines) = let c : ℕ = line_cost (Operate to op a b) in ap (λ x. nat_le c credit && x) (paid_same numbers j (credit - c) lines)
paid_same numbers j credit (Load to op at ∷ lines) = let c : ℕ = line_cost (Load to op at) in ap (λ b. nat_le c credit && b) (paid_same numbers j (credit - c) lines)
paid_same numbers j credit (Store size a at ∷ lines) = let c : ℕ = line_cost (Store size a at) in ap (λ b. nat_le c credit && b) (paid_same numbers j (credit - c) lines)
paid_same numbers j credit (Alloc to size ∷ lines) =
    let l : Line Location = Alloc to size in let c : ℕ = line_cost l in ap (λ b. nat_le c credit && b) (paid_same numbers j (credit - c) lines)
paid_same numbers j credit (Blit from to count ∷ lines) = let c : ℕ = line_cost (Blit from to count) in ap (λ b. nat_le c credit && b) (paid_same numbers j (credit - c) lines)
paid_same numbers j credit (Call to callee args ∷ lines) = let c : ℕ = line_cost (Call to callee args) in ap (λ b. nat_le c credit && b) (paid_same numbers j (credit - c) lines)

keeps_same : (test : Location → Bool) (numbers : List ℕ) (j : Jump Location) → jump_keeps test (renamed numbers j) ≡ jump_keeps test j
keeps_same test numbers (Goto t) = refl
keeps_same test numbers (Branch on met otherwise) = refl
keeps_same test numbers (Return None) = refl
keeps_same test numbers (Return (Some a)) = refl
keeps_same test numbers Halt = refl

-- the parts that stand for the targets
leads_renamed : (test good : ℕ → Bool) (numbers : List ℕ) (j : Jump Location) → ((t : ℕ) → test t ≡ true → good (part_for numbers t) ≡ true) → leads test j ≡ true
    → leads good (renamed numbers j) ≡ true
leads_renamed test good numbers (Goto t) each h = each t h
leads_renamed test good numbers (Branch on met otherwise) each h =
    let both = and_parts (test met) (test otherwise) h in and_from (good (part_for numbers met)) (good (part_for numbers otherwise)) (each met both.0) (each otherwise both.1)
leads_renamed test good numbers (Return a) each h = refl
leads_renamed test good numbers Halt each h = refl

leads_within : (n : ℕ) (j : Jump Location) → leads (is_target n) j ≡ true → leads_inside n j ≡ true
leads_within n (Goto t) h = h
leads_within n (Branch on met otherwise) h = h
leads_within n (Return a) h = refl
leads_within n Halt h = refl

-- ---- no block of memory is made

bare_makes_none : (lines : List (Line Location)) → list_all is_bare_line lines ≡ true → list_any is_alloc lines ≡ false
bare_makes_none [] h = refl
bare_makes_none (l ∷ lines) h =
    let both = and_parts (is_bare_line l) (list_all is_bare_line lines) h in
    ap (λ b. b || list_any is_alloc lines) (no_alloc l (and_parts (touches_no_slot l) (not (list_any (λ r. writes r l) callee_saved)) both.0).0) ∙ bare_makes_none lines both.1
  where
    no_alloc : (l : Line Location) → touches_no_slot l ≡ true → is_alloc l ≡ false
    no_alloc (Tick turn w) h = refl
    no_alloc (Set to a) h = refl
    no_alloc (Operate to op a b) h = refl
    no_alloc (Load to op at) h = refl
    no_alloc (Store size a at) h = refl
    no_alloc (Alloc to size) h = absurd (let no : ⊥ = cc in no)
    no_alloc (Blit from to count) h = refl
    no_alloc (Call to callee args) h = refl

later_makes_none : (blocks : List (Block Location)) (i : ℕ) (b : Block Location) → allocs_first blocks ≡ true → slice_get blocks i ≡ Some b → nat_lt 0 i ≡ true
    → not (list_any is_alloc b.lines) ≡ true
later_makes_none [] i b h e some = absurd (let no : ⊥ = cc in no)
later_makes_none (d ∷ blocks) zero b h e some = absurd (let no : ⊥ = cc in no)
later_makes_none (d ∷ blocks) (suc i) b h e some = all_at (λ (x : Block Location). not (list_any is_alloc x.lines)) blocks i b h e

none_more : (l : Line Location) (lines : List (Line Location)) → alloc_bytes l ≡ 0 → sum_by alloc_bytes lines ≡ 0 → sum_by alloc_bytes (l ∷ lines) ≡ 0
none_more l lines here rest = let sum = sum_by-cons alloc_bytes l lines in omega (arith, sum, here, rest)

none_taken : (lines : List (Line Location)) → list_any is_alloc lines ≡ false → sum_by alloc_bytes lines ≡ 0
none_taken [] h = refl
none_taken (Tick turn w ∷ lines) h = none_more (Tick turn w) lines refl (none_taken lines h)
none_taken (Set to a ∷ lines) h = none_more (Set to a) lines refl (none_taken lines h)
none_taken (Operate to op a b ∷ lines) h = none_more (Operate to op a b) lines refl (none_taken lines h)
none_taken (Load to op at ∷ lines) h = none_more (Load to op at) lines refl (none_taken lines h)
none_taken (Store size a at ∷ lines) h = none_more (Store size a at) lines refl (none_taken lines h)
none_taken (Alloc to size ∷ lines) h = absurd (let no : ⊥ = cc in no)
none_taken (Blit from to count ∷ lines) h = none_more (Blit from to count) lines refl (none_taken lines h)
none_taken (Call to callee args ∷ lines) h = none_more (Call to callee args) lines refl (none_taken lines h)

pub no_area : (blocks : List (Block Location)) → list_all (λ (b : Block Location). not (list_any is_alloc b.lines)) blocks ≡ true → sum_by (λ (b : Block Location). sum_by alloc_bytes b.lines) blocks ≡ 0
no_area [] h = refl
no_area (b ∷ blocks) h =
    let both = and_parts (not (list_any is_alloc b.lines)) (list_all (λ (d : Block Location). not (list_any is_alloc d.lines)) blocks) h in
    let here = none_taken b.lines (not-true (list_any is_alloc b.lines) both.0) in
    let rest = no_area blocks both.1 in
    let sum = sum_by-cons (λ (d : Block Location). sum_by alloc_bytes d.lines) b blocks in
    omega (arith, here, rest, sum)

-- ---- a plan that is right

module _ (l : LFunc) (plan : Plan) (right : RightPlan l.code plan) where
  abbrev f : Code Location
  f = l.code

  abbrev g : Code Location
  g = planned l.code plan

  none_made : list_all (λ (b : Block Location). not (list_any is_alloc b.lines)) g.blocks ≡ true
  none_made = all_parts f plan (λ (b : Block Location). not (list_any is_alloc b.lines)) plan.parts right.parts (λ part o. by_mark part o part.mark o.holds)
    where
      by_mark : (part : Part) (o : Origin f plan part) (m : Mark) → is_copy_right plan part.block m o.item ≡ true
          → not (list_any is_alloc (copy_of plan part.block m o.item).lines) ≡ true
      by_mark part o Bare h =
          let bare = (and_parts (is_bare_block o.item) (leads (stands_for is_outside plan plan.front) o.item.jump) h).0 in
          ap not (bare_makes_none o.item.lines (and_parts (list_all is_bare_line o.item.lines) (jump_keeps (is_place 0) o.item.jump) bare).0)
      by_mark part o Begin h = refl
      by_mark part o Framed h =
          later_makes_none f.blocks part.block o.item l.regular.first o.is (and_parts (nat_lt 0 part.block) (leads (stands_for is_framed plan plan.behind) o.item.jump) h).0

  -- the first block has a bare part, so f makes none either
  pub same_area : area g ≡ area f
  same_area = no_area g.blocks none_made ∙ sym (by_blocks f.blocks l.regular.first (ap (slice_get f.blocks) (sym at) ∙ o.is))
    where
      part : Part
      part = right.first.item

      is : (nat_eq part.block 0 ≡ true) × (is_bare part.mark ≡ true)
      is = and_parts (nat_eq part.block 0) (is_bare part.mark) right.first.holds

      at : part.block ≡ 0
      at = eqb-true part.block 0 is.0

      o : Origin f plan part
      o = part_origin f plan right 0 part right.first.is

      bare_lines : (m : Mark) → is_bare m ≡ true → is_copy_right plan part.block m o.item ≡ true → list_any is_alloc o.item.lines ≡ false
      bare_lines Bare e h =
          let bare = (and_parts (is_bare_block o.item) (leads (stands_for is_outside plan plan.front) o.item.jump) h).0 in
          bare_makes_none o.item.lines (and_parts (list_all is_bare_line o.item.lines) (jump_keeps (is_place 0) o.item.jump) bare).0
      bare_lines Begin e h = absurd (let no : ⊥ = cc in no)
      bare_lines Framed e h = absurd (let no : ⊥ = cc in no)

      by_blocks : (blocks : List (Block Location)) → allocs_first blocks ≡ true → slice_get blocks 0 ≡ Some o.item → sum_by (λ (b : Block Location). sum_by alloc_bytes b.lines) blocks ≡ 0
      by_blocks [] h e = refl
      by_blocks (b ∷ blocks) h e =
          let here : not (list_any is_alloc b.lines) ≡ true =
          ap (λ (x : Block Location). not (list_any is_alloc x.lines)) (same_Some b o.item e) ∙ ap not (bare_lines part.mark is.1 o.holds) in
          no_area (b ∷ blocks) (and_from (not (list_any is_alloc b.lines)) (list_all (λ (d : Block Location). not (list_any is_alloc d.lines)) blocks) here h)

  -- the mark of the part that stands for a block
  mark_for : (may : Mark → Bool) (numbers : List ℕ) (t : ℕ) → stands_for may plan numbers t ≡ true → may (mark_at (marks_of plan) (part_for numbers t)) ≡ true
  mark_for may numbers t h =
      let at = it_stands may plan numbers t h in
      ap (λ o. may (mark_of o)) (get_mapped (λ (p : Part). p.mark) plan.parts (part_for numbers t) at.part at.there) ∙ at.mark

  target_inside : (may : Mark → Bool) (numbers : List ℕ) (t : ℕ) → stands_for may plan numbers t ≡ true → is_target (length g.blocks) (part_for numbers t) ≡ true
  target_inside may numbers t h =
      let at = it_stands may plan numbers t h in
      let within = slice_get_within g.blocks (part_for numbers t) (part_block f plan at.part) (get_mapped (part_block f plan) plan.parts (part_for numbers t) at.part at.there) in
      and_from (nat_lt 0 (part_for numbers t)) (nat_lt (part_for numbers t) (length g.blocks)) (lt-ltb 0 (part_for numbers t) at.some) (lt-ltb (part_for numbers t) (length g.blocks) within)

  inside : list_all (λ (b : Block Location). leads_inside (length g.blocks) b.jump) g.blocks ≡ true
  inside = all_parts f plan (λ (b : Block Location). leads_inside (length g.blocks) b.jump) plan.parts right.parts (λ part o. by_mark part o part.mark o.holds)
    where
      copy : (may : Mark → Bool) (numbers : List ℕ) (j : Jump Location) → leads (stands_for may plan numbers) j ≡ true → leads_inside (length g.blocks) (renamed numbers j) ≡ true
      copy may numbers j h =
          leads_within (length g.blocks) (renamed numbers j)
          (leads_renamed (stands_for may plan numbers) (is_target (length g.blocks)) numbers j (target_inside may numbers) h)

      by_mark : (part : Part) (o : Origin f plan part) (m : Mark) → is_copy_right plan part.block m o.item ≡ true
          → leads_inside (length g.blocks) (copy_of plan part.block m o.item).jump ≡ true
      by_mark part o Bare h = copy is_outside plan.front o.item.jump (and_parts (is_bare_block o.item) (leads (stands_for is_outside plan plan.front) o.item.jump) h).1
      by_mark part o Begin h = target_inside is_framed plan.behind part.block h
      by_mark part o Framed h = copy is_framed plan.behind o.item.jump (and_parts (nat_lt 0 part.block) (leads (stands_for is_framed plan plan.behind) o.item.jump) h).1

  abbrev good : (Mark → Bool) → ℕ → Bool
  good may t = may (mark_at (marks_of plan) t)

  suited : (k : ℕ) (b : Block Location) → slice_get g.blocks k ≡ Some b → suits (marks_of plan) (mark_at (marks_of plan) k) b ≡ true
  suited k b e =
      let at = made_of (part_block f plan) plan.parts k b e in
      let o = part_origin f plan right k at.item at.there in
      let mark : mark_at (marks_of plan) k ≡ at.item.mark = ap mark_of (get_mapped (λ (p : Part). p.mark) plan.parts k at.item at.there) in
      subst (λ m. suits (marks_of plan) m b ≡ true) (sym mark)
      (subst (λ x. suits (marks_of plan) at.item.mark x ≡ true) (sym (is_copy f plan at.item o) ∙ at.makes) (by_mark at.item o at.item.mark o.holds))
    where
      copy : (may : Mark → Bool) (numbers : List ℕ) (j : Jump Location) → leads (stands_for may plan numbers) j ≡ true → leads (good may) (renamed numbers j) ≡ true
      copy may numbers j h = leads_renamed (stands_for may plan numbers) (good may) numbers j (mark_for may numbers) h

      pays : (numbers : List ℕ) (part : Part) (o : Origin f plan part) → is_paid (with_targets numbers o.item) ≡ true
      pays numbers part o = paid_same numbers o.item.jump 0 o.item.lines ∙ all_at is_paid f.blocks part.block o.item l.regular.paid o.is

      by_mark : (part : Part) (o : Origin f plan part) (m : Mark) → is_copy_right plan part.block m o.item ≡ true
          → suits (marks_of plan) m (copy_of plan part.block m o.item) ≡ true
      by_mark part o Bare h =
          let both = and_parts (is_bare_block o.item) (leads (stands_for is_outside plan plan.front) o.item.jump) h in
          let c : Block Location = with_targets plan.front o.item in
          let bare : is_bare_block c ≡ true = ap (λ x. list_all is_bare_line o.item.lines && x) (keeps_same (is_place 0) plan.front o.item.jump) ∙ both.0 in
          and_from (is_paid c) (is_bare_block c && leads (good is_outside) c.jump) (pays plan.front part o)
          (and_from (is_bare_block c) (leads (good is_outside) c.jump) bare (copy is_outside plan.front o.item.jump both.1))
      by_mark part o Begin h = mark_for is_framed plan.behind part.block h
      by_mark part o Framed h =
          let c : Block Location = with_targets plan.behind o.item in
          and_from (is_paid c) (leads (good is_framed) c.jump) (pays plan.behind part o)
          (copy is_framed plan.behind o.item.jump (and_parts (nat_lt 0 part.block) (leads (stands_for is_framed plan plan.behind) o.item.jump) h).1)

  first : is_bare (mark_at (marks_of plan) 0) ≡ true
  first =
      let part = right.first.item in
      ap (λ o. is_bare (mark_of o)) (get_mapped (λ (p : Part). p.mark) plan.parts 0 part right.first.is) ∙ (and_parts (nat_eq part.block 0) (is_bare part.mark) right.first.holds).1

  pub is_marked : IsMarked g l.slots (marks_of plan)
  is_marked = record {
    few_params = l.regular.few_params;
    near = l.near;
    apart = l.apart;
    bare = right.params;
    known = copies_pass f plan right (block_keeps (is_place l.slots)) (λ k. refl)
        (λ numbers b h. ap (λ x. list_all (line_keeps (is_place l.slots)) b.lines && x) (keeps_same (is_place l.slots) numbers b.jump) ∙ h)
        (and_parts (list_all (λ (d : Destination Location). is_place l.slots d.place) f.params) (list_all (block_keeps (is_place l.slots)) f.blocks) l.known).1;
    inside = inside;
    paced = copies_pass f plan right (λ (b : Block Location). nat_le (sum_by turns_of b.lines) FUNCTION_WEIGHT) (λ k. refl) (λ numbers b h. h) l.regular.paced;
    few_args = copies_pass f plan right (λ (b : Block Location). list_all passes_few b.lines) (λ k. refl) (λ numbers b h. h) l.regular.few_args;
    none_made = none_made;
    first = first;
    suited = suited;
  }
