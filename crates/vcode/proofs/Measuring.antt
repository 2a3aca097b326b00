-- What lines and blocks take, and that code takes no more where lines are put in other words, left out, or set in.
use Rattle.std.proofs.Common.{◌≡◌, ℕ, suc, ◌+◌, ◌-◌, ◌*◌, ◌≤◌, Bool, true, false, not, ◌&&◌, ◌||◌, nat_le, List, [], ◌∷◌, map, length, refl, sym, ◌∙◌, ap, arith}
use Rattle.std.specs.List.{list_all, list_any, sum_by}
use Rattle.std.proofs.lemmas.Bool.{and_parts, and_from}
use Rattle.std.proofs.lemmas.Bool.Decides.{nat_tests}
use Rattle.std.proofs.lemmas.List.Sums.{sum_by-cons}
use Rattle.il_ast.specs.declared.limits.TheConstants.{FUNCTION_WEIGHT}
use Rattle.vcode.specs.Prelude.{Line, Tick, Set, Operate, Load, Store, Alloc, Blit, Call, Jump, Block, line_cost, jump_cost, affords, is_paid, is_alloc, allocs_first, alloc_bytes, turns_of, passes_few, weight_of}

-- ---- what a line takes

pub record Measure : Type 0 where
  pub weight : ℕ
  pub turns : ℕ
  pub bytes : ℕ
  pub few : Bool
  pub makes : Bool

abbrev pub measure : Line ℕ → Measure
measure l = record { weight = weight_of l; turns = turns_of l; bytes = alloc_bytes l; few = passes_few l; makes = is_alloc l }

abbrev pub nothing_taken : Measure
nothing_taken = record { weight = 0; turns = 0; bytes = 0; few = true; makes = false }

-- lines put in other words, some left out, and, where it is tested whether ticks still pay, some set in
pub data Measured (tested : Bool) : List (Line ℕ) → List (Line ℕ) → Type 0 where
  Empty : Measured tested [] []
  Put : {l m : Line ℕ} {ls ms : List (Line ℕ)} → measure m ≡ measure l → (tested ≡ false → line_cost m ≤ line_cost l) → Measured tested ls ms → Measured tested (l ∷ ls) (m ∷ ms)
  LeftOut : {l : Line ℕ} {ls ms : List (Line ℕ)} → measure l ≡ nothing_taken → Measured tested ls ms → Measured tested (l ∷ ls) ms
  SetIn : {m : Line ℕ} {ls ms : List (Line ℕ)} → tested ≡ true → measure m ≡ nothing_taken → Measured tested ls ms → Measured tested ls (m ∷ ms)

pub measured_itself : (lines : List (Line ℕ)) → Measured false lines lines
measured_itself [] = Empty
measured_itself (l ∷ lines) = Put refl (λ e. omega arith) (measured_itself lines)

-- ---- sums over the lines

module _ (tested : Bool) (g : Measure → ℕ) (none : g nothing_taken ≡ 0) where
  abbrev sum_of : List (Line ℕ) → ℕ
  sum_of lines = sum_by (λ (l : Line ℕ). g (measure l)) lines

  pub sums_same : {ls ms : List (Line ℕ)} → Measured tested ls ms → sum_of ms ≡ sum_of ls
  sums_same Empty = refl
  sums_same (Put {l = l} {m = m} {ls = ls} {ms = ms} same cost rest) =
      let first = sum_by-cons (λ (x : Line ℕ). g (measure x)) m ms in
      let second = sum_by-cons (λ (x : Line ℕ). g (measure x)) l ls in
      let one : g (measure m) ≡ g (measure l) = ap g same in
      first ∙ ap (λ n. n + sum_of ms) one ∙ ap (λ n. g (measure l) + n) (sums_same rest) ∙ sym second
  sums_same (LeftOut {l = l} {ls = ls} {ms = ms} plain rest) =
      let one : g (measure l) ≡ 0 = ap g plain ∙ none in
      sums_same rest ∙ (let e : sum_of ls ≡ 0 + sum_of ls = omega arith in e) ∙ ap (λ n. n + sum_of ls) (sym one) ∙ sym (sum_by-cons (λ (x : Line ℕ). g (measure x)) l ls)
  sums_same (SetIn {m = m} {ls = ls} {ms = ms} test plain rest) =
      let one : g (measure m) ≡ 0 = ap g plain ∙ none in
      sum_by-cons (λ (x : Line ℕ). g (measure x)) m ms ∙ ap (λ n. n + sum_of ms) one ∙ (let e : 0 + sum_of ms ≡ sum_of ms = omega arith in e) ∙ sums_same rest

-- ---- blocks of memory, and arguments

pub makes_same : {tested : Bool} {ls ms : List (Line ℕ)} → Measured tested ls ms → list_any is_alloc ms ≡ list_any is_alloc ls
makes_same Empty = refl
makes_same (Put {l = l} {ms = ms} same cost rest) =
    ap (λ b. b || list_any is_alloc ms) (ap (λ (x : Measure). x.makes) same) ∙ ap (λ b. is_alloc l || b) (makes_same rest)
makes_same (LeftOut {ls = ls} plain rest) = makes_same rest ∙ ap (λ b. b || list_any is_alloc ls) (sym (ap (λ (x : Measure). x.makes) plain))
makes_same (SetIn {ms = ms} test plain rest) = ap (λ b. b || list_any is_alloc ms) (ap (λ (x : Measure). x.makes) plain) ∙ makes_same rest

pub few_same : {tested : Bool} {ls ms : List (Line ℕ)} → Measured tested ls ms → list_all passes_few ms ≡ list_all passes_few ls
few_same Empty = refl
few_same (Put {l = l} {ms = ms} same cost rest) =
    ap (λ b. b && list_all passes_few ms) (ap (λ (x : Measure). x.few) same) ∙ ap (λ b. passes_few l && b) (few_same rest)
few_same (LeftOut {ls = ls} plain rest) = few_same rest ∙ ap (λ b. b && list_all passes_few ls) (sym (ap (λ (x : Measure). x.few) plain))
few_same (SetIn {ms = ms} test plain rest) = ap (λ b. b && list_all passes_few ms) (ap (λ (x : Measure). x.few) plain) ∙ few_same rest

-- ---- what pays

at_least_none : (n : ℕ) → nat_le 0 n ≡ true
at_least_none n = grind (arith, nat_tests)

pays_as : (credit left : ℕ) (j : Jump ℕ) (lines : List (Line ℕ)) (c : Bool) → left ≡ credit → (c && affords credit j lines) ≡ (c && affords left j lines)
pays_as credit left j lines c same = ap (λ n. c && affords n j lines) (sym same)

-- one formula for all lines: what they cost is paid, then ticks pay for what comes
pub affords_line : (credit : ℕ) (j : Jump ℕ) (l : Line ℕ) (lines : List (Line ℕ))
    → affords credit j (l ∷ lines) ≡ (nat_le (line_cost l) credit && affords (credit - line_cost l + 32 * weight_of l) j lines)
affords_line credit j (Tick turn w) lines =
    ap (λ b. b && affords (credit + 32 * w) j lines) (sym (at_least_none credit)) ∙ pays_as (credit + 32 * w) (credit - 0 + 32 * w) j lines (nat_le 0 credit) (omega arith)
affords_line credit j (Set to a) lines = let c : ℕ = line_cost (Set to a) in pays_as (credit - c) (credit - c + 32 * 0) j lines (nat_le c credit) (omega arith)
affords_line credit j (Operate to op a b) lines = let c : ℕ = line_cost (Operate to op a b) in pays_as (credit - c) (credit - c + 32 * 0) j lines (nat_le c credit) (omega arith)
affords_line credit j (Load to op at) lines = let c : ℕ = line_cost (Load to op at) in pays_as (credit - c) (credit - c + 32 * 0) j lines (nat_le c credit) (omega arith)
affords_line credit j (Store size a at) lines = let c : ℕ = line_cost (Store size a at) in pays_as (credit - c) (credit - c + 32 * 0) j lines (nat_le c credit) (omega arith)
affords_line credit j (Alloc to size) lines =
    let c : ℕ = (let l : Line ℕ = Alloc to size in line_cost l) in pays_as (credit - c) (credit - c + 32 * 0) j lines (nat_le c credit) (omega arith)
affords_line credit j (Blit from to count) lines = let c : ℕ = line_cost (Blit from to count) in pays_as (credit - c) (credit - c + 32 * 0) j lines (nat_le c credit) (omega arith)
affords_line credit j (Call to callee args) lines = let c : ℕ = line_cost (Call to callee args) in pays_as (credit - c) (credit - c + 32 * 0) j lines (nat_le c credit) (omega arith)

still_most : (cost less credit more : ℕ) → less ≤ cost → credit ≤ more → nat_le cost credit ≡ true → nat_le less more ≡ true
still_most cost less credit more h k e = grind (arith, nat_tests)

-- ticks pay for lines that cost no more, and for a jump that doesn't either
pub still_affords : {ls ms : List (Line ℕ)} → Measured false ls ms → (j k : Jump ℕ) → jump_cost k ≤ jump_cost j → (credit more : ℕ) → credit ≤ more → affords credit j ls ≡ true → affords more k ms ≡ true
still_affords Empty j k less credit more le h = still_most (jump_cost j) (jump_cost k) credit more less le h
still_affords (Put {l = l} {m = m} {ls = ls} {ms = ms} same cost rest) j k less credit more le h =
    let s = and_parts (nat_le (line_cost l) credit) (affords (credit - line_cost l + 32 * weight_of l) j ls) (sym (affords_line credit j l ls) ∙ h) in
    let weight : weight_of m ≡ weight_of l = ap (λ (x : Measure). x.weight) same in
    let cheaper = cost refl in
    affords_line more k m ms
    ∙ and_from (nat_le (line_cost m) more) (affords (more - line_cost m + 32 * weight_of m) k ms) (still_most (line_cost l) (line_cost m) credit more cheaper le s.0)
    (still_affords rest j k less (credit - line_cost l + 32 * weight_of l) (more - line_cost m + 32 * weight_of m) (omega arith) s.1)
still_affords (LeftOut {l = l} {ls = ls} {ms = ms} plain rest) j k less credit more le h =
    let s = and_parts (nat_le (line_cost l) credit) (affords (credit - line_cost l + 32 * weight_of l) j ls) (sym (affords_line credit j l ls) ∙ h) in
    let weight : weight_of l ≡ 0 = ap (λ (x : Measure). x.weight) plain in
    still_affords rest j k less (credit - line_cost l + 32 * weight_of l) more (omega arith) s.1
still_affords (SetIn test plain rest) j k less credit more le h = absurd (let no : ⊥ = cc in no)

-- ---- a block in the place of another

pub record Within (b d : Block ℕ) : Type 0 where
  pub weight : sum_by weight_of d.lines ≤ sum_by weight_of b.lines
  pub turns : sum_by turns_of d.lines ≤ sum_by turns_of b.lines
  pub bytes : sum_by alloc_bytes d.lines ≤ sum_by alloc_bytes b.lines
  pub few : list_all passes_few d.lines ≡ list_all passes_few b.lines
  pub makes : list_any is_alloc d.lines ≡ list_any is_alloc b.lines
  pub paid : is_paid b ≡ true → is_paid d ≡ true

pub no_more : (a b : ℕ) → a ≡ b → a ≤ b
no_more a b h = omega arith

-- where it is tested whether ticks pay
pub within_tested : {tested : Bool} (b d : Block ℕ) → Measured tested b.lines d.lines → (is_paid b ≡ true → is_paid d ≡ true) → Within b d
within_tested {tested} b d lines paid =
    record {
      weight = no_more (sum_by weight_of d.lines) (sum_by weight_of b.lines) (sums_same tested (λ (x : Measure). x.weight) refl lines);
      turns = no_more (sum_by turns_of d.lines) (sum_by turns_of b.lines) (sums_same tested (λ (x : Measure). x.turns) refl lines);
      bytes = no_more (sum_by alloc_bytes d.lines) (sum_by alloc_bytes b.lines) (sums_same tested (λ (x : Measure). x.bytes) refl lines);
      few = few_same lines;
      makes = makes_same lines;
      paid = paid;
    }

pub within : (b d : Block ℕ) → Measured false b.lines d.lines → jump_cost d.jump ≤ jump_cost b.jump → Within b d
within b d lines jump = within_tested b d lines (still_affords lines b.jump d.jump jump 0 0 (omega arith))

pub still_within : (less n most : ℕ) → less ≤ n → nat_le n most ≡ true → nat_le less most ≡ true
still_within less n most le h = still_most n less most most le (omega arith) h

-- ---- blocks that take no more than others

pub record Fit (bs ds : List (Block ℕ)) : Type 0 where
  pub weight : sum_by (λ (b : Block ℕ). sum_by weight_of b.lines) ds ≤ sum_by (λ (b : Block ℕ). sum_by weight_of b.lines) bs
  pub area : sum_by (λ (b : Block ℕ). sum_by alloc_bytes b.lines) ds ≤ sum_by (λ (b : Block ℕ). sum_by alloc_bytes b.lines) bs
  pub makes : allocs_first bs ≡ true → allocs_first ds ≡ true
  pub paid : list_all is_paid bs ≡ true → list_all is_paid ds ≡ true
  pub paced : list_all (λ (b : Block ℕ). nat_le (sum_by turns_of b.lines) FUNCTION_WEIGHT) bs ≡ true → list_all (λ (b : Block ℕ). nat_le (sum_by turns_of b.lines) FUNCTION_WEIGHT) ds ≡ true
  pub few : list_all (λ (b : Block ℕ). list_all passes_few b.lines) bs ≡ true → list_all (λ (b : Block ℕ). list_all passes_few b.lines) ds ≡ true

-- blocks in one order, one for each
pub data Each (R : Block ℕ → Block ℕ → Type 0) : List (Block ℕ) → List (Block ℕ) → Type 0 where
  NoBlocks : Each R [] []
  OneMore : {b d : Block ℕ} {bs ds : List (Block ℕ)} → R b d → Each R bs ds → Each R (b ∷ bs) (d ∷ ds)

pub each_mapped : (R : Block ℕ → Block ℕ → Type 0) (f : Block ℕ → Block ℕ) → ((b : Block ℕ) → R b (f b)) → (bs : List (Block ℕ)) → Each R bs (map f bs)
each_mapped R f each [] = NoBlocks
each_mapped R f each (b ∷ bs) = OneMore (each b) (each_mapped R f each bs)

module _ (R : Block ℕ → Block ℕ → Type 0) where
  pub each_count : {bs ds : List (Block ℕ)} → Each R bs ds → length ds ≡ length bs
  each_count NoBlocks = refl
  each_count (OneMore one rest) = ap suc (each_count rest)

  pub each_all : (p q : Block ℕ → Bool) → ((b d : Block ℕ) → R b d → p b ≡ true → q d ≡ true) → {bs ds : List (Block ℕ)} → Each R bs ds → list_all p bs ≡ true → list_all q ds ≡ true
  each_all p q stays NoBlocks h = refl
  each_all p q stays (OneMore {b = b} {d = d} {bs = bs} {ds = ds} one rest) h =
      let s = and_parts (p b) (list_all p bs) h in and_from (q d) (list_all q ds) (stays b d one s.0) (each_all p q stays rest s.1)

  each_sum : (g : Block ℕ → ℕ) → ((b d : Block ℕ) → R b d → g d ≤ g b) → {bs ds : List (Block ℕ)} → Each R bs ds → sum_by g ds ≤ sum_by g bs
  each_sum g less NoBlocks = omega arith
  each_sum g less (OneMore {b = b} {d = d} {bs = bs} {ds = ds} one rest) =
      let here = less b d one in
      let there = each_sum g less rest in
      let before = sum_by-cons g b bs in
      let after = sum_by-cons g d ds in
      omega arith

  each_makes : ((b d : Block ℕ) → R b d → Within b d) → {bs ds : List (Block ℕ)} → Each R bs ds → allocs_first bs ≡ true → allocs_first ds ≡ true
  each_makes within NoBlocks h = refl
  each_makes within (OneMore one rest) h =
      each_all (λ (b : Block ℕ). not (list_any is_alloc b.lines)) (λ (b : Block ℕ). not (list_any is_alloc b.lines)) (λ b d same e. ap not (within b d same).makes ∙ e) rest h

  pub each_fits : ((b d : Block ℕ) → R b d → Within b d) → {bs ds : List (Block ℕ)} → Each R bs ds → Fit bs ds
  each_fits within each =
      record {
        weight = each_sum (λ (b : Block ℕ). sum_by weight_of b.lines) (λ b d one. (within b d one).weight) each;
        area = each_sum (λ (b : Block ℕ). sum_by alloc_bytes b.lines) (λ b d one. (within b d one).bytes) each;
        makes = each_makes within each;
        paid = each_all is_paid is_paid (λ b d one. (within b d one).paid) each;
        paced =
            each_all (λ (b : Block ℕ). nat_le (sum_by turns_of b.lines) FUNCTION_WEIGHT) (λ (b : Block ℕ). nat_le (sum_by turns_of b.lines) FUNCTION_WEIGHT)
            (λ b d one. still_within (sum_by turns_of d.lines) (sum_by turns_of b.lines) FUNCTION_WEIGHT (within b d one).turns) each;
        few =
            each_all (λ (b : Block ℕ). list_all passes_few b.lines) (λ (b : Block ℕ). list_all passes_few b.lines) (λ b d one e. (within b d one).few ∙ e) each;
      }
