-- Lines that change places weigh as much, name the same places, and are still paid for; and so code is what code may be.
use Rattle.std.proofs.Common.{◌≡◌, ℕ, zero, suc, ◌+◌, ◌-◌, ◌*◌, Bool, true, false, not, ◌&&◌, ◌||◌, nat_le, if◌then◌else◌, List, [], ◌∷◌, length, refl, sym, ◌∙◌, ap, arith}
use Rattle.std.specs.List.{list_all, list_any, sum_by}
use Rattle.std.proofs.lemmas.Bool.{and_parts, and_from}
use Rattle.std.proofs.lemmas.Bool.Decides.{nat_tests}
use Rattle.std.proofs.lemmas.List.Sums.{sum_by-cons}
use Rattle.il_ast.specs.declared.limits.TheConstants.{FUNCTION_WEIGHT, ALLOC_BYTES}
use Rattle.vcode.specs.declared.place.Location.{Location}
use Rattle.vcode.specs.declared.line.Line.{Line}
use Rattle.vcode.specs.declared.line.Line.TheVariants.{Tick, Set, Operate, Load, Store, Alloc, Blit, Call}
use Rattle.vcode.specs.declared.line.Jump.{Jump}
use Rattle.vcode.specs.declared.code.Block.{Block}
use Rattle.vcode.specs.declared.code.Code.{Code}
use Rattle.vcode.specs.Prelude.{line_cost, affords, is_paid, line_keeps, jump_keeps, block_keeps, keeps_places, leads_inside, is_alloc, allocs_first, alloc_bytes, turns_of, passes_few, weight_of, code_weight, IsRegular}
use Rattle.scheduling.specs.Independent.{is_independent, swapped, reordered, swaps_at, scheduled_block, scheduled_blocks, scheduled}

-- ---- what pays

at_least_none : (n : ℕ) → nat_le 0 n ≡ true
at_least_none n = grind (arith, nat_tests)

pays_as : (credit left : ℕ) (j : Jump Location) (lines : List (Line Location)) (c : Bool) → left ≡ credit → (c && affords credit j lines) ≡ (c && affords left j lines)
pays_as credit left j lines c same = ap (λ n. c && affords n j lines) (sym same)

-- one formula for all lines: what they cost is paid, then ticks pay for what comes
affords_line : (credit : ℕ) (j : Jump Location) (l : Line Location) (lines : List (Line Location))
    → affords credit j (l ∷ lines) ≡ (nat_le (line_cost l) credit && affords (credit - line_cost l + 32 * weight_of l) j lines)
affords_line credit j (Tick turn w) lines =
    ap (λ b. b && affords (credit + 32 * w) j lines) (sym (at_least_none credit)) ∙ pays_as (credit + 32 * w) (credit - 0 + 32 * w) j lines (nat_le 0 credit) (omega arith)
affords_line credit j (Set to a) lines = let c : ℕ = line_cost (Set to a) in pays_as (credit - c) (credit - c + 32 * 0) j lines (nat_le c credit) (omega arith)
affords_line credit j (Operate to op a b) lines = let c : ℕ = line_cost (Operate to op a b) in pays_as (credit - c) (credit - c + 32 * 0) j lines (nat_le c credit) (omega arith)
affords_line credit j (Load to op at) lines = let c : ℕ = line_cost (Load to op at) in pays_as (credit - c) (credit - c + 32 * 0) j lines (nat_le c credit) (omega arith)
affords_line credit j (Store size a at) lines = let c : ℕ = line_cost (Store size a at) in pays_as (credit - c) (credit - c + 32 * 0) j lines (nat_le c credit) (omega arith)
affords_line credit j (Alloc to size) lines =
    let c : ℕ = (let l : Line Location = Alloc to size in line_cost l) in pays_as (credit - c) (credit - c + 32 * 0) j lines (nat_le c credit) (omega arith)
affords_line credit j (Blit from to count) lines = let c : ℕ = line_cost (Blit from to count) in pays_as (credit - c) (credit - c + 32 * 0) j lines (nat_le c credit) (omega arith)
affords_line credit j (Call to callee args) lines = let c : ℕ = line_cost (Call to callee args) in pays_as (credit - c) (credit - c + 32 * 0) j lines (nat_le c credit) (omega arith)

-- a tick goes behind nothing
first_weightless : (l m : Line Location) → is_independent l m ≡ true → weight_of l ≡ 0
first_weightless (Tick turn w) m h = absurd (let no : ⊥ = cc in no)
first_weightless (Set to a) m h = refl
first_weightless (Operate to op a b) m h = refl
first_weightless (Load to op at) m h = refl
first_weightless (Store size a at) m h = refl
first_weightless (Alloc to size) m h = refl
first_weightless (Blit from to count) m h = refl
first_weightless (Call to callee args) m h = refl

second_paid : (credit one other : ℕ) → nat_le one credit ≡ true → nat_le other (credit - one + 32 * 0) ≡ true → nat_le other credit ≡ true
second_paid credit one other h k = grind (arith, nat_tests)

first_paid : (credit one other more : ℕ) → nat_le one credit ≡ true → nat_le other (credit - one + 32 * 0) ≡ true → nat_le one (credit - other + more) ≡ true
first_paid credit one other more h k = grind (arith, nat_tests)

same_left : (credit one other more : ℕ) → nat_le one credit ≡ true → nat_le other (credit - one + 32 * 0) ≡ true → credit - one + 32 * 0 - other + more ≡ credit - other + more - one + 32 * 0
same_left credit one other more h k = grind (arith, nat_tests)

two_paid : (credit : ℕ) (j : Jump Location) (l m : Line Location) (rest : List (Line Location)) → weight_of l ≡ 0 → affords credit j (l ∷ m ∷ rest) ≡ true → affords credit j (m ∷ l ∷ rest) ≡ true
two_paid credit j l m rest none h =
    let one = line_cost l in
    let other = line_cost m in
    let more = 32 * weight_of m in
    let plain : affords credit j (l ∷ m ∷ rest) ≡ (nat_le one credit && affords (credit - one + 32 * 0) j (m ∷ rest)) =
    affords_line credit j l (m ∷ rest) ∙ ap (λ w. nat_le one credit && affords (credit - one + 32 * w) j (m ∷ rest)) none
    in
    let first = and_parts (nat_le one credit) (affords (credit - one + 32 * 0) j (m ∷ rest)) (sym plain ∙ h) in
    let second = and_parts (nat_le other (credit - one + 32 * 0)) (affords (credit - one + 32 * 0 - other + more) j rest) (sym (affords_line (credit - one + 32 * 0) j m rest) ∙ first.1) in
    affords_line credit j m (l ∷ rest)
    ∙ and_from (nat_le other credit) (affords (credit - other + more) j (l ∷ rest)) (second_paid credit one other first.0 second.0)
    (affords_line (credit - other + more) j l rest ∙ ap (λ w. nat_le one (credit - other + more) && affords (credit - other + more - one + 32 * w) j rest) none
    ∙ and_from (nat_le one (credit - other + more)) (affords (credit - other + more - one + 32 * 0) j rest) (first_paid credit one other more first.0 second.0)
    (ap (λ n. affords n j rest) (sym (same_left credit one other more first.0 second.0)) ∙ second.1))

-- ---- one swap

module _ (g : Line Location → ℕ) where
  two_summed : (l m : Line Location) (rest : List (Line Location)) (b : Bool) → sum_by g (if b then m ∷ l ∷ rest else l ∷ m ∷ rest) ≡ sum_by g (l ∷ m ∷ rest)
  two_summed l m rest true = omega (arith, sum_by-cons g m (l ∷ rest), sum_by-cons g l rest, sum_by-cons g l (m ∷ rest), sum_by-cons g m rest)
  two_summed l m rest false = refl

  summed : (at : ℕ) (lines : List (Line Location)) → sum_by g (swapped at lines) ≡ sum_by g lines
  summed zero [] = refl
  summed (suc at) [] = refl
  summed zero (l ∷ []) = refl
  summed zero (l ∷ m ∷ rest) = two_summed l m rest (is_independent l m)
  summed (suc at) (l ∷ lines) = sum_by-cons g l (swapped at lines) ∙ ap (λ n. g l + n) (summed at lines) ∙ sym (sum_by-cons g l lines)

module _ (p : Line Location → Bool) where
  either_and : (a b c : Bool) → (b && (a && c)) ≡ (a && (b && c))
  either_and true b c = refl
  either_and false true c = refl
  either_and false false c = refl

  either_or : (a b c : Bool) → (b || (a || c)) ≡ (a || (b || c))
  either_or true true c = refl
  either_or true false c = refl
  either_or false b c = refl

  two_tested : (l m : Line Location) (rest : List (Line Location)) (b : Bool) → list_all p (if b then m ∷ l ∷ rest else l ∷ m ∷ rest) ≡ list_all p (l ∷ m ∷ rest)
  two_tested l m rest true = either_and (p l) (p m) (list_all p rest)
  two_tested l m rest false = refl

  two_sought : (l m : Line Location) (rest : List (Line Location)) (b : Bool) → list_any p (if b then m ∷ l ∷ rest else l ∷ m ∷ rest) ≡ list_any p (l ∷ m ∷ rest)
  two_sought l m rest true = either_or (p l) (p m) (list_any p rest)
  two_sought l m rest false = refl

  tested : (at : ℕ) (lines : List (Line Location)) → list_all p (swapped at lines) ≡ list_all p lines
  tested zero [] = refl
  tested (suc at) [] = refl
  tested zero (l ∷ []) = refl
  tested zero (l ∷ m ∷ rest) = two_tested l m rest (is_independent l m)
  tested (suc at) (l ∷ lines) = ap (λ b. p l && b) (tested at lines)

  sought : (at : ℕ) (lines : List (Line Location)) → list_any p (swapped at lines) ≡ list_any p lines
  sought zero [] = refl
  sought (suc at) [] = refl
  sought zero (l ∷ []) = refl
  sought zero (l ∷ m ∷ rest) = two_sought l m rest (is_independent l m)
  sought (suc at) (l ∷ lines) = ap (λ b. p l || b) (sought at lines)

module _ (j : Jump Location) where
  two_pay : (credit : ℕ) (l m : Line Location) (rest : List (Line Location)) (b : Bool) → is_independent l m ≡ b → affords credit j (l ∷ m ∷ rest) ≡ true
      → affords credit j (if b then m ∷ l ∷ rest else l ∷ m ∷ rest) ≡ true
  two_pay credit l m rest true apart h = two_paid credit j l m rest (first_weightless l m apart) h
  two_pay credit l m rest false apart h = h

  pays : (at : ℕ) (lines : List (Line Location)) (credit : ℕ) → affords credit j lines ≡ true → affords credit j (swapped at lines) ≡ true
  pays zero [] credit h = h
  pays (suc at) [] credit h = h
  pays zero (l ∷ []) credit h = h
  pays zero (l ∷ m ∷ rest) credit h = two_pay credit l m rest (is_independent l m) refl h
  pays (suc at) (l ∷ lines) credit h =
      let s = and_parts (nat_le (line_cost l) credit) (affords (credit - line_cost l + 32 * weight_of l) j lines) (sym (affords_line credit j l lines) ∙ h) in
      affords_line credit j l (swapped at lines)
      ∙ and_from (nat_le (line_cost l) credit) (affords (credit - line_cost l + 32 * weight_of l) j (swapped at lines)) s.0 (pays at lines (credit - line_cost l + 32 * weight_of l) s.1)

-- ---- any number of swaps

all_summed : (g : Line Location → ℕ) (swaps : List ℕ) (lines : List (Line Location)) → sum_by g (reordered swaps lines) ≡ sum_by g lines
all_summed g [] lines = refl
all_summed g (at ∷ swaps) lines = all_summed g swaps (swapped at lines) ∙ summed g at lines

all_tested : (p : Line Location → Bool) (swaps : List ℕ) (lines : List (Line Location)) → list_all p (reordered swaps lines) ≡ list_all p lines
all_tested p [] lines = refl
all_tested p (at ∷ swaps) lines = all_tested p swaps (swapped at lines) ∙ tested p at lines

all_sought : (p : Line Location → Bool) (swaps : List ℕ) (lines : List (Line Location)) → list_any p (reordered swaps lines) ≡ list_any p lines
all_sought p [] lines = refl
all_sought p (at ∷ swaps) lines = all_sought p swaps (swapped at lines) ∙ sought p at lines

all_paid : (j : Jump Location) (swaps : List ℕ) (lines : List (Line Location)) → affords 0 j lines ≡ true → affords 0 j (reordered swaps lines) ≡ true
all_paid j [] lines h = h
all_paid j (at ∷ swaps) lines h = all_paid j swaps (swapped at lines) (pays j at lines 0 h)

-- ---- blocks

block_summed : (g : Line Location → ℕ) (plan : List (List ℕ)) (number : ℕ) (blocks : List (Block Location))
    → sum_by (λ (b : Block Location). sum_by g b.lines) (scheduled_blocks plan number blocks) ≡ sum_by (λ (b : Block Location). sum_by g b.lines) blocks
block_summed g plan number [] = refl
block_summed g plan number (b ∷ blocks) =
    let whole : Block Location → ℕ = λ (d : Block Location). sum_by g d.lines in
    sum_by-cons (λ (d : Block Location). sum_by g d.lines) (scheduled_block (swaps_at plan number) b) (scheduled_blocks plan (number + 1) blocks)
    ∙ ap (λ n. n + sum_by (λ (d : Block Location). sum_by g d.lines) (scheduled_blocks plan (number + 1) blocks)) (all_summed g (swaps_at plan number) b.lines)
    ∙ ap (λ n. sum_by g b.lines + n) (block_summed g plan (number + 1) blocks)
    ∙ sym (sum_by-cons (λ (d : Block Location). sum_by g d.lines) b blocks)

blocks_tested : (p : Block Location → Bool) → ((swaps : List ℕ) (b : Block Location) → p b ≡ true → p (scheduled_block swaps b) ≡ true) → (plan : List (List ℕ)) (number : ℕ)
    (blocks : List (Block Location)) → list_all p blocks ≡ true → list_all p (scheduled_blocks plan number blocks) ≡ true
blocks_tested p stays plan number [] h = refl
blocks_tested p stays plan number (b ∷ blocks) h =
    let s = and_parts (p b) (list_all p blocks) h in
    and_from (p (scheduled_block (swaps_at plan number) b)) (list_all p (scheduled_blocks plan (number + 1) blocks)) (stays (swaps_at plan number) b s.0)
    (blocks_tested p stays plan (number + 1) blocks s.1)

as_many : (plan : List (List ℕ)) (number : ℕ) (blocks : List (Block Location)) → length (scheduled_blocks plan number blocks) ≡ length blocks
as_many plan number [] = refl
as_many plan number (b ∷ blocks) = ap suc (as_many plan (number + 1) blocks)

makes_first : (plan : List (List ℕ)) (number : ℕ) (blocks : List (Block Location)) → allocs_first blocks ≡ true → allocs_first (scheduled_blocks plan number blocks) ≡ true
makes_first plan number [] h = refl
makes_first plan number (b ∷ blocks) h =
    blocks_tested (λ (c : Block Location). not (list_any is_alloc c.lines)) (λ swaps c e. ap not (all_sought is_alloc swaps c.lines) ∙ e) plan (number + 1) blocks h

block_names : (test : Location → Bool) (swaps : List ℕ) (b : Block Location) → block_keeps test b ≡ true → block_keeps test (scheduled_block swaps b) ≡ true
block_names test swaps b h = ap (λ x. x && jump_keeps test b.jump) (all_tested (line_keeps test) swaps b.lines) ∙ h

-- ---- code

pub scheduled_weighs : (plan : List (List ℕ)) (f : Code Location) → code_weight (scheduled plan f) ≡ code_weight f
scheduled_weighs plan f = block_summed weight_of plan 0 f.blocks

pub scheduled_names : (test : Location → Bool) (plan : List (List ℕ)) (f : Code Location) → keeps_places test f ≡ true → keeps_places test (scheduled plan f) ≡ true
scheduled_names test plan f h =
    let s = and_parts (list_all (λ d. test d.place) f.params) (list_all (block_keeps test) f.blocks) h in
    and_from (list_all (λ d. test d.place) f.params) (list_all (block_keeps test) (scheduled_blocks plan 0 f.blocks)) s.0
    (blocks_tested (block_keeps test) (block_names test) plan 0 f.blocks s.1)

pub scheduled_regular : (plan : List (List ℕ)) (f : Code Location) → IsRegular f → IsRegular (scheduled plan f)
scheduled_regular plan f is =
    record {
      few_params = is.few_params;
      inside =
          ap (λ n. list_all (λ (b : Block Location). leads_inside n b.jump) (scheduled_blocks plan 0 f.blocks)) (as_many plan 0 f.blocks)
          ∙ blocks_tested (λ (b : Block Location). leads_inside (length f.blocks) b.jump) (λ swaps b e. e) plan 0 f.blocks is.inside;
      first = makes_first plan 0 f.blocks is.first;
      small = ap (λ n. nat_le n ALLOC_BYTES) (block_summed alloc_bytes plan 0 f.blocks) ∙ is.small;
      paid = blocks_tested is_paid (λ swaps b e. all_paid b.jump swaps b.lines e) plan 0 f.blocks is.paid;
      paced =
          blocks_tested (λ (b : Block Location). nat_le (sum_by turns_of b.lines) FUNCTION_WEIGHT)
          (λ swaps b e. ap (λ n. nat_le n FUNCTION_WEIGHT) (all_summed turns_of swaps b.lines) ∙ e) plan 0 f.blocks is.paced;
      few_args = blocks_tested (λ (b : Block Location). list_all passes_few b.lines) (λ swaps b e. all_tested passes_few swaps b.lines ∙ e) plan 0 f.blocks is.few_args;
    }
