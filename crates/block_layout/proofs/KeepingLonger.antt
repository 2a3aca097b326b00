-- Code with copies of blocks in the place of jumps to them is code that there may be, where all its ticks together are few.
use Rattle.std.proofs.Common.{◌≡◌, ℕ, zero, suc, ◌+◌, ◌-◌, ◌*◌, ◌≤◌, Bool, true, false, not, ◌||◌, nat_lt, nat_le, List, [], ◌∷◌, ◌++◌, length, Option, Some, None, slice_get, refl, sym, ◌∙◌, ap, arith}
use Rattle.std.specs.List.{list_all, list_any, sum_by}
use Rattle.std.proofs.lemmas.Bool.{and_parts, and_from, not-true}
use Rattle.std.proofs.lemmas.Bool.Decides.{nat_tests}
use Rattle.std.proofs.lemmas.List.Folds.{list_all-append, list_any-append}
use Rattle.std.proofs.lemmas.List.Sums.{sum_by-cons, sum_by-append, sum_by-le-sum_by}
use Rattle.il_ast.specs.declared.limits.TheConstants.{FUNCTION_WEIGHT, ALLOC_BYTES}
use Rattle.vcode.specs.declared.place.Destination.{Destination}
use Rattle.vcode.specs.declared.line.Line.{Line}
use Rattle.vcode.specs.declared.line.Line.TheVariants.{Tick, Set, Operate, Load, Store, Alloc, Blit, Call}
use Rattle.vcode.specs.declared.line.Jump.{Jump}
use Rattle.vcode.specs.declared.line.Jump.TheVariants.{Goto, Branch, Return, Halt}
use Rattle.vcode.specs.declared.code.Block.{Block}
use Rattle.vcode.specs.declared.function.VFunc.{VFunc}
use Rattle.vcode.specs.Prelude.{with_these, Becomes, line_cost, affords, is_paid, line_keeps, jump_keeps, block_keeps, is_below, leads_inside, is_target, is_alloc, allocs_first, alloc_bytes, turns_of, passes_few, weight_of, area, code_weight, IsRegular}
use Rattle.vcode.proofs.Measuring.{measured_itself, affords_line, still_affords, still_within}
use Rattle.block_layout.specs.Joined.{joined, with_tail, tail_of, longer, AllLonger, burden, block_burden}
use Rattle.block_layout.proofs.RunningLonger.{runs}

-- ---- blocks of a list

all_at : (p : Block ℕ → Bool) (blocks : List (Block ℕ)) (n : ℕ) (t : Block ℕ) → list_all p blocks ≡ true → slice_get blocks n ≡ Some t → p t ≡ true
all_at p [] n t all at = absurd (let no : ⊥ = cc in no)
all_at p (b ∷ blocks) zero t all at = let same : b ≡ t = cc in ap p (sym same) ∙ (and_parts (p b) (list_all p blocks) all).0
all_at p (b ∷ blocks) (suc n) t all at = all_at p blocks n t (and_parts (p b) (list_all p blocks) all).1 at

-- makes no block of memory
abbrev is_plain : Block ℕ → Bool
is_plain b = not (list_any is_alloc b.lines)

not_zero : nat_lt 0 0 ≡ true → ⊥
not_zero h = let no : ⊥ = cc in no

-- a block that a jump leads to makes none
tail_plain : (all : List (Block ℕ)) (n : ℕ) (t : Block ℕ) → allocs_first all ≡ true → is_target (length all) n ≡ true → slice_get all n ≡ Some t → is_plain t ≡ true
tail_plain [] n t first target at = absurd (let no : ⊥ = cc in no)
tail_plain (b ∷ blocks) zero t first target at = absurd (not_zero (and_parts (nat_lt 0 0) (nat_lt 0 (length (b ∷ blocks))) target).0)
tail_plain (b ∷ blocks) (suc n) t first target at = all_at is_plain blocks n t first at

-- ---- what all blocks pass, and what they sum up to

-- a block, and the one that it goes to
pub record GoesTo (all : List (Block ℕ)) (b t : Block ℕ) : Type 0 where
  pub number : ℕ
  pub jump : b.jump ≡ Goto number
  pub there : slice_get all number ≡ Some t

module _ (all : List (Block ℕ)) where
  abbrev PassesJoined : (Block ℕ → Bool) → (b : Block ℕ) → Type 0
  PassesJoined p b = (t : Block ℕ) → GoesTo all b t → p (joined b t) ≡ true

  longer_passes : (p : Block ℕ → Bool) (chosen : Bool) (b : Block ℕ) → p b ≡ true → PassesJoined p b → p (longer all chosen b) ≡ true
  longer_passes p false b own more = own
  longer_passes p true b own more = by_jump b.jump refl
    where
      by_tail : (n : ℕ) → b.jump ≡ Goto n → (o : Option (Block ℕ)) → slice_get all n ≡ o → p (with_tail b o) ≡ true
      by_tail n is None at = own
      by_tail n is (Some t) at = more t (record { number = n; jump = is; there = at })

      by_jump : (j : Jump ℕ) → b.jump ≡ j → p (with_tail b (tail_of all j)) ≡ true
      by_jump (Goto n) is = by_tail n is (slice_get all n) refl
      by_jump (Branch on met otherwise) is = own
      by_jump (Return a) is = own
      by_jump Halt is = own

  all_pass : (p : Block ℕ → Bool) → ((b : Block ℕ) → leads_inside (length all) b.jump ≡ true → p b ≡ true → PassesJoined p b) → (blocks new : List (Block ℕ)) → AllLonger all blocks new
      → list_all (λ (b : Block ℕ). leads_inside (length all) b.jump) blocks ≡ true → list_all p blocks ≡ true → list_all p new ≡ true
  all_pass p more [] [] is inside h = refl
  all_pass p more [] (d ∷ new) is inside h = absurd is
  all_pass p more (b ∷ blocks) [] is inside h = absurd is
  all_pass p more (b ∷ blocks) (d ∷ new) is inside h =
      let s = and_parts (p b) (list_all p blocks) h in
      let i = and_parts (leads_inside (length all) b.jump) (list_all (λ (c : Block ℕ). leads_inside (length all) c.jump) blocks) inside in
      and_from (p d) (list_all p new) (ap p is.0.1 ∙ longer_passes p is.0.0 b s.0 (more b i.0 s.0)) (all_pass p more blocks new is.1 i.1 s.1)

  longer_takes : (g : Block ℕ → ℕ) (chosen : Bool) (b : Block ℕ) → ((t : Block ℕ) → GoesTo all b t → g (joined b t) ≤ g b) → g (longer all chosen b) ≤ g b
  longer_takes g false b more = omega arith
  longer_takes g true b more = by_jump b.jump refl
    where
      by_tail : (n : ℕ) → b.jump ≡ Goto n → (o : Option (Block ℕ)) → slice_get all n ≡ o → g (with_tail b o) ≤ g b
      by_tail n is None at = omega arith
      by_tail n is (Some t) at = more t (record { number = n; jump = is; there = at })

      by_jump : (j : Jump ℕ) → b.jump ≡ j → g (with_tail b (tail_of all j)) ≤ g b
      by_jump (Goto n) is = by_tail n is (slice_get all n) refl
      by_jump (Branch on met otherwise) is = omega arith
      by_jump (Return a) is = omega arith
      by_jump Halt is = omega arith

  all_take : (g : Block ℕ → ℕ) → ((b : Block ℕ) → leads_inside (length all) b.jump ≡ true → (t : Block ℕ) → GoesTo all b t → g (joined b t) ≤ g b) → (blocks new : List (Block ℕ))
      → AllLonger all blocks new → list_all (λ (b : Block ℕ). leads_inside (length all) b.jump) blocks ≡ true → sum_by g new ≤ sum_by g blocks
  all_take g more [] [] is inside = omega arith
  all_take g more [] (d ∷ new) is inside = absurd is
  all_take g more (b ∷ blocks) [] is inside = absurd is
  all_take g more (b ∷ blocks) (d ∷ new) is inside =
      let i = and_parts (leads_inside (length all) b.jump) (list_all (λ (c : Block ℕ). leads_inside (length all) c.jump) blocks) inside in
      let here = longer_takes g is.0.0 b (more b i.0) in
      let same : g d ≡ g (longer all is.0.0 b) = ap g is.0.1 in
      let rest = all_take g more blocks new is.1 i.1 in
      let before = sum_by-cons g b blocks in
      let after = sum_by-cons g d new in
      omega (arith, here, same, rest, before, after)

  same_count : (blocks new : List (Block ℕ)) → AllLonger all blocks new → length new ≡ length blocks
  same_count [] [] is = refl
  same_count [] (d ∷ new) is = absurd is
  same_count (b ∷ blocks) [] is = absurd is
  same_count (b ∷ blocks) (d ∷ new) is = ap suc (same_count blocks new is.1)

target_of : (count : ℕ) (all : List (Block ℕ)) (b t : Block ℕ) → (g : GoesTo all b t) → leads_inside count b.jump ≡ true → is_target count g.number ≡ true
target_of count all b t g inside = ap (λ (j : Jump ℕ). leads_inside count j) (sym g.jump) ∙ inside

-- ---- blocks of memory

plain_takes_none : (lines : List (Line ℕ)) → list_any is_alloc lines ≡ false → sum_by alloc_bytes lines ≡ 0
plain_takes_none [] h = refl
plain_takes_none (l ∷ lines) h =
    let s = by_line l h in
    let all = sum_by-cons alloc_bytes l lines in
    let first = s.0 in
    let rest = plain_takes_none lines s.1 in
    omega (arith, all, first, rest)
  where
    by_line : (l : Line ℕ) → (is_alloc l || list_any is_alloc lines) ≡ false → (alloc_bytes l ≡ 0) × (list_any is_alloc lines ≡ false)
    by_line (Tick turn w) h = (refl, h)
    by_line (Set to a) h = (refl, h)
    by_line (Operate to op a b) h = (refl, h)
    by_line (Load to op at) h = (refl, h)
    by_line (Store size a at) h = (refl, h)
    by_line (Alloc to size) h = absurd (let no : ⊥ = cc in no)
    by_line (Blit from to count) h = (refl, h)
    by_line (Call to callee args) h = (refl, h)

joined_plain : (b t : Block ℕ) → is_plain b ≡ true → is_plain t ≡ true → is_plain (joined b t) ≡ true
joined_plain b t own other =
    ap not
    (list_any-append is_alloc b.lines t.lines
    ∙ (ap (λ x. x || list_any is_alloc t.lines) (not-true (list_any is_alloc b.lines) own) ∙ not-true (list_any is_alloc t.lines) other))

joined_bytes : (b t : Block ℕ) → is_plain t ≡ true → sum_by alloc_bytes (joined b t).lines ≤ sum_by alloc_bytes b.lines
joined_bytes b t plain =
    let both = sum_by-append alloc_bytes b.lines t.lines in
    let none = plain_takes_none t.lines (not-true (list_any is_alloc t.lines) plain) in
    omega (arith, both, none)

first_only : (all : List (Block ℕ)) → allocs_first all ≡ true → (blocks new : List (Block ℕ)) → AllLonger all blocks new
    → list_all (λ (b : Block ℕ). leads_inside (length all) b.jump) blocks ≡ true → allocs_first blocks ≡ true → allocs_first new ≡ true
first_only all first [] [] is inside h = refl
first_only all first [] (d ∷ new) is inside h = absurd is
first_only all first (b ∷ blocks) [] is inside h = absurd is
first_only all first (b ∷ blocks) (d ∷ new) is inside h =
    all_pass all is_plain (λ c at own t g. joined_plain c t own (tail_plain all g.number t first (target_of (length all) all c t g at) g.there)) blocks new is.1
    (and_parts (leads_inside (length all) b.jump) (list_all (λ (c : Block ℕ). leads_inside (length all) c.jump) blocks) inside).1 h

-- ---- what pays

none_most : (n : ℕ) → 0 ≤ n
none_most n = omega arith

affords_on : (credit : ℕ) (j k : Jump ℕ) (lines more : List (Line ℕ)) → affords credit j lines ≡ true → affords 0 k more ≡ true → affords credit k (lines ++ more) ≡ true
affords_on credit j k [] more own other = still_affords (measured_itself more) k k (omega arith) 0 credit (none_most credit) other
affords_on credit j k (l ∷ lines) more own other =
    let s = and_parts (nat_le (line_cost l) credit) (affords (credit - line_cost l + 32 * weight_of l) j lines) (sym (affords_line credit j l lines) ∙ own) in
    affords_line credit k l (lines ++ more)
    ∙ and_from (nat_le (line_cost l) credit) (affords (credit - line_cost l + 32 * weight_of l) k (lines ++ more)) s.0 (affords_on (credit - line_cost l + 32 * weight_of l) j k lines more s.1 other)

-- ---- ticks

weights_in : (blocks : List (Block ℕ)) → sum_by (λ (b : Block ℕ). sum_by weight_of b.lines) blocks ≤ sum_by block_burden blocks
weights_in blocks =
    sum_by-le-sum_by (λ (b : Block ℕ). sum_by weight_of b.lines) block_burden blocks (λ b. sum_by-le-sum_by weight_of burden b.lines (λ l. omega arith))

most_is : (a b : ℕ) → a ≤ b → nat_le a b ≡ true
most_is a b h = grind (arith, nat_tests)

paced_in : (most : ℕ) (blocks : List (Block ℕ)) → sum_by block_burden blocks ≤ most → list_all (λ (b : Block ℕ). nat_le (sum_by turns_of b.lines) most) blocks ≡ true
paced_in most [] few = refl
paced_in most (b ∷ blocks) few =
    let all = sum_by-cons block_burden b blocks in
    let here = sum_by-le-sum_by turns_of burden b.lines (λ l. omega arith) in
    and_from (nat_le (sum_by turns_of b.lines) most) (list_all (λ (c : Block ℕ). nat_le (sum_by turns_of c.lines) most) blocks)
    (most_is (sum_by turns_of b.lines) most (omega (arith, all, here, few))) (paced_in most blocks (omega (arith, all, few)))

-- ---- the whole

joined_names : (p : ℕ → Bool) (b t : Block ℕ) → block_keeps p b ≡ true → block_keeps p t ≡ true → block_keeps p (joined b t) ≡ true
joined_names p b t own other =
    let s = and_parts (list_all (line_keeps p) b.lines) (jump_keeps p b.jump) own in
    let u = and_parts (list_all (line_keeps p) t.lines) (jump_keeps p t.jump) other in
    and_from (list_all (line_keeps p) (b.lines ++ t.lines)) (jump_keeps p t.jump)
    (list_all-append (line_keeps p) b.lines t.lines ∙ and_from (list_all (line_keeps p) b.lines) (list_all (line_keeps p) t.lines) s.0 u.0) u.1

pub becomes_longer : (v : VFunc) (new : List (Block ℕ)) → AllLonger v.code.blocks v.code.blocks new → sum_by block_burden new ≤ FUNCTION_WEIGHT → Becomes v v.registers new
becomes_longer v new is light =
    let f = v.code in
    let all : List (Block ℕ) = f.blocks in
    let good : IsRegular f = v.regular in
    let count = length all in
    let named = and_parts (list_all (λ (d : Destination ℕ). is_below v.registers d.place) f.params) (list_all (block_keeps (is_below v.registers)) all) v.known in
    record {
      regular =
          record {
            few_params = good.few_params;
            inside =
                ap (λ n. list_all (λ (b : Block ℕ). leads_inside n b.jump) new) (same_count all all new is)
                ∙ all_pass all (λ (b : Block ℕ). leads_inside count b.jump) (λ b at own t g. all_at (λ (c : Block ℕ). leads_inside count c.jump) all g.number t good.inside g.there) all new is
                good.inside good.inside;
            first = first_only all good.first all new is good.inside good.first;
            small =
                still_within (area (with_these f new)) (area f) ALLOC_BYTES
                (all_take all (λ (b : Block ℕ). sum_by alloc_bytes b.lines)
                (λ b at t g. joined_bytes b t (tail_plain all g.number t good.first (target_of count all b t g at) g.there)) all new is good.inside)
                good.small;
            paid =
                all_pass all is_paid (λ b at own t g. affords_on 0 b.jump t.jump b.lines t.lines own (all_at is_paid all g.number t good.paid g.there)) all new is good.inside good.paid;
            paced = paced_in FUNCTION_WEIGHT new light;
            few_args =
                all_pass all (λ (b : Block ℕ). list_all passes_few b.lines)
                (λ b at own t g.
                list_all-append passes_few b.lines t.lines
                ∙ and_from (list_all passes_few b.lines) (list_all passes_few t.lines) own (all_at (λ (c : Block ℕ). list_all passes_few c.lines) all g.number t good.few_args g.there)) all new is
                good.inside good.few_args;
          };
      light = (let few = weights_in new in most_is (code_weight (with_these f new)) FUNCTION_WEIGHT (omega (arith, few, light)));
      known =
          and_from (list_all (λ (d : Destination ℕ). is_below v.registers d.place) f.params) (list_all (block_keeps (is_below v.registers)) new) named.0
          (all_pass all (block_keeps (is_below v.registers)) (λ b at own t g. joined_names (is_below v.registers) b t own (all_at (block_keeps (is_below v.registers)) all g.number t named.1 g.there)) all
          new is good.inside named.1);
      keeps = record { params = refl; result = refl; runs = runs f new is };
    }
