-- The code in an order takes no more than the code did, and names the registers of the function.
use Rattle.std.proofs.Common.{◌≡◌, ℕ, zero, suc, ◌≤◌, Bool, true, false, not, ◌&&◌, nat_eq, nat_lt, nat_le, if◌then◌else◌, List, [], ◌∷◌, map, length, refl, sym, ◌∙◌, ap, arith}
use Rattle.std.specs.List.{list_all, list_any, sum_by}
use Rattle.std.proofs.lemmas.Bool.Decides.{nat_tests}
use Rattle.std.proofs.lemmas.List.{length-map}
use Rattle.std.proofs.lemmas.List.Folds.{list_all-map}
use Rattle.std.proofs.lemmas.Bool.{and_parts, and_from, lt-ltb}
use Rattle.il_ast.specs.declared.limits.TheConstants.{FUNCTION_WEIGHT}
use Rattle.vcode.specs.declared.line.Jump.{Jump}
use Rattle.vcode.specs.declared.line.Jump.TheVariants.{Goto, Branch, Return, Halt}
use Rattle.vcode.specs.declared.code.Block.{Block}
use Rattle.vcode.specs.declared.code.Code.{Code}
use Rattle.vcode.specs.declared.function.VFunc.{VFunc}
use Rattle.vcode.specs.Prelude.{jump_cost, is_paid, line_keeps, jump_keeps, block_keeps, is_below as is_register, is_target, leads_inside, is_alloc, allocs_first, alloc_bytes, turns_of, passes_few, weight_of}
use Rattle.vcode.proofs.Measuring.{measured_itself, within}
use Rattle.vcode.proofs.Results.{Owed}
use Rattle.block_layout.specs.Ordered.{Order, place_in, is_named, block_at, led, placed, in_order, begins, names_once, leads_within, is_order}
use Rattle.block_layout.proofs.Placing.{one_more_below, named_place}
use Rattle.block_layout.proofs.Summing.{sum_in_order}
use Rattle.block_layout.proofs.RunningInOrder.{runs}
use Rattle.il_ast.proofs.Truth.{neither_holds}

-- ---- an order, by its parts

pub record Holds (order : Order) (f : Code ℕ) : Type 0 where
  pub first : begins (length f.blocks) order ≡ true
  pub once : names_once order ≡ true
  pub there : list_all (λ k. nat_lt k (length f.blocks)) order ≡ true
  pub closed : list_all (λ k. leads_within order (block_at f.blocks k).jump) order ≡ true

pub holds : (order : Order) (f : Code ℕ) → is_order order f ≡ true → Holds order f
holds order f h =
    let there : Bool = list_all (λ k. nat_lt k (length f.blocks)) order in
    let closed : Bool = list_all (λ k. leads_within order (block_at f.blocks k).jump) order in
    let s = and_parts (begins (length f.blocks) order) ((names_once order && there) && closed) h in
    let t = and_parts (names_once order && there) closed s.1 in
    let u = and_parts (names_once order) there t.0 in
    record { first = s.0; once = u.0; there = u.1; closed = t.1 }

-- ---- tests of blocks

none_below : (k : ℕ) → nat_lt k 0 ≡ true → ⊥
none_below k h = grind (arith, nat_tests)

one_less : (k n : ℕ) → nat_lt (suc k) (suc n) ≡ true → nat_lt k n ≡ true
one_less k n h = one_more_below k n ∙ h

pub passes_at : (test : Block ℕ → Bool) (blocks : List (Block ℕ)) (k : ℕ) → list_all test blocks ≡ true → nat_lt k (length blocks) ≡ true → test (block_at blocks k) ≡ true
passes_at test [] k all low = absurd (none_below k low)
passes_at test (b ∷ blocks) zero all low = (and_parts (test b) (list_all test blocks) all).0
passes_at test (b ∷ blocks) (suc k) all low =
    passes_at test blocks k (and_parts (test b) (list_all test blocks) all).1 (one_less k (length blocks) low)

pub all_from : (p q : ℕ → Bool) → ((k : ℕ) → p k ≡ true → q k ≡ true) → (order : Order) → list_all p order ≡ true → list_all q order ≡ true
all_from p q gives [] h = refl
all_from p q gives (k ∷ order) h =
    let s = and_parts (p k) (list_all p order) h in and_from (q k) (list_all q order) (gives k s.0) (all_from p q gives order s.1)

all_from_two : (p q r : ℕ → Bool) → ((k : ℕ) → p k ≡ true → q k ≡ true → r k ≡ true) → (order : Order) → list_all p order ≡ true → list_all q order ≡ true → list_all r order ≡ true
all_from_two p q r gives [] g h = refl
all_from_two p q r gives (k ∷ order) g h =
    let s = and_parts (p k) (list_all p order) g in
    let t = and_parts (q k) (list_all q order) h in
    and_from (r k) (list_all r order) (gives k s.0 t.0) (all_from_two p q r gives order s.1 t.1)

-- a test of all blocks that a block in its place passes too
blocks_pass : (test : Block ℕ → Bool) (order : Order) (f : Code ℕ) → Holds order f → ((b : Block ℕ) → test b ≡ true → test (placed order b) ≡ true) → list_all test f.blocks ≡ true
    → list_all test (in_order order f).blocks ≡ true
blocks_pass test order f h stays all =
    list_all-map test (λ k. placed order (block_at f.blocks k)) order
    ∙ all_from (λ k. nat_lt k (length f.blocks)) (λ k. test (placed order (block_at f.blocks k)))
    (λ k low. stays (block_at f.blocks k) (passes_at test f.blocks k all low)) order h.there

-- ---- where jumps lead

not_first : (z k : ℕ) → nat_eq z 0 ≡ true → nat_lt 0 k ≡ true → nat_eq z k ≡ false
not_first z k e h = grind (arith, nat_tests)

past_first : (n : ℕ) → nat_lt 0 (suc n) ≡ true
past_first n = lt-ltb 0 (suc n) (omega arith)

target_inside : (n : ℕ) (order : Order) (k : ℕ) → begins n order ≡ true → is_target n k ≡ true → is_named order k ≡ true → is_target (length order) (place_in order k) ≡ true
target_inside n [] k first target named = absurd (let no : ⊥ = cc in no)
target_inside n (z ∷ order) k first target named =
    let s = and_parts (nat_lt 0 k) (nat_lt k n) target in
    and_from (nat_lt 0 (place_in (z ∷ order) k)) (nat_lt (place_in (z ∷ order) k) (length (z ∷ order)))
    (ap (λ (b : Bool). nat_lt 0 (if b then 0 else suc (place_in order k))) (not_first z k first s.0) ∙ past_first (place_in order k))
    (sym (named_place (z ∷ order) k) ∙ named)

jump_inside : (n : ℕ) (order : Order) (j : Jump ℕ) → begins n order ≡ true → leads_inside n j ≡ true → leads_within order j ≡ true → leads_inside (length order) (led order j) ≡ true
jump_inside n order (Goto k) first inside named = target_inside n order k first inside named
jump_inside n order (Branch on met otherwise) first inside named =
    let s = and_parts (is_target n met) (is_target n otherwise) inside in
    let t = and_parts (is_named order met) (is_named order otherwise) named in
    and_from (is_target (length order) (place_in order met)) (is_target (length order) (place_in order otherwise))
    (target_inside n order met first s.0 t.0) (target_inside n order otherwise first s.1 t.1)
jump_inside n order (Return a) first inside named = refl
jump_inside n order Halt first inside named = refl

all_inside : (order : Order) (f : Code ℕ) → Holds order f → list_all (λ (b : Block ℕ). leads_inside (length f.blocks) b.jump) f.blocks ≡ true
    → list_all (λ (b : Block ℕ). leads_inside (length (in_order order f).blocks) b.jump) (in_order order f).blocks ≡ true
all_inside order f h all =
    ap (λ n. list_all (λ (b : Block ℕ). leads_inside n b.jump) (in_order order f).blocks) (length-map order (λ k. placed order (block_at f.blocks k)))
    ∙ list_all-map (λ (b : Block ℕ). leads_inside (length order) b.jump) (λ k. placed order (block_at f.blocks k)) order
    ∙ all_from_two (λ k. nat_lt k (length f.blocks)) (λ k. leads_within order (block_at f.blocks k).jump) (λ k. leads_inside (length order) (led order (block_at f.blocks k).jump))
    (λ k low named. jump_inside (length f.blocks) order (block_at f.blocks k).jump h.first (passes_at (λ (b : Block ℕ). leads_inside (length f.blocks) b.jump) f.blocks k all low) named)
    order h.there h.closed

-- ---- where blocks of memory are made

abbrev makes_none : Block ℕ → Bool
makes_none b = not (list_any is_alloc b.lines)

unlike : (k z : ℕ) → nat_eq k z ≡ false → nat_eq z 0 ≡ true → nat_eq k 0 ≡ false
unlike k z h e = grind (arith, nat_tests)

later_none : (b : Block ℕ) (blocks : List (Block ℕ)) (k : ℕ) → list_all makes_none blocks ≡ true → nat_eq k 0 ≡ false → nat_lt k (length (b ∷ blocks)) ≡ true → makes_none (block_at (b ∷ blocks) k) ≡ true
later_none b blocks zero all other low = absurd (let no : ⊥ = cc in no)
later_none b blocks (suc k) all other low = passes_at makes_none blocks k all (one_less k (length blocks) low)

rest_none : (b : Block ℕ) (blocks : List (Block ℕ)) (all : Order) (z : ℕ) (order : Order) → list_all makes_none blocks ≡ true → nat_eq z 0 ≡ true → not (is_named order z) ≡ true
    → list_all (λ k. nat_lt k (length (b ∷ blocks))) order ≡ true → list_all makes_none (map (λ k. placed all (block_at (b ∷ blocks) k)) order) ≡ true
rest_none b blocks all z [] none first once there = refl
rest_none b blocks all z (k ∷ order) none first once there =
    let s = neither_holds (nat_eq k z) (is_named order z) once in
    let t = and_parts (nat_lt k (length (b ∷ blocks))) (list_all (λ j. nat_lt j (length (b ∷ blocks))) order) there in
    and_from (makes_none (block_at (b ∷ blocks) k)) (list_all makes_none (map (λ j. placed all (block_at (b ∷ blocks) j)) order))
    (later_none b blocks k none (unlike k z s.0 first) t.0)
    (rest_none b blocks all z order none first s.1 t.1)

first_makes : (blocks : List (Block ℕ)) (all order : Order) → allocs_first blocks ≡ true → begins (length blocks) order ≡ true → names_once order ≡ true
    → list_all (λ k. nat_lt k (length blocks)) order ≡ true → allocs_first (map (λ k. placed all (block_at blocks k)) order) ≡ true
first_makes blocks all [] none first once there = refl
first_makes [] all (z ∷ order) none first once there =
    absurd (none_below z (and_parts (nat_lt z 0) (list_all (λ k. nat_lt k 0) order) there).0)
first_makes (b ∷ blocks) all (z ∷ order) none first once there =
    rest_none b blocks all z order none first (and_parts (not (is_named order z)) (names_once order) once).0
    (and_parts (nat_lt z (length (b ∷ blocks))) (list_all (λ k. nat_lt k (length (b ∷ blocks))) order) there).1

-- ---- what pays, and the registers that it names

led_cost : (order : Order) (j : Jump ℕ) → jump_cost (led order j) ≤ jump_cost j
led_cost order (Goto k) = omega arith
led_cost order (Branch on met otherwise) = omega arith
led_cost order (Return a) = omega arith
led_cost order Halt = omega arith

led_keeps : (test : ℕ → Bool) (order : Order) (j : Jump ℕ) → jump_keeps test (led order j) ≡ jump_keeps test j
led_keeps test order (Goto k) = refl
led_keeps test order (Branch on met otherwise) = refl
led_keeps test order (Return a) = refl
led_keeps test order Halt = refl

-- ---- the whole

pub owed : (order : Order) (v : VFunc) → Holds order v.code → Owed v v.registers (in_order order v.code).blocks
owed order v h =
    let f : Code ℕ = v.code in
    let place = (λ (k : ℕ). placed order (block_at f.blocks k)) in
    record {
      more = omega arith;
      fits =
          record {
            weight = sum_in_order (λ (b : Block ℕ). sum_by weight_of b.lines) place f.blocks order (λ k. refl) h.once h.there;
            area = sum_in_order (λ (b : Block ℕ). sum_by alloc_bytes b.lines) place f.blocks order (λ k. refl) h.once h.there;
            makes = λ first. first_makes f.blocks order order first h.first h.once h.there;
            paid = blocks_pass is_paid order f h (λ b. (within b (placed order b) (measured_itself b.lines) (led_cost order b.jump)).paid);
            paced = blocks_pass (λ (b : Block ℕ). nat_le (sum_by turns_of b.lines) FUNCTION_WEIGHT) order f h (λ b e. e);
            few = blocks_pass (λ (b : Block ℕ). list_all passes_few b.lines) order f h (λ b e. e);
          };
      inside = all_inside order f h;
      names = blocks_pass (block_keeps (is_register v.registers)) order f h
          (λ b e. ap (λ x. list_all (line_keeps (is_register v.registers)) b.lines && x) (led_keeps (is_register v.registers) order b.jump) ∙ e);
      runs = runs order f h.first h.closed;
    }
