-- What a code keeps, its placed code keeps too.
use Rattle.std.proofs.Common.{◌≡◌, ℕ, suc, ◌+◌, ◌-◌, ◌*◌, Bool, true, false, not, ◌&&◌, ◌||◌, nat_eq, nat_le, nat_lt, List, [], ◌∷◌, map, length, Option, Some, None, refl, sym, ◌∙◌, ap, subst, fold, IsTrue, option_map}
use Rattle.std.specs.List.{list_all, list_any, sum_by}
use Rattle.il_ast.specs.declared.limits.TheConstants.{FUNCTION_WEIGHT}
use Rattle.vcode.specs.declared.place.Location.{Location}
use Rattle.vcode.specs.declared.place.Location.TheVariants.{Slot}
use Rattle.vcode.specs.declared.place.Operand.{Operand}
use Rattle.vcode.specs.declared.place.Operand.TheVariants.{At, Number, Name}
use Rattle.vcode.specs.declared.place.Destination.{Destination}
use Rattle.vcode.specs.declared.place.Argument.{Argument}
use Rattle.vcode.specs.declared.line.Line.{Line}
use Rattle.vcode.specs.declared.line.Line.TheVariants.{Tick, Set, Operate, Load, Store, Alloc, Blit, Call}
use Rattle.vcode.specs.declared.line.Jump.{Jump}
use Rattle.vcode.specs.declared.line.Jump.TheVariants.{Goto, Branch, Return, Halt}
use Rattle.vcode.specs.declared.code.Block.{Block}
use Rattle.vcode.specs.declared.code.Code.{Code}
use Rattle.vcode.specs.Prelude.{operand_cost, line_cost, jump_cost, affords, is_paid, operand_keeps, wanted_keeps, line_keeps, jump_keeps, block_keeps, keeps_places, is_below, is_place, is_near, are_near, are_low, are_distinct, virtual, located, leads_inside, is_alloc, allocs_first, alloc_bytes, area, turns_of, passes_few, IsRegular}
use Rattle.alloc_check.specs.Prelude.{Layout, placed_operand, placed_argument, placed_destination, placed_line, placed_jump, placed_block, in_slots}

-- ---- lists

pub map_length : {A B : Type 0} (g : A → B) (xs : List A) → length (map g xs) ≡ length xs
map_length g [] = refl
map_length g (x ∷ xs) = ap suc (map_length g xs)

pub all_map : {A B : Type 0} (test : A → Bool) (test2 : B → Bool) (g : A → B) → ((x : A) → test2 (g x) ≡ test x) → (xs : List A) → list_all test2 (map g xs) ≡ list_all test xs
all_map test test2 g same [] = refl
all_map test test2 g same (x ∷ xs) = ap (λ b. b && list_all test2 (map g xs)) (same x) ∙ ap (λ b. test x && b) (all_map test test2 g same xs)

any_map : {A B : Type 0} (test : A → Bool) (test2 : B → Bool) (g : A → B) → ((x : A) → test2 (g x) ≡ test x) → (xs : List A) → list_any test2 (map g xs) ≡ list_any test xs
any_map test test2 g same [] = refl
any_map test test2 g same (x ∷ xs) = ap (λ b. b || list_any test2 (map g xs)) (same x) ∙ ap (λ b. test x || b) (any_map test test2 g same xs)

pub sum_from : {A B : Type 0} (f : A → ℕ) (f2 : B → ℕ) (g : A → B) → ((x : A) → f2 (g x) ≡ f x) → (a : ℕ) (xs : List A) → fold (λ n x. n + f2 x) a (map g xs) ≡ fold (λ n x. n + f x) a xs
sum_from f f2 g same a [] = refl
sum_from f f2 g same a (x ∷ xs) = ap (λ k. fold (λ n y. n + f2 y) (a + k) (map g xs)) (same x) ∙ sum_from f f2 g same (a + f x) xs

pub sum_map : {A B : Type 0} (f : A → ℕ) (f2 : B → ℕ) (g : A → B) → ((x : A) → f2 (g x) ≡ f x) → (xs : List A) → sum_by f2 (map g xs) ≡ sum_by f xs
sum_map f f2 g same xs = sum_from f f2 g same 0 xs

-- ---- what a placed line costs

operand_costs : (f : Layout) (a : Operand ℕ) → operand_cost (placed_operand f a) ≡ operand_cost a
operand_costs f (At r) = refl
operand_costs f (Number n) = refl
operand_costs f (Name g) = refl

line_costs : (f : Layout) (l : Line ℕ) → line_cost (placed_line f l) ≡ line_cost l
line_costs f (Tick turn w) = refl
line_costs f (Set to a) = ap (λ n. n + 3) (operand_costs f a)
line_costs f (Operate to op a b) = simp operand_costs
line_costs f (Load to op at) = simp operand_costs
line_costs f (Store size a at) = simp operand_costs
line_costs f (Alloc to size) = refl
line_costs f (Blit from to count) = simp operand_costs
line_costs f (Call to callee args) = ap (λ n. 20 + 24 * n) (map_length (placed_argument f) args)

jump_costs : (f : Layout) (j : Jump ℕ) → jump_cost (placed_jump f j) ≡ jump_cost j
jump_costs f (Goto k) = refl
jump_costs f (Branch on met otherwise) = simp operand_costs
jump_costs f (Return None) = refl
jump_costs f (Return (Some a)) = simp operand_costs
jump_costs f Halt = refl

-- a line that is no tick
dear : (f : Layout) (j : Jump ℕ) (credit : ℕ) (l : Line ℕ) (lines : List (Line ℕ))
    → affords (credit - line_cost l) (placed_jump f j) (map (placed_line f) lines) ≡ affords (credit - line_cost l) j lines
    → (nat_le (line_cost (placed_line f l)) credit && affords (credit - line_cost (placed_line f l)) (placed_jump f j) (map (placed_line f) lines))
    ≡ (nat_le (line_cost l) credit && affords (credit - line_cost l) j lines)
dear f j credit l lines rest =
    ap (λ n. nat_le n credit && affords (credit - n) (placed_jump f j) (map (placed_line f) lines)) (line_costs f l)
    ∙ ap (λ b. nat_le (line_cost l) credit && b) rest

same_affords : (f : Layout) (j : Jump ℕ) (credit : ℕ) (lines : List (Line ℕ)) → affords credit (placed_jump f j) (map (placed_line f) lines) ≡ affords credit j lines
same_affords f j credit [] = ap (λ n. nat_le n credit) (jump_costs f j)
same_affords f j credit (Tick turn w ∷ lines) = same_affords f j (credit + 32 * w) lines
same_affords f j credit (Set to a ∷ lines) = dear f j credit (Set to a) lines (same_affords f j (credit - line_cost (Set to a)) lines)
same_affords f j credit (Operate to op a b ∷ lines) = dear f j credit (Operate to op a b) lines (same_affords f j (credit - line_cost (Operate to op a b)) lines)
same_affords f j credit (Load to op at ∷ lines) = dear f j credit (Load to op at) lines (same_affords f j (credit - line_cost (Load to op at)) lines)
same_affords f j credit (Store size a at ∷ lines) = dear f j credit (Store size a at) lines (same_affords f j (credit - line_cost (Store size a at)) lines)
same_affords f j credit (Alloc to size ∷ lines) = dear f j credit (Alloc to size) lines (same_affords f j (credit - line_cost (Alloc to size)) lines)
same_affords f j credit (Blit from to count ∷ lines) = dear f j credit (Blit from to count) lines (same_affords f j (credit - line_cost (Blit from to count)) lines)
same_affords f j credit (Call to callee args ∷ lines) = dear f j credit (Call to callee args) lines (same_affords f j (credit - line_cost (Call to callee args)) lines)

-- ---- the other facts, line by line and block by block

pub leads_same : (f : Layout) (n : ℕ) (j : Jump ℕ) → leads_inside n (placed_jump f j) ≡ leads_inside n j
leads_same f n (Goto k) = refl
leads_same f n (Branch on met otherwise) = refl
leads_same f n (Return a) = refl
leads_same f n Halt = refl

pub alloc_same : (f : Layout) (l : Line ℕ) → is_alloc (placed_line f l) ≡ is_alloc l
alloc_same f (Tick turn w) = refl
alloc_same f (Set to a) = refl
alloc_same f (Operate to op a b) = refl
alloc_same f (Load to op at) = refl
alloc_same f (Store size a at) = refl
alloc_same f (Alloc to size) = refl
alloc_same f (Blit from to count) = refl
alloc_same f (Call to callee args) = refl

pub bytes_same : (f : Layout) (l : Line ℕ) → alloc_bytes (placed_line f l) ≡ alloc_bytes l
bytes_same f (Tick turn w) = refl
bytes_same f (Set to a) = refl
bytes_same f (Operate to op a b) = refl
bytes_same f (Load to op at) = refl
bytes_same f (Store size a at) = refl
bytes_same f (Alloc to size) = refl
bytes_same f (Blit from to count) = refl
bytes_same f (Call to callee args) = refl

pub turns_same : (f : Layout) (l : Line ℕ) → turns_of (placed_line f l) ≡ turns_of l
turns_same f (Tick true w) = refl
turns_same f (Tick false w) = refl
turns_same f (Set to a) = refl
turns_same f (Operate to op a b) = refl
turns_same f (Load to op at) = refl
turns_same f (Store size a at) = refl
turns_same f (Alloc to size) = refl
turns_same f (Blit from to count) = refl
turns_same f (Call to callee args) = refl

pub few_same : (f : Layout) (l : Line ℕ) → passes_few (placed_line f l) ≡ passes_few l
few_same f (Tick turn w) = refl
few_same f (Set to a) = refl
few_same f (Operate to op a b) = refl
few_same f (Load to op at) = refl
few_same f (Store size a at) = refl
few_same f (Alloc to size) = refl
few_same f (Blit from to count) = refl
few_same f (Call to callee args) = ap (λ n. nat_le n 64) (map_length (placed_argument f) args)

no_allocs_same : (f : Layout) (b : Block ℕ) → not (list_any is_alloc (placed_block f b).lines) ≡ not (list_any is_alloc b.lines)
no_allocs_same f b = ap not (any_map is_alloc is_alloc (placed_line f) (alloc_same f) b.lines)

first_same : (f : Layout) (bs : List (Block ℕ)) → allocs_first (map (placed_block f) bs) ≡ allocs_first bs
first_same f [] = refl
first_same f (b ∷ bs) = all_map (λ (c : Block ℕ). not (list_any is_alloc c.lines)) (λ (c : Block Location). not (list_any is_alloc c.lines)) (placed_block f) (no_allocs_same f) bs

pub area_same : (f : Layout) (v : Code ℕ) (l : Code Location) → l.blocks ≡ map (placed_block f) v.blocks → area l ≡ area v
area_same f v l e =
    ap (λ (bs : List (Block Location)). sum_by (λ (b : Block Location). sum_by alloc_bytes b.lines) bs) e
    ∙ sum_map (λ (b : Block ℕ). sum_by alloc_bytes b.lines) (λ (b : Block Location). sum_by alloc_bytes b.lines) (placed_block f)
    (λ b. sum_map alloc_bytes alloc_bytes (placed_line f) (bytes_same f) b.lines) v.blocks

pub slots_regular : (v : Code ℕ) → IsRegular v → IsRegular (in_slots v)
slots_regular v r =
    record {
      few_params = subst (λ n. IsTrue (nat_le n 64)) (sym (map_length (placed_destination Slot) v.params)) r.few_params;
      inside =
          subst IsTrue
          (sym
          (ap (λ n. list_all (λ (b : Block Location). leads_inside n b.jump) (map (placed_block Slot) v.blocks)) (map_length (placed_block Slot) v.blocks)
          ∙ all_map (λ (b : Block ℕ). leads_inside (length v.blocks) b.jump) (λ (b : Block Location). leads_inside (length v.blocks) b.jump) (placed_block Slot)
          (λ b. leads_same Slot (length v.blocks) b.jump) v.blocks))
          r.inside;
      first = subst IsTrue (sym (first_same Slot v.blocks)) r.first;
      small = subst (λ n. IsTrue (nat_le n 1048576)) (sym (area_same Slot v (in_slots v) refl)) r.small;
      paid = subst IsTrue (sym (all_map is_paid is_paid (placed_block Slot) (λ b. same_affords Slot b.jump 0 b.lines) v.blocks)) r.paid;
      paced =
          subst IsTrue
          (sym
          (all_map (λ (b : Block ℕ). nat_le (sum_by turns_of b.lines) FUNCTION_WEIGHT) (λ (b : Block Location). nat_le (sum_by turns_of b.lines) FUNCTION_WEIGHT) (placed_block Slot)
          (λ b. ap (λ n. nat_le n FUNCTION_WEIGHT) (sum_map turns_of turns_of (placed_line Slot) (turns_same Slot) b.lines)) v.blocks))
          r.paced;
      few_args =
          subst IsTrue
          (sym
          (all_map (λ (b : Block ℕ). list_all passes_few b.lines) (λ (b : Block Location). list_all passes_few b.lines) (placed_block Slot)
          (λ b. all_map passes_few passes_few (placed_line Slot) (few_same Slot) b.lines) v.blocks))
          r.few_args;
    }

-- ---- the places

slot_operand : (n : ℕ) (a : Operand ℕ) → operand_keeps (is_place n) (placed_operand Slot a) ≡ operand_keeps (is_below n) a
slot_operand n (At r) = refl
slot_operand n (Number k) = refl
slot_operand n (Name g) = refl

slot_wanted : (n : ℕ) (to : Option (Destination ℕ)) → wanted_keeps (is_place n) (option_map (placed_destination Slot) to) ≡ wanted_keeps (is_below n) to
slot_wanted n None = refl
slot_wanted n (Some d) = refl

slot_line : (n : ℕ) (l : Line ℕ) → line_keeps (is_place n) (placed_line Slot l) ≡ line_keeps (is_below n) l
slot_line n (Tick turn w) = refl
slot_line n (Set to a) = simp slot_operand
slot_line n (Operate to op a b) = simp slot_operand
slot_line n (Load to op at) = simp slot_operand
slot_line n (Store size a at) = simp slot_operand
slot_line n (Alloc None size) = refl
slot_line n (Alloc (Some r) size) = refl
slot_line n (Blit from to count) = simp slot_operand
slot_line n (Call to callee args) =
    ap (λ b. b && (operand_keeps (is_place n) (placed_operand Slot callee) && list_all (λ (a : Argument Location). operand_keeps (is_place n) a.value) (map (placed_argument Slot) args))) (slot_wanted n to)
    ∙ ap (λ b. wanted_keeps (is_below n) to && (b && list_all (λ (a : Argument Location). operand_keeps (is_place n) a.value) (map (placed_argument Slot) args))) (slot_operand n callee)
    ∙ ap (λ b. wanted_keeps (is_below n) to && (operand_keeps (is_below n) callee && b))
    (all_map (λ (a : Argument ℕ). operand_keeps (is_below n) a.value) (λ (a : Argument Location). operand_keeps (is_place n) a.value) (placed_argument Slot) (λ a. slot_operand n a.value) args)

slot_jump : (n : ℕ) (j : Jump ℕ) → jump_keeps (is_place n) (placed_jump Slot j) ≡ jump_keeps (is_below n) j
slot_jump n (Goto k) = refl
slot_jump n (Branch on met otherwise) = simp slot_operand
slot_jump n (Return None) = refl
slot_jump n (Return (Some a)) = slot_operand n a.value
slot_jump n Halt = refl

slot_block : (n : ℕ) (b : Block ℕ) → block_keeps (is_place n) (placed_block Slot b) ≡ block_keeps (is_below n) b
slot_block n b =
    ap (λ t. t && jump_keeps (is_place n) (placed_jump Slot b.jump)) (all_map (line_keeps (is_below n)) (line_keeps (is_place n)) (placed_line Slot) (slot_line n) b.lines)
    ∙ ap (λ t. list_all (line_keeps (is_below n)) b.lines && t) (slot_jump n b.jump)

pub slots_known : (n : ℕ) (v : Code ℕ) → IsTrue (keeps_places (is_below n) v) → IsTrue (keeps_places (is_place n) (in_slots v))
slots_known n v h =
    subst IsTrue
    (sym
    (ap (λ t. t && list_all (block_keeps (is_place n)) (map (placed_block Slot) v.blocks))
    (all_map (λ (d : Destination ℕ). is_below n d.place) (λ (d : Destination Location). is_place n d.place) (placed_destination Slot) (λ d. refl) v.params)
    ∙ ap (λ t. list_all (λ (d : Destination ℕ). is_below n d.place) v.params && t) (all_map (block_keeps (is_below n)) (block_keeps (is_place n)) (placed_block Slot) (slot_block n) v.blocks)))
    h

pub slots_near : (params : List (Destination ℕ)) → IsTrue (are_low params) → IsTrue (are_near (map (placed_destination Slot) params))
slots_near params h =
    subst IsTrue
    (sym (all_map (λ (d : Destination ℕ). nat_lt d.place 128) (λ (d : Destination Location). is_near d.place) (placed_destination Slot) (λ d. refl) params))
    h

slots_distinct : (params : List (Destination ℕ)) → are_distinct located (map (placed_destination Slot) params) ≡ are_distinct virtual params
slots_distinct [] = refl
slots_distinct (d ∷ ds) =
    ap (λ t. not t && are_distinct located (map (placed_destination Slot) ds))
    (any_map (λ (e : Destination ℕ). nat_eq d.place e.place) (λ (e : Destination Location). located.same (Slot d.place) e.place) (placed_destination Slot) (λ e. refl) ds)
    ∙ ap (λ t. not (list_any (λ (e : Destination ℕ). nat_eq d.place e.place) ds) && t) (slots_distinct ds)

pub slots_apart : (params : List (Destination ℕ)) → IsTrue (are_distinct virtual params) → IsTrue (are_distinct located (map (placed_destination Slot) params))
slots_apart params h = subst IsTrue (sym (slots_distinct params)) h
