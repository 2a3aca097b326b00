-- Code with copies takes no more than the code did, and names registers of the function; and no marks are closed.
use Rattle.std.proofs.Common.{◌≡◌, ℕ, ◌≤◌, Bool, true, false, ◌&&◌, nat_le, if◌then◌else◌, List, [], ◌∷◌, map, Option, Some, None, refl, ◌∙◌, ap, arith}
use Rattle.std.specs.List.{list_all}
use Rattle.std.proofs.lemmas.List.{length-map}
use Rattle.std.proofs.lemmas.Bool.{and_from, and_parts}
use Rattle.vcode.specs.declared.place.Argument.{Argument}
use Rattle.vcode.specs.declared.place.Destination.{Destination}
use Rattle.vcode.specs.declared.line.Line.{Line}
use Rattle.vcode.specs.declared.line.Line.TheVariants.{Tick, Set, Operate, Load, Store, Alloc, Blit, Call}
use Rattle.vcode.specs.declared.line.Jump.{Jump}
use Rattle.vcode.specs.declared.line.Jump.TheVariants.{Goto, Branch, Return, Halt}
use Rattle.vcode.specs.declared.code.Block.{Block}
use Rattle.vcode.specs.declared.code.Code.{Code}
use Rattle.vcode.specs.declared.function.VFunc.{VFunc}
use Rattle.vcode.specs.Prelude.{line_cost, jump_cost, operand_keeps, wanted_keeps, line_keeps, jump_keeps, block_keeps, is_below, leads_inside}
use Rattle.vcode.proofs.Measuring.{measure, nothing_taken, Measured, Empty, Put, within, each_mapped}
use Rattle.vcode.proofs.Results.{Serves, Owed, owed_each}
use Rattle.sign_extensions.specs.Whole.{takes_whole, wants_whole, keeps_marks, are_closed, is_extension, with_claim, jump_claim, with_copy, with_copies}
use Rattle.sign_extensions.proofs.Running.{runs}

-- ---- without marks
none_takes : (d : Destination ℕ) → takes_whole [] d ≡ true
none_takes d = refl

none_wants : (to : Option (Destination ℕ)) → wants_whole [] to ≡ true
none_wants None = refl
none_wants (Some d) = refl

none_keeps : (l : Line ℕ) → keeps_marks [] l ≡ true
none_keeps (Tick turn w) = refl
none_keeps (Set to a) = refl
none_keeps (Operate to op a b) = refl
none_keeps (Load to op at) = refl
none_keeps (Store size a at) = refl
none_keeps (Alloc to size) = refl
none_keeps (Blit from to count) = refl
none_keeps (Call to callee args) = none_wants to

every : {X : Type 0} (test : X → Bool) → ((x : X) → test x ≡ true) → (xs : List X) → list_all test xs ≡ true
every test h [] = refl
every test h (x ∷ xs) = and_from (test x) (list_all test xs) (h x) (every test h xs)

pub none_closed : (f : Code ℕ) → are_closed [] f ≡ true
none_closed f =
    and_from (list_all (takes_whole []) f.params) (list_all (λ (b : Block ℕ). list_all (keeps_marks []) b.lines) f.blocks) (every (takes_whole []) none_takes f.params)
    (every (λ (b : Block ℕ). list_all (keeps_marks []) b.lines) (λ b. every (keeps_marks []) none_keeps b.lines) f.blocks)

-- ---- what lines take

either : {X : Type 0} (g : Line ℕ → X) (x : X) (l m : Line ℕ) (t : Bool) → g l ≡ x → g m ≡ x → g (if t then l else m) ≡ x
either g x l m true h k = h
either g x l m false h k = k

measure_stays : (marks : List Bool) (l : Line ℕ) → measure (with_copy marks l) ≡ measure l
measure_stays marks (Tick turn w) = refl
measure_stays marks (Set to a) = refl
measure_stays marks (Operate to op a b) = either measure nothing_taken (Set to a) (Operate to op a b) (is_extension marks op a b) refl refl
measure_stays marks (Load to op at) = refl
measure_stays marks (Store size a at) = refl
measure_stays marks (Alloc to size) = refl
measure_stays marks (Blit from to count) = refl
measure_stays marks (Call to callee args) =
    ap (λ n. record { weight = 0; turns = 0; bytes = 0; few = nat_le n 64; makes = false }) (length-map args (with_claim marks))

line_costs : (marks : List Bool) (l : Line ℕ) → line_cost (with_copy marks l) ≤ line_cost l
line_costs marks (Tick turn w) = omega arith
line_costs marks (Set to a) = omega arith
line_costs marks (Operate to op a b) = by (is_extension marks op a b)
  where
    by : (t : Bool) → line_cost (if t then Set to a else Operate to op a b) ≤ line_cost (Operate to op a b)
    by true = omega arith
    by false = omega arith
line_costs marks (Load to op at) = omega arith
line_costs marks (Store size a at) = omega arith
line_costs marks (Alloc to size) = omega arith
line_costs marks (Blit from to count) = omega arith
line_costs marks (Call to callee args) = let many = length-map args (with_claim marks) in omega (arith, many)

lines_measured : (marks : List Bool) (lines : List (Line ℕ)) → Measured false lines (map (with_copy marks) lines)
lines_measured marks [] = Empty
lines_measured marks (l ∷ lines) = Put (measure_stays marks l) (λ e. line_costs marks l) (lines_measured marks lines)

all_same : {X : Type 0} (test : X → Bool) (f : X → X) → ((x : X) → test (f x) ≡ test x) → (xs : List X) → list_all test (map f xs) ≡ list_all test xs
all_same test f same [] = refl
all_same test f same (x ∷ xs) = ap (λ b. b && list_all test (map f xs)) (same x) ∙ ap (λ b. test x && b) (all_same test f same xs)

all_kept : {X : Type 0} (test : X → Bool) (f : X → X) → ((x : X) → test x ≡ true → test (f x) ≡ true) → (xs : List X) → list_all test xs ≡ true → list_all test (map f xs) ≡ true
all_kept test f kept [] h = refl
all_kept test f kept (x ∷ xs) h =
    let s = and_parts (test x) (list_all test xs) h in and_from (test (f x)) (list_all test (map f xs)) (kept x s.0) (all_kept test f kept xs s.1)

-- ---- of a jump

claim_costs : (marks : List Bool) (j : Jump ℕ) → jump_cost (jump_claim marks j) ≡ jump_cost j
claim_costs marks (Goto k) = refl
claim_costs marks (Branch on met otherwise) = refl
claim_costs marks (Return None) = refl
claim_costs marks (Return (Some a)) = refl
claim_costs marks Halt = refl

claim_leads : (marks : List Bool) (n : ℕ) (j : Jump ℕ) → leads_inside n (jump_claim marks j) ≡ leads_inside n j
claim_leads marks n (Goto k) = refl
claim_leads marks n (Branch on met otherwise) = refl
claim_leads marks n (Return a) = refl
claim_leads marks n Halt = refl

claim_names : (marks : List Bool) (test : ℕ → Bool) (j : Jump ℕ) → jump_keeps test (jump_claim marks j) ≡ jump_keeps test j
claim_names marks test (Goto k) = refl
claim_names marks test (Branch on met otherwise) = refl
claim_names marks test (Return None) = refl
claim_names marks test (Return (Some a)) = refl
claim_names marks test Halt = refl

-- ---- the places that it names

line_low : (marks : List Bool) (n : ℕ) (l : Line ℕ) → line_keeps (is_below n) l ≡ true → line_keeps (is_below n) (with_copy marks l) ≡ true
line_low marks n (Tick turn w) h = h
line_low marks n (Set to a) h = h
line_low marks n (Operate to op a b) h = by (is_extension marks op a b)
  where
    by : (t : Bool) → line_keeps (is_below n) (if t then Set to a else Operate to op a b) ≡ true
    by true =
        let s = and_parts (is_below n to) (operand_keeps (is_below n) a && operand_keeps (is_below n) b) h in
        and_from (is_below n to) (operand_keeps (is_below n) a) s.0 (and_parts (operand_keeps (is_below n) a) (operand_keeps (is_below n) b) s.1).0
    by false = h
line_low marks n (Load to op at) h = h
line_low marks n (Store size a at) h = h
line_low marks n (Alloc to size) h = h
line_low marks n (Blit from to count) h = h
line_low marks n (Call to callee args) h =
    ap (λ t. wanted_keeps (is_below n) to && (operand_keeps (is_below n) callee && t)) (all_same (λ (a : Argument ℕ). operand_keeps (is_below n) a.value) (with_claim marks) (λ a. refl) args) ∙ h

block_low : (marks : List Bool) (n : ℕ) (b : Block ℕ) → block_keeps (is_below n) b ≡ true → block_keeps (is_below n) (with_copies marks b) ≡ true
block_low marks n b h =
    let s = and_parts (list_all (line_keeps (is_below n)) b.lines) (jump_keeps (is_below n) b.jump) h in
    and_from (list_all (line_keeps (is_below n)) (map (with_copy marks) b.lines)) (jump_keeps (is_below n) (jump_claim marks b.jump)) (all_kept (line_keeps (is_below n)) (with_copy marks) (line_low marks n) b.lines s.0)
    (claim_names marks (is_below n) b.jump ∙ s.1)

-- ---- the whole

block_serves : (marks : List Bool) (n : ℕ) (b : Block ℕ) → Serves n n b (with_copies marks b)
block_serves marks n b =
    record {
      within = within b (with_copies marks b) (lines_measured marks b.lines) (let same = claim_costs marks b.jump in omega (arith, same));
      inside = λ m h. claim_leads marks m b.jump ∙ h;
      names = block_low marks n b;
    }

pub owed : (marks : List Bool) (v : VFunc) → are_closed marks v.code ≡ true → Owed v v.registers (map (with_copies marks) v.code.blocks)
owed marks v closed =
    owed_each v v.registers (map (with_copies marks) v.code.blocks) (omega arith) (each_mapped (Serves v.registers v.registers) (with_copies marks) (block_serves marks v.registers) v.code.blocks) (runs marks v.code closed)
