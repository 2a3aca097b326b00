-- What other operands leave of lines and jumps: all measures, the registers below a bound, and where jumps lead.
use Rattle.std.proofs.Common.{◌≡◌, ℕ, suc, ◌+◌, ◌*◌, ◌/◌, true, false, ◌&&◌, nat_le, List, [], ◌∷◌, map, length, None, Some, refl, ◌∙◌, ap}
use Rattle.std.specs.List.{list_all}
use Rattle.std.proofs.lemmas.Bool.{and_parts, and_from}
use Rattle.vcode.specs.Prelude.{Operand, Argument, Line, Tick, Set, Operate, Load, Store, Alloc, Blit, Call, Jump, Goto, Branch, Return, Halt, operand_cost, place_cost, operation_cost, line_cost, branch_cost, jump_cost, operand_keeps, wanted_keeps, line_keeps, jump_keeps, is_below, leads_inside, Replacing, with_argument, with_line, with_jump}
use Rattle.vcode.proofs.Measuring.{measure}

-- ---- what a line takes, which other operands leave

pub args_count : (f : Replacing) (args : List (Argument ℕ)) → length (map (with_argument f) args) ≡ length args
args_count f [] = refl
args_count f (a ∷ args) = ap suc (args_count f args)

pub measure_stays : (f : Replacing) (l : Line ℕ) → measure (with_line f l) ≡ measure l
measure_stays f (Tick turn w) = refl
measure_stays f (Set to a) = refl
measure_stays f (Operate to op a b) = refl
measure_stays f (Load to op at) = refl
measure_stays f (Store size a at) = refl
measure_stays f (Alloc to size) = refl
measure_stays f (Blit from to count) = refl
measure_stays f (Call to callee args) =
    ap (λ n. record { weight = 0; turns = 0; bytes = 0; few = nat_le n 64; makes = false }) (args_count f args)

-- ---- what pays

-- operands that cost what those in whose place they stand do
abbrev pub Costs : Replacing → Type 0
Costs f = (a : Operand ℕ) → operand_cost (f a) ≡ operand_cost a

pub line_cost_same : (f : Replacing) → Costs f → (l : Line ℕ) → line_cost (with_line f l) ≡ line_cost l
line_cost_same f same (Tick turn w) = refl
line_cost_same f same (Set to a) = ap (λ n. n + place_cost) (same a)
line_cost_same f same (Operate to op a b) =
    ap (λ n. n + operand_cost (f b) + operation_cost op + place_cost) (same a) ∙ ap (λ n. operand_cost a + n + operation_cost op + place_cost) (same b)
line_cost_same f same (Load to op at) = ap (λ n. n + 1 + place_cost) (same at.base)
line_cost_same f same (Store size a at) = ap (λ n. n + operand_cost (f at.base) + 1) (same a) ∙ ap (λ n. operand_cost a + n + 1) (same at.base)
line_cost_same f same (Alloc to size) = refl
line_cost_same f same (Blit from to count) =
    ap (λ n. n + operand_cost (f to) + 8 * ((count + 7) / 8)) (same from) ∙ ap (λ n. operand_cost from + n + 8 * ((count + 7) / 8)) (same to)
line_cost_same f same (Call to callee args) = ap (λ n. 20 + 24 * n) (args_count f args)

pub jump_cost_same : (f : Replacing) → Costs f → (j : Jump ℕ) → jump_cost (with_jump f j) ≡ jump_cost j
jump_cost_same f same (Goto k) = refl
jump_cost_same f same (Branch on met otherwise) =
    ap (λ n. n + operand_cost (f on.right) + branch_cost on.class) (same on.left) ∙ ap (λ n. operand_cost on.left + n + branch_cost on.class) (same on.right)
jump_cost_same f same (Return None) = refl
jump_cost_same f same (Return (Some a)) = ap (λ n. n + 3) (same a.value)
jump_cost_same f same Halt = refl

-- ---- the registers that they name

-- a replacing that leaves operands below n
abbrev pub Low : ℕ → Replacing → Type 0
Low n f = (a : Operand ℕ) → operand_keeps (is_below n) a ≡ true → operand_keeps (is_below n) (f a) ≡ true

two_low : (n : ℕ) (f : Replacing) → Low n f → (a b : Operand ℕ) → (operand_keeps (is_below n) a && operand_keeps (is_below n) b) ≡ true → (operand_keeps (is_below n) (f a) && operand_keeps (is_below n) (f b)) ≡ true
two_low n f low a b h =
    let s = and_parts (operand_keeps (is_below n) a) (operand_keeps (is_below n) b) h in and_from (operand_keeps (is_below n) (f a)) (operand_keeps (is_below n) (f b)) (low a s.0) (low b s.1)

pub args_low : (n : ℕ) (f : Replacing) → Low n f → (args : List (Argument ℕ)) → list_all (λ (a : Argument ℕ). operand_keeps (is_below n) a.value) args ≡ true
    → list_all (λ (a : Argument ℕ). operand_keeps (is_below n) a.value) (map (with_argument f) args) ≡ true
args_low n f low [] h = refl
args_low n f low (a ∷ args) h =
    let s = and_parts (operand_keeps (is_below n) a.value) (list_all (λ (b : Argument ℕ). operand_keeps (is_below n) b.value) args) h in
    and_from (operand_keeps (is_below n) (f a.value)) (list_all (λ (b : Argument ℕ). operand_keeps (is_below n) b.value) (map (with_argument f) args)) (low a.value s.0) (args_low n f low args s.1)

pub line_low : (n : ℕ) (f : Replacing) → Low n f → (l : Line ℕ) → line_keeps (is_below n) l ≡ true → line_keeps (is_below n) (with_line f l) ≡ true
line_low n f low (Tick turn w) h = refl
line_low n f low (Set to a) h =
    let s = and_parts (is_below n to) (operand_keeps (is_below n) a) h in and_from (is_below n to) (operand_keeps (is_below n) (f a)) s.0 (low a s.1)
line_low n f low (Operate to op a b) h =
    let s = and_parts (is_below n to) (operand_keeps (is_below n) a && operand_keeps (is_below n) b) h in
    and_from (is_below n to) (operand_keeps (is_below n) (f a) && operand_keeps (is_below n) (f b)) s.0 (two_low n f low a b s.1)
line_low n f low (Load to op at) h =
    let s = and_parts (is_below n to) (operand_keeps (is_below n) at.base) h in and_from (is_below n to) (operand_keeps (is_below n) (f at.base)) s.0 (low at.base s.1)
line_low n f low (Store size a at) h = two_low n f low a at.base h
line_low n f low (Alloc to size) h = h
line_low n f low (Blit from to count) h = two_low n f low from to h
line_low n f low (Call to callee args) h =
    let s = and_parts (wanted_keeps (is_below n) to) (operand_keeps (is_below n) callee && list_all (λ (a : Argument ℕ). operand_keeps (is_below n) a.value) args) h in
    let t = and_parts (operand_keeps (is_below n) callee) (list_all (λ (a : Argument ℕ). operand_keeps (is_below n) a.value) args) s.1 in
    and_from (wanted_keeps (is_below n) to) (operand_keeps (is_below n) (f callee) && list_all (λ (a : Argument ℕ). operand_keeps (is_below n) a.value) (map (with_argument f) args)) s.0
    (and_from (operand_keeps (is_below n) (f callee)) (list_all (λ (a : Argument ℕ). operand_keeps (is_below n) a.value) (map (with_argument f) args)) (low callee t.0) (args_low n f low args t.1))

pub jump_low : (n : ℕ) (f : Replacing) → Low n f → (j : Jump ℕ) → jump_keeps (is_below n) j ≡ true → jump_keeps (is_below n) (with_jump f j) ≡ true
jump_low n f low (Goto k) h = refl
jump_low n f low (Branch on met otherwise) h = two_low n f low on.left on.right h
jump_low n f low (Return None) h = refl
jump_low n f low (Return (Some a)) h = low a.value h
jump_low n f low Halt h = refl

-- ---- where jumps lead

pub inside_same : (n : ℕ) (f : Replacing) (j : Jump ℕ) → leads_inside n (with_jump f j) ≡ leads_inside n j
inside_same n f (Goto k) = refl
inside_same n f (Branch on met otherwise) = refl
inside_same n f (Return None) = refl
inside_same n f (Return (Some a)) = refl
inside_same n f Halt = refl
