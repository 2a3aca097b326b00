-- What a code keeps, the code that a certificate makes of it keeps too: moves are no ticks, no calls and no blocks of memory.
use Rattle.std.proofs.Common.{◌≡◌, ℕ, suc, ◌+◌, ◌≤◌, Bool, true, false, not, ◌&&◌, ◌||◌, nat_le, List, [], ◌∷◌, ◌++◌, length, fold, refl, sym, ◌∙◌, ap, subst, arith, IsTrue}
use Rattle.std.specs.List.{list_all, list_any, sum_by}
use Rattle.std.proofs.lemmas.Bool.Decides.{nat_tests}
use Rattle.il_ast.specs.declared.limits.TheConstants.{FUNCTION_WEIGHT}
use Rattle.vcode.specs.declared.place.Location.{Location}
use Rattle.vcode.specs.declared.place.Operand.{Operand}
use Rattle.vcode.specs.declared.place.Operand.TheVariants.{At}
use Rattle.vcode.specs.declared.place.Destination.{Destination}
use Rattle.vcode.specs.declared.line.Line.{Line}
use Rattle.vcode.specs.declared.line.Line.TheVariants.{Tick, Set, Operate, Load, Store, Alloc, Blit, Call}
use Rattle.vcode.specs.declared.code.Block.{Block}
use Rattle.vcode.specs.declared.code.Code.{Code}
use Rattle.vcode.specs.Prelude.{is_paid, leads_inside, is_alloc, allocs_first, alloc_bytes, area, turns_of, passes_few, weight_of, code_weight, IsRegular}
use Rattle.certificates.specs.declared.certificate.Transfer.{Transfer}
use Rattle.certificates.specs.declared.certificate.Certificate.{Certificate}
use Rattle.alloc_check.specs.Prelude.{Layout, placed_line, moves_at, layout_at, transfers, next_point, jump_point, certified_lines, certified_block, certified_blocks, certified_params, placed_by, moves_before}
use Rattle.alloc_check.proofs.Regular.{leads_same, alloc_same, bytes_same, turns_same, few_same}
use Rattle.alloc_check.proofs.Walks.{lines_on, append_three}

pub to_true : (b : Bool) → b ≡ true → IsTrue b
to_true b e = e

pub from_true : (b : Bool) → IsTrue b → b ≡ true
from_true b h = h

-- a line, its moves and what follows
pub line_on : (c : Certificate) (p : ℕ) (l : Line ℕ) (lines : List (Line ℕ))
    → certified_lines c p (l ∷ lines) ≡ transfers (moves_before c p l) ++ placed_line (layout_at c p) l ∷ certified_lines c (next_point p l) lines
line_on c p l lines = lines_on c p l lines ∙ append_three (transfers (moves_before c p l)) (placed_line (layout_at c p) l ∷ []) (certified_lines c (next_point p l) lines)

pub no_rest : (xs : List (Line Location)) → xs ≡ xs ++ []
no_rest [] = refl
no_rest (x ∷ xs) = ap (λ zs. x ∷ zs) (no_rest xs)

-- ---- a test that moves pass

moves_pass : (made : Line Location → Bool) → ((q : Location) (a : Operand Location) → made (Set q a) ≡ true) → (ms : List Transfer) (rest : List (Line Location))
    → list_all made (transfers ms ++ rest) ≡ list_all made rest
moves_pass made sets [] rest = refl
moves_pass made sets (m ∷ ms) rest = ap (λ b. b && list_all made (transfers ms ++ rest)) (sets m.to (At m.from)) ∙ moves_pass made sets ms rest

pub lines_pass : (test : Line ℕ → Bool) (made : Line Location → Bool) → ((q : Location) (a : Operand Location) → made (Set q a) ≡ true)
    → ((f : Layout) (l : Line ℕ) → made (placed_line f l) ≡ test l) → (c : Certificate) (p : ℕ) (lines : List (Line ℕ))
    → list_all made (certified_lines c p lines) ≡ list_all test lines
lines_pass test made sets same c p [] = ap (list_all made) (no_rest (transfers (moves_at c p))) ∙ moves_pass made sets (moves_at c p) []
lines_pass test made sets same c p (l ∷ lines) =
    ap (list_all made) (line_on c p l lines)
    ∙ moves_pass made sets (moves_before c p l) (placed_line (layout_at c p) l ∷ certified_lines c (next_point p l) lines)
    ∙ ap (λ b. b && list_all made (certified_lines c (next_point p l) lines)) (same (layout_at c p) l)
    ∙ ap (λ b. test l && b) (lines_pass test made sets same c (next_point p l) lines)

-- ---- a test that no move passes

moves_fail : (made : Line Location → Bool) → ((q : Location) (a : Operand Location) → made (Set q a) ≡ false) → (ms : List Transfer) (rest : List (Line Location))
    → list_any made (transfers ms ++ rest) ≡ list_any made rest
moves_fail made sets [] rest = refl
moves_fail made sets (m ∷ ms) rest = ap (λ b. b || list_any made (transfers ms ++ rest)) (sets m.to (At m.from)) ∙ moves_fail made sets ms rest

lines_fail : (test : Line ℕ → Bool) (made : Line Location → Bool) → ((q : Location) (a : Operand Location) → made (Set q a) ≡ false)
    → ((f : Layout) (l : Line ℕ) → made (placed_line f l) ≡ test l) → (c : Certificate) (p : ℕ) (lines : List (Line ℕ))
    → list_any made (certified_lines c p lines) ≡ list_any test lines
lines_fail test made sets same c p [] = ap (list_any made) (no_rest (transfers (moves_at c p))) ∙ moves_fail made sets (moves_at c p) []
lines_fail test made sets same c p (l ∷ lines) =
    ap (list_any made) (line_on c p l lines)
    ∙ moves_fail made sets (moves_before c p l) (placed_line (layout_at c p) l ∷ certified_lines c (next_point p l) lines)
    ∙ ap (λ b. b || list_any made (certified_lines c (next_point p l) lines)) (same (layout_at c p) l)
    ∙ ap (λ b. test l || b) (lines_fail test made sets same c (next_point p l) lines)

-- ---- a sum to which moves add nothing

moves_add : (g : Line Location → ℕ) → ((q : Location) (a : Operand Location) → g (Set q a) ≡ 0) → (n : ℕ) (ms : List Transfer) (rest : List (Line Location))
    → fold (λ k x. k + g x) n (transfers ms ++ rest) ≡ fold (λ k x. k + g x) n rest
moves_add g sets n [] rest = refl
moves_add g sets n (m ∷ ms) rest =
    ap (λ k. fold (λ j x. j + g x) k (transfers ms ++ rest)) (let e = sets m.to (At m.from) in let f : n + g (Set m.to (At m.from)) ≡ n = omega arith in f) ∙ moves_add g sets n ms rest

lines_add : (f : Line ℕ → ℕ) (g : Line Location → ℕ) → ((q : Location) (a : Operand Location) → g (Set q a) ≡ 0)
    → ((h : Layout) (l : Line ℕ) → g (placed_line h l) ≡ f l) → (c : Certificate) (p n : ℕ) (lines : List (Line ℕ))
    → fold (λ k x. k + g x) n (certified_lines c p lines) ≡ fold (λ k x. k + f x) n lines
lines_add f g sets same c p n [] = ap (fold (λ k x. k + g x) n) (no_rest (transfers (moves_at c p))) ∙ moves_add g sets n (moves_at c p) []
lines_add f g sets same c p n (l ∷ lines) =
    ap (fold (λ k x. k + g x) n) (line_on c p l lines)
    ∙ moves_add g sets n (moves_before c p l) (placed_line (layout_at c p) l ∷ certified_lines c (next_point p l) lines)
    ∙ ap (λ k. fold (λ j x. j + g x) (n + k) (certified_lines c (next_point p l) lines)) (same (layout_at c p) l)
    ∙ lines_add f g sets same c (next_point p l) (n + f l) lines

pub lines_sum : (f : Line ℕ → ℕ) (g : Line Location → ℕ) → ((q : Location) (a : Operand Location) → g (Set q a) ≡ 0)
    → ((h : Layout) (l : Line ℕ) → g (placed_line h l) ≡ f l) → (c : Certificate) (p : ℕ) (lines : List (Line ℕ)) → sum_by g (certified_lines c p lines) ≡ sum_by f lines
lines_sum f g sets same c p lines = lines_add f g sets same c p 0 lines

-- ---- blocks

pub blocks_pass : (test : Block ℕ → Bool) (made : Block Location → Bool) (c : Certificate) → ((p : ℕ) (b : Block ℕ) → made (certified_block c p b) ≡ test b)
    → (p : ℕ) (blocks : List (Block ℕ)) → list_all made (certified_blocks c p blocks) ≡ list_all test blocks
blocks_pass test made c same p [] = refl
blocks_pass test made c same p (b ∷ blocks) =
    ap (λ t. t && list_all made (certified_blocks c (jump_point p b.lines + 1) blocks)) (same p b)
    ∙ ap (λ t. test b && t) (blocks_pass test made c same (jump_point p b.lines + 1) blocks)

blocks_add : (f : Block ℕ → ℕ) (g : Block Location → ℕ) (c : Certificate) → ((p : ℕ) (b : Block ℕ) → g (certified_block c p b) ≡ f b)
    → (p n : ℕ) (blocks : List (Block ℕ)) → fold (λ k x. k + g x) n (certified_blocks c p blocks) ≡ fold (λ k x. k + f x) n blocks
blocks_add f g c same p n [] = refl
blocks_add f g c same p n (b ∷ blocks) =
    ap (λ k. fold (λ j x. j + g x) (n + k) (certified_blocks c (jump_point p b.lines + 1) blocks)) (same p b)
    ∙ blocks_add f g c same (jump_point p b.lines + 1) (n + f b) blocks

blocks_count : (c : Certificate) (p : ℕ) (blocks : List (Block ℕ)) → length (certified_blocks c p blocks) ≡ length blocks
blocks_count c p [] = refl
blocks_count c p (b ∷ blocks) = ap suc (blocks_count c (jump_point p b.lines + 1) blocks)

params_count : (ds : List (Destination ℕ)) (qs : List Location) → length (certified_params ds qs) ≤ length ds
params_count [] qs = omega arith
params_count (d ∷ ds) [] = omega arith
params_count (d ∷ ds) (q ∷ qs) = let low = params_count ds qs in omega arith

first_same : (c : Certificate) (p : ℕ) (blocks : List (Block ℕ)) → allocs_first (certified_blocks c p blocks) ≡ allocs_first blocks
first_same c p [] = refl
first_same c p (b ∷ blocks) =
    blocks_pass (λ (x : Block ℕ). not (list_any is_alloc x.lines)) (λ (x : Block Location). not (list_any is_alloc x.lines)) c
    (λ q x. ap not (lines_fail is_alloc is_alloc (λ at a. refl) alloc_same c q x.lines)) (jump_point p b.lines + 1) blocks

pub area_same : (v : Code ℕ) (c : Certificate) → area (placed_by v c) ≡ area v
area_same v c =
    blocks_add (λ (b : Block ℕ). sum_by alloc_bytes b.lines) (λ (b : Block Location). sum_by alloc_bytes b.lines) c
    (λ p b. lines_sum alloc_bytes alloc_bytes (λ q a. refl) bytes_same c p b.lines) 0 0 v.blocks

pub weight_same : (f : Layout) (l : Line ℕ) → weight_of (placed_line f l) ≡ weight_of l
weight_same f (Tick turn w) = refl
weight_same f (Set to a) = refl
weight_same f (Operate to op a b) = refl
weight_same f (Load to op at) = refl
weight_same f (Store size a at) = refl
weight_same f (Alloc to size) = refl
weight_same f (Blit from to count) = refl
weight_same f (Call to callee args) = refl

pub weighs_same : (v : Code ℕ) (c : Certificate) → code_weight (placed_by v c) ≡ code_weight v
weighs_same v c =
    blocks_add (λ (b : Block ℕ). sum_by weight_of b.lines) (λ (b : Block Location). sum_by weight_of b.lines) c
    (λ p b. lines_sum weight_of weight_of (λ q a. refl) weight_same c p b.lines) 0 0 v.blocks

-- ---- all of it

pub certified_regular : (v : Code ℕ) (c : Certificate) → IsRegular v → list_all is_paid (placed_by v c).blocks ≡ true → IsRegular (placed_by v c)
certified_regular v c r paid =
    record {
      few_params =
          to_true (nat_le (length (certified_params v.params c.params)) 64)
          (let few : nat_le (length v.params) 64 ≡ true = from_true (nat_le (length v.params) 64) r.few_params in
          let low = params_count v.params c.params in
          grind (arith, nat_tests));
      inside =
          subst IsTrue
          (sym
          (ap (λ n. list_all (λ (b : Block Location). leads_inside n b.jump) (certified_blocks c 0 v.blocks)) (blocks_count c 0 v.blocks)
          ∙ blocks_pass (λ (b : Block ℕ). leads_inside (length v.blocks) b.jump) (λ (b : Block Location). leads_inside (length v.blocks) b.jump) c
          (λ p b. leads_same (layout_at c (jump_point p b.lines)) (length v.blocks) b.jump) 0 v.blocks))
          r.inside;
      first = subst IsTrue (sym (first_same c 0 v.blocks)) r.first;
      small = subst (λ n. IsTrue (nat_le n 1048576)) (sym (area_same v c)) r.small;
      paid = to_true (list_all is_paid (placed_by v c).blocks) paid;
      paced =
          subst IsTrue
          (sym
          (blocks_pass (λ (b : Block ℕ). nat_le (sum_by turns_of b.lines) FUNCTION_WEIGHT) (λ (b : Block Location). nat_le (sum_by turns_of b.lines) FUNCTION_WEIGHT) c
          (λ p b. ap (λ n. nat_le n FUNCTION_WEIGHT) (lines_sum turns_of turns_of (λ q a. refl) turns_same c p b.lines)) 0 v.blocks))
          r.paced;
      few_args =
          subst IsTrue
          (sym
          (blocks_pass (λ (b : Block ℕ). list_all passes_few b.lines) (λ (b : Block Location). list_all passes_few b.lines) c
          (λ p b. lines_pass passes_few passes_few (λ q a. refl) few_same c p b.lines) 0 v.blocks))
          r.few_args;
    }
