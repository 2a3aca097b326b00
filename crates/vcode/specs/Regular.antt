-- What every code keeps, whatever its places.
use Rattle.std.specs.Prelude.{ℕ, Bool, true, false, not, ◌&&◌, nat_lt, nat_le, IsTrue, List, [], ◌∷◌, length}
use Rattle.std.specs.List.{list_all, list_any, sum_by}
use Rattle.il_ast.specs.declared.limits.TheConstants.{FUNCTION_WEIGHT, ARGUMENTS, ALLOC_BYTES}
use Rattle.il_ast.specs.Prelude.{round_16}
use Rattle.vcode.specs.declared.line.Line.{Line}
use Rattle.vcode.specs.declared.line.Line.TheVariants.{Tick, Alloc, Call}
use Rattle.vcode.specs.declared.line.Jump.{Jump}
use Rattle.vcode.specs.declared.line.Jump.TheVariants.{Goto, Branch}
use Rattle.vcode.specs.declared.code.Block.{Block}
use Rattle.vcode.specs.declared.code.Code.{Code}
use Rattle.vcode.specs.Cost.{is_paid}

-- a jump names a block, and not the first
abbrev pub is_target : (blocks : ℕ) → ℕ → Bool
is_target blocks k = nat_lt 0 k && nat_lt k blocks

abbrev pub leads_inside : {P : Type 0} → (blocks : ℕ) → Jump P → Bool
leads_inside blocks (Goto k) = is_target blocks k
leads_inside blocks (Branch on met otherwise) = is_target blocks met && is_target blocks otherwise
leads_inside blocks j = true

abbrev pub is_alloc : {P : Type 0} → Line P → Bool
is_alloc (Alloc to size) = true
is_alloc l = false

-- blocks of memory are made in the first block alone, so that each is made once
abbrev pub allocs_first : {P : Type 0} → List (Block P) → Bool
allocs_first [] = true
allocs_first (b ∷ blocks) = list_all (λ c. not (list_any is_alloc c.lines)) blocks

-- the bytes of stack for an `alloc`
abbrev pub alloc_bytes : {P : Type 0} → Line P → ℕ
alloc_bytes (Alloc to size) = round_16 size
alloc_bytes l = 0

-- the bytes of stack for all blocks of memory that the code makes
abbrev pub area : {P : Type 0} → Code P → ℕ
area f = sum_by (λ b. sum_by alloc_bytes b.lines) f.blocks

abbrev pub turns_of : {P : Type 0} → Line P → ℕ
turns_of (Tick true w) = 1
turns_of l = 0

-- a call passes at most as many arguments as a function has parameters
abbrev pub passes_few : {P : Type 0} → Line P → Bool
passes_few (Call to callee args) = nat_le (length args) ARGUMENTS
passes_few l = true

abbrev pub weight_of : {P : Type 0} → Line P → ℕ
weight_of (Tick turn w) = w
weight_of l = 0

-- the weight of all ticks, each counted once
abbrev pub code_weight : {P : Type 0} → Code P → ℕ
code_weight f = sum_by (λ b. sum_by weight_of b.lines) f.blocks

pub record IsRegular {P : Type 0} (f : Code P) : Type 0 where
  pub few_params : IsTrue (nat_le (length f.params) ARGUMENTS)
  pub inside : IsTrue (list_all (λ b. leads_inside (length f.blocks) b.jump) f.blocks)
  pub first : IsTrue (allocs_first f.blocks)
  pub small : IsTrue (nat_le (area f) ALLOC_BYTES)
  pub paid : IsTrue (list_all is_paid f.blocks)
  pub paced : IsTrue (list_all (λ b. nat_le (sum_by turns_of b.lines) FUNCTION_WEIGHT) f.blocks)
  pub few_args : IsTrue (list_all (λ b. list_all passes_few b.lines) f.blocks)
