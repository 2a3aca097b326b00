-- The rules of one function, each as the line of the first place that breaks it.
use Rattle.std.specs.Prelude.{ℕ, Bool, true, false, not, nat_eq, nat_lt, ◌&&◌, ◌||◌, List, [], ◌∷◌, map, Option, Some, None, is_none}
use Rattle.std.specs.List.{list_any, list_all, count_by}
use Rattle.il_ast.specs.declared.limits.TheConstants.{ALLOC_BYTES, BLIT_BYTES}
use Rattle.il_ast.specs.declared.operation.Class.{Class}
use Rattle.il_ast.specs.declared.operation.Class.TheVariants.{W, L}
use Rattle.il_ast.specs.declared.operation.Extension.TheVariants.{SignedWord, UnsignedWord, SignedHalf, UnsignedHalf, SignedByte, UnsignedByte}
use Rattle.il_ast.specs.declared.operation.UnaryOp.{UnaryOp}
use Rattle.il_ast.specs.declared.operation.UnaryOp.TheVariants.{Neg, Copy, Extend, LoadLong, Load}
use Rattle.il_ast.specs.declared.operand.Val.{Val}
use Rattle.il_ast.specs.declared.operand.Val.TheVariants.{Int, Temp, Global}
use Rattle.il_ast.specs.declared.instruction.Inst.{Inst}
use Rattle.il_ast.specs.declared.instruction.Inst.TheVariants.{Unary, Alloc, Blit}
use Rattle.il_ast.specs.declared.instruction.Jump.{Jump}
use Rattle.il_ast.specs.declared.instruction.Jump.TheVariants.{Goto, Branch, Return, Halt}
use Rattle.il_ast.specs.declared.instruction.Lined.{Lined}
use Rattle.il_ast.specs.declared.block.Phi.{Phi}
use Rattle.il_ast.specs.declared.block.PhiArg.{PhiArg}
use Rattle.il_ast.specs.declared.block.Block.{Block}
use Rattle.il_ast.specs.declared.function.Param.{Param}
use Rattle.il_ast.specs.declared.function.Func.{Func}
use Rattle.il_types.specs.declared.site.Definer.{Definer}
use Rattle.il_types.specs.declared.site.Operand.{Operand}
use Rattle.il_types.specs.declared.site.Site.{Site}
use Rattle.il_types.specs.First.{when, or_else, first}
use Rattle.il_types.specs.Marks.{is_given}
use Rattle.il_types.specs.Sites.{definers_of, operands_of, targets_of, sources_of}

-- ---- no name twice

-- how often a number is named
abbrev pub times : ℕ → List Site → ℕ
times n sites = count_by (λ (s : Site). nat_eq s.number n) sites

-- a place whose number is named more than once
abbrev pub first_repeated : List Site → Option ℕ
first_repeated sites = first (λ (s : Site). when (nat_lt 1 (times s.number sites)) s.line) sites

abbrev pub param_sites : List Param → List Site
param_sites params = map (λ (p : Param). record { line = p.line; number = p.temp }) params

abbrev pub label_sites : List Block → List Site
label_sites blocks = map (λ (b : Block). record { line = b.line; number = b.label }) blocks

abbrev pub phi_sites : List Phi → List Site
phi_sites phis = map (λ (p : Phi). record { line = p.line; number = p.to.temp }) phis

-- distinct locals: parameters, and labels
abbrev pub repeated_local : Func → Option ℕ
repeated_local f =
    or_else (first_repeated (param_sites f.params)) (first_repeated (label_sites f.blocks))

-- ---- labels

abbrev pub is_label : List Block → ℕ → Bool
is_label blocks l = list_any (λ (b : Block). nat_eq b.label l) blocks

-- known labels: in jumps, and in phis
abbrev pub unknown_label : Func → Option ℕ
unknown_label f =
    or_else (first (λ (s : Site). when (not (is_label f.blocks s.number)) s.line) (targets_of f))
    (first (λ (s : Site). when (not (is_label f.blocks s.number)) s.line) (sources_of f))

abbrev pub is_entry : List Block → ℕ → Bool
is_entry [] l = false
is_entry (b ∷ blocks) l = nat_eq b.label l

-- entry not a target
abbrev pub jump_to_entry : Func → Option ℕ
jump_to_entry f = first (λ (s : Site). when (is_entry f.blocks s.number) s.line) (targets_of f)

-- last block ends: any other block without a jump goes on at the next one
abbrev pub block_without_jump : Func → Option ℕ
block_without_jump f = first (λ (b : Block). when (is_none b.jump) b.line) f.blocks

-- ---- temporaries

-- one type: a temporary that is assigned with both classes
abbrev pub two_types : Func → Option ℕ
two_types f =
    first (λ (d : Definer). when (is_given W d.temp (definers_of f)
    && is_given L d.temp (definers_of f)) d.line) (definers_of f)

-- an `l` place takes no temporary that is assigned with the other class, and a `w` place no global
-- name
abbrev pub fits : List Definer → Class → Val → Bool
fits definers c (Int n) = true
fits definers W (Temp t) = true
fits definers L (Temp t) = not (is_given W t definers)
fits definers W (Global g) = false
fits definers L (Global g) = true

-- an operation whose result is always long
abbrev pub is_long_only : UnaryOp → Bool
is_long_only Neg = false
is_long_only Copy = false
is_long_only (Extend SignedWord) = true
is_long_only (Extend UnsignedWord) = true
is_long_only (Extend SignedHalf) = false
is_long_only (Extend UnsignedHalf) = false
is_long_only (Extend SignedByte) = false
is_long_only (Extend UnsignedByte) = false
is_long_only LoadLong = true
is_long_only (Load e) = false

abbrev pub is_word : Class → Bool
is_word W = true
is_word L = false

-- a result of a class that the operation hasn't
abbrev pub has_wrong_result : Inst → Bool
has_wrong_result (Unary to op a) = is_long_only op && is_word to.class
has_wrong_result (Alloc to alignment size) = is_word to.class
has_wrong_result i = false

abbrev pub in_insts : (Inst → Bool) → List Block → Option ℕ
in_insts broken blocks =
    first (λ (b : Block). first (λ (i : Lined Inst). when (broken i.item) i.line) b.insts) blocks

-- operand fits
abbrev pub misplaced : Func → Option ℕ
misplaced f =
    or_else (first (λ (o : Operand). when (not (fits (definers_of f) o.class o.value)) o.line)
    (operands_of f))
    (in_insts has_wrong_result f.blocks)

abbrev pub is_defined : List Definer → Val → Bool
is_defined definers (Int n) = true
is_defined definers (Temp t) = is_given W t definers || is_given L t definers
is_defined definers (Global g) = true

abbrev pub value_returned : Jump → Option Val
value_returned (Goto l) = None
value_returned (Branch a nonzero otherwise) = None
value_returned (Return a) = a
value_returned Halt = None

abbrev pub breaks_in : (Val → Bool) → ℕ → Option Val → Option ℕ
breaks_in broken line None = None
breaks_in broken line (Some a) = when (broken a) line

abbrev pub fits_result : List Definer → Option Class → Val → Bool
fits_result definers None a = false
fits_result definers (Some c) a = fits definers c a

-- a test of the value that a block returns, if it returns one
abbrev pub returned_breaks : (Val → Bool) → Option (Lined Jump) → Option ℕ
returned_breaks broken None = None
returned_breaks broken (Some j) = breaks_in broken j.line (value_returned j.item)

abbrev pub in_returns : (Val → Bool) → List Block → Option ℕ
in_returns broken blocks = first (λ (b : Block). returned_breaks broken b.jump) blocks

-- return fits: in a function without a class no value is returned
abbrev pub wrong_return : Func → Option ℕ
wrong_return f = in_returns (λ a. not (fits_result (definers_of f) f.result a)) f.blocks

-- defined temporaries: operands, and returned values
abbrev pub undefined_temp : Func → Option ℕ
undefined_temp f =
    or_else (first (λ (o : Operand). when (not (is_defined (definers_of f) o.value)) o.line)
    (operands_of f))
    (in_returns (λ a. not (is_defined (definers_of f) a)) f.blocks)

-- ---- sizes

-- alloc in entry: of 1 to the most bytes there, and none elsewhere
abbrev pub has_wrong_size : Inst → Bool
has_wrong_size (Alloc to alignment size) = nat_eq size 0 || nat_lt ALLOC_BYTES size
has_wrong_size i = false

abbrev pub is_alloc : Inst → Bool
is_alloc (Alloc to alignment size) = true
is_alloc i = false

abbrev pub wrong_alloc_in : List Block → Option ℕ
wrong_alloc_in [] = None
wrong_alloc_in (b ∷ blocks) = or_else (in_insts has_wrong_size (b ∷ [])) (in_insts is_alloc blocks)

abbrev pub wrong_alloc : Func → Option ℕ
wrong_alloc f = wrong_alloc_in f.blocks

-- blit size
abbrev pub is_long_blit : Inst → Bool
is_long_blit (Blit from to count) = nat_lt BLIT_BYTES count
is_long_blit i = false

abbrev pub long_blit : Func → Option ℕ
long_blit f = in_insts is_long_blit f.blocks

-- ---- phis

abbrev pub goes_to : ℕ → Jump → Bool
goes_to l (Goto m) = nat_eq l m
goes_to l (Branch a nonzero otherwise) = nat_eq l nonzero || nat_eq l otherwise
goes_to l (Return a) = false
goes_to l Halt = false

abbrev pub jumps_to : ℕ → Option (Lined Jump) → Bool
jumps_to l None = false
jumps_to l (Some j) = goes_to l j.item

-- the blocks whose jump names this label
abbrev pub is_predecessor : List Block → (of from : ℕ) → Bool
is_predecessor blocks l from =
    list_any (λ (b : Block). nat_eq b.label from && jumps_to l b.jump) blocks

abbrev pub names_from : ℕ → List PhiArg → ℕ
names_from l args = count_by (λ (a : PhiArg). nat_eq a.from l) args

-- the labels of a phi are the predecessors of its block, each once
abbrev pub covers : List Block → ℕ → List PhiArg → Bool
covers blocks l args =
    list_all (λ (a : PhiArg). nat_eq (names_from a.from args) 1 && is_predecessor blocks l a.from)
    args
    && list_all (λ (b : Block). not (jumps_to l b.jump) || nat_lt 0 (names_from b.label args))
    blocks

abbrev pub uncovered_in : List Block → Block → Option ℕ
uncovered_in blocks b =
    or_else (first_repeated (phi_sites b.phis))
    (first (λ (p : Phi). when (not (covers blocks b.label p.args)) p.line) b.phis)

-- phi covers predecessors, and the phis of a block assign distinct temporaries
abbrev pub uncovered_phi : Func → Option ℕ
uncovered_phi f = first (uncovered_in f.blocks) f.blocks
