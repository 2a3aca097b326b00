-- Which temporaries and labels a function names, in the order of its text; and what it means that
-- numbers stand for names in order of first appearance.
use Rattle.std.specs.Prelude.{ℕ, ◌+◌, Bool, true, not, ◌&&◌, nat_eq, nat_lt, if◌then◌else◌, List, [], ◌∷◌, ◌++◌, Option, Some, None}
use Rattle.std.specs.List.{flat_map, list_any}
use Rattle.std.specs.Cmp.Lexicographic.{pointwise}
use Rattle.il_ast.specs.declared.operand.Val.{Val}
use Rattle.il_ast.specs.declared.operand.Val.TheVariants.{Int, Temp, Global}
use Rattle.il_ast.specs.declared.operand.Dest.{Dest}
use Rattle.il_ast.specs.declared.operand.Arg.{Arg}
use Rattle.il_ast.specs.declared.instruction.Inst.{Inst}
use Rattle.il_ast.specs.declared.instruction.Inst.TheVariants.{Unary, Binary, Alloc, Store, Blit, Call}
use Rattle.il_ast.specs.declared.instruction.Jump.{Jump}
use Rattle.il_ast.specs.declared.instruction.Jump.TheVariants.{Goto, Branch, Return, Halt}
use Rattle.il_ast.specs.declared.instruction.Lined.{Lined}
use Rattle.il_ast.specs.declared.block.Phi.{Phi}
use Rattle.il_ast.specs.declared.block.PhiArg.{PhiArg}
use Rattle.il_ast.specs.declared.block.Block.{Block}
use Rattle.il_ast.specs.declared.function.Param.{Param}

-- how many numbers have come after a list of them, where n had come before: each has come already
-- or is the next
abbrev pub come_after : ℕ → List ℕ → Option ℕ
come_after n [] = Some n
come_after n (k ∷ ks) =
    if nat_lt k n then come_after n ks else (if nat_eq k n then come_after (n + 1) ks else None)

-- no two names are the same bytes
abbrev pub are_distinct : List (List ℕ) → Bool
are_distinct [] = true
are_distinct (name ∷ names) = not (list_any (pointwise nat_eq name) names) && are_distinct names

-- ---- temporaries

abbrev pub temps_in_value : Val → List ℕ
temps_in_value (Int n) = []
temps_in_value (Temp t) = t ∷ []
temps_in_value (Global g) = []

abbrev pub temps_in_destination : Option Dest → List ℕ
temps_in_destination None = []
temps_in_destination (Some to) = to.temp ∷ []

abbrev pub temps_in_phi : Phi → List ℕ
temps_in_phi p = p.to.temp ∷ flat_map (λ (a : PhiArg). temps_in_value a.value) p.args

abbrev pub temps_in_inst : Inst → List ℕ
temps_in_inst (Unary to op a) = to.temp ∷ temps_in_value a
temps_in_inst (Binary to op a b) = to.temp ∷ (temps_in_value a ++ temps_in_value b)
temps_in_inst (Alloc to alignment size) = to.temp ∷ []
temps_in_inst (Store size a at) = temps_in_value a ++ temps_in_value at
temps_in_inst (Blit from to count) = temps_in_value from ++ temps_in_value to
temps_in_inst (Call to callee args) =
    temps_in_destination to ++ (temps_in_value callee
    ++ flat_map (λ (a : Arg). temps_in_value a.value) args)

abbrev pub temps_in_jump : Jump → List ℕ
temps_in_jump (Goto l) = []
temps_in_jump (Branch a nonzero otherwise) = temps_in_value a
temps_in_jump (Return None) = []
temps_in_jump (Return (Some a)) = temps_in_value a
temps_in_jump Halt = []

abbrev pub temps_at_end : Option (Lined Jump) → List ℕ
temps_at_end None = []
temps_at_end (Some j) = temps_in_jump j.item

abbrev pub temps_in_block : Block → List ℕ
temps_in_block b =
    flat_map temps_in_phi b.phis ++ (flat_map (λ (i : Lined Inst). temps_in_inst i.item) b.insts
    ++ temps_at_end b.jump)

-- the temporaries that a function with these parameters and blocks names, in the order of its text
abbrev pub temps_of : List Param → List Block → List ℕ
temps_of params blocks =
    flat_map (λ (p : Param). p.temp ∷ []) params ++ flat_map temps_in_block blocks

-- ---- labels

abbrev pub labels_in_jump : Jump → List ℕ
labels_in_jump (Goto l) = l ∷ []
labels_in_jump (Branch a nonzero otherwise) = nonzero ∷ otherwise ∷ []
labels_in_jump (Return a) = []
labels_in_jump Halt = []

abbrev pub labels_at_end : Option (Lined Jump) → List ℕ
labels_at_end None = []
labels_at_end (Some j) = labels_in_jump j.item

abbrev pub labels_in_block : Block → List ℕ
labels_in_block b =
    b.label ∷ (flat_map (λ (p : Phi). flat_map (λ (a : PhiArg). a.from ∷ []) p.args) b.phis
    ++ labels_at_end b.jump)

-- the labels that these blocks name, in the order of the text
abbrev pub labels_of : List Block → List ℕ
labels_of blocks = flat_map labels_in_block blocks
