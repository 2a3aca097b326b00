-- The places of a function that rules speak of, each with its line, in the order of the text.
use Rattle.std.specs.Prelude.{ℕ, List, [], ◌∷◌, ◌++◌, Option, Some, None, flat_map}
use Rattle.il_ast.specs.declared.operation.Class.{Class}
use Rattle.il_ast.specs.declared.operation.Class.TheVariants.{W, L}
use Rattle.il_ast.specs.declared.operand.Val.{Val}
use Rattle.il_ast.specs.declared.operand.Dest.{Dest}
use Rattle.il_ast.specs.declared.operand.Arg.{Arg}
use Rattle.il_ast.specs.declared.instruction.Inst.{Inst}
use Rattle.il_ast.specs.declared.instruction.Inst.TheVariants.{Unary, Binary, Alloc, Store, Blit, Call}
use Rattle.il_ast.specs.declared.instruction.Jump.{Jump}
use Rattle.il_ast.specs.declared.instruction.Jump.TheVariants.{Goto, Branch, Return, Halt}
use Rattle.il_ast.specs.declared.instruction.Lined.{Lined}
use Rattle.il_ast.specs.declared.block.Phi.{Phi}
use Rattle.il_ast.specs.declared.block.PhiArg.{PhiArg}
use Rattle.il_ast.specs.declared.block.Block.{Block}
use Rattle.il_ast.specs.declared.function.Param.{Param}
use Rattle.il_ast.specs.declared.function.Func.{Func}
use Rattle.il_ast.specs.Prelude.{operand_class, left_class, right_class, stored_class}
use Rattle.il_types.specs.declared.site.Definer.{Definer}
use Rattle.il_types.specs.declared.site.Operand.{Operand}
use Rattle.il_types.specs.declared.site.Site.{Site}

-- ---- where temporaries are assigned: parameters, phis and instructions

abbrev pub definer : ℕ → Dest → Definer
definer line to = record { line = line; temp = to.temp; class = to.class }

abbrev pub param_definers : Param → List Definer
param_definers p = record { line = p.line; temp = p.temp; class = p.class } ∷ []

abbrev pub phi_definers : Phi → List Definer
phi_definers p = definer p.line p.to ∷ []

abbrev pub call_definers : ℕ → Option Dest → List Definer
call_definers line None = []
call_definers line (Some to) = definer line to ∷ []

abbrev pub item_definers : ℕ → Inst → List Definer
item_definers line (Unary to op a) = definer line to ∷ []
item_definers line (Binary to op a b) = definer line to ∷ []
item_definers line (Alloc to alignment size) = definer line to ∷ []
item_definers line (Store size a at) = []
item_definers line (Blit from to count) = []
item_definers line (Call to callee args) = call_definers line to

abbrev pub inst_definers : Lined Inst → List Definer
inst_definers i = item_definers i.line i.item

abbrev pub block_definers : Block → List Definer
block_definers b = flat_map phi_definers b.phis ++ flat_map inst_definers b.insts

abbrev pub definers_of : Func → List Definer
definers_of f = flat_map param_definers f.params ++ flat_map block_definers f.blocks

-- ---- operands, each in a place of a class; returned values are not among them

abbrev pub operand_at : ℕ → Class → Val → Operand
operand_at line c a = record { line = line; class = c; value = a }

abbrev pub phi_operands : Phi → List Operand
phi_operands p = flat_map (λ (a : PhiArg). operand_at p.line p.to.class a.value ∷ []) p.args

abbrev pub arg_operands : ℕ → List Arg → List Operand
arg_operands line args = flat_map (λ (a : Arg). operand_at line a.class a.value ∷ []) args

abbrev pub item_operands : ℕ → Inst → List Operand
item_operands line (Unary to op a) = operand_at line (operand_class op to.class) a ∷ []
item_operands line (Binary to op a b) =
    operand_at line (left_class op to.class) a ∷ operand_at line (right_class op to.class) b ∷ []
item_operands line (Alloc to alignment size) = []
item_operands line (Store size a at) =
    operand_at line (stored_class size) a ∷ operand_at line L at ∷ []
item_operands line (Blit from to count) = operand_at line L from ∷ operand_at line L to ∷ []
item_operands line (Call to callee args) = operand_at line L callee ∷ arg_operands line args

abbrev pub inst_operands : Lined Inst → List Operand
inst_operands i = item_operands i.line i.item

abbrev pub jump_operands : ℕ → Jump → List Operand
jump_operands line (Goto l) = []
jump_operands line (Branch a nonzero otherwise) = operand_at line W a ∷ []
jump_operands line (Return a) = []
jump_operands line Halt = []

abbrev pub end_operands : Option (Lined Jump) → List Operand
end_operands None = []
end_operands (Some j) = jump_operands j.line j.item

abbrev pub block_operands : Block → List Operand
block_operands b =
    flat_map phi_operands b.phis ++ (flat_map inst_operands b.insts ++ end_operands b.jump)

abbrev pub operands_of : Func → List Operand
operands_of f = flat_map block_operands f.blocks

-- ---- labels in jumps

abbrev pub jump_sites : ℕ → Jump → List Site
jump_sites line (Goto l) = record { line = line; number = l } ∷ []
jump_sites line (Branch a nonzero otherwise) =
    record { line = line; number = nonzero } ∷ record { line = line; number = otherwise } ∷ []
jump_sites line (Return a) = []
jump_sites line Halt = []

abbrev pub end_sites : Option (Lined Jump) → List Site
end_sites None = []
end_sites (Some j) = jump_sites j.line j.item

abbrev pub block_targets : Block → List Site
block_targets b = end_sites b.jump

abbrev pub targets_of : Func → List Site
targets_of f = flat_map block_targets f.blocks

-- ---- labels in phis

abbrev pub phi_sources : Phi → List Site
phi_sources p = flat_map (λ (a : PhiArg). record { line = p.line; number = a.from } ∷ []) p.args

abbrev pub sources_in : Block → List Site
sources_in b = flat_map phi_sources b.phis

abbrev pub sources_of : Func → List Site
sources_of f = flat_map sources_in f.blocks
