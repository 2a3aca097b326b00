-- Which global names a text mentions, in the order of the text.
use Rattle.std.specs.Prelude.{ℕ, List, [], ◌∷◌, ◌++◌, Option, Some, None, flat_map}
use Rattle.il_ast.specs.declared.operand.Val.{Val}
use Rattle.il_ast.specs.declared.operand.Val.TheVariants.{Int, Temp, Global}
use Rattle.il_ast.specs.declared.operand.Arg.{Arg}
use Rattle.il_ast.specs.declared.instruction.Inst.{Inst}
use Rattle.il_ast.specs.declared.instruction.Inst.TheVariants.{Unary, Binary, Alloc, Store, Blit, Call}
use Rattle.il_ast.specs.declared.instruction.Jump.{Jump}
use Rattle.il_ast.specs.declared.instruction.Jump.TheVariants.{Goto, Branch, Return, Halt}
use Rattle.il_ast.specs.declared.instruction.Lined.{Lined}
use Rattle.il_ast.specs.declared.block.Phi.{Phi}
use Rattle.il_ast.specs.declared.block.PhiArg.{PhiArg}
use Rattle.il_ast.specs.declared.block.Block.{Block}
use Rattle.il_ast.specs.declared.function.Func.{Func}
use Rattle.il_ast.specs.declared.datum.Item.{Item}
use Rattle.il_ast.specs.declared.datum.Item.TheVariants.{Int as NumberItem, Bytes, Address}
use Rattle.il_ast.specs.declared.datum.Field.{Field}
use Rattle.il_ast.specs.declared.datum.Field.TheVariants.{Items, Zeros}
use Rattle.il_ast.specs.declared.datum.DataDef.{DataDef}
use Rattle.il_ast.specs.declared.text.Definition.{Definition}
use Rattle.il_ast.specs.declared.text.Definition.TheVariants.{Function, Object}

abbrev pub symbols_in_value : Val → List ℕ
symbols_in_value (Int n) = []
symbols_in_value (Temp t) = []
symbols_in_value (Global g) = g ∷ []

abbrev pub symbols_in_inst : Inst → List ℕ
symbols_in_inst (Unary to op a) = symbols_in_value a
symbols_in_inst (Binary to op a b) = symbols_in_value a ++ symbols_in_value b
symbols_in_inst (Alloc to alignment size) = []
symbols_in_inst (Store size a at) = symbols_in_value a ++ symbols_in_value at
symbols_in_inst (Blit from to count) = symbols_in_value from ++ symbols_in_value to
symbols_in_inst (Call to callee args) =
    symbols_in_value callee ++ flat_map (λ (a : Arg). symbols_in_value a.value) args

abbrev pub symbols_in_jump : Jump → List ℕ
symbols_in_jump (Goto l) = []
symbols_in_jump (Branch a nonzero otherwise) = symbols_in_value a
symbols_in_jump (Return None) = []
symbols_in_jump (Return (Some a)) = symbols_in_value a
symbols_in_jump Halt = []

abbrev pub symbols_at_end : Option (Lined Jump) → List ℕ
symbols_at_end None = []
symbols_at_end (Some j) = symbols_in_jump j.item

abbrev pub symbols_in_phi : Phi → List ℕ
symbols_in_phi p = flat_map (λ (a : PhiArg). symbols_in_value a.value) p.args

abbrev pub symbols_in_block : Block → List ℕ
symbols_in_block b =
    flat_map symbols_in_phi b.phis ++ (flat_map (λ (i : Lined Inst). symbols_in_inst i.item) b.insts
    ++ symbols_at_end b.jump)

abbrev pub symbols_in_item : Item → List ℕ
symbols_in_item (NumberItem n) = []
symbols_in_item (Bytes text) = []
symbols_in_item (Address g offset) = g ∷ []

abbrev pub symbols_in_field : Field → List ℕ
symbols_in_field (Items size items) = flat_map symbols_in_item items
symbols_in_field (Zeros n) = []

abbrev pub symbols_in_function : Func → List ℕ
symbols_in_function f = f.name ∷ flat_map symbols_in_block f.blocks

abbrev pub symbols_in_object : DataDef → List ℕ
symbols_in_object d = d.name ∷ flat_map symbols_in_field d.fields

abbrev pub symbols_in_definition : Definition → List ℕ
symbols_in_definition (Function f) = symbols_in_function f
symbols_in_definition (Object d) = symbols_in_object d

-- the global names that these definitions mention, in the order of the text
abbrev pub symbols_of : List Definition → List ℕ
symbols_of definitions = flat_map symbols_in_definition definitions
