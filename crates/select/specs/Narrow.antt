-- Virtual code with registers and weights of 32 bits: whatever is longer loses its high bits.
-- Nothing is in a function of a good text, whose virtual code is then `selected`. No public promise
-- names what stands here.
use Rattle.std.specs.Prelude.{ℕ, ◌%◌, ◌^◌, true, List, [], ◌∷◌, ◌++◌, map, option_map, Bool, nat_eq, ◌&&◌, if◌then◌else◌, slice_index_or, Some}
use Rattle.il_ast.specs.declared.operand.Val.{Val}
use Rattle.il_ast.specs.declared.operand.Val.TheVariants.{Int, Temp, Global}
use Rattle.il_ast.specs.declared.operand.Dest.{Dest}
use Rattle.il_ast.specs.declared.operand.Arg.{Arg}
use Rattle.il_ast.specs.declared.instruction.Inst.{Inst}
use Rattle.il_ast.specs.declared.instruction.Inst.TheVariants.{Unary, Binary, Alloc, Store, Blit, Call}
use Rattle.il_ast.specs.declared.instruction.Lined.{Lined}
use Rattle.il_ast.specs.declared.block.Block.{Block}
use Rattle.il_ast.specs.declared.function.Param.{Param}
use Rattle.il_ast.specs.declared.function.Func.{Func}
use Rattle.il_ast.specs.Prelude.{inst_weight, same_class}
use Rattle.phi_copies.specs.declared.ending.Assignment.{Assignment}
use Rattle.phi_copies.specs.declared.ending.Leave.{Leave}
use Rattle.phi_copies.specs.declared.ending.Leave.TheVariants.{Goto, Branch, Return, Halt}
use Rattle.phi_copies.specs.declared.ending.Ending.{Ending}
use Rattle.phi_copies.specs.Endings.{Endings}
use Rattle.vcode.specs.declared.place.Destination.{Destination}
use Rattle.vcode.specs.declared.line.Line.{Line}
use Rattle.vcode.specs.declared.line.Line.TheVariants.{Tick}
use Rattle.vcode.specs.declared.code.Block.{Block as VirtualBlock}
use Rattle.vcode.specs.declared.code.Code.{Code}
use Rattle.select.specs.Typed.{Classes}
use Rattle.select.specs.Selected.{operand_of, copy_lines, inst_lines, jump_of}
use Rattle.std.specs.List.{flat_map, list_any}
use Rattle.il_ast.specs.declared.operation.Class.{Class}
use Rattle.il_ast.specs.declared.operation.Class.TheVariants.{W, L}
use Rattle.il_ast.specs.declared.block.Phi.{Phi}

abbrev pub narrow : ℕ → ℕ
narrow n = n % 2 ^ 32

-- ---- operands

abbrev pub narrow_val : Val → Val
narrow_val (Int n) = Int n
narrow_val (Temp t) = Temp (narrow t)
narrow_val (Global g) = Global g

abbrev pub narrow_dest : Dest → Dest
narrow_dest d = record { temp = narrow d.temp; class = d.class }

abbrev pub narrow_arg : Arg → Arg
narrow_arg a = record { class = a.class; value = narrow_val a.value }

abbrev pub narrow_parameter : Param → Destination ℕ
narrow_parameter p = record { place = narrow p.temp; class = p.class }

-- ---- instructions

abbrev pub narrow_inst : Inst → Inst
narrow_inst (Unary to op a) = Unary (narrow_dest to) op (narrow_val a)
narrow_inst (Binary to op a b) = Binary (narrow_dest to) op (narrow_val a) (narrow_val b)
narrow_inst (Alloc to alignment size) = Alloc (narrow_dest to) alignment size
narrow_inst (Store size a at) = Store size (narrow_val a) (narrow_val at)
narrow_inst (Blit from to count) = Blit (narrow_val from) (narrow_val to) count
narrow_inst (Call to callee args) =
    Call (option_map narrow_dest to) (narrow_val callee) (map narrow_arg args)

abbrev pub narrow_turn : Classes → Lined Inst → List (Line ℕ)
narrow_turn classes i =
    Tick true (narrow (inst_weight i.item)) ∷ inst_lines classes (narrow_inst i.item)

abbrev pub narrow_turns : Classes → List (Lined Inst) → List (Line ℕ)
narrow_turns classes [] = []
narrow_turns classes (i ∷ insts) = narrow_turn classes i ++ narrow_turns classes insts

-- ---- endings

abbrev pub narrow_copies : Classes → List Assignment → List (Line ℕ)
narrow_copies classes [] = []
narrow_copies classes (c ∷ cs) =
    copy_lines classes (narrow c.to.temp) c.to.class (operand_of (narrow_val c.value))
    ++ narrow_copies classes cs

abbrev pub narrow_ending : Classes → Ending → List (Line ℕ)
narrow_ending classes e = Tick e.turn (narrow e.weight) ∷ narrow_copies classes e.copies

abbrev pub narrow_leave : Leave → Leave
narrow_leave (Goto k) = Goto k
narrow_leave (Branch on nonzero otherwise) = Branch (narrow_val on) nonzero otherwise
narrow_leave (Return a) = Return (option_map narrow_val a)
narrow_leave Halt = Halt

-- ---- blocks

abbrev pub narrow_block : Classes → Block → Ending → VirtualBlock ℕ
narrow_block classes b e =
    record {
      lines = narrow_turns classes b.insts ++ narrow_ending classes e;
      jump = jump_of classes (narrow_leave e.leave);
    }

abbrev pub narrow_edge : Classes → Ending → VirtualBlock ℕ
narrow_edge classes e =
    record { lines = narrow_ending classes e; jump = jump_of classes (narrow_leave e.leave) }

abbrev pub narrow_blocks : Classes → List Block → List Ending → List (VirtualBlock ℕ)
narrow_blocks classes [] es = []
narrow_blocks classes (b ∷ bs) [] = []
narrow_blocks classes (b ∷ bs) (e ∷ es) = narrow_block classes b e ∷ narrow_blocks classes bs es

unfoldable pub narrow_code : Classes → Func → Endings → Code ℕ
narrow_code classes f code =
    record {
      result = f.result;
      params = map narrow_parameter f.params;
      blocks = narrow_blocks classes f.blocks code.endings
          ++ map (narrow_edge classes) code.edges;
    }

-- ---- classes of temporaries in a table, and what it is made from. No public promise names what stands
-- here.

-- what a table says of a temporary; one past its end is long
abbrev pub listed : List Class → Classes
listed table t = slice_index_or table t L

-- ---- what is assigned, in the order of the text

abbrev pub param_destination : Param → Dest
param_destination p = record { temp = p.temp; class = p.class }

abbrev pub phi_destination : Phi → Dest
phi_destination p = p.to

abbrev pub item_destinations : Inst → List Dest
item_destinations (Unary to op a) = to ∷ []
item_destinations (Binary to op a b) = to ∷ []
item_destinations (Alloc to alignment size) = to ∷ []
item_destinations (Call (Some to) callee args) = to ∷ []
item_destinations i = []

abbrev pub inst_destinations : Lined Inst → List Dest
inst_destinations i = item_destinations i.item

abbrev pub block_destinations : Block → List Dest
block_destinations b = map phi_destination b.phis ++ flat_map inst_destinations b.insts

abbrev pub destinations_in : Func → List Dest
destinations_in f = map param_destination f.params ++ flat_map block_destinations f.blocks

-- ---- classes

-- the temporary is assigned among these as a word
abbrev pub has_word : ℕ → List Dest → Bool
has_word t assigned = list_any (λ (d : Dest). nat_eq d.temp t && same_class d.class W) assigned

abbrev pub word_or_long : Bool → Class
word_or_long word = if word then W else L

abbrev pub phi_classes : Block → List Class
phi_classes b = map (λ (p : Phi). p.to.class) b.phis
