-- As what a function's text mentions its temporaries, and at which width one can be promoted.
use Rattle.std.specs.Prelude.{ℕ, Bool, true, false, nat_eq, ◌&&◌, if◌then◌else◌, List, [], ◌∷◌, ◌++◌, Option, Some, None, ◌≡◌, map, slice_index_or}
use Rattle.std.specs.List.{flat_map, list_all, find, list_any}
use Rattle.il_ast.specs.declared.operation.Class.{Class}
use Rattle.il_ast.specs.declared.operation.Class.TheVariants.{W, L}
use Rattle.il_ast.specs.declared.operation.Size.{Size}
use Rattle.il_ast.specs.declared.operation.Size.TheVariants.{Byte, Half, Word, Long}
use Rattle.il_ast.specs.declared.operation.Extension.{Extension}
use Rattle.il_ast.specs.declared.operation.Extension.TheVariants.{SignedWord, UnsignedWord, SignedHalf, UnsignedHalf, SignedByte, UnsignedByte}
use Rattle.il_ast.specs.declared.operation.UnaryOp.{UnaryOp}
use Rattle.il_ast.specs.declared.operation.UnaryOp.TheVariants.{Neg, Copy, Extend, LoadLong, Load}
use Rattle.il_ast.specs.declared.operand.Val.{Val}
use Rattle.il_ast.specs.declared.operand.Val.TheVariants.{Int, Temp, Global}
use Rattle.il_ast.specs.declared.operand.Dest.{Dest}
use Rattle.il_ast.specs.declared.operand.Arg.{Arg}
use Rattle.il_ast.specs.declared.instruction.Inst.{Inst}
use Rattle.il_ast.specs.declared.instruction.Inst.TheVariants.{Unary, Binary, Alloc, Store, Blit, Call}
use Rattle.il_ast.specs.declared.instruction.Jump.{Jump}
use Rattle.il_ast.specs.declared.instruction.Jump.TheVariants.{Goto, Branch, Return, Halt}
use Rattle.il_ast.specs.declared.instruction.Lined.{Lined}
use Rattle.il_ast.specs.declared.block.Phi.{Phi}
use Rattle.il_ast.specs.declared.block.PhiArg.{PhiArg}
use Rattle.il_ast.specs.declared.block.Block.{Block}
use Rattle.il_ast.specs.declared.function.Param.{Param}
use Rattle.il_ast.specs.declared.function.Func.{Func}
use Rattle.promote.specs.declared.mention.Role.{Role}
use Rattle.promote.specs.declared.mention.Role.TheVariants.{Made, Accessed, Used}
use Rattle.promote.specs.declared.mention.Mention.{Mention}
use Rattle.il_ast.specs.declared.operation.Alignment.{Alignment}
use Rattle.promote.specs.declared.standing.Standing.{Standing}
use Rattle.promote.specs.declared.standing.Standing.TheVariants.{Unseen, Unused, Kept, Refused}
use Rattle.il_types.specs.Prelude.{is_alloc}

-- ---- mentions, in the order of the text

abbrev pub mention : Role → ℕ → Mention
mention role t = record { temp = t; role = role }

abbrev pub value_mentions : Role → Val → List Mention
value_mentions role (Int n) = []
value_mentions role (Temp t) = mention role t ∷ []
value_mentions role (Global g) = []

abbrev pub extension_size : Extension → Size
extension_size SignedWord = Word
extension_size UnsignedWord = Word
extension_size SignedHalf = Half
extension_size UnsignedHalf = Half
extension_size SignedByte = Byte
extension_size UnsignedByte = Byte

-- what its operand is to an operation whose result has class c; a long that a `w` temporary takes
-- whole is no access
abbrev pub operand_role : UnaryOp → Class → Role
operand_role Neg c = Used
operand_role Copy c = Used
operand_role (Extend e) c = Used
operand_role LoadLong W = Used
operand_role LoadLong L = Accessed Long
operand_role (Load e) c = Accessed (extension_size e)

abbrev pub destination_mentions : Option Dest → List Mention
destination_mentions None = []
destination_mentions (Some to) = mention Used to.temp ∷ []

abbrev pub arg_mentions : Arg → List Mention
arg_mentions a = value_mentions Used a.value

abbrev pub item_mentions : Inst → List Mention
item_mentions (Unary to op a) = mention Used to.temp ∷ value_mentions (operand_role op to.class) a
item_mentions (Binary to op a b) =
    mention Used to.temp ∷ (value_mentions Used a ++ value_mentions Used b)
item_mentions (Alloc to alignment size) = mention Made to.temp ∷ []
item_mentions (Store size a at) = value_mentions Used a ++ value_mentions (Accessed size) at
item_mentions (Blit from to count) = value_mentions Used from ++ value_mentions Used to
item_mentions (Call to callee args) =
    destination_mentions to ++ (value_mentions Used callee ++ flat_map arg_mentions args)

abbrev pub inst_mentions : Lined Inst → List Mention
inst_mentions i = item_mentions i.item

abbrev pub jump_mentions : Jump → List Mention
jump_mentions (Goto l) = []
jump_mentions (Branch a nonzero otherwise) = value_mentions Used a
jump_mentions (Return None) = []
jump_mentions (Return (Some a)) = value_mentions Used a
jump_mentions Halt = []

abbrev pub end_mentions : Option (Lined Jump) → List Mention
end_mentions None = []
end_mentions (Some j) = jump_mentions j.item

abbrev pub phi_arg_mentions : PhiArg → List Mention
phi_arg_mentions a = value_mentions Used a.value

abbrev pub phi_mentions : Phi → List Mention
phi_mentions p = mention Used p.to.temp ∷ flat_map phi_arg_mentions p.args

abbrev pub block_mentions : Block → List Mention
block_mentions b =
    flat_map phi_mentions b.phis ++ (flat_map inst_mentions b.insts ++ end_mentions b.jump)

abbrev pub param_mentions : Param → List Mention
param_mentions p = mention Used p.temp ∷ []

abbrev pub mentions_of : Func → List Mention
mentions_of f = flat_map param_mentions f.params ++ flat_map block_mentions f.blocks

-- what temporary t is at each of its mentions
abbrev pub roles : ℕ → List Mention → List Role
roles t [] = []
roles t (m ∷ ms) = if nat_eq m.temp t then m.role ∷ roles t ms else roles t ms

-- ---- what can be promoted

abbrev pub same_size : Size → Size → Bool
same_size Byte Byte = true
same_size Half Half = true
same_size Word Word = true
same_size Long Long = true
same_size r s = false

-- a temporary of this width is made, or accessed at this size
abbrev pub suits : Size → Role → Bool
suits s Made = true
suits s (Accessed r) = same_size r s
suits s Used = false

abbrev pub begins_made : List Role → Bool
begins_made [] = false
begins_made (Made ∷ rs) = true
begins_made (Accessed r ∷ rs) = false
begins_made (Used ∷ rs) = false

-- the first mention makes it, and every mention makes it or accesses it at this size
abbrev pub is_promotable : Size → List Role → Bool
is_promotable s rs = begins_made rs && list_all (suits s) rs

-- the width of a promoted temporary; none for any other
abbrev pub width_in : List Mention → ℕ → Option Size
width_in ms t = find (λ s. is_promotable s (roles t ms)) (Byte ∷ Half ∷ Word ∷ Long ∷ [])

-- ---- what a function becomes where temporaries are promoted

-- the widths of the promoted temporaries, none for the others
abbrev pub Widths : Type 0
Widths = ℕ → Option Size

-- what puts a value into the temporary in place of a store: the whole of it, or its low bytes
abbrev pub storing : Size → UnaryOp
storing Byte = Extend UnsignedByte
storing Half = Extend UnsignedHalf
storing Word = Extend SignedWord
storing Long = Copy

-- what takes the value from the temporary in place of a load whose result has class c
abbrev pub extending : Extension → Class → UnaryOp
extending SignedWord W = Copy
extending UnsignedWord W = Copy
extending e c = Extend e

abbrev pub loading : UnaryOp → Class → UnaryOp
loading Neg c = Neg
loading Copy c = Copy
loading (Extend e) c = Extend e
loading LoadLong c = Copy
loading (Load e) c = extending e c

-- a promoted temporary has no block of memory, and begins as 0
abbrev pub made_in : Option Size → Dest → Alignment → ℕ → Inst
made_in None to alignment size = Alloc to alignment size
made_in (Some s) to alignment size = Unary to Copy (Int 0)

abbrev pub stored_in : Option Size → Size → Val → ℕ → Inst
stored_in None size a p = Store size a (Temp p)
stored_in (Some s) size a p = Unary (record { temp = p; class = L }) (storing size) a

abbrev pub taken_from : Option Size → Dest → UnaryOp → ℕ → Inst
taken_from None to op p = Unary to op (Temp p)
taken_from (Some s) to op p = Unary to (loading op to.class) (Temp p)

abbrev pub promoted_store : Widths → Size → Val → Val → Inst
promoted_store w size a (Int n) = Store size a (Int n)
promoted_store w size a (Temp p) = stored_in (w p) size a p
promoted_store w size a (Global g) = Store size a (Global g)

abbrev pub promoted_unary : Widths → Dest → UnaryOp → Val → Inst
promoted_unary w to op (Int n) = Unary to op (Int n)
promoted_unary w to op (Temp p) = taken_from (w p) to op p
promoted_unary w to op (Global g) = Unary to op (Global g)

-- loads and stores of promoted temporaries are copies and extensions, and their allocs are gone;
-- nothing else changes
abbrev pub promoted : Widths → Inst → Inst
promoted w (Unary to op a) = promoted_unary w to op a
promoted w (Binary to op a b) = Binary to op a b
promoted w (Alloc to alignment size) = made_in (w to.temp) to alignment size
promoted w (Store size a at) = promoted_store w size a at
promoted w (Blit from to count) = Blit from to count
promoted w (Call to callee args) = Call to callee args

abbrev pub promoted_line : Widths → Lined Inst → Lined Inst
promoted_line w i = record { line = i.line; item = promoted w i.item }

abbrev pub promoted_block : Widths → Block → Block
promoted_block w b =
    record {
      line = b.line;
      label = b.label;
      phis = b.phis;
      insts = map (promoted_line w) b.insts;
      jump = b.jump;
    }

-- the second function is the first with these temporaries promoted
pub record Rewrites (w : Widths) (f g : Func) : Type 0 where
  pub line : g.line ≡ f.line
  pub exported : g.exported ≡ f.exported
  pub name : g.name ≡ f.name
  pub result : g.result ≡ f.result
  pub params : g.params ≡ f.params
  pub temps : g.temps ≡ f.temps
  pub labels : g.labels ≡ f.labels
  pub blocks : g.blocks ≡ map (promoted_block w) f.blocks

-- every temporary that can be promoted is
abbrev pub IsPromoted : Func → Func → Type 0
IsPromoted f g = Rewrites (width_in (mentions_of f)) f g

-- ---- what is known of temporaries from their mentions so far

-- after one more mention
abbrev pub seen : Standing → Role → Standing
seen Unseen Made = Unused
seen Unused Made = Unused
seen Unused (Accessed s) = Kept s
seen (Kept s) Made = Kept s
seen (Kept s) (Accessed r) = if same_size r s then Kept s else Refused
seen standing role = Refused

abbrev pub seen_all : Standing → List Role → Standing
seen_all standing [] = standing
seen_all standing (role ∷ roles) = seen_all (seen standing role) roles

-- one that is never accessed has any width
abbrev pub width : Standing → Option Size
width Unseen = None
width Unused = Some Byte
width (Kept s) = Some s
width Refused = None

abbrev pub standing_at : List Standing → ℕ → Standing
standing_at table t = slice_index_or table t Unseen

abbrev pub widths_by : List Standing → Widths
widths_by table t = width (standing_at table t)

-- ---- whether a text makes blocks of memory
abbrev pub makes : List (Lined Inst) → Bool
makes insts = list_any (λ (i : Lined Inst). is_alloc i.item) insts

abbrev pub makes_any : List Block → Bool
makes_any blocks = list_any (λ (b : Block). makes b.insts) blocks
