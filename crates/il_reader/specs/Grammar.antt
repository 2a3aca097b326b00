-- The grammar of a text, one rule each (QBE IL reference; the integer part, with `blit`).
use Rattle.std.specs.Prelude.{◌≡◌, ◌⊎◌, codes}
use Rattle.il_lex.specs.declared.kind.Symbol.TheVariants.{Comma, Equals, LeftParen, RightParen}
use Rattle.il_ast.specs.declared.operation.Class.{Class}
use Rattle.il_ast.specs.declared.operation.Size.{Size}
use Rattle.il_ast.specs.declared.operation.Alignment.{Alignment}
use Rattle.il_ast.specs.declared.operation.UnaryOp.{UnaryOp}
use Rattle.il_ast.specs.declared.operation.UnaryOp.TheVariants.{Load}
use Rattle.il_ast.specs.declared.operation.Extension.TheVariants.{SignedWord}
use Rattle.il_ast.specs.declared.operation.BinaryOp.{BinaryOp}
use Rattle.il_ast.specs.declared.operand.Val.{Val}
use Rattle.il_ast.specs.declared.operand.Val.TheVariants.{Int, Temp, Global}
use Rattle.il_ast.specs.declared.operand.Dest.{Dest}
use Rattle.il_ast.specs.declared.operand.Arg.{Arg}
use Rattle.il_ast.specs.declared.instruction.Lined.{Lined}
use Rattle.il_ast.specs.declared.instruction.Inst.{Inst}
use Rattle.il_ast.specs.declared.instruction.Inst.TheVariants.{Unary, Binary, Alloc, Store, Blit, Call}
use Rattle.il_ast.specs.declared.instruction.Jump.{Jump}
use Rattle.il_ast.specs.declared.instruction.Jump.TheVariants.{Goto, Branch, Return, Halt}
use Rattle.il_ast.specs.declared.block.Phi.{Phi}
use Rattle.il_ast.specs.declared.block.PhiArg.{PhiArg}
use Rattle.il_reader.specs.Words.{class_word, unary_word, binary_word, alloc_word, store_word}
use Rattle.il_reader.specs.Rules.{Rule, ◌>>=◌, ◌>>◌, ◌∥◌, give, maybe, commas, listed, line, piece, word, natural, integer, temp, label, symbol}

abbrev pub class : Rule Class
class s c s' = word (class_word c) s tt s'

abbrev pub value : Rule Val
value =
    (integer >>= λ n. give (Int n))
    ∥ ((temp >>= λ t. give (Temp t))
    ∥ (symbol >>= λ g. give (Global g)))

abbrev pub comma : Rule (Unit {0})
comma = piece Comma

-- a temporary with its class, and `=`
abbrev pub destination : Rule Dest
destination = do
  t ← temp
  piece Equals
  c ← class
  give (record { temp = t; class = c })

abbrev pub argument : Rule Arg
argument = do
  c ← class
  v ← value
  give (record { class = c; value = v })

abbrev pub phi_argument : Rule PhiArg
phi_argument = do
  l ← label
  v ← value
  give (record { from = l; value = v })

abbrev pub phi : Rule Phi
phi = do
  n ← line
  to ← destination
  word (codes "phi")
  args ← commas comma phi_argument
  give (record { line = n; to = to; args = args })

-- the operation of a word; `loadw` is `loadsw`
abbrev pub unary_operation : Rule UnaryOp
unary_operation s op s' =
    word (unary_word op) s tt s' ⊎ ((op ≡ Load SignedWord) × word (codes "loadw") s tt s')

abbrev pub binary_operation : Rule BinaryOp
binary_operation s op s' = word (binary_word op) s tt s'

abbrev pub alloc : Rule Alignment
alloc s alignment s' = word (alloc_word alignment) s tt s'

abbrev pub store : Rule Size
store s size s' = word (store_word size) s tt s'

abbrev pub unary : Rule Inst
unary = do
  to ← destination
  op ← unary_operation
  v ← value
  give (Unary to op v)

abbrev pub binary : Rule Inst
binary = do
  to ← destination
  op ← binary_operation
  a ← value
  comma
  b ← value
  give (Binary to op a b)

abbrev pub allocation : Rule Inst
allocation = do
  to ← destination
  alignment ← alloc
  size ← natural
  give (Alloc to alignment size)

abbrev pub storing : Rule Inst
storing = do
  size ← store
  v ← value
  comma
  at ← value
  give (Store size v at)

abbrev pub blit : Rule Inst
blit = do
  word (codes "blit")
  from ← value
  comma
  to ← value
  comma
  count ← natural
  give (Blit from to count)

abbrev pub call : Rule Inst
call = do
  to ← maybe destination
  word (codes "call")
  callee ← value
  piece LeftParen
  args ← listed comma argument
  piece RightParen
  give (Call to callee args)

abbrev pub lined : {A : Type 0} → Rule A → Rule (Lined A)
lined p = do
  n ← line
  x ← p
  give (record { line = n; item = x })

abbrev pub instruction : Rule (Lined Inst)
instruction = lined (unary ∥ (binary ∥ (allocation ∥ (storing ∥ (blit ∥ call)))))

abbrev pub goto : Rule Jump
goto = do
  word (codes "jmp")
  l ← label
  give (Goto l)

abbrev pub branch : Rule Jump
branch = do
  word (codes "jnz")
  v ← value
  comma
  nonzero ← label
  comma
  otherwise ← label
  give (Branch v nonzero otherwise)

abbrev pub returning : Rule Jump
returning = do
  word (codes "ret")
  v ← maybe value
  give (Return v)

abbrev pub halt : Rule Jump
halt = do
  word (codes "hlt")
  give Halt

abbrev pub jump : Rule (Lined Jump)
jump = lined (goto ∥ (branch ∥ (returning ∥ halt)))
