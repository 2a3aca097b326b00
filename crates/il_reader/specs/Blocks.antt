-- The rules of a block and its lines as functions of the state, which look at no more than the next
-- token.
use Rattle.std.specs.Prelude.{ℕ, zero, suc, length, Bool, true, false, not, if◌then◌else◌, List, [], ◌∷◌, codes, is_some, Option, Some, None, option_and_then, option_map}
use Rattle.il_lex.specs.declared.kind.Symbol.TheVariants.{LeftParen, RightParen}
use Rattle.il_ast.specs.declared.operand.Dest.{Dest}
use Rattle.il_ast.specs.declared.block.Phi.{Phi}
use Rattle.il_ast.specs.declared.block.Block.{Block}
use Rattle.il_ast.specs.declared.instruction.Lined.{Lined}
use Rattle.il_ast.specs.declared.instruction.Inst.{Inst}
use Rattle.il_ast.specs.declared.instruction.Inst.TheVariants.{Unary, Binary, Alloc, Call}
use Rattle.il_ast.specs.declared.operation.UnaryOp.{UnaryOp}
use Rattle.il_ast.specs.declared.operation.BinaryOp.{BinaryOp}
use Rattle.il_ast.specs.declared.operation.Alignment.{Alignment}
use Rattle.il_reader.specs.declared.statement.Operation.{Operation}
use Rattle.il_reader.specs.declared.statement.Operation.TheVariants.{Phi as PhiWord, Call as CallWord, Alloc as AllocWord, Unary as UnaryWord, Binary as BinaryWord}
use Rattle.il_reader.specs.declared.statement.Statement.{Statement}
use Rattle.il_reader.specs.declared.statement.Statement.TheVariants.{Phi as PhiLine, Inst as InstLine}
use Rattle.il_reader.specs.State.{State}
use Rattle.il_reader.specs.Steps.{Step, ◌>>=◌, ◌>>◌, give, piece, keyword, word, natural, commas, maybe, either, sees, label}
use Rattle.il_reader.specs.Reading.{is_text, is_temp, is_label, is_comma, is_word, sees_word, alloc_of, unary_of, binary_of, store_of, value, comma, destination, phi_argument, arguments, storing, blit, jump, line, lined, line_ends, on_line}

-- ---- one line

-- what the first of two lists of words says of a word, or else the second
abbrev pub or_else : {A : Type 0} → Option A → Option A → Option A
or_else (Some x) o = Some x
or_else None o = o

-- what the word behind a destination asks for
abbrev pub operation_of : List ℕ → Option Operation
operation_of text =
    if is_text (codes "phi") text then Some PhiWord
    else (if is_text (codes "call") text then Some CallWord
    else or_else (option_map AllocWord (alloc_of text))
    (or_else (option_map UnaryWord (unary_of text)) (option_map BinaryWord (binary_of text))))

-- a call behind its word
abbrev pub called : Option Dest → Step Inst
called to = do
  callee ← value
  piece LeftParen
  args ← arguments
  piece RightParen
  give (Call to callee args)

-- a line with an instruction
abbrev pub inst_line : ℕ → Step Inst → Step Statement
inst_line n p = p >>= λ i. give (InstLine (record { line = n; item = i }))

abbrev pub phi_line : ℕ → Dest → Step Statement
phi_line n to = do
  args ← commas (sees is_comma) comma (sees is_label) phi_argument
  give (PhiLine (record { line = n; to = to; args = args }))

abbrev pub unary_to : Dest → UnaryOp → Step Inst
unary_to to op = do
  v ← value
  give (Unary to op v)

abbrev pub binary_to : Dest → BinaryOp → Step Inst
binary_to to op = do
  a ← value
  comma
  b ← value
  give (Binary to op a b)

abbrev pub alloc_to : Dest → Alignment → Step Inst
alloc_to to alignment = do
  size ← natural
  give (Alloc to alignment size)

-- what stands behind a destination and a word
abbrev pub assigned : ℕ → Dest → Operation → Step Statement
assigned n to PhiWord = phi_line n to
assigned n to CallWord = inst_line n (called (Some to))
assigned n to (AllocWord alignment) = inst_line n (alloc_to to alignment)
assigned n to (UnaryWord op) = inst_line n (unary_to to op)
assigned n to (BinaryWord op) = inst_line n (binary_to to op)

-- a line that begins with a destination
abbrev pub assignment : ℕ → Step Statement
assignment n = do
  to ← destination
  op ← keyword operation_of
  assigned n to op

-- an instruction without a destination
abbrev pub effect : Step Inst
effect =
    either (sees_word (λ text. is_some (store_of text))) storing
    (either (sees_word (is_text (codes "blit"))) blit (word (codes "call") >> called None))

abbrev pub statement : Step Statement
statement = do
  n ← line
  either (sees is_temp) (assignment n) (inst_line n effect)

-- ---- the lines of a block

abbrev pub is_jump : List ℕ → Bool
is_jump text =
    if is_text (codes "jmp") text then true
    else (if is_text (codes "jnz") text then true
    else (if is_text (codes "ret") text then true
    else is_text (codes "hlt") text))

-- whether a line comes next that is no jump
abbrev pub sees_statement : State → Bool
sees_statement s = if sees is_temp s then true else sees_word (λ text. not (is_jump text)) s

abbrev pub Lines : Type 0
Lines = List Phi × List (Lined Inst)

abbrev pub with_phi : Phi → Lines × State → Option (Lines × State)
with_phi p x = Some ((p ∷ x.0.0, x.0.1), x.1)

abbrev pub with_inst : Lined Inst → Lines × State → Option (Lines × State)
with_inst i x = Some ((x.0.0, i ∷ x.0.1), x.1)

-- a line before others, which are read by a function of whether an instruction has come: no phi
-- stands behind an instruction
abbrev pub before_lines : (Bool → Step Lines) → Bool → Statement → Step Lines
before_lines more begun (PhiLine p) s =
    if begun then None else option_and_then (with_phi p) (more false s)
before_lines more begun (InstLine i) s = option_and_then (with_inst i) (more true s)

-- at most n lines before the jump, where an instruction has come or not
abbrev pub lines : ℕ → Bool → Step Lines
lines zero begun s = None
lines (suc n) begun s =
    if sees_statement s then option_and_then (λ x. before_lines (lines n) begun x.0 x.1)
    (on_line statement s) else Some (([], []), s)

abbrev pub body : Step Lines
body s = lines (suc (length s.rest)) false s

-- a block, which may lack a jump
abbrev pub block : Step Block
block = do
  n ← line
  l ← label
  line_ends
  parts ← body
  end ← maybe (sees is_word) (on_line (lined jump))
  give (record { line = n; label = l; phis = parts.0; insts = parts.1; jump = end })
