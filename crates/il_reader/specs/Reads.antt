-- The grammar of definitions, and what the tree of a whole text is.
use Rattle.std.specs.Prelude.{◌≡◌, ℕ, ◌+◌, List, [], ◌∷◌, Bool, true, false, Option, Some, None, length, codes, unwrap_or}
use Rattle.il_lex.specs.declared.kind.Symbol.TheVariants.{Equals, LeftBrace, RightBrace, LeftParen, RightParen, Plus}
use Rattle.il_lex.specs.Next.{IsEnd, lines_in}
use Rattle.il_ast.specs.declared.operation.Class.{Class}
use Rattle.il_ast.specs.declared.operation.Size.{Size}
use Rattle.il_ast.specs.declared.instruction.Lined.{Lined}
use Rattle.il_ast.specs.declared.instruction.Jump.{Jump}
use Rattle.il_ast.specs.declared.instruction.Jump.TheVariants.{Goto}
use Rattle.il_ast.specs.declared.block.Block.{Block}
use Rattle.il_ast.specs.declared.function.Param.{Param}
use Rattle.il_ast.specs.declared.function.Func.{Func}
use Rattle.il_ast.specs.declared.datum.Item.{Item}
use Rattle.il_ast.specs.declared.datum.Item.TheVariants.{Int, Bytes, Address}
use Rattle.il_ast.specs.declared.datum.Field.{Field}
use Rattle.il_ast.specs.declared.datum.Field.TheVariants.{Items, Zeros}
use Rattle.il_ast.specs.declared.text.Definition.{Definition}
use Rattle.il_ast.specs.declared.text.Definition.TheVariants.{Function, Object}
use Rattle.il_ast.specs.declared.text.Text.{Text}
use Rattle.il_reader.specs.State.{State, start}
use Rattle.il_reader.specs.Words.{size_word}
use Rattle.il_reader.specs.Rules.{Rule, ◌>>=◌, ◌>>◌, ◌∥◌, give, maybe, many, some, ended_by, commas, listed, line, piece, newline, newlines, word, natural, integer, string, temp, label, symbol, forget_names, function_names}
use Rattle.il_reader.specs.Grammar.{class, comma, phi, instruction, jump}

-- what stands on lines of its own
abbrev pub on_line : {A : Type 0} → Rule A → Rule A
on_line p = ended_by (some newline) p

abbrev pub block : Rule Block
block = do
  n ← line
  l ← label
  some newline
  phis ← many (on_line phi)
  insts ← many (on_line instruction)
  end ← maybe (on_line jump)
  give (record { line = n; label = l; phis = phis; insts = insts; jump = end })

-- the jump of a block that is followed by another: its own, or one to that block, on its label's
-- line
abbrev pub jump_to : Block → Option (Lined Jump) → Lined Jump
jump_to next (Some j) = j
jump_to next None = record { line = next.line; item = Goto next.label }

-- each block without a jump goes to the next
abbrev pub falling : List Block → List Block
falling [] = []
falling (b ∷ []) = b ∷ []
falling (b ∷ next ∷ bs) =
    record {
      line = b.line;
      label = b.label;
      phis = b.phis;
      insts = b.insts;
      jump = Some (jump_to next b.jump);
    } ∷ falling (next ∷ bs)

abbrev pub parameter : Rule Param
parameter = do
  n ← line
  c ← class
  t ← temp
  give (record { line = n; temp = t; class = c })

-- a function of these parts
abbrev pub IsFunction : Func → Bool → ℕ → ℕ → Option Class → List Param → List Block →
    List (List ℕ) × List (List ℕ) → Type 0
IsFunction f exported n name result params blocks names =
    (f.line ≡ n) × (f.exported ≡ exported) × (f.name ≡ name) × (f.result ≡ result)
    × (f.params ≡ params)
    × (f.blocks ≡ falling blocks) × (f.temps ≡ names.0) × (f.labels ≡ names.1)

abbrev pub function_of : Bool → ℕ → ℕ → Option Class → List Param → List Block →
    List (List ℕ) × List (List ℕ) → Rule Definition
function_of exported n name result params blocks names s d s' =
    (f : Func) × (d ≡ Function f) × IsFunction f exported n name result params blocks names
    × (s' ≡ s)

abbrev pub function : Bool → Rule Definition
function exported = do
  word (codes "function")
  forget_names
  result ← maybe class
  n ← line
  name ← symbol
  piece LeftParen
  params ← listed comma parameter
  piece RightParen
  newlines
  piece LeftBrace
  some newline
  blocks ← some block
  piece RightBrace
  names ← function_names
  function_of exported n name result params blocks names

-- Between the tokens of a data definition the ends of lines are spacing too.
abbrev pub spaced : {A : Type 0} → Rule A → Rule A
spaced p = ended_by newlines p

abbrev pub size : Rule Size
size s c s' = word (size_word c) s tt s'

abbrev pub address : Rule Item
address = do
  g ← spaced symbol
  offset ← maybe (spaced (piece Plus) >> spaced natural)
  give (Address g (unwrap_or offset 0))

abbrev pub item : Rule Item
item =
    (spaced integer >>= λ n. give (Int n))
    ∥ ((spaced string >>= λ bytes. give (Bytes bytes))
    ∥ address)

abbrev pub items : Rule Field
items = do
  c ← spaced size
  xs ← some item
  give (Items c xs)

abbrev pub zeros : Rule Field
zeros = do
  spaced (word (codes "z"))
  n ← spaced natural
  give (Zeros n)

abbrev pub alignment : Rule (Option ℕ)
alignment = maybe (spaced (word (codes "align")) >> spaced natural)

abbrev pub object : Bool → Rule Definition
object exported = do
  spaced (word (codes "data"))
  n ← line
  name ← spaced symbol
  spaced (piece Equals)
  aligned ← alignment
  spaced (piece LeftBrace)
  fields ← commas (spaced comma) (items ∥ zeros)
  piece RightBrace
  give (Object (record {
    line = n;
    exported = exported;
    name = name;
    alignment = unwrap_or aligned 8;
    fields = fields;
  }))

abbrev pub exporting : Rule Bool
exporting = (word (codes "export") >> newlines >> give true) ∥ give false

abbrev pub definition : Rule Definition
definition = exporting >>= λ exported. object exported ∥ function exported

abbrev pub definitions : Rule (List Definition)
definitions =
    newlines >> (give [] ∥ (do
      d ← definition
      ds ← many (some newline >> definition)
      newlines
      give (d ∷ ds)))

-- the tree of a whole text
pub record Reads (bytes : List ℕ) (text : Text) : Type 0 where
  pub last : State
  pub definitions_are : definitions (start bytes) text.definitions last
  pub end : IsEnd last.rest
  pub symbols : text.symbols ≡ last.symbols
  pub lines : text.lines ≡ lines_in bytes + 1
  pub length_is : text.bytes ≡ length bytes
