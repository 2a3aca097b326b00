-- The rules of functions, data definitions and whole texts as functions of the state.
use Rattle.std.specs.Prelude.{◌≡◌, ℕ, ◌+◌, Bool, true, false, if◌then◌else◌, List, [], ◌∷◌, length, map, codes, unwrap_or, Option, Some, None, option_and_then, Result, MatchResult}
use Rattle.il_lex.specs.declared.kind.Symbol.TheVariants.{Equals, LeftBrace, RightBrace, LeftParen, RightParen, Plus}
use Rattle.il_lex.specs.declared.kind.Kind.{Kind}
use Rattle.il_lex.specs.declared.kind.Kind.TheVariants.{Symbol, Natural, Negative, Global as GlobalKind, Quoted}
use Rattle.il_lex.specs.declared.scan.Ahead.{Ahead}
use Rattle.il_lex.specs.declared.scan.Ahead.TheVariants.{End, Bad, Found}
use Rattle.il_lex.specs.Scan.{scan}
use Rattle.il_lex.specs.Next.{lines_in}
use Rattle.il_ast.specs.declared.operation.Class.{Class}
use Rattle.il_ast.specs.declared.block.Block.{Block}
use Rattle.il_ast.specs.declared.function.Param.{Param}
use Rattle.il_ast.specs.declared.function.Func.{Func}
use Rattle.il_ast.specs.declared.datum.Item.{Item}
use Rattle.il_ast.specs.declared.datum.Item.TheVariants.{Int, Bytes, Address}
use Rattle.il_ast.specs.declared.datum.Field.{Field}
use Rattle.il_ast.specs.declared.datum.Field.TheVariants.{Items, Zeros}
use Rattle.il_ast.specs.declared.datum.DataDef.{DataDef}
use Rattle.il_ast.specs.declared.text.Definition.{Definition}
use Rattle.il_ast.specs.declared.text.Definition.TheVariants.{Function, Object}
use Rattle.il_ast.specs.declared.text.Text.{Text}
use Rattle.il_reader.specs.declared.fault.Unread.{Unread}
use Rattle.il_reader.specs.declared.fault.Unread.TheVariants.{Syntax}
use Rattle.il_reader.specs.State.{State, start}
use Rattle.il_reader.specs.Reads.{falling}
use Rattle.il_reader.specs.Steps.{Step, ◌>>=◌, ◌>>◌, give, piece, keyword, word, natural, integer, string, temp, symbol, newline, many, commas, maybe, either, sees}
use Rattle.il_reader.specs.Reading.{size_of, is_text, is_label, is_comma, is_word, is_number, is_newline, sees_word, class, comma, line, line_ends}
use Rattle.il_reader.specs.Blocks.{block}

-- ---- functions

-- the parts of a function: what its tree has besides what is proved of it
pub record FunctionParts : Type 0 where
  pub line : ℕ
  pub exported : Bool
  pub name : ℕ
  pub result : Option Class
  pub params : List Param
  pub blocks : List Block
  pub temps : List (List ℕ)
  pub labels : List (List ℕ)

abbrev pub function_parts : Func → FunctionParts
function_parts f = record {
  line = f.line;
  exported = f.exported;
  name = f.name;
  result = f.result;
  params = f.params;
  blocks = f.blocks;
  temps = f.temps;
  labels = f.labels;
}

abbrev pub parameter : Step Param
parameter = do
  n ← line
  c ← class
  t ← temp
  give (record { line = n; temp = t; class = c })

abbrev pub parameters : Step (List Param)
parameters s =
    if sees is_word s then commas (sees is_comma) comma (sees is_word) parameter s else Some ([], s)

-- a new function has no names yet
abbrev pub forget_names : Step (Unit {0})
forget_names s = Some (tt, record s { temps = []; labels = [] })

-- the names of a function
abbrev pub function_names : Step (List (List ℕ) × List (List ℕ))
function_names s = Some ((s.temps, s.labels), s)

abbrev pub newlines : Step (List (Unit {0}))
newlines = many (sees is_newline) newline

-- at least one block
abbrev pub blocks : Step (List Block)
blocks = do
  b ← block
  bs ← many (sees is_label) block
  give (b ∷ bs)

-- the blocks between the braces, where one without a jump goes to the next
abbrev pub function_body : Step (List Block)
function_body = do
  piece LeftBrace
  line_ends
  bs ← blocks
  piece RightBrace
  give (falling bs)

-- the result, the line of the name, and the name
abbrev pub function_head : Step (Option Class × (ℕ × ℕ))
function_head = do
  word (codes "function")
  forget_names
  result ← maybe (sees is_word) class
  n ← line
  name ← symbol
  give (result, (n, name))

-- the parameters, in parentheses, and the ends of lines behind them
abbrev pub function_params : Step (List Param)
function_params = do
  piece LeftParen
  params ← parameters
  piece RightParen
  newlines
  give params

abbrev pub function : Bool → Step FunctionParts
function exported = do
  head ← function_head
  params ← function_params
  bs ← function_body
  names ← function_names
  give (record {
    line = head.1.0;
    exported = exported;
    name = head.1.1;
    result = head.0;
    params = params;
    blocks = bs;
    temps = names.0;
    labels = names.1;
  })

-- ---- data

abbrev pub spaced : {A : Type 0} → Step A → Step A
spaced p = do
  x ← p
  newlines
  give x

abbrev pub is_quoted : Kind → Bool
is_quoted Quoted = true
is_quoted _ = false

abbrev pub is_plus : Kind → Bool
is_plus (Symbol Plus) = true
is_plus _ = false

abbrev pub is_item : Kind → Bool
is_item (Natural n) = true
is_item (Negative n) = true
is_item GlobalKind = true
is_item Quoted = true
is_item _ = false

abbrev pub offset : Step ℕ
offset = spaced (piece Plus) >> spaced natural

abbrev pub address : Step Item
address = do
  g ← spaced symbol
  moved ← maybe (sees is_plus) offset
  give (Address g (unwrap_or moved 0))

abbrev pub item : Step Item
item =
    either (sees is_number) (spaced integer >>= λ n. give (Int n))
    (either (sees is_quoted) (spaced string >>= λ bytes. give (Bytes bytes)) address)

abbrev pub items : Step Field
items = do
  c ← spaced (keyword size_of)
  x ← item
  xs ← many (sees is_item) item
  give (Items c (x ∷ xs))

abbrev pub zeros : Step Field
zeros = do
  spaced (word (codes "z"))
  n ← spaced natural
  give (Zeros n)

abbrev pub field : Step Field
field = either (sees_word (is_text (codes "z"))) zeros items

-- the fields, in braces
abbrev pub fields : Step (List Field)
fields = do
  spaced (piece LeftBrace)
  xs ← commas (sees is_comma) (spaced comma) (sees is_word) field
  piece RightBrace
  give xs

abbrev pub aligned : Step ℕ
aligned = spaced (word (codes "align")) >> spaced natural

abbrev pub alignment : Step (Option ℕ)
alignment = maybe (sees is_word) aligned

-- the line of the name, and the name
abbrev pub object_head : Step (ℕ × ℕ)
object_head = do
  spaced (word (codes "data"))
  n ← line
  name ← spaced symbol
  spaced (piece Equals)
  give (n, name)

abbrev pub object : Bool → Step DataDef
object exported = do
  head ← object_head
  a ← alignment
  xs ← fields
  give (record {
    line = head.0;
    exported = exported;
    name = head.1;
    alignment = unwrap_or a 8;
    fields = xs;
  })

-- ---- texts

pub data DefinitionParts : Type 0 where
  FunctionOf : FunctionParts → DefinitionParts
  ObjectOf : DataDef → DefinitionParts

abbrev pub definition_parts : Definition → DefinitionParts
definition_parts (Function f) = FunctionOf (function_parts f)
definition_parts (Object d) = ObjectOf d

abbrev pub exporting : Step Bool
exporting = either (sees_word (is_text (codes "export")))
    (word (codes "export") >> (newlines >> give true)) (give false)

abbrev pub definition : Step DefinitionParts
definition = do
  exported ← exporting
  either (sees_word (is_text (codes "data"))) (object exported >>= λ d. give (ObjectOf d))
      (function exported >>= λ f. give (FunctionOf f))

-- the ends of lines between definitions
abbrev pub between : Step (Unit {0})
between = line_ends >> give tt

abbrev pub definitions : Step (List DefinitionParts)
definitions =
    newlines >> (λ s. if sees is_word s then commas (sees is_newline) between (sees is_word)
    definition s else Some ([], s))

-- the parts of a text
pub record TextParts : Type 0 where
  pub definitions : List DefinitionParts
  pub symbols : List (List ℕ)
  pub lines : ℕ
  pub bytes : ℕ

abbrev pub text_parts : Text → TextParts
text_parts t =
    record {
      definitions = map definition_parts t.definitions;
      symbols = t.symbols;
      lines = t.lines;
      bytes = t.bytes;
    }

abbrev pub is_end : Ahead → Bool
is_end End = true
is_end Bad = false
is_end (Found kind gap len) = false

-- the parts of the text that these definitions make, where nothing is left behind them
abbrev pub whole : List ℕ → List DefinitionParts × State → Option TextParts
whole bytes x =
    if is_end (scan x.1.rest) then Some (record {
      definitions = x.0;
      symbols = x.1.symbols;
      lines = lines_in bytes + 1;
      bytes = length bytes;
    }) else None

abbrev pub text_step : List ℕ → Option TextParts
text_step bytes = option_and_then (whole bytes) (definitions (start bytes))

-- the tree of which these definitions give the parts, and a fault of syntax only where they give none
abbrev pub IsFound : List ℕ → Result Text Unread → Type 0
IsFound bytes result = MatchResult result
    (λ tree. text_step bytes ≡ Some (text_parts tree))
    (λ fault. fault ≡ Syntax → text_step bytes ≡ None)
