-- The rules of operands and of the words of operations as functions of the state.
use Rattle.std.specs.Prelude.{ℕ, Bool, true, false, if◌then◌else◌, nat_eq, List, [], ◌∷◌, ◌++◌, codes, Option, Some, None, take, drop}
use Rattle.std.specs.Cmp.Lexicographic.{pointwise}
use Rattle.il_lex.specs.declared.kind.Symbol.TheVariants.{Comma, Equals}
use Rattle.il_lex.specs.declared.kind.Kind.{Kind}
use Rattle.il_lex.specs.declared.kind.Kind.TheVariants.{Natural, Negative, Temp as TempKind, Symbol, Global as GlobalKind, Word as WordKind}
use Rattle.il_ast.specs.declared.operation.Class.{Class}
use Rattle.il_ast.specs.declared.operation.Class.TheVariants.{W, L}
use Rattle.il_ast.specs.declared.operation.Size.{Size}
use Rattle.il_ast.specs.declared.operation.Size.TheVariants.{Byte, Half, Word, Long}
use Rattle.il_ast.specs.declared.operation.Extension.TheVariants.{SignedWord, UnsignedWord, SignedHalf, UnsignedHalf, SignedByte, UnsignedByte}
use Rattle.il_ast.specs.declared.operation.UnaryOp.{UnaryOp}
use Rattle.il_ast.specs.declared.operation.UnaryOp.TheVariants.{Neg, Copy, Extend, LoadLong, Load}
use Rattle.il_ast.specs.declared.operation.Condition.TheVariants.{Equal, NotEqual, SignedLessEqual, SignedLess, SignedGreaterEqual, SignedGreater, UnsignedLessEqual, UnsignedLess, UnsignedGreaterEqual, UnsignedGreater}
use Rattle.il_ast.specs.declared.operation.BinaryOp.{BinaryOp}
use Rattle.il_ast.specs.declared.operation.BinaryOp.TheVariants.{Add, Sub, Mul, And, Or, Xor, Div, Rem, Udiv, Urem, Sar, Shr, Shl, Compare}
use Rattle.il_ast.specs.declared.operation.Alignment.{Alignment}
use Rattle.il_ast.specs.declared.operation.Alignment.TheVariants.{Four, Eight, Sixteen}
use Rattle.il_ast.specs.declared.operand.Val.{Val}
use Rattle.il_ast.specs.declared.operand.Val.TheVariants.{Int, Temp, Global}
use Rattle.il_ast.specs.declared.operand.Dest.{Dest}
use Rattle.il_ast.specs.declared.operand.Arg.{Arg}
use Rattle.il_ast.specs.declared.block.PhiArg.{PhiArg}
use Rattle.il_reader.specs.Words.{class_word, size_word, unary_word, binary_word, alloc_word, store_word}
use Rattle.il_reader.specs.Steps.{Step, ◌>>=◌, ◌>>◌, give, piece, keyword, either, sees, integer, temp, label, symbol, commas, word, natural, maybe}
use Rattle.il_lex.specs.declared.scan.Ahead.{Ahead}
use Rattle.il_lex.specs.declared.scan.Ahead.TheVariants.{End, Bad, Found}
use Rattle.il_lex.specs.Scan.{scan}
use Rattle.il_ast.specs.declared.instruction.Inst.{Inst}
use Rattle.il_ast.specs.declared.instruction.Inst.TheVariants.{Store, Blit}
use Rattle.il_ast.specs.declared.instruction.Jump.{Jump}
use Rattle.il_ast.specs.declared.instruction.Jump.TheVariants.{Goto, Branch, Return, Halt}
use Rattle.il_reader.specs.State.{State}

-- what a word means in a table of words
abbrev pub word_in : {A : Type 0} → List (List ℕ × A) → List ℕ → Option A
word_in [] text = None
word_in (row ∷ rows) text = if pointwise nat_eq text row.0 then Some row.1 else word_in rows text

-- a table of words from what each of them means
abbrev pub table : {A : Type 0} → (A → List ℕ) → List A → List (List ℕ × A)
table spelling [] = []
table spelling (x ∷ xs) = (spelling x, x) ∷ table spelling xs

abbrev pub class_of : List ℕ → Option Class
class_of = word_in (table class_word (W ∷ L ∷ []))

abbrev pub size_of : List ℕ → Option Size
size_of = word_in (table size_word (Byte ∷ Half ∷ Word ∷ Long ∷ []))

abbrev pub unary_of : List ℕ → Option UnaryOp
unary_of = word_in ((codes "loadw", Load SignedWord) ∷ table unary_word (Neg ∷ Copy
    ∷ Extend SignedWord ∷ Extend UnsignedWord ∷ Extend SignedHalf ∷ Extend UnsignedHalf
    ∷ Extend SignedByte ∷ Extend UnsignedByte ∷ LoadLong
    ∷ Load SignedWord ∷ Load UnsignedWord ∷ Load SignedHalf ∷ Load UnsignedHalf ∷ Load SignedByte
    ∷ Load UnsignedByte ∷ []))

-- the comparisons of one class
abbrev pub compared : Class → List BinaryOp
compared class =
    Compare Equal class ∷ Compare NotEqual class
    ∷ Compare SignedLessEqual class ∷ Compare SignedLess class ∷ Compare SignedGreaterEqual class
    ∷ Compare SignedGreater class
    ∷ Compare UnsignedLessEqual class ∷ Compare UnsignedLess class
    ∷ Compare UnsignedGreaterEqual class ∷ Compare UnsignedGreater class ∷ []

abbrev pub binary_of : List ℕ → Option BinaryOp
binary_of = word_in (table binary_word (Add ∷ Sub ∷ Mul ∷ And ∷ Or ∷ Xor ∷ Div ∷ Rem ∷ Udiv ∷ Urem
    ∷ Sar ∷ Shr ∷ Shl ∷ (compared W ++ compared L)))

abbrev pub alloc_of : List ℕ → Option Alignment
alloc_of = word_in (table alloc_word (Four ∷ Eight ∷ Sixteen ∷ []))

abbrev pub store_of : List ℕ → Option Size
store_of = word_in (table store_word (Byte ∷ Half ∷ Word ∷ Long ∷ []))

abbrev pub class : Step Class
class = keyword class_of

abbrev pub is_number : Kind → Bool
is_number (Natural n) = true
is_number (Negative n) = true
is_number _ = false

abbrev pub is_temp : Kind → Bool
is_temp TempKind = true
is_temp _ = false

abbrev pub value : Step Val
value =
    either (sees is_number) (integer >>= λ n. give (Int n))
    (either (sees is_temp) (temp >>= λ t. give (Temp t)) (symbol >>= λ g. give (Global g)))

abbrev pub comma : Step (Unit {0})
comma = piece Comma

abbrev pub destination : Step Dest
destination = do
  t ← temp
  piece Equals
  c ← class
  give (record { temp = t; class = c })

abbrev pub argument : Step Arg
argument = do
  c ← class
  v ← value
  give (record { class = c; value = v })

abbrev pub phi_argument : Step PhiArg
phi_argument = do
  l ← label
  v ← value
  give (record { from = l; value = v })

-- ---- the rules of jumps, of instructions that write no temporary, and of arguments as functions of the
-- state.
abbrev pub word_is : (List ℕ → Bool) → List ℕ → Kind → ℕ → ℕ → Bool
word_is test rest WordKind gap len = test (take len (drop gap rest))
word_is test rest _ gap len = false

abbrev pub ahead_is : (List ℕ → Bool) → List ℕ → Ahead → Bool
ahead_is test rest End = false
ahead_is test rest Bad = false
ahead_is test rest (Found kind gap len) = word_is test rest kind gap len

-- whether the next token is a word that passes a test
abbrev pub sees_word : (List ℕ → Bool) → State → Bool
sees_word test s = ahead_is test s.rest (scan s.rest)

-- what begins a value
abbrev pub is_value : Kind → Bool
is_value (Natural n) = true
is_value (Negative n) = true
is_value TempKind = true
is_value GlobalKind = true
is_value _ = false

abbrev pub storing : Step Inst
storing = do
  size ← keyword store_of
  v ← value
  comma
  at ← value
  give (Store size v at)

abbrev pub blit : Step Inst
blit = do
  word (codes "blit")
  from ← value
  comma
  to ← value
  comma
  count ← natural
  give (Blit from to count)

abbrev pub goto : Step Jump
goto = do
  word (codes "jmp")
  l ← label
  give (Goto l)

abbrev pub branch : Step Jump
branch = do
  word (codes "jnz")
  v ← value
  comma
  nonzero ← label
  comma
  otherwise ← label
  give (Branch v nonzero otherwise)

abbrev pub returning : Step Jump
returning = do
  word (codes "ret")
  v ← maybe (sees is_value) value
  give (Return v)

abbrev pub halt : Step Jump
halt = do
  word (codes "hlt")
  give Halt

abbrev pub is_text : List ℕ → List ℕ → Bool
is_text word text = pointwise nat_eq text word

abbrev pub jump : Step Jump
jump =
    either (sees_word (is_text (codes "jmp"))) goto
    (either (sees_word (is_text (codes "jnz"))) branch
    (either (sees_word (is_text (codes "ret"))) returning halt))

abbrev pub is_word : Kind → Bool
is_word WordKind = true
is_word _ = false

abbrev pub is_comma : Kind → Bool
is_comma (Symbol Comma) = true
is_comma _ = false

abbrev pub arguments : Step (List Arg)
arguments s =
    if sees is_word s then commas (sees is_comma) comma (sees is_word) argument s else Some ([], s)
