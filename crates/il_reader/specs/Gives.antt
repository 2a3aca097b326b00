-- What a function of the reader answers.
use Rattle.std.specs.Prelude.{◌≡◌, ℕ, Bool, true, false, if◌then◌else◌, List, [], ◌∷◌, ◌++◌, map, Option, Some, None, option_and_then, Result, option_map, MatchResult}
use Rattle.std.specs.Borrow.{Bor}
use Rattle.il_reader.specs.declared.fault.Unread.{Unread}
use Rattle.il_reader.specs.declared.fault.Unread.TheVariants.{Syntax}
use Rattle.il_lex.specs.Scan.{scan}
use Rattle.il_ast.specs.declared.block.Phi.{Phi}
use Rattle.il_ast.specs.declared.block.Block.{Block}
use Rattle.il_ast.specs.declared.instruction.Lined.{Lined}
use Rattle.il_ast.specs.declared.instruction.Inst.{Inst}
use Rattle.il_ast.specs.declared.text.Definition.{Definition}
use Rattle.il_reader.specs.declared.statement.Statement.{Statement}
use Rattle.il_reader.specs.declared.statement.Statement.TheVariants.{Phi as PhiLine, Inst as InstLine}
use Rattle.il_reader.specs.State.{State}
use Rattle.il_reader.specs.Reads.{falling, jump_to}
use Rattle.il_reader.specs.Blocks.{Lines}
use Rattle.il_reader.specs.Definitions.{blocks, between, definition, DefinitionParts, definition_parts, definitions, is_end}
use Rattle.il_reader.specs.Steps.{Step, ◌>>=◌, give, many, commas, sees}
use Rattle.il_reader.specs.Reading.{is_newline, is_word}

-- what a step reads and the state afterwards, and a syntax error only where the step reads nothing
abbrev pub Gives : {A : Type 0} → Step A → State → State → Result A Unread → Type 0
Gives step old new result =
    MatchResult result (λ x. step old ≡ Some (x, new)) (λ e. e ≡ Syntax → step old ≡ None)

-- the same of a step that reads a text
abbrev pub GivesText : Step (List ℕ) → State → State → Result (Bor (List ℕ)) Unread → Type 0
GivesText step old new result =
    MatchResult result (λ text. step old ≡ Some (text.now, new)) (λ e. e ≡ Syntax → step old ≡ None)

-- what a step reads, behind what has been read
abbrev pub appended : {A : Type 0} → List A → Option (List A × State) → Option (List A × State)
appended xs read = option_map (λ x. (xs ++ x.0, x.1)) read

-- the item that a step reads, behind what has been read
abbrev pub pushed : {A : Type 0} → List A → Option (A × State) → Option (List A × State)
pushed xs read = option_map (λ x. (xs ++ x.0 ∷ [], x.1)) read

-- the state behind what a step reads
abbrev pub passed : {A : Type 0} → Option (A × State) → Option State
passed read = option_map (λ x. x.1) read

-- lines of a block, behind the phis and instructions that have been read
abbrev pub with_lines : List Phi → List (Lined Inst) → Option (Lines × State) →
    Option (Lines × State)
with_lines phis insts read = option_map (λ x. ((phis ++ x.0.0, insts ++ x.0.1), x.1)) read

-- a line of a block behind others, and whether an instruction is among them
abbrev pub one_line : Bool → List Phi → List (Lined Inst) → Statement → State →
    Option ((Lines × Bool) × State)
one_line begun phis insts (PhiLine phi) s =
    if begun then None else Some (((phis ++ phi ∷ [], insts), false), s)
one_line begun phis insts (InstLine inst) s = Some (((phis, insts ++ inst ∷ []), true), s)

abbrev pub with_line : Bool → List Phi → List (Lined Inst) → Option (Statement × State) →
    Option ((Lines × Bool) × State)
with_line begun phis insts read = option_and_then (λ x. one_line begun phis insts x.0 x.1) read

-- a step at least once, then as often as the next token tells
abbrev pub some : {A : Type 0} → (State → Bool) → Step A → Step (List A)
some look p = p >>= λ x. many look p >>= λ xs. give (x ∷ xs)

-- a block before the next, to which it goes where it has no jump
abbrev pub fell : Block → Block → Block
fell last next =
    record {
      line = last.line;
      label = last.label;
      phis = last.phis;
      insts = last.insts;
      jump = Some (jump_to next last.jump);
    }

-- the next block, and the one before it behind the others
abbrev pub next_fallen : List Block → Block → Option (Block × State) →
    Option ((List Block × Block) × State)
next_fallen blocks last read = option_map (λ x. ((blocks ++ fell last x.0 ∷ [], x.0), x.1)) read

-- the blocks behind one, and that one, behind the others
abbrev pub fallen : List Block → Block → Option (List Block × State) → Option (List Block × State)
fallen blocks last read = option_map (λ x. (blocks ++ falling (last ∷ x.0), x.1)) read

-- blocks of which one without a jump goes to the next
abbrev pub falling_blocks : Step (List Block)
falling_blocks = blocks >>= λ bs. give (falling bs)

-- the parts of definitions
abbrev pub parts_of : List Definition → List DefinitionParts
parts_of definitions = map definition_parts definitions

-- definitions, which may be none
abbrev pub definition_list : Step (List DefinitionParts)
definition_list s =
    if sees is_word s then commas (sees is_newline) between (sees is_word) definition s
    else Some ([], s)

-- the definitions of a text, where nothing is left behind them
abbrev pub to_the_end : List DefinitionParts → Step (List DefinitionParts)
to_the_end parts s = if is_end (scan s.rest) then Some (parts, s) else None

abbrev pub whole_text : Step (List DefinitionParts)
whole_text = definitions >>= to_the_end
