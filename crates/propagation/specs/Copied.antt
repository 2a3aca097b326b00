-- Code in which copies of registers are read in place of them, as long as both hold the same.
use Rattle.std.specs.Prelude.{ℕ, Bool, not, ◌&&◌, nat_eq, nat_lt, if◌then◌else◌, List, [], ◌∷◌, ◌++◌, map, filter, length, Option, Some, None}
use Rattle.vcode.specs.declared.place.Operand.{Operand}
use Rattle.vcode.specs.declared.place.Operand.TheVariants.{At}
use Rattle.vcode.specs.declared.line.Line.{Line}
use Rattle.vcode.specs.declared.line.Line.TheVariants.{Set}
use Rattle.vcode.specs.declared.code.Block.{Block}
use Rattle.vcode.specs.declared.code.Code.{Code}
use Rattle.vcode.specs.Prelude.{with_line, with_jump}
use Rattle.cfg_live.specs.Registers.{line_writes}
use Rattle.propagation.specs.declared.copies.known.KnownCopy.{KnownCopy}

-- ---- what is read

-- the first copy of the register, or itself where there is none
abbrev pub copy_of : List KnownCopy → ℕ → ℕ
copy_of [] r = r
copy_of (c ∷ copies) r = if nat_eq c.source r then c.copy else copy_of copies r

abbrev pub read_by : List KnownCopy → Operand ℕ → Operand ℕ
read_by copies (At r) = At (copy_of copies r)
read_by copies a = a

-- ---- what is known after a line

-- a copy is still one after a write to another register than these two
abbrev pub survives : (written : ℕ) → KnownCopy → Bool
survives r c = not (nat_eq c.source r) && not (nat_eq c.copy r)

abbrev pub surviving : (written : Option ℕ) → List KnownCopy → List KnownCopy
surviving None copies = copies
surviving (Some r) copies = filter (survives r) copies

-- the copy that a line makes
abbrev pub made_by : Line ℕ → Option KnownCopy
made_by (Set to (At from)) =
    if nat_eq to from then None else Some (record { source = from; copy = to })
made_by l = None

-- one more, if fewer than 16 are known
abbrev pub with_copy : Option KnownCopy → List KnownCopy → List KnownCopy
with_copy None copies = copies
with_copy (Some c) copies = if nat_lt (length copies) 16 then copies ++ c ∷ [] else copies

abbrev pub after : Line ℕ → List KnownCopy → List KnownCopy
after l copies = with_copy (made_by l) (surviving (line_writes l) copies)

-- ---- blocks

-- lines before which these copies are known
abbrev pub reading_lines : List KnownCopy → List (Line ℕ) → List (Line ℕ)
reading_lines copies [] = []
reading_lines copies (l ∷ lines) =
    with_line (read_by copies) l ∷ reading_lines (after (with_line (read_by copies) l) copies) lines

-- the copies that are known behind such lines
abbrev pub known_behind : List KnownCopy → List (Line ℕ) → List KnownCopy
known_behind copies [] = copies
known_behind copies (l ∷ lines) = known_behind (after (with_line (read_by copies) l) copies) lines

-- none is known where a block begins
abbrev pub reading_block : Block ℕ → Block ℕ
reading_block b =
    record {
      lines = reading_lines [] b.lines;
      jump = with_jump (read_by (known_behind [] b.lines)) b.jump;
    }

abbrev pub reading_copies : Code ℕ → Code ℕ
reading_copies f =
    record { result = f.result; params = f.params; blocks = map reading_block f.blocks }
