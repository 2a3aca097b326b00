-- The lines of a disassembly.
use Rattle.std.specs.Prelude.{ℕ, ◌+◌, ◌*◌, ◌/◌, ◌%◌, ◌++◌, List, [], ◌∷◌, codes, false, Option, Some, None, if◌then◌else◌}
use Rattle.std.specs.Fmt.{digit_glyph}
use Rattle.elf_file.specs.Conditions.{Mapping, is_executable}
use Rattle.rv_isa.specs.declared.instruction.Instr.{Instr}
use Rattle.rv_isa.specs.Prelude.{instruction_of, text_of}

-- a byte as two hexadecimal digits, in lower case
abbrev pub two_digits : ℕ → List ℕ
two_digits byte = digit_glyph false (byte / 16) ∷ digit_glyph false (byte % 16) ∷ []

-- a number as eight hexadecimal digits
unfoldable pub eight_digits : ℕ → List ℕ
eight_digits number =
    two_digits (number / 0x1000000 % 256) ++ two_digits (number / 0x10000 % 256)
    ++ two_digits (number / 0x100 % 256) ++ two_digits (number % 256)

abbrev pub instruction_text : Option Instr → List ℕ
instruction_text (Some instruction) = text_of instruction
instruction_text None = codes "?"

-- the text of the instruction that a word encodes, or ?
unfoldable pub word_text : ℕ → List ℕ
word_text word = instruction_text (instruction_of word)

-- address, word and text, and a line end
unfoldable pub line : ℕ → ℕ → List ℕ
line address word =
    eight_digits address ++ codes "  " ++ eight_digits word ++ codes "  " ++ word_text word
    ++ codes "\n"

-- four bytes as a word, the lowest first
abbrev pub word_of : ℕ → ℕ → ℕ → ℕ → ℕ
word_of a b c d = a + b * 0x100 + c * 0x10000 + d * 0x1000000

-- a line for each four of the bytes
abbrev pub lines_of : ℕ → List ℕ → List (List ℕ)
lines_of address (a ∷ b ∷ c ∷ d ∷ rest) =
    line address (word_of a b c d) ∷ lines_of (address + 4) rest
lines_of address _ = []

abbrev pub segment_lines : Mapping → List (List ℕ)
segment_lines m = if is_executable m.flags then lines_of m.address m.file_bytes else []

-- a line for each four of the file's bytes in each executable segment
abbrev pub dis_lines : List Mapping → List (List ℕ)
dis_lines [] = []
dis_lines (m ∷ rest) = segment_lines m ++ dis_lines rest
