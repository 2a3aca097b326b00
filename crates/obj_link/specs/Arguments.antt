-- The argument words that a program can be given: limits of this project.
use Rattle.std.specs.Prelude.{ℕ, Bool, true, not, ◌&&◌, ◌==◌, nat_le, List, [], ◌∷◌, length}
use Rattle.std.specs.List.{list_any}
pub use Rattle.il_ast.specs.declared.limits.TheConstants.{WORDS, WORD_BYTES}
use Rattle.rv_isa.specs.Prelude.{word_bytes}

-- no word holds the byte 0, which closes it in memory
abbrev pub hold_no_zero : List (List ℕ) → Bool
hold_no_zero [] = true
hold_no_zero (w ∷ ws) = not (list_any (λ b. b == 0) w) && hold_no_zero ws

-- not too many, of not too many bytes with their closing zeros
abbrev pub are_arguments : List (List ℕ) → Bool
are_arguments words =
    nat_le (length words) WORDS && nat_le (length (word_bytes words)) WORD_BYTES
    && hold_no_zero words
