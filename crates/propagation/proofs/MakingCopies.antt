-- One line more of a block that reads copies.
use Rattle.std.proofs.Common.{◌≡◌, ℕ, ◌+◌, ◌<◌, List, [], ◌∷◌, ◌++◌, drop, length, get_or, sym, ◌∙◌, ap}
use Rattle.vcode.specs.declared.line.Line.{Line}
use Rattle.vcode.specs.Prelude.{with_line}
use Rattle.vcode.proofs.Lists.{item_next}
use Rattle.propagation.specs.declared.copies.known.KnownCopy.{KnownCopy}
use Rattle.propagation.specs.Copied.{read_by, after, reading_lines, known_behind}
use Rattle.il_ast.proofs.Listed.{append_one}

pub lines_on : (made : List (Line ℕ)) (copies : List KnownCopy) (lines : List (Line ℕ)) (i : ℕ) (l m : Line ℕ) → i < length lines → l ≡ get_or lines i l → m ≡ with_line (read_by copies) l
    → (made ++ m ∷ []) ++ reading_lines (after m copies) (drop (i + 1) lines) ≡ made ++ reading_lines copies (drop i lines)
lines_on made copies lines i l m low at is =
    append_one made m (reading_lines (after m copies) (drop (i + 1) lines))
    ∙ ap (λ (x : Line ℕ). made ++ x ∷ reading_lines (after x copies) (drop (i + 1) lines)) is
    ∙ ap (λ (xs : List (Line ℕ)). made ++ reading_lines copies xs) (sym (item_next lines i l low at))

pub known_on : (copies : List KnownCopy) (lines : List (Line ℕ)) (i : ℕ) (l m : Line ℕ) → i < length lines → l ≡ get_or lines i l → m ≡ with_line (read_by copies) l
    → known_behind (after m copies) (drop (i + 1) lines) ≡ known_behind copies (drop i lines)
known_on copies lines i l m low at is =
    ap (λ (x : Line ℕ). known_behind (after x copies) (drop (i + 1) lines)) is ∙ ap (known_behind copies) (sym (item_next lines i l low at))
