-- What a token that was found behind a place says of its text.
use Rattle.std.proofs.Common.{◌≡◌, ℕ, zero, suc, ◌+◌, ◌-◌, ◌<◌, ◌≤◌, List, [], ◌∷◌, ◌++◌, length, take, drop, slice_range, refl, sym, ap, ◌∙◌, arith, length-drop, zero-add, drop-drop}
use Rattle.std.proofs.Math.Nat.{suc-add}
use Rattle.il_lex.specs.Next.{lines_in, line_at, line_ends, IsNext, IsAhead}
use Rattle.il_lex.specs.declared.kind.Kind.{Kind}
use Rattle.il_lex.specs.declared.scan.Ahead.TheVariants.{Found}
use Rattle.il_lex.proofs.Lines.{lines-append, lines_gap, lines_text}

take-nil : (n : ℕ) → take {A = ℕ} n [] ≡ []
take-nil zero = refl
take-nil (suc n) = refl

take_add : (m n : ℕ) (xs : List ℕ) → take (m + n) xs ≡ take m xs ++ take n (drop m xs)
take_add zero n xs = ap (λ k. take k xs) (zero-add n)
take_add (suc m) n [] = take-nil (suc m + n) ∙ sym (take-nil n)
take_add (suc m) n (x ∷ xs) = ap (λ k. take k (x ∷ xs)) (suc-add m n) ∙ ap (λ ys. x ∷ ys) (take_add m n xs)

pub record Passes (text : List ℕ) (at gap len : ℕ) (kind : Kind) : Type 0 where
  pub within : at + gap + len ≤ length text
  pub some : 0 < len
  pub line : line_at text (at + gap) ≡ line_at text at
  pub line_after : line_at text (at + gap + len) ≡ line_at text at + line_ends kind
  pub next : IsNext (drop at text) kind (slice_range text at (at + gap)) (slice_range text (at + gap) (at + gap + len)) (drop (at + gap + len) text)

pub passes : (text : List ℕ) (at gap len : ℕ) (kind : Kind) → at ≤ length text → IsAhead (drop at text) (Found kind gap len) → Passes text at gap len kind
passes text at gap len kind h a =
    let size : length (drop at text) ≡ length text - at = length-drop at text in
    let no_line : lines_in (take gap (drop at text)) ≡ 0 = lines_gap kind (take gap (drop at text)) a.0.gap_is in
    let lines_front : lines_in (take (at + gap) text) ≡ lines_in (take at text) =
    ap lines_in (take_add at gap text) ∙ lines-append (take at text) (take gap (drop at text)) ∙ omega arith in
    let later : drop (at + gap) text ≡ drop gap (drop at text) = sym (drop-drop gap at text) in
    let last : drop (at + gap + len) text ≡ drop len (drop gap (drop at text)) = sym (drop-drop len (at + gap) text) ∙ ap (drop len) later in
    let lines_text : lines_in (take len (drop gap (drop at text))) ≡ line_ends kind = lines_text kind (take len (drop gap (drop at text))) a.0.text_is in
    let lines_after : lines_in (take (at + gap + len) text) ≡ lines_in (take at text) + line_ends kind =
    ap lines_in (take_add (at + gap) len text ∙ ap (λ xs. take (at + gap) text ++ take len xs) later)
    ∙ lines-append (take (at + gap) text) (take len (drop gap (drop at text))) ∙ omega arith in
    let first : at + gap - at ≡ gap = omega arith in
    let second : at + gap + len - (at + gap) ≡ len = omega arith in
    record {
      within = omega (arith, size, a.2);
      some = a.1;
      line = omega (arith, lines_front);
      line_after = omega (arith, lines_after);
      next = rw (first, second, later, last) a.0;
    }
