-- Lines are made one after another.
use Rattle.std.proofs.Common.{◌≡◌, ℕ, ◌+◌, ◌<◌, true, List, [], ◌∷◌, ◌++◌, Option, Some, None, IfSome, Result, Ok, Err, IfOk, length, get_or, drop, refl, sym, subst}
use Rattle.std.specs.List.{list_all}
use Rattle.std.proofs.lemmas.Bool.{and_parts}
use Rattle.vcode.specs.declared.line.Line.{Line}
use Rattle.vcode.specs.declared.code.Block.{Block}
use Rattle.vcode.proofs.Lists.{item_next}
use Rattle.code_motion.specs.Longer.{is_extra, AreLonger, NoLines, Own, Extra, with_front, IsLonger}

module _ (n m : ℕ) where
  itself : (lines : List (Line ℕ)) → AreLonger n m lines lines
  itself [] = NoLines
  itself (l ∷ lines) = Own (itself lines)

  pub copied : {E : Type 0} (b : Block ℕ) (r : Result (Block ℕ) E) → IfOk r (λ d. d ≡ b) → IfOk r (λ d. IsLonger n m b d)
  copied b (Ok d) same = subst (IsLonger n m b) (sym same) (record { lines = itself b.lines; jump = refl; paid = λ h. h })
  copied b (Err e) same = tt

  -- one line more
  own_on : (lines : List (Line ℕ)) (i : ℕ) (l : Line ℕ) (rest : List (Line ℕ)) → i < length lines → l ≡ get_or lines i l → AreLonger n m (drop (i + 1) lines) rest → AreLonger n m (drop i lines) (l ∷ rest)
  own_on lines i l rest low is on = subst (λ (xs : List (Line ℕ)). AreLonger n m xs (l ∷ rest)) (sym (item_next lines i l low is)) (Own on)

  pub line_on : (lines : List (Line ℕ)) (i : ℕ) (front : Option (Line ℕ)) (l : Line ℕ) (rest : List (Line ℕ)) → i < length lines → l ≡ get_or lines i l → IfSome front (λ k. is_extra n m k ≡ true)
      → AreLonger n m (drop (i + 1) lines) rest → AreLonger n m (drop i lines) (with_front front l ++ rest)
  line_on lines i None l rest low is fits on = own_on lines i l rest low is on
  line_on lines i (Some k) l rest low is fits on = Extra fits (own_on lines i l rest low is on)

  all_behind : (extra : List (Line ℕ)) → list_all (is_extra n m) extra ≡ true → AreLonger n m [] extra
  all_behind [] fits = NoLines
  all_behind (k ∷ extra) fits = let s = and_parts (is_extra n m k) (list_all (is_extra n m) extra) fits in Extra s.0 (all_behind extra s.1)

  -- more behind them all
  pub behind : {lines new : List (Line ℕ)} (extra : List (Line ℕ)) → AreLonger n m lines new → list_all (is_extra n m) extra ≡ true → AreLonger n m lines (new ++ extra)
  behind extra NoLines fits = all_behind extra fits
  behind extra (Own rest) fits = Own (behind extra rest fits)
  behind extra (Extra first rest) fits = Extra first (behind extra rest fits)
