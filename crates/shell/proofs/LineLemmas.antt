-- Lines, one after another.
use Rattle.std.proofs.Common.{◌≡◌, ℕ, ◌+◌, ◌-◌, ◌≤◌, ◌<◌, List, [], ◌∷◌, ◌++◌, length, take, drop, get_or, refl, sym, ◌∙◌, ap, append_assoc, arith, length-drop}
use Rattle.std.proofs.lemmas.List.{take_rest}
use Rattle.shell.specs.Lines.{line, lines_of, word_of}

-- four bytes make a line
pub lines_four : (address : ℕ) (rest : List ℕ) → 4 ≤ length rest → lines_of address rest ≡ line address (word_of (get_or rest 0 0) (get_or rest 1 0) (get_or rest 2 0) (get_or rest 3 0)) ∷ lines_of (address + 4) (drop 4 rest)
lines_four address [] p = absurd (omega arith)
lines_four address (a ∷ []) p = absurd (omega arith)
lines_four address (a ∷ b ∷ []) p = absurd (omega arith)
lines_four address (a ∷ b ∷ c ∷ []) p = absurd (omega arith)
lines_four address (a ∷ b ∷ c ∷ d ∷ rest) p = refl

-- one more line is shown
pub lines_on : (all shown new : List (List ℕ)) (address : ℕ) (rest next : List ℕ)
    → 4 ≤ length rest
    → next ≡ line address (word_of (get_or rest 0 0) (get_or rest 1 0) (get_or rest 2 0) (get_or rest 3 0))
    → new ≡ shown ++ next ∷ []
    → shown ++ lines_of address rest ≡ all
    → new ++ lines_of (address + 4) (take (length rest - 4) (drop 4 rest)) ≡ all
lines_on all shown new address rest next p e n s =
    let more = lines_of (address + 4) (drop 4 rest) in
    let here : new ++ more ≡ shown ++ next ∷ more = ap (λ x. x ++ more) n ∙ append_assoc shown (next ∷ []) more in
    let there : shown ++ next ∷ more ≡ shown ++ lines_of address rest = ap (λ x. shown ++ x ∷ more) e ∙ ap (λ x. shown ++ x) (sym (lines_four address rest p)) in
    rw (take_rest rest 4) (here ∙ there ∙ s)

-- addresses stay in their range
pub room_on : (limit address : ℕ) (rest : List ℕ) → 4 ≤ length rest → address + length rest < limit → address + 4 + length (take (length rest - 4) (drop 4 rest)) < limit
room_on limit address rest p room = rw (take_rest rest 4) (omega (arith, length-drop 4 rest))
