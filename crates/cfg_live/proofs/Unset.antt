-- How many registers the sets do not have: it falls as they grow.
use Rattle.std.proofs.Common.{◌≡◌, ℕ, zero, suc, ◌+◌, ◌<◌, ◌≤◌, Bool, true, false, List, length, refl, arith, inl, inr, ap, ◌∙◌}
use Rattle.std.proofs.Math.Nat.{eq-or-lt_of_le}
use Rattle.bitset.specs.Bits.{Bits}
use Rattle.cfg_live.specs.declared.graph.Graph.{Graph}
use Rattle.cfg_live.specs.Rows.{holds, Went, NewMark}

abbrev one_missing : Bool → ℕ
one_missing true = 0
one_missing false = 1

missing_in : (ℕ → Bool) → ℕ → ℕ
missing_in f zero = 0
missing_in f (suc n) = missing_in f n + one_missing (f n)

pub missing : List Bits → (registers : ℕ) → (points : ℕ) → ℕ
missing rows registers zero = 0
missing rows registers (suc k) = missing rows registers k + missing_in (holds rows k) registers

fewer : (a b : Bool) → (a ≡ true → b ≡ true) → one_missing b ≤ one_missing a
fewer true true h = omega arith
fewer true false h = let e : false ≡ true = h refl in cc
fewer false true h = omega arith
fewer false false h = omega arith

one_fewer : (a b : Bool) → a ≡ false → b ≡ true → one_missing b < one_missing a
one_fewer true b h k = cc
one_fewer false true h k = omega arith
one_fewer false false h k = cc

fewer_in : (f g : ℕ → Bool) → ((r : ℕ) → f r ≡ true → g r ≡ true) → (n : ℕ) → missing_in g n ≤ missing_in f n
unfolding missing_in
fewer_in f g kept zero = omega arith
fewer_in f g kept (suc n) =
    let low = fewer_in f g kept n in
    let here = fewer (f n) (g n) (kept n) in
    omega (arith, low, here)

one_fewer_in : (f g : ℕ → Bool) → ((r : ℕ) → f r ≡ true → g r ≡ true) → (n r : ℕ) → r < n → f r ≡ false → g r ≡ true → missing_in g n < missing_in f n
unfolding missing_in
one_fewer_in f g kept zero r h was is = absurd (omega arith)
one_fewer_in f g kept (suc n) r h was is = elim (eq-or-lt_of_le (let le : r ≤ n = omega arith in le)) [
  | inl at ↦ (
      let low = fewer_in f g kept n in
      let out : f n ≡ false = let e : f n ≡ f r = ap f (let s : n ≡ r = cc in s) in cc in
      let in_now : g n ≡ true = let e : g n ≡ g r = ap g (let s : n ≡ r = cc in s) in cc in
      let here = one_fewer (f n) (g n) out in_now in
      omega (arith, low, here)
      )
  | inr below ↦ (
      let low = one_fewer_in f g kept n r below was is in
      let here = fewer (f n) (g n) (kept n) in
      omega (arith, low, here)
      )
]

pub missing_falls : (old new : List Bits) (registers : ℕ) → ((p r : ℕ) → holds old p r ≡ true → holds new p r ≡ true) → (points : ℕ) → missing new registers points ≤ missing old registers points
unfolding missing
missing_falls old new registers kept zero = omega arith
missing_falls old new registers kept (suc k) =
    let low = missing_falls old new registers kept k in
    let here = fewer_in (holds old k) (holds new k) (kept k) registers in
    omega (arith, low, here)

pub missing_falls_more : (old new : List Bits) (registers : ℕ) → ((p r : ℕ) → holds old p r ≡ true → holds new p r ≡ true)
    → (p r : ℕ) → r < registers → holds old p r ≡ false → holds new p r ≡ true
    → (points : ℕ) → p < points → missing new registers points < missing old registers points
unfolding missing
missing_falls_more old new registers kept p r below was is zero h = absurd (omega arith)
missing_falls_more old new registers kept p r below was is (suc k) h = elim (eq-or-lt_of_le (let le : p ≤ k = omega arith in le)) [
  | inl at ↦ (
      let low = missing_falls old new registers kept k in
      let same : k ≡ p = cc in
      let out : holds old k r ≡ false = ap (λ q. holds old q r) same ∙ was in
      let in_now : holds new k r ≡ true = ap (λ q. holds new q r) same ∙ is in
      let here = one_fewer_in (holds old k) (holds new k) (kept k) registers r below out in_now in
      omega (arith, low, here)
      )
  | inr low_p ↦ (
      let low = missing_falls_more old new registers kept p r below was is k low_p in
      let here = fewer_in (holds old k) (holds new k) (kept k) registers in
      omega (arith, low, here)
      )
]

pub falls : (g : Graph) (registers points : ℕ) (old mid new : List Bits) → length old ≡ points → NewMark registers old mid → Went g registers old mid → Went g registers mid new
    → missing new registers points < missing old registers points
falls g registers points old mid new e m a b =
    let first = missing_falls_more old mid registers a.kept m.point m.register m.below m.was_out m.is_in points (omega (arith, m.inside, e)) in
    let rest = missing_falls mid new registers b.kept points in
    omega (arith, first, rest)
