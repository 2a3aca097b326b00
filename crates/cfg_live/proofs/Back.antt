-- Sweeps against the order of the points: a point that leads only to later ones stays stable, since these come first.
use Rattle.std.proofs.Common.{◌≡◌, ℕ, ◌+◌, ◌<◌, ◌≤◌, Bool, true, false, not, nat_eq, nat_lt, ◌||◌, ◌&&◌, List, [], ◌∷◌, Option, Some, None, slice_get, refl, sym, ◌∙◌, ap, subst, arith, inl, inr}
use Rattle.std.proofs.Math.Nat.{eq-or-lt_of_le}
use Rattle.std.specs.List.{list_all}
use Rattle.std.specs.Option.{option_map_or}
use Rattle.std.proofs.lemmas.Bool.Decides.{nat_tests}
use Rattle.std.proofs.lemmas.Bool.{and_parts}
use Rattle.bitset.specs.Bits.{Bits}
use Rattle.cfg_live.specs.declared.graph.Graph.{Graph}
use Rattle.cfg_live.specs.Rows.{reads, writes, holds, any_holds, next_of, flows, goes_on, Stable, SameMarks, Went}
use Rattle.cfg_live.proofs.Marks.{stable_same}

past : (p q point : ℕ) → nat_lt p q ≡ true → point ≤ p → nat_eq q point ≡ false
past p q point h low = grind (arith, nat_tests)

-- what only one set of an earlier point, or the point itself, has changed
abbrev Spares : ℕ → (old new : List Bits) → Type 0
Spares point old new = (q r : ℕ) → nat_eq q point ≡ false → holds new q r ≡ holds old q r

any_spared : (point : ℕ) (old new : List Bits) → Spares point old new → (p r : ℕ) → point ≤ p → (ps : List ℕ) → list_all (λ q. nat_lt p q) ps ≡ true → any_holds new r ps ≡ any_holds old r ps
any_spared point old new others p r low [] h = refl
any_spared point old new others p r low (q ∷ ps) h =
    let s = and_parts (nat_lt p q) (list_all (λ k. nat_lt p k) ps) h in
    ap (λ b. b || any_holds new r ps) (others q r (past p q point s.0 low)) ∙ ap (λ b. holds old q r || b) (any_spared point old new others p r low ps s.1)

all_next : (p : ℕ) (nexts : Option (List ℕ)) → option_map_or (λ (ks : List ℕ). list_all (λ q. nat_lt p q) ks) nexts true ≡ true → list_all (λ q. nat_lt p q) (option_map_or (λ (ks : List ℕ). ks) nexts []) ≡ true
all_next p None h = refl
all_next p (Some ks) h = h

flows_spared : (g : Graph) (n point : ℕ) (old new : List Bits) → Spares point old new → (p r : ℕ) → point ≤ p → goes_on g p ≡ true → flows g n new p r ≡ flows g n old p r
flows_spared g n point old new others p r low on =
    ap (λ b. (nat_lt r n && reads g p r) || (b && not (writes g p r))) (any_spared point old new others p r low (next_of g p) (all_next p (slice_get g.nexts p) on))

-- behind a visit of a point what was stable from there on still is, and so is the point
pub stable_back : (g : Graph) (n count : ℕ) (old new : List Bits) (point : ℕ) → Went g n old new → ((r : ℕ) → flows g n old point r ≡ true → holds new point r ≡ true) → Spares point old new
    → ((p : ℕ) → point < p → p < count → goes_on g p ≡ true → Stable g n old p)
    → (p : ℕ) → point ≤ p → p < count → goes_on g p ≡ true → Stable g n new p
stable_back g n count old new point went taken others before p low inside on r h =
    let flowed : flows g n old p r ≡ true = sym (flows_spared g n point old new others p r low on) ∙ h in
    elim (eq-or-lt_of_le low) [
      | inl at ↦ ap (λ q. holds new q r) (sym at) ∙ taken r (ap (λ q. flows g n old q r) at ∙ flowed)
      | inr below ↦ went.kept p r (before p below inside on r flowed)
    ]

-- behind a visit that changed nothing the points up to there that lead back are stable, if it was one of them
pub latches_on : (g : Graph) (n : ℕ) (mid new : List Bits) (point : ℕ) → SameMarks mid new → ((p : ℕ) → p < point → goes_on g p ≡ false → Stable g n mid p) → (goes_on g point ≡ false → Stable g n new point)
    → (p : ℕ) → p < point + 1 → goes_on g p ≡ false → Stable g n new p
latches_on g n mid new point same before here p low back = elim (eq-or-lt_of_le (let le : p ≤ point = omega arith in le)) [
  | inl at ↦ subst (λ (q : ℕ). Stable g n new q) (sym at) (here (ap (goes_on g) (sym at) ∙ back))
  | inr below ↦ stable_same g n mid new same p (before p below back)
]

-- each point leads on, or back
pub all_stable : (g : Graph) (n : ℕ) (mid new : List Bits) → SameMarks mid new → (p : ℕ) → (goes_on g p ≡ true → Stable g n mid p) → (goes_on g p ≡ false → Stable g n new p) → Stable g n new p
all_stable g n mid new same p on back = by (goes_on g p) refl
  where
    by : (b : Bool) → goes_on g p ≡ b → Stable g n new p
    by true e = stable_same g n mid new same p (on e)
    by false e = back e
