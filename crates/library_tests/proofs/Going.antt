-- Labelled code in which an item goes over many instructions.
use Rattle.std.proofs.Common.{◌≡◌, ℕ, zero, suc, ◌+◌, ◌<◌, ◌≤◌, Bool, true, false, [], ◌∷◌, ◌++◌, refl, arith, lit≤, replicate, slice_set, if◌then◌else◌}
use Rattle.std.specs.List.{list_all}
use Rattle.std.proofs.lemmas.Bool.{and_from}
use Rattle.rv_isa.specs.Prelude.{IsLabelled, longest, longest_size, is_label, times_labelled, has_label_below}
use Rattle.rv_isa.specs.declared.labelled.Item.{Item}
use Rattle.rv_isa.specs.declared.labelled.Item.TheVariants.{Plain, Label, Branch, Goto, Call, Relocated}
use Rattle.rv_isa.specs.declared.instruction.Instr.{Instr}

-- ---- an item, a run of one instruction, and another item

all_in : (test : Item → Bool) (n : ℕ) (x b : Item) → test x ≡ true → test b ≡ true → list_all test (replicate n x ++ b ∷ []) ≡ true
all_in test zero x b h k = and_from (test b) true k refl
all_in test (suc n) x b h k = and_from (test x) (list_all test (replicate n x ++ b ∷ [])) h (all_in test n x b h k)

sizes_in : (n : ℕ) (i : Instr) (b : Item) → longest_size (replicate n (Plain i) ++ b ∷ []) ≡ n + longest b
sizes_in zero i b = omega arith
sizes_in (suc n) i b = let rest = sizes_in n i b in omega arith

times_in : (l n : ℕ) (i : Instr) (b : Item) → times_labelled l (replicate n (Plain i) ++ b ∷ []) ≡ (if is_label l b then 1 else 0)
times_in l zero i b = omega arith
times_in l (suc n) i b = let rest = times_in l n i b in omega arith

-- one of the two is the label 0, the other is none
record Ends (a b : Item) : Type 0 where
  below_a : has_label_below 1 a ≡ true
  below_b : has_label_below 1 b ≡ true
  once : (l : ℕ) → (if is_label l a then 1 else 0) + (if is_label l b then 1 else 0) ≤ 1
  some : 0 < longest a + longest b
  few : longest a + longest b < 4

run_is : (a b : Item) (n : ℕ) (i : Instr) → Ends a b → n < 2000000 → IsLabelled (record { items = a ∷ replicate n (Plain i) ++ b ∷ []; labels = 1 })
run_is a b n i e small =
    let sizes = sizes_in n i b in
    let some = e.some in
    let few = e.few in
    record {
      labels = and_from (has_label_below 1 a) (list_all (has_label_below 1) (replicate n (Plain i) ++ b ∷ [])) e.below_a
          (all_in (has_label_below 1) n (Plain i) b refl e.below_b);
      once = λ l. let times = times_in l n i b in let once = e.once l in omega (arith, times, once);
      not_empty = omega arith;
      near = omega arith;
    }

set_first : (n : ℕ) (i : Instr) (a b : Item) → 0 < n → n < 2000000 → Ends a b → IsLabelled (record { items = slice_set (replicate n (Plain i)) 0 a ++ b ∷ []; labels = 1 })
set_first zero i a b some few e = absurd (omega arith)
set_first (suc n) i a b some few e = run_is a b n i e (omega arith)

-- an item that takes words is no label
no_label : (i : Item) → 0 < longest i → (l : ℕ) → is_label l i ≡ false
no_label (Plain i) takes l = refl
no_label (Label m) takes l = absurd (omega arith)
no_label (Branch op rs1 rs2 m) takes l = refl
no_label (Goto m) takes l = refl
no_label (Call n) takes l = refl
no_label (Relocated r) takes l = refl

one_label : (t s : Bool) → s ≡ false → (if t then 1 else 0) + (if s then 1 else 0) ≤ 1
one_label true false e = lit≤ tt
one_label false false e = lit≤ tt
one_label t true e = absurd (let no : ⊥ = cc in no)

pub goes_ahead : (n : ℕ) (i : Instr) (going : Item) → 0 < n → n < 2000000 → has_label_below 1 going ≡ true → 0 < longest going → longest going ≤ 3
    → IsLabelled (record { items = slice_set (replicate n (Plain i)) 0 going ++ Label 0 ∷ []; labels = 1 })
goes_ahead n i going some few below takes short =
    set_first n i going (Label 0) some few
    (record {
      below_a = below;
      below_b = refl;
      once = λ l. let one = one_label (is_label l (Label 0)) (is_label l going) (no_label going takes l) in omega (arith, one);
      some = omega arith;
      few = omega arith;
    })

pub goes_back : (n : ℕ) (i : Instr) (going : Item) → 0 < n → n < 2000000 → has_label_below 1 going ≡ true → 0 < longest going → longest going ≤ 3
    → IsLabelled (record { items = slice_set (replicate n (Plain i)) 0 (Label 0) ++ going ∷ []; labels = 1 })
goes_back n i going some few below takes short =
    set_first n i (Label 0) going some few
    (record {
      below_a = refl;
      below_b = below;
      once = λ l. one_label (is_label l (Label 0)) (is_label l going) (no_label going takes l);
      some = omega arith;
      few = omega arith;
    })
