-- Bytes are copied, and the machine follows the code on bytes over it.
use Rattle.std.proofs.Common.{inl, inr, ◌≡◌, ℕ, zero, suc, ◌+◌, ◌-◌, ◌<◌, ◌≤◌, Bool, true, false, List, ◌∷◌, refl, sym, ◌∙◌, ap, subst, arith, ◌&&◌, ◌||◌, nat_eq, nat_le, if◌then◌else◌, Option, Some, None}
use Rattle.abi_frames.proofs.Shared.{State, Location, Operand, Line, Block, Code, list_all, option_and_then, and_parts, eqb-true, leb-true, nat_tests, is_place, operand_keeps, line_keeps}
use Rattle.vcode.specs.declared.line.Line.TheVariants.{Blit}
use Rattle.flat_code.specs.Flat.{NoAccess, ThisByte, Spots, FlatGiven, FlatOutcome}
use Rattle.flat_code.specs.Step.{all_there, apart_or_same, is_in, with_copy, copied, FlatState, number_of, changes, goes_on}
use Rattle.abi_frames.specs.Performs.{HoldsSpots, AllPerform}
use Rattle.abi_frames.proofs.Leads.{leads_as}
use Rattle.abi_frames.proofs.StackAccesses.{UsableFrom}
use Rattle.abi_frames.proofs.Activations.{Setting, operand_in, Framed, operand_known}
use Rattle.abi_frames.proofs.MemoryChanges.{Changed, changed, there_at, usable_from, inside_is, outside_is}
use Rattle.abi_frames.proofs.CopyCode.{Apart, Copied, leads_blit_line}
use Rattle.abi_frames.proofs.Simulation.{CodeStands, At, Performed, Log, Follows, Then, undefined, reach, advance, nothing_taken}

-- ---- the bytes after it

apart_is : (n from to : ℕ) → apart_or_same n from to ≡ true → Apart n from to
apart_is n from to h = by_test (nat_eq from to) refl (nat_le (from + n) to) refl h
  where
    by_test : (a : Bool) → nat_eq from to ≡ a → (b : Bool) → nat_le (from + n) to ≡ b → (a || (b || nat_le (to + n) from)) ≡ true → Apart n from to
    by_test true e b d k = inl (eqb-true from to e)
    by_test false e true d k = inr (inl (leb-true (from + n) to d))
    by_test false e false d k = inr (inr (leb-true (to + n) from k))

copied_changes : (c : Setting) (memory : Spots) (s u : State) (n from to : ℕ) → HoldsSpots c.world.memory_map memory s → all_there memory to n ≡ true
    → Copied s n from to u → Changed memory (with_copy memory n from to) s u
copied_changes c memory s u n from to holds there h = record {
  registers = h.registers;
  output = h.output;
  spared = λ x away. h.bytes.outside x (outside_is to n x (spared x away (is_in to n x) refl));
  known = λ x m e. known x m (is_in to n x) refl e;
  stays = λ x away. stays x away (is_in to n x) refl;
}
  where
    spared : (x : ℕ) → memory x ≡ NoAccess → (b : Bool) → is_in to n x ≡ b → is_in to n x ≡ false
    spared x away false e = e
    spared x away true e = let at = inside_is to n x e in absurd (there_at memory to n x there at.0 at.1 away)

    stays : (x : ℕ) → memory x ≡ NoAccess → (b : Bool) → is_in to n x ≡ b → (if b then memory (from + (x - to)) else memory x) ≡ NoAccess
    stays x away false e = away
    stays x away true e = let at = inside_is to n x e in absurd (there_at memory to n x there at.0 at.1 away)

    known : (x m : ℕ) → (b : Bool) → is_in to n x ≡ b → (if b then memory (from + (x - to)) else memory x) ≡ ThisByte m → u.bytes x ≡ m
    known x m false e is = h.bytes.outside x (outside_is to n x e) ∙ holds.known x m is
    known x m true e is =
        let at = inside_is to n x e in
        let lo = at.0 in
        let hi = at.1 in
        let place : x ≡ to + (x - to) = omega (arith, lo) in
        let few : x - to < n = omega (arith, lo, hi) in
        ap u.bytes place ∙ (h.bytes.inside (x - to) few ∙ holds.known (from + (x - to)) m is)

-- no byte is copied
unchanged : (c : Setting) (memory : Spots) (s u : State) (from to : ℕ) → HoldsSpots c.world.memory_map memory s → Copied s 0 from to u
    → Changed memory memory s u
unchanged c memory s u from to holds h = record {
  registers = h.registers;
  output = h.output;
  spared = λ x away. same x (is_in to 0 x) refl;
  known = λ x m e. same x (is_in to 0 x) refl ∙ holds.known x m e;
  stays = λ x away. away;
}
  where
    same : (x : ℕ) → (b : Bool) → is_in to 0 x ≡ b → u.bytes x ≡ s.bytes x
    same x false e = h.bytes.outside x (outside_is to 0 x e)
    same x true e =
        let at = inside_is to 0 x e in
        let lo = at.0 in
        let hi = at.1 in
        absurd (omega (arith, lo, hi))

-- ---- the line

copies : (c : Setting) (f : Code Location) → CodeStands c f → (j : FlatGiven) (r : FlatOutcome) (n : ℕ) → Follows c f j r n
    → (b : Block Location) (x y : Operand Location) (count : ℕ) (lines : List (Line Location)) (fs : FlatState) (k : ℕ) (u : State)
    → (a : At c f b (Blit x y count ∷ lines) fs k u) → (log : Log) → AllPerform c.world c.floor log
    → (p q : ℕ) (now : Spots) → number_of c.addresses fs.numbers x ≡ Some p → number_of c.addresses fs.numbers y ≡ Some q
    → Apart count p q → UsableFrom c.world.memory_map p count → UsableFrom c.world.memory_map q count
    → ((t : State) → Copied u count p q t → Changed fs.memory now u t)
    → Then c f j r n log (goes_on (record fs { memory = now })) → Performed c f r
copies c f is j r n go b x y count lines fs k u a log all p q now is_x is_y apart usable_p usable_q changes goes =
    let known = and_parts (operand_keeps (is_place c.slots) x) (operand_keeps (is_place c.slots) y)
    (and_parts (line_keeps (is_place c.slots) (Blit x y count)) (list_all (line_keeps (is_place c.slots)) lines) a.known).0 in
    let at_x : operand_in c u x ≡ p = operand_known c fs.numbers fs.memory u x p is.setting a.framed known.0 is_x in
    let at_y : operand_in c u y ≡ q = operand_known c fs.numbers fs.memory u y q is.setting a.framed known.1 is_y in
    let apart_there : Apart count (operand_in c u x) (operand_in c u y) =
    subst (λ z. Apart count z (operand_in c u y)) (sym at_x) (subst (Apart count p) (sym at_y) apart) in
    let usable_x = subst (λ z. UsableFrom c.world.memory_map z count) (sym at_x) usable_p in
    let usable_y = subst (λ z. UsableFrom c.world.memory_map z count) (sym at_y) usable_q in
    let reached = reach c f b (Blit x y count) lines fs k u (λ t. Framed c fs.numbers now t × (t.output ≡ u.output)) a
    (leads_as (leads_blit_line c is.setting u x y count a.framed.pointer known.0 known.1 apart_there usable_x usable_y)
    (λ t fixed made. (
      changed c is.setting fs.numbers fs.memory now u t a.framed
          (changes t (subst (λ z. Copied u count p z t) at_y (subst (λ z. Copied u count z (operand_in c u y) t) at_x made))),
      made.output,
    ))) in
    go b lines (record fs { next = fs.next + 1; memory = now }) (k + reached.steps) reached.after
    (advance c f b (Blit x y count) lines fs k u fs.numbers now fs.used a refl (nothing_taken fs.used) a.paid reached) log goes all

-- where the code on bytes copies
blit_at : (c : Setting) (f : Code Location) → CodeStands c f → (j : FlatGiven) (r : FlatOutcome) (n : ℕ) → Follows c f j r n
    → (b : Block Location) (x y : Operand Location) (count : ℕ) (lines : List (Line Location)) (fs : FlatState) (k : ℕ) (u : State)
    → At c f b (Blit x y count ∷ lines) fs k u → (log : Log) → AllPerform c.world c.floor log
    → (p q : ℕ) → number_of c.addresses fs.numbers x ≡ Some p → number_of c.addresses fs.numbers y ≡ Some q
    → Then c f j r n log (changes fs (copied fs.memory count p q)) → Performed c f r
unfolding copied
blit_at c f is j r n go b x y zero lines fs k u a log all p q is_x is_y goes =
    copies c f is j r n go b x y zero lines fs k u a log all p q fs.memory is_x is_y (none_apart p q) (none_usable p) (none_usable q)
    (λ t made. unchanged c fs.memory u t p q a.framed.spots made) goes
  where
    none_usable : (z : ℕ) → UsableFrom c.world.memory_map z zero
    none_usable z v lo hi = absurd (let no : ⊥ = omega (arith, lo, hi) in no)

    none_apart : (v w : ℕ) → Apart zero v w
    none_apart v w = by_test (nat_le v w) refl
      where
        by_test : (t : Bool) → nat_le v w ≡ t → Apart zero v w
        by_test true e = let le = leb-true v w e in inr (inl (omega (arith, le)))
        by_test false e = let le : w ≤ v = grind (arith, nat_tests) in inr (inr (omega (arith, le)))
blit_at c f is j r n go b x y (suc m) lines fs k u a log all p q is_x is_y goes = by_test (test) refl goes
  where
    test : Bool
    test = apart_or_same (suc m) p q && (all_there fs.memory p (suc m) && all_there fs.memory q (suc m))

    by_test : (t : Bool) → test ≡ t → Then c f j r n log (changes fs (if t then Some (with_copy fs.memory (suc m) p q) else None)) → Performed c f r
    by_test false e e_goes = undefined c f fs.spent r e_goes.0
    by_test true e e_goes =
        let parts = and_parts (apart_or_same (suc m) p q) (all_there fs.memory p (suc m) && all_there fs.memory q (suc m)) e in
        let there = and_parts (all_there fs.memory p (suc m)) (all_there fs.memory q (suc m)) parts.1 in
        copies c f is j r n go b x y (suc m) lines fs k u a log all p q (with_copy fs.memory (suc m) p q) is_x is_y (apart_is (suc m) p q parts.0)
        (usable_from c.world.memory_map fs.memory u p (suc m) a.framed.spots there.0)
        (usable_from c.world.memory_map fs.memory u q (suc m) a.framed.spots there.1)
        (λ t made. copied_changes c fs.memory u t (suc m) p q a.framed.spots there.1 made) e_goes

pub blit_case : (c : Setting) (f : Code Location) → CodeStands c f → (j : FlatGiven) (r : FlatOutcome) (n : ℕ) → Follows c f j r n
    → (b : Block Location) (x y : Operand Location) (count : ℕ) (lines : List (Line Location)) (fs : FlatState) (k : ℕ) (u : State)
    → At c f b (Blit x y count ∷ lines) fs k u → (log : Log)
    → Then c f j r n log
    (changes fs
    (option_and_then (λ p. option_and_then (λ q. copied fs.memory count p q) (number_of c.addresses fs.numbers y)) (number_of c.addresses fs.numbers x)))
    → AllPerform c.world c.floor log → Performed c f r
blit_case c f is j r n go b x y count lines fs k u a log goes all =
    by_operands (number_of c.addresses fs.numbers x) refl (number_of c.addresses fs.numbers y) refl goes
  where
    by_operands : (o : Option ℕ) → number_of c.addresses fs.numbers x ≡ o → (v : Option ℕ) → number_of c.addresses fs.numbers y ≡ v
        → Then c f j r n log (changes fs (option_and_then (λ p. option_and_then (λ q. copied fs.memory count p q) v) o)) → Performed c f r
    by_operands None e v d e_goes = undefined c f fs.spent r e_goes.0
    by_operands (Some p) e None d e_goes = undefined c f fs.spent r e_goes.0
    by_operands (Some p) e (Some q) d e_goes = blit_at c f is j r n go b x y count lines fs k u a log all p q e d e_goes
