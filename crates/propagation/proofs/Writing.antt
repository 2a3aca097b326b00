-- What is left of facts when a line writes a register or memory.
use Rattle.std.proofs.Common.{◌≡◌, ℕ, ◌<◌, ◌≤◌, Bool, true, false, not, ◌&&◌, ◌||◌, nat_eq, nat_lt, nat_le, if◌then◌else◌, List, [], ◌∷◌, zero, suc, length, slice_get, slice_set, Option, Some, None, refl, sym, ◌∙◌, ap, arith}
use Rattle.std.specs.Option.{option_map, option_map_or}
use Rattle.std.proofs.lemmas.Bool.{and_parts, and_from}
use Rattle.std.proofs.lemmas.Bool.Decides.{nat_tests}
use Rattle.std.proofs.lemmas.Option.{slice_get_past}
use Rattle.vcode.specs.declared.place.Operand.{Operand}
use Rattle.vcode.specs.declared.place.Operand.TheVariants.{At, Number, Name}
use Rattle.propagation.specs.declared.constants.fact.Fact.{Fact}
use Rattle.propagation.specs.declared.constants.fact.Fact.TheVariants.{Same, Sum, Test}
use Rattle.propagation.specs.declared.constants.fact.DatedFact.{DatedFact}
use Rattle.propagation.specs.declared.constants.table.FactTable.{FactTable}
use Rattle.propagation.specs.FactTable.{names_it, fact_names, asks_memory, operand_below, fact_below, kept_if, cell, is_fresh, stands, counted, facts_of, IsTable, IsAtLine, changed, over}
use Rattle.il_ast.proofs.Listed.{get_set_same, get_set_other, length_slice_set}
use Rattle.il_ast.proofs.Truth.{and_false}

-- ---- lists that are written at a place

get_same : {X : Type 0} (xs : List X) (i : ℕ) (x : X) → slice_get (slice_set xs i x) i ≡ (if nat_lt i (length xs) then Some x else None)
get_same xs i x = by (nat_lt i (length xs)) refl
  where
    by : (b : Bool) → nat_lt i (length xs) ≡ b → slice_get (slice_set xs i x) i ≡ (if b then Some x else None)
    by true e = get_set_same xs i x (grind (arith, nat_tests))
    by false e = slice_get_past (slice_set xs i x) i (let many = length_slice_set xs i x in let past : length xs ≤ i = grind (arith, nat_tests) in omega (arith, many, past))

get_within : {X : Type 0} (xs : List X) (i : ℕ) (x : X) → slice_get xs i ≡ Some x → nat_lt i (length xs) ≡ true
get_within [] i x e = absurd (let no : ⊥ = cc in no)
get_within (y ∷ ys) zero x e = grind (arith, nat_tests)
get_within (y ∷ ys) (suc i) x e = let s = get_within ys i x e in grind (arith, nat_tests)

-- ---- facts under a test

if_kept : (test : _) (b : Bool) (f : Fact) → kept_if test (if b then Some f else None) ≡ (if b && test f then Some f else None)
if_kept test true f = refl
if_kept test false f = refl

if_same : {X : Type 0} (a b : Bool) (x y : X) → a ≡ b → (if a then x else y) ≡ (if b then x else y)
if_same a b x y e = ap (λ c. if c then x else y) e

-- ---- a block begins

pub none_since : (t : FactTable) → IsTable t → t.begun ≡ t.clock → (r : ℕ) → facts_of t r ≡ None
none_since t is e r = by (cell t.cells.items r) refl
  where
    by : (o : Option DatedFact) → cell t.cells.items r ≡ o → counted t.written.items t.memory t.begun o ≡ None
    by None h = refl
    by (Some k) h =
        let low : k.since ≤ t.clock = is.cells r k h in
        let late : nat_lt t.begun k.since ≡ false = grind (arith, nat_tests) in
        ap (λ b. if b && stands t.written.items t.memory k.since k.fact then Some k.fact else None) late

-- ---- memory is written

stands_unasked : (written : List ℕ) (old new since : ℕ) → since < new → (f : Fact) → stands written new since f ≡ (stands written old since f && not (asks_memory f))
stands_unasked written old new since before (Same a) = by (is_fresh written since a)
  where
    by : (b : Bool) → b ≡ (b && true)
    by true = refl
    by false = refl
stands_unasked written old new since before (Sum a n) = by (is_fresh written since a)
  where
    by : (b : Bool) → b ≡ (b && true)
    by true = refl
    by false = refl
stands_unasked written old new since before (Test c) = by (is_fresh written since c.left) (is_fresh written since c.right) (nat_le new since) (nat_le old since) (grind (arith, nat_tests))
  where
    by : (a b x y : Bool) → x ≡ false → (a && (b && x)) ≡ ((a && (b && y)) && false)
    by true true x y h = h ∙ none y
      where
        none : (z : Bool) → false ≡ (z && false)
        none true = refl
        none false = refl
    by true false x y h = refl
    by false b x y h = refl

and_more : (a b c : Bool) → (a && (b && c)) ≡ ((a && b) && c)
and_more true b c = refl
and_more false b c = refl

counted_unasked : (written : List ℕ) (old new begun : ℕ) (o : Option DatedFact) → ((k : DatedFact) → o ≡ Some k → k.since < new)
    → counted written new begun o ≡ kept_if (λ f. not (true && asks_memory f)) (counted written old begun o)
counted_unasked written old new begun None h = refl
counted_unasked written old new begun (Some k) h =
    if_same (nat_lt begun k.since && stands written new k.since k.fact) ((nat_lt begun k.since && stands written old k.since k.fact) && not (asks_memory k.fact)) (Some k.fact) None
    (ap (λ b. nat_lt begun k.since && b) (stands_unasked written old new k.since (h k refl) k.fact) ∙ and_more (nat_lt begun k.since) (stands written old k.since k.fact) (not (asks_memory k.fact)))
    ∙ sym (if_kept (λ f. not (true && asks_memory f)) (nat_lt begun k.since && stands written old k.since k.fact) k.fact)

kept_all : (o : Option Fact) → kept_if (λ f. not (false && asks_memory f)) o ≡ o
kept_all None = refl
kept_all (Some f) = refl

pub memory_stays : (t u : FactTable) → u.cells.items ≡ t.cells.items → u.written.items ≡ t.written.items → u.memory ≡ t.memory → u.begun ≡ t.begun → (q : ℕ) → facts_of u q ≡ changed false (facts_of t) q
memory_stays t u cells written memory begun q =
    ap (λ xs. counted u.written.items u.memory u.begun (cell xs q)) cells
    ∙ ap (λ ws. counted ws u.memory u.begun (cell t.cells.items q)) written
    ∙ ap (λ m. counted t.written.items m u.begun (cell t.cells.items q)) memory
    ∙ ap (λ m. counted t.written.items t.memory m (cell t.cells.items q)) begun
    ∙ sym (kept_all (facts_of t q))

pub memory_changes : (t u : FactTable) → IsTable t → u.cells.items ≡ t.cells.items → u.written.items ≡ t.written.items → t.clock < u.memory → u.begun ≡ t.begun → (q : ℕ)
    → facts_of u q ≡ changed true (facts_of t) q
memory_changes t u is cells written later begun q =
    ap (λ xs. counted u.written.items u.memory u.begun (cell xs q)) cells
    ∙ ap (λ ws. counted ws u.memory u.begun (cell t.cells.items q)) written
    ∙ ap (λ m. counted t.written.items u.memory m (cell t.cells.items q)) begun
    ∙ counted_unasked t.written.items t.memory u.memory t.begun (cell t.cells.items q) (λ k e. let low = is.cells q k e in omega arith)

-- ---- a register is written

-- times that were written up to now
abbrev UpTo : List ℕ → ℕ → Type 0
UpTo written time = (x w : ℕ) → slice_get written x ≡ Some w → w ≤ time

-- facts of earlier times
fresh_over : (written : List ℕ) (time since r : ℕ) → since < time → (a : Operand ℕ) → is_fresh (slice_set written r time) since a ≡ (is_fresh written since a && (operand_below (length written) a && not (names_it a r)))
fresh_over written time since r before (At x) = by (nat_eq x r) refl
  where
    or_fresh : (o : Option ℕ) → slice_get written x ≡ o → option_map_or (λ w. nat_le w since) o false ≡ (option_map_or (λ w. nat_le w since) o false && (nat_lt x (length written) && true))
    or_fresh None e = refl
    or_fresh (Some w) e = same (nat_le w since) (nat_lt x (length written)) (get_within written x w e)
      where
        same : (b c : Bool) → c ≡ true → b ≡ (b && (c && true))
        same true c h = sym (ap (λ z. z && true) h)
        same false c h = refl

    past : (b : Bool) → option_map_or (λ w. nat_le w since) (if b then Some time else None) false ≡ false
    past true = grind (arith, nat_tests)
    past false = refl

    none : (a b : Bool) → false ≡ (a && (b && false))
    none true true = refl
    none true false = refl
    none false b = refl

    by : (b : Bool) → nat_eq x r ≡ b → option_map_or (λ w. nat_le w since) (slice_get (slice_set written r time) x) false
        ≡ (option_map_or (λ w. nat_le w since) (slice_get written x) false && (nat_lt x (length written) && not (nat_eq x r)))
    by true e =
        let same : x ≡ r = grind (arith, nat_tests) in
        ap (λ k. option_map_or (λ w. nat_le w since) (slice_get (slice_set written r time) k) false) same
        ∙ ap (λ (o : Option ℕ). option_map_or (λ w. nat_le w since) o false) (get_same written r time)
        ∙ past (nat_lt r (length written))
        ∙ none (option_map_or (λ w. nat_le w since) (slice_get written x) false) (nat_lt x (length written))
        ∙ ap (λ b. option_map_or (λ w. nat_le w since) (slice_get written x) false && (nat_lt x (length written) && not b)) (sym e)
    by false e =
        ap (λ (o : Option ℕ). option_map_or (λ w. nat_le w since) o false) (get_set_other written r x time e)
        ∙ or_fresh (slice_get written x) refl
        ∙ ap (λ b. option_map_or (λ w. nat_le w since) (slice_get written x) false && (nat_lt x (length written) && not b)) (sym e)
fresh_over written time since r before (Number n) = refl
fresh_over written time since r before (Name g) = refl

and_turned : (a b : Bool) → (a && b) ≡ (b && a)
and_turned true true = refl
and_turned true false = refl
and_turned false b = sym (and_false b)

-- of two operands, what holds of each
each : (a b x y p q m : Bool) → ((a && (x && not p)) && ((b && (y && not q)) && m)) ≡ ((a && (b && m)) && ((x && y) && not (p || q)))
each false b x y p q m = refl
each true b false y p q m = sym (and_false (b && m))
each true b true y true q m = sym (ap (λ z. (b && m) && z) (and_false y) ∙ and_false (b && m))
each true false true y false q m = refl
each true true true y false q m = and_turned (y && not q) m

stands_over : (written : List ℕ) (memory time since r : ℕ) → since < time → (f : Fact)
    → stands (slice_set written r time) memory since f ≡ (stands written memory since f && (fact_below (length written) f && not (fact_names f r)))
stands_over written memory time since r before (Same a) = fresh_over written time since r before a
stands_over written memory time since r before (Sum a n) = fresh_over written time since r before a
stands_over written memory time since r before (Test c) =
    ap (λ b. b && (is_fresh (slice_set written r time) since c.right && nat_le memory since)) (fresh_over written time since r before c.left)
    ∙ ap (λ b. (is_fresh written since c.left && (operand_below (length written) c.left && not (names_it c.left r))) && (b && nat_le memory since)) (fresh_over written time since r before c.right)
    ∙ each (is_fresh written since c.left) (is_fresh written since c.right) (operand_below (length written) c.left) (operand_below (length written) c.right) (names_it c.left r) (names_it c.right r) (nat_le memory since)

counted_over : (written : List ℕ) (memory begun time r : ℕ) (low : Bool) → low ≡ true → (o : Option DatedFact) → ((k : DatedFact) → o ≡ Some k → k.since < time)
    → counted (slice_set written r time) memory begun o ≡ kept_if (λ f. low && (fact_below (length written) f && not (fact_names f r))) (counted written memory begun o)
counted_over written memory begun time r low is None h = refl
counted_over written memory begun time r low is (Some k) h =
    if_same (nat_lt begun k.since && stands (slice_set written r time) memory k.since k.fact) ((nat_lt begun k.since && stands written memory k.since k.fact) && (low && rest)) (Some k.fact) None
    (ap (λ b. nat_lt begun k.since && b) (stands_over written memory time k.since r (h k refl) k.fact) ∙ and_more (nat_lt begun k.since) (stands written memory k.since k.fact) rest
    ∙ ap (λ b. (nat_lt begun k.since && stands written memory k.since k.fact) && (b && rest)) (sym is))
    ∙ sym (if_kept (λ f. low && (fact_below (length written) f && not (fact_names f r))) (nat_lt begun k.since && stands written memory k.since k.fact) k.fact)
  where
    rest : Bool
    rest = fact_below (length written) k.fact && not (fact_names k.fact r)

-- a fact of this time
get_none : {X : Type 0} (xs : List X) (i : ℕ) → slice_get xs i ≡ None → nat_lt i (length xs) ≡ false
get_none [] i e = grind (arith, nat_tests)
get_none (y ∷ ys) zero e = absurd (let no : ⊥ = cc in no)
get_none (y ∷ ys) (suc i) e = let s = get_none ys i e in grind (arith, nat_tests)

fresh_now : (written : List ℕ) (time : ℕ) → UpTo written time → (a : Operand ℕ) → is_fresh written time a ≡ operand_below (length written) a
fresh_now written time up (At x) = by (slice_get written x) refl
  where
    by : (o : Option ℕ) → slice_get written x ≡ o → option_map_or (λ w. nat_le w time) o false ≡ nat_lt x (length written)
    by None e = sym (get_none written x e)
    by (Some w) e = let low : nat_le w time ≡ true = (let le = up x w e in grind (arith, nat_tests)) in low ∙ sym (get_within written x w e)
fresh_now written time up (Number n) = refl
fresh_now written time up (Name g) = refl

stands_now : (written : List ℕ) (memory time : ℕ) → UpTo written time → memory ≤ time → (f : Fact) → stands written memory time f ≡ fact_below (length written) f
stands_now written memory time up le (Same a) = fresh_now written time up a
stands_now written memory time up le (Sum a n) = fresh_now written time up a
stands_now written memory time up le (Test c) =
    ap (λ b. b && (is_fresh written time c.right && nat_le memory time)) (fresh_now written time up c.left)
    ∙ ap (λ b. operand_below (length written) c.left && (b && nat_le memory time)) (fresh_now written time up c.right)
    ∙ ap (λ b. operand_below (length written) c.left && (operand_below (length written) c.right && b)) (grind (arith, nat_tests))
    ∙ ap (λ b. operand_below (length written) c.left && b) (more (operand_below (length written) c.right))
  where
    more : (b : Bool) → (b && true) ≡ b
    more true = refl
    more false = refl

pub up_to : (written : List ℕ) (time r : ℕ) → UpTo written time → UpTo (slice_set written r time) time
up_to written time r up x w e = by (nat_eq x r) refl
  where
    low : (b : Bool) → (if b then Some time else None) ≡ Some w → w ≤ time
    low true h = let same : time ≡ w = cc in omega arith
    low false h = absurd (let no : ⊥ = cc in no)

    by : (b : Bool) → nat_eq x r ≡ b → w ≤ time
    by true h = let same : x ≡ r = grind (arith, nat_tests) in low (nat_lt r (length written)) (sym (get_same written r time) ∙ ap (λ k. slice_get (slice_set written r time) k) (sym same) ∙ e)
    by false h = up x w (sym (get_set_other written r x time h) ∙ e)

-- what a register's cell becomes
abbrev pub noted : ℕ → ℕ → Option Fact → Option DatedFact
noted r time known = option_map (λ f. record { fact = f; since = time }) (kept_if (λ f. not (fact_names f r)) known)

cell_same : (cells : List (Option DatedFact)) (r : ℕ) (o : Option DatedFact) → cell (slice_set cells r o) r ≡ (if nat_lt r (length cells) then o else None)
cell_same cells r o = ap (λ x. option_map_or (λ (k : Option DatedFact). k) x None) (get_same cells r o) ∙ by (nat_lt r (length cells))
  where
    by : (b : Bool) → option_map_or (λ (k : Option DatedFact). k) (if b then Some o else None) None ≡ (if b then o else None)
    by true = refl
    by false = refl

cell_other : (cells : List (Option DatedFact)) (r q : ℕ) (o : Option DatedFact) → nat_eq q r ≡ false → cell (slice_set cells r o) q ≡ cell cells q
cell_other cells r q o e = ap (λ x. option_map_or (λ (k : Option DatedFact). k) x None) (get_set_other cells r q o e)

cell_within : (cells : List (Option DatedFact)) (q : ℕ) (k : DatedFact) → cell cells q ≡ Some k → nat_lt q (length cells) ≡ true
cell_within cells q k e = by (slice_get cells q) refl e
  where
    by : (o : Option (Option DatedFact)) → slice_get cells q ≡ o → option_map_or (λ (x : Option DatedFact). x) o None ≡ Some k → nat_lt q (length cells) ≡ true
    by None f h = absurd (let no : ⊥ = cc in no)
    by (Some x) f h = get_within cells q x f

noted_now : (written : List ℕ) (memory begun time r : ℕ) (low : Bool) → UpTo written time → memory ≤ time → begun < time → (known : Option Fact)
    → counted written memory begun (if low then noted r time known else None) ≡ kept_if (λ f. low && (fact_below (length written) f && not (fact_names f r))) known
noted_now written memory begun time r true up le before None = refl
noted_now written memory begun time r false up le before None = refl
noted_now written memory begun time r false up le before (Some f) = refl
noted_now written memory begun time r true up le before (Some f) = by (not (fact_names f r))
  where
    late : nat_lt begun time ≡ true
    late = grind (arith, nat_tests)

    more : (b : Bool) → (b && true) ≡ b
    more true = refl
    more false = refl

    by : (b : Bool) → counted written memory begun (option_map (λ g. record { fact = g; since = time }) (if b then Some f else None)) ≡ (if true && (fact_below (length written) f && b) then Some f else None)
    by true =
        if_same (nat_lt begun time && stands written memory time f) (fact_below (length written) f && true) (Some f) None
        (ap (λ b. b && stands written memory time f) late ∙ stands_now written memory time up le f ∙ sym (more (fact_below (length written) f)))
    by false = sym (ap (λ b. if b then Some f else None) (and_false (fact_below (length written) f)))

pub register_written : (t u : FactTable) (r : ℕ) (known : Option Fact) → IsAtLine t → u.cells.items ≡ slice_set t.cells.items r (noted r t.clock known) → u.written.items ≡ slice_set t.written.items r t.clock
    → u.memory ≡ t.memory → u.begun ≡ t.begun → (q : ℕ) → facts_of u q ≡ over (length t.written.items) r known (facts_of t) q
register_written t u r known is cells written memory begun q =
    ap (λ xs. counted u.written.items u.memory u.begun (cell xs q)) cells
    ∙ ap (λ ws. counted ws u.memory u.begun (cell new q)) written
    ∙ ap (λ m. counted times m u.begun (cell new q)) memory
    ∙ ap (λ m. counted times t.memory m (cell new q)) begun
    ∙ by (nat_eq q r) refl
  where
    n : ℕ
    n = length t.written.items

    times : List ℕ
    times = slice_set t.written.items r t.clock

    new : List (Option DatedFact)
    new = slice_set t.cells.items r (noted r t.clock known)

    low : (k : DatedFact) → cell t.cells.items q ≡ Some k → nat_lt q n ≡ true
    low k e = ap (λ m. nat_lt q m) (sym is.table.wide) ∙ cell_within t.cells.items q k e

    other : (o : Option DatedFact) → cell t.cells.items q ≡ o → counted times t.memory t.begun o ≡ kept_if (λ f. nat_lt q n && (fact_below n f && not (fact_names f r))) (counted t.written.items t.memory t.begun o)
    other None e = refl
    other (Some k) e =
        counted_over t.written.items t.memory t.begun t.clock r (nat_lt q n) (low k e) (Some k) (λ j h. let same : k ≡ j = cc in is.cells q j (e ∙ h))

    by : (b : Bool) → nat_eq q r ≡ b → counted times t.memory t.begun (cell new q) ≡ kept_if (λ f. nat_lt q n && (fact_below n f && not (fact_names f r))) (if b then known else facts_of t q)
    by true e =
        let same : q ≡ r = grind (arith, nat_tests) in
        ap (λ k. counted times t.memory t.begun (cell new k)) same
        ∙ ap (λ o. counted times t.memory t.begun o) (cell_same t.cells.items r (noted r t.clock known) ∙ ap (λ m. if nat_lt r m then noted r t.clock known else None) is.table.wide)
        ∙ noted_now times t.memory t.begun t.clock r (nat_lt r n) (up_to t.written.items t.clock r is.table.written) is.table.memory is.begun known
        ∙ ap (λ m. kept_if (λ f. nat_lt r n && (fact_below m f && not (fact_names f r))) known) (length_slice_set t.written.items r t.clock)
        ∙ ap (λ k. kept_if (λ f. nat_lt k n && (fact_below n f && not (fact_names f r))) known) (sym same)
    by false e = ap (λ o. counted times t.memory t.begun o) (cell_other t.cells.items r q (noted r t.clock known) e) ∙ other (cell t.cells.items q) refl

pub table_written : (t u : FactTable) (r : ℕ) (known : Option Fact) → IsAtLine t → u.cells.items ≡ slice_set t.cells.items r (noted r t.clock known) → u.written.items ≡ slice_set t.written.items r t.clock
    → u.memory ≡ t.memory → u.begun ≡ t.begun → u.clock ≡ t.clock → IsTable u
table_written t u r known is cells written memory begun clock =
    record {
      cells = λ q k h. let e : cell new q ≡ Some k = ap (λ xs. cell xs q) (sym cells) ∙ h in let low : k.since ≤ t.clock = at q (nat_eq q r) refl k e in omega (arith, low, clock);
      written = λ q w h. let low : w ≤ t.clock = up_to t.written.items t.clock r is.table.written q w (ap (λ ws. slice_get ws q) (sym written) ∙ h) in omega (arith, low, clock);
      memory = let low = is.table.memory in omega (arith, low, memory, clock);
      begun = let low = is.table.begun in omega (arith, low, begun, clock);
      wide = ap length cells ∙ length_slice_set t.cells.items r (noted r t.clock known) ∙ is.table.wide ∙ sym (length_slice_set t.written.items r t.clock) ∙ sym (ap length written);
    }
  where
    new : List (Option DatedFact)
    new = slice_set t.cells.items r (noted r t.clock known)

    of : (b c : Bool) (f : Fact) (k : DatedFact) → (if b then option_map (λ g. record { fact = g; since = t.clock }) (if c then Some f else None) else None) ≡ Some k → k.since ≤ t.clock
    of true true f k e = let same : t.clock ≡ k.since = cc in omega arith
    of true false f k e = absurd (let no : ⊥ = cc in no)
    of false c f k e = absurd (let no : ⊥ = cc in no)

    now : (b : Bool) (o : Option Fact) (k : DatedFact) → (if b then noted r t.clock o else None) ≡ Some k → k.since ≤ t.clock
    now true None k e = absurd (let no : ⊥ = cc in no)
    now false None k e = absurd (let no : ⊥ = cc in no)
    now b (Some f) k e = of b (not (fact_names f r)) f k e

    at : (q : ℕ) (b : Bool) → nat_eq q r ≡ b → (k : DatedFact) → cell new q ≡ Some k → k.since ≤ t.clock
    at q true e k h =
        let same : q ≡ r = grind (arith, nat_tests) in
        now (nat_lt r (length t.cells.items)) known k (sym (cell_same t.cells.items r (noted r t.clock known)) ∙ ap (cell new) (sym same) ∙ h)
    at q false e k h = let before : k.since < t.clock = is.cells q k (sym (cell_other t.cells.items r q (noted r t.clock known) e) ∙ h) in omega arith

-- ---- facts name registers that there are

operand_low : (written : List ℕ) (since : ℕ) (a : Operand ℕ) → is_fresh written since a ≡ true → operand_below (length written) a ≡ true
operand_low written since (At x) h = by (slice_get written x) refl h
  where
    by : (o : Option ℕ) → slice_get written x ≡ o → option_map_or (λ w. nat_le w since) o false ≡ true → nat_lt x (length written) ≡ true
    by None e f = cc
    by (Some w) e f = get_within written x w e
operand_low written since (Number n) h = refl
operand_low written since (Name g) h = refl

fact_low : (written : List ℕ) (memory since : ℕ) (f : Fact) → stands written memory since f ≡ true → fact_below (length written) f ≡ true
fact_low written memory since (Same a) h = operand_low written since a h
fact_low written memory since (Sum a n) h = operand_low written since a h
fact_low written memory since (Test c) h =
    let s = and_parts (is_fresh written since c.left) (is_fresh written since c.right && nat_le memory since) h in
    let u = and_parts (is_fresh written since c.right) (nat_le memory since) s.1 in
    and_from (operand_below (length written) c.left) (operand_below (length written) c.right) (operand_low written since c.left s.0) (operand_low written since c.right u.0)

pub known_low : (t : FactTable) → IsTable t → (r : ℕ) (f : Fact) → facts_of t r ≡ Some f → (nat_lt r (length t.written.items) && fact_below (length t.written.items) f) ≡ true
known_low t is r f h = of (cell t.cells.items r) refl h
  where
    of : (o : Option DatedFact) → cell t.cells.items r ≡ o → counted t.written.items t.memory t.begun o ≡ Some f → (nat_lt r (length t.written.items) && fact_below (length t.written.items) f) ≡ true
    of None e g = absurd (let no : ⊥ = cc in no)
    of (Some k) e g = by (nat_lt t.begun k.since && stands t.written.items t.memory k.since k.fact) refl g
      where
        by : (b : Bool) → (nat_lt t.begun k.since && stands t.written.items t.memory k.since k.fact) ≡ b → (if b then Some k.fact else None) ≡ Some f
            → (nat_lt r (length t.written.items) && fact_below (length t.written.items) f) ≡ true
        by true x y =
            let same : k.fact ≡ f = cc in
            and_from (nat_lt r (length t.written.items)) (fact_below (length t.written.items) f) (ap (λ m. nat_lt r m) (sym is.wide) ∙ cell_within t.cells.items r k e)
            (ap (fact_below (length t.written.items)) (sym same) ∙ fact_low t.written.items t.memory k.since k.fact (and_parts (nat_lt t.begun k.since) (stands t.written.items t.memory k.since k.fact) x).1)
        by false x y = absurd (let no : ⊥ = cc in no)
