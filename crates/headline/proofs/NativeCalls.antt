-- Calls of `write` and `exit` are kept where the machine performs what the two do on bytes.
use Rattle.std.proofs.Common.{◌≡◌, ◌⊎◌, inl, inr, ℕ, zero, suc, ◌+◌, ◌-◌, ◌%◌, ◌^◌, ◌<◌, ◌≤◌, Bool, true, false, List, [], ◌∷◌, length, take, drop, refl, sym, ◌∙◌, subst, ap, arith, if◌then◌else◌, nat_eq, nat_le, slice_get, Option, Some, None, option_map, option_and_then}
use Rattle.std.proofs.lemmas.Bool.Decides.{nat_tests}
use Rattle.std.proofs.lemmas.Bool.{and_parts}
use Rattle.il_ast.specs.declared.operation.Class.{Class}
use Rattle.il_ast.specs.declared.operation.Class.TheVariants.{W, L}
use Rattle.il_ast.specs.declared.program.Program.{Program}
use Rattle.il_ast.specs.declared.value.Callee.TheVariants.{SystemWrite, SystemExit}
use Rattle.il_ast.specs.declared.value.Value.{Value}
use Rattle.il_ast.specs.declared.value.Value.TheVariants.{Integer, Pointer, Function}
use Rattle.il_ast.specs.declared.value.Cell.{Cell}
use Rattle.il_ast.specs.declared.value.Cell.TheVariants.{Plain, Part, Blank}
use Rattle.il_ast.specs.declared.value.End.TheVariants.{Exit, Undefined}
use Rattle.il_ast.specs.Prelude.{Memory, block_at, span, cells_at, plain_bytes, nothing, Outcome, Ended, Callees, same_classes, result_fits, call_fits, answered, put_out, write_bytes, write_integer, write_call, exit_call, call_named, Asked, Passes, AreArgs}
use Rattle.flat_code.specs.Flat.{ThisByte, Spots, Bases, Entries, AllShow, ShowsCell, ShowsMemory, FlatGiven, FlatOutcome, FlatEnded, ShowsOutcome}
use Rattle.abi_frames.specs.Performs.{GoodStack, Ready, Performs, PerformsAt}
use Rattle.headline.specs.Knot.{Setting, KeepsCall, known_byte, known_bytes, flat_answered, flat_put_out, flat_write, flat_exit, NativesPerform}
use Rattle.headline.proofs.Answer.{grown_same}
use Rattle.headline.proofs.Trivial.{undefined_kept, by_test}
use Rattle.headline.proofs.Called.{suits_wanted, performs_wanted}
use Rattle.il_ast.proofs.Alike.{same_classes_are}

-- ---- bytes

-- a list that is long enough has its o-th item first, from there on
record First (cells : List Cell) (o : ℕ) : Type 0 where
  cell : Cell
  here : slice_get cells o ≡ Some cell
  splits : drop o cells ≡ cell ∷ drop (o + 1) cells

first_from : (cells : List Cell) (o : ℕ) → o < length cells → First cells o
first_from [] o h = absurd (omega arith)
first_from (c ∷ cells) zero h = record { cell = c; here = refl; splits = refl }
first_from (c ∷ cells) (suc o) h =
    let f = first_from cells o (omega arith) in
    record {
      cell = f.cell;
      here = f.here;
      splits = f.splits ∙ ap (λ n. f.cell ∷ drop n (c ∷ cells)) next;
    }
  where
    next : suc (o + 1) ≡ suc o + 1
    next = omega arith

abbrev CellsShow : Entries → Bases → List Cell → ℕ → Spots → Type 0
CellsShow e p cells a f = (k : ℕ) (c : Cell) → slice_get cells k ≡ Some c → ShowsCell e p c (f (a + k))

-- the bytes of plain cells, of which the first and the others
plain_first : (c : Cell) (cells : List Cell) (bytes : List ℕ) → plain_bytes (c ∷ cells) ≡ Some bytes → (b : ℕ) × (bs : List ℕ) × (c ≡ Plain b) × (plain_bytes cells ≡ Some bs) × (b ∷ bs ≡ bytes)
plain_first (Plain b) cells bytes h = of_rest (plain_bytes cells) refl h
  where
    of_rest : (found : Option (List ℕ)) → plain_bytes cells ≡ found → option_map (λ bs. b ∷ bs) found ≡ Some bytes → (d : ℕ) × (bs : List ℕ) × (Plain b ≡ Plain d) × (plain_bytes cells ≡ Some bs) × (d ∷ bs ≡ bytes)
    of_rest None e k = cc
    of_rest (Some bs) e k = (b, bs, refl, e, cc)
plain_first (Part v i) cells bytes h = cc
plain_first Blank cells bytes h = cc

known_of : (f : Spots) (x b : ℕ) (n : ℕ) (bs : List ℕ) → f x ≡ ThisByte b → known_bytes f (x + 1) n ≡ Some bs → known_bytes f x (suc n) ≡ Some (b ∷ bs)
known_of f x b n bs h k =
    ap (λ s. option_and_then (λ d. option_map (λ ds. d ∷ ds) (known_bytes f (x + 1) n)) (known_byte s)) h ∙ ap (option_map (λ ds. b ∷ ds)) k

known_span : (e : Entries) (p : Bases) (cells : List Cell) (a : ℕ) (f : Spots) → CellsShow e p cells a f → (n o : ℕ) (bytes : List ℕ) → o + n ≤ length cells → plain_bytes (take n (drop o cells)) ≡ Some bytes → known_bytes f (a + o) n ≡ Some bytes
known_span e p cells a f shows zero o bytes fits h = h
known_span e p cells a f shows (suc n) o bytes fits h =
    let first = first_from cells o (omega arith) in
    let split : plain_bytes (first.cell ∷ take n (drop (o + 1) cells)) ≡ Some bytes = ap (λ xs. plain_bytes (take (suc n) xs)) (sym first.splits) ∙ h in
    let parts = plain_first first.cell (take n (drop (o + 1) cells)) bytes split in
    let shown : ShowsCell e p (Plain parts.0) (f (a + o)) = subst (λ c. ShowsCell e p c (f (a + o))) parts.2 (shows o first.cell first.here) in
    let rest = known_span e p cells a f shows n (o + 1) parts.1 (omega arith) parts.3 in
    let next : a + (o + 1) ≡ a + o + 1 = omega arith in
    let rest_here : known_bytes f (a + o + 1) n ≡ Some parts.1 = subst (λ x. known_bytes f x n ≡ Some parts.1) next rest in
    known_of f (a + o) parts.0 n parts.1 shown rest_here ∙ ap Some parts.4

-- the bytes that `write` takes from a block are known
known_in_block : (e : Entries) (p : Bases) (m : Memory) (f : Spots) → ShowsMemory e p m f → (b a o n : ℕ) (bytes : List ℕ) → p b ≡ Some a → option_and_then plain_bytes (cells_at m b o n) ≡ Some bytes → known_bytes f ((a + o) % 2 ^ 64) n ≡ Some bytes
known_in_block e p m f shows b a o n bytes at h = of_block (block_at m b) refl h
  where
    of_block : (found : Option (List Cell)) → block_at m b ≡ found → option_and_then plain_bytes (option_and_then (span o n) found) ≡ Some bytes → known_bytes f ((a + o) % 2 ^ 64) n ≡ Some bytes
    of_block None is k = cc
    of_block (Some cells) is k = of_test (nat_le (o + n) (length cells)) refl k
      where
        of_test : (t : Bool) → nat_le (o + n) (length cells) ≡ t → option_and_then plain_bytes (if t then Some (take n (drop o cells)) else None) ≡ Some bytes → known_bytes f ((a + o) % 2 ^ 64) n ≡ Some bytes
        of_test false no_fit l = cc
        of_test true fits l =
            let inside : o + n ≤ length cells = grind (arith, nat_tests) in
            let placed = shows.placed b cells is in
            let same : Some a ≡ Some placed.base = sym at ∙ placed.is in
            let base : a ≡ placed.base = cc in
            let small : placed.base + length cells < 2 ^ 64 = placed.below_end in
            let less : a + o < 2 ^ 64 = omega arith in
            let whole : (a + o) % 2 ^ 64 ≡ a + o = omega arith in
            subst (λ x. known_bytes f x n ≡ Some bytes) (sym whole)
            (known_span e p cells a f (λ k2 c q. shows.cells b a k2 cells c is at q) n o bytes inside l)

-- ---- outcomes

-- the call goes on bytes as the code of the function does, or else it is undefined
record Goes (e : Entries) (p : Bases) (wants : Option Class) (f : Spots) (m : Memory) (o : Outcome) (w : FlatOutcome) : Type 0 where
  went : FlatOutcome
  shows : ShowsOutcome e p wants f m o went
  either : (went ≡ w) ⊎ (went ≡ FlatEnded nothing Undefined)

goes_so : (e : Entries) (p : Bases) (wants : Option Class) (f : Spots) (m : Memory) (o : Outcome) (w : FlatOutcome) → ShowsOutcome e p wants f m o w → Goes e p wants f m o w
goes_so e p wants f m o w h = record { went = w; shows = h; either = inl refl }

goes_wrong : (e : Entries) (p : Bases) (wants : Option Class) (f : Spots) (m : Memory) (w : FlatOutcome) → Goes e p wants f m (Ended nothing Undefined) w
goes_wrong e p wants f m w = record { went = FlatEnded nothing Undefined; shows = (refl, refl); either = inr refl }

goes_answered : (e : Entries) (p : Bases) (wants : Option Class) → result_fits wants (Some L) ≡ true → (f : Spots) (m : Memory) → ShowsMemory e p m f → (output : List ℕ) (n : ℕ) → Goes e p wants f m (answered output n m) (flat_answered output n f)
goes_answered e p wants fits f m memory output n =
    goes_so e p wants f m (answered output n m) (flat_answered output n f)
    (record {
      spent = refl;
      suits = suits_wanted wants (Some L) fits (Some (Integer n)) refl;
      result = refl;
      memory = memory;
      reach = λ x h. h;
      blocks = λ b. refl;
    })

-- by the two cases of one test on both sides
by_both : (t : Bool) (P : Outcome → FlatOutcome → Type 0) (x y : Outcome) (u v : FlatOutcome) → P x u → P y v → P (if t then x else y) (if t then u else v)
by_both true P x y u v h k = h
by_both false P x y u v h k = k

goes_put_out : (e : Entries) (p : Bases) (wants : Option Class) → result_fits wants (Some L) ≡ true → (f : Spots) (m : Memory) → ShowsMemory e p m f → (n : ℕ) (found : Option (List ℕ)) (known : Option (List ℕ)) → ((bytes : List ℕ) → found ≡ Some bytes → known ≡ Some bytes) → Goes e p wants f m (put_out n m found) (flat_put_out n f known)
goes_put_out e p wants fits f m memory n None known same = goes_wrong e p wants f m (flat_put_out n f known)
goes_put_out e p wants fits f m memory n (Some bytes) known same =
    subst (λ k. Goes e p wants f m (answered bytes n m) (flat_put_out n f k)) (sym (same bytes refl)) (goes_answered e p wants fits f m memory bytes n)

goes_write_bytes : (e : Entries) (p : Bases) (wants : Option Class) → result_fits wants (Some L) ≡ true → (f : Spots) (m : Memory) → ShowsMemory e p m f → (from : Value) (x n : ℕ) → AllShow e p (from ∷ []) (x ∷ []) → Goes e p wants f m (write_bytes from n m) (if nat_eq n 0 then flat_answered [] 0 f else flat_put_out n f (known_bytes f x n))
goes_write_bytes e p wants fits f m memory (Pointer b o) x n h =
    by_both (nat_eq n 0) (Goes e p wants f m) _ _ _ _ (goes_answered e p wants fits f m memory [] 0)
    (goes_put_out e p wants fits f m memory n (option_and_then plain_bytes (cells_at m b o n)) (known_bytes f x n)
    (λ bytes is. subst (λ y. known_bytes f y n ≡ Some bytes) (sym h.0.2) (known_in_block e p m f memory b h.0.0 o n bytes h.0.1 is)))
goes_write_bytes e p wants fits f m memory (Integer k) x n h =
    by_both (nat_eq n 0) (Goes e p wants f m) _ _ _ _ (goes_answered e p wants fits f m memory [] 0) (goes_wrong e p wants f m _)
goes_write_bytes e p wants fits f m memory (Function g) x n h =
    by_both (nat_eq n 0) (Goes e p wants f m) _ _ _ _ (goes_answered e p wants fits f m memory [] 0) (goes_wrong e p wants f m _)

goes_write_integer : (e : Entries) (p : Bases) (wants : Option Class) → result_fits wants (Some L) ≡ true → (f : Spots) (m : Memory) → ShowsMemory e p m f → (from count : Value) (x y : ℕ) → AllShow e p (from ∷ count ∷ []) (x ∷ y ∷ []) → Goes e p wants f m (write_integer from count m) (if nat_eq y 0 then flat_answered [] 0 f else flat_put_out y f (known_bytes f x y))
goes_write_integer e p wants fits f m memory from (Integer n) x y h =
    subst (λ z. Goes e p wants f m (write_bytes from n m) (if nat_eq z 0 then flat_answered [] 0 f else flat_put_out z f (known_bytes f x z)))
    (sym h.1.0) (goes_write_bytes e p wants fits f m memory from x n (h.0, tt))
goes_write_integer e p wants fits f m memory from (Pointer b o) x y h = goes_wrong e p wants f m _
goes_write_integer e p wants fits f m memory from (Function g) x y h = goes_wrong e p wants f m _

same_integer : (a b : ℕ) → Some (Integer a) ≡ Some (Integer b) → a ≡ b
same_integer a b h = cc

-- a word is below 2^32
is_word : (d : ℕ) → Passes W (Integer d) → d % 2 ^ 32 ≡ d
is_word d h = same_integer (d % 2 ^ 32) d h

goes_write : (e : Entries) (p : Bases) (wants : Option Class) → result_fits wants (Some L) ≡ true → (f : Spots) (m : Memory) → ShowsMemory e p m f → (args : List Value) (xs : List ℕ) → AreArgs (W ∷ L ∷ L ∷ []) args → AllShow e p args xs → Goes e p wants f m (write_call args m) (flat_write f xs)
goes_write e p wants fits f m memory [] xs typed h = goes_wrong e p wants f m (flat_write f xs)
goes_write e p wants fits f m memory (Pointer b o ∷ vs) xs typed h = goes_wrong e p wants f m (flat_write f xs)
goes_write e p wants fits f m memory (Function g ∷ vs) xs typed h = goes_wrong e p wants f m (flat_write f xs)
goes_write e p wants fits f m memory (Integer d ∷ []) xs typed h = goes_wrong e p wants f m (flat_write f xs)
goes_write e p wants fits f m memory (Integer d ∷ from ∷ []) xs typed h = goes_wrong e p wants f m (flat_write f xs)
goes_write e p wants fits f m memory (Integer d ∷ from ∷ count ∷ v ∷ vs) xs typed h = goes_wrong e p wants f m (flat_write f xs)
goes_write e p wants fits f m memory (Integer d ∷ from ∷ count ∷ []) (z ∷ x ∷ y ∷ []) typed h =
    subst (λ w. Goes e p wants f m (write_call (Integer d ∷ from ∷ count ∷ []) m) (flat_write f (w ∷ x ∷ y ∷ []))) (sym h.0)
    (subst
    (λ w. Goes e p wants f m (write_call (Integer d ∷ from ∷ count ∷ []) m)
    (if nat_eq w 1 then (if nat_eq y 0 then flat_answered [] 0 f else flat_put_out y f (known_bytes f x y)) else flat_answered [] (2 ^ 64 - 9) f))
    (sym (is_word d typed.0))
    (by_both (nat_eq d 1) (Goes e p wants f m) _ _ _ _ (goes_write_integer e p wants fits f m memory from count x y h.1)
    (goes_answered e p wants fits f m memory [] (2 ^ 64 - 9))))
goes_write e p wants fits f m memory (Integer d ∷ from ∷ count ∷ []) [] typed h = absurd h
goes_write e p wants fits f m memory (Integer d ∷ from ∷ count ∷ []) (z ∷ []) typed h = absurd h.1
goes_write e p wants fits f m memory (Integer d ∷ from ∷ count ∷ []) (z ∷ x ∷ []) typed h = absurd h.1.1
goes_write e p wants fits f m memory (Integer d ∷ from ∷ count ∷ []) (z ∷ x ∷ y ∷ w ∷ ws) typed h = absurd h.1.1.1

goes_exit : (e : Entries) (p : Bases) (wants : Option Class) (f : Spots) (m : Memory) (args : List Value) (xs : List ℕ) → AllShow e p args xs → Goes e p wants f m (exit_call args) (flat_exit xs)
goes_exit e p wants f m [] xs h = goes_wrong e p wants f m (flat_exit xs)
goes_exit e p wants f m (Pointer b o ∷ vs) xs h = goes_wrong e p wants f m (flat_exit xs)
goes_exit e p wants f m (Function g ∷ vs) xs h = goes_wrong e p wants f m (flat_exit xs)
goes_exit e p wants f m (Integer s ∷ v ∷ vs) xs h = goes_wrong e p wants f m (flat_exit xs)
goes_exit e p wants f m (Integer s ∷ []) [] h = absurd h
goes_exit e p wants f m (Integer s ∷ []) (x ∷ y ∷ ys) h = absurd h.1
goes_exit e p wants f m (Integer s ∷ []) (x ∷ []) h =
    goes_so e p wants f m _ (flat_exit (x ∷ [])) (refl, ap (λ n. Exit (n % 256)) h.0)

-- ---- calls

-- what the code performs with its own classes is performed with those of the call
performed : (c : Setting) (at sp : ℕ) (classes params : List Class) (wants has : Option Class) (j : FlatGiven) (w went : FlatOutcome) → classes ≡ params → result_fits wants has ≡ true → PerformsAt c.world at sp params has j w → (went ≡ w) ⊎ (went ≡ FlatEnded nothing Undefined) → PerformsAt c.world at sp classes wants j went
performed c at sp classes params wants has j w went same fits performs (inl is) s ready =
    subst (λ x. Performs c.world sp wants j.memory s x) (sym is)
    (performs_wanted c.world sp wants has fits j.memory s w (performs s (subst (λ cs. Ready c.world at sp cs j s) same ready)))
performed c at sp classes params wants has j w went same fits performs (inr is) s ready =
    subst (λ x. Performs c.world sp wants j.memory s x) (sym is) tt

pub write_kept : (c : Setting) (p : Program) → NativesPerform c → (calls : Callees) (sp : ℕ) (i : Asked) → i.call.callee ≡ SystemWrite → KeepsCall c sp i (call_named p calls i.call i.turns i.room i.memory SystemWrite)
write_kept c p natives calls sp i is =
    by_test (call_fits i.call (W ∷ L ∷ L ∷ []) (Some L)) (KeepsCall c sp i) _ _
    (λ fits q j grown shows good.
    let both = and_parts (same_classes i.call.classes (W ∷ L ∷ L ∷ [])) (result_fits i.call.wants (Some L)) fits in
    let f = j.given.memory in
    let classes = same_classes_are i.call.classes (W ∷ L ∷ L ∷ []) both.0 in
    let typed : AreArgs (W ∷ L ∷ L ∷ []) i.call.args = subst (λ cs. AreArgs cs i.call.args) classes shows.typed in
    let goes = goes_write c.entries q i.call.wants both.1 f i.memory shows.given.memory i.call.args j.given.args typed shows.given.args in
    let here : c.entries SystemWrite ≡ Some j.at = subst (λ g. c.entries g ≡ Some j.at) is shows.at in
    let wanted : result_fits j.wants (Some L) ≡ true = subst (λ w. result_fits w (Some L) ≡ true) (sym shows.wants) both.1 in
    record {
      placed = q;
      went = goes.went;
      grown = grown_same q;
      shows = goes.shows;
      performs =
          performed c j.at sp j.classes (W ∷ L ∷ L ∷ []) j.wants (Some L) j.given (flat_write f j.given.args) goes.went
          (shows.classes ∙ classes) wanted
          (natives.write j.at sp j.given here (subst (λ r. GoodStack c.world sp r) (sym shows.given.room) good)) goes.either;
    })
    (λ misfit. undefined_kept c sp i nothing)

pub exit_kept : (c : Setting) (p : Program) → NativesPerform c → (calls : Callees) (sp : ℕ) (i : Asked) → i.call.callee ≡ SystemExit → KeepsCall c sp i (call_named p calls i.call i.turns i.room i.memory SystemExit)
exit_kept c p natives calls sp i is =
    by_test (call_fits i.call (W ∷ []) None) (KeepsCall c sp i) _ _
    (λ fits q j grown shows good.
    let both = and_parts (same_classes i.call.classes (W ∷ [])) (result_fits i.call.wants None) fits in
    let goes = goes_exit c.entries q i.call.wants j.given.memory i.memory i.call.args j.given.args shows.given.args in
    let here : c.entries SystemExit ≡ Some j.at = subst (λ g. c.entries g ≡ Some j.at) is shows.at in
    let wanted : result_fits j.wants None ≡ true = subst (λ w. result_fits w None ≡ true) (sym shows.wants) both.1 in
    record {
      placed = q;
      went = goes.went;
      grown = grown_same q;
      shows = goes.shows;
      performs =
          performed c j.at sp j.classes (W ∷ []) j.wants None j.given (flat_exit j.given.args) goes.went
          (shows.classes ∙ same_classes_are i.call.classes (W ∷ []) both.0) wanted
          (natives.exit j.at sp j.given here (subst (λ r. GoodStack c.world sp r) (sym shows.given.room) good)) goes.either;
    })
    (λ misfit. undefined_kept c sp i nothing)
