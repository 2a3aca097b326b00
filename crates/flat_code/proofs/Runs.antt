-- Cells one after another that bytes show, and the number of those bytes.
use Rattle.std.proofs.Common.{◌≡◌, ◌≢◌, ℕ, zero, suc, ◌+◌, ◌-◌, ◌*◌, ◌/◌, ◌%◌, ◌^◌, ◌<◌, ◌≤◌, Bool, true, false, ◌&&◌, if◌then◌else◌, List, [], ◌∷◌, length, take, drop, slice_get, Option, Some, None, refl, sym, ◌∙◌, ap, subst, arith, nat_eq, nat_le, option_map, option_and_then, length-drop}
use Rattle.std.specs.Int.{byte_at}
use Rattle.std.proofs.Math.Nat.{pow-suc, div-div-eq-div-mul}
use Rattle.std.proofs.lemmas.Bool.Decides.{nat_tests}
use Rattle.std.proofs.lemmas.Option.{slice_get_past, same_Some, none-some}
use Rattle.std.proofs.lemmas.Bool.{eqb-true, and_parts}
use Rattle.il_ast.specs.declared.value.Value.{Value}
use Rattle.il_ast.specs.declared.value.Value.TheVariants.{Integer, Pointer, Function}
use Rattle.il_ast.specs.declared.value.Cell.{Cell}
use Rattle.il_ast.specs.declared.value.Cell.TheVariants.{Plain, Part, Blank}
use Rattle.il_ast.specs.Prelude.{number_of, same_value, Memory, block_at, cells_at, span, plain_bytes, are_parts_from, value_of}
use Rattle.flat_code.specs.Flat.{Spot, NoAccess, AnyByte, ThisByte, Spots, Bases, Entries, Shows, ShowsCell, ShowsMemory}
use Rattle.flat_code.specs.Step.{read_spot, known_number, is_there, all_there}
use Rattle.flat_code.proofs.Shown.{shown_by_one}
use Rattle.flat_code.proofs.Operating.{callee_is}
use Rattle.il_ast.proofs.Listed.{length_take}

-- the cells are shown by the bytes from an address upward
abbrev pub RunShows : Entries → Bases → Spots → ℕ → List Cell → Type 0
RunShows e p f at [] = Unit {0}
RunShows e p f at (c ∷ cells) = ShowsCell e p c (f at) × RunShows e p f (at + 1) cells

pub run_of : (e : Entries) (p : Bases) (f : Spots) (at : ℕ) (cells : List Cell) → ((k : ℕ) (c : Cell) → slice_get cells k ≡ Some c → ShowsCell e p c (f (at + k))) → RunShows e p f at cells
run_of e p f at [] h = tt
run_of e p f at (c ∷ cells) h = (
  subst (λ a. ShowsCell e p c (f a)) (none at) (h 0 c refl),
  run_of e p f (at + 1) cells (λ k d s. subst (λ a. ShowsCell e p d (f a)) (later at k) (h (suc k) d s)),
)
  where
    none : (a : ℕ) → a + 0 ≡ a
    none a = omega arith

    later : (a k : ℕ) → a + suc k ≡ a + 1 + k
    later a k = omega arith

-- ---- bytes that are there

spot_there : (s : Spot) → s ≢ NoAccess → is_there s ≡ true
spot_there NoAccess h = absurd (h refl)
spot_there AnyByte h = refl
spot_there (ThisByte b) h = refl

pub cell_there : (e : Entries) (p : Bases) (c : Cell) (s : Spot) → ShowsCell e p c s → is_there s ≡ true
cell_there e p (Plain b) s h = ap is_there h
cell_there e p (Part v k) s h = ap is_there h.3
cell_there e p Blank s h = spot_there s h

pub not_away : (e : Entries) (p : Bases) (c : Cell) (s : Spot) → ShowsCell e p c s → s ≢ NoAccess
not_away e p c s h away =
    let e : false ≡ true = sym (ap is_there away) ∙ cell_there e p c s h in cc

pub run_there : (e : Entries) (p : Bases) (f : Spots) (at : ℕ) (cells : List Cell) → RunShows e p f at cells → all_there f at (length cells) ≡ true
unfolding all_there
run_there e p f at [] h = refl
run_there e p f at (c ∷ cells) h =
    ap (λ (b : Bool). b && all_there f (at + 1) (length cells)) (cell_there e p c (f at) h.0) ∙ run_there e p f (at + 1) cells h.1

-- ---- plain bytes

bytes_known : (e : Entries) (p : Bases) (f : Spots) (at : ℕ) (cells : List Cell) (bs : List ℕ) → RunShows e p f at cells → plain_bytes cells ≡ Some bs → known_number f at (length cells) ≡ Some (number_of bs)
unfolding known_number
bytes_known e p f at [] bs run is = ap (λ (xs : List ℕ). Some (number_of xs)) (same_Some [] bs is)
bytes_known e p f at (Part v k ∷ cells) bs run is = absurd (none-some bs is)
bytes_known e p f at (Blank ∷ cells) bs run is = absurd (none-some bs is)
bytes_known e p f at (Plain b ∷ cells) bs run is =
    ap (λ (s : Spot). read_spot s (known_number f (at + 1) (length cells))) run.0 ∙ rest (plain_bytes cells) (λ cs. bytes_known e p f (at + 1) cells cs run.1) is
  where
    rest : (o : Option (List ℕ)) → ((cs : List ℕ) → o ≡ Some cs → known_number f (at + 1) (length cells) ≡ Some (number_of cs)) → option_map (λ bytes. b ∷ bytes) o ≡ Some bs
        → option_map (λ n. b + 256 * n) (known_number f (at + 1) (length cells)) ≡ Some (number_of bs)
    rest None all is = absurd (none-some bs is)
    rest (Some cs) all is =
        ap (option_map (λ n. b + 256 * n)) (all cs refl) ∙ ap (λ (xs : List ℕ). Some (number_of xs)) (same_Some (b ∷ cs) bs is)

-- ---- parts of a value

value_is : (u v : Value) → same_value u v ≡ true → u ≡ v
value_is (Integer a) (Integer b) h = ap Integer (eqb-true a b h)
value_is (Pointer a o) (Pointer b q) h =
    let two = and_parts (nat_eq a b) (nat_eq o q) h in ap (λ c. Pointer c o) (eqb-true a b two.0) ∙ ap (Pointer b) (eqb-true o q two.1)
value_is (Function f) (Function g) h = ap Function (callee_is f g h)
value_is (Integer a) (Pointer b q) h = cc
value_is (Integer a) (Function g) h = cc
value_is (Pointer a o) (Integer b) h = cc
value_is (Pointer a o) (Function g) h = cc
value_is (Function f) (Integer b) h = cc
value_is (Function f) (Pointer b q) h = cc

digit : (k x : ℕ) → byte_at k x + 256 * (x / 256 ^ (k + 1)) ≡ x / 256 ^ k
digit zero x = omega arith
digit (suc i) x =
    let next : suc i + 1 ≡ suc (suc i) = omega arith in
    let power : 256 ^ (suc i + 1) ≡ 256 ^ suc i * 256 = ap (λ n. 256 ^ n) next ∙ pow-suc 256 (suc i) in
    let quotient : x / 256 ^ (suc i + 1) ≡ x / 256 ^ suc i / 256 = ap (λ n. x / n) power ∙ sym (div-div-eq-div-mul x (256 ^ suc i) 256) in
    ap (λ n. x / 256 ^ suc i % 256 + 256 * n) quotient ∙ rejoined (x / 256 ^ suc i)
  where
    rejoined : (d : ℕ) → d % 256 + 256 * (d / 256) ≡ d
    rejoined d = omega arith

parts_known : (e : Entries) (p : Bases) (f : Spots) (v : Value) (x : ℕ) → Shows e p v x → x < 2 ^ 64 → (at k : ℕ) (cells : List Cell) → RunShows e p f at cells → are_parts_from k v cells ≡ true
    → known_number f at (length cells) ≡ Some (x / 256 ^ k)
unfolding known_number
parts_known e p f v x shown small at k [] run is =
    ap Some (sym (ap (λ n. x / 256 ^ n) (eqb-true k 8 is) ∙ none x small))
  where
    none : (n : ℕ) → n < 2 ^ 64 → n / 256 ^ 8 ≡ 0
    none n h = omega arith
parts_known e p f v x shown small at k (Plain b ∷ cells) run is = cc
parts_known e p f v x shown small at k (Blank ∷ cells) run is = cc
parts_known e p f v x shown small at k (Part u i ∷ cells) run is =
    let first = and_parts (same_value u v) (nat_eq i k && are_parts_from (k + 1) v cells) is in
    let second = and_parts (nat_eq i k) (are_parts_from (k + 1) v cells) first.1 in
    let here : Shows e p v run.0.0 = subst (λ (w : Value). Shows e p w run.0.0) (value_is u v first.0) run.0.1 in
    let byte : f at ≡ ThisByte (byte_at k x) =
    run.0.3 ∙ (ap (λ n. ThisByte (byte_at i n)) (shown_by_one e p v run.0.0 x here shown) ∙ ap (λ n. ThisByte (byte_at n x)) (eqb-true i k second.0)) in
    ap (λ (s : Spot). read_spot s (known_number f (at + 1) (length cells))) byte
    ∙ (ap (option_map (λ n. byte_at k x + 256 * n)) (parts_known e p f v x shown small (at + 1) (k + 1) cells run.1 second.1)
    ∙ ap (λ (n : ℕ). Some n) (digit k x))

-- ---- the value of cells

plain_known : (e : Entries) (p : Bases) (f : Spots) (at : ℕ) (cells : List Cell) (v : Value) → RunShows e p f at cells → (o : Option (List ℕ)) → plain_bytes cells ≡ o → option_map Integer (option_map number_of o) ≡ Some v
    → (z : ℕ) × (known_number f at (length cells) ≡ Some z) × Shows e p v z
plain_known e p f at cells v run None e2 is = absurd (none-some v is)
plain_known e p f at cells v run (Some bs) e2 is =
    (number_of bs, bytes_known e p f at cells bs run e2, subst (λ (w : Value). Shows e p w (number_of bs)) (same_Some (Integer (number_of bs)) v is) refl)

-- where the cells have a value, the bytes are known, and their number shows it
pub value_known : (e : Entries) (p : Bases) (f : Spots) (at : ℕ) (cells : List Cell) (v : Value) → RunShows e p f at cells → value_of cells ≡ Some v
    → (z : ℕ) × (known_number f at (length cells) ≡ Some z) × Shows e p v z
value_known e p f at [] v run is = plain_known e p f at [] v run (Some []) refl is
value_known e p f at (Plain b ∷ cells) v run is = plain_known e p f at (Plain b ∷ cells) v run (plain_bytes (Plain b ∷ cells)) refl is
value_known e p f at (Blank ∷ cells) v run is = plain_known e p f at (Blank ∷ cells) v run (plain_bytes (Blank ∷ cells)) refl is
value_known e p f at (Part u i ∷ cells) v run is = by_test (are_parts_from 0 u (Part u i ∷ cells)) refl is
  where
    whole : (n : ℕ) → n / 256 ^ 0 ≡ n
    whole n = omega arith

    by_test : (t : Bool) → are_parts_from 0 u (Part u i ∷ cells) ≡ t → (if t then Some u else None) ≡ Some v → (z : ℕ) × (known_number f at (length (Part u i ∷ cells)) ≡ Some z) × Shows e p v z
    by_test false test is = absurd (none-some v is)
    by_test true test is = (
      run.0.0,
      parts_known e p f u run.0.0 run.0.1 run.0.2 at 0 (Part u i ∷ cells) run test ∙ ap (λ (n : ℕ). Some n) (whole run.0.0),
      subst (λ (w : Value). Shows e p w run.0.0) (same_Some u v is) run.0.1,
    )

-- ---- how large the number is

pub known_below : (f : Spots) → ((x n : ℕ) → f x ≡ ThisByte n → n < 256) → (n at z : ℕ) → known_number f at n ≡ Some z → z < 256 ^ n
unfolding known_number
known_below f bytes zero at z is = subst (λ n. n < 256 ^ 0) (same_Some 0 z is) (omega arith)
known_below f bytes (suc n) at z is = by_spot (f at) (known_number f (at + 1) n) refl (known_below f bytes n (at + 1)) is
  where
    more : (b y j : ℕ) → b < 256 → y < 256 ^ j → b + 256 * y < 256 ^ suc j
    more b y j h k = let e : 256 ^ suc j ≡ 256 ^ j * 256 = pow-suc 256 j in omega arith

    by_spot : (s : Spot) (o : Option ℕ) → f at ≡ s → ((y : ℕ) → o ≡ Some y → y < 256 ^ n) → read_spot s o ≡ Some z → z < 256 ^ suc n
    by_spot NoAccess o e rest is = absurd (none-some z is)
    by_spot AnyByte o e rest is = absurd (none-some z is)
    by_spot (ThisByte b) None e rest is = absurd (none-some z is)
    by_spot (ThisByte b) (Some y) e rest is = subst (λ m. m < 256 ^ suc n) (same_Some (b + 256 * y) z is) (more b y n (bytes at b e) (rest y refl))

-- ---- spans of a block

pub taken_get : {A : Type 0} (n : ℕ) (xs : List A) (k : ℕ) (x : A) → slice_get (take n xs) k ≡ Some x → slice_get xs k ≡ Some x
taken_get zero xs k x h = absurd (none-some x (sym (slice_get_past [] k (omega arith)) ∙ h))
taken_get (suc n) [] k x h = h
taken_get (suc n) (y ∷ xs) zero x h = h
taken_get (suc n) (y ∷ xs) (suc k) x h = taken_get n xs k x h

pub dropped_get : {A : Type 0} (o : ℕ) (xs : List A) (k : ℕ) → slice_get (drop o xs) k ≡ slice_get xs (o + k)
dropped_get zero xs k = let e : 0 + k ≡ k = omega arith in rw e refl
dropped_get (suc o) [] k = refl
dropped_get (suc o) (y ∷ xs) k = let e : suc o + k ≡ suc (o + k) = omega arith in rw e (dropped_get o xs k)

-- n cells from offset o of a live block
pub record IsSpan (m : Memory) (b o n : ℕ) (part : List Cell) : Type 0 where
  pub cells : List Cell
  pub live : block_at m b ≡ Some cells
  pub within : o + n ≤ length cells
  pub is : part ≡ take n (drop o cells)
  pub long : length part ≡ n

pub is_span : (m : Memory) (b o n : ℕ) (part : List Cell) → cells_at m b o n ≡ Some part → IsSpan m b o n part
is_span m b o n part h = live (block_at m b) refl h
  where
    tested : (cells : List Cell) → block_at m b ≡ Some cells → (t : Bool) → nat_le (o + n) (length cells) ≡ t → (if t then Some (take n (drop o cells)) else None) ≡ Some part → IsSpan m b o n part
    tested cells at false e is = absurd (none-some part is)
    tested cells at true e is =
        let within : o + n ≤ length cells = grind (arith, nat_tests) in
        let same : take n (drop o cells) ≡ part = same_Some (take n (drop o cells)) part is in
        let left : length (drop o cells) ≡ length cells - o = length-drop o cells in
        record {
          cells = cells;
          live = at;
          within = within;
          is = sym same;
          long = ap length (sym same) ∙ length_take n (drop o cells) (omega arith);
        }

    live : (x : Option (List Cell)) → block_at m b ≡ x → option_and_then (span o n) x ≡ Some part → IsSpan m b o n part
    live None at is = absurd (none-some part is)
    live (Some cells) at is = tested cells at (nat_le (o + n) (length cells)) refl is

-- the cells of a span are shown where they stand
pub span_shown : (e : Entries) (p : Bases) (m : Memory) (f : Spots) (b o n a : ℕ) (part : List Cell) → ShowsMemory e p m f → IsSpan m b o n part → p b ≡ Some a
    → (k : ℕ) (c : Cell) → slice_get part k ≡ Some c → ShowsCell e p c (f (a + o + k))
span_shown e p m f b o n a part memory s at k c is =
    let found : slice_get s.cells (o + k) ≡ Some c =
    sym (dropped_get o s.cells k) ∙ taken_get n (drop o s.cells) k c (ap (λ (xs : List Cell). slice_get xs k) (sym s.is) ∙ is)
    in
    let same : a + (o + k) ≡ a + o + k = omega arith in
    subst (λ x. ShowsCell e p c (f x)) same (memory.cells b a (o + k) s.cells c s.live at found)
