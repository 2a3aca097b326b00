-- What a span of cells is worth, cell by cell.
use Rattle.std.proofs.Common.{◌≡◌, ℕ, zero, suc, ◌+◌, ◌*◌, ◌^◌, ◌<◌, ◌≤◌, Bool, true, false, List, [], ◌∷◌, ◌++◌, length, get_or, take, drop, append_assoc, refl, ap, sym, subst, ◌∙◌, arith, cond, append-nil, slice_get, nat_eq, ◌&&◌, Option, Some, None, IfSome, option_map, option_and_then}
use Rattle.std.proofs.Math.Nat.{pow-suc, pow-le-pow_right}
use Rattle.std.proofs.lemmas.Option.{slice_get-get_or}
use Rattle.il_ast.specs.declared.value.Value.{Value}
use Rattle.il_ast.specs.declared.value.Value.TheVariants.{Integer}
use Rattle.il_ast.specs.declared.value.Cell.{Cell}
use Rattle.il_ast.specs.declared.value.Cell.TheVariants.{Plain, Part, Blank}
use Rattle.il_ast.specs.Prelude.{number_of, same_value, plain_bytes, are_parts_from, value_of, span}
use Rattle.il_mem.specs.Cells.{plain_byte, part_value, is_part_of}
use Rattle.il_mem.proofs.Spans.{span_at, get_span}
use Rattle.il_mem.proofs.Putting.{span_inside}

-- ---- parts

and_assoc : (a b c : Bool) → a && (b && c) ≡ (a && b) && c
and_assoc true b c = refl
and_assoc false b c = refl

parts_first : (k : ℕ) (v : Value) (x : Cell) (rest : List Cell) → are_parts_from k v (x ∷ rest) ≡ is_part_of v k x && are_parts_from (k + 1) v rest
parts_first k v (Plain b) rest = refl
parts_first k v (Part u i) rest = and_assoc (same_value u v) (nat_eq i k) (are_parts_from (k + 1) v rest)
parts_first k v Blank rest = refl

pub parts_at : (cells : List Cell) (from n k : ℕ) (v : Value) (x : Cell) → k < n → slice_get cells (from + k) ≡ Some x → are_parts_from k v (drop k (take n (drop from cells))) ≡ is_part_of v k x && are_parts_from (k + 1) v (drop (k + 1) (take n (drop from cells)))
parts_at cells from n k v x lt h = ap (are_parts_from k v) (span_at cells from n k x lt h) ∙ parts_first k v x _

pub parts_go_on : (cells : List Cell) (from n k : ℕ) (v : Value) (x : Cell) (goal : Bool) → k < n → slice_get cells (from + k) ≡ Some x → is_part_of v k x ≡ true → are_parts_from k v (drop k (take n (drop from cells))) ≡ goal → are_parts_from (k + 1) v (drop (k + 1) (take n (drop from cells))) ≡ goal
parts_go_on cells from n k v x goal lt h hit inv =
    ap (λ b. b && are_parts_from (k + 1) v (drop (k + 1) (take n (drop from cells)))) (sym hit)
    ∙ (sym (parts_at cells from n k v x lt h) ∙ inv)

pub parts_stop : (cells : List Cell) (from n k : ℕ) (v : Value) (x : Cell) (goal : Bool) → k < n → slice_get cells (from + k) ≡ Some x → is_part_of v k x ≡ false → are_parts_from k v (drop k (take n (drop from cells))) ≡ goal → false ≡ goal
parts_stop cells from n k v x goal lt h miss inv =
    ap (λ b. b && are_parts_from (k + 1) v (drop (k + 1) (take n (drop from cells)))) (sym miss)
    ∙ (sym (parts_at cells from n k v x lt h) ∙ inv)

-- ---- bytes

pub number_cons : (b n : ℕ) (bytes : Option (List ℕ)) → option_map number_of bytes ≡ Some n → option_map number_of (option_map (λ bs. b ∷ bs) bytes) ≡ Some (n * 256 + b)
number_cons b n None h = cc
number_cons b n (Some bs) h =
    let same : number_of bs ≡ n = cc in
    let sum : b + 256 * number_of bs ≡ n * 256 + b = omega arith in
    ap (λ (k : ℕ). Some k) sum

plain_is : (x : Cell) (b : ℕ) → plain_byte x ≡ Some b → x ≡ Plain b
plain_is (Plain c) b h = let e : c ≡ b = cc in ap (λ (n : ℕ). Plain n) e
plain_is (Part v i) b h = cc
plain_is Blank b h = cc

pub number_goes_on : (cells : List Cell) (from n k left m b : ℕ) (x : Cell) → k < n → left ≡ k + 1 → slice_get cells (from + k) ≡ Some x → plain_byte x ≡ Some b → option_map number_of (plain_bytes (drop left (take n (drop from cells)))) ≡ Some m → option_map number_of (plain_bytes (drop k (take n (drop from cells)))) ≡ Some (m * 256 + b)
number_goes_on cells from n k left m b x lt e h plain inv =
    let first : drop k (take n (drop from cells)) ≡ Plain b ∷ drop (k + 1) (take n (drop from cells)) =
    span_at cells from n k x lt h ∙ ap (λ y. y ∷ drop (k + 1) (take n (drop from cells))) (plain_is x b plain) in
    let rest : option_map number_of (plain_bytes (drop (k + 1) (take n (drop from cells)))) ≡ Some m =
    ap (λ j. option_map number_of (plain_bytes (drop j (take n (drop from cells))))) (sym e) ∙ inv in
    ap (λ s. option_map number_of (plain_bytes s)) first ∙ number_cons b m (plain_bytes (drop (k + 1) (take n (drop from cells)))) rest

none_mapped : {A B : Type 0} (f : A → B) (o : Option A) → o ≡ None → option_map f o ≡ None
none_mapped f None h = refl
none_mapped f (Some x) h = cc

plain_none : (cells : List Cell) (k : ℕ) (x : Cell) → slice_get cells k ≡ Some x → plain_byte x ≡ None → plain_bytes cells ≡ None
plain_none [] k x h miss = cc
plain_none (Plain b ∷ cells) zero x h miss = let e : Plain b ≡ x = cc in let bad : Some b ≡ None = ap plain_byte e ∙ miss in cc
plain_none (Plain b ∷ cells) (suc k) x h miss = none_mapped (λ bs. b ∷ bs) (plain_bytes cells) (plain_none cells k x h miss)
plain_none (Part v i ∷ cells) k x h miss = refl
plain_none (Blank ∷ cells) k x h miss = refl

pub number_stops : (cells : List Cell) (from n k : ℕ) (x : Cell) → k < n → slice_get cells (from + k) ≡ Some x → plain_byte x ≡ None → option_map number_of (plain_bytes (take n (drop from cells))) ≡ None
number_stops cells from n k x lt h miss =
    none_mapped number_of (plain_bytes (take n (drop from cells))) (plain_none (take n (drop from cells)) k x (get_span cells from n k x lt h) miss)

-- ---- bounds

pub more_bytes : (m b j : ℕ) → m < 256 ^ j → b < 256 → m * 256 + b < 256 ^ suc j
more_bytes m b j lt small = let e : 256 ^ suc j ≡ 256 ^ j * 256 = pow-suc 256 j in omega arith

pub fits_long : (m j : ℕ) → m < 256 ^ j → j ≤ 8 → m < 2 ^ 64
fits_long m j lt le =
    let most : 256 ^ j ≤ 256 ^ 8 = pow-le-pow_right (omega arith) le in
    let e : 256 ^ 8 ≡ 2 ^ 64 = refl in
    omega arith

-- ---- values

span_first : (cells : List Cell) (from n : ℕ) (x : Cell) → 0 < n → slice_get cells from ≡ Some x → take n (drop from cells) ≡ x ∷ drop 1 (take n (drop from cells))
span_first cells from n x lt h =
    let here : slice_get cells (from + 0) ≡ Some x = (let e : from + 0 ≡ from = omega arith in rw e h) in
    span_at cells from n 0 x lt here

first_part : (x : Cell) (v : Value) (rest : List Cell) → part_value x ≡ Some v → value_of (x ∷ rest) ≡ cond (are_parts_from 0 v (x ∷ rest)) (Some v) None
first_part (Plain b) v rest h = cc
first_part (Part u i) v rest h = let e : u ≡ v = cc in ap (λ w. cond (are_parts_from 0 w (Part u i ∷ rest)) (Some w) None) e
first_part Blank v rest h = cc

first_other : (x : Cell) (rest : List Cell) → part_value x ≡ None → value_of (x ∷ rest) ≡ option_map (λ (n : ℕ). Integer n) (option_map number_of (plain_bytes (x ∷ rest)))
first_other (Plain b) rest h = refl
first_other (Part u i) rest h = cc
first_other Blank rest h = refl

-- a span that begins with a part has the value of its parts, or none
pub value_of_parts : (cells : List Cell) (from n : ℕ) (x : Cell) (v : Value) (r : Bool) → 0 < n → slice_get cells from ≡ Some x → part_value x ≡ Some v → r ≡ are_parts_from 0 v (take n (drop from cells)) → cond r (Some v) None ≡ value_of (take n (drop from cells))
value_of_parts cells from n x v r lt h part e =
    let P = λ (s : List Cell). value_of s ≡ cond (are_parts_from 0 v s) (Some v) None in
    let whole : value_of (take n (drop from cells)) ≡ cond (are_parts_from 0 v (take n (drop from cells))) (Some v) None =
    subst P (sym (span_first cells from n x lt h)) (first_part x v _ part) in
    ap (λ b. cond b (Some v) None) e ∙ sym whole

-- any other span has the number of its bytes, or none
value_of_bytes : (cells : List Cell) (from n : ℕ) (x : Cell) → 0 < n → slice_get cells from ≡ Some x → part_value x ≡ None → value_of (take n (drop from cells)) ≡ option_map (λ (n : ℕ). Integer n) (option_map number_of (plain_bytes (take n (drop from cells))))
value_of_bytes cells from n x lt h other =
    let P = λ (s : List Cell). value_of s ≡ option_map (λ (n : ℕ). Integer n) (option_map number_of (plain_bytes s)) in
    subst P (sym (span_first cells from n x lt h)) (first_other x _ other)

-- a span of bytes has their number
pub value_of_number : (s : List Cell) (n : ℕ) → option_map number_of (plain_bytes s) ≡ Some n → value_of s ≡ Some (Integer n)
value_of_number [] n h = ap (option_map (λ (n : ℕ). Integer n)) h
value_of_number (Plain b ∷ s) n h = ap (option_map (λ (n : ℕ). Integer n)) h
value_of_number (Part v i ∷ s) n h = cc
value_of_number (Blank ∷ s) n h = ap (option_map (λ (n : ℕ). Integer n)) h

-- a span that lies inside, where its number is known
pub spanned : (from count n : ℕ) (cells : List Cell) → from + count ≤ length cells → option_map number_of (plain_bytes (take count (drop from cells))) ≡ Some n → option_and_then value_of (span from count cells) ≡ Some (Integer n)
spanned from count n cells le h =
    ap (option_and_then value_of) (span_inside from count cells le) ∙ value_of_number (take count (drop from cells)) n h

pub spanned_if : (from count : ℕ) (r : Option ℕ) (cells : List Cell) → from + count ≤ length cells → r ≡ option_map number_of (plain_bytes (take count (drop from cells))) → IfSome r (λ n. option_and_then value_of (span from count cells) ≡ Some (Integer n))
spanned_if from count None cells le h = tt
spanned_if from count (Some n) cells le h = spanned from count n cells le (sym h)

-- a span that isn't one of bytes, and begins with no part, has none
pub value_of_others : (cells : List Cell) (from n : ℕ) (x : Cell) → 0 < n → slice_get cells from ≡ Some x → part_value x ≡ None → option_map number_of (plain_bytes (take n (drop from cells))) ≡ None → value_of (take n (drop from cells)) ≡ None
value_of_others cells from n x lt h other none = value_of_bytes cells from n x lt h other ∙ ap (option_map (λ (n : ℕ). Integer n)) none

-- ---- one byte

-- the cell at a place, and the byte that it is
pub byte_there : (cells : List Cell) (at : ℕ) (r : Option ℕ) → at < length cells → r ≡ option_and_then plain_byte (slice_get cells at) → (x : Cell) × (slice_get cells at ≡ Some x) × (plain_byte x ≡ r)
byte_there cells at r lt h =
    let there : slice_get cells at ≡ Some (get_or cells at Blank) = slice_get-get_or cells at Blank lt in
    (get_or cells at Blank, there, ap (option_and_then plain_byte) (sym there) ∙ sym h)

-- ---- all bytes of a span

-- the bytes found so far stand before those that are still to be found
abbrev pub bytes_then : List ℕ → Option (List ℕ) → Option (List ℕ)
bytes_then found None = None
bytes_then found (Some rest) = Some (found ++ rest)

bytes_join : (found : List ℕ) (b : ℕ) (o : Option (List ℕ)) → bytes_then found (option_map (λ bytes. b ∷ bytes) o) ≡ bytes_then (found ++ b ∷ []) o
bytes_join found b None = refl
bytes_join found b (Some rest) = ap Some (sym (append_assoc found (b ∷ []) rest))

bytes_first : (x : Cell) (b : ℕ) (rest : List Cell) → plain_byte x ≡ Some b → plain_bytes (x ∷ rest) ≡ option_map (λ bytes. b ∷ bytes) (plain_bytes rest)
bytes_first (Plain a) b rest h = let same : a ≡ b = cc in ap (λ y. option_map (λ bytes. y ∷ bytes) (plain_bytes rest)) same
bytes_first (Part v i) b rest h = cc
bytes_first Blank b rest h = cc

bytes_no_first : (x : Cell) (rest : List Cell) → plain_byte x ≡ None → plain_bytes (x ∷ rest) ≡ None
bytes_no_first (Plain a) rest h = cc
bytes_no_first (Part v i) rest h = refl
bytes_no_first Blank rest h = refl

pub bytes_go_on : (cells : List Cell) (from n k : ℕ) (x : Cell) (b : ℕ) (found : List ℕ) (whole : Option (List ℕ)) → k < n → slice_get cells (from + k) ≡ Some x → plain_byte x ≡ Some b → whole ≡ bytes_then found (plain_bytes (drop k (take n (drop from cells)))) → whole ≡ bytes_then (found ++ b ∷ []) (plain_bytes (drop (k + 1) (take n (drop from cells))))
bytes_go_on cells from n k x b found whole lt h hit inv =
    inv
    ∙ (ap (λ xs. bytes_then found (plain_bytes xs)) (span_at cells from n k x lt h)
    ∙ (ap (bytes_then found) (bytes_first x b (drop (k + 1) (take n (drop from cells))) hit)
    ∙ bytes_join found b (plain_bytes (drop (k + 1) (take n (drop from cells))))))

pub bytes_stop : (cells : List Cell) (from n k : ℕ) (x : Cell) (found : List ℕ) (whole : Option (List ℕ)) → k < n → slice_get cells (from + k) ≡ Some x → plain_byte x ≡ None → whole ≡ bytes_then found (plain_bytes (drop k (take n (drop from cells)))) → whole ≡ None
bytes_stop cells from n k x found whole lt h miss inv =
    inv
    ∙ (ap (λ xs. bytes_then found (plain_bytes xs)) (span_at cells from n k x lt h)
    ∙ ap (bytes_then found) (bytes_no_first x (drop (k + 1) (take n (drop from cells))) miss))

pub bytes_begin : (o : Option (List ℕ)) → o ≡ bytes_then [] o
bytes_begin None = refl
bytes_begin (Some bytes) = refl

pub bytes_end : (cells : List Cell) (n k : ℕ) (found : List ℕ) (whole : Option (List ℕ)) → n ≤ k → whole ≡ bytes_then found (plain_bytes (drop k (take n cells))) → whole ≡ Some found
bytes_end cells n k found whole le inv =
    inv ∙ (ap (λ xs. bytes_then found (plain_bytes xs)) (none_left cells n k le) ∙ ap Some (append-nil found))
  where
    none_left : (xs : List Cell) (a b : ℕ) → a ≤ b → drop b (take a xs) ≡ []
    none_left [] zero zero l = refl
    none_left [] zero (suc b) l = refl
    none_left [] (suc a) zero l = absurd (omega arith)
    none_left [] (suc a) (suc b) l = refl
    none_left (x ∷ xs) zero zero l = refl
    none_left (x ∷ xs) zero (suc b) l = refl
    none_left (x ∷ xs) (suc a) zero l = absurd (omega arith)
    none_left (x ∷ xs) (suc a) (suc b) l = none_left xs a b (omega arith)
