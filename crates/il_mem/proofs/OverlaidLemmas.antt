-- Cells under bytes.
use Rattle.std.proofs.Common.{◌≡◌, ℕ, zero, suc, ◌+◌, ◌-◌, ◌*◌, ◌/◌, ◌%◌, ◌^◌, ◌<◌, ◌≤◌, List, [], ◌∷◌, ◌++◌, map, length, take, drop, length-set, refl, ap, sym, ◌∙◌, arith, slice_get, slice_set, get_or, Some, option_map, length-drop}
use Rattle.std.proofs.lemmas.Slice.{between_to_end}
use Rattle.std.proofs.Math.Nat.{pow-suc, div-div-eq-div-mul, div-one}
use Rattle.std.specs.Int.{bytes_low_first, byte_at}
use Rattle.byteorder.specs.Endian.{little_from, little_number, little_bytes}
use Rattle.byteorder.specs.Numbers.{little_from-cons, length-bytes_low_first}
use Rattle.il_ast.specs.declared.value.Cell.{Cell}
use Rattle.il_ast.specs.declared.value.Cell.TheVariants.{Plain, Blank}
use Rattle.il_ast.specs.Prelude.{bytes_of, number_of, plain_bytes}
use Rattle.il_ast.specs.declared.value.Value.{Value}
use Rattle.il_ast.specs.declared.value.Value.TheVariants.{Integer}
use Rattle.il_mem.specs.declared.block.Mark.{Mark}
use Rattle.il_mem.specs.declared.block.Mark.TheVariants.{Plain as PlainMark, Blank as BlankMark}
use Rattle.il_mem.specs.Joined.{cell_of, joined, overlaid}
use Rattle.il_mem.specs.Written.{written}
use Rattle.il_mem.proofs.JoinedLemmas.{length-joined, get-joined, joined-set_mark, pushed_blank}
use Rattle.il_mem.proofs.Spans.{written_is}

pub length-overlaid : (bytes : List ℕ) (cells : List Cell) → length (overlaid bytes cells) ≡ length cells
length-overlaid [] cells = refl
length-overlaid (b ∷ bytes) [] = refl
length-overlaid (b ∷ bytes) (c ∷ cells) = ap suc (length-overlaid bytes cells)

-- ---- one cell

pub get_front : (bytes : List ℕ) (cells : List Cell) (at d : ℕ) → at < length bytes → length bytes ≤ length cells → slice_get (overlaid bytes cells) at ≡ Some (Plain (get_or bytes at d))
get_front [] cells at d lt le = absurd (omega arith)
get_front (b ∷ bytes) [] at d lt le = absurd (omega arith)
get_front (b ∷ bytes) (c ∷ cells) zero d lt le = refl
get_front (b ∷ bytes) (c ∷ cells) (suc at) d lt le = get_front bytes cells at d (omega arith) (omega arith)

pub get_behind : (bytes : List ℕ) (cells : List Cell) (at : ℕ) → length bytes ≤ at → slice_get (overlaid bytes cells) at ≡ slice_get cells at
get_behind [] cells at le = refl
get_behind (b ∷ bytes) [] at le = refl
get_behind (b ∷ bytes) (c ∷ cells) zero le = absurd (omega arith)
get_behind (b ∷ bytes) (c ∷ cells) (suc at) le = get_behind bytes cells at (omega arith)

pub set_front : (bytes : List ℕ) (cells : List Cell) (at b : ℕ) → at < length bytes → overlaid (slice_set bytes at b) cells ≡ slice_set (overlaid bytes cells) at (Plain b)
set_front [] cells at b lt = absurd (omega arith)
set_front (x ∷ bytes) [] zero b lt = refl
set_front (x ∷ bytes) [] (suc at) b lt = refl
set_front (x ∷ bytes) (c ∷ cells) zero b lt = refl
set_front (x ∷ bytes) (c ∷ cells) (suc at) b lt = ap (λ xs. Plain x ∷ xs) (set_front bytes cells at b (omega arith))

pub set_behind : (bytes : List ℕ) (cells : List Cell) (at : ℕ) (c : Cell) → length bytes ≤ at → overlaid bytes (slice_set cells at c) ≡ slice_set (overlaid bytes cells) at c
set_behind [] cells at c le = refl
set_behind (x ∷ bytes) [] at c le = refl
set_behind (x ∷ bytes) (y ∷ cells) zero c le = absurd (omega arith)
set_behind (x ∷ bytes) (y ∷ cells) (suc at) c le = ap (λ xs. Plain x ∷ xs) (set_behind bytes cells at c (omega arith))

-- one byte more, at the end of the bytes
pub set_end : (bytes : List ℕ) (cells : List Cell) (at b : ℕ) → at ≡ length bytes → overlaid (bytes ++ b ∷ []) cells ≡ slice_set (overlaid bytes cells) at (Plain b)
set_end [] [] at b e = refl
set_end [] (c ∷ cells) zero b e = refl
set_end [] (c ∷ cells) (suc at) b e = absurd (omega arith)
set_end (x ∷ bytes) [] at b e = refl
set_end (x ∷ bytes) (c ∷ cells) zero b e = absurd (omega arith)
set_end (x ∷ bytes) (c ∷ cells) (suc at) b e = ap (λ xs. Plain x ∷ xs) (set_end bytes cells at b (omega arith))

-- one byte less, whose cell is written beneath
pub cut_end : (bytes : List ℕ) (cells : List Cell) (at b : ℕ) → at ≡ length bytes → overlaid bytes (slice_set cells at (Plain b)) ≡ overlaid (bytes ++ b ∷ []) cells
cut_end bytes cells at b e = set_behind bytes cells at (Plain b) (omega arith) ∙ sym (set_end bytes cells at b e)

pub grown : (bytes : List ℕ) (cells : List Cell) (c : Cell) → length bytes ≤ length cells → overlaid bytes (cells ++ c ∷ []) ≡ overlaid bytes cells ++ c ∷ []
grown [] cells c le = refl
grown (b ∷ bytes) [] c le = absurd (omega arith)
grown (b ∷ bytes) (x ∷ cells) c le = ap (λ xs. Plain b ∷ xs) (grown bytes cells c (omega arith))

-- ---- numbers

plain_front : (count : ℕ) (bytes : List ℕ) (cells : List Cell) → count ≤ length bytes → length bytes ≤ length cells → take count (overlaid bytes cells) ≡ map (λ (b : ℕ). Plain b) (take count bytes)
plain_front zero bytes cells lt le = refl
plain_front (suc count) [] cells lt le = absurd (omega arith)
plain_front (suc count) (b ∷ bytes) [] lt le = absurd (omega arith)
plain_front (suc count) (b ∷ bytes) (c ∷ cells) lt le = ap (λ xs. Plain b ∷ xs) (plain_front count bytes cells (omega arith) (omega arith))

pub plain_span : (from count : ℕ) (bytes : List ℕ) (cells : List Cell) → from + count ≤ length bytes → length bytes ≤ length cells → take count (drop from (overlaid bytes cells)) ≡ map (λ (b : ℕ). Plain b) (take count (drop from bytes))
plain_span zero count bytes cells lt le = plain_front count bytes cells (omega arith) le
plain_span (suc from) count [] cells lt le = absurd (omega arith)
plain_span (suc from) count (b ∷ bytes) [] lt le = absurd (omega arith)
plain_span (suc from) count (b ∷ bytes) (c ∷ cells) lt le = plain_span from count bytes cells (omega arith) (omega arith)

bytes_back : (bytes : List ℕ) → plain_bytes (map (λ (b : ℕ). Plain b) bytes) ≡ Some bytes
bytes_back [] = refl
bytes_back (b ∷ bytes) = ap (option_map (λ bs. b ∷ bs)) (bytes_back bytes)

little_is : (n : ℕ) (bytes : List ℕ) → n ≤ length bytes → little_from 0 n bytes ≡ number_of (take n bytes)
little_is zero bytes le = refl
little_is (suc n) [] le = absurd (omega arith)
little_is (suc n) (b ∷ bytes) le =
    ap (λ (r : ℕ). b + 256 * r) (little_from-cons 0 n b bytes ∙ little_is n bytes (omega arith))

pub number_read : (from count n : ℕ) (bytes slice : List ℕ) (cells all : List Cell) → from + count ≤ length bytes → length bytes ≤ length cells → slice ≡ bytes → n ≡ little_number count (take (length slice - from) (drop from slice)) → overlaid bytes cells ≡ all → option_map number_of (plain_bytes (take count (drop from all))) ≡ Some n
number_read from count n bytes slice cells all lt le same is view =
    let part : take (length slice - from) (drop from slice) ≡ drop from bytes =
    between_to_end slice from (length slice) (omega arith) ∙ ap (drop from) same in
    let long : length (drop from bytes) ≡ length bytes - from = length-drop from bytes in
    ap (λ xs. option_map number_of (plain_bytes (take count (drop from xs)))) (sym view)
    ∙ (ap (λ xs. option_map number_of (plain_bytes xs)) (plain_span from count bytes cells lt le)
    ∙ (ap (option_map number_of) (bytes_back (take count (drop from bytes)))
    ∙ ap (λ (k : ℕ). Some k)
    (sym (little_is count (drop from bytes) (omega arith)) ∙ (ap (little_number count) (sym part) ∙ sym is))))

pub write_front : (xs : List ℕ) (to : ℕ) (bytes : List ℕ) (cells : List Cell) → to + length xs ≤ length bytes → overlaid (written to xs bytes) cells ≡ written to (map (λ (b : ℕ). Plain b) xs) (overlaid bytes cells)
write_front [] to bytes cells le = refl
write_front (x ∷ xs) to bytes cells le =
    let long : length (slice_set bytes to x) ≡ length bytes = length-set bytes to x in
    write_front xs (to + 1) (slice_set bytes to x) cells (omega arith)
    ∙ ap (λ cs. written (to + 1) (map (λ (b : ℕ). Plain b) xs) cs) (set_front bytes cells to x (omega arith))

byte_is : (i n : ℕ) → byte_at i n ≡ n / 256 ^ i % 256
byte_is zero n = ap (λ (k : ℕ). k % 256) (sym (div-one n))
byte_is (suc i) n = refl

low_first : (k i n : ℕ) → bytes_low_first i k n ≡ bytes_of k (n / 256 ^ i)
low_first zero i n = refl
low_first (suc k) i n =
    let next : n / 256 ^ suc i ≡ n / 256 ^ i / 256 = ap (λ (p : ℕ). n / p) (pow-suc 256 i) ∙ sym (div-div-eq-div-mul n (256 ^ i) 256) in
    ap (λ b. b ∷ bytes_low_first (suc i) k n) (byte_is i n)
    ∙ ap (λ bs. n / 256 ^ i % 256 ∷ bs) (low_first k (suc i) n ∙ ap (bytes_of k) next)

pub little_bytes_are : (k n : ℕ) → little_bytes k n ≡ bytes_of k n
little_bytes_are k n = low_first k 0 n ∙ ap (bytes_of k) (div-one n)

-- ---- as many as the marks

pub as_many : (bytes : List ℕ) (marks : List Mark) (values : List Value) (cells : List Cell) → overlaid bytes (joined marks values) ≡ cells → length cells ≡ length marks
as_many bytes marks values cells e =
    ap length (sym e) ∙ (length-overlaid bytes (joined marks values) ∙ length-joined marks values)

-- ---- the cells of a block, by its lists

pub front_cell : (bytes : List ℕ) (marks : List Mark) (values : List Value) (cells : List Cell) (at b d : ℕ) → overlaid bytes (joined marks values) ≡ cells → length bytes ≤ length marks → at < length bytes → b ≡ get_or bytes at d → slice_get cells at ≡ Some (Plain b)
front_cell bytes marks values cells at b d view le lt is =
    let many : length (joined marks values) ≡ length marks = length-joined marks values in
    ap (λ xs. slice_get xs at) (sym view)
    ∙ (get_front bytes (joined marks values) at d lt (omega arith) ∙ ap (λ (k : ℕ). Some (Plain k)) (sym is))

pub behind_cell : (bytes : List ℕ) (marks ms : List Mark) (values vs : List Value) (cells : List Cell) (at : ℕ) (x : Cell) → overlaid bytes (joined marks values) ≡ cells → ms ≡ marks → vs ≡ values → length bytes ≤ at → slice_get (joined ms vs) at ≡ Some x → slice_get cells at ≡ Some x
behind_cell bytes marks ms values vs cells at x view em ev le h =
    ap (λ xs. slice_get xs at) (sym view)
    ∙ (get_behind bytes (joined marks values) at le
    ∙ (ap (λ ks. slice_get (joined ks values) at) (sym em) ∙ (ap (λ ws. slice_get (joined ms ws) at) (sym ev) ∙ h)))

pub set_first : (bytes : List ℕ) (marks : List Mark) (values : List Value) (cells : List Cell) (at b : ℕ) → overlaid bytes (joined marks values) ≡ cells → at < length bytes → overlaid (slice_set bytes at b) (joined marks values) ≡ slice_set cells at (Plain b)
set_first bytes marks values cells at b view lt =
    set_front bytes (joined marks values) at b lt ∙ ap (λ xs. slice_set xs at (Plain b)) view

pub set_next : (bytes new : List ℕ) (marks : List Mark) (values : List Value) (cells : List Cell) (at b : ℕ) → overlaid bytes (joined marks values) ≡ cells → at ≡ length bytes → new ≡ bytes ++ b ∷ [] → overlaid new (joined marks values) ≡ slice_set cells at (Plain b)
set_next bytes new marks values cells at b view e is =
    ap (λ xs. overlaid xs (joined marks values)) is
    ∙ (set_end bytes (joined marks values) at b e ∙ ap (λ xs. slice_set xs at (Plain b)) view)

pub set_later : (bytes : List ℕ) (marks : List Mark) (values : List Value) (cells : List Cell) (at b : ℕ) → overlaid bytes (joined marks values) ≡ cells → length bytes ≤ at → overlaid bytes (joined (slice_set marks at (PlainMark b)) values) ≡ slice_set cells at (Plain b)
set_later bytes marks values cells at b view le =
    ap (overlaid bytes) (joined-set_mark marks values at (PlainMark b) (Plain b) (λ v. refl))
    ∙ (set_behind bytes (joined marks values) at (Plain b) le ∙ ap (λ xs. slice_set xs at (Plain b)) view)

pub set_marked : (bytes short : List ℕ) (marks mid new : List Mark) (values kept : List Value) (cells : List Cell) (at : ℕ) (c : Cell) → overlaid bytes (joined marks values) ≡ cells → ((vs : List Value) → overlaid short (joined mid vs) ≡ overlaid bytes (joined marks vs)) → length short ≤ at → joined new kept ≡ slice_set (joined mid values) at c → overlaid short (joined new kept) ≡ slice_set cells at c
set_marked bytes short marks mid new values kept cells at c view cut le h =
    ap (overlaid short) h
    ∙ (set_behind short (joined mid values) at c le ∙ ap (λ xs. slice_set xs at c) (cut values ∙ view))

pub one_more : (bytes more : List ℕ) (marks new : List Mark) (values kept : List Value) (cells : List Cell) → overlaid bytes (joined marks values) ≡ cells → length bytes ≤ length marks → more ≡ bytes → new ≡ marks ++ BlankMark ∷ [] → kept ≡ values → overlaid more (joined new kept) ≡ cells ++ Blank ∷ []
one_more bytes more marks new values kept cells view le em en ek =
    let many : length (joined marks values) ≡ length marks = length-joined marks values in
    ap (λ xs. overlaid xs (joined new kept)) em
    ∙ (ap (overlaid bytes) (pushed_blank marks new values kept (joined marks values) en ek refl)
    ∙ (grown bytes (joined marks values) Blank (omega arith) ∙ ap (λ xs. xs ++ Blank ∷ []) view))

pub cut_one : (bytes rest : List ℕ) (marks : List Mark) (values : List Value) (at b : ℕ) → bytes ≡ rest ++ b ∷ [] → at ≡ length rest → overlaid rest (joined (slice_set marks at (PlainMark b)) values) ≡ overlaid bytes (joined marks values)
cut_one bytes rest marks values at b e is =
    ap (overlaid rest) (joined-set_mark marks values at (PlainMark b) (Plain b) (λ v. refl))
    ∙ (cut_end rest (joined marks values) at b is ∙ ap (λ xs. overlaid xs (joined marks values)) (sym e))

nothing_left : (n : ℕ) → drop {A = ℕ} n [] ≡ []
nothing_left zero = refl
nothing_left (suc n) = refl

drop_twice : (to n : ℕ) (xs : List ℕ) → drop n (drop to xs) ≡ drop (to + n) xs
drop_twice zero n xs = let e : n ≡ 0 + n = omega arith in ap (λ (k : ℕ). drop k xs) e
drop_twice (suc to) zero [] = sym (nothing_left (suc to + zero))
drop_twice (suc to) (suc n) [] = sym (nothing_left (suc to + suc n))
drop_twice (suc to) n (x ∷ xs) =
    let e : suc (to + n) ≡ suc to + n = omega arith in drop_twice to n xs ∙ ap (λ (k : ℕ). drop k (x ∷ xs)) e

-- a number written over the bytes
pub numbered : (to count n : ℕ) (bytes new : List ℕ) (marks : List Mark) (values : List Value) (cells : List Cell) → overlaid bytes (joined marks values) ≡ cells → to + count ≤ length bytes → new ≡ take to bytes ++ (little_bytes count n ++ drop count (drop to bytes)) → overlaid new (joined marks values) ≡ written to (map (λ (b : ℕ). Plain b) (bytes_of count n)) cells
numbered to count n bytes new marks values cells view le is =
    let long : length (little_bytes count n) ≡ count = length-bytes_low_first 0 count n in
    let room : to + length (little_bytes count n) ≤ length bytes = omega arith in
    ap (λ xs. overlaid xs (joined marks values))
    (is ∙ (ap (λ xs. take to bytes ++ (little_bytes count n ++ xs)) (drop_twice to count bytes)
    ∙ (ap (λ (k : ℕ). take to bytes ++ (little_bytes count n ++ drop (to + k) bytes)) (sym long) ∙ sym (written_is to (little_bytes count n) bytes room))))
    ∙ (write_front (little_bytes count n) to bytes (joined marks values) room
    ∙ (ap (λ xs. written to (map (λ (b : ℕ). Plain b) (little_bytes count n)) xs) view
    ∙ ap (λ bs. written to (map (λ (b : ℕ). Plain b) bs) cells) (little_bytes_are count n)))

pub behind_mark : (bytes : List ℕ) (marks : List Mark) (values : List Value) (cells : List Cell) (at : ℕ) (m : Mark) → overlaid bytes (joined marks values) ≡ cells → length bytes ≤ at → at < length marks → m ≡ get_or marks at m → slice_get cells at ≡ Some (cell_of m (get_or values at (Integer 0)))
behind_mark bytes marks values cells at m view le lt is =
    ap (λ xs. slice_get xs at) (sym view)
    ∙ (get_behind bytes (joined marks values) at le ∙ get-joined marks values at m m (get_or values at (Integer 0)) lt (sym is) refl)
