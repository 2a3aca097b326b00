-- The memory that a program starts in is shown by the bytes of its executable and of its argument words.
use Rattle.std.proofs.Common.{◌≡◌, ◌≢◌, inl, inr, ℕ, zero, suc, ◌+◌, ◌*◌, ◌^◌, ◌<◌, ◌≤◌, Bool, true, false, List, [], ◌∷◌, ◌++◌, length, map, replicate, refl, sym, ◌∙◌, subst, ap, arith, lit<, length-append, ◌&&◌, ◌||◌, nat_le, nat_lt, if◌then◌else◌, slice_get, slice_index, Option, Some, None}
use Rattle.std.proofs.lemmas.Bool.Decides.{nat_tests}
use Rattle.std.specs.Int.{w64, byte_at, to_le_bytes}
use Rattle.il_ast.specs.declared.program.Program.{Program}
use Rattle.il_ast.specs.declared.value.Cell.{Cell}
use Rattle.il_ast.specs.declared.value.Cell.TheVariants.{Plain, Part, Blank}
use Rattle.il_ast.specs.Prelude.{Memory, object_cells, word_cells, pointers_from, list_cells, start_memory}
use Rattle.rv_isa.specs.Prelude.{State, stack_top, stack_bottom, argument_bytes, pointer_bytes, word_bytes}
use Rattle.elf_file.specs.Conditions.{Executable, byte_in}
use Rattle.rv_machine.specs.Starts.{Starts}
use Rattle.flat_code.specs.Flat.{Spot, NoAccess, ThisByte, Spots, Bases, Entries, Grown, ShowsCell, ShowsMemory}
use Rattle.headline.specs.Executables.{Places, CellStands, CellsStand, BlocksStand, DataStands, word_places, first_word, start_places, setting_of, start_spots}
use Rattle.headline.proofs.LayersKeep.{shows_grown}
use Rattle.headline.proofs.Blocks.{SpotsShow, spots_append, BlockShows, AllShow, all_append, AllApart, Between, apart_from, apart_append, shows_all}
use Rattle.headline.proofs.StartBytes.{BytesKnown, known_split, plain_shown, words_shown, words_between, words_apart, StandFrom, pointers_shown}
use Rattle.il_ast.proofs.Listed.{get_before, get_behind}
use Rattle.rv_machine.proofs.Arguments.{pointers_length, arguments_length}

-- ---- lists

stand_by : (p : Bases) (ys zs : List ℕ) (k : ℕ) → ((j : ℕ) → p (k + j) ≡ slice_get (ys ++ zs) j) → StandFrom p k ys
stand_by p [] zs k h = tt
stand_by p (y ∷ ys) zs k h =
    let here : k ≡ k + 0 = omega arith in
    (ap p here ∙ h 0, stand_by p ys zs (k + 1) (λ j. let next : k + 1 + j ≡ k + suc j = omega arith in ap p next ∙ h (suc j)))

-- ---- the data

-- what is known of the data's bytes
record DataKnown (f : Spots) (byte : ℕ → Option ℕ) (low high : ℕ) : Type 0 where
  bytes : ℕ → ℕ
  known : (a : ℕ) → low ≤ a → a < high → f a ≡ ThisByte (bytes a)
  same : (a b : ℕ) → byte a ≡ Some b → bytes a ≡ b

pub not_away : (s : Spot) (n : ℕ) → s ≡ ThisByte n → s ≢ NoAccess
not_away s n h e = apart (sym h ∙ e)
  where
    apart : ThisByte n ≡ NoAccess → ⊥
    apart g = cc

cell_shown : (e : Entries) (p q : Bases) → Grown p q → (f : Spots) (byte : ℕ → Option ℕ) (low high : ℕ) → DataKnown f byte low high → (at : ℕ) → low ≤ at → at < high → (c : Cell) → CellStands e p (byte at) c → ShowsCell e q c (f at)
cell_shown e p q g f byte low high d at le lt (Plain b) h = d.known at le lt ∙ ap ThisByte (d.same at b h)
cell_shown e p q g f byte low high d at le lt (Part v k) h =
    (h.0, shows_grown e p q g v h.0 h.1, h.2, d.known at le lt ∙ ap ThisByte (d.same at (byte_at k h.0) h.3))
cell_shown e p q g f byte low high d at le lt Blank h = not_away (f at) (d.bytes at) (d.known at le lt)

cells_shown : (e : Entries) (p q : Bases) → Grown p q → (f : Spots) (byte : ℕ → Option ℕ) (low high : ℕ) → DataKnown f byte low high → (cells : List Cell) (at : ℕ) → low ≤ at → at + length cells ≤ high → CellsStand e p byte cells at → SpotsShow e q f cells at
cells_shown e p q g f byte low high d [] at le fits h = tt
cells_shown e p q g f byte low high d (c ∷ cells) at le fits h =
    (cell_shown e p q g f byte low high d at le (omega arith) c h.0, cells_shown e p q g f byte low high d cells (at + 1) (omega arith) (omega arith) h.1)

objects_shown : {D : Type 0} (e : Entries) (p q : Bases) → Grown p q → (f : Spots) (byte : ℕ → Option ℕ) (low high : ℕ) → 0 < low → high < 2 ^ 64 → DataKnown f byte low high → (cells : D → List Cell) (ds : List D) (from : ℕ) (places : List ℕ) → low ≤ from → BlocksStand e p byte from high (map cells ds) places → AllShow e q f (map (λ x. Some (cells x)) ds) places
objects_shown e p q g f byte low high positive small d cells [] from [] le h = tt
objects_shown e p q g f byte low high positive small d cells [] from (at ∷ places) le h = absurd h
objects_shown e p q g f byte low high positive small d cells (x ∷ ds) from [] le h = absurd h
objects_shown e p q g f byte low high positive small d cells (x ∷ ds) from (at ∷ places) le h =
    let above = h.0 in
    let fits = h.1 in (
      record {
        above_zero = omega arith;
        below_end = omega arith;
        cells_show = cells_shown e p q g f byte low high d (cells x) at (omega arith) fits h.2;
      },
      objects_shown e p q g f byte low high positive small d cells ds (at + length (cells x)) places (omega arith) h.3,
    )

objects_between : {D : Type 0} (e : Entries) (p : Bases) (byte : ℕ → Option ℕ) (high : ℕ) (cells : D → List Cell) (ds : List D) (from low : ℕ) (places : List ℕ) → low ≤ from → BlocksStand e p byte from high (map cells ds) places → Between low high (map (λ x. Some (cells x)) ds) places
objects_between e p byte high cells [] from low [] le h = tt
objects_between e p byte high cells [] from low (at ∷ places) le h = absurd h
objects_between e p byte high cells (x ∷ ds) from low [] le h = absurd h
objects_between e p byte high cells (x ∷ ds) from low (at ∷ places) le h =
    let above = h.0 in
    (omega arith, h.1, objects_between e p byte high cells ds (at + length (cells x)) low places (omega arith) h.3)

objects_apart : {D : Type 0} (e : Entries) (p : Bases) (byte : ℕ → Option ℕ) (high : ℕ) (cells : D → List Cell) (ds : List D) (from : ℕ) (places : List ℕ) → BlocksStand e p byte from high (map cells ds) places → AllApart (map (λ x. Some (cells x)) ds) places
objects_apart e p byte high cells [] from places h = tt
objects_apart e p byte high cells (x ∷ ds) from [] h = absurd h
objects_apart e p byte high cells (x ∷ ds) from (at ∷ places) h =
    let next = at + length (cells x) in (
      apart_from next high at (length (cells x)) (inl (omega arith)) (map (λ y. Some (cells y)) ds) places
          (objects_between e p byte high cells ds next next places (omega arith) h.3),
      objects_apart e p byte high cells ds next places h.3,
    )

-- ---- the argument range

known_from : (f : Spots) (bs : List ℕ) (at : ℕ) → ((k : ℕ) → k < length bs → f (at + k) ≡ ThisByte (slice_index bs k)) → BytesKnown f bs at
known_from f [] at h = tt
known_from f (b ∷ bs) at h =
    let here : at ≡ at + 0 = omega arith in (
      ap f here ∙ h 0 (omega arith),
      known_from f bs (at + 1) (λ k lt. let next : at + 1 + k ≡ at + suc k = omega arith in ap f next ∙ h (suc k) (omega arith)),
    )

length_pointer_cells : (b n : ℕ) → length (pointers_from b n) ≡ 8 * n
length_pointer_cells b zero = refl
length_pointer_cells b (suc n) = let rest = length_pointer_cells (b + 1) n in omega arith

-- the parts of the argument range
record Ranges (f : Spots) (words : List (List ℕ)) : Type 0 where
  pointers : BytesKnown f (pointer_bytes (first_word words) words) (stack_top + 8)
  zeros : BytesKnown f (replicate 8 0) (stack_top + 8 + 8 * length words)
  texts : BytesKnown f (word_bytes words) (first_word words)

ranges : (f : Spots) (words : List (List ℕ)) → BytesKnown f (argument_bytes words) stack_top → Ranges f words
unfolding argument_bytes
ranges f words h =
    let first = first_word words in
    let count = to_le_bytes w64 (length words) in
    let pointers = pointer_bytes first words in
    let one = known_split f ((count ++ pointers) ++ replicate 32 0) (word_bytes words) stack_top h in
    let two = known_split f (count ++ pointers) (replicate 32 0) stack_top one.0 in
    let three = known_split f count pointers stack_top two.0 in
    let size : length pointers ≡ 8 * length words = pointers_length first words in
    let both : length (count ++ pointers) ≡ 8 + length pointers = length-append count pointers in
    let all : length ((count ++ pointers) ++ replicate 32 0) ≡ length (count ++ pointers) + 32 = length-append (count ++ pointers) (replicate 32 0) in
    let zeros = known_split f (replicate 8 0) (replicate 24 0) (stack_top + length (count ++ pointers)) two.1 in
    let list_end : stack_top + length (count ++ pointers) ≡ stack_top + 8 + 8 * length words = omega arith in
    let texts_at : stack_top + length ((count ++ pointers) ++ replicate 32 0) ≡ first_word words = omega arith in
    record {
      pointers = three.1;
      zeros = subst (λ a. BytesKnown f (replicate 8 0) a) list_end zeros.0;
      texts = subst (λ a. BytesKnown f (word_bytes words) a) texts_at one.1;
    }

list_shown : (e : Entries) (p : Bases) (f : Spots) (words : List (List ℕ)) (b : ℕ) → first_word words + length (word_bytes words) < 2 ^ 64 → StandFrom p b (word_places (first_word words) words) → Ranges f words → SpotsShow e p f (list_cells b (length words)) (stack_top + 8)
list_shown e p f words b small places r =
    let size = length_pointer_cells b (length words) in
    let end : stack_top + 8 + 8 * length words ≡ stack_top + 8 + length (pointers_from b (length words)) = omega arith in
    spots_append e p f (pointers_from b (length words)) (replicate 8 (Plain 0)) (stack_top + 8)
    (pointers_shown e p f words b (first_word words) (stack_top + 8) small places r.pointers)
    (subst (λ a. SpotsShow e p f (replicate 8 (Plain 0)) a) end (plain_shown e p f (replicate 8 0) (stack_top + 8 + 8 * length words) r.zeros))

length_list : (b n : ℕ) → length (list_cells b n) ≡ 8 * n + 8
length_list b n =
    let size = length_pointer_cells b n in
    let whole : length (pointers_from b n ++ replicate 8 (Plain 0)) ≡ length (pointers_from b n) + 8 = length-append (pointers_from b n) (replicate 8 (Plain 0)) in
    omega arith

between_append : (low high : ℕ) (m n : Memory) (ps qs : List ℕ) → Between low high m ps → Between low high n qs → Between low high (m ++ n) (ps ++ qs)
between_append low high [] n [] qs h k = k
between_append low high [] n (q ∷ ps) qs h k = absurd h
between_append low high (b ∷ m) n [] qs h k = absurd h
between_append low high (None ∷ m) n (q ∷ ps) qs h k = absurd h
between_append low high (Some cells ∷ m) n (q ∷ ps) qs h k = (h.0, h.1, between_append low high m n ps qs h.2 k)

-- ---- all together

blocks_count : {D : Type 0} (e : Entries) (p : Bases) (byte : ℕ → Option ℕ) (high : ℕ) (cells : D → List Cell) (ds : List D) (from : ℕ) (places : List ℕ) → BlocksStand e p byte from high (map cells ds) places → length ds ≡ length places
blocks_count e p byte high cells [] from [] h = refl
blocks_count e p byte high cells [] from (at ∷ places) h = absurd h
blocks_count e p byte high cells (x ∷ ds) from [] h = absurd h
blocks_count e p byte high cells (x ∷ ds) from (at ∷ places) h = ap suc (blocks_count e p byte high cells ds (at + length (cells x)) places h.3)

pub objects_count : (p : Program) (at : Places) (x : Executable) → DataStands p at x → length p.objects ≡ length at.objects
objects_count p at x there =
    blocks_count at.entries (λ b. slice_get at.objects b) (byte_in x) at.high (object_cells p) p.objects at.low at.objects there.objects

spot_in_data : (at : Places) (words : List (List ℕ)) (s : State) (a : ℕ) → at.low ≤ a → a < at.high → start_spots at words s a ≡ ThisByte (s.bytes a)
spot_in_data at words s a low high =
    of_tests (nat_le at.low a && nat_lt a at.high) (nat_le stack_top a && nat_lt a (stack_top + length (argument_bytes words))) (grind (arith, nat_tests))
  where
    of_tests : (x y : Bool) → x ≡ true → (if x || y then ThisByte (s.bytes a) else NoAccess) ≡ ThisByte (s.bytes a)
    of_tests true y h = refl
    of_tests false y h = cc

spot_in_arguments : (at : Places) (words : List (List ℕ)) (s : State) (a : ℕ) → stack_top ≤ a → a < stack_top + length (argument_bytes words) → start_spots at words s a ≡ ThisByte (s.bytes a)
spot_in_arguments at words s a low high =
    of_tests (nat_le at.low a && nat_lt a at.high) (nat_le stack_top a && nat_lt a (stack_top + length (argument_bytes words))) (grind (arith, nat_tests))
  where
    of_tests : (x y : Bool) → y ≡ true → (if x || y then ThisByte (s.bytes a) else NoAccess) ≡ ThisByte (s.bytes a)
    of_tests true y h = refl
    of_tests false true h = refl
    of_tests false false h = cc

pub spot_byte : (at : Places) (words : List (List ℕ)) (s : State) (x n : ℕ) → start_spots at words s x ≡ ThisByte n → s.bytes x ≡ n
spot_byte at words s x n h =
    of_test ((nat_le at.low x && nat_lt x at.high) || (nat_le stack_top x && nat_lt x (stack_top + length (argument_bytes words)))) h
  where
    of_test : (b : Bool) → (if b then ThisByte (s.bytes x) else NoAccess) ≡ ThisByte n → s.bytes x ≡ n
    of_test true k = cc
    of_test false k = cc

-- the stack is away
pub stack_clear : (p : Program) (at : Places) (x : Executable) (words : List (List ℕ)) (s : State) → DataStands p at x → (a : ℕ) → stack_bottom ≤ a → a < stack_top → start_spots at words s a ≡ NoAccess
stack_clear p at x words s there a low high =
    let below = there.below in
    of_tests (nat_le at.low a && nat_lt a at.high) (nat_le stack_top a && nat_lt a (stack_top + length (argument_bytes words))) (grind (arith, nat_tests)) (grind (arith, nat_tests))
  where
    of_tests : (x y : Bool) → x ≡ false → y ≡ false → (if x || y then ThisByte (s.bytes a) else NoAccess) ≡ NoAccess
    of_tests true y h k = cc
    of_tests false true h k = cc
    of_tests false false h k = refl

pub start_shown : (p : Program) (at : Places) (x : Executable) (words : List (List ℕ)) (s : State) → Starts x words s → DataStands p at x → length words ≤ 1024 → length (word_bytes words) ≤ 65536 → ShowsMemory at.entries (setting_of at words s).start (start_memory p words) (start_spots at words s)
start_shown p at x words s starts there few short =
    let e = at.entries in
    let f = start_spots at words s in
    let places = start_places at.objects words in
    let q : Bases = λ b. slice_get places b in
    let later = word_places (first_word words) words ++ (stack_top + 8) ∷ [] in
    let texts = map (λ (w : List ℕ). Some (word_cells w)) words in
    let list = list_cells (length p.objects) (length words) in
    let size = arguments_length words in
    let below = there.below in
    let grown : Grown (λ b. slice_get at.objects b) q = λ b a h. get_before at.objects later b a h in
    let known : DataKnown f (byte_in x) at.low at.high =
    record { bytes = s.bytes; known = λ a low high. spot_in_data at words s a low high; same = λ a b h. starts.bytes a b h }
    in
    let arguments : BytesKnown f (argument_bytes words) stack_top =
    known_from f (argument_bytes words) stack_top
    (λ k lt. spot_in_arguments at words s (stack_top + k) (omega arith) (omega arith) ∙ ap ThisByte (starts.begins.arguments k lt))
    in
    let parts = ranges f words arguments in
    let end : first_word words + length (word_bytes words) < 2 ^ 64 = omega arith in
    let count = objects_count p at x there in
    let standing : StandFrom q (length p.objects) (word_places (first_word words) words) =
    stand_by q (word_places (first_word words) words) ((stack_top + 8) ∷ []) (length p.objects)
    (λ j. ap (λ n. slice_get places (n + j)) count ∙ get_behind at.objects later j)
    in
    let objects = map (λ d. Some (object_cells p d)) p.objects in
    let high_small : at.high < 2 ^ 64 = omega arith in
    let first_positive : 0 < first_word words = omega arith in
    let list_size = length_list (length p.objects) (length words) in
    let list_block : BlockShows e q f list (stack_top + 8) =
    record {
      above_zero = lit< tt;
      below_end = omega arith;
      cells_show = list_shown e q f words (length p.objects) end standing parts;
    }
    in
    let all_blocks : AllShow e q f (start_memory p words) places =
    all_append e q f objects (texts ++ Some list ∷ []) at.objects later
    (objects_shown e (λ b. slice_get at.objects b) q grown f (byte_in x) at.low at.high there.positive high_small known (object_cells p) p.objects at.low at.objects (omega arith) there.objects)
    (all_append e q f texts (Some list ∷ []) (word_places (first_word words) words) ((stack_top + 8) ∷ [])
    (words_shown e q f words (first_word words) first_positive end parts.texts) (list_block, tt))
    in
    let range_end = stack_top + length (argument_bytes words) in
    let low_list = stack_top + 8 in
    let high_list = stack_top + 16 + 8 * length words in
    let texts_between = words_between words (first_word words) (first_word words) range_end (omega arith) (omega arith) in
    let list_between : Between low_list high_list (Some list ∷ []) ((stack_top + 8) ∷ []) = (omega arith, omega arith, tt) in
    let later_apart : AllApart (texts ++ Some list ∷ []) later =
    apart_append texts (Some list ∷ []) (word_places (first_word words) words) ((stack_top + 8) ∷ []) (first_word words) range_end low_list high_list
    texts_between list_between (inr (omega arith)) (words_apart words (first_word words)) (tt, tt)
    in
    let later_between : Between low_list range_end (texts ++ Some list ∷ []) later =
    between_append low_list range_end texts (Some list ∷ []) (word_places (first_word words) words) ((stack_top + 8) ∷ [])
    (words_between words (first_word words) low_list range_end (omega arith) (omega arith)) (omega arith, omega arith, tt)
    in
    let apart : AllApart (start_memory p words) places =
    apart_append objects (texts ++ Some list ∷ []) at.objects later at.low at.high low_list range_end
    (objects_between e (λ b. slice_get at.objects b) (byte_in x) at.high (object_cells p) p.objects at.low at.low at.objects (omega arith) there.objects)
    later_between (inl (omega arith))
    (objects_apart e (λ b. slice_get at.objects b) (byte_in x) at.high (object_cells p) p.objects at.low at.objects there.objects) later_apart
    in
    shows_all e places f (start_memory p words) all_blocks apart
    (λ y n h. subst (λ m. m < 256) (spot_byte at words s y n h) (starts.begins.state.bytes y))
