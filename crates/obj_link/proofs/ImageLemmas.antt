-- What is placed is an image, and its data are those of the definitions.
use Rattle.std.proofs.Common.{◌≡◌, ℕ, zero, suc, ◌+◌, ◌*◌, ◌%◌, ◌-◌, ◌^◌, ◌<◌, ◌≤◌, Bool, true, false, List, [], ◌∷◌, ◌++◌, length, map, replicate, refl, sym, ◌∙◌, ap, subst, arith, lit<, length-append, nat_eq, if◌then◌else◌, slice_get, slice_index, slice_set, Option, Some, None, option_and_then, option_map, flat_map, sum_by}
use Rattle.std.specs.Int.{w64, to_le_bytes}
use Rattle.std.proofs.lemmas.List.{length-replicate, map-append}
use Rattle.std.proofs.lemmas.List.Sums.{sum_by-cons}
use Rattle.std.proofs.lemmas.Option.{slice_get-map}
use Rattle.il_ast.specs.declared.datum.DataDef.{DataDef}
use Rattle.il_ast.specs.declared.datum.Item.{Item}
use Rattle.il_ast.specs.declared.datum.Item.TheVariants.{Int, Bytes, Address}
use Rattle.il_ast.specs.declared.datum.Field.{Field}
use Rattle.il_ast.specs.declared.datum.Field.TheVariants.{Items, Zeros}
use Rattle.il_ast.specs.declared.operation.Size.{Size}
use Rattle.il_ast.specs.declared.function.Func.{Func}
use Rattle.il_ast.specs.declared.program.InText.{InText}
use Rattle.il_ast.specs.declared.program.Program.{Program}
use Rattle.il_ast.specs.declared.program.Target.{Target}
use Rattle.il_ast.specs.declared.program.Target.TheVariants.{Code, Object}
use Rattle.il_ast.specs.declared.value.Cell.TheVariants.{Plain, Blank}
use Rattle.il_ast.specs.declared.value.Value.{Value}
use Rattle.il_ast.specs.declared.value.Value.TheVariants.{Function}
use Rattle.il_ast.specs.Prelude.{bytes_of, byte_count, round_16, parts, target_value, values_of, address_cells, item_cells, field_cells}
use Rattle.rv_isa.specs.Prelude.{Words, filled, word, upper_part, lower_part, named, filled_in}
use Rattle.rv_isa.specs.declared.instruction.Instr.{Instr}
use Rattle.rv_isa.specs.declared.instruction.Instr.TheVariants.{Lui, Addiw}
use Rattle.rv_isa.specs.declared.code.Hole.{Hole}
use Rattle.rv_isa.specs.declared.ranges.Register.{Register}
use Rattle.il_ast.specs.declared.value.Callee.TheVariants.{Defined}
use Rattle.asm_layout.proofs.Filling.{filled_length}
use Rattle.asm_layout.proofs.WordRanges.{small_at, word_small}
use Rattle.obj_link.specs.declared.placing.addresses.Addresses.{Addresses}
use Rattle.obj_link.specs.Prelude.{Contents, IsImage, code_start, functions_start, item_size, field_size, object_size, start_words, write_words, exit_words, functions_end, objects_end, objects_start, meaning, name_address, functions_words, code_of, addresses_of, contents_of, FitsBelow, EveryCode, callee_address, cell_byte, in_slots, object_bytes, address_bytes, item_bytes, field_bytes, slot_bytes}
use Rattle.obj_link.proofs.AddressLemmas.{functions_rise, objects_rise}
use Rattle.il_ast.proofs.Measured.{length_bytes}

-- ---- the bytes of a datum are those of its cells

zero_cells : (a : Addresses) (n : ℕ) → map (cell_byte a) (replicate n Blank) ≡ replicate n 0
zero_cells a zero = refl
zero_cells a (suc n) = ap (λ xs. 0 ∷ xs) (zero_cells a n)

plain_zeros : (a : Addresses) (n : ℕ) → map (cell_byte a) (replicate n (Plain 0)) ≡ replicate n 0
plain_zeros a zero = refl
plain_zeros a (suc n) = ap (λ xs. 0 ∷ xs) (plain_zeros a n)

plain_bytes : (a : Addresses) (bs : List ℕ) → map (cell_byte a) (map Plain bs) ≡ bs
plain_bytes a [] = refl
plain_bytes a (b ∷ bs) = ap (λ xs. b ∷ xs) (plain_bytes a bs)

moved_twice : (x n : ℕ) → (x + (0 + n) % 2 ^ 64) % 2 ^ 64 ≡ (x + n) % 2 ^ 64
moved_twice x n = omega arith

target_bytes : (a : Addresses) (t : Option Target) (n : ℕ) → map (cell_byte a) (address_cells (option_map target_value t) n) ≡ address_bytes a t n
target_bytes a None n = zero_cells a 8
target_bytes a (Some (Object k)) n = ap (to_le_bytes w64) (moved_twice (slice_index a.objects k) n)
target_bytes a (Some (Code f)) n = by_test (nat_eq n 0)
  where
    by_test : (b : Bool) → map (cell_byte a) (if b then parts (Function f) else replicate 8 Blank) ≡ (if b then to_le_bytes w64 (callee_address a f) else replicate 8 0)
    by_test true = refl
    by_test false = zero_cells a 8

names_are : (ts : Option (List Target)) (g : ℕ) → slice_get (values_of ts) g ≡ option_map target_value (option_and_then (λ xs. slice_get xs g) ts)
names_are None g = refl
names_are (Some xs) g = slice_get-map target_value xs g

item_is : (a : Addresses) (targets : List (List Target)) (t : ℕ) (size : Size) (i : Item)
    → map (cell_byte a) (item_cells (values_of (slice_get targets t)) size i) ≡ item_bytes a targets t size i
item_is a targets t size (Int n) = plain_bytes a (bytes_of (byte_count size) n)
item_is a targets t size (Bytes bytes) = plain_bytes a bytes
item_is a targets t size (Address g offset) =
    ap (λ (v : Option Value). map (cell_byte a) (address_cells v offset)) (names_are (slice_get targets t) g)
    ∙ target_bytes a (meaning targets t g) offset

items_are : (a : Addresses) (targets : List (List Target)) (t : ℕ) (size : Size) (is : List Item)
    → map (cell_byte a) (flat_map (item_cells (values_of (slice_get targets t)) size) is) ≡ flat_map (item_bytes a targets t size) is
items_are a targets t size [] = refl
items_are a targets t size (i ∷ is) =
    let one = item_is a targets t size i in
    let rest = items_are a targets t size is in
    map-append (cell_byte a) (item_cells (values_of (slice_get targets t)) size i) (flat_map (item_cells (values_of (slice_get targets t)) size) is)
    ∙ ap (λ xs. xs ++ map (cell_byte a) (flat_map (item_cells (values_of (slice_get targets t)) size) is)) one
    ∙ ap (λ xs. item_bytes a targets t size i ++ xs) rest

field_is : (a : Addresses) (targets : List (List Target)) (t : ℕ) (f : Field)
    → map (cell_byte a) (field_cells (values_of (slice_get targets t)) f) ≡ field_bytes a targets t f
field_is a targets t (Items size is) = items_are a targets t size is
field_is a targets t (Zeros n) = plain_zeros a n

fields_are : (a : Addresses) (targets : List (List Target)) (t : ℕ) (fs : List Field)
    → map (cell_byte a) (flat_map (field_cells (values_of (slice_get targets t))) fs) ≡ flat_map (field_bytes a targets t) fs
fields_are a targets t [] = refl
fields_are a targets t (f ∷ fs) =
    map-append (cell_byte a) (field_cells (values_of (slice_get targets t)) f) (flat_map (field_cells (values_of (slice_get targets t))) fs)
    ∙ ap (λ xs. xs ++ map (cell_byte a) (flat_map (field_cells (values_of (slice_get targets t))) fs)) (field_is a targets t f)
    ∙ ap (λ xs. field_bytes a targets t f ++ xs) (fields_are a targets t fs)

pub objects_are : (a : Addresses) (p : Program) (ds : List (InText DataDef)) → flat_map (slot_bytes a p.targets) ds ≡ flat_map (object_bytes a p) ds
objects_are a p [] = refl
objects_are a p (d ∷ ds) =
    ap (λ xs. in_slots xs ++ flat_map (slot_bytes a p.targets) ds) (sym (fields_are a p.targets d.text d.item.fields))
    ∙ ap (λ xs. object_bytes a p d ++ xs) (objects_are a p ds)

-- ---- sizes of data

address_count : (a : Addresses) (t : Option Target) (n : ℕ) → length (address_bytes a t n) ≡ 8
address_count a None n = refl
address_count a (Some (Object k)) n = refl
address_count a (Some (Code f)) n = by_test (nat_eq n 0)
  where
    by_test : (b : Bool) → length (if b then to_le_bytes w64 (callee_address a f) else replicate 8 0) ≡ 8
    by_test true = refl
    by_test false = refl

item_count : (a : Addresses) (targets : List (List Target)) (t : ℕ) (size : Size) (i : Item) → length (item_bytes a targets t size i) ≡ item_size size i
item_count a targets t size (Int n) = length_bytes (byte_count size) n
item_count a targets t size (Bytes bytes) = refl
item_count a targets t size (Address g offset) = address_count a (meaning targets t g) offset

flat_count : {X : Type 0} (f : X → List ℕ) (g : X → ℕ) → ((x : X) → length (f x) ≡ g x) → (xs : List X) → length (flat_map f xs) ≡ sum_by g xs
flat_count f g each [] = refl
flat_count f g each (x ∷ xs) =
    let sum = length-append (f x) (flat_map f xs) in
    let one = each x in
    let rest = flat_count f g each xs in
    let whole = sum_by-cons g x xs in
    omega arith

field_count : (a : Addresses) (targets : List (List Target)) (t : ℕ) (f : Field) → length (field_bytes a targets t f) ≡ field_size f
field_count a targets t (Items size is) = flat_count (item_bytes a targets t size) (item_size size) (item_count a targets t size) is
field_count a targets t (Zeros n) = length-replicate n 0

pub slots_count : (xs : List ℕ) → length (in_slots xs) ≡ round_16 (length xs)
unfolding in_slots
slots_count xs =
    let sum = length-append xs (replicate (round_16 (length xs) - length xs) 0) in
    let zeros : length (replicate {A = ℕ} (round_16 (length xs) - length xs) 0) ≡ round_16 (length xs) - length xs =
    length-replicate (round_16 (length xs) - length xs) 0 in
    omega arith

slot_count : (a : Addresses) (targets : List (List Target)) (d : InText DataDef) → length (slot_bytes a targets d) ≡ round_16 (object_size d.item)
slot_count a targets d =
    slots_count (flat_map (field_bytes a targets d.text) d.item.fields)
    ∙ ap round_16 (flat_count (field_bytes a targets d.text) field_size (field_count a targets d.text) d.item.fields)

record DataEnd (a : Addresses) (targets : List (List Target)) (at : ℕ) (ds : List (InText DataDef)) : Type 0 where
  end : at + length (flat_map (slot_bytes a targets) ds) ≡ objects_end at ds
  whole : length (flat_map (slot_bytes a targets) ds) % 16 ≡ 0

data_end : (a : Addresses) (targets : List (List Target)) (at : ℕ) (ds : List (InText DataDef)) → DataEnd a targets at ds
data_end a targets at [] = record { end = omega arith; whole = refl }
data_end a targets at (d ∷ ds) =
    let rest = data_end a targets (at + round_16 (object_size d.item)) ds in
    let end = rest.end in
    let whole = rest.whole in
    let one = slot_count a targets d in
    let sum = length-append (slot_bytes a targets d) (flat_map (slot_bytes a targets) ds) in
    record { end = omega arith; whole = omega arith }

-- ---- sizes of code

pub functions_count : (a : Addresses) (targets : List (List Target)) (at : ℕ) (codes : List Words) (fs : List (InText Func)) → length codes ≡ length fs
    → at + 4 * length (functions_words a targets at codes fs) ≡ functions_end at codes
functions_count a targets at [] fs same = omega arith
functions_count a targets at (c ∷ codes) [] same = absurd (omega arith)
functions_count a targets at (c ∷ codes) (f ∷ fs) same =
    let mine : List ℕ = filled at (name_address a targets f.text) c.words c.holes in
    let size = filled_length at (name_address a targets f.text) c.words c.holes in
    let sum = length-append mine (functions_words a targets (at + 4 * length c.words) codes fs) in
    let rest = functions_count a targets (at + 4 * length c.words) codes fs (omega arith) in
    omega arith

code_count : (a : Addresses) (p : Program) (codes : List Words) → length (code_of a p codes) ≡ 12 + length (functions_words a p.targets functions_start codes p.functions)
code_count a p codes = omega arith

pub record Ends (p : Program) (codes : List Words) : Type 0 where
  pub functions : functions_end functions_start codes < 2 ^ 32
  pub above : code_start ≤ functions_end functions_start codes
  pub start : objects_start codes < 2 ^ 32
  pub objects : objects_end (objects_start codes) p.objects < 2 ^ 32

pub ends : (p : Program) (codes : List Words) → FitsBelow p codes → Ends p codes
ends p codes fits =
    let rise = functions_rise functions_start codes in
    let more = objects_rise (objects_start codes) p.objects in
    record { functions = omega arith; above = omega arith; start = omega arith; objects = omega arith }

-- ---- words of 32 bits

abbrev x5 : Register
x5 = record { number = 5; in_range = lit< tt }

abbrev Wide : List ℕ → Type 0
Wide ws = (k : ℕ) → slice_index ws k < 2 ^ 32

wide_both : (xs ys : List ℕ) → Wide xs → Wide ys → Wide (xs ++ ys)
wide_both [] ys h k n = k n
wide_both (x ∷ xs) ys h k zero = h zero
wide_both (x ∷ xs) ys h k (suc n) = wide_both xs ys (λ m. h (suc m)) k n

wide_set : (ws : List ℕ) (at w : ℕ) → Wide ws → w < 2 ^ 32 → Wide (slice_set ws at w)
wide_set [] at w h small n = h n
wide_set (x ∷ ws) zero w h small zero = small
wide_set (x ∷ ws) zero w h small (suc n) = h (suc n)
wide_set (x ∷ ws) (suc at) w h small zero = h zero
wide_set (x ∷ ws) (suc at) w h small (suc n) = wide_set ws at w (λ m. h (suc m)) small n

wide_filled : (at : ℕ) (global : ℕ → ℕ) (ws : List ℕ) (hs : List Hole) → Wide ws → Wide (filled at global ws hs)
wide_filled at global ws [] h = h
wide_filled at global ws (x ∷ hs) h =
    let i : Instr = filled_in x.filling (at + 4 * x.word) (global (named x.filling)) in
    wide_filled at global (slice_set ws x.word (word i)) hs (wide_set ws x.word (word i) h (word_small i))

functions_wide : (a : Addresses) (targets : List (List Target)) (at : ℕ) (codes : List Words) (fs : List (InText Func)) → EveryCode codes
    → Wide (functions_words a targets at codes fs)
functions_wide a targets at [] fs every = λ n. lit< tt
functions_wide a targets at (c ∷ codes) [] every = λ n. lit< tt
functions_wide a targets at (c ∷ codes) (f ∷ fs) every =
    wide_both (filled at (name_address a targets f.text) c.words c.holes) (functions_words a targets (at + 4 * length c.words) codes fs)
    (wide_filled at (name_address a targets f.text) c.words c.holes every.0.words) (functions_wide a targets (at + 4 * length c.words) codes fs every.1)

start_wide : (main : ℕ) → Wide (start_words main)
start_wide main =
    let upper = word_small (Lui x5 (upper_part main)) in
    let lower = word_small (Addiw x5 x5 (lower_part main)) in
    small_at (start_words main) (lit< tt, (lit< tt, (upper, (lower, (lit< tt, (lit< tt, (lit< tt, tt)))))))

natives_wide : Wide (write_words ++ exit_words)
natives_wide = small_at (write_words ++ exit_words) (lit< tt, (lit< tt, (lit< tt, (lit< tt, (lit< tt, tt)))))

code_wide : (a : Addresses) (p : Program) (codes : List Words) → EveryCode codes → Wide (code_of a p codes)
code_wide a p codes every =
    let fs : List ℕ = functions_words a p.targets functions_start codes p.functions in
    wide_both (start_words (callee_address a (Defined p.main))) (write_words ++ exit_words ++ fs)
    (start_wide (callee_address a (Defined p.main)))
    (wide_both (write_words ++ exit_words) fs natives_wide (functions_wide a p.targets functions_start codes p.functions every))

-- ---- the image

pub is_image : (p : Program) (codes : List Words) → EveryCode codes → length codes ≡ length p.functions → FitsBelow p codes
    → IsImage (record { code = code_of (addresses_of p codes) p codes; data_bytes = flat_map (slot_bytes (addresses_of p codes) p.targets) p.objects })
is_image p codes every same fits =
    let a : Addresses = addresses_of p codes in
    let count = code_count a p codes in
    let functions = functions_count a p.targets functions_start codes p.functions same in
    let data_end_is = data_end a p.targets (objects_start codes) p.objects in
    let end = data_end_is.end in
    let whole = data_end_is.whole in
    record {
      has_code = omega arith;
      words = code_wide a p codes every;
      whole_slots = whole;
      below_stack = omega arith;
    }

abbrev pub with_parts : (code data_bytes : List ℕ) → Contents
with_parts code data_bytes = record { code = code; data_bytes = data_bytes }

made : (p : Program) (codes : List Words) (a : Addresses) (ws bs : List ℕ) → a ≡ addresses_of p codes → ws ≡ code_of a p codes
    → bs ≡ flat_map (slot_bytes a p.targets) p.objects
    → with_parts ws bs ≡ with_parts (code_of (addresses_of p codes) p codes) (flat_map (slot_bytes (addresses_of p codes) p.targets) p.objects)
made p codes a ws bs is words data_is =
    ap (λ xs. with_parts xs bs) words
    ∙ ap (with_parts (code_of a p codes)) data_is
    ∙ ap (λ (x : Addresses). with_parts (code_of x p codes) (flat_map (slot_bytes x p.targets) p.objects)) is

pub image_made : (p : Program) (codes : List Words) (a : Addresses) (ws bs : List ℕ) → EveryCode codes → length codes ≡ length p.functions → FitsBelow p codes
    → a ≡ addresses_of p codes → ws ≡ code_of a p codes → bs ≡ flat_map (slot_bytes a p.targets) p.objects
    → IsImage (with_parts ws bs)
image_made p codes a ws bs every same fits is words data_is =
    subst (λ (x : Contents). IsImage x) (sym (made p codes a ws bs is words data_is)) (is_image p codes every same fits)

pub contents_made : (p : Program) (codes : List Words) (a : Addresses) (ws bs : List ℕ)
    → a ≡ addresses_of p codes → ws ≡ code_of a p codes → bs ≡ flat_map (slot_bytes a p.targets) p.objects
    → with_parts ws bs ≡ contents_of p codes
contents_made p codes a ws bs is words data_is =
    made p codes a ws bs is words data_is ∙ ap (with_parts (code_of (addresses_of p codes) p codes)) (objects_are (addresses_of p codes) p p.objects)
