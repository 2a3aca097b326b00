-- The data of a placed program stands in its executable, and its functions have addresses of their own.
use Rattle.std.proofs.Common.{◌≡◌, ℕ, zero, suc, ◌+◌, ◌-◌, ◌*◌, ◌%◌, ◌^◌, ◌<◌, ◌≤◌, Bool, true, false, nat_eq, List, [], ◌∷◌, ◌++◌, length, map, replicate, refl, sym, ◌∙◌, ap, subst, arith, lit<, append_assoc, if◌then◌else◌, slice_get, slice_index, Option, Some, None, option_map, flat_map, sum_by}
use Rattle.std.proofs.lemmas.List.{length-append, length-map, length-replicate}
use Rattle.std.proofs.lemmas.List.Sums.{sum_by-cons}
use Rattle.std.proofs.lemmas.Option.{slice_get-get_or, slice_get-map, slice_get_within, same_Some}
use Rattle.il_ast.specs.declared.datum.DataDef.{DataDef}
use Rattle.il_ast.specs.declared.datum.Field.{Field}
use Rattle.il_ast.specs.declared.datum.Field.TheVariants.{Items, Zeros}
use Rattle.il_ast.specs.declared.datum.Item.{Item}
use Rattle.il_ast.specs.declared.datum.Item.TheVariants.{Int, Bytes, Address}
use Rattle.il_ast.specs.declared.operation.Size.{Size}
use Rattle.il_ast.specs.declared.function.Func.{Func}
use Rattle.il_ast.specs.declared.program.InText.{InText}
use Rattle.il_ast.specs.declared.program.Program.{Program}
use Rattle.il_ast.specs.declared.program.Target.{Target}
use Rattle.il_ast.specs.declared.program.Target.TheVariants.{Code, Object}
use Rattle.il_ast.specs.declared.value.Callee.{Callee}
use Rattle.il_ast.specs.declared.value.Callee.TheVariants.{Defined, SystemWrite, SystemExit}
use Rattle.il_ast.specs.declared.value.Cell.{Cell}
use Rattle.il_ast.specs.declared.value.Cell.TheVariants.{Plain, Part, Blank}
use Rattle.il_ast.specs.declared.value.Value.{Value}
use Rattle.il_ast.specs.declared.value.Value.TheVariants.{Integer, Pointer, Function}
use Rattle.il_ast.specs.Prelude.{bytes_of, byte_count, round_16, parts, target_value, values_of, globals_of, address_cells, item_cells, field_cells, object_cells}
use Rattle.rv_isa.specs.Prelude.{Words, filled, all_reach, WordsStand, State}
use Rattle.std.proofs.lemmas.Bool.{and_parts}
use Rattle.asm_layout.proofs.Filling.{filled_length}
use Rattle.obj_link.specs.declared.placing.addresses.Addresses.{Addresses}
use Rattle.obj_link.specs.Prelude.{IsImage, code_start, image_end, round_to_page, data_start, functions_start, write_address, exit_address, item_size, field_size, object_size, start_words, write_words, exit_words, function_addresses, functions_end, objects_end, objects_start, addresses_of, name_address, functions_words, functions_reach, contents_of, FitsBelow, EveryCode, object_addresses, callee_address, value_number, cell_byte, in_slots, object_bytes, IsThere}
use Rattle.obj_link.proofs.AddressLemmas.{objects_rise, functions_rise}
use Rattle.obj_link.proofs.ThereLemmas.{what_names_mean}
use Rattle.elf_file.specs.declared.flags.Flags.TheVariants.{ReadWrite}
use Rattle.elf_file.specs.Conditions.{Executable, byte_in, flags_in, Stands}
use Rattle.rv_machine.specs.Starts.{Starts}
use Rattle.flat_code.specs.Flat.{Bases, AreEntries}
use Rattle.headline.specs.Executables.{CellStands, CellsStand, BlocksStand, DataStands, entries_of, places_of, NamesAreThere, ProgramsHaveNames, PlacedStands}
use Rattle.headline.proofs.PlacedWords.{ground_of, words_stand}
use Rattle.il_ast.proofs.Measured.{length_bytes}
use Rattle.obj_link.proofs.ImageLemmas.{slots_count}

-- ---- addresses of functions

address_least : (at : ℕ) (codes : List Words) (k x : ℕ) → slice_get (function_addresses at codes) k ≡ Some x → at ≤ x
address_least at [] k x h = absurd (let no : ⊥ = cc in no)
address_least at (c ∷ codes) zero x h = let same : at ≡ x = cc in omega (arith, same)
address_least at (c ∷ codes) (suc k) x h = let rest = address_least (at + 4 * length c.words) codes k x h in omega (arith, rest)

pub address_most : (at : ℕ) (codes : List Words) (k x : ℕ) → slice_get (function_addresses at codes) k ≡ Some x → x ≤ functions_end at codes
address_most at [] k x h = absurd (let no : ⊥ = cc in no)
address_most at (c ∷ codes) zero x h = let same : at ≡ x = cc in let rest = functions_rise (at + 4 * length c.words) codes in omega (arith, same, rest)
address_most at (c ∷ codes) (suc k) x h = address_most (at + 4 * length c.words) codes k x h

pub address_aligned : (at : ℕ) (codes : List Words) → at % 4 ≡ 0 → (k x : ℕ) → slice_get (function_addresses at codes) k ≡ Some x → x % 4 ≡ 0
address_aligned at [] a k x h = absurd (let no : ⊥ = cc in no)
address_aligned at (c ∷ codes) a zero x h = let same : at ≡ x = cc in subst (λ n. n % 4 ≡ 0) same a
address_aligned at (c ∷ codes) a (suc k) x h = address_aligned (at + 4 * length c.words) codes (omega (arith, a)) k x h

address_own : (at : ℕ) (codes : List Words) → EveryCode codes → (k m x : ℕ) → slice_get (function_addresses at codes) k ≡ Some x → slice_get (function_addresses at codes) m ≡ Some x → k ≡ m
address_own at [] every k m x h j = absurd (let no : ⊥ = cc in no)
address_own at (c ∷ codes) every zero zero x h j = refl
address_own at (c ∷ codes) every zero (suc m) x h j =
    let same : at ≡ x = cc in
    let later = address_least (at + 4 * length c.words) codes m x j in
    let some = every.0.has_words in
    absurd (omega (arith, same, later, some))
address_own at (c ∷ codes) every (suc k) zero x h j =
    let same : at ≡ x = cc in
    let later = address_least (at + 4 * length c.words) codes k x h in
    let some = every.0.has_words in
    absurd (omega (arith, same, later, some))
address_own at (c ∷ codes) every (suc k) (suc m) x h j = ap suc (address_own (at + 4 * length c.words) codes every.1 k m x h j)

length_addresses : (at : ℕ) (codes : List Words) → length (function_addresses at codes) ≡ length codes
length_addresses at [] = refl
length_addresses at (c ∷ codes) = ap suc (length_addresses (at + 4 * length c.words) codes)

-- ---- sizes

pub record Bounds (p : Program) (codes : List Words) : Type 0 where
  pub functions : functions_end functions_start codes ≤ objects_start codes
  pub objects : objects_start codes ≤ objects_end (objects_start codes) p.objects
  pub end : objects_end (objects_start codes) p.objects ≤ image_end

pub bounds : (p : Program) (codes : List Words) → FitsBelow p codes → Bounds p codes
bounds p codes fits =
    record { functions = let h = functions_rise functions_start codes in omega (arith, h); objects = objects_rise (objects_start codes) p.objects; end = fits }

pub are_entries : (p : Program) (codes : List Words) → EveryCode codes → FitsBelow p codes → AreEntries (entries_of p codes)
are_entries p codes every fits = record { distinct = distinct; small = small }
  where
    natives : (k a : ℕ) → slice_get (function_addresses functions_start codes) k ≡ Some a → a < functions_start → ⊥
    natives k a h lt = let least = address_least functions_start codes k a h in omega (arith, least, lt)

    distinct : (f g : Callee) (a : ℕ) → entries_of p codes f ≡ Some a → entries_of p codes g ≡ Some a → f ≡ g
    distinct (Defined k) (Defined m) a h j = ap Defined (address_own functions_start codes every k m a h j)
    distinct (Defined k) SystemWrite a h j = let same = same_Some write_address a j in absurd (natives k a h (omega (arith, same)))
    distinct (Defined k) SystemExit a h j = let same = same_Some exit_address a j in absurd (natives k a h (omega (arith, same)))
    distinct SystemWrite (Defined m) a h j = let same = same_Some write_address a h in absurd (natives m a j (omega (arith, same)))
    distinct SystemWrite SystemWrite a h j = refl
    distinct SystemWrite SystemExit a h j = let one = same_Some write_address a h in let two = same_Some exit_address a j in absurd (omega (arith, one, two))
    distinct SystemExit (Defined m) a h j = let same = same_Some exit_address a h in absurd (natives m a j (omega (arith, same)))
    distinct SystemExit SystemWrite a h j = let one = same_Some exit_address a h in let two = same_Some write_address a j in absurd (omega (arith, one, two))
    distinct SystemExit SystemExit a h j = refl

    small : (f : Callee) (a : ℕ) → entries_of p codes f ≡ Some a → a < 2 ^ 64
    small (Defined k) a h =
        let b = bounds p codes fits in
        let most = address_most functions_start codes k a h in
        let one = b.functions in
        let two = b.objects in
        let three = b.end in
        omega (arith, most, one, two, three)
    small SystemWrite a h = let same = same_Some write_address a h in omega (arith, same)
    small SystemExit a h = let same = same_Some exit_address a h in omega (arith, same)

pub entries_aligned : (p : Program) (codes : List Words) (f : Callee) (a : ℕ) → entries_of p codes f ≡ Some a → a % 4 ≡ 0
entries_aligned p codes (Defined k) a h = address_aligned functions_start codes refl k a h
entries_aligned p codes SystemWrite a h = subst (λ n. n % 4 ≡ 0) (same_Some write_address a h) refl
entries_aligned p codes SystemExit a h = subst (λ n. n % 4 ≡ 0) (same_Some exit_address a h) refl

-- ---- a function's words among the code

record FoundIn (words mid : List ℕ) (at x : ℕ) : Type 0 where
  pre : List ℕ
  post : List ℕ
  is : words ≡ pre ++ (mid ++ post)
  place : x ≡ at + 4 * length pre

found_words : (a : Addresses) (targets : List (List Target)) (codes : List Words) (fs : List (InText Func)) (at k x : ℕ) (c : Words) (f : InText Func) → slice_get codes k ≡ Some c → slice_get fs k ≡ Some f → slice_get (function_addresses at codes) k ≡ Some x
    → FoundIn (functions_words a targets at codes fs) (filled x (name_address a targets f.text) c.words c.holes) at x
found_words a targets [] fs at k x c f hc hf hx = absurd (let no : ⊥ = cc in no)
found_words a targets (d ∷ codes) [] at k x c f hc hf hx = absurd (let no : ⊥ = cc in no)
found_words a targets (d ∷ codes) (g ∷ fs) at zero x c f hc hf hx =
    let code : d ≡ c = cc in
    let func : g ≡ f = cc in
    let same : at ≡ x = cc in
    let post : List ℕ = functions_words a targets (at + 4 * length d.words) codes fs in
    record {
      pre = [];
      post = post;
      is = ap (λ (e : Words). filled at (name_address a targets g.text) e.words e.holes ++ post) code
          ∙ ap (λ (e : InText Func). filled at (name_address a targets e.text) c.words c.holes ++ post) func
          ∙ ap (λ n. filled n (name_address a targets f.text) c.words c.holes ++ post) same;
      place = omega (arith, same);
    }
found_words a targets (d ∷ codes) (g ∷ fs) at (suc k) x c f hc hf hx =
    let own = filled at (name_address a targets g.text) d.words d.holes in
    let mid = filled x (name_address a targets f.text) c.words c.holes in
    let rest = found_words a targets codes fs (at + 4 * length d.words) k x c f hc hf hx in
    let long : length own ≡ length d.words = filled_length at (name_address a targets g.text) d.words d.holes in
    let both : length (own ++ rest.pre) ≡ length own + length rest.pre = length-append own rest.pre in
    let place = rest.place in
    record {
      pre = own ++ rest.pre;
      post = rest.post;
      is = ap (λ l. own ++ l) rest.is ∙ sym (append_assoc own rest.pre (mid ++ rest.post));
      place = omega (arith, long, both, place);
    }

-- so do its calls reach what they go to
pub found_reach : (a : Addresses) (targets : List (List Target)) (codes : List Words) (fs : List (InText Func)) (at k x : ℕ) (c : Words) (f : InText Func) → functions_reach a targets at codes fs ≡ true → slice_get codes k ≡ Some c → slice_get fs k ≡ Some f
    → slice_get (function_addresses at codes) k ≡ Some x → all_reach x (name_address a targets f.text) c.holes ≡ true
found_reach a targets [] fs at k x c f reach hc hf hx = absurd (let no : ⊥ = cc in no)
found_reach a targets (d ∷ codes) [] at k x c f reach hc hf hx = absurd (let no : ⊥ = cc in no)
found_reach a targets (d ∷ codes) (g ∷ fs) at zero x c f reach hc hf hx =
    let code : d ≡ c = cc in
    let func : g ≡ f = cc in
    let same : at ≡ x = cc in
    let mine = (and_parts (all_reach at (name_address a targets g.text) d.holes) (functions_reach a targets (at + 4 * length d.words) codes fs) reach).0 in
    subst (λ n. all_reach n (name_address a targets f.text) c.holes ≡ true) same
    (subst (λ (e : InText Func). all_reach at (name_address a targets e.text) c.holes ≡ true) func
    (subst (λ (e : Words). all_reach at (name_address a targets g.text) e.holes ≡ true) code mine))
found_reach a targets (d ∷ codes) (g ∷ fs) at (suc k) x c f reach hc hf hx =
    found_reach a targets codes fs (at + 4 * length d.words) k x c f
    (and_parts (all_reach at (name_address a targets g.text) d.holes) (functions_reach a targets (at + 4 * length d.words) codes fs) reach).1 hc hf hx

abbrev first_words : Program → List Words → List ℕ
first_words p codes = start_words (callee_address (addresses_of p codes) (Defined p.main)) ++ write_words ++ exit_words

pub function_stands : (p : Program) (codes : List Words) (x : Executable) (words : List (List ℕ)) (s : State) → IsImage (contents_of p codes) → Stands (contents_of p codes) x → Starts x words s
    → (k at : ℕ) (c : Words) (f : InText Func) → slice_get codes k ≡ Some c → slice_get p.functions k ≡ Some f → entries_of p codes (Defined k) ≡ Some at
    → WordsStand (ground_of s) at (filled at (name_address (addresses_of p codes) p.targets f.text) c.words c.holes)
function_stands p codes x words s good stands starts k at c f hc hf hat =
    let a = addresses_of p codes in
    let mid = filled at (name_address a p.targets f.text) c.words c.holes in
    let found = found_words a p.targets codes p.functions functions_start k at c f hc hf hat in
    let whole : (contents_of p codes).code ≡ (first_words p codes ++ found.pre) ++ (mid ++ found.post) =
    ap (λ l. first_words p codes ++ l) found.is ∙ sym (append_assoc (first_words p codes) found.pre (mid ++ found.post)) in
    let stand = words_stand (contents_of p codes) x words s good stands starts (first_words p codes ++ found.pre) mid found.post whole in
    let long : length (first_words p codes ++ found.pre) ≡ 12 + length found.pre = length-append (first_words p codes) found.pre in
    let place = found.place in
    let here : code_start + 4 * length (first_words p codes ++ found.pre) ≡ at = omega (arith, long, place) in
    subst (λ n. WordsStand (ground_of s) n mid) here stand

-- ---- bytes in the file

abbrev BytesStand : (ℕ → Option ℕ) → List ℕ → ℕ → Type 0
BytesStand byte [] at = Unit {0}
BytesStand byte (b ∷ bs) at = (byte at ≡ Some b) × BytesStand byte bs (at + 1)

bytes_from : (byte : ℕ → Option ℕ) (bs : List ℕ) (at : ℕ) → ((k : ℕ) → k < length bs → byte (at + k) ≡ Some (slice_index bs k)) → BytesStand byte bs at
bytes_from byte [] at h = tt
bytes_from byte (b ∷ bs) at h = (
  let here : at ≡ at + 0 = omega arith in ap byte here ∙ h 0 (omega arith),
  bytes_from byte bs (at + 1) (λ k lt. let here : at + 1 + k ≡ at + suc k = omega arith in ap byte here ∙ h (suc k) (omega (arith, lt))),
)

record Split (byte : ℕ → Option ℕ) (xs ys : List ℕ) (at : ℕ) : Type 0 where
  first : BytesStand byte xs at
  second : BytesStand byte ys (at + length xs)

bytes_split : (byte : ℕ → Option ℕ) (xs ys : List ℕ) (at : ℕ) → BytesStand byte (xs ++ ys) at → Split byte xs ys at
bytes_split byte [] ys at h = record { first = tt; second = let here : at ≡ at + 0 = omega arith in subst (BytesStand byte ys) here h }
bytes_split byte (x ∷ xs) ys at h =
    let rest = bytes_split byte xs ys (at + 1) h.1 in
    let here : at + 1 + length xs ≡ at + length (x ∷ xs) = omega arith in
    record { first = (h.0, rest.first); second = subst (BytesStand byte ys) here rest.second }

-- ---- cells whose values are there

abbrev ValueThere : (functions objects : ℕ) → Value → Type 0
ValueThere functions objects (Integer n) = ⊥
ValueThere functions objects (Pointer b o) = b < objects
ValueThere functions objects (Function (Defined k)) = k < functions
ValueThere functions objects (Function SystemWrite) = Unit {0}
ValueThere functions objects (Function SystemExit) = Unit {0}

abbrev CellThere : (functions objects : ℕ) → Cell → Type 0
CellThere functions objects (Plain b) = Unit {0}
CellThere functions objects (Part v k) = ValueThere functions objects v
CellThere functions objects Blank = Unit {0}

abbrev AllThere : (functions objects : ℕ) → List Cell → Type 0
AllThere functions objects [] = Unit {0}
AllThere functions objects (c ∷ cells) = CellThere functions objects c × AllThere functions objects cells

there_both : (n m : ℕ) (xs ys : List Cell) → AllThere n m xs → AllThere n m ys → AllThere n m (xs ++ ys)
there_both n m [] ys h k = k
there_both n m (x ∷ xs) ys h k = (h.0, there_both n m xs ys h.1 k)

plain_there : (n m : ℕ) (bs : List ℕ) → AllThere n m (map Plain bs)
plain_there n m [] = tt
plain_there n m (b ∷ bs) = (tt, plain_there n m bs)

blank_there : (n m k : ℕ) → AllThere n m (replicate k Blank)
blank_there n m zero = tt
blank_there n m (suc k) = (tt, blank_there n m k)

zeros_there : (n m k : ℕ) → AllThere n m (replicate k (Plain 0))
zeros_there n m zero = tt
zeros_there n m (suc k) = (tt, zeros_there n m k)

parts_there : (n m : ℕ) (v : Value) → ValueThere n m v → AllThere n m (parts v)
parts_there n m v h = (h, (h, (h, (h, (h, (h, (h, (h, tt))))))))

target_there : (n m : ℕ) (t : Target) → IsThere n m t → ValueThere n m (target_value t)
target_there n m (Code (Defined k)) h = h
target_there n m (Code SystemWrite) h = tt
target_there n m (Code SystemExit) h = tt
target_there n m (Object k) h = h

-- all that names of a program of texts mean is there
pub programs_have_names : ProgramsHaveNames
programs_have_names texts p is =
    let has = what_names_mean texts p is in
    record { targets = has.targets; main = slice_get_within p.functions p.main has.main.0 has.main.1 }

-- what the global names of a text are worth is there
abbrev NamesThere : (n m : ℕ) → List Value → Type 0
NamesThere n m globals = (g : ℕ) (v : Value) → slice_get globals g ≡ Some v → ValueThere n m v

address_there : (n m : ℕ) (o : Option Value) (offset : ℕ) → ((v : Value) → o ≡ Some v → ValueThere n m v) → AllThere n m (address_cells o offset)
address_there n m None offset h = blank_there n m 8
address_there n m (Some (Integer k)) offset h = blank_there n m 8
address_there n m (Some (Pointer b o)) offset h = parts_there n m (Pointer b ((o + offset) % 2 ^ 64)) (h (Pointer b o) refl)
address_there n m (Some (Function f)) offset h = by (nat_eq offset 0)
  where
    by : (t : Bool) → AllThere n m (if t then parts (Function f) else replicate 8 Blank)
    by true = parts_there n m (Function f) (h (Function f) refl)
    by false = blank_there n m 8

item_there : (n m : ℕ) (globals : List Value) → NamesThere n m globals → (size : Size) (i : Item) → AllThere n m (item_cells globals size i)
item_there n m globals h size (Int k) = plain_there n m (bytes_of (byte_count size) k)
item_there n m globals h size (Bytes bytes) = plain_there n m bytes
item_there n m globals h size (Address g offset) = address_there n m (slice_get globals g) offset (h g)

items_there : (n m : ℕ) (globals : List Value) → NamesThere n m globals → (size : Size) (is : List Item) → AllThere n m (flat_map (item_cells globals size) is)
items_there n m globals h size [] = tt
items_there n m globals h size (i ∷ is) = there_both n m (item_cells globals size i) (flat_map (item_cells globals size) is) (item_there n m globals h size i) (items_there n m globals h size is)

field_there : (n m : ℕ) (globals : List Value) → NamesThere n m globals → (f : Field) → AllThere n m (field_cells globals f)
field_there n m globals h (Items size is) = items_there n m globals h size is
field_there n m globals h (Zeros k) = zeros_there n m k

fields_there : (n m : ℕ) (globals : List Value) → NamesThere n m globals → (fs : List Field) → AllThere n m (flat_map (field_cells globals) fs)
fields_there n m globals h [] = tt
fields_there n m globals h (f ∷ fs) = there_both n m (field_cells globals f) (flat_map (field_cells globals) fs) (field_there n m globals h f) (fields_there n m globals h fs)

names_there : (p : Program) → NamesAreThere p → (t : ℕ) → NamesThere (length p.functions) (length p.objects) (globals_of p t)
names_there p has t g v h = by (slice_get p.targets t) refl h
  where
    inner : (targets : List Target) → slice_get p.targets t ≡ Some targets → (o : Option Target) → slice_get targets g ≡ o → option_map target_value o ≡ Some v → ValueThere (length p.functions) (length p.objects) v
    inner targets is None at e = absurd (let no : ⊥ = cc in no)
    inner targets is (Some target) at e =
        let same : target_value target ≡ v = cc in
        subst (ValueThere (length p.functions) (length p.objects)) same (target_there (length p.functions) (length p.objects) target (has.targets t g targets target is at))

    by : (o : Option (List Target)) → slice_get p.targets t ≡ o → slice_get (values_of o) g ≡ Some v → ValueThere (length p.functions) (length p.objects) v
    by None is e = absurd (let no : ⊥ = cc in no)
    by (Some targets) is e = inner targets is (slice_get targets g) refl (sym (slice_get-map target_value targets g) ∙ e)

-- ---- sizes of data

address_size : (o : Option Value) (offset : ℕ) → length (address_cells o offset) ≡ 8
address_size None offset = refl
address_size (Some (Integer k)) offset = refl
address_size (Some (Pointer b o)) offset = refl
address_size (Some (Function f)) offset = by (nat_eq offset 0)
  where
    by : (t : Bool) → length (if t then parts (Function f) else replicate 8 Blank) ≡ 8
    by true = refl
    by false = refl

item_long : (globals : List Value) (size : Size) (i : Item) → length (item_cells globals size i) ≡ item_size size i
item_long globals size (Int k) = length-map (bytes_of (byte_count size) k) Plain ∙ length_bytes (byte_count size) k
item_long globals size (Bytes bytes) = length-map bytes Plain
item_long globals size (Address g offset) = address_size (slice_get globals g) offset

all_long : {A : Type 0} (f : A → List Cell) (size : A → ℕ) → ((x : A) → length (f x) ≡ size x) → (xs : List A) → length (flat_map f xs) ≡ sum_by size xs
all_long f size each [] = refl
all_long f size each (x ∷ xs) =
    let one = each x in
    let rest = all_long f size each xs in
    let both = length-append (f x) (flat_map f xs) in
    let sum = sum_by-cons size x xs in
    omega (arith, one, rest, both, sum)

field_long : (globals : List Value) (f : Field) → length (field_cells globals f) ≡ field_size f
field_long globals (Items size is) = all_long (item_cells globals size) (item_size size) (item_long globals size) is
field_long globals (Zeros k) = length-replicate k (Plain 0)

object_long : (p : Program) (d : InText DataDef) → length (object_cells p d) ≡ object_size d.item
object_long p d = all_long (field_cells (globals_of p d.text)) field_size (field_long (globals_of p d.text)) d.item.fields

slot_starts : (byte : ℕ → Option ℕ) (bs : List ℕ) (at : ℕ) → BytesStand byte (in_slots bs) at → BytesStand byte bs at
unfolding in_slots
slot_starts byte bs at h = (bytes_split byte bs (replicate (round_16 (length bs) - length bs) 0) at h).first

-- ---- cells in the file

pub record Worth (p : Program) (codes : List Words) : Type 0 where
  pub functions : (k : ℕ) → k < length p.functions → entries_of p codes (Defined k) ≡ Some (slice_index (addresses_of p codes).functions k)
  pub objects : (k : ℕ) → k < length p.objects → slice_get (addresses_of p codes).objects k ≡ Some (slice_index (addresses_of p codes).objects k)
  pub entries : AreEntries (entries_of p codes)

abbrev pub bases_of : Program → List Words → Bases
bases_of p codes b = slice_get (addresses_of p codes).objects b

cell_stands : (p : Program) (codes : List Words) → Worth p codes → (found : Option ℕ) (c : Cell) → CellThere (length p.functions) (length p.objects) c → found ≡ Some (cell_byte (addresses_of p codes) c) → CellStands (entries_of p codes) (bases_of p codes) found c
cell_stands p codes w found (Plain b) h is = is
cell_stands p codes w found (Part (Integer n) k) h is = absurd h
cell_stands p codes w found (Part (Pointer b o) k) h is =
    (value_number (addresses_of p codes) (Pointer b o), (slice_index (addresses_of p codes).objects b, w.objects b h, refl), (omega arith), is)
cell_stands p codes w found (Part (Function (Defined f)) k) h is =
    (callee_address (addresses_of p codes) (Defined f), w.functions f h, w.entries.small (Defined f) _ (w.functions f h), is)
cell_stands p codes w found (Part (Function SystemWrite) k) h is = (write_address, refl, lit< tt, is)
cell_stands p codes w found (Part (Function SystemExit) k) h is = (exit_address, refl, lit< tt, is)
cell_stands p codes w found Blank h is = tt

cells_stand : (p : Program) (codes : List Words) → Worth p codes → (byte : ℕ → Option ℕ) (cells : List Cell) (at : ℕ) → AllThere (length p.functions) (length p.objects) cells → BytesStand byte (map (cell_byte (addresses_of p codes)) cells) at → CellsStand (entries_of p codes) (bases_of p codes) byte cells at
cells_stand p codes w byte [] at h b = tt
cells_stand p codes w byte (c ∷ cells) at h b = (cell_stands p codes w (byte at) c h.0 b.0, cells_stand p codes w byte cells (at + 1) h.1 b.1)

-- ---- all data

objects_stand : (p : Program) (codes : List Words) → NamesAreThere p → Worth p codes → (byte : ℕ → Option ℕ) (high : ℕ) (ds : List (InText DataDef)) (from at : ℕ) → from ≤ at
    → BytesStand byte (flat_map (object_bytes (addresses_of p codes) p) ds) at → at + length (flat_map (object_bytes (addresses_of p codes) p) ds) ≤ high
    → BlocksStand (entries_of p codes) (bases_of p codes) byte from high (map (object_cells p) ds) (object_addresses at ds)
objects_stand p codes has w byte high [] from at le b fits = tt
objects_stand p codes has w byte high (d ∷ ds) from at le b fits =
    let a = addresses_of p codes in
    let cells = object_cells p d in
    let bytes = map (cell_byte a) cells in
    let rest = flat_map (object_bytes a p) ds in
    let split = bytes_split byte (object_bytes a p d) rest at b in
    let there = fields_there (length p.functions) (length p.objects) (globals_of p d.text) (names_there p has d.text) d.item.fields in
    let long : length bytes ≡ length cells = length-map cells (cell_byte a) in
    let size : length cells ≡ object_size d.item = object_long p d in
    let slot : length (object_bytes a p d) ≡ round_16 (length bytes) = slots_count bytes in
    let both : length (object_bytes a p d ++ rest) ≡ length (object_bytes a p d) + length rest = length-append (object_bytes a p d) rest in
    let whole : length (object_bytes a p d) ≡ round_16 (object_size d.item) = slot ∙ ap round_16 (long ∙ size) in
    let next : at + length (object_bytes a p d) ≡ at + round_16 (object_size d.item) = omega (arith, whole) in (
      le,
      (omega (arith, long, slot, both, fits)),
      cells_stand p codes w byte cells at there (slot_starts byte bytes at split.first),
      objects_stand p codes has w byte high ds (at + length cells) (at + round_16 (object_size d.item)) (omega (arith, size))
          (subst (BytesStand byte rest) next split.second) (omega (arith, fits, both, whole)),
    )

pub length_objects : (at : ℕ) (ds : List (InText DataDef)) → length (object_addresses at ds) ≡ length ds
length_objects at [] = refl
length_objects at (d ∷ ds) = ap suc (length_objects (at + round_16 (object_size d.item)) ds)

words_end : (a : Addresses) (targets : List (List Target)) (at : ℕ) (codes : List Words) (fs : List (InText Func)) → length codes ≡ length fs → functions_end at codes ≡ at + 4 * length (functions_words a targets at codes fs)
words_end a targets at [] fs same = omega arith
words_end a targets at (c ∷ codes) [] same = absurd (omega (arith, same))
words_end a targets at (c ∷ codes) (f ∷ fs) same =
    let own = filled at (name_address a targets f.text) c.words c.holes in
    let others : List ℕ = functions_words a targets (at + 4 * length c.words) codes fs in
    let long : length own ≡ length c.words = filled_length at (name_address a targets f.text) c.words c.holes in
    let both : length (own ++ others) ≡ length own + length others = length-append own others in
    let rest = words_end a targets (at + 4 * length c.words) codes fs (omega (arith, same)) in
    omega (arith, long, both, rest)

data_begins : (p : Program) (codes : List Words) → length codes ≡ length p.functions → data_start (contents_of p codes) ≡ objects_start codes
data_begins p codes same =
    let fw = functions_words (addresses_of p codes) p.targets functions_start codes p.functions in
    let end = words_end (addresses_of p codes) p.targets functions_start codes p.functions same in
    let long : length (first_words p codes ++ fw) ≡ 12 + length fw = length-append (first_words p codes) fw in
    let size : 4 * length (first_words p codes ++ fw) ≡ functions_end functions_start codes - code_start = omega (arith, end, long) in
    ap (λ n. code_start + round_to_page n) size

pub worth : (p : Program) (codes : List Words) → length codes ≡ length p.functions → EveryCode codes → FitsBelow p codes → Worth p codes
worth p codes same every fits =
    let long = length_addresses functions_start codes in
    let many = length_objects (objects_start codes) p.objects in
    record {
      functions = λ k lt. slice_get-get_or (addresses_of p codes).functions k 0 (omega (arith, lt, long, same));
      objects = λ k lt. slice_get-get_or (addresses_of p codes).objects k 0 (omega (arith, lt, many));
      entries = are_entries p codes every fits;
    }

pub data_stands : (p : Program) (codes : List Words) (x : Executable) → NamesAreThere p → length codes ≡ length p.functions → EveryCode codes → FitsBelow p codes → IsImage (contents_of p codes) → Stands (contents_of p codes) x → DataStands p (places_of p codes) x
data_stands p codes x has same every fits good stands =
    let image = contents_of p codes in
    let below = good.below_stack in
    let bytes = bytes_from (byte_in x) image.data_bytes (data_start image) stands.data_bytes in
    let at = data_begins p codes same in
    record {
      positive = omega arith;
      below = below;
      usable =
          λ a low high.
          (let here : data_start image + (a - data_start image) ≡ a = omega (arith, low) in
          subst (λ n. flags_in x n ≡ Some ReadWrite) here (stands.data_flags (a - data_start image) (omega (arith, low, high))));
      objects =
          objects_stand p codes has (worth p codes same every fits) (byte_in x) (data_start image + length image.data_bytes) p.objects (data_start image) (objects_start codes)
          (omega (arith, at)) (subst (BytesStand (byte_in x) image.data_bytes) at bytes) (omega (arith, at));
    }

pub stands_well : PlacedStands
stands_well p codes x has same every fits good stands =
    record { data_bytes = data_stands p codes x has same every fits good stands; entries = are_entries p codes every fits; aligned = entries_aligned p codes }
