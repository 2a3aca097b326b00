-- The executable of a program whose functions have words that stand for them executes the program.
use Rattle.std.proofs.Common.{◌≡◌, ℕ, zero, suc, ◌+◌, ◌%◌, ◌^◌, ◌<◌, ◌≤◌, List, [], ◌∷◌, length, map, refl, ap, subst, arith, lit<, IsTrue, slice_get, slice_index, Option, Some, None, option_and_then}
use Rattle.il_ast.specs.declared.datum.DataDef.{DataDef}
use Rattle.il_ast.specs.declared.function.Func.{Func}
use Rattle.il_ast.specs.declared.program.InText.{InText}
use Rattle.il_ast.specs.declared.program.Program.{Program}
use Rattle.il_ast.specs.declared.program.Target.{Target}
use Rattle.il_ast.specs.declared.program.Target.TheVariants.{Code, Object}
use Rattle.il_ast.specs.declared.value.Callee.TheVariants.{Defined, SystemWrite, SystemExit}
use Rattle.il_ast.specs.Prelude.{need, round_16, target_value, values_of, globals_of, classes_of}
use Rattle.vcode.specs.Prelude.{located, area, coded, begin, step}
use Rattle.flat_code.specs.Flat.{AllShow}
use Rattle.flat_code.specs.Step.{flat_begin, flat_step}
use Rattle.abi_frames.specs.Performs.{frame_size}
use Rattle.rv_isa.specs.Prelude.{Words, State}
use Rattle.obj_link.specs.declared.placing.addresses.Addresses.{Addresses}
use Rattle.obj_link.specs.Prelude.{IsImage, functions_start, object_size, objects_start, objects_end, addresses_of, target_address, name_address, contents_of, calls_reach, FitsBelow, EveryCode, object_addresses, IsThere}
use Rattle.obj_link.proofs.AddressLemmas.{objects_rise}
use Rattle.elf_file.specs.Conditions.{Executable, Stands}
use Rattle.rv_machine.specs.Starts.{Starts}
use Rattle.headline.specs.Executables.{FunctionsKept, body_of, setting_of, start_places, entries_of, places_of, NamesAreThere, calls_in}
use Rattle.headline.specs.Compiled.{StandIn, EachStands, EachStandsIn, StandsIn, ReplacedRuns, CompiledRuns}
use Rattle.headline.proofs.InPlace.{code_is_in}
use Rattle.headline.proofs.InNeed.{bytes_in_need, frame_in_need}
use Rattle.headline.proofs.LayersKeep.{layers_keep}
use Rattle.headline.proofs.Running.{setting_is, executable_runs}
use Rattle.headline.proofs.PlacedWords.{ground_of}
use Rattle.headline.proofs.NativeCode.{natives_perform}
use Rattle.headline.proofs.StartCode.{start_runs}
use Rattle.headline.proofs.DataPlaced.{bounds, address_most, address_aligned, function_stands, found_reach, Worth, worth, stands_well}
use Rattle.il_ast.proofs.Listed.{get_before}

-- ---- what names are worth

-- the addresses of a text's global names, in order
abbrev addresses_in : Addresses → Option (List Target) → List ℕ
addresses_in a None = []
addresses_in a (Some targets) = map (λ t. target_address a (Some t)) targets

name_is : (a : Addresses) (o : Option (List Target)) (n x : ℕ) → slice_get (addresses_in a o) n ≡ Some x → target_address a (option_and_then (λ ts. slice_get ts n) o) ≡ x
name_is a None n x h = absurd (let no : ⊥ = cc in no)
name_is a (Some targets) n x h = by targets n h
  where
    by : (ts : List Target) (k : ℕ) → slice_get (map (λ t. target_address a (Some t)) ts) k ≡ Some x → target_address a (slice_get ts k) ≡ x
    by [] k e = absurd (let no : ⊥ = cc in no)
    by (t ∷ ts) zero e = let same : target_address a (Some t) ≡ x = cc in same
    by (t ∷ ts) (suc k) e = by ts k e

-- ---- bounds of addresses

object_most : (at : ℕ) (ds : List (InText DataDef)) (k x : ℕ) → slice_get (object_addresses at ds) k ≡ Some x → x ≤ objects_end at ds
object_most at [] k x h = absurd (let no : ⊥ = cc in no)
object_most at (d ∷ ds) zero x h =
    let same : at ≡ x = cc in
    let rest = objects_rise (at + round_16 (object_size d.item)) ds in
    omega (arith, same, rest)
object_most at (d ∷ ds) (suc k) x h = object_most (at + round_16 (object_size d.item)) ds k x h

index_small : (xs : List ℕ) (bound : ℕ) → 0 < bound → ((k x : ℕ) → slice_get xs k ≡ Some x → x < bound) → (k : ℕ) → slice_index xs k < bound
index_small [] bound some h k = some
index_small (x ∷ xs) bound some h zero = h 0 x refl
index_small (x ∷ xs) bound some h (suc k) = index_small xs bound some (λ j y e. h (suc j) y e) k

function_small : (p : Program) (codes : List Words) → FitsBelow p codes → (k : ℕ) → slice_index (addresses_of p codes).functions k < 2 ^ 30
function_small p codes fits =
    index_small (addresses_of p codes).functions (2 ^ 30) (lit< tt)
    (λ k x h.
    let b = bounds p codes fits in
    let most = address_most functions_start codes k x h in
    let one = b.functions in
    let two = b.objects in
    let three = b.end in
    omega (arith, most, one, two, three))

main_small : (p : Program) (codes : List Words) → FitsBelow p codes → slice_index (addresses_of p codes).functions p.main < 2 ^ 31
main_small p codes fits = let small = function_small p codes fits p.main in omega (arith, small)

object_small : (p : Program) (codes : List Words) → FitsBelow p codes → (k : ℕ) → slice_index (addresses_of p codes).objects k < 2 ^ 30
object_small p codes fits =
    index_small (addresses_of p codes).objects (2 ^ 30) (lit< tt)
    (λ k x h.
    let b = bounds p codes fits in
    let most = object_most (objects_start codes) p.objects k x h in
    let three = b.end in
    omega (arith, most, three))

target_small : (p : Program) (codes : List Words) → FitsBelow p codes → (o : Option Target) → target_address (addresses_of p codes) o < 2 ^ 30
target_small p codes fits None = lit< tt
target_small p codes fits (Some (Code (Defined k))) = function_small p codes fits k
target_small p codes fits (Some (Code SystemWrite)) = lit< tt
target_small p codes fits (Some (Code SystemExit)) = lit< tt
target_small p codes fits (Some (Object k)) = object_small p codes fits k

-- ---- the values of names are shown by their addresses

object_shown : (p : Program) (codes : List Words) → FitsBelow p codes → Worth p codes → (words : List (List ℕ)) (k : ℕ) → k < length p.objects
    → (a : ℕ) × (slice_get (start_places (addresses_of p codes).objects words) k ≡ Some a) × (slice_index (addresses_of p codes).objects k ≡ (a + 0) % 2 ^ 64)
object_shown p codes fits w words k lt =
    let small = object_small p codes fits k in
    (slice_index (addresses_of p codes).objects k, get_before (addresses_of p codes).objects _ k _ (w.objects k lt), omega (arith, small))

names_shown : (p : Program) (codes : List Words) → FitsBelow p codes → Worth p codes → (words : List (List ℕ)) (ts : List Target) → ((n : ℕ) (t : Target) → slice_get ts n ≡ Some t → IsThere (length p.functions) (length p.objects) t)
    → AllShow (entries_of p codes) (λ b. slice_get (start_places (addresses_of p codes).objects words) b) (map target_value ts) (map (λ t. target_address (addresses_of p codes) (Some t)) ts)
names_shown p codes fits w words [] there = tt
names_shown p codes fits w words (Code (Defined k) ∷ ts) there = (w.functions k (there 0 (Code (Defined k)) refl), names_shown p codes fits w words ts (λ n t e. there (suc n) t e))
names_shown p codes fits w words (Code SystemWrite ∷ ts) there = (refl, names_shown p codes fits w words ts (λ n t e. there (suc n) t e))
names_shown p codes fits w words (Code SystemExit ∷ ts) there = (refl, names_shown p codes fits w words ts (λ n t e. there (suc n) t e))
names_shown p codes fits w words (Object k ∷ ts) there = (object_shown p codes fits w words k (there 0 (Object k) refl), names_shown p codes fits w words ts (λ n t e. there (suc n) t e))

text_shown : (p : Program) (codes : List Words) → NamesAreThere p → FitsBelow p codes → Worth p codes → (words : List (List ℕ)) (t : ℕ)
    → AllShow (entries_of p codes) (λ b. slice_get (start_places (addresses_of p codes).objects words) b) (globals_of p t) (addresses_in (addresses_of p codes) (slice_get p.targets t))
text_shown p codes has fits w words t = by (slice_get p.targets t) refl
  where
    by : (o : Option (List Target)) → slice_get p.targets t ≡ o
        → AllShow (entries_of p codes) (λ b. slice_get (start_places (addresses_of p codes).objects words) b) (values_of o) (addresses_in (addresses_of p codes) o)
    by None is = tt
    by (Some ts) is = names_shown p codes fits w words ts (λ n target e. has.targets t n ts target is e)

-- ---- each function

record FoundCode (p : Program) (codes : List Words) (k : ℕ) (f : InText Func) : Type 0 where
  words : Words
  here : slice_get codes k ≡ Some words
  stands : StandIn p f words

found_code : (p : Program) (codes : List Words) (fs : List (InText Func)) → EachStandsIn p codes fs → (k : ℕ) (f : InText Func) → slice_get fs k ≡ Some f → FoundCode p codes k f
found_code p [] [] each k f h = absurd (let no : ⊥ = cc in no)
found_code p [] (g ∷ fs) each k f h = absurd each
found_code p (c ∷ codes) [] each k f h = absurd each
found_code p (c ∷ codes) (g ∷ fs) each zero f h =
    let same : g ≡ f = cc in
    record { words = c; here = refl; stands = subst (λ (x : InText Func). StandIn p x c) same each.0 }
found_code p (c ∷ codes) (g ∷ fs) each (suc k) f h =
    let rest = found_code p codes fs each.1 k f h in
    record { words = rest.words; here = rest.here; stands = rest.stands }

as_many : (p : Program) (codes : List Words) (fs : List (InText Func)) → EachStandsIn p codes fs → length codes ≡ length fs
as_many p [] [] each = refl
as_many p [] (f ∷ fs) each = absurd each
as_many p (c ∷ codes) [] each = absurd each
as_many p (c ∷ codes) (f ∷ fs) each = ap suc (as_many p codes fs each.1)

function_kept : (p : Program) (codes : List Words) (x : Executable) (words : List (List ℕ)) (s : State)
    → NamesAreThere p → EachStandsIn p codes p.functions → EveryCode codes → FitsBelow p codes → IsTrue (calls_reach p codes) → IsImage (contents_of p codes) → Stands (contents_of p codes) x → Starts x words s
    → FunctionsKept (setting_of (places_of p codes) words s) p
function_kept p codes x words s has each every fits reach good stands starts turns k at f found entry =
    let many = as_many p codes p.functions each in
    let a = addresses_of p codes in
    let c = setting_of (places_of p codes) words s in
    let code = found_code p codes p.functions each k f found in
    let r = code.stands in
    let w = worth p codes many every fits in
    let well = stands_well p codes x has many every fits good stands in
    let setting = setting_is (places_of p codes) x words s starts well.entries well.aligned in
    let global = name_address a p.targets f.text in
    let addresses = addresses_in a (slice_get p.targets f.text) in
    let here = function_stands p codes x words s good stands starts k at code.words f code.here found entry in
    let labelled = r.laid (ground_of s) at global (found_reach a p.targets codes p.functions functions_start k at code.words f reach code.here found entry) here in
    let m = frame_in_need f.item r.code r.slots r.items r.is.params r.is.result r.fits r.machine in
    layers_keep c setting at (need f.item) (frame_size r.code r.slots) (area r.code) turns (classes_of f.item.params) f.item.result (globals_of p f.text) addresses (body_of p f) (calls_in p turns) (begin located r.code) (step located (globals_of p f.text) r.code) (flat_begin r.code) (flat_step r.code addresses)
    (record {
      meaning = r.is.runs turns;
      flat = bytes_in_need f.item r.code r.is.params r.is.result r.bytes (record { entries = entries_of p codes; globals = globals_of p f.text; addresses = addresses });
      machine =
          m.keeps c.world at labelled.0 global addresses setting.world (λ n y e. name_is a (slice_get p.targets f.text) n y e)
          (λ n. target_small p codes fits (option_and_then (λ ts. slice_get ts n) (slice_get p.targets f.text)))
          (address_aligned functions_start codes refl k at entry) labelled.1;
      names = text_shown p codes has fits w words f.text;
      area_fits = m.area_fits;
      frame_fits = m.fits;
      some = m.some;
      aligned = m.aligned;
    })

-- ---- the whole

pub replaced_runs : ReplacedRuns
replaced_runs p codes x words s has each every fits reach good stands starts few short =
    let many = as_many p codes p.functions each in
    let w = worth p codes many every fits in
    let well = stands_well p codes x has many every fits good stands in
    let main_is = w.functions p.main has.main in
    executable_runs p (places_of p codes) x words s starts few short well.data_bytes well.entries well.aligned
    (function_kept p codes x words s has each every fits reach good stands starts)
    (natives_perform p codes x words s good stands starts)
    (start_runs p codes x words s good stands starts well.data_bytes few short main_is (main_small p codes fits) (address_aligned functions_start codes refl p.main _ main_is))

-- ---- words that stand for functions, in every program

pub stands_in : StandsIn
stands_in p f c r =
    record {
      code = r.code;
      slots = r.slots;
      items = r.items;
      is = code_is_in p f (coded located r.code) r.is;
      fits = r.fits;
      bytes = r.bytes;
      machine = r.machine;
      laid = r.laid;
    }

all_stand_in : (p : Program) (codes : List Words) (fs : List (InText Func)) → EachStands codes fs → EachStandsIn p codes fs
all_stand_in p [] [] each = tt
all_stand_in p [] (f ∷ fs) each = absurd each
all_stand_in p (c ∷ codes) [] each = absurd each
all_stand_in p (c ∷ codes) (f ∷ fs) each = (stands_in p f c each.0, all_stand_in p codes fs each.1)

pub compiled_runs : CompiledRuns
compiled_runs p codes x words s has each = replaced_runs p codes x words s has (all_stand_in p codes p.functions each)
