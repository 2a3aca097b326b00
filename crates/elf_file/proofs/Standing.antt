-- The segments of an image put its words and bytes at their addresses.
use Rattle.std.proofs.Common.{◌≡◌, ℕ, zero, suc, ◌+◌, ◌-◌, ◌*◌, ◌<◌, ◌≤◌, Bool, true, false, List, [], ◌∷◌, length, refl, ◌∙◌, ap, arith, inl, inr, cond, Some, None, ◌&&◌, ◌⊎◌, nat_le, nat_lt, find, slice_index, option_map}
use Rattle.std.specs.Int.{byte_at}
use Rattle.std.proofs.lemmas.Option.{none-some}
use Rattle.std.proofs.lemmas.Bool.Decides.{nat_tests}
use Rattle.obj_link.specs.Prelude.{Contents, code_start, code_size, data_start}
use Rattle.elf_file.specs.declared.flags.Flags.{Flags}
use Rattle.elf_file.specs.declared.flags.Flags.TheVariants.{Execute, ReadWrite}
use Rattle.elf_file.specs.Conditions.{Mapping, holds, byte_of, byte_in, flags_in, mapping_at, Stands}
use Rattle.elf_file.specs.File.{code_bytes, code_mapping, data_mappings, executable_of}
use Rattle.elf_file.proofs.Writing.{round_to_page-above}

-- byte j of word k
word_byte : (words : List ℕ) (k j : ℕ) → k < length words → j < 4 → slice_index (code_bytes words) (4 * k + j) ≡ byte_at j (slice_index words k)
word_byte [] k j h small = absurd (omega arith)
word_byte (w ∷ ws) zero zero h small = refl
word_byte (w ∷ ws) zero (suc zero) h small = refl
word_byte (w ∷ ws) zero (suc (suc zero)) h small = refl
word_byte (w ∷ ws) zero (suc (suc (suc zero))) h small = refl
word_byte (w ∷ ws) zero (suc (suc (suc (suc j)))) h small = absurd (omega arith)
word_byte (w ∷ ws) (suc k) j h small =
    let next : 4 * suc k + j ≡ suc (suc (suc (suc (4 * k + j)))) = omega arith in
    ap (slice_index (code_bytes (w ∷ ws))) next ∙ word_byte ws k j (omega arith) small

-- an address of the code is in its segment, and one of the data is not
in_code : (image : Contents) (at : ℕ) → code_start ≤ at → at < code_start + code_size image → holds at (code_mapping image) ≡ true
in_code image at low high = grind (arith, nat_tests)

not_in_code : (image : Contents) (at : ℕ) → data_start image ≤ at → holds at (code_mapping image) ≡ false
not_in_code image at low = let above = round_to_page-above (code_size image) in grind (arith, nat_tests)

was_in_code : (image : Contents) (at : ℕ) → holds at (code_mapping image) ≡ true → (code_start ≤ at) × (at < code_start + code_size image)
was_in_code image at h = (grind (arith, nat_tests), grind (arith, nat_tests))

-- the segment at an address of the code
code_at : (image : Contents) (at : ℕ) → code_start ≤ at → at < code_start + code_size image → mapping_at (executable_of image) at ≡ Some (code_mapping image)
unfolding executable_of
code_at image at low high = rw (in_code image at low high) refl

-- and at one of the data
found : (address at : ℕ) (bytes : List ℕ) → address ≤ at → at < address + length bytes
    → (option_map (byte_of at) (find (holds at) (data_mappings address bytes)) ≡ Some (slice_index bytes (at - address)))
    × (option_map (λ m. m.flags) (find (holds at) (data_mappings address bytes)) ≡ Some ReadWrite)
found address at [] low high = absurd (omega arith)
found address at (b ∷ bs) low high =
    let here : (nat_le address at && nat_lt at (address + length (b ∷ bs))) ≡ true = grind (arith, nat_tests) in
    (rw here refl, rw here refl)

was_found : (address at : ℕ) (bytes : List ℕ) (f : Flags) → option_map (λ m. m.flags) (find (holds at) (data_mappings address bytes)) ≡ Some f → (address ≤ at) × (at < address + length bytes)
was_found address at [] f e = absurd (none-some f e)
was_found address at (b ∷ bs) f e = held (nat_le address at && nat_lt at (address + length (b ∷ bs))) refl e
  where
    held : (t : Bool) → (nat_le address at && nat_lt at (address + length (b ∷ bs))) ≡ t
        → option_map (λ (m : Mapping). m.flags) (cond t (Some (record { address = address; flags = ReadWrite; size = length (b ∷ bs); file_bytes = b ∷ bs })) None) ≡ Some f
        → (address ≤ at) × (at < address + length (b ∷ bs))
    held true is e = (grind (arith, nat_tests), grind (arith, nat_tests))
    held false is e = absurd (none-some f e)

-- what stands at an address of the data is what the data's segment has
data_at : (image : Contents) (at : ℕ) → data_start image ≤ at → mapping_at (executable_of image) at ≡ find (holds at) (data_mappings (data_start image) image.data_bytes)
unfolding executable_of
data_at image at low = rw (not_in_code image at low) refl

byte-code : (image : Contents) (k j : ℕ) → k < length image.code → j < 4 → byte_in (executable_of image) (code_start + 4 * k + j) ≡ Some (byte_at j (slice_index image.code k))
byte-code image k j h small =
    let place : code_start + 4 * k + j - code_start ≡ 4 * k + j = omega arith in
    ap (option_map (byte_of (code_start + 4 * k + j))) (code_at image (code_start + 4 * k + j) (omega arith) (omega arith))
    ∙ ap (λ i. Some (slice_index (code_bytes image.code) i)) place
    ∙ ap (λ v. Some v) (word_byte image.code k j h small)

flags-code : (image : Contents) (at : ℕ) → code_start ≤ at → at < code_start + code_size image → flags_in (executable_of image) at ≡ Some Execute
flags-code image at low high = ap (option_map (λ m. m.flags)) (code_at image at low high)

byte-data : (image : Contents) (k : ℕ) → k < length image.data_bytes → byte_in (executable_of image) (data_start image + k) ≡ Some (slice_index image.data_bytes k)
byte-data image k h =
    let at : ℕ = data_start image + k in
    let place : at - data_start image ≡ k = omega arith in
    ap (option_map (byte_of at)) (data_at image at (omega arith)) ∙ (found (data_start image) at image.data_bytes (omega arith) (omega (arith, h))).0
    ∙ ap (λ i. Some (slice_index image.data_bytes i)) place

flags-data : (image : Contents) (k : ℕ) → k < length image.data_bytes → flags_in (executable_of image) (data_start image + k) ≡ Some ReadWrite
flags-data image k h =
    let at : ℕ = data_start image + k in
    ap (option_map (λ m. m.flags)) (data_at image at (omega arith)) ∙ (found (data_start image) at image.data_bytes (omega arith) (omega (arith, h))).1

elsewhere : (image : Contents) (at : ℕ) (f : Flags) → flags_in (executable_of image) at ≡ Some f
    → ((code_start ≤ at) × (at < code_start + code_size image)) ⊎ ((data_start image ≤ at) × (at < data_start image + length image.data_bytes))
unfolding executable_of
elsewhere image at f e = either (holds at (code_mapping image)) refl e
  where
    either : (t : Bool) → holds at (code_mapping image) ≡ t
        → option_map (λ (m : Mapping). m.flags) (cond t (Some (code_mapping image)) (find (holds at) (data_mappings (data_start image) image.data_bytes))) ≡ Some f
        → ((code_start ≤ at) × (at < code_start + code_size image)) ⊎ ((data_start image ≤ at) × (at < data_start image + length image.data_bytes))
    either true is e = inl (was_in_code image at is)
    either false is e = inr (was_found (data_start image) at image.data_bytes f e)

starts : (image : Contents) → (executable_of image).entry ≡ code_start
unfolding executable_of
starts image = refl

-- an image stands in memory where it says
pub Stands-executable_of : (image : Contents) → Stands image (executable_of image)
Stands-executable_of image = record {
  entry = starts image;
  code = byte-code image;
  code_flags = flags-code image;
  data_bytes = byte-data image;
  data_flags = flags-data image;
  nothing_else = elsewhere image;
}
