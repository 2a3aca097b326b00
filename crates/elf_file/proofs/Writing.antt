-- The file that is written loads as its image: each field reads back, and each segment's bytes stand at its offset.
use Rattle.std.proofs.Common.{◌≡◌, ℕ, zero, suc, ◌+◌, ◌-◌, ◌*◌, ◌%◌, ◌/◌, ◌^◌, ◌<◌, ◌≤◌, true, List, [], ◌∷◌, ◌++◌, length, take, drop, refl, sym, ◌∙◌, ap, subst, arith, add_assoc, append_assoc, length-append, lit<, Some, flat_map, slice_get, replicate, ◌||◌}
use Rattle.std.proofs.lemmas.Bool.Decides.{nat_tests}
use Rattle.std.proofs.lemmas.Option.{none-some, same_Some}
use Rattle.std.proofs.Math.Seq.{drop-append-add, drop-append_seam, take-append_seam, take-length}
use Rattle.std.proofs.Math.ListN.{length-replicate}
use Rattle.elf_file.proofs.Reading.{MapsAll-push, MapsAll-none}
use Rattle.byteorder.specs.Endian.{little_bytes, little_number}
use Rattle.byteorder.specs.Numbers.{little_number-reads_back}
use Rattle.obj_link.specs.Prelude.{Contents, IsImage, code_start, code_size, data_start, round_to_page}
use Rattle.elf_file.specs.declared.flags.Flags.{Flags}
use Rattle.elf_file.specs.declared.flags.Flags.TheVariants.{Execute, Read, ReadExecute, ReadWrite}
use Rattle.elf_file.specs.File.{flags_number, field_bytes, fields_bytes, file_header_fields, program_header_fields, header_for, headers_bytes, segment_header, code_bytes, padded, with_code, file_with, file_of, code_header, data_header, data_offset, code_mapping, data_mappings, executable_of}
use Rattle.elf_file.specs.declared.fields.Field.{Field}
use Rattle.elf_file.specs.declared.fields.Field.TheVariants.{Half, Word, Xword}
use Rattle.elf_file.specs.declared.headers.FileHeader.{FileHeader}
use Rattle.elf_file.specs.declared.headers.ProgramHeader.{ProgramHeader}
use Rattle.elf_file.specs.Conditions.{field, file_header, program_header, program_header_at, Mapping, Executable, has_entry, holds_instruction, e_ident, HasHeaders, Maps, Loads, lowest, is_loadable}

-- the width of a field, and its number
abbrev width : Field → ℕ
width (Half n) = 2
width (Word n) = 4
width (Xword n) = 8

abbrev number : Field → ℕ
number (Half n) = n
number (Word n) = n
number (Xword n) = n

-- the bytes before field k
abbrev before : List Field → ℕ → ℕ
before [] k = 0
before (f ∷ fs) zero = 0
before (f ∷ fs) (suc k) = width f + before fs k

length-field_bytes : (f : Field) → length (field_bytes f) ≡ width f
length-field_bytes (Half n) = refl
length-field_bytes (Word n) = refl
length-field_bytes (Xword n) = refl

-- a field of the second of two parts
field-after : (n k : ℕ) (xs ys : List ℕ) → field n (length xs + k) (xs ++ ys) ≡ field n k ys
unfolding field
field-after n k xs ys = ap (λ bytes. little_number n bytes) (drop-append-add xs ys k)

-- the first field of a list of bytes reads back
first_field : (f : Field) (rest : List ℕ) → number f < 256 ^ width f → field (width f) 0 (field_bytes f ++ rest) ≡ number f
unfolding field
first_field (Half n) rest h = little_number-reads_back 2 n rest h
first_field (Word n) rest h = little_number-reads_back 4 n rest h
first_field (Xword n) rest h = little_number-reads_back 8 n rest h

-- each field reads back
number_in : (fs : List Field) (k : ℕ) (f : Field) (rest : List ℕ) → slice_get fs k ≡ Some f → number f < 256 ^ width f
    → field (width f) (before fs k) (fields_bytes fs ++ rest) ≡ number f
number_in [] k f rest at fits = absurd (none-some f at)
number_in (g ∷ gs) zero f rest at fits =
    let e : g ≡ f = same_Some g f at in
    rw (append_assoc (field_bytes g) (fields_bytes gs) rest, e) (first_field f (fields_bytes gs ++ rest) fits)
number_in (g ∷ gs) (suc k) f rest at fits =
    rw (append_assoc (field_bytes g) (fields_bytes gs) rest, ← length-field_bytes g) (
    field-after (width f) (before gs k) (field_bytes g) (fields_bytes gs ++ rest) ∙ number_in gs k f rest at fits
    )

-- the bytes of a file's header
abbrev start_bytes : ℕ → List ℕ
start_bytes count = e_ident ++ fields_bytes (file_header_fields (header_for count))

abbrev program_header_bytes : ProgramHeader → List ℕ
program_header_bytes h = fields_bytes (program_header_fields h)

length-program_headers : (hs : List ProgramHeader) → length (flat_map program_header_bytes hs) ≡ 56 * length hs
length-program_headers [] = refl
length-program_headers (h ∷ hs) =
    length-append (program_header_bytes h) (flat_map program_header_bytes hs) ∙ omega (arith, length-program_headers hs)

-- the length of all headers
pub length-headers_bytes : (hs : List ProgramHeader) → length (headers_bytes hs) ≡ 64 + 56 * length hs
length-headers_bytes hs =
    length-append (start_bytes (length hs)) (flat_map program_header_bytes hs) ∙ ap (λ n. 64 + n) (length-program_headers hs)

flags_fit : (flags : Flags) → flags_number flags < 256 ^ 4
flags_fit Execute = lit< tt
flags_fit Read = lit< tt
flags_fit ReadExecute = lit< tt
flags_fit ReadWrite = lit< tt

abbrev header : (a b c d e f g h : ℕ) → ProgramHeader
header a b c d e f g h = record { p_type = a; p_flags = b; p_offset = c; p_vaddr = d; p_paddr = e; p_filesz = f; p_memsz = g; p_align = h }

same_header : (a b c d e f g h a' b' c' d' e' f' g' h' : ℕ) → a ≡ a' → b ≡ b' → c ≡ c' → d ≡ d' → e ≡ e' → f ≡ f' → g ≡ g' → h ≡ h'
    → header a b c d e f g h ≡ header a' b' c' d' e' f' g' h'
same_header a b c d e f g h a' b' c' d' e' f' g' h' p q r s t u v w = cc

-- a program header of numbers that fit reads back
program_header-first : (flags : Flags) (offset address size : ℕ) (rest : List ℕ) → offset < 2 ^ 64 → address < 2 ^ 64 → size < 2 ^ 64
    → program_header_at (program_header_bytes (segment_header flags offset address size) ++ rest) 0 ≡ segment_header flags offset address size
unfolding program_header_at
program_header-first flags offset address size rest o a s =
    let fs : List Field = program_header_fields (segment_header flags offset address size) in
    same_header _ _ _ _ _ _ _ _ _ _ _ _ _ _ _ _
    (number_in fs 0 (Word 1) rest refl (lit< tt))
    (number_in fs 1 (Word (flags_number flags)) rest refl (flags_fit flags))
    (number_in fs 2 (Xword offset) rest refl o)
    (number_in fs 3 (Xword address) rest refl a)
    (number_in fs 4 (Xword address) rest refl a)
    (number_in fs 5 (Xword size) rest refl s)
    (number_in fs 6 (Xword size) rest refl s)
    (number_in fs 7 (Xword 4096) rest refl (lit< tt))

field-past : (n k j : ℕ) (xs ys : List ℕ) → field n (length xs + k + j) (xs ++ ys) ≡ field n (k + j) ys
field-past n k j xs ys = ap (λ o. field n o (xs ++ ys)) (add_assoc (length xs) k j) ∙ field-after n (k + j) xs ys

-- a header read past a first part
program_header-after : (k : ℕ) (xs ys : List ℕ) → program_header_at (xs ++ ys) (length xs + k) ≡ program_header_at ys k
unfolding program_header_at
program_header-after k xs ys =
    same_header _ _ _ _ _ _ _ _ _ _ _ _ _ _ _ _ (field-after 4 k xs ys) (field-past 4 k 4 xs ys) (field-past 8 k 8 xs ys) (field-past 8 k 16 xs ys) (field-past 8 k 24 xs ys) (field-past 8 k 32 xs ys) (field-past 8 k 40 xs ys) (field-past 8 k 48 xs ys)

-- a segment's numbers fit their fields
pub record FitsHeader (offset address size : ℕ) : Type 0 where
  pub offset_fits : offset < 2 ^ 64
  pub address_fits : address < 2 ^ 64
  pub size_fits : size < 2 ^ 64

-- the first program header of a file reads back
program_header-0 : (count : ℕ) (flags : Flags) (offset address size : ℕ) (rest : List ℕ) → FitsHeader offset address size
    → program_header (start_bytes count ++ (program_header_bytes (segment_header flags offset address size) ++ rest)) 0 ≡ segment_header flags offset address size
program_header-0 count flags offset address size rest fits =
    program_header-after 0 (start_bytes count) (program_header_bytes (segment_header flags offset address size) ++ rest)
    ∙ program_header-first flags offset address size rest fits.offset_fits fits.address_fits fits.size_fits

-- the second program header of a file reads back
program_header-1 : (count : ℕ) (h : ProgramHeader) (flags : Flags) (offset address size : ℕ) (rest : List ℕ) → FitsHeader offset address size
    → program_header (start_bytes count ++ (program_header_bytes h ++ (program_header_bytes (segment_header flags offset address size) ++ rest))) 1
    ≡ segment_header flags offset address size
program_header-1 count h flags offset address size rest fits =
    program_header-after 56 (start_bytes count) (program_header_bytes h ++ (program_header_bytes (segment_header flags offset address size) ++ rest))
    ∙ program_header-after 0 (program_header_bytes h) (program_header_bytes (segment_header flags offset address size) ++ rest)
    ∙ program_header-first flags offset address size rest fits.offset_fits fits.address_fits fits.size_fits

-- the file's header is the one that was written, of one segment
has_headers-1 : (rest : List ℕ) → 56 ≤ length rest → HasHeaders (start_bytes 1 ++ rest)
unfolding file_header field
has_headers-1 rest whole = record {
  long_enough = omega (arith, length-append (start_bytes 1) rest);
  ident = refl;
  kind = refl;
  table = refl;
  whole = omega (arith, length-append (start_bytes 1) rest);
}

-- and of two
has_headers-2 : (rest : List ℕ) → 112 ≤ length rest → HasHeaders (start_bytes 2 ++ rest)
unfolding file_header field
has_headers-2 rest whole = record {
  long_enough = omega (arith, length-append (start_bytes 2) rest);
  ident = refl;
  kind = refl;
  table = refl;
  whole = omega (arith, length-append (start_bytes 2) rest);
}

phnum-1 : (rest : List ℕ) → (file_header (start_bytes 1 ++ rest)).e_phnum ≡ 1
unfolding file_header field
phnum-1 rest = refl

phnum-2 : (rest : List ℕ) → (file_header (start_bytes 2 ++ rest)).e_phnum ≡ 2
unfolding file_header field
phnum-2 rest = refl

entry-1 : (rest : List ℕ) → code_start ≡ (file_header (start_bytes 1 ++ rest)).e_entry
unfolding file_header field
entry-1 rest = refl

entry-2 : (rest : List ℕ) → code_start ≡ (file_header (start_bytes 2 ++ rest)).e_entry
unfolding file_header field
entry-2 rest = refl

-- the code's segment is loaded
code_loads : (image : Contents) (file : List ℕ) → IsImage image → program_header file 0 ≡ code_header image
    → 4096 + code_size image ≤ length file
    → take (code_size image) (drop 4096 file) ≡ code_bytes image.code
    → Maps file (lowest file 0) (program_header file 0) (code_mapping image)
code_loads image file is header long bytes = rw header (record {
  loadable = grind (arith, nat_tests, is.has_code);
  whole = grind (arith, nat_tests);
  placed = grind (arith, nat_tests, is.below_stack);
  p_vaddr = refl;
  p_flags = refl;
  p_memsz = refl;
  p_filesz = sym bytes;
})

-- pages begin at multiples of 4096, in the file and in memory
pages : (q : ℕ) → (4096 + q * 4096) % 4096 ≡ (65536 + q * 4096) % 4096
pages q = omega arith

-- a segment with bytes is loadable where its offset and address agree modulo a page
loadable : (offset address size : ℕ) → 0 < size → offset % 4096 ≡ address % 4096 → is_loadable (segment_header ReadWrite offset address size) ≡ true
loadable offset address size some same = grind (arith, nat_tests)

-- the data's segment is loaded, after the code's
data_loads : (image : Contents) (b : ℕ) (bs : List ℕ) (file : List ℕ) → IsImage image → image.data_bytes ≡ b ∷ bs → program_header file 0 ≡ code_header image
    → program_header file 1 ≡ data_header image
    → data_offset image + length image.data_bytes ≤ length file
    → take (length image.data_bytes) (drop (data_offset image) file) ≡ image.data_bytes
    → Maps file (lowest file 1) (program_header file 1) (record { address = data_start image; flags = ReadWrite; size = length (b ∷ bs); file_bytes = b ∷ bs })
data_loads image b bs file is has first header long bytes = rw (header, first) (record {
  loadable = loadable (data_offset image) (data_start image) (length image.data_bytes) (omega (arith, ap length has)) (pages ((code_size image + 4095) / 4096));
  whole = grind (arith, nat_tests);
  placed = grind (arith, nat_tests, is.below_stack);
  p_vaddr = refl;
  p_flags = refl;
  p_memsz = sym (ap length has);
  p_filesz = sym has ∙ sym bytes;
})

-- a part of a file, by the bytes before it
part : (n a : ℕ) (front xs back : List ℕ) → length front ≡ a → length xs ≡ n → take n (drop a (front ++ (xs ++ back))) ≡ xs
part n a front xs back e f = rw (← e, ← f, drop-append_seam front (xs ++ back)) (take-append_seam xs back)

-- and of its last part
last_part : (n a : ℕ) (front xs : List ℕ) → length front ≡ a → length xs ≡ n → take n (drop a (front ++ xs)) ≡ xs
last_part n a front xs e f = rw (← e, ← f, drop-append_seam front xs) (take-length xs)

-- the zeros that fill up
pub padding : (n : ℕ) (xs : List ℕ) → length xs ≤ n → (z : List ℕ) × (padded n xs ≡ xs ++ z) × (length xs + length z ≡ n)
unfolding padded
padding n xs h = (replicate (n - length xs) 0, refl, omega (arith, length-replicate {A = ℕ} (n - length xs) 0))

pub length-code_bytes : (words : List ℕ) → length (code_bytes words) ≡ 4 * length words
length-code_bytes [] = refl
length-code_bytes (w ∷ ws) = length-append (little_bytes 4 w) (code_bytes ws) ∙ omega (arith, length-code_bytes ws)

-- the program starts in its code
in_code : (image : Contents) → IsImage image → holds_instruction code_start (code_mapping image) ≡ true
in_code image is = grind (arith, nat_tests, is.has_code)

has_code_entry : (image : Contents) (ms : List Mapping) → IsImage image → has_entry code_start (code_mapping image ∷ ms) ≡ true
has_code_entry image ms is = ap (λ b. b || has_entry code_start ms) (in_code image is)

code_fits : (image : Contents) → IsImage image → FitsHeader 4096 code_start (code_size image)
code_fits image is = record { offset_fits = lit< tt; address_fits = lit< tt; size_fits = omega (arith, is.below_stack) }

data_fits : (image : Contents) → IsImage image → FitsHeader (data_offset image) (data_start image) (length image.data_bytes)
data_fits image is = record {
  offset_fits = omega (arith, is.below_stack);
  address_fits = omega (arith, is.below_stack);
  size_fits = omega (arith, is.below_stack);
}

-- the file of an image without data loads as its code
loads-code : (image : Contents) (z : List ℕ) → IsImage image → length (headers_bytes (code_header image ∷ [])) + length z ≡ 4096
    → Loads (start_bytes 1 ++ (program_header_bytes (code_header image) ++ (z ++ code_bytes image.code))) (record { entry = code_start; mappings = code_mapping image ∷ [] })
loads-code image z is filled =
    let rest : List ℕ = program_header_bytes (code_header image) ++ (z ++ code_bytes image.code) in
    let file : List ℕ = start_bytes 1 ++ rest in
    let front : List ℕ = headers_bytes (code_header image ∷ []) ++ z in
    let size : length (code_bytes image.code) ≡ code_size image = length-code_bytes image.code in
    let front_size : length front ≡ 4096 = length-append (headers_bytes (code_header image ∷ [])) z ∙ filled in
    let long : length (front ++ code_bytes image.code) ≡ 4096 + code_size image = omega (arith, length-append front (code_bytes image.code), front_size, size) in
    let maps : Maps file (lowest file 0) (program_header file 0) (code_mapping image) =
    code_loads image file is (program_header-0 1 Execute 4096 code_start (code_size image) (z ++ code_bytes image.code) (code_fits image is)) (omega (arith, long))
    (last_part (code_size image) 4096 front (code_bytes image.code) front_size size) in
    record {
      headers = has_headers-1 rest (omega arith);
      segments = rw (phnum-1 rest) (MapsAll-push file 0 [] (code_mapping image) (MapsAll-none file) maps);
      entry = entry-1 rest;
      aligned = refl;
      in_code = has_code_entry image [] is;
    }

-- the file of an image with data loads as its code and its data
loads-data : (image : Contents) (b : ℕ) (bs z y : List ℕ) → IsImage image → image.data_bytes ≡ b ∷ bs
    → length (headers_bytes (code_header image ∷ data_header image ∷ [])) + length z ≡ 4096
    → 4096 + code_size image + length y ≡ data_offset image
    → Loads (
    start_bytes 2 ++ (program_header_bytes (code_header image) ++ (program_header_bytes (data_header image) ++ (z ++ (code_bytes image.code ++ (y ++ image.data_bytes)))))
    ) (record { entry = code_start; mappings = code_mapping image ∷ data_mappings (data_start image) (b ∷ bs) })
loads-data image b bs z y is has filled padded_to =
    let tail : List ℕ = z ++ (code_bytes image.code ++ (y ++ image.data_bytes)) in
    let rest : List ℕ = program_header_bytes (code_header image) ++ (program_header_bytes (data_header image) ++ tail) in
    let file : List ℕ = start_bytes 2 ++ rest in
    let headers : List ℕ = headers_bytes (code_header image ∷ data_header image ∷ []) in
    let front : List ℕ = headers ++ z in
    let upto : List ℕ = (front ++ code_bytes image.code) ++ y in
    let size : length (code_bytes image.code) ≡ code_size image = length-code_bytes image.code in
    let front_size : length front ≡ 4096 = length-append headers z ∙ filled in
    let upto_size : length upto ≡ data_offset image =
    omega (arith, length-append (front ++ code_bytes image.code) y, length-append front (code_bytes image.code), front_size, size, padded_to)
    in
    let same : upto ++ image.data_bytes ≡ file =
    append_assoc (front ++ code_bytes image.code) y image.data_bytes ∙ append_assoc front (code_bytes image.code) (y ++ image.data_bytes)
    in
    let long : length file ≡ data_offset image + length image.data_bytes =
    sym (ap length same) ∙ length-append upto image.data_bytes ∙ ap (λ n. n + length image.data_bytes) upto_size
    in
    let first : program_header file 0 ≡ code_header image =
    program_header-0 2 Execute 4096 code_start (code_size image) (program_header_bytes (data_header image) ++ tail) (code_fits image is)
    in
    let second : program_header file 1 ≡ data_header image =
    program_header-1 2 (code_header image) ReadWrite (data_offset image) (data_start image) (length image.data_bytes) tail (data_fits image is)
    in
    let code_maps : Maps file (lowest file 0) (program_header file 0) (code_mapping image) =
    code_loads image file is first (omega (arith, long, padded_to))
    (part (code_size image) 4096 front (code_bytes image.code) (y ++ image.data_bytes) front_size size)
    in
    let data_maps : Maps file (lowest file 1) (program_header file 1) (record { address = data_start image; flags = ReadWrite; size = length (b ∷ bs); file_bytes = b ∷ bs }) =
    data_loads image b bs file is has first second (omega (arith, long))
    (ap (λ f. take (length image.data_bytes) (drop (data_offset image) f)) (sym same) ∙ last_part (length image.data_bytes) (data_offset image) upto image.data_bytes upto_size refl)
    in
    record {
      headers = has_headers-2 rest (omega arith);
      segments = rw (phnum-2 rest) (MapsAll-push file 1 (code_mapping image ∷ []) _ (MapsAll-push file 0 [] (code_mapping image) (MapsAll-none file) code_maps) data_maps);
      entry = entry-2 rest;
      aligned = refl;
      in_code = has_code_entry image (data_mappings (data_start image) (b ∷ bs)) is;
    }

-- a page's multiple is at least what was rounded
pub round_to_page-above : (n : ℕ) → n ≤ round_to_page n
round_to_page-above n = omega arith

-- what is padded has the wanted length
pub length-padded : (n : ℕ) (xs : List ℕ) → length xs ≤ n → length (padded n xs) ≡ n
length-padded n xs h = let p = padding n xs h in ap length p.1 ∙ length-append xs p.0 ∙ p.2

-- the code ends at or below the data's offset
pub length-with_code : (image : Contents) (headers : List ℕ) → length headers ≤ 4096 → length (with_code image headers) ≡ 4096 + code_size image
length-with_code image headers h =
    length-append (padded 4096 headers) (code_bytes image.code)
    ∙ omega (arith, length-padded 4096 headers h, length-code_bytes image.code)

pub code_end-below : (image : Contents) (headers : List ℕ) → length headers ≤ 4096 → length (with_code image headers) ≤ data_offset image
code_end-below image headers h = omega (arith, length-with_code image headers h, round_to_page-above (code_size image))

abbrev executable_with : Contents → List ℕ → Executable
executable_with image bytes = record { entry = code_start; mappings = code_mapping image ∷ data_mappings (data_start image) bytes }

-- the same where the parts are what padding made of them
loads-padded : (image : Contents) (b : ℕ) (bs z y front upto : List ℕ) → IsImage image → image.data_bytes ≡ b ∷ bs
    → front ≡ headers_bytes (code_header image ∷ data_header image ∷ []) ++ z
    → length (headers_bytes (code_header image ∷ data_header image ∷ [])) + length z ≡ 4096
    → upto ≡ (front ++ code_bytes image.code) ++ y
    → length (front ++ code_bytes image.code) + length y ≡ data_offset image
    → Loads (upto ++ b ∷ bs) (executable_with image (b ∷ bs))
loads-padded image b bs z y front upto is has at filled up padded_to =
    let headers : List ℕ = headers_bytes (code_header image ∷ data_header image ∷ []) in
    let code : List ℕ = code_bytes image.code in
    let full : length front ≡ 4096 = ap length at ∙ length-append headers z ∙ filled in
    let ends : 4096 + code_size image + length y ≡ data_offset image =
    omega (arith, length-append front code, full, length-code_bytes image.code, padded_to)
    in
    let same : upto ++ b ∷ bs ≡ (headers ++ z) ++ (code ++ (y ++ image.data_bytes)) =
    ap (λ u. u ++ b ∷ bs) (up ∙ ap (λ f. (f ++ code) ++ y) at) ∙ ap (λ d. ((headers ++ z ++ code) ++ y) ++ d) (sym has)
    ∙ append_assoc (headers ++ z ++ code) y image.data_bytes
    ∙ append_assoc (headers ++ z) code (y ++ image.data_bytes)
    in
    subst (λ f. Loads f (executable_with image (b ∷ bs))) (sym same) (loads-data image b bs z y is has filled ends)

loads-with : (image : Contents) (bytes : List ℕ) → IsImage image → image.data_bytes ≡ bytes → Loads (file_with image bytes) (executable_with image bytes)
loads-with image [] is has =
    let headers : List ℕ = headers_bytes (code_header image ∷ []) in
    let pad = padding 4096 headers (omega (arith, length-headers_bytes (code_header image ∷ []))) in
    subst (λ front. Loads (front ++ code_bytes image.code) (executable_with image [])) (sym pad.1) (loads-code image pad.0 is pad.2)
loads-with image (b ∷ bs) is has =
    let headers : List ℕ = headers_bytes (code_header image ∷ data_header image ∷ []) in
    let pad = padding 4096 headers (omega (arith, length-headers_bytes (code_header image ∷ data_header image ∷ []))) in
    let more = padding (data_offset image) (with_code image headers) (code_end-below image headers (omega (arith, length-headers_bytes (code_header image ∷ data_header image ∷ [])))) in
    loads-padded image b bs pad.0 more.0 (padded 4096 headers) (padded (data_offset image) (with_code image headers)) is has pad.1 pad.2 more.1 more.2

-- the file of an image loads as the image
pub Loads-file_of : (image : Contents) → IsImage image → Loads (file_of image) (executable_of image)
unfolding file_of executable_of
Loads-file_of image is = loads-with image image.data_bytes is refl

file_with-none : (image : Contents) (bytes : List ℕ) → length bytes ≡ 0 → file_with image bytes ≡ with_code image (headers_bytes (code_header image ∷ []))
file_with-none image [] e = refl
file_with-none image (b ∷ bs) e = absurd (omega arith)

file_with-some : (image : Contents) (bytes : List ℕ) → 0 < length bytes
    → file_with image bytes ≡ padded (data_offset image) (with_code image (headers_bytes (code_header image ∷ data_header image ∷ []))) ++ bytes
file_with-some image [] h = absurd (omega arith)
file_with-some image (b ∷ bs) h = refl

-- the headers of a segment, as code and data have them
pub file-code : (image : Contents) (code : ProgramHeader) (file : List ℕ) → code ≡ code_header image → length image.data_bytes ≡ 0
    → file ≡ with_code image (headers_bytes (code ∷ []))
    → file ≡ file_of image
unfolding file_of
file-code image code file is empty at =
    at ∙ ap (λ h. with_code image (headers_bytes (h ∷ []))) is ∙ sym (file_with-none image image.data_bytes empty)

pub file-data : (image : Contents) (code more : ProgramHeader) (front upto file : List ℕ) → code ≡ code_header image → more ≡ data_header image → 0 < length image.data_bytes
    → front ≡ with_code image (headers_bytes (code ∷ more ∷ []))
    → upto ≡ padded (data_offset image) front
    → file ≡ upto ++ image.data_bytes
    → file ≡ file_of image
unfolding file_of
file-data image code more front upto file is has some at up whole =
    whole ∙ ap (λ u. u ++ image.data_bytes) (up ∙ ap (padded (data_offset image)) (at ∙ ap (λ h. with_code image (headers_bytes (h ∷ more ∷ []))) is ∙ ap (λ h. with_code image (headers_bytes (code_header image ∷ h ∷ []))) has))
    ∙ sym (file_with-some image image.data_bytes some)

-- the headers that were written fill no more than a page
pub length-written_headers : (hs : List ProgramHeader) (none start all : List ℕ) (h : FileHeader) → none ≡ [] → h ≡ header_for (length hs)
    → start ≡ none ++ (e_ident ++ fields_bytes (file_header_fields h))
    → all ≡ start ++ flat_map program_header_bytes hs
    → length hs ≤ 2
    → length all ≤ 4096
length-written_headers hs none start all h empty is first rest few =
    let one : start ≡ start_bytes (length hs) =
    first ∙ ap (λ n. n ++ (e_ident ++ fields_bytes (file_header_fields h))) empty ∙ ap (λ g. e_ident ++ fields_bytes (file_header_fields g)) is
    in
    let both : all ≡ headers_bytes hs = rest ∙ ap (λ f. f ++ flat_map program_header_bytes hs) one in
    omega (arith, ap length both, length-headers_bytes hs)

-- whatever is the file of an image loads as it
pub loads-file : (image : Contents) (file : List ℕ) → IsImage image → file ≡ file_of image → Loads file (executable_of image)
loads-file image file is same = subst (λ f. Loads f (executable_of image)) (sym same) (Loads-file_of image is)

-- the code with two program headers ends before the data
pub fits-before_data : (image : Contents) (code more : ProgramHeader) (file : List ℕ) → file ≡ with_code image (headers_bytes (code ∷ more ∷ [])) → length file ≤ data_offset image
fits-before_data image code more file same =
    rw same (code_end-below image (headers_bytes (code ∷ more ∷ [])) (omega (arith, length-headers_bytes (code ∷ more ∷ []))))
