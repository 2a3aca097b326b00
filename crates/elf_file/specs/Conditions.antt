-- Which files are accepted and what they load as. ELF64 object file format, "File Header" and
-- "Program Header"; RISC-V ELF psABI, "File Header" (EM_RISCV is 243). An accepted file has no more
-- than the layout written here: which values are taken where ELF leaves more is this project's
-- choice.
use Rattle.std.specs.Prelude.{ℕ, Bool, true, false, ◌==◌, Option, Some, None, if◌then◌else◌, ◌+◌, ◌*◌, List, drop, ◌≡◌, ◌-◌, ◌%◌, ◌<◌, ◌≤◌, ◌&&◌, nat_le, nat_lt, length, slice_index, slice_get, find, option_map, zero, suc, nat_eq, [], ◌∷◌, take, is_some, ◌⊎◌, ◌≢◌}
use Rattle.elf_file.specs.declared.flags.Flags.{Flags}
use Rattle.elf_file.specs.declared.flags.Flags.TheVariants.{Execute, Read, ReadExecute, ReadWrite}
use Rattle.byteorder.specs.Endian.{little_number}
use Rattle.elf_file.specs.declared.headers.FileHeader.{FileHeader}
use Rattle.elf_file.specs.declared.headers.ProgramHeader.{ProgramHeader}
use Rattle.std.specs.List.{list_any, starts_with}
use Rattle.obj_link.specs.Prelude.{code_start, image_end, Contents, code_size, data_start}
use Rattle.std.specs.Int.{byte_at}
use Rattle.elf_file.specs.declared.error.LoadError.{LoadError}
use Rattle.elf_file.specs.declared.error.LoadError.TheVariants.{CutOff, OtherKind, OutOfRange, Misplaced, BadEntry, Memory}

-- ---- the permissions of a segment: p_flags. ELF64 object file format, "Program Header", p_flags: PF_X
-- is 1, PF_W is 2, PF_R is 4. Which sums are taken is this project's choice.

-- the flags of a number; a number that is none of the four has none
abbrev pub flags_of : ℕ → Option Flags
flags_of n =
    if n == 1 then Some Execute else (if n == 4 then Some Read
    else (if n == 5 then Some ReadExecute else (if n == 6 then Some ReadWrite else None)))

abbrev pub is_readable : Flags → Bool
is_readable Execute = false
is_readable Read = true
is_readable ReadExecute = true
is_readable ReadWrite = true

abbrev pub is_writable : Flags → Bool
is_writable Execute = false
is_writable Read = false
is_writable ReadExecute = false
is_writable ReadWrite = true

abbrev pub is_executable : Flags → Bool
is_executable Execute = true
is_executable Read = false
is_executable ReadExecute = true
is_executable ReadWrite = false

-- ---- the headers of an ELF64 file whose numbers stand lowest byte first (ELFDATA2LSB), by the names of
-- their fields. ELF64 object file format, "File Header" (Elf64_Ehdr, 64 bytes) and "Program Header"
-- (Elf64_Phdr, 56 bytes).

-- the number in the `size` bytes from `offset`
unfoldable pub field : (size offset : ℕ) → List ℕ → ℕ
field size offset file = little_number size (drop offset file)

-- the file's header, from its first byte, but for e_ident
unfoldable pub file_header : List ℕ → FileHeader
file_header file = record {
  e_type = field 2 16 file;
  e_machine = field 2 18 file;
  e_version = field 4 20 file;
  e_entry = field 8 24 file;
  e_phoff = field 8 32 file;
  e_shoff = field 8 40 file;
  e_flags = field 4 48 file;
  e_ehsize = field 2 52 file;
  e_phentsize = field 2 54 file;
  e_phnum = field 2 56 file;
  e_shentsize = field 2 58 file;
  e_shnum = field 2 60 file;
  e_shstrndx = field 2 62 file;
}

-- the program header at an offset
unfoldable pub program_header_at : List ℕ → ℕ → ProgramHeader
program_header_at file offset = record {
  p_type = field 4 offset file;
  p_flags = field 4 (offset + 4) file;
  p_offset = field 8 (offset + 8) file;
  p_vaddr = field 8 (offset + 16) file;
  p_paddr = field 8 (offset + 24) file;
  p_filesz = field 8 (offset + 32) file;
  p_memsz = field 8 (offset + 40) file;
  p_align = field 8 (offset + 48) file;
}

-- the offset of program header k: they follow the file's header
abbrev pub program_header_offset : ℕ → ℕ
program_header_offset k = 64 + 56 * k

abbrev pub program_header : List ℕ → ℕ → ProgramHeader
program_header file k = program_header_at file (program_header_offset k)

-- ---- what an executable file loads as: its entry, and a map from addresses to bytes and flags

-- a segment in memory: from `address` stand the file's bytes, and then zeros, `size` bytes in all
pub record Mapping : Type 0 where
  pub address : ℕ
  pub flags : Flags
  pub size : ℕ
  pub file_bytes : List ℕ

pub record Executable : Type 0 where
  pub entry : ℕ
  pub mappings : List Mapping

-- whether a segment has the address
abbrev pub holds : ℕ → Mapping → Bool
holds address m = nat_le m.address address && nat_lt address (m.address + m.size)

-- the byte of a segment at one of its addresses: past the file's bytes it is zero
abbrev pub byte_of : ℕ → Mapping → ℕ
byte_of address m = slice_index m.file_bytes (address - m.address)

-- the segment that has an address: at most one does
abbrev pub mapping_at : Executable → ℕ → Option Mapping
mapping_at x address = find (holds address) x.mappings

abbrev pub byte_in : Executable → ℕ → Option ℕ
byte_in x address = option_map (byte_of address) (mapping_at x address)

abbrev pub flags_in : Executable → ℕ → Option Flags
flags_in x address = option_map (λ m. m.flags) (mapping_at x address)

-- whether an instruction at this address lies in the segment and may be executed
abbrev pub holds_instruction : ℕ → Mapping → Bool
holds_instruction address m =
    is_executable m.flags && nat_le m.address address && nat_le (address + 4) (m.address + m.size)

-- whether one of the segments has the first instruction of a program
abbrev pub has_entry : ℕ → List Mapping → Bool
has_entry entry mappings = list_any (holds_instruction entry) mappings

-- what every loaded segment keeps
pub record IsMapping (m : Mapping) : Type 0 where
  pub not_empty : 0 < m.size
  pub file_part : length m.file_bytes ≤ m.size
  pub above_start : code_start ≤ m.address
  pub below_stack : m.address + m.size ≤ image_end

-- what every loaded file keeps: its segments rise without overlap, and it starts at an
-- instruction's address in code
pub record IsExecutable (x : Executable) : Type 0 where
  pub each : (k : ℕ) (m : Mapping) → slice_get x.mappings k ≡ Some m → IsMapping m
  pub rising : (k : ℕ) (a b : Mapping) → slice_get x.mappings k ≡ Some a →
      slice_get x.mappings (k + 1) ≡ Some b → a.address + a.size ≤ b.address
  pub aligned : x.entry % 4 ≡ 0
  pub in_code : has_entry x.entry x.mappings ≡ true

-- e_ident: the magic number, ELFCLASS64, ELFDATA2LSB, EV_CURRENT, ELFOSABI_NONE, ABI version 0,
-- padding
abbrev pub e_ident : List ℕ
e_ident = 0x7f ∷ 0x45 ∷ 0x4c ∷ 0x46 ∷ 2 ∷ 1 ∷ 1 ∷ 0 ∷ 0 ∷ 0 ∷ 0 ∷ 0 ∷ 0 ∷ 0 ∷ 0 ∷ 0 ∷ []

-- ET_EXEC is 2, EM_RISCV is 243, EV_CURRENT is 1
abbrev pub is_kind : FileHeader → Bool
is_kind h = h.e_type == 2 && h.e_machine == 243 && h.e_version == 1 && h.e_flags == 0
    && h.e_ehsize == 64 && h.e_phentsize == 56

-- one table of program headers, right after the file's header, and no section headers
abbrev pub has_one_table : FileHeader → Bool
has_one_table h =
    h.e_phoff == 64 && h.e_shoff == 0 && nat_lt 0 h.e_phnum && nat_le h.e_phnum 16
    && h.e_shentsize == 0 && h.e_shnum == 0 && h.e_shstrndx == 0

-- PT_LOAD is 1; a page has 4096 bytes
abbrev pub is_loadable : ProgramHeader → Bool
is_loadable h =
    h.p_type == 1 && is_some (flags_of h.p_flags) && h.p_paddr == h.p_vaddr && h.p_align == 4096
    && h.p_offset % 4096 == h.p_vaddr % 4096
    && nat_lt 0 h.p_memsz
    && nat_le h.p_filesz h.p_memsz

-- the segment's bytes are in the file
abbrev pub is_whole : List ℕ → ProgramHeader → Bool
is_whole file h = nat_le (h.p_offset + h.p_filesz) (length file)

-- the segment stands at or above `low`, and below the stack
abbrev pub is_placed : ℕ → ProgramHeader → Bool
is_placed low h = nat_le low h.p_vaddr && nat_le (h.p_vaddr + h.p_memsz) image_end

-- the lowest address that segment k may have: the end of the one before it
abbrev pub lowest : List ℕ → ℕ → ℕ
lowest file zero = code_start
lowest file (suc k) = let h = program_header file k in h.p_vaddr + h.p_memsz

-- program header h puts the segment m into memory: file bytes from p_offset at p_vaddr, zeros from
-- p_filesz to p_memsz
pub record Maps (file : List ℕ) (low : ℕ) (h : ProgramHeader) (m : Mapping) : Type 0 where
  pub loadable : is_loadable h ≡ true
  pub whole : is_whole file h ≡ true
  pub placed : is_placed low h ≡ true
  pub p_vaddr : m.address ≡ h.p_vaddr
  pub p_flags : Some m.flags ≡ flags_of h.p_flags
  pub p_memsz : m.size ≡ h.p_memsz
  pub p_filesz : m.file_bytes ≡ take h.p_filesz (drop h.p_offset file)

-- these are the file's first `count` segments, in order
pub record MapsAll (file : List ℕ) (count : ℕ) (mappings : List Mapping) : Type 0 where
  pub number : length mappings ≡ count
  pub each : (k : ℕ) (m : Mapping) → slice_get mappings k ≡ Some m →
      Maps file (lowest file k) (program_header file k) m

-- the file has a header of an executable for RISC-V, and all the program headers that it tells of
pub record HasHeaders (file : List ℕ) : Type 0 where
  pub long_enough : 64 ≤ length file
  pub ident : starts_with nat_eq file e_ident ≡ true
  pub kind : is_kind (file_header file) ≡ true
  pub table : has_one_table (file_header file) ≡ true
  pub whole : program_header_offset (file_header file).e_phnum ≤ length file

-- the file keeps every condition, and loads as x
pub record Loads (file : List ℕ) (x : Executable) : Type 0 where
  pub headers : HasHeaders file
  pub segments : MapsAll file (file_header file).e_phnum x.mappings
  pub entry : x.entry ≡ (file_header file).e_entry
  pub aligned : x.entry % 4 ≡ 0
  pub in_code : has_entry x.entry x.mappings ≡ true

-- ---- where an image's words and bytes stand in memory, by address

-- x is in memory what the image says: each word of the code, lowest byte first, to be executed
-- only, each byte of the data, to be read and written, and nothing else
pub record Stands (image : Contents) (x : Executable) : Type 0 where
  pub entry : x.entry ≡ code_start
  pub code : (k j : ℕ) → k < length image.code → j < 4 →
      byte_in x (code_start + 4 * k + j) ≡ Some (byte_at j (slice_index image.code k))
  pub code_flags : (at : ℕ) → code_start ≤ at → at < code_start + code_size image →
      flags_in x at ≡ Some Execute
  pub data_bytes : (k : ℕ) → k < length image.data_bytes →
      byte_in x (data_start image + k) ≡ Some (slice_index image.data_bytes k)
  pub data_flags : (k : ℕ) → k < length image.data_bytes →
      flags_in x (data_start image + k) ≡ Some ReadWrite
  pub nothing_else : (at : ℕ) (f : Flags) → flags_in x at ≡ Some f
      → ((code_start ≤ at) × (at < code_start + code_size image))
      ⊎ ((data_start image ≤ at) × (at < data_start image + length image.data_bytes))

-- ---- what each refusal says of a file

-- what a refusal says of a segment
abbrev pub RefusesSegment : LoadError → List ℕ → ℕ → ProgramHeader → Type 0
RefusesSegment CutOff file low h = is_whole file h ≡ false
RefusesSegment OtherKind file low h = ⊥
RefusesSegment OutOfRange file low h = is_loadable h ≡ false
RefusesSegment Misplaced file low h = is_placed low h ≡ false
RefusesSegment BadEntry file low h = ⊥
RefusesSegment Memory file low h = Unit {0}

-- a fact of one of the file's segments: of the lowest address that it may have, and of its header
abbrev pub OfSegment : List ℕ → (ℕ → ProgramHeader → Type 0) → Type 0
OfSegment file P =
    (k : ℕ) × (k < (file_header file).e_phnum) × (program_header_offset (k + 1) ≤ length file)
    × P (lowest file k) (program_header file k)

-- what a refusal says of the file; one for want of memory says nothing of it
abbrev pub Refuses : LoadError → List ℕ → Type 0
Refuses CutOff file =
    (length file < 64) ⊎ (length file < program_header_offset (file_header file).e_phnum)
    ⊎ OfSegment file (λ low h. is_whole file h ≡ false)
Refuses OtherKind file =
    (64 ≤ length file) × ((starts_with nat_eq file e_ident ≡ false)
    ⊎ (is_kind (file_header file) ≡ false))
Refuses OutOfRange file =
    (64 ≤ length file) × ((has_one_table (file_header file) ≡ false)
    ⊎ OfSegment file (λ low h. is_loadable h ≡ false))
Refuses Misplaced file = OfSegment file (λ low h. is_placed low h ≡ false)
Refuses BadEntry file =
    ((file_header file).e_entry % 4 ≢ 0)
    ⊎ ((mappings : List Mapping) × MapsAll file (file_header file).e_phnum mappings
    × (has_entry (file_header file).e_entry mappings ≡ false))
Refuses Memory file = Unit {0}
