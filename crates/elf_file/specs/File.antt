-- The file that is written of an image: the file's header, a program header for the code and one
-- for the data if there is any, the code's words on the next page, the data on the page after them;
-- zeros between. ELF64 object file format, "File Header", "Program Header"; e_phnum program headers
-- follow the file's header.
use Rattle.std.specs.Prelude.{ℕ, ◌+◌, ◌-◌, List, [], ◌∷◌, ◌++◌, length, replicate, flat_map}
use Rattle.byteorder.specs.Endian.{little_bytes}
use Rattle.obj_link.specs.Prelude.{Contents, code_start, code_size, data_start, round_to_page}
use Rattle.elf_file.specs.declared.flags.Flags.{Flags}
use Rattle.elf_file.specs.declared.flags.Flags.TheVariants.{Execute, Read, ReadExecute, ReadWrite}
use Rattle.elf_file.specs.declared.fields.Field.{Field}
use Rattle.elf_file.specs.declared.fields.Field.TheVariants.{Half, Word, Xword}
use Rattle.elf_file.specs.declared.headers.FileHeader.{FileHeader}
use Rattle.elf_file.specs.declared.headers.ProgramHeader.{ProgramHeader}
use Rattle.elf_file.specs.Conditions.{e_ident, Mapping, Executable}

-- the bytes of a field, lowest first (ELFDATA2LSB)
abbrev pub field_bytes : Field → List ℕ
field_bytes (Half n) = little_bytes 2 n
field_bytes (Word n) = little_bytes 4 n
field_bytes (Xword n) = little_bytes 8 n

-- Elf64_Ehdr after e_ident
abbrev pub file_header_fields : FileHeader → List Field
file_header_fields h =
    Half h.e_type ∷ Half h.e_machine ∷ Word h.e_version ∷ Xword h.e_entry ∷ Xword h.e_phoff
    ∷ Xword h.e_shoff ∷ Word h.e_flags ∷ Half h.e_ehsize ∷ Half h.e_phentsize ∷ Half h.e_phnum
    ∷ Half h.e_shentsize ∷ Half h.e_shnum ∷ Half h.e_shstrndx ∷ []

-- Elf64_Phdr
abbrev pub program_header_fields : ProgramHeader → List Field
program_header_fields h =
    Word h.p_type ∷ Word h.p_flags ∷ Xword h.p_offset ∷ Xword h.p_vaddr ∷ Xword h.p_paddr
    ∷ Xword h.p_filesz ∷ Xword h.p_memsz ∷ Xword h.p_align ∷ []

abbrev pub fields_bytes : List Field → List ℕ
fields_bytes fields = flat_map field_bytes fields

-- the header of an executable for RISC-V with `count` segments
abbrev pub header_for : ℕ → FileHeader
header_for count = record {
  e_type = 2;
  e_machine = 243;
  e_version = 1;
  e_entry = code_start;
  e_phoff = 64;
  e_shoff = 0;
  e_flags = 0;
  e_ehsize = 64;
  e_phentsize = 56;
  e_phnum = count;
  e_shentsize = 0;
  e_shnum = 0;
  e_shstrndx = 0;
}

-- the number of flags
abbrev pub flags_number : Flags → ℕ
flags_number Execute = 1
flags_number Read = 4
flags_number ReadExecute = 5
flags_number ReadWrite = 6

-- the program header of a segment whose `size` bytes stand at `offset` in the file
abbrev pub segment_header : Flags → (offset address size : ℕ) → ProgramHeader
segment_header flags offset address size = record {
  p_type = 1;
  p_flags = flags_number flags;
  p_offset = offset;
  p_vaddr = address;
  p_paddr = address;
  p_filesz = size;
  p_memsz = size;
  p_align = 4096;
}

-- the code's words, each lowest byte first
abbrev pub code_bytes : List ℕ → List ℕ
code_bytes words = flat_map (little_bytes 4) words

-- where the file has the data
abbrev pub data_offset : Contents → ℕ
data_offset image = 4096 + round_to_page (code_size image)

abbrev pub code_header : Contents → ProgramHeader
code_header image = segment_header Execute 4096 code_start (code_size image)

abbrev pub data_header : Contents → ProgramHeader
data_header image =
    segment_header ReadWrite (data_offset image) (data_start image) (length image.data_bytes)

-- xs, and zeros after it up to n bytes
unfoldable pub padded : ℕ → List ℕ → List ℕ
padded n xs = xs ++ replicate (n - length xs) 0

-- the file of an image without data: `headers` are the bytes of all headers
abbrev pub with_code : Contents → (headers : List ℕ) → List ℕ
with_code image headers = padded 4096 headers ++ code_bytes image.code

-- the bytes of the file's header and of these program headers
abbrev pub headers_bytes : List ProgramHeader → List ℕ
headers_bytes headers =
    e_ident ++ fields_bytes (file_header_fields (header_for (length headers)))
    ++ flat_map (λ h. fields_bytes (program_header_fields h)) headers

abbrev pub file_with : Contents → (bytes : List ℕ) → List ℕ
file_with image [] = with_code image (headers_bytes (code_header image ∷ []))
file_with image (b ∷ bs) =
    padded (data_offset image) (with_code image
    (headers_bytes (code_header image ∷ data_header image ∷ []))) ++ b ∷ bs

unfoldable pub file_of : Contents → List ℕ
file_of image = file_with image image.data_bytes

-- what an image puts into memory: its code, which can only be executed, and its data, which can be
-- read and written
abbrev pub code_mapping : Contents → Mapping
code_mapping image =
    record {
      address = code_start;
      flags = Execute;
      size = code_size image;
      file_bytes = code_bytes image.code;
    }

abbrev pub data_mappings : ℕ → List ℕ → List Mapping
data_mappings address [] = []
data_mappings address (b ∷ bs) =
    record { address = address; flags = ReadWrite; size = length (b ∷ bs); file_bytes = b ∷ bs }
    ∷ []

unfoldable pub executable_of : Contents → Executable
executable_of image =
    record {
      entry = code_start;
      mappings = code_mapping image
          ∷ data_mappings (data_start image) image.data_bytes;
    }
