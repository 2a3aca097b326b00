-- A linked program: the words and bytes that an executable puts into memory, and where they stand.
-- The addresses are this project's choice; the page is the 4096 bytes of p_align (ELF64, "Program
-- Header").
use Rattle.std.specs.Prelude.{◌≡◌, ℕ, ◌+◌, ◌*◌, ◌/◌, ◌%◌, ◌^◌, ◌<◌, ◌≤◌, List, length, slice_index}
use Rattle.obj_link.specs.declared.placing.image.TheConstants.{CODE_START, IMAGE_END}

-- the words of the code, and the bytes of the data after it
pub record Contents : Type 0 where
  pub code : List ℕ
  pub data_bytes : List ℕ

-- where the code begins, which is also where the program starts
abbrev pub code_start : ℕ
code_start = CODE_START

-- the lowest address of the stack: nothing of an image stands at or above it
abbrev pub image_end : ℕ
image_end = IMAGE_END

-- where `write` and `exit` stand, behind the 7 words of the start code, and the first function of the
-- program
abbrev pub write_address : ℕ
write_address = code_start + 28

abbrev pub exit_address : ℕ
exit_address = code_start + 40

abbrev pub functions_start : ℕ
functions_start = code_start + 48

-- the least multiple of a page that is at least n
abbrev pub round_to_page : ℕ → ℕ
round_to_page n = (n + 4095) / 4096 * 4096

-- how many bytes the code has, four for each word
abbrev pub code_size : Contents → ℕ
code_size image = 4 * length image.code

-- where the data begins: on the first page after the code
abbrev pub data_start : Contents → ℕ
data_start image = code_start + round_to_page (code_size image)

-- what every image keeps
pub record IsImage (image : Contents) : Type 0 where
  -- there is code, in words of 32 bits
  pub has_code : 0 < length image.code
  pub words : (k : ℕ) → slice_index image.code k < 2 ^ 32
  -- the data is made of slots of 16 bytes
  pub whole_slots : length image.data_bytes % 16 ≡ 0
  -- all of it lies below the stack
  pub below_stack : data_start image + length image.data_bytes ≤ image_end
