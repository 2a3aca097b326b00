-- The words of an executable's code stand in the memory of every start.
use Rattle.std.proofs.Common.{◌≡◌, ℕ, ◌+◌, ◌*◌, ◌/◌, ◌%◌, ◌^◌, ◌<◌, Bool, true, ◌&&◌, nat_le, List, ◌++◌, length, ◌∙◌, ap, subst, arith, slice_get, slice_index, Some, length-append}
use Rattle.std.specs.Int.{byte_at}
use Rattle.std.proofs.lemmas.Bool.Decides.{nat_tests}
use Rattle.std.proofs.lemmas.Option.{slice_get_within, get_or_from_slice_get}
use Rattle.rv_isa.specs.Prelude.{State, number_at, each_of, allowed, is_code, Ground, WordsStand}
use Rattle.rv_isa.proofs.MemoryLemmas.{each_from}
use Rattle.obj_link.specs.Prelude.{Contents, IsImage, code_start}
use Rattle.elf_file.specs.declared.flags.Flags.TheVariants.{Execute}
use Rattle.elf_file.specs.Conditions.{Executable, Stands}
use Rattle.rv_machine.specs.Starts.{Starts}
use Rattle.il_ast.proofs.Listed.{get_before, get_behind}

-- ---- a number of 32 bits by its bytes

number_of_bytes : (w a b c d : ℕ) → w < 2 ^ 32 → a ≡ w % 256 → b ≡ w / 256 % 256 → c ≡ w / 65536 % 256 → d ≡ w / 16777216 % 256 → a + 256 * (b + 256 * (c + 256 * (d + 256 * 0))) ≡ w
number_of_bytes w a b c d small first second third fourth = omega (arith, small, first, second, third, fourth)

number_is : (f : ℕ → ℕ) (at w : ℕ) → w < 2 ^ 32 → ((j : ℕ) → j < 4 → f (at + j) ≡ byte_at j w) → number_at f at 4 ≡ w
unfolding number_at
number_is f at w small bytes =
    number_of_bytes w (f at) (f (at + 1)) (f (at + 1 + 1)) (f (at + 1 + 1 + 1)) small (ap f (omega arith) ∙ bytes 0 (omega arith)) (bytes 1 (omega arith))
    (ap f (omega arith) ∙ bytes 2 (omega arith)) (ap f (omega arith) ∙ bytes 3 (omega arith))

-- ---- words in memory

abbrev pub ground_of : State → Ground
ground_of s = record { allows = s.allows; code = s.bytes }

-- a word of the code
record HasWord (image : Contents) (k w : ℕ) : Type 0 where
  within : k < length image.code
  is : slice_index image.code k ≡ w
  small : w < 2 ^ 32

has_word : (image : Contents) → IsImage image → (k w : ℕ) → slice_get image.code k ≡ Some w → HasWord image k w
has_word image good k w h =
    let is : slice_index image.code k ≡ w = get_or_from_slice_get image.code k w 0 h in
    record { within = slice_get_within image.code k w h; is = is; small = subst (λ n. n < 2 ^ 32) is (good.words k) }

word_number : (image : Contents) (x : Executable) (words : List (List ℕ)) (s : State) → Stands image x → Starts x words s → (k w : ℕ) → HasWord image k w → number_at s.bytes (code_start + 4 * k) 4 ≡ w
word_number image x words s stands starts k w h =
    number_is s.bytes (code_start + 4 * k) w h.small
    (λ j lt. starts.bytes (code_start + 4 * k + j) (byte_at j (slice_index image.code k)) (stands.code k j h.within lt) ∙ ap (byte_at j) h.is)

word_code : (image : Contents) (x : Executable) (words : List (List ℕ)) (s : State) → IsImage image → Stands image x → Starts x words s → (k : ℕ) → k < length image.code → allowed (λ a. is_code (s.allows a)) (code_start + 4 * k) 4 ≡ true
word_code image x words s good stands starts k within =
    let below = good.below_stack in
    let small : nat_le (code_start + 4 * k + 4) (2 ^ 64) ≡ true = grind (arith, nat_tests) in
    let each : each_of (λ a. is_code (s.allows a)) (code_start + 4 * k) 4 ≡ true =
    each_from (λ a. is_code (s.allows a)) (code_start + 4 * k) 4
    (λ a low high. ap is_code (starts.permissions a Execute (stands.code_flags a (omega (arith, low)) (omega (arith, high, within))))) in
    both (nat_le (code_start + 4 * k + 4) (2 ^ 64)) (each_of (λ a. is_code (s.allows a)) (code_start + 4 * k) 4) small each
  where
    both : (a b : Bool) → a ≡ true → b ≡ true → (a && b) ≡ true
    both a b h j = ap (λ x. x && b) h ∙ j

-- words of the code, wherever they are in it, stand in the memory of every start
pub words_stand : (image : Contents) (x : Executable) (words : List (List ℕ)) (s : State) → IsImage image → Stands image x → Starts x words s → (pre mid post : List ℕ) → image.code ≡ pre ++ (mid ++ post) → WordsStand (ground_of s) (code_start + 4 * length pre) mid
words_stand image x words s good stands starts pre mid post is =
    let below = good.below_stack in
    let all : length image.code ≡ length pre + length (mid ++ post) = ap length is ∙ length-append pre (mid ++ post) in
    let long : length (mid ++ post) ≡ length mid + length post = length-append mid post in
    record {
      aligned = omega arith;
      inside = omega (arith, below, all, long);
      here =
          λ k w found.
          ap (λ a. number_at s.bytes a 4) (place k) ∙ word_number image x words s stands starts (length pre + k) w (has_word image good (length pre + k) w (found_in k w found));
      fetched =
          λ k w found.
          ap (λ a. allowed (λ b. is_code (s.allows b)) a 4) (place k)
          ∙ word_code image x words s good stands starts (length pre + k) (has_word image good (length pre + k) w (found_in k w found)).within;
    }
  where
    place : (k : ℕ) → code_start + 4 * length pre + 4 * k ≡ code_start + 4 * (length pre + k)
    place k = omega arith

    found_in : (k w : ℕ) → slice_get mid k ≡ Some w → slice_get image.code (length pre + k) ≡ Some w
    found_in k w found = ap (λ l. slice_get l (length pre + k)) is ∙ (get_behind pre (mid ++ post) k ∙ get_before mid post k w found)
