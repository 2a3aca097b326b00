-- The start of a program, in the manner of Linux (System V psABI supplement, "Process
-- Initialization"): what it finds in x2 and on the stack. Where its code and data stand is the
-- executable file's to say.
use Rattle.std.specs.Prelude.{◌≡◌, ℕ, ◌+◌, ◌*◌, ◌<◌, ◌≤◌, true, List, [], ◌∷◌, ◌++◌, length, replicate, slice_index}
use Rattle.std.specs.Int.{w64, to_le_bytes}
use Rattle.rv_isa.specs.State.{State, IsState}
use Rattle.rv_isa.specs.Types.{STACK_POINTER, STACK_TOP, STACK_BOTTOM}

-- the stack pointer at the start: the stack is below it, the arguments from it upward
abbrev pub stack_top : ℕ
stack_top = STACK_TOP

abbrev pub stack_bottom : ℕ
stack_bottom = STACK_BOTTOM

-- the words one after another, each with a closing zero
abbrev pub word_bytes : List (List ℕ) → List ℕ
word_bytes [] = []
word_bytes (w ∷ ws) = (w ++ 0 ∷ []) ++ word_bytes ws

-- a pointer to each word, the first of which stands at `at`
abbrev pub pointer_bytes : (at : ℕ) → List (List ℕ) → List ℕ
pointer_bytes at [] = []
pointer_bytes at (w ∷ ws) = to_le_bytes w64 at ++ pointer_bytes (at + length w + 1) ws

-- the argument range: the number of words; a pointer to each and a null pointer; an empty
-- environment's null pointer; an empty auxiliary vector, of 16 zero bytes; the words
unfoldable pub argument_bytes : List (List ℕ) → List ℕ
argument_bytes words =
    to_le_bytes w64 (length words) ++ pointer_bytes (stack_top + 40 + 8 * length words) words
    ++ replicate 32 0 ++ word_bytes words

-- a start with these words. The stack and the arguments can be read and written, and nothing more
-- is asked of them: they may be executable or not. The registers but x2 and the bytes of the stack
-- hold anything
pub record StartsWith (words : List (List ℕ)) (s : State) : Type 0 where
  pub state : IsState s
  pub stack_pointer : s.registers STACK_POINTER ≡ stack_top
  pub arguments : (k : ℕ) → k < length (argument_bytes words) →
      s.bytes (stack_top + k) ≡ slice_index (argument_bytes words) k
  pub readable : (a : ℕ) → stack_bottom ≤ a → a < stack_top + length (argument_bytes words) →
      (s.allows a).readable ≡ true
  pub writable : (a : ℕ) → stack_bottom ≤ a → a < stack_top + length (argument_bytes words) →
      (s.allows a).writable ≡ true
  pub silent : s.output ≡ []
