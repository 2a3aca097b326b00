-- The state that a machine starts in is a start of its file.
use Rattle.std.proofs.Common.{◌≡◌, ℕ, zero, suc, ◌+◌, ◌*◌, ◌^◌, ◌<◌, ◌≤◌, Bool, true, false, refl, ◌∙◌, ap, arith, List, [], ◌∷◌, ◌++◌, length, lit<, mod-lt, inl, inr, ◌&&◌, ◌⊎◌, nat_le, nat_lt, Option, Some, None, slice_get, slice_index, find, replicate, unwrap_or, ◌==◌, if◌then◌else◌, option_map, le-ltb, ltb-true, ltb-false}
use Rattle.std.specs.Int.{w64, to_le_bytes}
use Rattle.std.proofs.Math.Bool.{and-false}
use Rattle.rv_isa.specs.Prelude.{updated, argument_bytes, pointer_bytes, word_bytes, stack_top, stack_bottom}
use Rattle.rv_isa.proofs.MemoryLemmas.{updated_here, updated_elsewhere}
use Rattle.rv_isa.specs.declared.permission.Permission.{Permission}
use Rattle.elf_file.specs.declared.flags.Flags.{Flags}
use Rattle.elf_file.specs.Conditions.{Executable, Mapping, IsMapping, IsExecutable, holds, mapping_at, byte_in, byte_of}
use Rattle.rv_machine.specs.Mapped.{read_and_write, stack_permission, permission_in, start_byte, flags_or}
use Rattle.obj_link.specs.Prelude.{are_arguments}
use Rattle.rv_machine.specs.Steps.{filled, start_state, AreBytes, AreTexts}
use Rattle.rv_machine.specs.Starts.{Starts}
use Rattle.rv_machine.proofs.Arguments.{in_stack}

-- ---- bytes that were filled in

filled_below : (f : ℕ → ℕ) (at : ℕ) (bs : List ℕ) (a : ℕ) → a < at → filled f at bs a ≡ f a
filled_below f at [] a h = refl
filled_below f at (b ∷ bs) a h = filled_below (updated f at b) (at + 1) bs a (omega arith) ∙ updated_elsewhere f at b a (omega arith)

filled_at : (f : ℕ → ℕ) (at : ℕ) (bs : List ℕ) (k : ℕ) → k < length bs → filled f at bs (at + k) ≡ slice_index bs k
filled_at f at [] k h = absurd (omega arith)
filled_at f at (b ∷ bs) zero h =
    let e : at + 0 ≡ at = omega arith in
    rw e (filled_below (updated f at b) (at + 1) bs at (omega arith) ∙ updated_here f at b)
filled_at f at (b ∷ bs) (suc k) h =
    let e : at + suc k ≡ at + 1 + k = omega arith in
    rw e (filled_at (updated f at b) (at + 1) bs k (omega arith))

chosen_small : (c : Bool) (x y : ℕ) → x < 256 → y < 256 → (if c then x else y) < 256
chosen_small true x y p q = p
chosen_small false x y p q = q

updated_small : (f : ℕ → ℕ) (at b : ℕ) → b < 256 → ((a : ℕ) → f a < 256) → (a : ℕ) → updated f at b a < 256
updated_small f at b small rest a = chosen_small (a == at) b (f a) small (rest a)

filled_small : (f : ℕ → ℕ) (at : ℕ) (bs : List ℕ) → AreBytes bs → ((a : ℕ) → f a < 256) → (a : ℕ) → filled f at bs a < 256
filled_small f at [] small rest a = rest a
filled_small f at (b ∷ bs) small rest a = filled_small (updated f at b) (at + 1) bs small.1 (updated_small f at b small.0 rest) a

-- ---- the argument range holds bytes

bytes-append : (xs ys : List ℕ) → AreBytes xs → AreBytes ys → AreBytes (xs ++ ys)
bytes-append [] ys p q = q
bytes-append (x ∷ xs) ys p q = (p.0, bytes-append xs ys p.1 q)

number_bytes : (n : ℕ) → AreBytes (to_le_bytes w64 n)
number_bytes n =
    (mod-lt _ (lit< tt), (mod-lt _ (lit< tt), (mod-lt _ (lit< tt), (mod-lt _ (lit< tt), (mod-lt _ (lit< tt), (mod-lt _ (lit< tt), (mod-lt _ (lit< tt), (mod-lt _ (lit< tt), tt))))))))

pointers_small : (at : ℕ) (ws : List (List ℕ)) → AreBytes (pointer_bytes at ws)
pointers_small at [] = tt
pointers_small at (w ∷ ws) = bytes-append (to_le_bytes w64 at) (pointer_bytes (at + length w + 1) ws) (number_bytes at) (pointers_small (at + length w + 1) ws)

words_small : (ws : List (List ℕ)) → AreTexts ws → AreBytes (word_bytes ws)
words_small [] h = tt
words_small (w ∷ ws) h =
    bytes-append (w ++ 0 ∷ []) (word_bytes ws) (bytes-append w (0 ∷ []) h.0 (lit< tt, tt)) (words_small ws h.1)

zeros_small : (n : ℕ) → AreBytes (replicate n 0)
zeros_small zero = tt
zeros_small (suc n) = (lit< tt, zeros_small n)

arguments_small : (ws : List (List ℕ)) → AreTexts ws → AreBytes (argument_bytes ws)
unfolding argument_bytes
arguments_small ws h =
    let count : List ℕ = to_le_bytes w64 (length ws) in
    let pointers : List ℕ = pointer_bytes (stack_top + 40 + 8 * length ws) ws in
    bytes-append (count ++ pointers ++ replicate 32 0) (word_bytes ws)
    (bytes-append (count ++ pointers) (replicate 32 0)
    (bytes-append count pointers (number_bytes (length ws)) (pointers_small (stack_top + 40 + 8 * length ws) ws)) (zeros_small 32))
    (words_small ws h)

-- ---- no segment reaches the stack

none_holds : (a : ℕ) (ms : List Mapping) → ((k : ℕ) (m : Mapping) → slice_get ms k ≡ Some m → IsMapping m) → stack_bottom ≤ a → find (holds a) ms ≡ None
none_holds a [] each h = refl
none_holds a (m ∷ ms) each h =
    let is : IsMapping m = each 0 m refl in
    let past : nat_lt a (m.address + m.size) ≡ false = le-ltb a (m.address + m.size) (omega (arith, is.below_stack)) in
    let out : holds a m ≡ false = ap (λ b. nat_le m.address a && b) past ∙ and-false (nat_le m.address a) in
    rw out (none_holds a ms (λ k n e. each (suc k) n e) h)

not_mapped : (x : Executable) (a : ℕ) → IsExecutable x → stack_bottom ≤ a → mapping_at x a ≡ None
not_mapped x a ex h = none_holds a x.mappings ex.each h

tested : (b : Bool) (a n : ℕ) → nat_lt a n ≡ b → (a < n) ⊎ (n ≤ a)
tested true a n e = inl (ltb-true a n e)
tested false a n e = inr (ltb-false a n e)

-- a mapped address is below the stack
mapped_below : (x : Executable) (a b : ℕ) → IsExecutable x → byte_in x a ≡ Some b → a < stack_bottom
mapped_below x a b ex e = elim (tested (nat_lt a stack_bottom) a stack_bottom refl) [
  | inl below ↦ below
  | inr above ↦
      let none : byte_in x a ≡ None = ap (option_map (byte_of a)) (not_mapped x a ex above) in
      absurd (cc)
]

start_small : (o : Option ℕ) → ((b : ℕ) → o ≡ Some b → b < 256) → unwrap_or o 0 < 256
start_small None h = lit< tt
start_small (Some b) h = h b refl

registers_small : (c : Bool) → (if c then stack_top else 0) < 2 ^ 64
registers_small true = lit< tt
registers_small false = lit< tt

in_free_stack : (x : Executable) (n a : ℕ) → IsExecutable x → stack_bottom ≤ a → a < stack_top + n → permission_in x n a ≡ read_and_write
in_free_stack x n a ex low high =
    ap (λ (o : Option Mapping). flags_or (option_map (λ m. m.flags) o) (stack_permission n a)) (not_mapped x a ex low) ∙ in_stack n a low high

pub machine_starts : (x : Executable) (words : List (List ℕ)) → IsExecutable x → x.entry < 2 ^ 64 → ((a b : ℕ) → byte_in x a ≡ Some b → b < 256)
    → are_arguments words ≡ true → AreTexts words → Starts x words (start_state x words)
machine_starts x words ex entry small ok texts =
    let n = length (argument_bytes words) in
    record {
      begins = record {
        state = record {
          pc = entry;
          registers = λ k. registers_small (k == 2);
          bytes = filled_small (start_byte x) stack_top (argument_bytes words) (arguments_small words texts) (λ a. start_small (byte_in x a) (small a));
        };
        stack_pointer = refl;
        arguments = λ k h. filled_at (start_byte x) stack_top (argument_bytes words) k h;
        readable = λ a low high. ap (λ (p : Permission). p.readable) (in_free_stack x n a ex low high);
        writable = λ a low high. ap (λ (p : Permission). p.writable) (in_free_stack x n a ex low high);
        silent = refl;
      };
      entry = refl;
      bytes = λ a b e.
          let below : a < stack_bottom = mapped_below x a b ex e in
          filled_below (start_byte x) stack_top (argument_bytes words) a (omega (arith, below)) ∙ ap (λ (o : Option ℕ). unwrap_or o 0) e;
      permissions = λ a f e. ap (λ (o : Option Flags). flags_or o (stack_permission n a)) e;
    }
