-- The argument range: how long it is, and that it is mapped.
use Rattle.rv_isa.specs.declared.abi.TheConstants.{ARGUMENT_BYTES}
use Rattle.std.proofs.Common.{◌≡◌, ℕ, ◌+◌, ◌*◌, ◌<◌, ◌≤◌, true, refl, sym, ◌∙◌, ap, subst, arith, List, [], ◌∷◌, ◌++◌, length, length-append, ◌&&◌, nat_le, nat_lt, Option, Some, None, replicate}
use Rattle.std.specs.Int.{w64, to_le_bytes}
use Rattle.std.proofs.lemmas.Bool.{and_parts, and_from, leb-true, le-leb, lt-ltb}
use Rattle.rv_isa.specs.Prelude.{each_of, argument_bytes, pointer_bytes, word_bytes, stack_top, stack_bottom}
use Rattle.rv_isa.specs.declared.permission.Permission.{Permission}
use Rattle.rv_isa.proofs.MemoryLemmas.{each_from}
use Rattle.elf_file.specs.declared.flags.Flags.{Flags}
use Rattle.elf_file.specs.declared.flags.Flags.TheVariants.{Execute, Read, ReadExecute, ReadWrite}
use Rattle.elf_file.specs.Conditions.{Executable, flags_in}
use Rattle.rv_machine.specs.Mapped.{is_mapped, read_and_write, permission_in, stack_permission, flags_or}
use Rattle.obj_link.specs.Prelude.{are_arguments}

-- ---- lengths

pub pointers_length : (at : ℕ) (ws : List (List ℕ)) → length (pointer_bytes at ws) ≡ 8 * length ws
pointers_length at [] = refl
pointers_length at (w ∷ ws) =
    let rest : length (pointer_bytes (at + length w + 1) ws) ≡ 8 * length ws = pointers_length (at + length w + 1) ws in
    omega (arith, rest, length-append (to_le_bytes w64 at) (pointer_bytes (at + length w + 1) ws))

pub arguments_length : (ws : List (List ℕ)) → length (argument_bytes ws) ≡ 40 + 8 * length ws + length (word_bytes ws)
unfolding argument_bytes
arguments_length ws =
    let count : List ℕ = to_le_bytes w64 (length ws) in
    let pointers : List ℕ = pointer_bytes (stack_top + 40 + 8 * length ws) ws in
    let zeros : List ℕ = replicate 32 0 in
    omega (
      arith,
      length-append (count ++ pointers ++ zeros) (word_bytes ws),
      length-append (count ++ pointers) zeros,
      length-append count pointers,
      pointers_length (stack_top + 40 + 8 * length ws) ws,
    )

-- the parts of the test
pub arguments_count : (ws : List (List ℕ)) → are_arguments ws ≡ true → length ws ≤ 1024
arguments_count ws h = leb-true (length ws) 1024 (and_parts _ _ (and_parts _ _ h).0).0

pub arguments_size : (ws : List (List ℕ)) → are_arguments ws ≡ true → length (word_bytes ws) ≤ 65536
arguments_size ws h = leb-true (length (word_bytes ws)) 65536 (and_parts _ _ (and_parts _ _ h).0).1

pub arguments_fit : (ws : List (List ℕ)) → are_arguments ws ≡ true → length (argument_bytes ws) ≤ ARGUMENT_BYTES
arguments_fit ws h = omega (arith, arguments_length ws, arguments_count ws h, arguments_size ws h)

-- ---- permissions

any_flags : (o : Option Flags) (p : Permission) → is_mapped p ≡ true → is_mapped (flags_or o p) ≡ true
any_flags None p h = h
any_flags (Some Execute) p h = refl
any_flags (Some Read) p h = refl
any_flags (Some ReadExecute) p h = refl
any_flags (Some ReadWrite) p h = refl

pub in_stack : (n a : ℕ) → stack_bottom ≤ a → a < stack_top + n → stack_permission n a ≡ read_and_write
in_stack n a low high =
    let test : (nat_le stack_bottom a && nat_lt a (stack_top + n)) ≡ true =
    and_from (nat_le stack_bottom a) (nat_lt a (stack_top + n)) (le-leb stack_bottom a low) (lt-ltb a (stack_top + n) high) in
    rw test refl

-- all of the argument range is mapped
pub arguments_mapped : (x : Executable) (n : ℕ) → each_of (λ a. is_mapped (permission_in x n a)) stack_top n ≡ true
arguments_mapped x n =
    each_from (λ a. is_mapped (permission_in x n a)) stack_top n
    (λ a low high. any_flags (flags_in x a) (stack_permission n a) (ap is_mapped (in_stack n a (omega arith) high)))

-- the same of any map that is that of the start
pub start_mapped : (allows allows' : ℕ → Permission) (x : Executable) (n m : ℕ) → allows' ≡ allows → allows ≡ permission_in x n → m ≡ n
    → each_of (λ a. is_mapped (allows' a)) stack_top m ≡ true
start_mapped allows allows' x n m e f h =
    let P : (ℕ → Permission) → Type 0 = λ p. each_of (λ a. is_mapped (p a)) stack_top m ≡ true in
    let Q : ℕ → Type 0 = λ k. each_of (λ a. is_mapped (permission_in x n a)) stack_top k ≡ true in
    subst P (sym (e ∙ f)) (subst Q (sym h) (arguments_mapped x n))
