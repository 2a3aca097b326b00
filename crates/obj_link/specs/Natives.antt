-- The words with which every program begins: its start, and the predefined functions `write` and
-- `exit`. A system call's arguments stand where a function's do.
use Rattle.std.specs.Prelude.{ℕ, List, [], ◌∷◌, pos}
use Rattle.bits.specs.Words.{upper_field, lower_field}
use Rattle.rv_isa.specs.declared.abi.TheConstants.{ZERO, RETURN_ADDRESS, STACK_POINTER, FIRST_TEMPORARY, FIRST_ARGUMENT, SECOND_ARGUMENT, SYSTEM_CALL, WRITE, EXIT}
use Rattle.rv_isa.specs.Prelude.{i_type, u_type}

abbrev pub load_double : (rd rs1 offset : ℕ) → ℕ
load_double rd rs1 offset = i_type 0x03 3 rd rs1 (pos offset)

abbrev pub add_immediate : (rd rs1 immediate : ℕ) → ℕ
add_immediate rd rs1 immediate = i_type 0x13 0 rd rs1 (pos immediate)

abbrev pub jump_to : (rd rs1 : ℕ) → ℕ
jump_to rd rs1 = i_type 0x67 0 rd rs1 (pos 0)

abbrev pub system_call : ℕ
system_call = 0x00000073

-- The argument range begins at x2 with the number of words and then has the list of them. `main` is
-- called with both, and what it returns is the status that the program exits with.
abbrev pub start_words : (main : ℕ) → List ℕ
start_words main =
    load_double FIRST_ARGUMENT STACK_POINTER 0
    ∷ add_immediate SECOND_ARGUMENT STACK_POINTER 8
    ∷ u_type 0x37 FIRST_TEMPORARY (upper_field main)
    ∷ i_type 0x1b 0 FIRST_TEMPORARY FIRST_TEMPORARY (lower_field main)
    ∷ jump_to RETURN_ADDRESS FIRST_TEMPORARY
    ∷ add_immediate SYSTEM_CALL ZERO EXIT
    ∷ system_call
    ∷ []

-- the system call does what `write` does, with the same arguments and the same result
abbrev pub write_words : List ℕ
write_words = add_immediate SYSTEM_CALL ZERO WRITE ∷ system_call ∷ jump_to ZERO RETURN_ADDRESS ∷ []

abbrev pub exit_words : List ℕ
exit_words = add_immediate SYSTEM_CALL ZERO EXIT ∷ system_call ∷ []
