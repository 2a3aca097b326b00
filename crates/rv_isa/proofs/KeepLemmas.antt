-- A step keeps numbers in range.
use Rattle.std.proofs.Common.{◌≡◌, ℕ, zero, suc, ◌+◌, ◌/◌, ◌%◌, ◌^◌, ◌<◌, ◌++◌, Bool, true, false, subst, inl, inr, arith, lit<, mod-lt, Ok, Err, Option, Some, None, ◌==◌, if◌then◌else◌}
use Rattle.rv_isa.specs.Prelude.{State, IsState, register, put, written, updated, a0, a1, a2, a7, can_read, bytes_at, can_write, can_execute, number_at, stored, reg_value, regw_value, imm_value, addiw_value, shift_value, shiftw_value, upper_value, taken, moved, instruction_of, Stop, Exited, Broken, Faulted, jump, branch, load, load_size, load_value, even_below, act, act_on, step, store_size, write_call, environment_call, STANDARD_OUTPUT, BAD_DESCRIPTOR, WRITE, EXIT, ZERO, UnknownInstruction, Fetch, SystemCall, Register, LoadOp, Instr, Lui, Auipc, Jal, Jalr, Branch, Load, Store, Imm, Addiw, Shift, ShiftW, Reg, RegW, Fence, Ecall, Ebreak}
use Rattle.rv_isa.specs.declared.fault.Fault.TheVariants.{Load as LoadFault, Store as StoreFault}
use Rattle.rv_isa.proofs.MemoryLemmas.{number_below}
use Rattle.rv_isa.proofs.RangeLemmas.{reg_value_fits, regw_value_fits, imm_value_fits, addiw_value_fits, shift_value_fits, shiftw_value_fits, upper_value_fits, load_value_fits}
use Rattle.rv_isa.proofs.StayLemmas.{going, refusing, same, chosen, either, stopped, next}

chosen_below : (b : Bool) (x y m : ℕ) → x < m → y < m → (if b then x else y) < m
chosen_below true x y m p q = p
chosen_below false x y m p q = q

updated_below : (f : ℕ → ℕ) (at v m : ℕ) → v < m → ((n : ℕ) → f n < m) → (n : ℕ) → updated f at v n < m
updated_below f at v m h rest n = chosen_below (n == at) v (f n) m h (rest n)

written_below : (b : Bool) (f g : ℕ → ℕ) (n m : ℕ) → f n < m → g n < m → (if b then f else g) n < m
written_below true f g n m p q = p
written_below false f g n m p q = q

pub register_fits : (s : State) (r : Register) → IsState s → register s r < 2 ^ 64
register_fits s r is = chosen_below (r.number == ZERO) 0 (s.registers r.number) (2 ^ 64) (lit< tt) (is.registers r.number)

registers_fit : (s : State) (rd : Register) (v : ℕ) → IsState s → v < 2 ^ 64 → (n : ℕ) → written s.registers rd v n < 2 ^ 64
registers_fit s rd v is h n =
    written_below (rd.number == ZERO) s.registers (updated s.registers rd.number v) n (2 ^ 64) (is.registers n)
    (updated_below s.registers rd.number v (2 ^ 64) h is.registers n)

-- what is put in range leaves the state in range
pub put_keeps : (s : State) (rd : Register) (v : ℕ) → IsState s → v < 2 ^ 64 → IsState (put s rd v)
put_keeps s rd v is h = record { pc = mod-lt (s.pc + 4) (lit< tt); registers = registers_fit s rd v is h; bytes = is.bytes }

put_then : (s t : State) (rd : Register) (v : ℕ) → IsState s → v < 2 ^ 64 → going (put s rd v) ≡ Ok t → IsState t
put_then s t rd v is h e = let P : State → Type 0 = λ u. IsState u in subst P (same (put s rd v) t e) (put_keeps s rd v is h)

next_then : (s t : State) → IsState s → going (next s) ≡ Ok t → IsState t
next_then s t is e =
    let P : State → Type 0 = λ u. IsState u in
    subst P (same (next s) t e) (record { pc = mod-lt (s.pc + 4) (lit< tt); registers = is.registers; bytes = is.bytes })

jump_then : (s t : State) (rd : Register) (target : ℕ) → IsState s → target < 2 ^ 64 → jump s rd target ≡ Ok t → IsState t
jump_then s t rd target is h e =
    let u : State = record s { pc = target; registers = written s.registers rd ((s.pc + 4) % 2 ^ 64) } in
    let both = chosen (target % 4 == 0) u t (Faulted Fetch s.pc) e in
    let P : State → Type 0 = λ x. IsState x in
    subst P both.1 (record { pc = h; registers = registers_fit s rd ((s.pc + 4) % 2 ^ 64) is (mod-lt (s.pc + 4) (lit< tt)); bytes = is.bytes })

branch_then : (s t : State) (holds : Bool) (target : ℕ) → IsState s → target < 2 ^ 64 → branch s holds target ≡ Ok t → IsState t
branch_then s t true target is h e =
    let both = chosen (target % 4 == 0) (record s { pc = target }) t (Faulted Fetch s.pc) e in
    let P : State → Type 0 = λ x. IsState x in
    subst P both.1 (record { pc = h; registers = is.registers; bytes = is.bytes })
branch_then s t false target is h e = next_then s t is e

load_then : (s t : State) (op : LoadOp) (rd : Register) (at : ℕ) → IsState s → load s op rd at ≡ Ok t → IsState t
load_then s t op rd at is e =
    let v = load_value op (number_at s.bytes at (load_size op)) in
    let both = chosen (can_read s at (load_size op)) (put s rd v) t (Faulted LoadFault s.pc) e in
    let P : State → Type 0 = λ x. IsState x in
    subst P both.1 (put_keeps s rd v is (load_value_fits op (number_at s.bytes at (load_size op)) (number_below s.bytes at (load_size op) is.bytes)))

stored_bytes : (f : ℕ → ℕ) (at n v : ℕ) → ((a : ℕ) → f a < 256) → (a : ℕ) → stored f at n v a < 256
unfolding stored
stored_bytes f at zero v small a = small a
stored_bytes f at (suc n) v small a =
    updated_below (stored f (at + 1) n (v / 256)) at (v % 256) 256 (mod-lt v (lit< tt)) (stored_bytes f (at + 1) n (v / 256) small) a

store_then : (s t : State) (n v at : ℕ) (e : Stop) → IsState s
    → (if can_write s at n then Ok (record s { pc = (s.pc + 4) % 2 ^ 64; bytes = stored s.bytes at n v }) else Err e) ≡ Ok t → IsState t
store_then s t n v at e is h =
    let both = chosen (can_write s at n) (record s { pc = (s.pc + 4) % 2 ^ 64; bytes = stored s.bytes at n v }) t e h in
    let P : State → Type 0 = λ x. IsState x in
    subst P both.1 (record { pc = mod-lt (s.pc + 4) (lit< tt); registers = is.registers; bytes = stored_bytes s.bytes at n v is.bytes })

write_then : (s t : State) → IsState s → write_call s ≡ Ok t → IsState t
write_then s t is h =
    let at = register s a1 in
    let count = register s a2 in
    let u : State = record (put s a0 count) { output = s.output ++ bytes_at s.bytes at count } in
    let P : State → Type 0 = λ x. IsState x in
    elim (either (register s a0 % 2 ^ 32 == STANDARD_OUTPUT) (if can_read s at count then Ok u else Err (Faulted LoadFault s.pc)) (going (put s a0 BAD_DESCRIPTOR)) (Ok t) h) [
      | inl here ↦
          let both = chosen (can_read s at count) u t (Faulted LoadFault s.pc) here in
          subst P both.1 (record { pc = mod-lt (s.pc + 4) (lit< tt); registers = registers_fit s a0 count is (register_fits s a2 is); bytes = is.bytes })
      | inr elsewhere ↦ put_then s t a0 BAD_DESCRIPTOR is (lit< tt) elsewhere
    ]

call_then : (s t : State) → IsState s → environment_call s ≡ Ok t → IsState t
call_then s t is h =
    let exited = Exited (register s a0 % 256) in
    let unknown = Faulted SystemCall s.pc in
    elim (either (register s a7 == WRITE) (write_call s) (if register s a7 == EXIT then refusing exited else refusing unknown) (Ok t) h) [
      | inl wrote ↦ write_then s t is wrote
      | inr other ↦ elim (either (register s a7 == EXIT) (refusing exited) (refusing unknown) (Ok t) other) [
        | inl ended ↦ absurd (stopped exited t ended)
        | inr refused ↦ absurd (stopped unknown t refused)
      ]
    ]

pub act_keeps : (i : Instr) (s t : State) → IsState s → act i s ≡ Ok t → IsState t
act_keeps (Lui rd field) s t is h = put_then s t rd (upper_value field) is (upper_value_fits field) h
act_keeps (Auipc rd field) s t is h = put_then s t rd ((s.pc + upper_value field) % 2 ^ 64) is (mod-lt (s.pc + upper_value field) (lit< tt)) h
act_keeps (Jal rd offset) s t is h = jump_then s t rd (moved s.pc offset.value) is (mod-lt _ (lit< tt)) h
act_keeps (Jalr rd rs1 offset) s t is h =
    let at = moved (register s rs1) offset.value in
    let below : at < 2 ^ 64 = mod-lt _ (lit< tt) in
    jump_then s t rd (even_below at) is (omega (arith, below)) h
act_keeps (Branch op rs1 rs2 offset) s t is h =
    branch_then s t (taken op (register s rs1) (register s rs2)) (moved s.pc offset.value) is (mod-lt _ (lit< tt)) h
act_keeps (Load op rd rs1 offset) s t is h = load_then s t op rd (moved (register s rs1) offset.value) is h
act_keeps (Store op rs1 rs2 offset) s t is h =
    store_then s t (store_size op) (register s rs2) (moved (register s rs1) offset.value) (Faulted StoreFault s.pc) is h
act_keeps (Imm op rd rs1 immediate) s t is h =
    put_then s t rd (imm_value op (register s rs1) immediate.value) is
    (imm_value_fits op (register s rs1) immediate.value (register_fits s rs1 is) immediate.in_range) h
act_keeps (Addiw rd rs1 immediate) s t is h =
    put_then s t rd (addiw_value (register s rs1) immediate.value) is (addiw_value_fits (register s rs1) immediate.value) h
act_keeps (Shift op rd rs1 amount) s t is h =
    put_then s t rd (shift_value op (register s rs1) amount.value) is
    (shift_value_fits op (register s rs1) amount.value (register_fits s rs1 is) amount.in_range) h
act_keeps (ShiftW op rd rs1 amount) s t is h =
    put_then s t rd (shiftw_value op (register s rs1) amount.value) is (shiftw_value_fits op (register s rs1) amount.value) h
act_keeps (Reg op rd rs1 rs2) s t is h =
    put_then s t rd (reg_value op (register s rs1) (register s rs2)) is
    (reg_value_fits op (register s rs1) (register s rs2) (register_fits s rs1 is) (register_fits s rs2 is)) h
act_keeps (RegW op rd rs1 rs2) s t is h =
    put_then s t rd (regw_value op (register s rs1) (register s rs2)) is (regw_value_fits op (register s rs1) (register s rs2)) h
act_keeps Fence s t is h = next_then s t is h
act_keeps Ecall s t is h = call_then s t is h
act_keeps Ebreak s t is h = absurd (stopped Broken t h)

on_keeps : (o : Option Instr) (s t : State) → IsState s → act_on o s ≡ Ok t → IsState t
on_keeps None s t is h = absurd (stopped (Faulted UnknownInstruction s.pc) t h)
on_keeps (Some i) s t is h = act_keeps i s t is h

pub step_keeps : (s t : State) → IsState s → step s ≡ Ok t → IsState t
unfolding step
step_keeps s t is h =
    elim (either (can_execute s s.pc 4) (act_on (instruction_of (number_at s.bytes s.pc 4)) s) (refusing (Faulted Fetch s.pc)) (Ok t) h) [
      | inl acted ↦ on_keeps (instruction_of (number_at s.bytes s.pc 4)) s t is acted
      | inr refused ↦ absurd (stopped (Faulted Fetch s.pc) t refused)
    ]
