-- Where the word of an instruction stands and can be executed, a step acts as that instruction. Fetching and decoding appear here alone.
use Rattle.std.proofs.Common.{◌≡◌, ℕ, true, refl, ap, sym, ◌∙◌, subst, Some}
use Rattle.std.proofs.lemmas.Bool.{and_parts}
use Rattle.rv_isa.specs.Prelude.{State, number_at, allowed, each_of, can_execute, is_code, instruction_of, step, act, Ground, Fixed, InstrAt, Permission, Instr}
use Rattle.rv_isa.proofs.MemoryLemmas.{number_same, each_at, code_parts, code_executes}

-- the word of code at an address is the ground's
code_word : (g : Ground) (s : State) (a : ℕ) → Fixed g s → allowed (λ x. is_code (g.allows x)) a 4 ≡ true
    → number_at s.bytes a 4 ≡ number_at g.code a 4
code_word g s a fixed fetched =
    let each : each_of (λ x. is_code (g.allows x)) a 4 ≡ true = (and_parts _ _ fetched).1 in
    number_same s.bytes g.code a 4
    (λ x low high. fixed.code_here x (code_parts (g.allows x) (each_at (λ x. is_code (g.allows x)) a 4 x each low high)).1)

pub step_at : (g : Ground) (s : State) (i : Instr) → Fixed g s → InstrAt g s.pc i → step s ≡ act i s
unfolding step
step_at g s i fixed at =
    let P : (ℕ → Permission) → Type 0 = λ p. allowed (λ x. is_code (p x)) s.pc 4 ≡ true in
    let fetched : can_execute s s.pc 4 ≡ true = code_executes s.allows s.pc 4 (subst P (sym fixed.permissions) at.fetched) in
    let decoded : instruction_of (number_at s.bytes s.pc 4) ≡ Some i = ap instruction_of (code_word g s s.pc fixed at.fetched) ∙ at.decoded in
    rw (fetched, decoded) refl
