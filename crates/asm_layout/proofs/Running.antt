-- What the machine does with the words of jumps and branches.
use Rattle.std.proofs.Common.{◌≡◌, ℕ, ◌+◌, ◌-◌, ◌*◌, ◌/◌, ◌%◌, ◌^◌, ◌<◌, ◌≤◌, Bool, true, false, List, [], ◌∷◌, refl, sym, ◌∙◌, ap, subst, arith, lit<, lit≤, mod-lt, pos, negsuc, ◌≤ℤ◌, ◌<ℤ◌, ◌==◌, not, nat_lt, if◌then◌else◌, slice_get, Some, Ok, unsigned_abs}
use Rattle.std.proofs.lemmas.Int.{ints}
use Rattle.std.proofs.lemmas.Bool.Decides.{nat_tests}
use Rattle.std.proofs.lemmas.Option.{slice_get_within}
use Rattle.bits.specs.Words.{upper_field, lower_field, sign_extended, Fits12}
use Rattle.rv_isa.specs.Prelude.{State, register, updated, put, taken, moved, upper_value, word, instruction_of, step, jump, branch, even_below, Ground, Fixed, InstrAt, Moves, WordsStand}
use Rattle.rv_isa.specs.declared.ranges.Register.{Register}
use Rattle.rv_isa.specs.declared.ranges.Immediate.{Immediate}
use Rattle.rv_isa.specs.declared.ranges.BranchOffset.{BranchOffset}
use Rattle.rv_isa.specs.declared.ranges.JumpOffset.{JumpOffset}
use Rattle.rv_isa.specs.declared.ranges.UpperField.{UpperField}
use Rattle.rv_isa.specs.declared.instruction.Instr.{Instr}
use Rattle.rv_isa.specs.declared.instruction.Instr.TheVariants.{Auipc, Jal, Jalr, Branch}
use Rattle.rv_isa.specs.declared.instruction.BranchOp.{BranchOp}
use Rattle.rv_isa.specs.declared.instruction.BranchOp.TheVariants.{Beq, Bne, Blt, Bge, Bltu, Bgeu}
use Rattle.rv_isa.proofs.DecodingLaws.{instruction_of-word}
use Rattle.rv_isa.proofs.StepLemmas.{step_at}
use Rattle.rv_isa.proofs.RunLemmas.{comes_by_step, comes_then}
use Rattle.rv_isa.proofs.MemoryLemmas.{updated_elsewhere}
use Rattle.asm_layout.specs.Forms.{Fits, JumpFits, distance, distance_word, inverse, jump_words, branch_words, branch_size}
use Rattle.asm_layout.specs.declared.reach.Reach.{Reach}
use Rattle.asm_layout.specs.declared.reach.Reach.TheVariants.{Short, Middle, Far}

-- ---- words that stand

-- the word of an instruction among words that stand
pub instr_at : (g : Ground) (at : ℕ) (ws : List ℕ) (k : ℕ) (i : Instr) → WordsStand g at ws → slice_get ws k ≡ Some (word i) → InstrAt g (at + 4 * k) i
instr_at g at ws k i stand here =
    let within = slice_get_within ws k (word i) here in
    let aligned = stand.aligned in
    let inside = stand.inside in
    record {
      fetched = stand.fetched k (word i) here;
      decoded = ap instruction_of (stand.here k (word i) here) ∙ instruction_of-word i;
      aligned = omega arith;
      inside = omega arith;
    }

-- ---- offsets

pub branch_at_least : (here there : ℕ) → here ≤ there + 1024 → negsuc 4095 ≤ℤ distance here there
branch_at_least here there back = grind (arith, ints)

pub branch_at_most : (here there : ℕ) → there ≤ here + 1023 → distance here there <ℤ pos 4096
branch_at_most here there ahead = grind (arith, ints)

pub jump_at_least : (here there : ℕ) → here ≤ there + 262144 → negsuc 1048575 ≤ℤ distance here there
jump_at_least here there back = grind (arith, ints)

pub jump_at_most : (here there : ℕ) → there ≤ here + 262143 → distance here there <ℤ pos 1048576
jump_at_most here there ahead = grind (arith, ints)

pub distance_even : (here there : ℕ) → unsigned_abs (distance here there) % 2 ≡ 0
distance_even here there = grind (arith, ints)

abbrev pub branch_offset : (here there : ℕ) → there ≤ here + 1023 → here ≤ there + 1024 → BranchOffset
branch_offset here there ahead back = record {
  value = distance here there;
  at_least = branch_at_least here there back;
  at_most = branch_at_most here there ahead;
  even = distance_even here there;
}

abbrev pub jump_offset : (here there : ℕ) → there ≤ here + 262143 → here ≤ there + 262144 → JumpOffset
jump_offset here there ahead back = record {
  value = distance here there;
  at_least = jump_at_least here there back;
  at_most = jump_at_most here there ahead;
  even = distance_even here there;
}

-- from one word to another
pub goes_to : (at here there : ℕ) → here < 2 ^ 29 → there < 2 ^ 29 → at + 4 * here < 2 ^ 64 → at + 4 * there < 2 ^ 64
    → moved (at + 4 * here) (distance here there) ≡ at + 4 * there
goes_to at here there small_here small_there inside_here inside_there = grind (arith, ints)

-- ---- steps

abbrev pub x0 : Register
x0 = record { number = 0; in_range = lit< tt }

abbrev pub x31 : Register
x31 = record { number = 31; in_range = lit< tt }

abbrev going_to : State → ℕ → State
going_to s a = record s { pc = a }

fixed_at : (g : Ground) (s : State) (a : ℕ) → Fixed g s → Fixed g (going_to s a)
fixed_at g s a f = record { permissions = f.permissions; code_here = f.code_here; words = f.words; small = f.small }

-- a jump that leaves no address behind
jump_goes : (s : State) (x target : ℕ) → x ≡ target → target % 4 ≡ 0 → jump s x0 x ≡ Ok (going_to s target)
jump_goes s x target e aligned =
    subst (λ y. jump s x0 y ≡ Ok (going_to s target)) (sym e) (rw aligned refl)

jal_step : (g : Ground) (s : State) (offset : JumpOffset) (target : ℕ) → Fixed g s → InstrAt g s.pc (Jal x0 offset) → moved s.pc offset.value ≡ target
    → target % 4 ≡ 0 → step s ≡ Ok (going_to s target)
jal_step g s offset target fixed at goes aligned =
    step_at g s (Jal x0 offset) fixed at ∙ jump_goes s (moved s.pc offset.value) target goes aligned

branch_goes : (s : State) (holds : Bool) (x target next : ℕ) → x ≡ target → target % 4 ≡ 0 → (s.pc + 4) % 2 ^ 64 ≡ next
    → branch s holds x ≡ Ok (going_to s (if holds then target else next))
branch_goes s true x target next e aligned n =
    subst (λ y. branch s true y ≡ Ok (going_to s target)) (sym e) (rw aligned refl)
branch_goes s false x target next e aligned n = ap (λ a. Ok (going_to s a)) n

branch_step : (g : Ground) (s : State) (op : BranchOp) (rs1 rs2 : Register) (offset : BranchOffset) (target : ℕ) → Fixed g s
    → InstrAt g s.pc (Branch op rs1 rs2 offset) → moved s.pc offset.value ≡ target → target % 4 ≡ 0
    → step s ≡ Ok (going_to s (if taken op (register s rs1) (register s rs2) then target else s.pc + 4))
branch_step g s op rs1 rs2 offset target fixed at goes aligned =
    let inside = at.inside in
    let next : (s.pc + 4) % 2 ^ 64 ≡ s.pc + 4 = omega arith in
    step_at g s (Branch op rs1 rs2 offset) fixed at
    ∙ branch_goes s (taken op (register s rs1) (register s rs2)) (moved s.pc offset.value) target (s.pc + 4) goes aligned next

-- ---- moves

moves_by_step : (g : Ground) (s : State) (most to : ℕ) → Fixed g s → step s ≡ Ok (going_to s to) → 1 ≤ most → Moves g most to s
moves_by_step g s most to fixed e le =
    record {
      count = 1;
      after = going_to s to;
      comes = comes_by_step s (going_to s to) e;
      at_least_one = lit< tt;
      at_most = le;
      place = refl;
      fixed = fixed_at g s to fixed;
      output = refl;
      bytes = refl;
      registers = λ n other. refl;
    }

-- a step to another place, and then a move
moves_then : (g : Ground) (s : State) (a most to : ℕ) → step s ≡ Ok (going_to s a) → Moves g most to (going_to s a) → Moves g (most + 1) to s
moves_then g s a most to e m =
    let le = m.at_most in
    record {
      count = 1 + m.count;
      after = m.after;
      comes = comes_then (comes_by_step s (going_to s a) e) m.comes;
      at_least_one = omega arith;
      at_most = omega arith;
      place = m.place;
      fixed = m.fixed;
      output = m.output;
      bytes = m.bytes;
      registers = m.registers;
    }

-- ---- a far jump

pub put_fits : (registers : ℕ → ℕ) (r v n : ℕ) → v < 2 ^ 64 → ((m : ℕ) → registers m < 2 ^ 64) → updated registers r v n < 2 ^ 64
put_fits registers r v n h rest = by_test (n == r)
  where
    by_test : (b : Bool) → (if b then v else registers n) < 2 ^ 64
    by_test true = h
    by_test false = rest n

-- `auipc` leaves half of the way in x31, and `jalr` goes there
far_moves : (g : Ground) (s : State) (field : UpperField) (low : Immediate) (half target : ℕ) → Fixed g s → InstrAt g s.pc (Auipc x31 field)
    → InstrAt g (s.pc + 4) (Jalr x0 x31 low) → (s.pc + upper_value field) % 2 ^ 64 ≡ half → even_below (moved half low.value) ≡ target
    → target % 4 ≡ 0 → Moves g 2 target s
far_moves g s field low half target fixed first second up goes aligned =
    let inside = first.inside in
    let next : s.pc + 4 ≡ (s.pc + 4) % 2 ^ 64 = omega arith in
    let v : ℕ = (s.pc + upper_value field) % 2 ^ 64 in
    let mid : State = put s x31 v in
    let fits : v < 2 ^ 64 = mod-lt (s.pc + upper_value field) (lit< tt) in
    let mid_fixed : Fixed g mid = record {
      permissions = fixed.permissions;
      code_here = fixed.code_here;
      words = λ n. put_fits s.registers 31 v n fits fixed.words;
      small = fixed.small;
    } in
    let one : step s ≡ Ok mid = step_at g s (Auipc x31 field) fixed first in
    let stands : InstrAt g mid.pc (Jalr x0 x31 low) = subst (λ a. InstrAt g a (Jalr x0 x31 low)) next second in
    let there : even_below (moved (register mid x31) low.value) ≡ target = ap (λ x. even_below (moved x low.value)) up ∙ goes in
    let two : step mid ≡ Ok (going_to mid target) =
    step_at g mid (Jalr x0 x31 low) mid_fixed stands ∙ jump_goes mid (even_below (moved (register mid x31) low.value)) target there aligned in
    record {
      count = 1 + 1;
      after = going_to mid target;
      comes = comes_then (comes_by_step s mid one) (comes_by_step mid (going_to mid target) two);
      at_least_one = omega arith;
      at_most = omega arith;
      place = refl;
      fixed = fixed_at g mid target mid_fixed;
      output = refl;
      bytes = refl;
      registers = λ n other. updated_elsewhere s.registers 31 v n other;
    }

pub upper_fits : (d : ℕ) → upper_field d < 2 ^ 20
upper_fits d = omega arith

pub lower_fits : (d : ℕ) → Fits12 (lower_field d)
lower_fits d = (grind (arith, ints), grind (arith, ints))

abbrev pub upper_of_word : (d : ℕ) → UpperField
upper_of_word d = record { value = upper_field d; in_range = upper_fits d }

abbrev pub lower_of_word : (d : ℕ) → Immediate
lower_of_word d = record { value = lower_field d; in_range = lower_fits d }

-- ---- the two halves of a distance

-- the upper half of a distance ahead, and of one back
upper_ahead : (d : ℕ) → d < 2 ^ 30 → sign_extended (upper_field d * 4096) ≡ (d + 2048) / 4096 * 4096
upper_ahead d h = grind (arith, ints)

upper_back : (e : ℕ) → 2048 < e → e ≤ 2 ^ 30 + 4 → sign_extended (upper_field (2 ^ 32 - e) * 4096) + (e + 2047) / 4096 * 4096 ≡ 2 ^ 64
upper_back e some h = grind (arith, ints)

upper_near : (e : ℕ) → 0 < e → e ≤ 2048 → sign_extended (upper_field (2 ^ 32 - e) * 4096) ≡ 0
upper_near e some h = grind (arith, ints)

lower_is : (x d : ℕ) → moved x (lower_field d) ≡ (x + d % 4096 + (if nat_lt (d % 4096) 2048 then 0 else 2 ^ 64 - 4096)) % 2 ^ 64
lower_is x d = grind (arith, ints, nat_tests)

-- they lead there
pub ahead : (a d to : ℕ) → d < 2 ^ 30 → a + d ≡ to → to < 2 ^ 64 → to % 2 ≡ 0
    → even_below (moved ((a + sign_extended (upper_field d * 4096)) % 2 ^ 64) (lower_field d)) ≡ to
ahead a d to h e inside even =
    let up = upper_ahead d h in
    let low = lower_is ((a + sign_extended (upper_field d * 4096)) % 2 ^ 64) d in
    grind (arith, nat_tests)

back_near : (a e to up : ℕ) → e ≤ 2048 → 0 < e → a ≡ to + e → a < 2 ^ 64 → to % 2 ≡ 0 → up ≡ 0
    → even_below (moved ((a + up) % 2 ^ 64) (lower_field (2 ^ 32 - e))) ≡ to
back_near a e to up h some is inside even half =
    let low = lower_is ((a + up) % 2 ^ 64) (2 ^ 32 - e) in
    grind (arith, nat_tests)

back_far : (a e to up : ℕ) → e ≤ 2 ^ 30 + 4 → 2048 < e → a ≡ to + e → a < 2 ^ 64 → to % 2 ≡ 0 → up + (e + 2047) / 4096 * 4096 ≡ 2 ^ 64
    → even_below (moved ((a + up) % 2 ^ 64) (lower_field (2 ^ 32 - e))) ≡ to
back_far a e to up h some is inside even half =
    let low = lower_is ((a + up) % 2 ^ 64) (2 ^ 32 - e) in
    grind (arith, nat_tests)

back : (a e to : ℕ) → 0 < e → e ≤ 2 ^ 30 + 4 → a ≡ to + e → a < 2 ^ 64 → to % 2 ≡ 0
    → even_below (moved ((a + sign_extended (upper_field (2 ^ 32 - e) * 4096)) % 2 ^ 64) (lower_field (2 ^ 32 - e))) ≡ to
back a e to some h is inside even = by_test (nat_lt 2048 e) refl
  where
    by_test : (b : Bool) → nat_lt 2048 e ≡ b
        → even_below (moved ((a + sign_extended (upper_field (2 ^ 32 - e) * 4096)) % 2 ^ 64) (lower_field (2 ^ 32 - e))) ≡ to
    by_test true t =
        let far : 2048 < e = grind (arith, nat_tests) in
        back_far a e to (sign_extended (upper_field (2 ^ 32 - e) * 4096)) h far is inside even (upper_back e far h)
    by_test false t =
        let near : e ≤ 2048 = grind (arith, nat_tests) in
        back_near a e to (sign_extended (upper_field (2 ^ 32 - e) * 4096)) near some is inside even (upper_near e some near)

abbrev pub HalvesGo : (a to d : ℕ) → Type 0
HalvesGo a to d = even_below (moved ((a + sign_extended (upper_field d * 4096)) % 2 ^ 64) (lower_field d)) ≡ to

pub far_goes : (at here there : ℕ) → here < 2 ^ 28 + 1 → there < 2 ^ 28 → at % 4 ≡ 0 → at + 4 * here < 2 ^ 64 → at + 4 * there < 2 ^ 64
    → HalvesGo (at + 4 * here) (at + 4 * there) (distance_word here there)
far_goes at here there small_here small_there aligned inside_here inside_there = by_test (nat_lt there here) refl
  where
    by_test : (b : Bool) → nat_lt there here ≡ b → HalvesGo (at + 4 * here) (at + 4 * there) (distance_word here there)
    by_test true t =
        let less : there < here = grind (arith, nat_tests) in
        let is : 2 ^ 32 - 4 * (here - there) ≡ distance_word here there = omega arith in
        subst (λ d. HalvesGo (at + 4 * here) (at + 4 * there) d) is (back (at + 4 * here) (4 * (here - there)) (at + 4 * there) (omega arith) (omega arith) (omega arith) inside_here (omega arith))
    by_test false t =
        let le : here ≤ there = grind (arith, nat_tests) in
        let is : 4 * (there - here) ≡ distance_word here there = omega arith in
        subst (λ d. HalvesGo (at + 4 * here) (at + 4 * there) d) is (ahead (at + 4 * here) (4 * (there - here)) (at + 4 * there) (omega arith) (omega arith) inside_there (omega arith))

-- ---- words of a jump

-- these words are among those of a function, from one place on
abbrev pub AllAt : List ℕ → ℕ → List ℕ → Type 0
AllAt ws k [] = Unit {0}
AllAt ws k (x ∷ xs) = (slice_get ws k ≡ Some x) × AllAt ws (k + 1) xs

-- the places of a function's code from which and to which a jump goes
pub record Between (at here there : ℕ) : Type 0 where
  pub aligned : at % 4 ≡ 0
  pub here_small : here < 2 ^ 28 + 1
  pub there_small : there < 2 ^ 28
  pub here_inside : at + 4 * here < 2 ^ 64
  pub there_inside : at + 4 * there < 2 ^ 64

near_jump : (g : Ground) (at : ℕ) (ws : List ℕ) (here there : ℕ) → there ≤ here + 262143 → here ≤ there + 262144 → Between at here there
    → WordsStand g at ws → AllAt ws here (jump_words Short here there)
    → (s : State) → Fixed g s → s.pc ≡ at + 4 * here → Moves g 2 (at + 4 * there) s
near_jump g at ws here there ahead back b stand words s fixed pc =
    let aligned = b.aligned in
    let here_small = b.here_small in
    let there_small = b.there_small in
    let offset : JumpOffset = jump_offset here there ahead back in
    let stands : InstrAt g (at + 4 * here) (Jal x0 offset) = instr_at g at ws here (Jal x0 offset) stand words.0 in
    let at_pc : InstrAt g s.pc (Jal x0 offset) = subst (λ a. InstrAt g a (Jal x0 offset)) (sym pc) stands in
    let goes : moved s.pc (distance here there) ≡ at + 4 * there =
    ap (λ a. moved a (distance here there)) pc ∙ goes_to at here there (omega arith) (omega arith) b.here_inside b.there_inside in
    moves_by_step g s 2 (at + 4 * there) fixed (jal_step g s offset (at + 4 * there) fixed at_pc goes (omega arith)) (lit≤ tt)

far_jump : (g : Ground) (at : ℕ) (ws : List ℕ) (here there : ℕ) → Between at here there
    → WordsStand g at ws → AllAt ws here (jump_words Far here there)
    → (s : State) → Fixed g s → s.pc ≡ at + 4 * here → Moves g 2 (at + 4 * there) s
far_jump g at ws here there b stand words s fixed pc =
    let aligned = b.aligned in
    let d : ℕ = distance_word here there in
    let field : UpperField = upper_of_word d in
    let low : Immediate = lower_of_word d in
    let first : InstrAt g (at + 4 * here) (Auipc x31 field) = instr_at g at ws here (Auipc x31 field) stand words.0 in
    let second : InstrAt g (at + 4 * (here + 1)) (Jalr x0 x31 low) = instr_at g at ws (here + 1) (Jalr x0 x31 low) stand words.1.0 in
    let next : at + 4 * (here + 1) ≡ s.pc + 4 = omega arith in
    far_moves g s field low ((at + 4 * here + upper_value field) % 2 ^ 64) (at + 4 * there) fixed
    (subst (λ a. InstrAt g a (Auipc x31 field)) (sym pc) first)
    (subst (λ a. InstrAt g a (Jalr x0 x31 low)) next second)
    (ap (λ a. (a + upper_value field) % 2 ^ 64) pc)
    (far_goes at here there b.here_small b.there_small aligned b.here_inside b.there_inside)
    (omega arith)

jump_moves : (g : Ground) (at : ℕ) (ws : List ℕ) (r : Reach) (here there : ℕ) → JumpFits r here there → Between at here there
    → WordsStand g at ws → AllAt ws here (jump_words r here there)
    → (s : State) → Fixed g s → s.pc ≡ at + 4 * here → Moves g 2 (at + 4 * there) s
jump_moves g at ws Short here there h b stand words s fixed pc = near_jump g at ws here there h.0 h.1 b stand words s fixed pc
jump_moves g at ws Middle here there h b stand words s fixed pc = near_jump g at ws here there h.0 h.1 b stand words s fixed pc
jump_moves g at ws Far here there h b stand words s fixed pc = far_jump g at ws here there b stand words s fixed pc

as_jump : (r : Reach) (here there : ℕ) → Fits r here there → JumpFits r here there
as_jump Short here there h = let ahead = h.0 in let back = h.1 in (omega arith, omega arith)
as_jump Middle here there h = let ahead = h.0 in let back = h.1 in (omega arith, omega arith)
as_jump Far here there h = tt

pub goto_moves : (g : Ground) (at : ℕ) (ws : List ℕ) (r : Reach) (here there : ℕ) → Fits r here there → Between at here there
    → WordsStand g at ws → AllAt ws here (jump_words r here there)
    → (s : State) → Fixed g s → s.pc ≡ at + 4 * here → Moves g 2 (at + 4 * there) s
goto_moves g at ws r here there h b stand words s fixed pc =
    jump_moves g at ws r here there (as_jump r here there h) b stand words s fixed pc

-- ---- words of a branch

not_not : (b : Bool) → b ≡ not (not b)
not_not true = refl
not_not false = refl

inverse_is : (op : BranchOp) (x y : ℕ) → taken (inverse op) x y ≡ not (taken op x y)
inverse_is Beq x y = refl
inverse_is Bne x y = not_not (x == y)
inverse_is Blt x y = refl
inverse_is Bge x y = not_not (taken Blt x y)
inverse_is Bltu x y = refl
inverse_is Bgeu x y = not_not (taken Bltu x y)

-- the inverse branch around a jump of `skip` words less one
around : (g : Ground) (at : ℕ) (ws : List ℕ) (op : BranchOp) (rs1 rs2 : Register) (offset : BranchOffset) (skip here there : ℕ)
    → offset.value ≡ distance here (here + skip) → skip ≤ 3 → at + 4 * (here + skip) < 2 ^ 64
    → Between at here there → WordsStand g at ws
    → slice_get ws here ≡ Some (word (Branch (inverse op) rs1 rs2 offset))
    → ((s : State) → Fixed g s → s.pc ≡ at + 4 * (here + 1) → Moves g 2 (at + 4 * there) s)
    → (s : State) → Fixed g s → s.pc ≡ at + 4 * here
    → Moves g 3 (if taken op (register s rs1) (register s rs2) then at + 4 * there else at + 4 * (here + skip)) s
around g at ws op rs1 rs2 offset skip here there value few inside b stand first jumps s fixed pc =
    by_test (taken op (register s rs1) (register s rs2)) refl
  where
    stands : InstrAt g s.pc (Branch (inverse op) rs1 rs2 offset)
    stands = subst (λ a. InstrAt g a (Branch (inverse op) rs1 rs2 offset)) (sym pc) (instr_at g at ws here (Branch (inverse op) rs1 rs2 offset) stand first)

    goes : moved s.pc offset.value ≡ at + 4 * (here + skip)
    goes =
        let small = b.here_small in
        ap (moved s.pc) value ∙ ap (λ a. moved a (distance here (here + skip))) pc
        ∙ goes_to at here (here + skip) (omega arith) (omega arith) b.here_inside inside

    steps : step s ≡ Ok (going_to s (if taken (inverse op) (register s rs1) (register s rs2) then at + 4 * (here + skip) else s.pc + 4))
    steps = let aligned = b.aligned in branch_step g s (inverse op) rs1 rs2 offset (at + 4 * (here + skip)) fixed stands goes (omega arith)

    step_by : (t : Bool) → taken op (register s rs1) (register s rs2) ≡ t
        → step s ≡ Ok (going_to s (if not t then at + 4 * (here + skip) else s.pc + 4))
    step_by t e =
        let is : taken (inverse op) (register s rs1) (register s rs2) ≡ not t = inverse_is op (register s rs1) (register s rs2) ∙ ap not e in
        subst (λ (x : Bool). step s ≡ Ok (going_to s (if x then at + 4 * (here + skip) else s.pc + 4))) is steps

    by_test : (t : Bool) → taken op (register s rs1) (register s rs2) ≡ t → Moves g 3 (if t then at + 4 * there else at + 4 * (here + skip)) s
    by_test true e =
        let next : s.pc + 4 ≡ at + 4 * (here + 1) = omega arith in
        moves_then g s (s.pc + 4) 2 (at + 4 * there) (step_by true e) (jumps (going_to s (s.pc + 4)) (fixed_at g s (s.pc + 4) fixed) next)
    by_test false e = moves_by_step g s 3 (at + 4 * (here + skip)) fixed (step_by false e) (lit≤ tt)

after_this : (at here there : ℕ) → Between at here there → at + 4 * (here + 1) < 2 ^ 64 → here < 2 ^ 28 → Between at (here + 1) there
after_this at here there b inside small = record {
  aligned = b.aligned;
  here_small = omega arith;
  there_small = b.there_small;
  here_inside = inside;
  there_inside = b.there_inside;
}

pub branch_moves : (g : Ground) (at : ℕ) (ws : List ℕ) (r : Reach) (op : BranchOp) (rs1 rs2 : Register) (here there : ℕ) → Fits r here there
    → Between at here there → here < 2 ^ 28 → at + 4 * (here + branch_size r) < 2 ^ 64
    → WordsStand g at ws → AllAt ws here (branch_words r op rs1 rs2 here there)
    → (s : State) → Fixed g s → s.pc ≡ at + 4 * here
    → Moves g 3 (if taken op (register s rs1) (register s rs2) then at + 4 * there else at + 4 * (here + branch_size r)) s
branch_moves g at ws Short op rs1 rs2 here there h b small inside stand words s fixed pc =
    let aligned = b.aligned in
    let there_small = b.there_small in
    let offset : BranchOffset = branch_offset here there h.0 h.1 in
    let stands : InstrAt g (at + 4 * here) (Branch op rs1 rs2 offset) = instr_at g at ws here (Branch op rs1 rs2 offset) stand words.0 in
    let at_pc : InstrAt g s.pc (Branch op rs1 rs2 offset) = subst (λ a. InstrAt g a (Branch op rs1 rs2 offset)) (sym pc) stands in
    let goes : moved s.pc (distance here there) ≡ at + 4 * there =
    ap (λ a. moved a (distance here there)) pc ∙ goes_to at here there (omega arith) (omega arith) b.here_inside b.there_inside in
    let next : s.pc + 4 ≡ at + 4 * (here + 1) = omega arith in
    let t : Bool = taken op (register s rs1) (register s rs2) in
    let steps : step s ≡ Ok (going_to s (if t then at + 4 * there else at + 4 * (here + 1))) =
    branch_step g s op rs1 rs2 offset (at + 4 * there) fixed at_pc goes (omega arith)
    ∙ ap (λ a. Ok (going_to s (if t then at + 4 * there else a))) next in
    moves_by_step g s 3 (if t then at + 4 * there else at + 4 * (here + 1)) fixed steps (lit≤ tt)
branch_moves g at ws Middle op rs1 rs2 here there h b small inside stand words s fixed pc =
    let ahead = h.0 in
    let back = h.1 in
    around g at ws op rs1 rs2 (branch_offset here (here + 2) (omega arith) (omega arith)) 2 here there refl (lit≤ tt) inside b stand words.0
    (near_jump g at ws (here + 1) there (omega arith) (omega arith) (after_this at here there b (omega arith) small) stand words.1) s fixed pc
branch_moves g at ws Far op rs1 rs2 here there h b small inside stand words s fixed pc =
    around g at ws op rs1 rs2 (branch_offset here (here + 3) (omega arith) (omega arith)) 3 here there refl (lit≤ tt) inside b stand words.0
    (far_jump g at ws (here + 1) there (after_this at here there b (omega arith) small) stand words.1) s fixed pc
