-- What the machine does with a call by `jal`.
use Rattle.std.proofs.Common.{◌≡◌, ℕ, ◌+◌, ◌-◌, ◌*◌, ◌%◌, ◌^◌, ◌<◌, ◌≤◌, Bool, true, false, refl, sym, ◌∙◌, ap, subst, arith, lit<, lit≤, mod-lt, pos, negsuc, nat_le, nat_lt, Ok}
use Rattle.std.proofs.lemmas.Int.{ints}
use Rattle.std.proofs.lemmas.Bool.{and_parts}
use Rattle.std.proofs.lemmas.Bool.Decides.{nat_tests}
use Rattle.rv_isa.specs.Prelude.{moved, signed, Ground, Fixed, InstrAt, Calls, half_distance, jump_part, reaches, State, written, step, jump}
use Rattle.rv_isa.specs.declared.instruction.Instr.TheVariants.{Jal}
use Rattle.rv_isa.specs.declared.ranges.Register.{Register}
use Rattle.rv_isa.specs.declared.relocation.Filling.TheVariants.{Call}
use Rattle.rv_isa.proofs.MemoryLemmas.{updated_elsewhere}
use Rattle.rv_isa.proofs.RunLemmas.{comes_by_step}
use Rattle.rv_isa.proofs.StepLemmas.{step_at}
use Rattle.asm_layout.proofs.Running.{put_fits}

abbrev pub x1 : Register
x1 = record { number = 1; in_range = lit< tt }

-- ---- the distance

signed_ahead : (x : ℕ) → x < 2 ^ 20 → signed 21 x ≡ pos x
signed_ahead x h = grind (arith, nat_tests)

signed_back : (x e : ℕ) → x + e ≡ 2 ^ 21 → 0 < e → e ≤ 2 ^ 20 → signed 21 x ≡ negsuc (e - 1)
signed_back x e is some h = grind (arith, nat_tests)

moved_ahead : (p d : ℕ) → p + d < 2 ^ 64 → moved p (pos d) ≡ p + d
moved_ahead p d h = grind (arith, ints)

moved_back : (p e : ℕ) → p < 2 ^ 64 → 0 < e → e ≤ 2 ^ 20 → e ≤ p → moved p (negsuc (e - 1)) ≡ p - e
moved_back p e h some few le = grind (arith, ints)

pub lands : (p a : ℕ) → p < 2 ^ 64 → a < 2 ^ 64 → p % 4 ≡ 0 → a % 4 ≡ 0 → p ≤ a + 2 ^ 20 → a < p + 2 ^ 20 → moved p (jump_part p a).value ≡ a
lands p a small_p small_a even_p even_a back ahead = by_test (nat_lt a p) refl
  where
    by_test : (b : Bool) → nat_lt a p ≡ b → moved p (signed 21 (half_distance p a * 2)) ≡ a
    by_test true t =
        let less : a < p = grind (arith, nat_tests) in
        let is : half_distance p a * 2 + (p - a) ≡ 2 ^ 21 = omega arith in
        ap (moved p) (signed_back (half_distance p a * 2) (p - a) is (omega arith) (omega arith)) ∙ moved_back p (p - a) small_p (omega arith) (omega arith) (omega arith)
        ∙ omega arith
    by_test false t =
        let le : p ≤ a = grind (arith, nat_tests) in
        let is : half_distance p a * 2 ≡ a - p = omega arith in
        ap (λ d. moved p (signed 21 d)) is ∙ ap (moved p) (signed_ahead (a - p) (omega arith)) ∙ moved_ahead p (a - p) (omega arith)
        ∙ omega arith

-- ---- the step

abbrev pub gone_to : State → ℕ → State
gone_to s to = record s { pc = to; registers = written s.registers x1 ((s.pc + 4) % 2 ^ 64) }

pub jump_goes : (s : State) (x target : ℕ) → x ≡ target → target % 4 ≡ 0 → jump s x1 x ≡ Ok (gone_to s target)
jump_goes s x target e aligned = subst (λ y. jump s x1 y ≡ Ok (gone_to s target)) (sym e) (rw aligned refl)

pub call_goes : (g : Ground) (a to n : ℕ) → reaches (Call n) a to ≡ true → a % 4 ≡ 0 → to % 4 ≡ 0 → to < 2 ^ 30
    → InstrAt g a (Jal x1 (jump_part a to)) → (b : ℕ) → b ≡ a + 4 → (s : State) → Fixed g s → s.pc ≡ a → Calls g to b s
call_goes g a to n reach aligned even small stands b after s fixed pc =
    let inside = stands.inside in
    let both = and_parts (nat_le a (to + 2 ^ 20)) (nat_lt to (a + 2 ^ 20)) reach in
    let back : a ≤ to + 2 ^ 20 = grind (arith, nat_tests) in
    let ahead : to < a + 2 ^ 20 = grind (arith, nat_tests) in
    let here : InstrAt g s.pc (Jal x1 (jump_part a to)) = subst (λ x. InstrAt g x (Jal x1 (jump_part a to))) (sym pc) stands in
    let goes : moved s.pc (jump_part a to).value ≡ to = ap (λ x. moved x (jump_part a to).value) pc ∙ lands a to (omega (arith, inside)) (omega (arith, small)) aligned even back ahead in
    let next : (s.pc + 4) % 2 ^ 64 ≡ b = omega (arith, inside, after, pc) in
    let acts : step s ≡ Ok (gone_to s to) = step_at g s (Jal x1 (jump_part a to)) fixed here ∙ jump_goes s (moved s.pc (jump_part a to).value) to goes even in
    record {
      count = 1;
      after = gone_to s to;
      comes = comes_by_step s (gone_to s to) acts;
      at_least_one = lit< tt;
      at_most = lit≤ tt;
      place = refl;
      fixed = record {
        permissions = fixed.permissions;
        code_here = fixed.code_here;
        words = λ m. put_fits s.registers 1 ((s.pc + 4) % 2 ^ 64) m (mod-lt (s.pc + 4) (lit< tt)) fixed.words;
        small = fixed.small;
      };
      output = refl;
      bytes = refl;
      return_address = next;
      registers = λ m other. updated_elsewhere s.registers 1 ((s.pc + 4) % 2 ^ 64) m other;
    }
