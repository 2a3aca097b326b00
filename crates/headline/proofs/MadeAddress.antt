-- The address of `main` in a register, by `lui` and `addiw`.
use Rattle.std.proofs.Common.{◌≡◌, ◌≢◌, ℕ, ◌+◌, ◌*◌, ◌%◌, ◌^◌, ◌<◌, ◌≤◌, Bool, true, false, List, [], ◌∷◌, refl, sym, ◌∙◌, ap, subst, arith, ne_eqb, ◌==◌, if◌then◌else◌, Ok}
use Rattle.std.proofs.lemmas.Int.{ints}
use Rattle.std.proofs.lemmas.Bool.Decides.{nat_tests}
use Rattle.bits.specs.Words.{upper_field, lower_field, sign_extended}
use Rattle.rv_isa.specs.Prelude.{State, register, updated, written, put, upper_value, addiw_value, u_type, i_type, step, Comes, Ground, Fixed, InstrAt, WordsStand, upper_part, lower_part}
use Rattle.rv_isa.specs.declared.ranges.Register.{Register}
use Rattle.rv_isa.specs.declared.ranges.Immediate.{Immediate}
use Rattle.rv_isa.specs.declared.ranges.UpperField.{UpperField}
use Rattle.rv_isa.specs.declared.instruction.Instr.TheVariants.{Lui, Addiw}
use Rattle.rv_isa.proofs.StepLemmas.{step_at}
use Rattle.rv_isa.proofs.RunLemmas.{comes_by_step, comes_then}
use Rattle.rv_isa.proofs.MemoryLemmas.{updated_here, updated_elsewhere}
use Rattle.rv_isa.proofs.RangeLemmas.{upper_value_fits, addiw_value_fits}
use Rattle.asm_layout.proofs.Running.{AllAt, instr_at, put_fits}

-- in 1 to `most` instructions the machine comes from s to the address `to`, with the value v in rd; all else stays
pub record Gets (g : Ground) (most to : ℕ) (rd : Register) (v : ℕ) (s : State) : Type 0 where
  pub count : ℕ
  pub after : State
  pub comes : Comes s count after
  pub at_least_one : 0 < count
  pub at_most : count ≤ most
  pub place : after.pc ≡ to
  pub fixed : Fixed g after
  pub output : after.output ≡ s.output
  pub bytes : after.bytes ≡ s.bytes
  pub value : after.registers rd.number ≡ v
  pub registers : (n : ℕ) → n ≢ rd.number → after.registers n ≡ s.registers n

-- `lui` and `addiw` make it
address_is : (n : ℕ) → n < 2 ^ 31 → addiw_value (sign_extended (upper_field n * 4096)) (lower_field n) ≡ n
address_is n h = grind (arith, ints, nat_tests)

abbrev pub address_words : Register → ℕ → List ℕ
address_words rd a = u_type 0x37 rd.number (upper_field a) ∷ i_type 0x1b 0 rd.number rd.number (lower_field a) ∷ []

written_is : (f : ℕ → ℕ) (r : Register) (v : ℕ) → r.number ≢ 0 → written f r v ≡ updated f r.number v
written_is f r v h = rw (ne_eqb r.number 0 h) refl

register_is : (s : State) (r : Register) → r.number ≢ 0 → register s r ≡ s.registers r.number
register_is s r h = rw (ne_eqb r.number 0 h) refl

written_fits : (f : ℕ → ℕ) (r : Register) (v n : ℕ) → v < 2 ^ 64 → ((m : ℕ) → f m < 2 ^ 64) → written f r v n < 2 ^ 64
written_fits f r v n h rest = by_test (r.number == 0)
  where
    by_test : (b : Bool) → (if b then f else updated f r.number v) n < 2 ^ 64
    by_test true = rest n
    by_test false = put_fits f r.number v n h rest

put_fixed : (g : Ground) (s : State) (r : Register) (v : ℕ) → v < 2 ^ 64 → Fixed g s → Fixed g (put s r v)
put_fixed g s r v h f = record {
  permissions = f.permissions;
  code_here = f.code_here;
  words = λ n. written_fits s.registers r v n h f.words;
  small = f.small;
}

written_here : (f : ℕ → ℕ) (r : Register) (v : ℕ) → r.number ≢ 0 → written f r v r.number ≡ v
written_here f r v some = ap (λ (h : ℕ → ℕ). h r.number) (written_is f r v some) ∙ updated_here f r.number v

written_elsewhere : (f : ℕ → ℕ) (r : Register) (v n : ℕ) → r.number ≢ 0 → n ≢ r.number → written f r v n ≡ f n
written_elsewhere f r v n some other = ap (λ (h : ℕ → ℕ). h n) (written_is f r v some) ∙ updated_elsewhere f r.number v n other

pub address_gets : (g : Ground) (at : ℕ) (ws : List ℕ) (rd : Register) (n here : ℕ) → rd.number ≢ 0 → n < 2 ^ 31
    → WordsStand g at ws → AllAt ws here (address_words rd n)
    → (s : State) → Fixed g s → s.pc ≡ at + 4 * here → Gets g 2 (at + 4 * (here + 2)) rd n s
address_gets g at ws rd n here some small stand words s fixed pc =
    let upper : UpperField = upper_part n in
    let lower : Immediate = lower_part n in
    let u : ℕ = upper_value upper in
    let first : InstrAt g (at + 4 * here) (Lui rd upper) = instr_at g at ws here (Lui rd upper) stand words.0 in
    let second : InstrAt g (at + 4 * (here + 1)) (Addiw rd rd lower) = instr_at g at ws (here + 1) (Addiw rd rd lower) stand words.1.0 in
    let inside = second.inside in
    let mid : State = put s rd u in
    let v : ℕ = addiw_value (register mid rd) lower.value in
    let last : State = put mid rd v in
    let next : at + 4 * (here + 1) ≡ (s.pc + 4) % 2 ^ 64 = omega arith in
    let one : step s ≡ Ok mid = step_at g s (Lui rd upper) fixed (subst (λ a. InstrAt g a (Lui rd upper)) (sym pc) first) in
    let mid_fixed : Fixed g mid = put_fixed g s rd u (upper_value_fits upper) fixed in
    let two : step mid ≡ Ok last = step_at g mid (Addiw rd rd lower) mid_fixed (subst (λ a. InstrAt g a (Addiw rd rd lower)) next second) in
    let held : register mid rd ≡ u = register_is mid rd some ∙ written_here s.registers rd u some in
    let is : v ≡ n = ap (λ x. addiw_value x lower.value) held ∙ address_is n small in
    record {
      count = 1 + 1;
      after = last;
      comes = comes_then (comes_by_step s mid one) (comes_by_step mid last two);
      at_least_one = omega arith;
      at_most = omega arith;
      place = omega arith;
      fixed = put_fixed g mid rd v (addiw_value_fits (register mid rd) lower.value) mid_fixed;
      output = refl;
      bytes = refl;
      value = written_here mid.registers rd v some ∙ is;
      registers = λ m other. written_elsewhere mid.registers rd v m some other ∙ written_elsewhere s.registers rd u m some other;
    }
