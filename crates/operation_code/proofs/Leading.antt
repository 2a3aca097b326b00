-- What labelled code does from a state, wherever it stands: it leads the machine to what follows it, within its size, where something holds.
use Rattle.std.proofs.Common.{◌≡◌, ◌≢◌, ℕ, ◌+◌, ◌%◌, ◌^◌, ◌<◌, ◌≤◌, Bool, true, false, List, [], ◌∷◌, ◌++◌, refl, sym, ◌∙◌, ap, subst, arith, lit<, ne_eqb, zero-add, append_assoc, ◌==◌, if◌then◌else◌, Ok}
use Rattle.rv_isa.specs.Prelude.{State, IsState, register, updated, written, put, step, act, Comes, longest_size, Ground, Fixed, InstrAt, Stand, Stands}
use Rattle.rv_isa.specs.declared.ranges.Register.{Register}
use Rattle.rv_isa.specs.declared.instruction.Instr.{Instr}
use Rattle.rv_isa.specs.declared.labelled.Item.{Item}
use Rattle.rv_isa.specs.declared.labelled.Item.TheVariants.{Plain}
use Rattle.rv_isa.proofs.MemoryLemmas.{updated_here, updated_elsewhere}
use Rattle.rv_isa.proofs.RunLemmas.{comes_here, comes_by_step, comes_then}
use Rattle.rv_isa.proofs.StepLemmas.{step_at}
use Rattle.rv_isa.proofs.KeepLemmas.{step_keeps}
use Rattle.operation_code.specs.Constants.{reg}

-- where labelled code stands, with what its labels and globals are
pub record Site : Type 0 where
  pub ground : Ground
  pub label : ℕ → ℕ
  pub global : ℕ → ℕ

abbrev pub StandAt : Site → List Item → ℕ → Type 0
StandAt c is a = Stand c.ground c.label c.global is a

-- in at most so many instructions the machine comes from s to where `rest` stands, and P holds there
pub record Reaches (c : Site) (most : ℕ) (rest : List Item) (s : State) (P : State → Type 0) : Type 0 where
  pub steps : ℕ
  pub after : State
  pub comes : Comes s steps after
  pub few : steps ≤ most
  pub stands : StandAt c rest after.pc
  pub fixed : Fixed c.ground after
  pub holds : P after

pub record Leads (c : Site) (is : List Item) (s : State) (P : State → Type 0) : Type 0 where
  pub from : (rest : List Item) → StandAt c (is ++ rest) s.pc → Fixed c.ground s → Reaches c (longest_size is) rest s P

pub longest-append : (is js : List Item) → longest_size (is ++ js) ≡ longest_size is + longest_size js
longest-append [] js = sym (zero-add (longest_size js))
longest-append (i ∷ is) js = let rest = longest-append is js in omega (arith, rest)

pub leads_nowhere : (c : Site) (s : State) (P : State → Type 0) → P s → Leads c [] s P
leads_nowhere c s P holds = record {
  from = λ rest stands fixed. record {
    steps = 0;
    after = s;
    comes = comes_here s;
    few = omega arith;
    stands = stands;
    fixed = fixed;
    holds = holds;
  };
}

pub leads_then : (c : Site) (is js : List Item) (s : State) (P Q : State → Type 0) → Leads c is s P
    → ((u : State) → Fixed c.ground u → P u → Leads c js u Q) → Leads c (is ++ js) s Q
leads_then c is js s P Q first second = record {
  from = λ rest stands fixed.
      let one = first.from (js ++ rest) (subst (λ l. StandAt c l s.pc) (append_assoc is js rest) stands) fixed in
      let two = (second one.after one.fixed one.holds).from rest one.stands one.fixed in
      let size = longest-append is js in
      let few_one = one.few in
      let few_two = two.few in
      record {
        steps = one.steps + two.steps;
        after = two.after;
        comes = comes_then one.comes two.comes;
        few = omega (arith, size, few_one, few_two);
        stands = two.stands;
        fixed = two.fixed;
        holds = two.holds;
      };
}

pub leads_so : (c : Site) (is : List Item) (s : State) (P Q : State → Type 0) → Leads c is s P → ((u : State) → Fixed c.ground u → P u → Q u) → Leads c is s Q
leads_so c is s P Q first so = record {
  from = λ rest stands fixed.
      let one = first.from rest stands fixed in
      record {
        steps = one.steps;
        after = one.after;
        comes = one.comes;
        few = one.few;
        stands = one.stands;
        fixed = one.fixed;
        holds = so one.after one.fixed one.holds;
      };
}

-- with what is known of the state only where the machine comes there
pub leads_fixed : (c : Site) (is : List Item) (s : State) (P : State → Type 0) → (Fixed c.ground s → Leads c is s P) → Leads c is s P
leads_fixed c is s P by = record { from = λ rest stands fixed. (by fixed).from rest stands fixed }

-- ---- one instruction

pub state_is : (c : Site) (s : State) → Fixed c.ground s → s.pc < 2 ^ 64 → IsState s
state_is c s fixed h = record { pc = h; registers = fixed.words; bytes = fixed.small }

-- the step of an instruction that stands there
pub stepped : (c : Site) (s t : State) (i : Instr) → Fixed c.ground s → InstrAt c.ground s.pc i → act i s ≡ Ok t
    → t.allows ≡ s.allows → ((a : ℕ) → (c.ground.allows a).writable ≡ false → t.bytes a ≡ s.bytes a) → (step s ≡ Ok t) × Fixed c.ground t
stepped c s t i fixed at acts permissions code =
    let inside = at.inside in
    let goes : step s ≡ Ok t = step_at c.ground s i fixed at ∙ acts in
    let is : IsState t = step_keeps s t (state_is c s fixed (omega (arith, inside))) goes in (
      goes,
      record {
        permissions = permissions ∙ fixed.permissions;
        code_here = λ a h. code a h ∙ fixed.code_here a h;
        words = is.registers;
        small = is.bytes;
      },
    )

pub leads_by : (c : Site) (s t : State) (i : Instr) (P : State → Type 0) → act i s ≡ Ok t → t.pc ≡ (s.pc + 4) % 2 ^ 64
    → t.allows ≡ s.allows → ((a : ℕ) → (c.ground.allows a).writable ≡ false → t.bytes a ≡ s.bytes a) → P t → Leads c (Plain i ∷ []) s P
unfolding Stand Stands
leads_by c s t i P acts next permissions code holds = record {
  from = λ rest stands fixed.
      let at = stands.1.0 in
      let inside = at.inside in
      let both = stepped c s t i fixed at acts permissions code in
      let pc : s.pc + 4 ≡ t.pc = omega (arith, inside, next) in
      record {
        steps = 1;
        after = t;
        comes = comes_by_step s t both.0;
        few = omega arith;
        stands = subst (λ a. StandAt c rest a) (stands.1.1 ∙ pc) stands.2;
        fixed = both.1;
        holds = holds;
      };
}

-- ---- an instruction that leaves a value in a register

-- v is in register d, and all else but pc is as it was
pub record Sets (s : State) (d v : ℕ) (u : State) : Type 0 where
  pub value : u.registers d ≡ v
  pub others : (n : ℕ) → n ≢ d → u.registers n ≡ s.registers n
  pub bytes : u.bytes ≡ s.bytes
  pub output : u.output ≡ s.output

written_is : (f : ℕ → ℕ) (r : Register) (v : ℕ) → r.number ≢ 0 → written f r v ≡ updated f r.number v
written_is f r v h = rw (ne_eqb r.number 0 h) refl

written_here : (f : ℕ → ℕ) (r : Register) (v : ℕ) → r.number ≢ 0 → written f r v r.number ≡ v
written_here f r v some = ap (λ (h : ℕ → ℕ). h r.number) (written_is f r v some) ∙ updated_here f r.number v

written_elsewhere : (f : ℕ → ℕ) (r : Register) (v n : ℕ) → r.number ≢ 0 → n ≢ r.number → written f r v n ≡ f n
written_elsewhere f r v n some other = ap (λ (h : ℕ → ℕ). h n) (written_is f r v some) ∙ updated_elsewhere f r.number v n other

pub leads_put : (c : Site) (s : State) (i : Instr) (rd : Register) (d w v : ℕ) → rd.number ≡ d → 0 < d → act i s ≡ Ok (put s rd w) → w ≡ v
    → Leads c (Plain i ∷ []) s (Sets s d v)
leads_put c s i rd d w v is some acts value =
    let nonzero : rd.number ≢ 0 = λ e. absurd (omega (arith, e, is)) in
    leads_by c s (put s rd w) i (Sets s d v) acts refl refl (λ a h. refl)
    (record {
      value = ap (written s.registers rd w) (sym is) ∙ written_here s.registers rd w nonzero ∙ value;
      others = λ n other. written_elsewhere s.registers rd w n nonzero (λ e. other (e ∙ is));
      bytes = refl;
      output = refl;
    })

pub sets_then : (s u t : State) (d v w : ℕ) → Sets s d v u → Sets u d w t → Sets s d w t
sets_then s u t d v w first second = record {
  value = second.value;
  others = λ n other. second.others n other ∙ first.others n other;
  bytes = second.bytes ∙ first.bytes;
  output = second.output ∙ first.output;
}

-- one register is set, and then again
pub leads_again : (c : Site) (is js : List Item) (s : State) (d v w : ℕ) → Leads c is s (Sets s d v)
    → ((u : State) → Fixed c.ground u → Sets s d v u → Leads c js u (Sets u d w)) → Leads c (is ++ js) s (Sets s d w)
leads_again c is js s d v w first second =
    leads_then c is js s (Sets s d v) (Sets s d w) first
    (λ u fixed one. leads_so c js u (Sets u d w) (Sets s d w) (second u fixed one) (λ t h two. sets_then s u t d v w one two))

-- ---- registers by numbers

pub record IsReg (n : ℕ) : Type 0 where
  pub some : 0 < n
  pub small : n < 32

pub number_of_reg : (n : ℕ) → IsReg n → n % 32 ≡ n
number_of_reg n is = let small = is.small in omega (arith, small)

pub register_reg : (s : State) (n : ℕ) → IsReg n → register s (reg n) ≡ s.registers n
register_reg s n is =
    let some = is.some in
    ap (λ k. if k == 0 then 0 else s.registers k) (number_of_reg n is) ∙ rw (ne_eqb n 0 (λ e. absurd (omega (arith, some, e)))) refl

pub leads_set : (c : Site) (s : State) (i : Instr) (d w v : ℕ) → IsReg d → act i s ≡ Ok (put s (reg d) w) → w ≡ v
    → Leads c (Plain i ∷ []) s (Sets s d v)
leads_set c s i d w v is acts value = leads_put c s i (reg d) d w v (number_of_reg d is) is.some acts value

-- ---- what an instruction reads by a register's number: 0 by that of x0

abbrev pub in_register : State → ℕ → ℕ
in_register s n = register s (reg n)

pub same_in_register : (s u : State) (n : ℕ) → n < 32 → u.registers n ≡ s.registers n → in_register u n ≡ in_register s n
same_in_register s u n small same =
    let is : n % 32 ≡ n = omega (arith, small) in
    ap (λ x. if n % 32 == 0 then 0 else x) (ap u.registers is ∙ (same ∙ ap s.registers (sym is)))

pub in_register_small : (g : Ground) (s : State) (n : ℕ) → Fixed g s → in_register s n < 2 ^ 64
in_register_small g s n fixed = by_test (n % 32 == 0)
  where
    by_test : (b : Bool) → (if b then 0 else s.registers (n % 32)) < 2 ^ 64
    by_test true = lit< tt
    by_test false = fixed.words (n % 32)
