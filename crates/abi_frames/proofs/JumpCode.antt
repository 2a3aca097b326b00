-- What the code of jumps does.
use Rattle.std.proofs.Common.{lit≤, ◌≡◌, ℕ, ◌+◌, ◌≤◌, Bool, true, false, List, [], ◌∷◌, ◌++◌, refl, sym, ◌∙◌, ap, subst, arith, lit<, append_assoc, ◌&&◌, not, nat_eq, if◌then◌else◌, Some}
use Rattle.abi_frames.proofs.Shared.{Class, Condition, L, State, Item, Label, Location, ReturnValue, Operation, Comparison, Layout, longest_size, and_parts, eqb-true, Comes, is_place, operand_keeps}
use Rattle.il_ast.specs.Prelude.{holds}
use Rattle.rv_isa.specs.Prelude.{Ground, Fixed, Stand, Stands, Moves}
use Rattle.rv_isa.specs.declared.labelled.Item.TheVariants.{Goto as GoTo}
use Rattle.rv_isa.proofs.RunLemmas.{comes_here, comes_then}
use Rattle.vcode.specs.declared.line.Operation.TheVariants.{Compare}
use Rattle.flat_code.specs.Step.{taken as taken_as}
use Rattle.abi_frames.specs.Performs.{passed}
use Rattle.abi_frames.specs.Emission.{passed_class, operand_into, operand_source, goto_items, branch_when, inverted, ways_items, branch_items, result_items}
use Rattle.operation_code.proofs.Leading.{Site, StandAt, Leads, longest-append, Sets, in_register, same_in_register}
use Rattle.abi_frames.proofs.StackAccesses.{is_10, is_28, is_29}
use Rattle.operation_code.proofs.Forms.{as_read}
use Rattle.abi_frames.proofs.Branching.{inverted_holds, when_taken, branch_size, read_holds}
use Rattle.abi_frames.proofs.Activations.{Setting, IsSetting, site, bottom, operand_in}
use Rattle.abi_frames.proofs.LineCode.{Scratched, scratched_then, operand_same, ReadFor, leads_read, read_scratched, read_small, read_not_29}
use Rattle.abi_frames.proofs.Passing.{leads_argument}

-- ---- jumps to labels

-- in at most so many instructions the machine comes from s to a label, and P holds there: in none only if the label is the one that stands next, and code may
-- fall through
pub record Arrives (c : Site) (falls : Bool) (next most : ℕ) (s : State) (l : ℕ) (P : State → Type 0) : Type 0 where
  pub steps : ℕ
  pub after : State
  pub comes : Comes s steps after
  pub few : steps ≤ most
  pub fell : steps ≡ 0 → (falls ≡ true) × (l ≡ next)
  pub fixed : Fixed c.ground after
  pub place : after.pc ≡ c.label l
  pub holds : P after

-- before the label `next`
pub record Jumps (c : Site) (falls : Bool) (next : ℕ) (is : List Item) (s : State) (l : ℕ) (P : State → Type 0) : Type 0 where
  pub from : (rest : List Item) → StandAt c (is ++ (Label next ∷ rest)) s.pc → Fixed c.ground s → Arrives c falls next (longest_size is) s l P

pub jumps_then : (c : Site) (falls : Bool) (next : ℕ) (is js : List Item) (s : State) (l : ℕ) (P Q : State → Type 0) → Leads c is s P
    → ((u : State) → Fixed c.ground u → P u → Jumps c falls next js u l Q) → Jumps c falls next (is ++ js) s l Q
jumps_then c falls next is js s l P Q first second = record {
  from = λ rest stands fixed.
      let one = first.from (js ++ (Label next ∷ rest)) (subst (λ x. StandAt c x s.pc) (append_assoc is js (Label next ∷ rest)) stands) fixed in
      let two = (second one.after one.fixed one.holds).from rest one.stands one.fixed in
      let size = longest-append is js in
      let few_one = one.few in
      let few_two = two.few in
      record {
        steps = one.steps + two.steps;
        after = two.after;
        comes = comes_then one.comes two.comes;
        few = omega (arith, size, few_one, few_two);
        fell = λ e. two.fell (omega (arith, e));
        fixed = two.fixed;
        place = two.place;
        holds = two.holds;
      };
}

pub jumps_so : (c : Site) (falls : Bool) (next : ℕ) (is : List Item) (s : State) (l m : ℕ) (P Q : State → Type 0) → l ≡ m → ((u : State) → P u → Q u)
    → Jumps c falls next is s l P → Jumps c falls next is s m Q
jumps_so c falls next is s l m P Q same so first = record {
  from = λ rest stands fixed.
      let one = first.from rest stands fixed in
      record {
        steps = one.steps;
        after = one.after;
        comes = one.comes;
        few = one.few;
        fell = λ e. let both = one.fell e in (both.0, sym same ∙ both.1);
        fixed = one.fixed;
        place = one.place ∙ ap c.label same;
        holds = so one.after one.holds;
      };
}

pub moved_scratched : (g : Ground) (most to : ℕ) (s : State) → (m : Moves g most to s) → Scratched s m.after
moved_scratched g most to s m = record { registers = λ n lo. m.registers n (λ e. absurd (omega (arith, e, lo))); bytes = m.bytes; output = m.output }

-- by one instruction at least
by_moves : (c : Site) (t : Bool) (next most few to l : ℕ) (s : State) → Moves c.ground few to s → few ≤ most → to ≡ c.label l → Arrives c t next most s l (Scratched s)
by_moves c t next most few to l s m fits place =
    let at_most = m.at_most in
    let some = m.at_least_one in
    record {
      steps = m.count;
      after = m.after;
      comes = m.comes;
      few = omega (arith, at_most, fits);
      fell = λ e. absurd (omega (arith, e, some));
      fixed = m.fixed;
      place = m.place ∙ place;
      holds = moved_scratched c.ground few to s m;
    }

-- to a label, where it stands next and where not
pub jumps_goto : (c : Site) (y : Layout) (s : State) (next l : ℕ) → Jumps c y.falls next (goto_items y next l) s l (Scratched s)
unfolding Stand Stands
jumps_goto c y s next l = by_test y.falls refl (nat_eq l next) refl
  where
    by_jump : (t : Bool) → Jumps c t next (GoTo l ∷ []) s l (Scratched s)
    by_jump t = record { from = λ rest stands fixed. by_moves c t next 2 2 (c.label l) l s (stands.1 s fixed refl) (lit≤ tt) refl }

    by_test : (t : Bool) → y.falls ≡ t → (b : Bool) → nat_eq l next ≡ b → Jumps c t next (if t && b then [] else GoTo l ∷ []) s l (Scratched s)
    by_test true e true d = record {
      from = λ rest stands fixed. record {
        steps = 0;
        after = s;
        comes = comes_here s;
        few = omega arith;
        fell = λ z. (refl, eqb-true l next d);
        fixed = fixed;
        place = sym stands.1.0 ∙ ap c.label (sym (eqb-true l next d));
        holds = record { registers = λ n lo. refl; bytes = refl; output = refl };
      };
    }
    by_test true e false d = by_jump true
    by_test false e b d = by_jump false

-- the label that a test leads to
abbrev pub way_by : (t : Bool) → (met otherwise : ℕ) → ℕ
way_by t met otherwise = if t then met else otherwise

pub label_place : (c : Site) (next : ℕ) (rest : List Item) (b : ℕ) → StandAt c (Label next ∷ rest) b → c.label next ≡ b
unfolding Stand Stands
label_place c next rest b stands = stands.1.0

-- the branch is turned round
jumps_round : (c : Site) (t : Bool) (s : State) (next : ℕ) (on : Condition) (x y met otherwise : ℕ) → met ≡ next
    → Jumps c t next (branch_when (inverted on) x y otherwise ∷ []) s (way_by (holds on L (in_register s x) (in_register s y)) met otherwise) (Scratched s)
unfolding Stand
jumps_round c t s next on x y met otherwise e = record {
  from = λ rest stands fixed.
      subst (λ n. Arrives c t next n s (way_by (holds on L (in_register s x) (in_register s y)) met otherwise) (Scratched s)) (sym (branch_size (inverted on) x y otherwise []))
      (by_test stands.0 (label_place c next rest stands.0 stands.2) (holds on L (in_register s x) (in_register s y))
      (subst (λ z. Moves c.ground 3 (if z then c.label otherwise else stands.0) s) (inverted_holds on (in_register s x) (in_register s y))
      (when_taken c s (inverted on) x y otherwise s.pc stands.0 fixed refl stands.1)));
}
  where
    by_test : (b : ℕ) → c.label next ≡ b → (z : Bool) → (m : Moves c.ground 3 (if not z then c.label otherwise else b) s)
        → Arrives c t next 3 s (if z then met else otherwise) (Scratched s)
    by_test b place false m = by_moves c t next 3 3 (c.label otherwise) otherwise s m (lit≤ tt) refl
    by_test b place true m = by_moves c t next 3 3 b met s m (lit≤ tt) (sym place ∙ ap c.label (sym e))

scratched_same : (s u w : State) → Scratched s u → Scratched u w → Scratched s w
scratched_same s u w one two = record {
  registers = λ n lo. two.registers n lo ∙ one.registers n lo;
  bytes = two.bytes ∙ one.bytes;
  output = two.output ∙ one.output;
}

-- a branch, and else a jump
jumps_forth : (c : Site) (y : Layout) (s : State) (next : ℕ) (on : Condition) (v w met otherwise : ℕ)
    → Jumps c y.falls next (branch_when on v w met ∷ goto_items y next otherwise) s (way_by (holds on L (in_register s v) (in_register s w)) met otherwise) (Scratched s)
unfolding Stand
jumps_forth c y s next on v w met otherwise = record {
  from = λ rest stands fixed.
      subst (λ n. Arrives c y.falls next n s (way_by (holds on L (in_register s v) (in_register s w)) met otherwise) (Scratched s))
      (sym (branch_size on v w met (goto_items y next otherwise)))
      (by_test rest stands.0 stands.2 (holds on L (in_register s v) (in_register s w)) (when_taken c s on v w met s.pc stands.0 fixed refl stands.1));
}
  where
    by_test : (rest : List Item) (b : ℕ) → StandAt c (goto_items y next otherwise ++ (Label next ∷ rest)) b → (z : Bool)
        → (m : Moves c.ground 3 (if z then c.label met else b) s)
        → Arrives c y.falls next (3 + longest_size (goto_items y next otherwise)) s (if z then met else otherwise) (Scratched s)
    by_test rest b stands true m = by_moves c y.falls next (3 + longest_size (goto_items y next otherwise)) 3 (c.label met) met s m (omega arith) refl
    by_test rest b stands false m =
        let some = m.at_least_one in
        let few = m.at_most in
        let k = (jumps_goto c y m.after next otherwise).from rest
        (subst (λ x. StandAt c (goto_items y next otherwise ++ (Label next ∷ rest)) x) (sym m.place) stands) m.fixed in
        let few_more = k.few in
        record {
          steps = m.count + k.steps;
          after = k.after;
          comes = comes_then m.comes k.comes;
          few = omega (arith, few, few_more);
          fell = λ d. absurd (omega (arith, d, some));
          fixed = k.fixed;
          place = k.place;
          holds = scratched_same s m.after k.after (moved_scratched c.ground 3 b s m) k.holds;
        }

jumps_ways : (c : Site) (y : Layout) (s : State) (next : ℕ) (on : Condition) (v w met otherwise : ℕ)
    → Jumps c y.falls next (ways_items y next on v w met otherwise) s (way_by (holds on L (in_register s v) (in_register s w)) met otherwise) (Scratched s)
jumps_ways c y s next on v w met otherwise = by_test (y.falls && nat_eq met next) refl
  where
    next_is : (y.falls && nat_eq met next) ≡ true → met ≡ next
    next_is e = eqb-true met next (and_parts y.falls (nat_eq met next) e).1

    by_test : (t : Bool) → (y.falls && nat_eq met next) ≡ t
        → Jumps c y.falls next
        (if t then branch_when (inverted on) v w otherwise ∷ [] else branch_when on v w met ∷ goto_items y next otherwise) s
        (way_by (holds on L (in_register s v) (in_register s w)) met otherwise) (Scratched s)
    by_test true e = jumps_round c y.falls s next on v w met otherwise (next_is e)
    by_test false e = jumps_forth c y s next on v w met otherwise

-- whether the comparison holds of what the machine has
abbrev pub meets : Setting → State → Comparison Location → Bool
meets c s on = holds on.condition on.class (taken_as on.class (operand_in c s on.left)) (taken_as on.class (operand_in c s on.right))

pub jumps_branch : (c : Setting) → IsSetting c → (s : State) (next : ℕ) (on : Comparison Location) (met otherwise : ℕ) → s.registers 2 ≡ bottom c
    → operand_keeps (is_place c.slots) on.left ≡ true → operand_keeps (is_place c.slots) on.right ≡ true
    → Jumps (site c) c.layout.falls next (branch_items c.layout next on met otherwise) s (way_by (meets c s on) met otherwise) (Scratched s)
jumps_branch c is s next on met otherwise pointer known_a known_b =
    let a = on.left in
    let b = on.right in
    let op : Operation = Compare on.condition on.class in
    let x = operand_source op 28 a in
    let y = operand_source op 29 b in
    let ways = ways_items c.layout next on.condition x y met otherwise in
    let l : ℕ = way_by (meets c s on) met otherwise in
    jumps_then (site c) c.layout.falls next (operand_into c.layout op 28 a) (operand_into c.layout op 29 b ++ ways) s l (ReadFor c s op 28 a) (Scratched s)
    (leads_read c is s op 28 a is_28 (λ e. absurd (omega (arith, e))) pointer known_a)
    (λ u f one.
    let same = read_scratched c s op 28 a u (omega arith) one in
    let pointer_u = same.registers 2 (lit< tt) ∙ pointer in
    jumps_then (site c) c.layout.falls next (operand_into c.layout op 29 b) ways u l (ReadFor c u op 29 b) (Scratched s)
    (leads_read c is u op 29 b is_29 (λ e. absurd (omega (arith, e))) pointer_u known_b)
    (λ w g two.
    let same_w = read_scratched c u op 29 b w (omega arith) two in
    let all = scratched_then s u w same same_w in
    let left : in_register w x ≡ as_read op (operand_in c s a) =
    same_in_register u w x (read_small c.slots op 28 a (lit< tt) known_a) (two.others x (read_not_29 c.slots op a known_a)) ∙ one.value in
    let right : in_register w y ≡ as_read op (operand_in c s b) = two.value ∙ ap (as_read op) (operand_same c s u b known_b same) in
    let test : holds on.condition L (in_register w x) (in_register w y) ≡ meets c s on =
    ap (λ m. holds on.condition L m (in_register w y)) left
    ∙ (ap (holds on.condition L (as_read op (operand_in c s a))) right ∙ read_holds on.condition on.class (operand_in c s a) (operand_in c s b)) in
    jumps_so (site c) c.layout.falls next ways w (way_by (holds on.condition L (in_register w x) (in_register w y)) met otherwise) l (Scratched w) (Scratched s)
    (ap (λ (t : Bool). way_by t met otherwise) test) (λ t three. scratched_same s w t all three)
    (jumps_ways (site c) c.layout w next on.condition x y met otherwise)))

-- ---- results

-- the operand as a result of class k is in x10
pub leads_result : (c : Setting) → IsSetting c → (s : State) (k : Class) (a : ReturnValue Location) → s.registers 2 ≡ bottom c
    → operand_keeps (is_place c.slots) a.value ≡ true
    → Leads (site c) (result_items c.layout (Some k) a) s (Sets s 10 (passed (passed_class a.extension k) (taken_as (passed_class a.extension k) (operand_in c s a.value))))
leads_result c is s k a pointer known = leads_argument c is s 10 (passed_class a.extension k) a.value is_10 (λ e. absurd (omega (arith, e))) pointer known
