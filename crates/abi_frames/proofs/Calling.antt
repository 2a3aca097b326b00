-- A call, and the return from it: the machine is ready for the callee, and what a frame keeps is there again afterwards.
use Rattle.std.proofs.Common.{◌≡◌, ◌≢◌, ℕ, zero, suc, ◌+◌, ◌-◌, ◌*◌, ◌%◌, ◌^◌, ◌<◌, ◌≤◌, Bool, true, false, List, [], ◌∷◌, ◌++◌, refl, sym, ◌∙◌, ap, subst, arith, lit<, lit≤, ◌&&◌, nat_eq, nat_le, if◌then◌else◌, length, map, slice_get, Option, Some, None, Ok}
use Rattle.bits.specs.Words.{sign_extended}
use Rattle.abi_frames.proofs.Shared.{Class, W, L, State, Immediate, Plain, Item, Location, InRegister, Slot, Operand, At, Number, Name, Argument, option_map, option_and_then, list_all, and_parts, slice_get_within, same_Some, none-some, not_both, none_is_not, nat_tests, number_at, moved, Comes, is_place, operand_keeps, low}
use Rattle.rv_isa.specs.Prelude.{register, written, act, jump, even_below, Fixed, Stand, Stands}
use Rattle.rv_isa.specs.declared.instruction.Instr.TheVariants.{Jalr}
use Rattle.rv_isa.proofs.MemoryLemmas.{number_same, updated_elsewhere}
use Rattle.rv_isa.proofs.RunLemmas.{comes_by_step}
use Rattle.vcode.specs.declared.place.Extension.{Extension}
use Rattle.vcode.specs.declared.place.Extension.TheVariants.{Made, Claimed}
use Rattle.vcode.specs.Prelude.{is_extended, is_callers}
use Rattle.flat_code.specs.Flat.{NoAccess, ThisByte, Spots, SameReach}
use Rattle.flat_code.specs.Step.{Numbers, kept, number_of, read_all, taken, passed as read_passed}
use Rattle.abi_frames.specs.Performs.{Ready, Back, is_kept, passed}
use Rattle.operation_code.specs.Constants.{reg, add_low}
use Rattle.abi_frames.specs.Emission.{fetch, source, passed_class, callee_items, callee_source, prepare_items, call_through}
use Rattle.operation_code.proofs.Leading.{Site, StandAt, Leads, leads_nowhere, IsReg, register_reg, stepped, in_register, in_register_small, same_in_register}
use Rattle.abi_frames.proofs.Leads.{leads_on, leads_as}
use Rattle.abi_frames.proofs.StackAccesses.{is_28, same_address}
use Rattle.abi_frames.proofs.Activations.{Setting, IsSetting, site, bottom, slot_at, save_at, value_at, operand_in, place_is, place_reg, slot_is, is_among, is_held, Framed, operand_known, byte_has_access}
use Rattle.abi_frames.proofs.LineCode.{leads_fetch}
use Rattle.abi_frames.proofs.Passing.{sent, in_place, Kept, operand_kept, sent_kept, each, Stacked, stacked_keeps, leads_stack}
use Rattle.abi_frames.proofs.Arranging.{InRegisters, leads_copy, leads_passed}

-- ---- the arguments, and the callee's address

-- all arguments are where the convention has them
pub record Passed (c : Setting) (s : State) (args : List (Argument Location)) (u : State) : Type 0 where
  pub in_registers : (i : ℕ) (a : Argument Location) → i < 8 → slice_get args i ≡ Some a → u.registers (10 + i) ≡ sent c s a
  pub on_stack : (i : ℕ) (a : Argument Location) → 8 ≤ i → slice_get args i ≡ Some a
      → number_at u.bytes (bottom c + 8 * (i - 8)) 8 ≡ sent c s a
  pub low : (n : ℕ) → n < 10 → u.registers n ≡ s.registers n
  pub high : (n : ℕ) → 17 < n → n < 28 → u.registers n ≡ s.registers n
  pub below : (x : ℕ) → x < bottom c → u.bytes x ≡ s.bytes x
  pub above : (x : ℕ) → bottom c + 8 * (length args - 8) ≤ x → u.bytes x ≡ s.bytes x
  pub output : u.output ≡ s.output

-- the callee's address is in its register; that of a name is left to the jump
abbrev pub HasAddress : Setting → (s u : State) → Operand Location → Type 0
HasAddress c s u (Name g) = Unit {0}
HasAddress c s u a = in_register u (callee_source a) ≡ operand_in c s a

pub record Prepared (c : Setting) (s : State) (callee : Operand Location) (args : List (Argument Location)) (u : State) : Type 0 where
  pub passed : Passed c s args u
  pub address : HasAddress c s u callee

-- the callee's address is in a register that is not for arguments
record HasCallee (c : Setting) (s : State) (callee : Operand Location) (u : State) : Type 0 where
  value : HasAddress c s u callee
  others : (n : ℕ) → n ≢ 28 → u.registers n ≡ s.registers n
  bytes : u.bytes ≡ s.bytes
  output : u.output ≡ s.output

leads_fetched : (c : Setting) → IsSetting c → (s : State) (a : Operand Location) → s.registers 2 ≡ bottom c → operand_keeps (is_place c.slots) a ≡ true
    → callee_items c.layout a ≡ fetch c.layout 28 a → callee_source a ≡ source 28 a
    → ((u : State) → in_register u (callee_source a) ≡ operand_in c s a → HasAddress c s u a) → Leads (site c) (callee_items c.layout a) s (HasCallee c s a)
leads_fetched c is s a pointer known items there has =
    subst (λ l. Leads (site c) l s (HasCallee c s a)) (sym items)
    (leads_as (leads_fetch c is s 28 a is_28 (λ e. absurd (omega (arith, e))) pointer known)
    (λ u f h. record { value = has u (ap (in_register u) there ∙ h.value); others = h.others; bytes = h.bytes; output = h.output }))

leads_callee : (c : Setting) → IsSetting c → (s : State) (callee : Operand Location) → s.registers 2 ≡ bottom c → operand_keeps (is_place c.slots) callee ≡ true
    → Leads (site c) (callee_items c.layout callee) s (HasCallee c s callee)
leads_callee c is s (At (InRegister r)) pointer known = by_test (nat_le 10 r && nat_le r 17) refl
  where
    reg : IsReg r
    reg = place_reg r (place_is c.slots r known)

    by_test : (t : Bool) → (nat_le 10 r && nat_le r 17) ≡ t
        → Leads (site c) (if t then add_low 28 r 0 ∷ [] else []) s (HasCallee c s (At (InRegister r)))
    by_test true e =
        let there : callee_source (At (InRegister r)) ≡ 28 = ap (λ (t : Bool). if t then 28 else r) e in
        leads_as (leads_copy (site c) s 28 r is_28 reg)
        (λ u f h. record {
          value = ap (in_register u) there ∙ (register_reg u 28 is_28 ∙ h.value);
          others = h.others;
          bytes = h.bytes;
          output = h.output;
        })
    by_test false e =
        let there : callee_source (At (InRegister r)) ≡ r = ap (λ (t : Bool). if t then 28 else r) e in
        leads_nowhere (site c) s (HasCallee c s (At (InRegister r)))
        (record { value = ap (in_register s) there ∙ register_reg s r reg; others = λ n h. refl; bytes = refl; output = refl })
leads_callee c is s (At (Slot i)) pointer known = leads_fetched c is s (At (Slot i)) pointer known refl refl (λ u e. e)
leads_callee c is s (Number n) pointer known = leads_fetched c is s (Number n) pointer known refl refl (λ u e. e)
leads_callee c is s (Name g) pointer known =
    leads_nowhere (site c) s (HasCallee c s (Name g)) (record { value = tt; others = λ n h. refl; bytes = refl; output = refl })

stays_low : (c : Setting) (s u : State) (args : List (Argument Location)) → InRegisters c s args u → (n : ℕ) → n < 10 → in_register u n ≡ in_register s n
stays_low c s u args h n lo = same_in_register s u n (omega (arith, lo)) (h.low n lo)

stays_high : (c : Setting) (s u : State) (args : List (Argument Location)) → InRegisters c s args u → (n : ℕ) → 17 < n → n < 29 → in_register u n ≡ in_register s n
stays_high c s u args h n lo hi = same_in_register s u n (omega (arith, hi)) (h.high n lo (λ e. absurd (omega (arith, e, hi))))

-- it stays there
callee_stays : (c : Setting) (s u w : State) (callee : Operand Location) (args : List (Argument Location)) → operand_keeps (is_place c.slots) callee ≡ true
    → HasCallee c s callee u → InRegisters c u args w → HasAddress c s w callee
callee_stays c s u w (At (InRegister r)) args known one two = by_range (nat_le 10 r) refl (nat_le r 17) refl ∙ one.value
  where
    hi : r ≤ 27
    hi = (place_is c.slots r known).to_27

    by_range : (p : Bool) → nat_le 10 r ≡ p → (q : Bool) → nat_le r 17 ≡ q
        → in_register w (if p && q then 28 else r) ≡ in_register u (if p && q then 28 else r)
    by_range true e true f = stays_high c u w args two 28 (lit< tt) (lit< tt)
    by_range true e false f = stays_high c u w args two r (grind (arith, nat_tests)) (omega (arith, hi))
    by_range false e q f = stays_low c u w args two r (grind (arith, nat_tests))
callee_stays c s u w (At (Slot i)) args known one two = stays_high c u w args two 28 (lit< tt) (lit< tt) ∙ one.value
callee_stays c s u w (Number n) args known one two = by_test (nat_eq n 0) ∙ one.value
  where
    by_test : (t : Bool) → in_register w (if t then 0 else 28) ≡ in_register u (if t then 0 else 28)
    by_test true = stays_low c u w args two 0 (lit< tt)
    by_test false = stays_high c u w args two 28 (lit< tt) (lit< tt)
callee_stays c s u w (Name g) args known one two = tt

-- of what the callee holds as it did before
address_of : (c : Setting) (s t w : State) (callee : Operand Location) → HasAddress c t w callee → operand_in c t callee ≡ operand_in c s callee
    → HasAddress c s w callee
address_of c s t w (At p) h e = h ∙ e
address_of c s t w (Number n) h e = h ∙ e
address_of c s t w (Name g) h e = tt

passed_all : (c : Setting) → IsSetting c → (s t u w : State) (callee : Operand Location) (args : List (Argument Location)) → list_all (in_place c.slots) args ≡ true
    → Stacked c s 0 args t → Kept c s t → HasCallee c t callee u → InRegisters c u args w → Passed c s args w
passed_all c is s t u w callee args good one kept two three =
    let bytes : w.bytes ≡ t.bytes = three.bytes ∙ two.bytes in
    let same : Kept c s u = record {
      registers = λ n low. two.others n (λ e. absurd (omega (arith, e, low))) ∙ kept.registers n low;
      bytes = λ x hi. ap (λ (m : ℕ → ℕ). m x) two.bytes ∙ kept.bytes x hi;
    } in
    record {
      in_registers = λ i a few e. three.in_registers i a few e ∙ sent_kept c is s u a same (each (in_place c.slots) args i a good e);
      on_stack = λ i a many e.
          let here : bottom c + 8 * (i - 8) ≡ bottom c + 8 * (0 + i - 8) = omega arith in
          ap (λ (m : ℕ → ℕ). number_at m (bottom c + 8 * (i - 8)) 8) bytes
          ∙ (ap (λ x. number_at t.bytes x 8) here ∙ one.on_stack i a (omega (arith, many)) e);
      low = λ n lo. three.low n lo ∙ same.registers n (omega (arith, lo));
      high = λ n hi below. three.high n hi (λ e. absurd (omega (arith, e, below))) ∙ same.registers n (omega (arith, below));
      below = λ x lo. ap (λ (m : ℕ → ℕ). m x) bytes ∙ one.below x (omega (arith, lo));
      above = λ x hi. ap (λ (m : ℕ → ℕ). m x) bytes ∙ one.above x (omega (arith, hi));
      output = three.output ∙ (two.output ∙ one.output);
    }

pub leads_prepared : (c : Setting) → IsSetting c → (s : State) (callee : Operand Location) (args : List (Argument Location)) → s.registers 2 ≡ bottom c
    → operand_keeps (is_place c.slots) callee ≡ true → list_all (in_place c.slots) args ≡ true → 8 * (length args - 8) ≤ c.layout.saves
    → Leads (site c) (prepare_items c.layout callee args) s (Prepared c s callee args)
leads_prepared c is s callee args pointer known good fits =
    let room : 8 * (0 + length args - 8) ≤ c.layout.saves = omega (arith, fits) in
    leads_on (leads_stack c is s 0 args pointer good room)
    (λ t f one.
    let kept = stacked_keeps c s 0 args t room one in
    let at_t : t.registers 2 ≡ bottom c = kept.registers 2 (lit≤ tt) ∙ pointer in
    leads_on (leads_callee c is t callee at_t known)
    (λ u g two.
    leads_as (leads_passed c is u args (two.others 2 (λ e. absurd (omega (arith, e))) ∙ at_t) good)
    (λ w h three. record {
      passed = passed_all c is s t u w callee args good one kept two three;
      address = address_of c s t w callee (callee_stays c t u w callee args known two three) (operand_kept c is s t callee kept known);
    })))

-- ---- the jump to the callee

abbrev gone_to : State → ℕ → State
gone_to s to = record s { pc = to; registers = written s.registers (reg 1) ((s.pc + 4) % 2 ^ 64) }

-- the machine is at the callee's address, with the address of the code that follows in x1
pub record Gone (c : Site) (rest : List Item) (to : ℕ) (s v : State) : Type 0 where
  pub steps : ℕ
  pub comes : Comes s steps v
  pub some : 0 < steps
  pub few : steps ≤ 2
  pub fixed : Fixed c.ground v
  pub place : v.pc ≡ to
  pub stands : StandAt c rest (v.registers 1)
  pub aligned : v.registers 1 % 4 ≡ 0
  pub others : (n : ℕ) → n ≢ 1 → v.registers n ≡ s.registers n
  pub bytes : v.bytes ≡ s.bytes
  pub output : v.output ≡ s.output

jump_goes : (s : State) (x target : ℕ) → x ≡ target → target % 4 ≡ 0 → jump s (reg 1) x ≡ Ok (gone_to s target)
jump_goes s x target e aligned = subst (λ y. jump s (reg 1) y ≡ Ok (gone_to s target)) (sym e) (rw aligned refl)

even_is : (x : ℕ) → x % 4 ≡ 0 → even_below x ≡ x
even_is x aligned = omega (arith, aligned)

goes_by : (c : Site) (s : State) (i : Immediate) (r to : ℕ) (rest : List Item) → moved (in_register s r) i.value ≡ to → to % 4 ≡ 0
    → StandAt c (Plain (Jalr (reg 1) (reg r) i) ∷ rest) s.pc → Fixed c.ground s → Gone c rest to s (gone_to s to)
unfolding Stand Stands
goes_by c s i r to rest held even stands fixed =
    let at = stands.1.0 in
    let inside = at.inside in
    let start = at.aligned in
    let target : even_below (moved (register s (reg r)) i.value) ≡ to = ap even_below held ∙ even_is to even in
    let acts : act (Jalr (reg 1) (reg r) i) s ≡ Ok (gone_to s to) = jump_goes s (even_below (moved (register s (reg r)) i.value)) to target even in
    let both = stepped c s (gone_to s to) (Jalr (reg 1) (reg r) i) fixed at acts refl (λ a h. refl) in
    let next : stands.0 ≡ (gone_to s to).registers 1 = stands.1.1 ∙ after s.pc inside in
    record {
      steps = 1;
      comes = comes_by_step s (gone_to s to) both.0;
      some = lit< tt;
      few = lit≤ tt;
      fixed = both.1;
      place = refl;
      stands = subst (λ a. StandAt c rest a) next stands.2;
      aligned = four_more s.pc inside start;
      others = λ n other. updated_elsewhere s.registers 1 ((s.pc + 4) % 2 ^ 64) n other;
      bytes = refl;
      output = refl;
    }
  where
    after : (p : ℕ) → p + 4 < 2 ^ 64 → p + 4 ≡ (p + 4) % 2 ^ 64
    after p h = omega (arith, h)

    four_more : (p : ℕ) → p + 4 < 2 ^ 64 → p % 4 ≡ 0 → (p + 4) % 2 ^ 64 % 4 ≡ 0
    four_more p h e = omega (arith, h, e)

-- with the address in a register
goes_through : (c : Site) (s : State) (r to : ℕ) (rest : List Item) → in_register s r ≡ to → to % 4 ≡ 0
    → StandAt c (Plain (Jalr (reg 1) (reg r) (low 0)) ∷ rest) s.pc → Fixed c.ground s → Gone c rest to s (gone_to s to)
goes_through c s r to rest held even stands fixed =
    let word : to < 2 ^ 64 = subst (λ x. x < 2 ^ 64) held (in_register_small c.ground s r fixed) in
    goes_by c s (low 0) r to rest (ap (λ x. moved x (low 0).value) held ∙ same_address to word) even stands fixed

pub record Goes (c : Site) (rest : List Item) (to : ℕ) (s : State) : Type 0 where
  pub v : State
  pub gone : Gone c rest to s v

-- to a name
goes_to_name : (c : Site) (s : State) (g to : ℕ) (rest : List Item) → c.global g < 2 ^ 30 → c.global g ≡ to → to % 4 ≡ 0
    → StandAt c (call_through (Name g) ++ rest) s.pc → Fixed c.ground s → Goes c rest to s
unfolding Stand Stands
goes_to_name c s g to rest near is even stands fixed =
    let called = stands.1.1 (ap (λ x. x % 4) is ∙ even) near s fixed refl in
    record {
      v = called.after;
      gone = record {
        steps = called.count;
        comes = called.comes;
        some = called.at_least_one;
        few = called.at_most;
        fixed = called.fixed;
        place = called.place ∙ is;
        stands = subst (λ a. StandAt c rest a) (sym called.return_address) stands.2;
        aligned = ap (λ x. x % 4) called.return_address ∙ stands.1.0;
        others = called.registers;
        bytes = called.bytes;
        output = called.output;
      };
    }

pub goes_to : (c : Setting) → IsSetting c → (s u : State) (callee : Operand Location) (to : ℕ) (rest : List Item) → HasAddress c s u callee
    → operand_in c s callee ≡ to → to % 4 ≡ 0 → StandAt (site c) (call_through callee ++ rest) u.pc → Fixed c.world.memory_map u → Goes (site c) rest to u
goes_to c is s u (At p) to rest has is_to even stands fixed =
    record { v = gone_to u to; gone = goes_through (site c) u (callee_source (At p)) to rest (has ∙ is_to) even stands fixed }
goes_to c is s u (Number n) to rest has is_to even stands fixed =
    record { v = gone_to u to; gone = goes_through (site c) u (callee_source (Number n)) to rest (has ∙ is_to) even stands fixed }
goes_to c is s u (Name g) to rest has is_to even stands fixed = goes_to_name (site c) u g to rest (is.near g) is_to even stands fixed

-- ---- what the arguments are

-- y is what is passed of the number x, and what the machine passes is how it stands
pub record PassedSo (t : Extension) (k : Class) (x y : ℕ) : Type 0 where
  pub is : taken k x ≡ y
  pub stands : passed (passed_class t k) (taken (passed_class t k) x) ≡ passed k (taken k x)

claimed_stands : (x : ℕ) → sign_extended (x % 2 ^ 32) ≡ x → x ≡ passed W (taken W x)
claimed_stands x h = sym (ap sign_extended (again x) ∙ h)
  where
    again : (n : ℕ) → n % 2 ^ 32 % 2 ^ 32 ≡ n % 2 ^ 32
    again n = omega arith

pub passed_so : (t : Extension) (k : Class) (x y : ℕ) → read_passed t k x ≡ Some y → PassedSo t k x y
passed_so Made k x y h = record { is = same_Some (taken k x) y h; stands = refl }
passed_so Claimed L x y h = record { is = same_Some x y h; stands = refl }
passed_so Claimed W x y h = by_test (is_extended x) refl h
  where
    by_test : (b : Bool) → is_extended x ≡ b → (if b then Some (taken W x) else None) ≡ Some y → PassedSo Claimed W x y
    by_test true e f = record {
      is = same_Some (taken W x) y f;
      stands = claimed_stands x (let same : sign_extended (x % 2 ^ 32) ≡ x = grind (arith, nat_tests) in same);
    }
    by_test false e f = absurd (none-some y f)

-- the arguments that are read, one after another
pub record ReadMore (c : Setting) (numbers : Numbers) (a : Argument Location) (args : List (Argument Location)) (xs : List ℕ) : Type 0 where
  pub first : ℕ
  pub others : List ℕ
  pub is_first : number_of c.addresses numbers a.value ≡ Some first
  pub is_others : read_all c.addresses numbers args ≡ Some others
  pub stands : passed (passed_class a.extension a.class) (taken (passed_class a.extension a.class) first) ≡ passed a.class (taken a.class first)
  pub all : xs ≡ taken a.class first ∷ others

list_is : (xs ys : List ℕ) → Some xs ≡ Some ys → ys ≡ xs
list_is xs ys e = cc

read_more : (c : Setting) (numbers : Numbers) (a : Argument Location) (args : List (Argument Location)) (xs : List ℕ)
    → read_all c.addresses numbers (a ∷ args) ≡ Some xs → ReadMore c numbers a args xs
read_more c numbers a args xs h = by_parts (number_of c.addresses numbers a.value) refl (read_all c.addresses numbers args) refl h
  where
    by_value : (x : ℕ) → number_of c.addresses numbers a.value ≡ Some x → (q : Option (List ℕ)) → read_all c.addresses numbers args ≡ q
        → (p : Option ℕ) → read_passed a.extension a.class x ≡ p → option_and_then (λ y. option_map (λ ys. y ∷ ys) q) p ≡ Some xs → ReadMore c numbers a args xs
    by_value x e q d None g f = absurd (none_is_not xs None refl f)
    by_value x e None d (Some y) g f = absurd (none_is_not xs None refl f)
    by_value x e (Some ys) d (Some y) g f =
        let so = passed_so a.extension a.class x y g in
        record { first = x; others = ys; is_first = e; is_others = d; stands = so.stands; all = list_is (y ∷ ys) xs f ∙ ap (λ n. n ∷ ys) (sym so.is) }

    by_parts : (o : Option ℕ) → number_of c.addresses numbers a.value ≡ o → (q : Option (List ℕ)) → read_all c.addresses numbers args ≡ q
        → option_and_then (λ y. option_map (λ ys. y ∷ ys) q) (option_and_then (read_passed a.extension a.class) o) ≡ Some xs → ReadMore c numbers a args xs
    by_parts None e q d f = absurd (none_is_not xs None refl f)
    by_parts (Some x) e q d f = by_value x e q d (read_passed a.extension a.class x) refl f

-- the i-th argument, of class k, is the number n
pub record Sends (c : Setting) (s : State) (args : List (Argument Location)) (i : ℕ) (k : Class) (n : ℕ) : Type 0 where
  pub argument : Argument Location
  pub is : slice_get args i ≡ Some argument
  pub value : sent c s argument ≡ passed k n

same_class : (a b : Class) → Some a ≡ Some b → a ≡ b
same_class a b e = cc

no_class : (k : Class) (o : Option Class) → o ≡ None → o ≡ Some k → ⊥
no_class k o e f = let no : ⊥ = cc in no

pub sends : (c : Setting) → IsSetting c → (numbers : Numbers) (memory : Spots) (s : State) → Framed c numbers memory s → (args : List (Argument Location))
    → list_all (in_place c.slots) args ≡ true → (xs : List ℕ) → read_all c.addresses numbers args ≡ Some xs
    → (i : ℕ) (k : Class) (n : ℕ) → slice_get (map (λ a. a.class) args) i ≡ Some k → slice_get xs i ≡ Some n → Sends c s args i k n
sends c is numbers memory s framed [] good xs known i k n e d = absurd (no_class k None refl e)
sends c is numbers memory s framed (a ∷ args) good xs known zero k n e d =
    let parts = and_parts (in_place c.slots a) (list_all (in_place c.slots) args) good in
    let more = read_more c numbers a args xs known in
    let first : taken a.class more.first ≡ n =
    same_Some (taken a.class more.first) n (ap (λ (ys : List ℕ). slice_get ys zero) (sym more.all) ∙ d) in
    let value : operand_in c s a.value ≡ more.first = operand_known c numbers memory s a.value more.first is framed parts.0 more.is_first in
    record {
      argument = a;
      is = refl;
      value =
          ap (λ x. passed (passed_class a.extension a.class) (taken (passed_class a.extension a.class) x)) value
          ∙ (more.stands ∙ (ap (passed a.class) first ∙ ap (λ q. passed q n) (same_class a.class k e)));
    }
sends c is numbers memory s framed (a ∷ args) good xs known (suc i) k n e d =
    let parts = and_parts (in_place c.slots a) (list_all (in_place c.slots) args) good in
    let more = read_more c numbers a args xs known in
    let next = sends c is numbers memory s framed args parts.1 more.others more.is_others i k n e
    (ap (λ (ys : List ℕ). slice_get ys (suc i)) (sym more.all) ∙ d) in
    record { argument = next.argument; is = next.is; value = next.value }

-- ---- the machine is ready for the callee

spots_then : (c : Setting) → IsSetting c → (numbers : Numbers) (memory : Spots) (s u v : State) (args : List (Argument Location)) → Framed c numbers memory s
    → Passed c s args u → 8 * (length args - 8) ≤ c.layout.saves → v.bytes ≡ u.bytes → (x n : ℕ) → memory x ≡ ThisByte n → v.bytes x ≡ n
spots_then c is numbers memory s u v args framed h fits same x n known =
    ap (λ (m : ℕ → ℕ). m x) same ∙ (by_test (nat_le (bottom c) x) refl (nat_le (bottom c + c.layout.saves) x) refl ∙ framed.spots.known x n known)
  where
    by_test : (a : Bool) → nat_le (bottom c) x ≡ a → (b : Bool) → nat_le (bottom c + c.layout.saves) x ≡ b → u.bytes x ≡ s.bytes x
    by_test false e b f = h.below x (grind (arith, nat_tests))
    by_test true e true f =
        let hi : bottom c + c.layout.saves ≤ x = grind (arith, nat_tests) in
        h.above x (omega (arith, hi, fits))
    by_test true e false f =
        let lo : bottom c ≤ x = grind (arith, nat_tests) in
        let hi : x < bottom c + c.layout.saves = grind (arith, nat_tests) in
        let saves = is.saves_fit in
        let frame = is.fits in
        let above = is.above in
        absurd (byte_has_access (memory x) n known (framed.clear x (omega (arith, lo, above)) (omega (arith, hi, saves, frame, above))))

pub ready : (c : Setting) → IsSetting c → (numbers : Numbers) (memory : Spots) (s u v : State) (rest : List Item) (at turns room : ℕ)
    (args : List (Argument Location)) (xs : List ℕ) → Framed c numbers memory s → Passed c s args u → Gone (site c) rest at u v
    → list_all (in_place c.slots) args ≡ true → 8 * (length args - 8) ≤ c.layout.saves → read_all c.addresses numbers args ≡ Some xs
    → length (map (λ (a : Argument Location). a.class) args) ≡ length args
    → Ready c.world at (bottom c) (map (λ a. a.class) args) (record { turns = turns; room = room; args = xs; memory = memory }) v
ready c is numbers memory s u v rest at turns room args xs framed h gone good fits known many =
    let saves = is.saves_fit in
    let frame = is.fits in
    let above = is.above in
    let below = is.below in
    record {
      fixed = gone.fixed;
      place = gone.place;
      stack_pointer = gone.others 2 (λ e. absurd (omega (arith, e))) ∙ (h.low 2 (lit< tt) ∙ framed.pointer);
      return_address = gone.aligned;
      in_registers = λ i n k few e d.
          let one = sends c is numbers memory s framed args good xs known i k n e d in
          gone.others (10 + i) (λ x. absurd (omega (arith, x))) ∙ (h.in_registers i one.argument few one.is ∙ one.value);
      on_stack = λ i n k hi e d.
          let one = sends c is numbers memory s framed args good xs known i k n e d in
          ap (λ (m : ℕ → ℕ). number_at m (bottom c + 8 * (i - 8)) 8) gone.bytes ∙ (h.on_stack i one.argument hi one.is ∙ one.value);
      below_top = omega (arith, many, fits, saves, frame, above, below);
      memory = record {
        known = spots_then c is numbers memory s u v args framed h fits gone.bytes;
        usable = framed.spots.usable;
      };
    }

-- ---- back from the callee

-- what the callee finds of the caller's frame
pub record SameFrame (c : Setting) (s v : State) : Type 0 where
  pub registers : (n : ℕ) → is_kept n ≡ true → v.registers n ≡ s.registers n
  pub bytes : (x : ℕ) → bottom c + c.layout.saves ≤ x → v.bytes x ≡ s.bytes x

kept_range : (n : ℕ) → is_kept n ≡ true → n ≢ 1
kept_range n h e = absurd (let no : ⊥ = grind (arith, nat_tests) in no)

pub same_frame : (c : Setting) (s u v : State) (rest : List Item) (at : ℕ) (args : List (Argument Location)) → 8 * (length args - 8) ≤ c.layout.saves
    → Passed c s args u → Gone (site c) rest at u v → SameFrame c s v
same_frame c s u v rest at args fits h gone =
    record {
      registers = λ n k. gone.others n (kept_range n k) ∙ by_test n k (nat_le n 9) refl;
      bytes = λ x hi. ap (λ (m : ℕ → ℕ). m x) gone.bytes ∙ h.above x (omega (arith, hi, fits));
    }
  where
    by_test : (n : ℕ) → is_kept n ≡ true → (b : Bool) → nat_le n 9 ≡ b → u.registers n ≡ s.registers n
    by_test n k true e = h.low n (grind (arith, nat_tests))
    by_test n k false e = h.high n (grind (arith, nat_tests)) (grind (arith, nat_tests))

-- a byte of the frame, or above it, that the program may not access
byte_back : (c : Setting) (memory now : Spots) (s v w : State) → SameFrame c s v → Back c.world (bottom c) memory v now w
    → (x : ℕ) → bottom c + c.layout.saves ≤ x → memory x ≡ NoAccess → w.bytes x ≡ s.bytes x
byte_back c memory now s v w same back x hi away = back.others x (omega (arith, hi)) away ∙ same.bytes x hi

-- a register that a call leaves as it was
callers_not : (r : ℕ) → 5 ≤ r → r ≤ 27 → is_callers (InRegister r) ≡ false → is_kept r ≡ true
callers_not r lo hi h = grind (arith, nat_tests)

places_back : (c : Setting) → IsSetting c → (numbers : Numbers) (memory now : Spots) (s v w : State) → Framed c numbers memory s → SameFrame c s v
    → Back c.world (bottom c) memory v now w → (p : Location) (x : ℕ) → is_place c.slots p ≡ true → kept numbers p ≡ Some x → value_at c w p ≡ x
places_back c is numbers memory now s v w framed same back (InRegister r) x good known = by_test (is_callers (InRegister r)) refl known
  where
    by_test : (b : Bool) → is_callers (InRegister r) ≡ b → (if b then None else numbers (InRegister r)) ≡ Some x → w.registers r ≡ x
    by_test true e k = absurd (let no : ⊥ = cc in no)
    by_test false e k =
        let place = place_is c.slots r good in
        let stays = callers_not r place.from_5 place.to_27 e in
        back.kept r stays ∙ (same.registers r stays ∙ framed.places (InRegister r) x good k)
places_back c is numbers memory now s v w framed same back (Slot i) x good known =
    let few = slot_is c.slots i good in
    let saves = is.saves_fit in
    let frame = is.fits in
    let above = is.above in
    number_same w.bytes s.bytes (slot_at c i) 8
    (λ y lo hi.
    byte_back c memory now s v w same back y (omega (arith, lo, saves))
    (framed.clear y (omega (arith, lo, above)) (omega (arith, hi, few, frame, above))))
    ∙ framed.places (Slot i) x good known

saved_back : (c : Setting) → IsSetting c → (numbers : Numbers) (memory now : Spots) (s v w : State) → Framed c numbers memory s → SameFrame c s v
    → Back c.world (bottom c) memory v now w → (k r : ℕ) → k < length c.saved → slice_get c.saved k ≡ Some r
    → number_at w.bytes (save_at c k) 8 ≡ c.start.registers r
saved_back c is numbers memory now s v w framed same back k r few e =
    let saves = is.saves_fit in
    let frame = is.fits in
    let above = is.above in
    number_same w.bytes s.bytes (save_at c k) 8
    (λ y lo hi.
    byte_back c memory now s v w same back y (omega (arith, lo))
    (framed.clear y (omega (arith, lo, above)) (omega (arith, hi, few, saves, frame, above))))
    ∙ framed.saved k r e

one_is : (n : ℕ) → is_held n ≡ true → is_kept n ≡ false → n ≡ 1
one_is n held e = grind (arith, nat_tests)

-- after a return, before its result is in its place
pub framed_back : (c : Setting) → IsSetting c → (numbers : Numbers) (memory now : Spots) (s v w : State) → Framed c numbers memory s → SameFrame c s v
    → Back c.world (bottom c) memory v now w → SameReach memory now → is_among 1 c.saved ≡ true → Framed c (kept numbers) now w
framed_back c is numbers memory now s v w framed same back stays address =
    let saves = is.saves_fit in
    let frame = is.fits in
    let above = is.above in
    record {
      pointer = back.kept 2 refl ∙ (same.registers 2 refl ∙ framed.pointer);
      places = places_back c is numbers memory now s v w framed same back;
      spots = back.memory;
      clear = λ x lo hi. stays x (framed.clear x lo hi);
      reach = λ x hi away. stays x (framed.reach x hi away);
      saved = λ k r e.
          let few : k < length c.saved = slice_get_within c.saved k r e in
          saved_back c is numbers memory now s v w framed same back k r few e;
      thread = λ n held other out.
          let k : is_kept n ≡ true = still_kept n held out in
          back.kept n k ∙ (same.registers n k ∙ framed.thread n held other out);
      others = λ x hi away.
          byte_back c memory now s v w same back x (omega (arith, hi, saves, frame, above)) (framed.reach x hi away) ∙ framed.others x hi away;
      unset = λ i far. framed.unset i far;
    }
  where
    -- only the return address is not, and that is saved
    by_test : (n : ℕ) → is_held n ≡ true → is_among n c.saved ≡ false → (b : Bool) → is_kept n ≡ b → is_kept n ≡ true
    by_test n held out true e = e
    by_test n held out false e = absurd (not_both (is_among 1 c.saved) address (ap (λ m. is_among m c.saved) (sym (one_is n held e)) ∙ out))

    still_kept : (n : ℕ) → is_held n ≡ true → is_among n c.saved ≡ false → is_kept n ≡ true
    still_kept n held out = by_test n held out (is_kept n) refl
