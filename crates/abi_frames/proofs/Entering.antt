-- Arguments come to the places of their parameters: from registers, and from the stack of the caller.
use Rattle.std.proofs.Common.{◌≡◌, ◌≢◌, ℕ, zero, suc, ◌+◌, ◌-◌, ◌*◌, ◌%◌, ◌^◌, ◌<◌, ◌≤◌, Bool, true, false, List, [], ◌∷◌, refl, sym, ◌∙◌, ap, subst, arith, lit<, lit≤, zero-add, Option, ◌&&◌, not, nat_lt, nat_le, if◌then◌else◌, length, slice_get, Some, None}
use Rattle.abi_frames.proofs.Shared.{State, Location, InRegister, Slot, Destination, Argument, list_all, list_any, and_parts, and_from, eqb-true, both_ways, same_Some, none-some, nat_tests, number_at, stored, is_place}
use Rattle.rv_isa.proofs.MemoryLemmas.{number_same, stored_above}
use Rattle.vcode.specs.Prelude.{same_location, located, are_distinct}
use Rattle.flat_code.specs.Step.{Numbers, put, bound, held}
use Rattle.operation_code.specs.Constants.{sum_to, load_8, constant}
use Rattle.abi_frames.specs.Emission.{store_slot, slot_offset}
use Rattle.abi_frames.specs.Functions.{caller_pointer, from_register, from_stack, argument_items, arguments_items, is_for_arguments, goes_away, is_on_stack, source_in, sources, pointer_items, entry_items}
use Rattle.operation_code.proofs.Leading.{Leads, leads_nowhere, leads_again, Sets, IsReg}
use Rattle.abi_frames.proofs.Leads.{leads_on, leads_as, leads_where}
use Rattle.abi_frames.proofs.StackAccesses.{UsableFrom, leads_load, leads_store_slot, near_address, is_2, is_28}
use Rattle.operation_code.proofs.Instructions.{leads_sum, leads_constant}
use Rattle.abi_frames.proofs.Activations.{beyond, Setting, IsSetting, site, bottom, slot_at, save_at, value_at, is_held, held_below, place_is, place_reg, slot_is, slot_in_frame, Framed, Assigned, MayWrite, assigned, assigned_output, next_index, no_more}
use Rattle.abi_frames.proofs.Saving.{AllMayWrite}
use Rattle.abi_frames.proofs.Arranging.{leads_copy, InRegisters, leads_passed}
use Rattle.abi_frames.proofs.Sources.{source, sources_stand, source_at, AllApart, apart_more, source_is}
use Rattle.abi_frames.proofs.Simulation.{framed_same}
use Rattle.il_ast.proofs.Truth.{neither_holds}

-- ---- what holds before an argument is taken

-- numbers are what the places of the first k parameters hold; the later arguments are still where they were passed
pub record Entering (c : Setting) (params k : ℕ) (numbers : Numbers) (u : State) : Type 0 where
  pub framed : Framed c numbers c.before u
  pub output : u.output ≡ c.start.output
  pub registers : (i : ℕ) → k ≤ i → i < 8 → u.registers (10 + i) ≡ c.start.registers (10 + i)
  pub stack : (x : ℕ) → c.sp ≤ x → u.bytes x ≡ c.start.bytes x
  pub caller : 8 < params → u.registers 30 ≡ c.sp

-- the number that is passed as argument k
abbrev pub argument_in : Setting → State → ℕ → ℕ
argument_in c s k = if nat_lt k 8 then s.registers (10 + k) else number_at s.bytes (c.sp + 8 * (k - 8)) 8

-- a place takes a value, and x30 stays
pub record Took (c : Setting) (s : State) (p : Location) (v : ℕ) (u : State) : Type 0 where
  pub assigned : Assigned c s p v u
  pub caller : u.registers 30 ≡ s.registers 30

-- ---- one argument

is_30 : IsReg 30
is_30 = record { some = lit< tt; small = lit< tt }

-- into a register
took_register : (c : Setting) (s : State) (r v : ℕ) (u : State) → is_place c.slots (InRegister r) ≡ true → Sets s r v u → Took c s (InRegister r) v u
took_register c s r v u good h =
    let hi = (place_is c.slots r good).to_27 in
    record {
      assigned = record { value = h.value; others = λ n lo other. h.others n other; bytes = h.bytes; output = h.output };
      caller = h.others 30 (λ e. absurd (omega (arith, e, hi)));
    }

-- a register into a slot
leads_into_slot : (c : Setting) → IsSetting c → (s : State) (x i : ℕ) → IsReg x → x ≢ 29 → s.registers 2 ≡ bottom c → is_place c.slots (Slot i) ≡ true
    → Leads (site c) (store_slot x (slot_offset c.layout i)) s (Took c s (Slot i) (s.registers x))
leads_into_slot c is s x i reg other pointer good =
    let inside = slot_in_frame c is i (slot_is c.slots i good) in
    let o = slot_offset c.layout i in
    leads_where (λ fixed.
    leads_as (leads_store_slot (site c) s x (bottom c) o reg other fixed pointer inside.near inside.small inside.usable)
    (λ u f h. record {
      assigned = record {
        small = fixed.words x;
        bytes = h.bytes;
        registers = λ n lo. h.registers n (λ e. absurd (omega (arith, e, lo)));
        output = h.output;
      };
      caller = h.registers 30 (λ e. absurd (omega (arith, e)));
    }))

leads_from_register : (c : Setting) → IsSetting c → (s : State) (k : ℕ) (p : Location) → k < 8 → s.registers 2 ≡ bottom c → is_place c.slots p ≡ true
    → Leads (site c) (from_register c.layout k p) s (Took c s p (s.registers (10 + k)))
leads_from_register c is s k (InRegister r) few pointer good =
    let reg : IsReg (10 + k) = record { some = omega arith; small = omega (arith, few) } in
    leads_as (leads_copy (site c) s r (10 + k) (place_reg r (place_is c.slots r good)) reg)
    (λ u f h. took_register c s r (s.registers (10 + k)) u good h)
leads_from_register c is s k (Slot i) few pointer good =
    let reg : IsReg (10 + k) = record { some = omega arith; small = omega (arith, few) } in
    leads_into_slot c is s (10 + k) i reg (λ e. absurd (omega (arith, e, few))) pointer good

-- where an argument lies on the stack
pub record OnCallersStack (c : Setting) (k : ℕ) : Type 0 where
  pub near : 8 * (k - 8) < 2048
  pub small : c.sp + 8 * (k - 8) < 2 ^ 63
  pub usable : UsableFrom c.world.memory_map (c.sp + 8 * (k - 8)) 8

on_callers_stack : (c : Setting) → IsSetting c → (k params : ℕ) → 8 ≤ k → k < params → params ≤ 64 → c.sp + 8 * (params - 8) ≤ c.world.top → OnCallersStack c k
on_callers_stack c is k params from below few fits =
    let above = is.above in
    let top = is.world.small in
    record {
      near = omega (arith, below, few);
      small = omega (arith, from, below, fits, top);
      usable = λ x lo hi. is.world.usable x (omega (arith, lo, above)) (omega (arith, hi, from, below, fits));
    }

leads_8 : (c : Setting) (s : State) (d k : ℕ) → OnCallersStack c k → IsReg d → s.registers 30 ≡ c.sp
    → Leads (site c) (load_8 d 30 (8 * (k - 8)) ∷ []) s (Sets s d (number_at s.bytes (c.sp + 8 * (k - 8)) 8))
leads_8 c s d k there reg caller =
    let o : ℕ = 8 * (k - 8) in
    leads_where (λ fixed. leads_load (site c) s d 30 o (c.sp + o) reg is_30 fixed (near_address (s.registers 30) c.sp o caller there.near there.small) there.usable)

leads_from_stack : (c : Setting) → IsSetting c → (s : State) (k : ℕ) (p : Location) → OnCallersStack c k → s.registers 30 ≡ c.sp → s.registers 2 ≡ bottom c
    → is_place c.slots p ≡ true → Leads (site c) (from_stack c.layout k p) s (Took c s p (number_at s.bytes (c.sp + 8 * (k - 8)) 8))
leads_from_stack c is s k (InRegister r) there caller pointer good =
    let v : ℕ = number_at s.bytes (c.sp + 8 * (k - 8)) 8 in
    leads_as (leads_8 c s r k there (place_reg r (place_is c.slots r good)) caller)
    (λ u f h. took_register c s r v u good h)
leads_from_stack c is s k (Slot i) there caller pointer good =
    let v : ℕ = number_at s.bytes (c.sp + 8 * (k - 8)) 8 in
    leads_on (leads_8 c s 28 k there is_28 caller)
    (λ u f one.
    leads_as (leads_into_slot c is u 28 i is_28 (λ e. absurd (omega (arith, e))) (one.others 2 (λ e. absurd (omega (arith, e))) ∙ pointer) good)
    (λ w g two. took_from u w one two))
  where
    took_from : (u w : State) → Sets s 28 (number_at s.bytes (c.sp + 8 * (k - 8)) 8) u → Took c u (Slot i) (u.registers 28) w
        → Took c s (Slot i) (number_at s.bytes (c.sp + 8 * (k - 8)) 8) w
    took_from u w one two = record {
      assigned = record {
        small = subst (λ x. x < 2 ^ 64) one.value two.assigned.small;
        bytes =
            two.assigned.bytes
            ∙ (ap (λ (m : ℕ → ℕ). stored m (slot_at c i) 8 (u.registers 28)) one.bytes ∙ ap (stored s.bytes (slot_at c i) 8) one.value);
        registers = λ n lo. two.assigned.registers n lo ∙ one.others n (λ e. absurd (omega (arith, e, lo)));
        output = two.assigned.output ∙ one.output;
      };
      caller = two.caller ∙ one.others 30 (λ e. absurd (omega (arith, e)));
    }

-- an argument from where it is passed, into its place
leads_argument : (c : Setting) → IsSetting c → (params from k : ℕ) (p : Location) (numbers : Numbers) (s : State) → k < params → params ≤ 64
    → c.sp + 8 * (params - 8) ≤ c.world.top → Entering c params from numbers s → is_place c.slots p ≡ true
    → Leads (site c) (argument_items c.layout k p) s (Took c s p (argument_in c s k))
leads_argument c is params from k p numbers s below few fits entering good = by_test (nat_lt k 8) refl
  where
    by_test : (t : Bool) → nat_lt k 8 ≡ t
        → Leads (site c) (if t then from_register c.layout k p else from_stack c.layout k p) s
        (Took c s p (if t then s.registers (10 + k) else number_at s.bytes (c.sp + 8 * (k - 8)) 8))
    by_test true e = leads_from_register c is s k p (grind (arith, nat_tests)) entering.framed.pointer good
    by_test false e =
        let many : 8 ≤ k = grind (arith, nat_tests) in
        leads_from_stack c is s k p (on_callers_stack c is k params many below few fits) (entering.caller (omega (arith, many, below)))
        entering.framed.pointer good

-- it is the one that the caller passed
argument_same : (c : Setting) (params from k : ℕ) (numbers : Numbers) (s : State) → from ≤ k → Entering c params from numbers s
    → argument_in c s k ≡ argument_in c c.start k
argument_same c params from k numbers s later entering = by_test (nat_lt k 8) refl
  where
    by_test : (t : Bool) → nat_lt k 8 ≡ t
        → (if t then s.registers (10 + k) else number_at s.bytes (c.sp + 8 * (k - 8)) 8)
        ≡ (if t then c.start.registers (10 + k) else number_at c.start.bytes (c.sp + 8 * (k - 8)) 8)
    by_test true e = entering.registers k later (grind (arith, nat_tests))
    by_test false e = number_same s.bytes c.start.bytes (c.sp + 8 * (k - 8)) 8 (λ x lo hi. entering.stack x (omega (arith, lo)))

-- ---- after it

-- no number is known
abbrev pub nothing : Numbers
nothing = λ p. None

took_keeps_stack : (c : Setting) → IsSetting c → (s : State) (p : Location) (v : ℕ) (u : State) → is_place c.slots p ≡ true → Assigned c s p v u
    → (x : ℕ) → c.sp ≤ x → u.bytes x ≡ s.bytes x
took_keeps_stack c is s (InRegister r) v u good h x above = ap (λ (m : ℕ → ℕ). m x) h.bytes
took_keeps_stack c is s (Slot i) v u good h x above =
    let few = slot_is c.slots i good in
    let fits = is.fits in
    let bottom_fits = is.above in
    ap (λ (m : ℕ → ℕ). m x) h.bytes ∙ stored_above s.bytes (slot_at c i) 8 v x (omega (arith, few, fits, bottom_fits, above))

took_keeps_registers : (c : Setting) (s : State) (p : Location) (v : ℕ) (u : State) (n : ℕ) → n ≤ 27 → p ≢ InRegister n → Assigned c s p v u
    → u.registers n ≡ s.registers n
took_keeps_registers c s (InRegister r) v u n low other h = h.others n (omega (arith, low)) (λ e. absurd (other (ap InRegister (sym e))))
took_keeps_registers c s (Slot j) v u n low other h = h.registers n (omega (arith, low))

-- a frame in which these numbers are known
framed_with : (c : Setting) (m n : Numbers) (u : State) → ((p : Location) (v : ℕ) → is_place c.slots p ≡ true → n p ≡ Some v → value_at c u p ≡ v)
    → ((i : ℕ) → c.slots ≤ i → n (Slot i) ≡ None) → Framed c m c.before u → Framed c n c.before u
framed_with c m n u places unset framed = record {
  pointer = framed.pointer;
  places = places;
  spots = framed.spots;
  clear = framed.clear;
  reach = framed.reach;
  saved = framed.saved;
  thread = framed.thread;
  others = framed.others;
  unset = unset;
}

-- parameters have no slot beyond those that there are
put_unset : (slots : ℕ) (p : Location) (o : Option ℕ) (numbers : Numbers) → is_place slots p ≡ true → ((i : ℕ) → slots ≤ i → numbers (Slot i) ≡ None)
    → (i : ℕ) → slots ≤ i → put p o numbers (Slot i) ≡ None
put_unset slots (InRegister r) o numbers good h i far = h i far
put_unset slots (Slot k) o numbers good h i far = beyond slots k i o numbers (slot_is slots k good) far (h i far)

bound_unset : (slots : ℕ) (numbers : Numbers) (ds : List (Destination Location)) (xs : List ℕ) → list_all (λ (d : Destination Location). is_place slots d.place) ds ≡ true
    → ((i : ℕ) → slots ≤ i → numbers (Slot i) ≡ None) → (i : ℕ) → slots ≤ i → bound numbers ds xs (Slot i) ≡ None
bound_unset slots numbers [] xs good h i far = h i far
bound_unset slots numbers (d ∷ ds) [] good h i far = h i far
bound_unset slots numbers (d ∷ ds) (x ∷ xs) good h i far =
    let parts = and_parts (is_place slots d.place) (list_all (λ (e : Destination Location). is_place slots e.place) ds) good in
    bound_unset slots (put d.place (Some (held d.class x)) numbers) ds xs parts.1 (put_unset slots d.place (Some (held d.class x)) numbers parts.0 h) i far

no_place : (slots i : ℕ) → slots ≤ i → is_place slots (Slot i) ≡ false
no_place slots i far = grind (arith, nat_tests)

pub same_is : (p q : Location) → same_location p q ≡ true → p ≡ q
same_is (InRegister a) (InRegister b) h = ap InRegister (eqb-true a b h)
same_is (InRegister a) (Slot b) h = absurd (let no : ⊥ = cc in no)
same_is (Slot a) (InRegister b) h = absurd (let no : ⊥ = cc in no)
same_is (Slot a) (Slot b) h = ap Slot (eqb-true a b h)

same_itself : (p : Location) → same_location p p ≡ true
same_itself (InRegister a) = grind (arith, nat_tests)
same_itself (Slot a) = grind (arith, nat_tests)

-- a parameter's place has its argument, and every other place what it had
record Holding (c : Setting) (params from : ℕ) (s : State) (p : Location) (v : ℕ) (u : State) : Type 0 where
  entering : Entering c params from nothing u
  value : value_at c u p ≡ v
  kept : (q : Location) → is_place c.slots q ≡ true → p ≢ q → value_at c u q ≡ value_at c s q

holding : (c : Setting) → IsSetting c → (params from : ℕ) (s : State) (p : Location) (v : ℕ) (u : State) → is_place c.slots p ≡ true → MayWrite c.saved p
    → ((i : ℕ) → from ≤ i → i < 8 → p ≢ InRegister (10 + i)) → Entering c params from nothing s → Took c s p v u → Holding c params from s p v u
holding c is params from s p v u good may away entering took =
    let all : Numbers = λ q. if is_place c.slots q then Some (value_at c s q) else None in
    let before : Framed c all c.before s =
    framed_with c nothing all s (λ q x g e. same_Some (value_at c s q) x (sym (ap (λ (t : Bool). if t then Some (value_at c s q) else None) g) ∙ e))
    (λ i far. ap (λ (t : Bool). if t then Some (value_at c s (Slot i)) else None) (no_place c.slots i far)) entering.framed in
    let after : Framed c (put p (Some v) all) c.before u =
    assigned c is all c.before s u p v (Some v) good may before took.assigned (λ x e. same_Some v x e) in
    record {
      entering = record {
        framed = framed_with c (put p (Some v) all) nothing u (λ q x g e. absurd (none-some x e)) (λ i far. refl) after;
        output = assigned_output c s p v u took.assigned ∙ entering.output;
        registers = λ i lo hi.
            took_keeps_registers c s p v u (10 + i) (omega (arith, hi)) (away i lo hi) took.assigned ∙ entering.registers i lo hi;
        stack = λ x above. took_keeps_stack c is s p v u good took.assigned x above ∙ entering.stack x above;
        caller = λ some. took.caller ∙ entering.caller some;
      };
      value = after.places p v good (ap (λ t. if t then Some v else all p) (same_itself p));
      kept = λ q g other. by_test q g other after (same_location q p) refl;
    }
  where
    by_test : (q : Location) → is_place c.slots q ≡ true → p ≢ q → Framed c (put p (Some v) (λ x. if is_place c.slots x then Some (value_at c s x) else None)) c.before u
        → (t : Bool) → same_location q p ≡ t → value_at c u q ≡ value_at c s q
    by_test q g other after true e = absurd (other (sym (same_is q p e)))
    by_test q g other after false e =
        after.places q (value_at c s q) g
        (ap (λ (t : Bool). if t then Some v else if is_place c.slots q then Some (value_at c s q) else None) e ∙ ap (λ (t : Bool). if t then Some (value_at c s q) else None) g)

-- ---- the arguments of a group

-- what the induction over the parameters needs to know of those that are left
pub record CanTake (c : Setting) (params k : ℕ) (ds : List (Destination Location)) : Type 0 where
  pub count : k + length ds ≡ params
  pub few : params ≤ 64
  pub fits : c.sp + 8 * (params - 8) ≤ c.world.top
  pub places : list_all (λ (d : Destination Location). is_place c.slots d.place) ds ≡ true
  pub may : AllMayWrite c.saved ds

can_take_more : (c : Setting) (params k : ℕ) (d : Destination Location) (ds : List (Destination Location)) → CanTake c params k (d ∷ ds) → CanTake c params (k + 1) ds
can_take_more c params k d ds can =
    let count = can.count in
    record {
      count = omega (arith, count);
      few = can.few;
      fits = can.fits;
      places = (and_parts (is_place c.slots d.place) (list_all (λ (e : Destination Location). is_place c.slots e.place) ds) can.places).1;
      may = can.may.1;
    }

-- a group of arguments, of which none is passed in a register that was written, nor changes one that will be read
record IsGroup (test : ℕ → Location → Bool) (from : ℕ) : Type 0 where
  later : (k : ℕ) (p : Location) → test k p ≡ true → from ≤ k
  away : (k : ℕ) (p : Location) → test k p ≡ true → (i : ℕ) → from ≤ i → i < 8 → p ≢ InRegister (10 + i)

-- those of the group, from the k-th on, are in their places; other places are as they were
record Group (c : Setting) (params from : ℕ) (test : ℕ → Location → Bool) (k : ℕ) (ds : List (Destination Location)) (s u : State) : Type 0 where
  entering : Entering c params from nothing u
  values : (i : ℕ) (d : Destination Location) → slice_get ds i ≡ Some d → test (k + i) d.place ≡ true → value_at c u d.place ≡ argument_in c c.start (k + i)
  kept : (q : Location) → is_place c.slots q ≡ true → ((i : ℕ) (d : Destination Location) → slice_get ds i ≡ Some d → test (k + i) d.place ≡ true → d.place ≢ q)
      → value_at c u q ≡ value_at c s q

-- one of them
record One (c : Setting) (params from : ℕ) (test : ℕ → Location → Bool) (k : ℕ) (p : Location) (s u : State) : Type 0 where
  entering : Entering c params from nothing u
  value : test k p ≡ true → value_at c u p ≡ argument_in c c.start k
  kept : (q : Location) → is_place c.slots q ≡ true → (test k p ≡ true → p ≢ q) → value_at c u q ≡ value_at c s q

leads_one : (c : Setting) → IsSetting c → (params from : ℕ) (test : ℕ → Location → Bool) → IsGroup test from → (k : ℕ) (p : Location) (s : State) → k < params → params ≤ 64
    → c.sp + 8 * (params - 8) ≤ c.world.top → is_place c.slots p ≡ true → MayWrite c.saved p → Entering c params from nothing s
    → Leads (site c) (if test k p then argument_items c.layout k p else []) s (One c params from test k p s)
leads_one c is params from test group k p s below few fits good may entering = by_test (test k p) refl
  where
    by_test : (t : Bool) → test k p ≡ t → Leads (site c) (if t then argument_items c.layout k p else []) s (One c params from test k p s)
    by_test true e =
        leads_as (leads_argument c is params from k p nothing s below few fits entering good)
        (λ u f took.
        let h = holding c is params from s p (argument_in c s k) u good may (group.away k p e) entering took in
        record {
          entering = h.entering;
          value = λ d. h.value ∙ argument_same c params from k nothing s (group.later k p e) entering;
          kept = λ q g other. h.kept q g (other e);
        })
    by_test false e =
        leads_nowhere (site c) s (One c params from test k p s)
        (record { entering = entering; value = λ d. absurd (both_ways (test k p) e d); kept = λ q g other. refl })

place_of : (slots : ℕ) (ds : List (Destination Location)) (i : ℕ) (d : Destination Location) → list_all (λ (e : Destination Location). is_place slots e.place) ds ≡ true
    → slice_get ds i ≡ Some d → is_place slots d.place ≡ true
place_of slots [] i d h e = absurd (let no : ⊥ = cc in no)
place_of slots (x ∷ ds) zero d h e =
    ap (λ (y : Destination Location). is_place slots y.place) (sym (same x d e))
    ∙ (and_parts (is_place slots x.place) (list_all (λ (y : Destination Location). is_place slots y.place) ds) h).0
  where
    same : (a b : Destination Location) → Some a ≡ Some b → a ≡ b
    same a b e = cc
place_of slots (x ∷ ds) (suc i) d h e =
    place_of slots ds i d (and_parts (is_place slots x.place) (list_all (λ (y : Destination Location). is_place slots y.place) ds) h).1 e

-- the first of them, and the others
group_values : (c : Setting) (params from : ℕ) (test : ℕ → Location → Bool) (k : ℕ) (d : Destination Location) (ds : List (Destination Location)) (s u w : State)
    → is_place c.slots d.place ≡ true → AllApart (d ∷ ds) → One c params from test k d.place s u → Group c params from test (k + 1) ds u w
    → (i : ℕ) (e : Destination Location) → slice_get (d ∷ ds) i ≡ Some e → test (k + i) e.place ≡ true → value_at c w e.place ≡ argument_in c c.start (k + i)
group_values c params from test k d ds s u w good apart one two zero e is passes =
    let same : d ≡ e = some_destination d e is in
    let here : test k d.place ≡ true = ap (λ n. test n d.place) (no_more k) ∙ (ap (λ (x : Destination Location). test (k + zero) x.place) same ∙ passes) in
    ap (λ (x : Destination Location). value_at c w x.place) (sym same)
    ∙ (two.kept d.place good (λ j x is_x t g. absurd (apart zero (suc j) d x (λ z. absurd (let no : ⊥ = omega (arith, z) in no)) refl is_x (sym g)))
    ∙ (one.value here ∙ ap (argument_in c c.start) (no_more k)))
  where
    some_destination : (a b : Destination Location) → Some a ≡ Some b → a ≡ b
    some_destination a b e = cc
group_values c params from test k d ds s u w good apart one two (suc i) e is passes =
    two.values i e is (ap (λ n. test n e.place) (next_index k i) ∙ passes) ∙ ap (argument_in c c.start) (next_index k i)

leads_group : (c : Setting) → IsSetting c → (params from : ℕ) (test : ℕ → Location → Bool) → IsGroup test from → (k : ℕ) (ds : List (Destination Location)) (s : State)
    → CanTake c params k ds → AllApart ds → Entering c params from nothing s
    → Leads (site c) (arguments_items c.layout test k ds) s (Group c params from test k ds s)
leads_group c is params from test group k [] s can apart entering =
    leads_nowhere (site c) s (Group c params from test k [] s)
    (record { entering = entering; values = λ i d e t. absurd (let no : ⊥ = cc in no); kept = λ q g other. refl })
leads_group c is params from test group k (d ∷ ds) s can apart entering =
    let count = can.count in
    let good = (and_parts (is_place c.slots d.place) (list_all (λ (e : Destination Location). is_place c.slots e.place) ds) can.places).0 in
    leads_on (leads_one c is params from test group k d.place s (omega (arith, count)) can.few can.fits good can.may.0 entering)
    (λ u f one.
    leads_as (leads_group c is params from test group (k + 1) ds u (can_take_more c params k d ds can) (apart_more d ds apart) one.entering)
    (λ w g two. record {
      entering = two.entering;
      values = group_values c params from test k d ds s u w good apart one two;
      kept = λ q h other.
          two.kept q h (λ i e is t. other (suc i) e is (ap (λ n. test n e.place) (sym (next_index k i)) ∙ t))
          ∙ one.kept q h (λ t. other zero d refl (ap (λ n. test n d.place) (sym (no_more k)) ∙ t));
    }))

-- ---- arguments in one another's registers

is_held_range : (n : ℕ) → is_held n ≡ true → 9 < n → 17 < n
is_held_range n h hi = grind (arith, nat_tests)

entering_moved : (c : Setting) → IsSetting c → (params : ℕ) (args : List (Argument Location)) (s u : State) → Entering c params 0 nothing s → InRegisters c s args u
    → Entering c params 8 nothing u
entering_moved c is params args s u entering h =
    let framed = entering.framed in
    let bytes = h.bytes in
    record {
      framed = record {
        pointer = h.low 2 (lit< tt) ∙ framed.pointer;
        places = λ p v good known. absurd (none-some v known);
        spots = record { known = λ x n k. ap (λ (m : ℕ → ℕ). m x) bytes ∙ framed.spots.known x n k; usable = framed.spots.usable };
        clear = framed.clear;
        reach = framed.reach;
        saved = λ k r e. ap (λ (m : ℕ → ℕ). number_at m (save_at c k) 8) bytes ∙ framed.saved k r e;
        thread = λ n held other out. by_test n held (nat_lt n 10) refl ∙ framed.thread n held other out;
        others = λ x hi away. ap (λ (m : ℕ → ℕ). m x) bytes ∙ framed.others x hi away;
        unset = λ i far. refl;
      };
      output = h.output ∙ entering.output;
      registers = λ i lo hi. absurd (let no : ⊥ = omega (arith, lo, hi) in no);
      stack = λ x above. ap (λ (m : ℕ → ℕ). m x) bytes ∙ entering.stack x above;
      caller = λ some. h.high 30 (lit< tt) (λ e. absurd (omega (arith, e))) ∙ entering.caller some;
    }
  where
    below : (n : ℕ) → is_held n ≡ true → n < 28
    below n held = held_below n held

    by_test : (n : ℕ) → is_held n ≡ true → (t : Bool) → nat_lt n 10 ≡ t → u.registers n ≡ s.registers n
    by_test n held true e = h.low n (grind (arith, nat_tests))
    by_test n held false e =
        let small = below n held in
        let from : 9 < n = grind (arith, nat_tests) in
        h.high n (is_held_range n held from) (λ g. absurd (omega (arith, g, small)))

-- places elsewhere keep what they have
away_keeps : (c : Setting) → IsSetting c → (args : List (Argument Location)) (s u : State) → InRegisters c s args u → (p : Location) → is_place c.slots p ≡ true
    → is_for_arguments p ≡ false → value_at c u p ≡ value_at c s p
away_keeps c is args s u h (InRegister r) good away = by_range (nat_le 10 r) refl (nat_le r 17) refl away
  where
    hi : r ≤ 27
    hi = (place_is c.slots r good).to_27

    by_range : (p : Bool) → nat_le 10 r ≡ p → (q : Bool) → nat_le r 17 ≡ q → (p && q) ≡ false → u.registers r ≡ s.registers r
    by_range true e true f k = absurd (let no : ⊥ = cc in no)
    by_range true e false f k = h.high r (grind (arith, nat_tests)) (λ g. absurd (omega (arith, g, hi)))
    by_range false e q f k = h.low r (grind (arith, nat_tests))
away_keeps c is args s u h (Slot i) good away = ap (λ (m : ℕ → ℕ). number_at m (slot_at c i) 8) h.bytes

-- which register it is
record ArgumentPlace (p : Location) : Type 0 where
  number : ℕ
  few : number < 8
  is : p ≡ InRegister (10 + number)

argument_place : (p : Location) → is_for_arguments p ≡ true → ArgumentPlace p
argument_place (InRegister r) h =
    let parts = and_parts (nat_le 10 r) (nat_le r 17) h in
    let lo = parts.0 in
    let hi = parts.1 in
    let from : 10 ≤ r = grind (arith, nat_tests) in
    let to : r ≤ 17 = grind (arith, nat_tests) in
    record { number = r - 10; few = omega (arith, from, to); is = ap InRegister (let same : r ≡ 10 + (r - 10) = omega (arith, from) in same) }
argument_place (Slot i) h = absurd (let no : ⊥ = cc in no)

-- an argument register that is a parameter's place takes its argument
exchanged_value : (c : Setting) (params : ℕ) (ds : List (Destination Location)) (s u : State) → AllApart ds → InRegisters c s (sources 8 0 ds) u
    → Entering c params 0 nothing s → (k : ℕ) (d : Destination Location) → slice_get ds k ≡ Some d → k < 8 → is_for_arguments d.place ≡ true
    → value_at c u d.place ≡ c.start.registers (10 + k)
exchanged_value c params ds s u apart h entering k d is few own =
    let at = argument_place d.place own in
    let i : ℕ = at.number in
    let source_k : source_in i 0 ds ≡ 10 + k = source_is i 0 k ds d apart is at.is (omega (arith, few)) ∙ ap (λ n. 10 + n) (zero-add k) in
    let found = source_at 8 0 i ds at.few ∙ ap (λ n. Some (source (source_in n 0 ds))) (zero-add i) in
    ap (value_at c u) at.is
    ∙ (h.in_registers i (source (source_in i 0 ds)) at.few found ∙ (ap s.registers source_k ∙ entering.registers k (omega arith) few))

-- ---- all arguments

-- these arguments are passed, from argument k on
abbrev pub ArePassed : Setting → (k : ℕ) → List (Destination Location) → List ℕ → Type 0
ArePassed c k [] xs = Unit {0}
ArePassed c k (d ∷ ds) [] = Unit {0}
ArePassed c k (d ∷ ds) (x ∷ xs) = (argument_in c c.start k ≡ held d.class x) × ArePassed c (k + 1) ds xs

-- each place has its argument
abbrev AllHold : Setting → State → (k : ℕ) → List (Destination Location) → Type 0
AllHold c u k ds = (i : ℕ) (d : Destination Location) → slice_get ds i ≡ Some d → value_at c u d.place ≡ argument_in c c.start (k + i)

-- so the numbers that the parameters are bound to are in their places
bound_hold : (c : Setting) (u : State) (k : ℕ) (ds : List (Destination Location)) (xs : List ℕ) (numbers : Numbers) → AllHold c u k ds → ArePassed c k ds xs
    → ((p : Location) (v : ℕ) → numbers p ≡ Some v → value_at c u p ≡ v) → (p : Location) (v : ℕ) → bound numbers ds xs p ≡ Some v → value_at c u p ≡ v
bound_hold c u k [] xs numbers all passed before p v known = before p v known
bound_hold c u k (d ∷ ds) [] numbers all passed before p v known = before p v known
bound_hold c u k (d ∷ ds) (x ∷ xs) numbers all passed before p v known =
    bound_hold c u (k + 1) ds xs (put d.place (Some (held d.class x)) numbers)
    (λ i e is. all (suc i) e is ∙ ap (argument_in c c.start) (sym (next_index k i))) passed.1 (λ q y e. by_test q y (same_location q d.place) refl e) p v known
  where
    by_test : (q : Location) (y : ℕ) (t : Bool) → same_location q d.place ≡ t → (if t then Some (held d.class x) else numbers q) ≡ Some y → value_at c u q ≡ y
    by_test q y true e f =
        ap (value_at c u) (same_is q d.place e)
        ∙ (all zero d refl ∙ (ap (argument_in c c.start) (sym (no_more k)) ∙ (passed.0 ∙ same_Some (held d.class x) y f)))
    by_test q y false e f = before q y f

goes_away_group : IsGroup goes_away 0
goes_away_group = record {
  later = λ k p e. omega arith;
  away = λ k p e i lo hi same.
      let parts = and_parts (nat_lt k 8) (not (is_for_arguments p)) e in
      absurd (is_not (is_for_arguments p) parts.1 (ap is_for_arguments same ∙ for_arguments i hi));
}
  where
    is_not : (b : Bool) → not b ≡ true → b ≡ true → ⊥
    is_not true h e = let no : ⊥ = cc in no
    is_not false h e = let no : ⊥ = cc in no

    for_arguments : (i : ℕ) → i < 8 → is_for_arguments (InRegister (10 + i)) ≡ true
    for_arguments i hi = grind (arith, nat_tests)

on_stack_group : IsGroup is_on_stack 8
on_stack_group = record {
  later = λ k p e. grind (arith, nat_tests);
  away = λ k p e i lo hi same. absurd (let no : ⊥ = omega (arith, lo, hi) in no);
}

-- the places of two parameters differ
same_back : (p q : Location) → p ≡ q → same_location p q ≡ true
same_back p q e = ap (same_location p) (sym e) ∙ same_itself p

none_has : (d : Destination Location) (ds : List (Destination Location)) (i : ℕ) (e : Destination Location) → not (list_any (λ (x : Destination Location). located.same d.place x.place) ds) ≡ true
    → slice_get ds i ≡ Some e → d.place ≢ e.place
none_has d [] i e h is = absurd (let no : ⊥ = cc in no)
none_has d (x ∷ ds) zero e h is =
    let parts = neither_holds (same_location d.place x.place) (list_any (λ (y : Destination Location). located.same d.place y.place) ds) h in
    λ g. absurd (both_ways (same_location d.place x.place) parts.0 (same_back d.place x.place (g ∙ ap (λ (y : Destination Location). y.place) (sym (same_Some x e is)))))
none_has d (x ∷ ds) (suc i) e h is =
    none_has d ds i e (neither_holds (same_location d.place x.place) (list_any (λ (y : Destination Location). located.same d.place y.place) ds) h).1 is

all_apart : (ds : List (Destination Location)) → are_distinct located ds ≡ true → AllApart ds
all_apart [] h i j d e other is_d is_e = absurd (let no : ⊥ = cc in no)
all_apart (x ∷ ds) h zero zero d e other is_d is_e = absurd (other refl)
all_apart (x ∷ ds) h zero (suc j) d e other is_d is_e =
    let parts = and_parts (not (list_any (λ (y : Destination Location). located.same x.place y.place) ds)) (are_distinct located ds) h in
    λ g. none_has x ds j e parts.0 is_e (ap (λ (y : Destination Location). y.place) (same x d is_d) ∙ g)
  where
    same : (a b : Destination Location) → Some a ≡ Some b → a ≡ b
    same a b e = cc
all_apart (x ∷ ds) h (suc i) zero d e other is_d is_e =
    let parts = and_parts (not (list_any (λ (y : Destination Location). located.same x.place y.place) ds)) (are_distinct located ds) h in
    λ g. none_has x ds i d parts.0 is_d (ap (λ (y : Destination Location). y.place) (same x e is_e) ∙ sym g)
  where
    same : (a b : Destination Location) → Some a ≡ Some b → a ≡ b
    same a b e = cc
all_apart (x ∷ ds) h (suc i) (suc j) d e other is_d is_e =
    all_apart ds (and_parts (not (list_any (λ (y : Destination Location). located.same x.place y.place) ds)) (are_distinct located ds) h).1 i j d e
    (λ g. other (ap suc g)) is_d is_e

-- after the three groups
all_hold : (c : Setting) → IsSetting c → (params : ℕ) (ds : List (Destination Location)) (s t u w : State)
    → list_all (λ (d : Destination Location). is_place c.slots d.place) ds ≡ true → AllApart ds
    → Group c params 0 goes_away 0 ds s t → InRegisters c t (sources 8 0 ds) u → Group c params 8 is_on_stack 0 ds u w → AllHold c w 0 ds
all_hold c is params ds s t u w places apart one two three i d is_d = by_stack (nat_le 8 i) refl
  where
    good : is_place c.slots d.place ≡ true
    good = place_of c.slots ds i d places is_d

    here : i ≡ 0 + i
    here = sym (zero-add i)

    -- no argument on the stack comes to it
    stays : i < 8 → value_at c w d.place ≡ value_at c u d.place
    stays few =
        three.kept d.place good
        (λ j e is_e t g.
        let many : 8 ≤ 0 + j = grind (arith, nat_tests) in
        absurd (apart j i e d (λ z. absurd (let no : ⊥ = omega (arith, many, few, z) in no)) is_e is_d g))

    by_place : i < 8 → nat_lt i 8 ≡ true → (b : Bool) → is_for_arguments d.place ≡ b → value_at c u d.place ≡ c.start.registers (10 + i)
    by_place few low true e = exchanged_value c params ds t u apart two one.entering i d is_d few e
    by_place few low false e =
        let passes : goes_away (0 + i) d.place ≡ true =
        and_from (nat_lt (0 + i) 8) (not (is_for_arguments d.place)) (ap (λ n. nat_lt n 8) (zero-add i) ∙ low) (ap not e) in
        away_keeps c is (sources 8 0 ds) t u two d.place good e
        ∙ (one.values i d is_d passes
        ∙ (ap (argument_in c c.start) (zero-add i) ∙ ap (λ b. if b then c.start.registers (10 + i) else number_at c.start.bytes (c.sp + 8 * (i - 8)) 8) low))

    by_stack : (b : Bool) → nat_le 8 i ≡ b → value_at c w d.place ≡ argument_in c c.start (0 + i)
    by_stack true e = three.values i d is_d (ap (nat_le 8) (zero-add i) ∙ e)
    by_stack false e =
        let few : i < 8 = grind (arith, nat_tests) in
        let low : nat_lt i 8 ≡ true = grind (arith, nat_tests) in
        stays few
        ∙ (by_place few low (is_for_arguments d.place) refl
        ∙ (sym (ap (λ b. if b then c.start.registers (10 + i) else number_at c.start.bytes (c.sp + 8 * (i - 8)) 8) low) ∙ ap (argument_in c c.start) here))

-- ---- the caller's stack pointer

leads_caller_pointer : (c : Setting) → IsSetting c → (s : State) → s.registers 2 ≡ bottom c → Leads (site c) (caller_pointer c.layout) s (Sets s 30 c.sp)
leads_caller_pointer c is s pointer =
    let size : ℕ = c.layout.size in
    leads_again (site c) (constant 30 size) (sum_to 30 30 2 ∷ []) s 30 (size % 2 ^ 64) c.sp (leads_constant (site c) s 30 size is_30)
    (λ u f one.
    let held_30 = one.value in
    let held_2 : u.registers 2 ≡ bottom c = one.others 2 (λ e. absurd (omega (arith, e))) ∙ pointer in
    let above = is.above in
    let below = is.below in
    let top = is.world.small in
    let sum : (u.registers 30 + u.registers 2) % 2 ^ 64 ≡ c.sp = omega (arith, held_30, held_2, above, below, top) in
    leads_as (leads_sum (site c) u 30 30 2 is_30 is_30 is_2)
    (λ t g two. record { value = two.value ∙ sum; others = two.others; bytes = two.bytes; output = two.output }))

has_pointer : (c : Setting) (params : ℕ) (numbers : Numbers) (s u : State) → Entering c 0 0 numbers s → Sets s 30 c.sp u → Entering c params 0 numbers u
has_pointer c params numbers s u entering h = record {
  framed = framed_same c numbers c.before s u entering.framed
      (record { registers = λ n lo. h.others n (λ e. absurd (omega (arith, e, lo))); bytes = h.bytes; output = h.output });
  output = h.output ∙ entering.output;
  registers = λ i from few. h.others (10 + i) (λ e. absurd (omega (arith, e, few))) ∙ entering.registers i from few;
  stack = λ x above. ap (λ (m : ℕ → ℕ). m x) h.bytes ∙ entering.stack x above;
  caller = λ some. h.value;
}

needs_none : (c : Setting) (params : ℕ) (numbers : Numbers) (s : State) → params ≤ 8 → Entering c 0 0 numbers s → Entering c params 0 numbers s
needs_none c params numbers s few entering = record {
  framed = entering.framed;
  output = entering.output;
  registers = entering.registers;
  stack = entering.stack;
  caller = λ some. absurd (let no : ⊥ = omega (arith, some, few) in no);
}

leads_pointer : (c : Setting) → IsSetting c → (params : ℕ) (numbers : Numbers) (s : State) → Entering c 0 0 numbers s
    → Leads (site c) (pointer_items c.layout params) s (Entering c params 0 numbers)
leads_pointer c is params numbers s entering = by_test (nat_lt 8 params) refl
  where
    by_test : (t : Bool) → nat_lt 8 params ≡ t → Leads (site c) (if t then caller_pointer c.layout else []) s (Entering c params 0 numbers)
    by_test true e =
        leads_as (leads_caller_pointer c is s entering.framed.pointer)
        (λ u f h. has_pointer c params numbers s u entering h)
    by_test false e = leads_nowhere (site c) s (Entering c params 0 numbers) (needs_none c params numbers s (grind (arith, nat_tests)) entering)

-- ---- the entry

pub leads_entry : (c : Setting) → IsSetting c → (params : List (Destination Location)) (xs : List ℕ) (s : State) → CanTake c (length params) 0 params
    → are_distinct located params ≡ true → ArePassed c 0 params xs → Entering c 0 0 (λ p. None) s
    → Leads (site c) (entry_items c.layout params) s (Entering c (length params) 8 (bound (λ p. None) params xs))
leads_entry c is params xs s can distinct passed entering =
    let n : ℕ = length params in
    let apart = all_apart params distinct in
    let all : List (Argument Location) = sources 8 0 params in
    let done : State → Type 0 = Entering c n 8 (bound nothing params xs) in
    leads_on (leads_pointer c is n nothing s entering)
    (λ r f zeroth.
    leads_on (leads_group c is n 0 goes_away goes_away_group 0 params r can apart zeroth)
    (λ t g one.
    leads_on (leads_passed c is t all one.entering.framed.pointer (sources_stand c.slots 8 0 params (lit≤ tt)))
    (λ u h two.
    leads_as (leads_group c is n 8 is_on_stack on_stack_group 0 params u can apart (entering_moved c is n all t u one.entering two))
    (λ w i three.
    let hold = all_hold c is n params r t u w can.places apart one two three in
    record {
      framed = framed_with c nothing (bound nothing params xs) w (λ p v good known. bound_hold c w 0 params xs nothing hold passed (λ q x e. absurd (none-some x e)) p v known)
          (bound_unset c.slots nothing params xs can.places (λ i far. refl)) three.entering.framed;
      output = three.entering.output;
      registers = three.entering.registers;
      stack = three.entering.stack;
      caller = three.entering.caller;
    }))))
