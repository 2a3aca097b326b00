-- What the begin and the end of a frame do.
use Rattle.std.proofs.Common.{◌≡◌, ◌≢◌, ℕ, zero, suc, ◌+◌, ◌-◌, ◌*◌, ◌%◌, ◌^◌, ◌<◌, ◌≤◌, Bool, true, false, List, [], ◌∷◌, ◌++◌, refl, sym, ◌∙◌, ap, subst, arith, lit<, ◌||◌, ◌&&◌, not, nat_eq, nat_lt, if◌then◌else◌, slice_get, length, Some, Ok, append_assoc}
use Rattle.abi_frames.proofs.Shared.{State, Item, list_all, and_parts, eqb-true, not-true, eqb-false, or_parts, longest_size, not_both, same_Some, all_at, nat_tests, number_at, moved, Comes, low}
use Rattle.rv_isa.specs.Prelude.{act, jump, even_below, Fixed, Stand, Stands}
use Rattle.rv_isa.specs.declared.instruction.Instr.TheVariants.{Jalr}
use Rattle.rv_isa.proofs.MemoryLemmas.{number_same, stored_below, stored_above, read_back}
use Rattle.rv_isa.proofs.RunLemmas.{comes_by_step, comes_then}
use Rattle.vcode.specs.Prelude.{is_immediate}
use Rattle.abi_frames.specs.Performs.{is_kept}
use Rattle.operation_code.specs.Constants.{reg, add_low, sum_to, constant}
use Rattle.abi_frames.specs.Emission.{move_pointer, lower_pointer, raise_pointer, save_all, restore_all, go_back, epilogue}
use Rattle.operation_code.proofs.ConstantNumbers.{immediate_adds, near_moves}
use Rattle.operation_code.proofs.Leading.{Site, StandAt, Leads, leads_nowhere, longest-append, stepped, Sets, IsReg, register_reg}
use Rattle.abi_frames.proofs.Leads.{leads_on, leads_as, leads_where}
use Rattle.abi_frames.proofs.StackAccesses.{Writes, leads_load, leads_store, near_address, is_2, is_28}
use Rattle.operation_code.proofs.Instructions.{leads_add_low, leads_sum, leads_constant}
use Rattle.abi_frames.proofs.Activations.{Setting, IsSetting, site, bottom, save_at, in_frame, can_save, is_among, is_held, held_below}

-- ---- the stack pointer

pub record PointerMoved (s : State) (v : ℕ) (u : State) : Type 0 where
  pub value : u.registers 2 ≡ v
  pub others : (n : ℕ) → n < 28 → n ≢ 2 → u.registers n ≡ s.registers n
  pub bytes : u.bytes ≡ s.bytes
  pub output : u.output ≡ s.output

pub leads_move_pointer : (c : Site) (s : State) (n : ℕ) → Leads c (move_pointer n) s (PointerMoved s ((s.registers 2 + n) % 2 ^ 64))
leads_move_pointer c s n = by_test (is_immediate n) refl
  where
    by_test : (b : Bool) → is_immediate n ≡ b
        → Leads c (if b then add_low 2 2 n ∷ [] else constant 28 n ++ (sum_to 2 2 28 ∷ [])) s (PointerMoved s ((s.registers 2 + n) % 2 ^ 64))
    by_test true e =
        leads_as (leads_add_low c s 2 2 n (s.registers 2) ((s.registers 2 + n) % 2 ^ 64) is_2 (register_reg s 2 is_2) (immediate_adds (s.registers 2) n e))
        (λ u f h. record { value = h.value; others = λ m lo other. h.others m other; bytes = h.bytes; output = h.output })
    by_test false e =
        leads_on (leads_constant c s 28 n is_28)
        (λ u f one.
        leads_as (leads_sum c u 2 2 28 is_2 is_2 is_28)
        (λ t g two.
        let held = one.value in
        let same : u.registers 2 ≡ s.registers 2 = one.others 2 (λ e. absurd (omega (arith, e))) in
        let sum : (u.registers 2 + u.registers 28) % 2 ^ 64 ≡ (s.registers 2 + n) % 2 ^ 64 = omega (arith, held, same) in
        record {
          value = two.value ∙ sum;
          others = λ m lo other. two.others m other ∙ one.others m (λ e. absurd (omega (arith, e, lo)));
          bytes = two.bytes ∙ one.bytes;
          output = two.output ∙ one.output;
        }))

same_pointer : (c : Site) (s : State) (v : ℕ) → s.registers 2 ≡ v → Leads c [] s (PointerMoved s v)
same_pointer c s v e = leads_nowhere c s (PointerMoved s v) (record { value = e; others = λ m lo other. refl; bytes = refl; output = refl })

-- by nothing where the frame is empty
leads_moved : (c : Site) (s : State) (size n : ℕ) → (size ≡ 0 → n % 2 ^ 64 ≡ 0)
    → Leads c (if nat_eq size 0 then [] else move_pointer n) s (PointerMoved s ((s.registers 2 + n) % 2 ^ 64))
leads_moved c s size n none = by_test (nat_eq size 0) refl
  where
    same : (x m : ℕ) → x < 2 ^ 64 → m % 2 ^ 64 ≡ 0 → x ≡ (x + m) % 2 ^ 64
    same x m h e = omega (arith, h, e)

    by_test : (b : Bool) → nat_eq size 0 ≡ b → Leads c (if b then [] else move_pointer n) s (PointerMoved s ((s.registers 2 + n) % 2 ^ 64))
    by_test true e = leads_where (λ fixed. same_pointer c s ((s.registers 2 + n) % 2 ^ 64) (same (s.registers 2) n (fixed.words 2) (none (eqb-true size 0 e))))
    by_test false e = leads_move_pointer c s n

pub leads_lower : (c : Site) (s : State) (size : ℕ) → Leads c (lower_pointer size) s (PointerMoved s ((s.registers 2 + (2 ^ 64 - size)) % 2 ^ 64))
leads_lower c s size = leads_moved c s size (2 ^ 64 - size) (λ e. omega (arith, e))

leads_raise : (c : Site) (s : State) (size : ℕ) → Leads c (raise_pointer size) s (PointerMoved s ((s.registers 2 + size) % 2 ^ 64))
leads_raise c s size = leads_moved c s size size (λ e. omega (arith, e))

-- ---- saved registers

pub record Savable (r : ℕ) : Type 0 where
  pub reg : IsReg r
  pub below : r < 28
  pub not_pointer : r ≢ 2

pub savable : (r : ℕ) → can_save r ≡ true → Savable r
savable r h =
    let parts = and_parts (nat_lt 0 r && nat_lt r 28) (not (nat_eq r 2) && not (nat_eq r 10)) h in
    let range = and_parts (nat_lt 0 r) (nat_lt r 28) parts.0 in
    let others = and_parts (not (nat_eq r 2)) (not (nat_eq r 10)) parts.1 in
    let lo = range.0 in
    let hi = range.1 in
    let other = not-true (nat_eq r 2) others.0 in
    let below : r < 28 = grind (arith, nat_tests) in
    record {
      reg = record { some = grind (arith, nat_tests); small = omega (arith, below) };
      below = below;
      not_pointer = λ e. absurd (let no : ⊥ = grind (arith, nat_tests) in no);
    }

-- the registers of the list as they were in s stand one after another from an offset on
pub record AllSaved (c : Setting) (o : ℕ) (rs : List ℕ) (s u : State) : Type 0 where
  pub saved : (k r : ℕ) → slice_get rs k ≡ Some r → number_at u.bytes (bottom c + (o + 8 * k)) 8 ≡ s.registers r
  pub below : (x : ℕ) → x < bottom c + o → u.bytes x ≡ s.bytes x
  pub above : (x : ℕ) → bottom c + (o + 8 * length rs) ≤ x → u.bytes x ≡ s.bytes x
  pub registers : (n : ℕ) → n < 28 → u.registers n ≡ s.registers n
  pub output : u.output ≡ s.output

saved_more : (c : Setting) (o r : ℕ) (rs : List ℕ) (s u w : State) → s.registers r < 2 ^ 64 → list_all can_save rs ≡ true
    → Writes s (bottom c + o) (s.registers r) u → AllSaved c (o + 8) rs u w
    → (k q : ℕ) → slice_get (r ∷ rs) k ≡ Some q → number_at w.bytes (bottom c + (o + 8 * k)) 8 ≡ s.registers q
saved_more c o r rs s u w small good one rest zero q e =
    let place : bottom c + (o + 8 * zero) ≡ bottom c + o = omega arith in
    let first : number_at w.bytes (bottom c + (o + 8 * zero)) 8 ≡ number_at u.bytes (bottom c + o) 8 =
    ap (λ a. number_at w.bytes a 8) place ∙ number_same w.bytes u.bytes (bottom c + o) 8 (λ x lo hi. rest.below x (omega (arith, hi))) in
    let same : r ≡ q = same_Some r q e in
    first ∙ (ap (λ (m : ℕ → ℕ). number_at m (bottom c + o) 8) one.bytes ∙ (read_back s.bytes (bottom c + o) 8 (s.registers r) small ∙ ap s.registers same))
saved_more c o r rs s u w small good one rest (suc k) q e =
    let place : bottom c + (o + 8 * suc k) ≡ bottom c + (o + 8 + 8 * k) = omega arith in
    let low = (savable q (all_at can_save rs k q good e)).below in
    ap (λ a. number_at w.bytes a 8) place ∙ (rest.saved k q e ∙ one.registers q (λ h. absurd (omega (arith, h, low))))

pub leads_save_all : (c : Setting) → IsSetting c → (s : State) (o : ℕ) (rs : List ℕ) → s.registers 2 ≡ bottom c → list_all can_save rs ≡ true
    → o + 8 * length rs ≤ c.layout.slots → Leads (site c) (save_all o rs) s (AllSaved c o rs s)
leads_save_all c is s o [] pointer good h =
    leads_nowhere (site c) s (AllSaved c o [] s)
    (record { saved = λ k r e. absurd (let no : ⊥ = cc in no); below = λ x lo. refl; above = λ x hi. refl; registers = λ n lo. refl; output = refl })
leads_save_all c is s o (r ∷ rs) pointer good h =
    let parts = and_parts (can_save r) (list_all can_save rs) good in
    let ok = savable r parts.0 in
    let fits = is.fits in
    let near = is.slots_near in
    let inside = in_frame c is o (omega (arith, h, fits)) in
    leads_where (λ fixed.
    leads_on
    (leads_store (site c) s r 2 o (bottom c + o) ok.reg is_2 fixed (near_address (s.registers 2) (bottom c) o pointer (omega (arith, h, near)) inside.small) inside.usable)
    (λ u f one.
    leads_as (leads_save_all c is u (o + 8) rs (one.registers 2 (λ e. absurd (omega (arith, e))) ∙ pointer) parts.1 (omega (arith, h)))
    (λ w g rest. record {
      saved = saved_more c o r rs s u w (fixed.words r) parts.1 one rest;
      below = λ x lo.
          rest.below x (omega (arith, lo)) ∙ (ap (λ (m : ℕ → ℕ). m x) one.bytes ∙ stored_below s.bytes (bottom c + o) 8 (s.registers r) x lo);
      above = λ x hi.
          rest.above x (omega (arith, hi))
          ∙ (ap (λ (m : ℕ → ℕ). m x) one.bytes ∙ stored_above s.bytes (bottom c + o) 8 (s.registers r) x (omega (arith, hi)));
      registers = λ n lo. rest.registers n lo ∙ one.registers n (λ e. absurd (omega (arith, e, lo)));
      output = rest.output ∙ one.output;
    })))

-- ---- registers are restored

pub record AllRestored (c : Setting) (rs : List ℕ) (s u : State) : Type 0 where
  pub gains : (n : ℕ) → is_among n rs ≡ true → u.registers n ≡ c.start.registers n
  pub others : (n : ℕ) → is_among n rs ≡ false → u.registers n ≡ s.registers n
  pub bytes : u.bytes ≡ s.bytes
  pub output : u.output ≡ s.output

gains_more : (c : Setting) (r : ℕ) (rs : List ℕ) (s u w : State) → Sets s r (c.start.registers r) u → AllRestored c rs u w
    → (n : ℕ) → is_among n (r ∷ rs) ≡ true → w.registers n ≡ c.start.registers n
gains_more c r rs s u w one rest n h = by_test (nat_eq n r) refl (is_among n rs) refl h
  where
    by_test : (a : Bool) → nat_eq n r ≡ a → (b : Bool) → is_among n rs ≡ b → (a || b) ≡ true → w.registers n ≡ c.start.registers n
    by_test a e true f k = rest.gains n f
    by_test true e false f k =
        let same : n ≡ r = eqb-true n r e in
        rest.others n f ∙ (ap u.registers same ∙ (one.value ∙ ap c.start.registers (sym same)))
    by_test false e false f k = absurd (let no : ⊥ = cc in no)

pub leads_restore_all : (c : Setting) → IsSetting c → (s : State) (o : ℕ) (rs : List ℕ) → s.registers 2 ≡ bottom c → list_all can_save rs ≡ true
    → o + 8 * length rs ≤ c.layout.slots
    → ((k r : ℕ) → slice_get rs k ≡ Some r → number_at s.bytes (bottom c + (o + 8 * k)) 8 ≡ c.start.registers r)
    → Leads (site c) (restore_all o rs) s (AllRestored c rs s)
leads_restore_all c is s o [] pointer good h held =
    leads_nowhere (site c) s (AllRestored c [] s)
    (record { gains = λ n e. absurd (let no : ⊥ = cc in no); others = λ n e. refl; bytes = refl; output = refl })
leads_restore_all c is s o (r ∷ rs) pointer good h held =
    let parts = and_parts (can_save r) (list_all can_save rs) good in
    let ok = savable r parts.0 in
    let fits = is.fits in
    let near = is.slots_near in
    let inside = in_frame c is o (omega (arith, h, fits)) in
    leads_where (λ fixed.
    leads_on
    (leads_load (site c) s r 2 o (bottom c + o) ok.reg is_2 fixed (near_address (s.registers 2) (bottom c) o pointer (omega (arith, h, near)) inside.small) inside.usable)
    (λ u f one.
    let here : bottom c + o ≡ bottom c + (o + 8 * zero) = omega arith in
    let set : Sets s r (c.start.registers r) u = record { value = one.value ∙ (ap (λ a. number_at s.bytes a 8) here ∙ held zero r refl); others = one.others; bytes = one.bytes; output = one.output } in
    leads_as (leads_restore_all c is u (o + 8) rs (one.others 2 (λ e. ok.not_pointer (sym e)) ∙ pointer) parts.1 (omega (arith, h))
    (λ k q e.
    let place : bottom c + (o + 8 + 8 * k) ≡ bottom c + (o + 8 * suc k) = omega arith in
    ap (λ (m : ℕ → ℕ). number_at m (bottom c + (o + 8 + 8 * k)) 8) one.bytes ∙ (ap (λ a. number_at s.bytes a 8) place ∙ held (suc k) q e)))
    (λ w g rest. record {
      gains = gains_more c r rs s u w set rest;
      others = λ n e.
          let both = or_parts (nat_eq n r) (is_among n rs) e in
          rest.others n both.1 ∙ one.others n (eqb-false n r both.0);
      bytes = rest.bytes ∙ one.bytes;
      output = rest.output ∙ one.output;
    })))

-- ---- code that ends elsewhere

-- in at least one instruction and at most so many the machine comes from s to a state where P holds
pub record Lands (c : Site) (most : ℕ) (s : State) (P : State → Type 0) : Type 0 where
  pub steps : ℕ
  pub after : State
  pub comes : Comes s steps after
  pub some : 0 < steps
  pub few : steps ≤ most
  pub fixed : Fixed c.ground after
  pub holds : P after

pub record Ends (c : Site) (is : List Item) (s : State) (P : State → Type 0) : Type 0 where
  pub from : (rest : List Item) → StandAt c (is ++ rest) s.pc → Fixed c.ground s → Lands c (longest_size is) s P

pub ends_then : {c : Site} {is js : List Item} {s : State} {P Q : State → Type 0} → Leads c is s P
    → ((u : State) → Fixed c.ground u → P u → Ends c js u Q) → Ends c (is ++ js) s Q
ends_then {c} {is} {js} {s} first second = record {
  from = λ rest stands fixed.
      let one = first.from (js ++ rest) (subst (λ l. StandAt c l s.pc) (append_assoc is js rest) stands) fixed in
      let two = (second one.after one.fixed one.holds).from rest one.stands one.fixed in
      let size = longest-append is js in
      let few_one = one.few in
      let few_two = two.few in
      let some = two.some in
      record {
        steps = one.steps + two.steps;
        after = two.after;
        comes = comes_then one.comes two.comes;
        some = omega (arith, some);
        few = omega (arith, size, few_one, few_two);
        fixed = two.fixed;
        holds = two.holds;
      };
}

pub ends_so : {c : Site} {is : List Item} {s : State} {P Q : State → Type 0} → Ends c is s P → ((t : State) → P t → Q t) → Ends c is s Q
ends_so first so = record {
  from = λ rest stands fixed.
      let one = first.from rest stands fixed in
      record { steps = one.steps; after = one.after; comes = one.comes; some = one.some; few = one.few; fixed = one.fixed; holds = so one.after one.holds };
}

pub kept_held : (n : ℕ) → is_kept n ≡ true → is_held n ≡ true
kept_held n k = grind (arith, nat_tests)

-- ---- the return

abbrev going_to : State → ℕ → State
going_to s a = record s { pc = a }

jump_goes : (s : State) (x target : ℕ) → x ≡ target → target % 4 ≡ 0 → jump s (reg 0) x ≡ Ok (going_to s target)
jump_goes s x target e aligned = subst (λ y. jump s (reg 0) y ≡ Ok (going_to s target)) (sym e) (rw aligned refl)

even_target : (x : ℕ) → x < 2 ^ 64 → x % 4 ≡ 0 → even_below ((x + 0) % 2 ^ 64) ≡ x
even_target x h aligned = omega (arith, h, aligned)

pub record Jumped (s : State) (to : ℕ) (u : State) : Type 0 where
  pub place : u.pc ≡ to
  pub registers : (n : ℕ) → n < 28 → u.registers n ≡ s.registers n
  pub bytes : u.bytes ≡ s.bytes
  pub output : u.output ≡ s.output

pub ends_go_back : (c : Site) (s : State) (to : ℕ) → s.registers 1 ≡ to → to % 4 ≡ 0 → Ends c (go_back ∷ []) s (Jumped s to)
unfolding Stand Stands
ends_go_back c s to held aligned = record {
  from = λ rest stands fixed.
      let at = stands.1.0 in
      let word : to < 2 ^ 64 = subst (λ x. x < 2 ^ 64) held (fixed.words 1) in
      let target : even_below (moved (s.registers 1) (low 0).value) ≡ to =
      ap (λ x. even_below (moved x (low 0).value)) held ∙ (ap even_below (near_moves to 0 (lit< tt)) ∙ even_target to word aligned) in
      let acts : act (Jalr (reg 0) (reg 1) (low 0)) s ≡ Ok (going_to s to) = jump_goes s (even_below (moved (s.registers 1) (low 0).value)) to target aligned in
      let both = stepped c s (going_to s to) (Jalr (reg 0) (reg 1) (low 0)) fixed at acts refl (λ a h. refl) in
      record {
        steps = 1;
        after = going_to s to;
        comes = comes_by_step s (going_to s to) both.0;
        some = lit< tt;
        few = omega arith;
        fixed = both.1;
        holds = record { place = refl; registers = λ n lo. refl; bytes = refl; output = refl };
      };
}

-- what the code after a frame finds
pub record Left (c : Setting) (s u : State) : Type 0 where
  pub place : u.pc ≡ c.start.registers 1
  pub kept : (n : ℕ) → is_kept n ≡ true → u.registers n ≡ c.start.registers n
  pub result : u.registers 10 ≡ s.registers 10
  pub bytes : u.bytes ≡ s.bytes
  pub output : u.output ≡ s.output

-- a register that can't be saved isn't
not_among : (n : ℕ) (rs : List ℕ) → can_save n ≡ false → list_all can_save rs ≡ true → is_among n rs ≡ false
not_among n [] never good = refl
not_among n (r ∷ rs) never good =
    let parts = and_parts (can_save r) (list_all can_save rs) good in
    by_test parts.0 (not_among n rs never parts.1) (nat_eq n r) refl
  where
    by_test : can_save r ≡ true → is_among n rs ≡ false → (b : Bool) → nat_eq n r ≡ b → (b || is_among n rs) ≡ false
    by_test one rest true e = absurd (not_both (can_save n) (ap can_save (eqb-true n r e) ∙ one) never)
    by_test one rest false e = rest

-- the end of a frame: the registers are as at its begin, and the machine is back at its caller
pub ends_frame : (c : Setting) → IsSetting c → (s : State) → s.registers 2 ≡ bottom c → c.start.registers 2 ≡ c.sp → c.start.registers 1 % 4 ≡ 0
    → ((k r : ℕ) → slice_get c.saved k ≡ Some r → number_at s.bytes (save_at c k) 8 ≡ c.start.registers r)
    → ((n : ℕ) → is_held n ≡ true → n ≢ 2 → is_among n c.saved ≡ false → s.registers n ≡ c.start.registers n)
    → Ends (site c) (epilogue c.layout c.saved) s (Left c s)
ends_frame c is s pointer start aligned held thread =
    let saves = is.saves_fit in
    let above = is.above in
    let below = is.below in
    let top = is.world.small in
    let size : ℕ = c.layout.size in
    ends_then (leads_restore_all c is s c.layout.saves c.saved pointer is.savable saves held)
    (λ u f one.
    let at_u : u.registers 2 ≡ bottom c = one.others 2 (not_among 2 c.saved refl is.savable) ∙ pointer in
    ends_then (leads_raise (site c) u size)
    (λ w g two.
    let address : w.registers 1 ≡ c.start.registers 1 = two.others 1 (lit< tt) (λ e. absurd (omega (arith, e))) ∙ address_by u one (is_among 1 c.saved) refl in
    let back : (u.registers 2 + size) % 2 ^ 64 ≡ c.sp = omega (arith, at_u, above, below, top) in
    ends_so (ends_go_back (site c) w (c.start.registers 1) address aligned)
    (λ t three.
    let same : (n : ℕ) → n < 28 → n ≢ 2 → t.registers n ≡ u.registers n = λ n lo other. three.registers n lo ∙ two.others n lo other in
    record {
      place = three.place;
      kept = λ n k. kept_by u t one same (three.registers 2 (lit< tt) ∙ (two.value ∙ (back ∙ sym start))) n k (nat_eq n 2) refl (is_among n c.saved) refl;
      result = same 10 (lit< tt) (λ e. absurd (omega (arith, e))) ∙ one.others 10 (not_among 10 c.saved refl is.savable);
      bytes = three.bytes ∙ (two.bytes ∙ one.bytes);
      output = three.output ∙ (two.output ∙ one.output);
    })))
  where
    -- the return address was saved, or stayed where it is
    address_by : (u : State) → AllRestored c c.saved s u → (b : Bool) → is_among 1 c.saved ≡ b → u.registers 1 ≡ c.start.registers 1
    address_by u one true e = one.gains 1 e
    address_by u one false e = one.others 1 e ∙ thread 1 refl (λ d. absurd (omega (arith, d))) e

    -- a kept register is the stack pointer, or saved, or as it was all the time
    kept_by : (u t : State) → AllRestored c c.saved s u → ((n : ℕ) → n < 28 → n ≢ 2 → t.registers n ≡ u.registers n)
        → t.registers 2 ≡ c.start.registers 2 → (n : ℕ) → is_kept n ≡ true → (a : Bool) → nat_eq n 2 ≡ a → (b : Bool) → is_among n c.saved ≡ b
        → t.registers n ≡ c.start.registers n
    kept_by u t one same at_2 n k true e b d = let is_2 = eqb-true n 2 e in ap t.registers is_2 ∙ (at_2 ∙ ap c.start.registers (sym is_2))
    kept_by u t one same at_2 n k false e true d = same n (held_below n (kept_held n k)) (eqb-false n 2 e) ∙ one.gains n d
    kept_by u t one same at_2 n k false e false d = same n (held_below n (kept_held n k)) (eqb-false n 2 e) ∙ (one.others n d ∙ thread n (kept_held n k) (eqb-false n 2 e) d)
