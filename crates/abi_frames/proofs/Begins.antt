-- The begin of a frame, from any state in which there is none.
use Rattle.std.proofs.Common.{◌≡◌, ◌≢◌, ℕ, ◌+◌, ◌-◌, ◌*◌, ◌%◌, ◌^◌, ◌<◌, ◌≤◌, Bool, true, false, List, [], refl, sym, ◌∙◌, ap, subst, arith, lit<, lit≤, nat_le, nat_lt, length, Some, None}
use Rattle.abi_frames.proofs.Shared.{Class, State, Location, InRegister, Slot, list_all, all_at, none_is_not, nat_tests, is_place}
use Rattle.flat_code.specs.Flat.{ThisByte, Spots, Clear, FlatGiven}
use Rattle.flat_code.specs.Step.{Numbers}
use Rattle.abi_frames.specs.Performs.{Ready}
use Rattle.abi_frames.specs.Emission.{prologue}
use Rattle.abi_frames.specs.Functions.{bare_layout, outer_layout}
use Rattle.operation_code.proofs.Leading.{Leads}
use Rattle.abi_frames.proofs.Leads.{leads_on, leads_as}
use Rattle.abi_frames.proofs.Activations.{Setting, IsSetting, site, bottom, value_at, place_is, is_held, held_below, Framed, spots_same, byte_has_access, Fits}
use Rattle.abi_frames.proofs.LineCode.{Scratched}
use Rattle.abi_frames.proofs.FrameEnds.{savable, leads_lower, AllSaved, leads_save_all}
use Rattle.abi_frames.proofs.Entering.{Entering}

-- where there is no frame: no slot, and no register is saved; instructions are kept for its begin
abbrev pub unframed : Setting → Setting
unframed c = record c { layout = outer_layout c.layout; saved = []; slots = 0; reserve = 49 }

pub empty_fits : (c : Setting) (leave : ℕ) (falls : Bool) (reserve : ℕ) → 24 ≤ reserve → IsSetting c
    → Fits c.world c.global c.addresses (record (bare_layout c.layout) { leave = leave; falls = falls }) [] 0 0 c.sp reserve
empty_fits c leave falls reserve enough is =
    let above = is.above in
    record {
      world = is.world;
      globals = is.globals;
      near = is.near;
      above = omega (arith, above);
      below = is.below;
      fits = lit≤ tt;
      blocks = refl;
      saves_fit = lit≤ tt;
      saves_near = lit< tt;
      slots_near = lit< tt;
      savable = refl;
      small = lit< tt;
      enough = enough;
    }

pub unframed_is : (c : Setting) → c.area ≡ 0 → IsSetting c → IsSetting (unframed c)
unframed_is c none is =
    subst (λ n. Fits c.world c.global c.addresses (outer_layout c.layout) [] 0 n c.sp 49) (sym none) (empty_fits c (c.layout.leave + 1) c.layout.falls 49 (lit≤ tt) is)

-- all registers stay but the stack pointer and scratch registers, and all bytes of the caller
pub record Kept (sp : ℕ) (s u : State) : Type 0 where
  pub registers : (n : ℕ) → n < 28 → n ≢ 2 → u.registers n ≡ s.registers n
  pub bytes : (x : ℕ) → sp ≤ x → u.bytes x ≡ s.bytes x
  pub output : u.output ≡ s.output

moved_down : (x sp size : ℕ) → x ≡ sp - 0 → size ≤ sp → sp < 2 ^ 63 → (x + (2 ^ 64 - size)) % 2 ^ 64 ≡ sp - size
moved_down x sp size e h small = omega (arith, e, h, small)

-- places are as they were: those that have a value are registers
begun_places : (c : Setting) (numbers : Numbers) (memory : Spots) (u w : State) → Framed (unframed c) numbers memory u
    → ((n : ℕ) → n < 28 → n ≢ 2 → w.registers n ≡ u.registers n)
    → (p : Location) (x : ℕ) → is_place c.slots p ≡ true → numbers p ≡ Some x → value_at c w p ≡ x
begun_places c numbers memory u w framed same (InRegister r) x good known =
    let place = place_is c.slots r good in
    let from = place.from_5 in
    let to = place.to_27 in
    same r (omega (arith, to)) (λ e. absurd (omega (arith, e, from))) ∙ framed.places (InRegister r) x good known
begun_places c numbers memory u w framed same (Slot i) x good known = absurd (none_is_not x (numbers (Slot i)) (framed.unset i (omega arith)) known)

-- no byte that is known is among those of saved registers
begun_spots : (c : Setting) → IsSetting c → (numbers : Numbers) (memory : Spots) (u v w : State) → Framed (unframed c) numbers memory u → v.bytes ≡ u.bytes
    → AllSaved c c.layout.saves c.saved v w → (x n : ℕ) → memory x ≡ ThisByte n → w.bytes x ≡ n
begun_spots c is numbers memory u v w framed same saved x n known =
    by_test (nat_lt x (bottom c + c.layout.saves)) refl (nat_le (bottom c + (c.layout.saves + 8 * length c.saved)) x) refl
  where
    at_x : v.bytes x ≡ n
    at_x = ap (λ (m : ℕ → ℕ). m x) same ∙ framed.spots.known x n known

    by_test : (t : Bool) → nat_lt x (bottom c + c.layout.saves) ≡ t → (d : Bool) → nat_le (bottom c + (c.layout.saves + 8 * length c.saved)) x ≡ d → w.bytes x ≡ n
    by_test true e d f = saved.below x (grind (arith, nat_tests)) ∙ at_x
    by_test false e true f = saved.above x (grind (arith, nat_tests)) ∙ at_x
    by_test false e false f =
        let from : bottom c + c.layout.saves ≤ x = grind (arith, nat_tests) in
        let to : x < bottom c + (c.layout.saves + 8 * length c.saved) = grind (arith, nat_tests) in
        let fits = is.fits in
        let saves = is.saves_fit in
        let above = is.above in
        absurd (byte_has_access (memory x) n known (framed.clear x (omega (arith, from, above)) (omega (arith, to, fits, saves, above))))

pub frame_begins : (c : Setting) → IsSetting c → list_all is_held c.saved ≡ true → (numbers : Numbers) (memory : Spots) (u : State) → Framed (unframed c) numbers memory u
    → Leads (site c) (prologue c.layout c.saved) u (λ w. Framed c numbers memory w × Kept c.sp u w)
frame_begins c is held numbers memory u framed =
    let Q : State → Type 0 = λ w. Framed c numbers memory w × Kept c.sp u w in
    let n : ℕ = 2 ^ 64 - c.layout.size in
    let above = is.above in
    let below = is.below in
    let top = is.world.small in
    let fits = is.fits in
    let saves = is.saves_fit in
    leads_on (leads_lower (site c) u c.layout.size)
    (λ v fixed one.
    let down = moved_down (u.registers 2) c.sp c.layout.size framed.pointer (omega (arith, above)) (omega (arith, below, top)) in
    let at_v : v.registers 2 ≡ bottom c = one.value ∙ down in
    leads_as (leads_save_all c is v c.layout.saves c.saved at_v is.savable saves)
    (λ w g two.
    let kept : Kept c.sp u w = record {
      registers = λ m lo other. two.registers m lo ∙ one.others m lo other;
      bytes = λ x hi. two.above x (omega (arith, hi, above, fits, saves)) ∙ ap (λ (m : ℕ → ℕ). m x) one.bytes;
      output = two.output ∙ one.output;
    } in (
      record {
        pointer = two.registers 2 (lit< tt) ∙ at_v;
        places = begun_places c numbers memory u w framed kept.registers;
        spots = record { known = begun_spots c is numbers memory u v w framed one.bytes two; usable = framed.spots.usable };
        clear = framed.clear;
        reach = framed.reach;
        saved = λ k r e.
            let ok = savable r (all_at _ c.saved k r is.savable e) in
            two.saved k r e ∙ (one.others r ok.below ok.not_pointer ∙ framed.thread r (all_at is_held c.saved k r held e) ok.not_pointer refl);
        thread = λ m keeps other out. kept.registers m (held_below m keeps) other ∙ framed.thread m keeps other refl;
        others = λ x hi away. kept.bytes x hi ∙ framed.others x hi away;
        unset = λ i far. framed.unset i (omega arith);
      },
      kept,
    )))

-- ---- from the call on

pub nothing_done : (s : State) → Scratched s s
nothing_done s = record { registers = λ n lo. refl; bytes = refl; output = refl }

-- before an argument is taken, and where scratch registers alone were written
pub comes_in : (c : Setting) (at : ℕ) (ks : List Class) (j : FlatGiven) → Clear c.world.bottom c.sp c.before → Ready c.world at c.sp ks (record j { memory = c.before }) c.start
    → (u : State) → Scratched c.start u → Entering (unframed c) 0 0 (λ p. None) u
comes_in c at ks j clear ready u same =
    let level : c.sp ≡ c.sp - 0 = omega arith in
    record {
      framed = record {
        pointer = same.registers 2 (lit< tt) ∙ (ready.stack_pointer ∙ level);
        places = λ p v good known. absurd (none_is_not v None refl known);
        spots = spots_same c.world.memory_map c.before c.start u same.bytes ready.memory;
        clear = λ x lo hi. clear x lo (omega (arith, hi));
        reach = λ x hi away. away;
        saved = λ k r e. absurd (let no : ⊥ = cc in no);
        thread = λ n kept other out. same.registers n (held_below n kept);
        others = λ x hi away. ap (λ (m : ℕ → ℕ). m x) same.bytes;
        unset = λ i far. refl;
      };
      output = same.output;
      registers = λ i from few. same.registers (10 + i) (omega (arith, few));
      stack = λ x above. ap (λ (m : ℕ → ℕ). m x) same.bytes;
      caller = λ some. absurd (let no : ⊥ = omega (arith, some) in no);
    }

pub begun : (c : Setting) → IsSetting c → list_all is_held c.saved ≡ true → (u : State) → Entering (unframed c) 0 0 (λ p. None) u
    → Leads (site c) (prologue c.layout c.saved) u (Entering c 0 0 (λ p. None))
begun c is held u entering =
    leads_as (frame_begins c is held (λ p. None) c.before u entering.framed)
    (λ w fixed h. record {
      framed = h.0;
      output = h.1.output ∙ entering.output;
      registers = λ k from few. h.1.registers (10 + k) (omega (arith, few)) (λ e. absurd (omega (arith, e))) ∙ entering.registers k from few;
      stack = λ x hi. h.1.bytes x hi ∙ entering.stack x hi;
      caller = λ some. absurd (let no : ⊥ = omega (arith, some) in no);
    })
