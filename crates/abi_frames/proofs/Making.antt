-- A block of memory is made: its address comes to its place, and its bytes, in the frame's area, may be accessed.
use Rattle.std.proofs.Common.{◌≡◌, ◌≢◌, ℕ, ◌+◌, ◌-◌, ◌%◌, ◌^◌, ◌<◌, ◌≤◌, Bool, true, false, List, [], ◌∷◌, refl, ◌∙◌, arith, nat_lt, if◌then◌else◌, Option, Some, None}
use Rattle.il_ast.specs.Prelude.{round_16}
use Rattle.abi_frames.proofs.Shared.{State, Plain, Location, Line, Block, Code, list_all, and_parts, same_Some, nat_tests, sum_by-cons, is_place, line_keeps}
use Rattle.rv_isa.specs.Prelude.{upper_value}
use Rattle.rv_isa.specs.declared.instruction.Instr.TheVariants.{Lui}
use Rattle.vcode.specs.declared.line.Line.TheVariants.{Alloc}
use Rattle.vcode.specs.Prelude.{alloc_bytes}
use Rattle.flat_code.specs.Flat.{NoAccess, AnyByte, ThisByte, Spots, FlatGiven, FlatOutcome}
use Rattle.flat_code.specs.Step.{FlatState, Numbers, put, made_in, is_in, opened, goes_on}
use Rattle.abi_frames.specs.Performs.{IsUsable, AllPerform}
use Rattle.operation_code.specs.Constants.{reg, high, add_low, sum_to}
use Rattle.abi_frames.specs.Emission.{address_at, alloc_items}
use Rattle.operation_code.proofs.Leading.{Site, Leads, leads_nowhere, leads_again, Sets, IsReg, register_reg}
use Rattle.abi_frames.proofs.Leads.{leads_as}
use Rattle.operation_code.proofs.Instructions.{leads_add_low}
use Rattle.abi_frames.proofs.StackAccesses.{near_address, far_address, high_part, is_2}
use Rattle.abi_frames.proofs.Activations.{Setting, IsSetting, site, bottom, Framed, Assigned, assigned, assigned_output}
use Rattle.abi_frames.proofs.LineCode.{leads_made, set_register}
use Rattle.abi_frames.proofs.MemoryChanges.{inside_is}
use Rattle.abi_frames.proofs.Simulation.{CodeStands, At, Performed, Log, Follows, Then, reach, advance, may_write}

-- ---- the code

leads_address_at : (c : Site) (s : State) (d b o : ℕ) → IsReg d → d ≢ 2 → s.registers 2 ≡ b → o < 2 ^ 21 → b + o < 2 ^ 63
    → Leads c (address_at d o) s (Sets s d (b + o))
leads_address_at c s d b o is other pointer h small = by_test (nat_lt o 2048) refl
  where
    by_test : (t : Bool) → nat_lt o 2048 ≡ t
        → Leads c (if t then add_low d 2 o ∷ [] else Plain (Lui (reg d) (high o)) ∷ sum_to d d 2 ∷ add_low d d o ∷ []) s (Sets s d (b + o))
    by_test true e =
        leads_add_low c s d 2 o (s.registers 2) (b + o) is (register_reg s 2 is_2) (near_address (s.registers 2) b o pointer (grind (arith, nat_tests)) small)
    by_test false e =
        leads_again c (Plain (Lui (reg d) (high o)) ∷ sum_to d d 2 ∷ []) (add_low d d o ∷ []) s d ((upper_value (high o) + b) % 2 ^ 64) (b + o)
        (high_part c s d b o is other pointer)
        (λ u f one. leads_add_low c u d d o (u.registers d) (b + o) is (register_reg u d is) (far_address (u.registers d) b o one.value h small))

leads_alloc_line : (c : Setting) → IsSetting c → (s : State) (used : ℕ) (to : Location) → s.registers 2 ≡ bottom c → is_place c.slots to ≡ true → used ≤ c.area
    → Leads (site c) (alloc_items c.layout used (Some to)) s (Assigned c s to (bottom c + (c.layout.area + used)))
leads_alloc_line c is s used to pointer good inside =
    let o : ℕ = c.layout.area + used in
    let v : ℕ = bottom c + o in
    let blocks = is.blocks in
    let above = is.above in
    let below = is.below in
    let small = is.small in
    let top = is.world.small in
    leads_made c is s (λ d. address_at d o) v to pointer good
    (λ d reg other.
    leads_as (leads_address_at (site c) s d (bottom c) o reg other pointer (omega (arith, blocks, inside, small)) (omega (arith, blocks, inside, above, below, top)))
    (λ u f h. set_register s d v u h))

-- ---- the frame after it

not_known : (k : ℕ) → AnyByte ≡ ThisByte k → ⊥
not_known k e = let no : ⊥ = cc in no

-- a block within the area
opened_framed : (c : Setting) → IsSetting c → (numbers : Numbers) (memory : Spots) (u : State) (used size : ℕ) → used + size ≤ c.area
    → Framed c numbers memory u → Framed c numbers (opened memory (c.sp - c.area + used) size) u
opened_framed c is numbers memory u used size room framed =
    record {
      pointer = framed.pointer;
      places = framed.places;
      spots = record { known = λ x n e. known x n (is_in a size x) refl e; usable = λ x there. usable x (is_in a size x) refl there };
      clear = λ x lo hi. below x hi (is_in a size x) refl ∙ framed.clear x lo hi;
      reach = λ x hi away. above x hi (is_in a size x) refl ∙ framed.reach x hi away;
      saved = framed.saved;
      thread = framed.thread;
      others = framed.others;
      unset = framed.unset;
    }
  where
    a : ℕ
    a = c.sp - c.area + used

    known : (x n : ℕ) (b : Bool) → is_in a size x ≡ b → (if b then AnyByte else memory x) ≡ ThisByte n → u.bytes x ≡ n
    known x n true e h = absurd (not_known n h)
    known x n false e h = framed.spots.known x n h

    usable : (x : ℕ) (b : Bool) → is_in a size x ≡ b → (if b then AnyByte else memory x) ≢ NoAccess → IsUsable c.world.memory_map x
    usable x false e h = framed.spots.usable x h
    usable x true e h =
        let at = inside_is a size x e in
        let lo = at.0 in
        let hi = at.1 in
        let blocks = is.blocks in
        let bounds = is.above in
        let top = is.below in
        is.world.usable x (omega (arith, lo, bounds, blocks)) (omega (arith, hi, room, top, bounds, blocks))

    below : (x : ℕ) → x < c.sp - c.area → (b : Bool) → is_in a size x ≡ b → (if b then AnyByte else memory x) ≡ memory x
    below x hi false e = refl
    below x hi true e = let at = (inside_is a size x e).0 in absurd (omega (arith, at, hi))

    above : (x : ℕ) → c.sp ≤ x → (b : Bool) → is_in a size x ≡ b → (if b then AnyByte else memory x) ≡ memory x
    above x hi false e = refl
    above x hi true e =
        let at = (inside_is a size x e).1 in
        let blocks = is.blocks in
        let bounds = is.above in
        absurd (omega (arith, at, hi, room, bounds, blocks))

-- ---- the line

named_case : (c : Setting) (f : Code Location) → CodeStands c f → (j : FlatGiven) (r : FlatOutcome) (n : ℕ) → Follows c f j r n
    → (b : Block Location) (to : Location) (size : ℕ) (lines : List (Line Location)) (fs : FlatState) (k : ℕ) (u : State)
    → At c f b (Alloc (Some to) size ∷ lines) fs k u → (log : Log)
    → Then c f j r n log
    (goes_on
    (record fs {
      numbers = made_in (Some to) (c.sp - c.area + fs.used) fs.numbers;
      memory = opened fs.memory (c.sp - c.area + fs.used) size;
      used = fs.used + round_16 size;
    }))
    → AllPerform c.world c.floor log → Performed c f r
named_case c f is j r n go b to size lines fs k u a log goes all =
    let p : ℕ = c.sp - c.area + fs.used in
    let v : ℕ = bottom c + (c.layout.area + a.used) in
    let numbers : Numbers = put to (Some p) fs.numbers in
    let now : Spots = opened fs.memory p size in
    let good : is_place c.slots to ≡ true = (and_parts (line_keeps (is_place c.slots) (Alloc (Some to) size)) (list_all (line_keeps (is_place c.slots)) lines) a.known).0 in
    let may = may_write c f is b (Alloc (Some to) size) lines fs k u a to good (λ q. refl) in
    let same : fs.used ≡ a.used = a.used_is refl in
    let room = a.room in
    let bytes = sum_by-cons alloc_bytes (Alloc (Some to) size) lines in
    let blocks = is.setting.blocks in
    let above = is.setting.above in
    let value : v ≡ p = omega (arith, same, blocks, above) in
    let m = reach c f b (Alloc (Some to) size) lines fs k u (λ t. Framed c numbers now t × (t.output ≡ u.output)) a
    (leads_as (leads_alloc_line c is.setting u a.used to a.framed.pointer good (omega (arith, room, bytes)))
    (λ t fixed made. (
      opened_framed c is.setting numbers fs.memory t fs.used size (omega (arith, room, bytes, same))
          (assigned c is.setting fs.numbers fs.memory u t to v (Some p) good may a.framed made (λ q e. value ∙ same_Some p q e)),
      assigned_output c u to v t made,
    ))) in
    go b lines (record fs { next = fs.next + 1; numbers = numbers; memory = now; used = fs.used + round_16 size }) (k + m.steps) m.after
    (advance c f b (Alloc (Some to) size) lines fs k u numbers now (fs.used + round_16 size) a refl refl a.paid m) log goes all

-- with no instruction
unnamed_case : (c : Setting) (f : Code Location) → CodeStands c f → (j : FlatGiven) (r : FlatOutcome) (n : ℕ) → Follows c f j r n
    → (b : Block Location) (size : ℕ) (lines : List (Line Location)) (fs : FlatState) (k : ℕ) (u : State)
    → At c f b (Alloc None size ∷ lines) fs k u → (log : Log)
    → Then c f j r n log (goes_on (record fs { memory = opened fs.memory (c.sp - c.area + fs.used) size; used = fs.used + round_16 size }))
    → AllPerform c.world c.floor log → Performed c f r
unnamed_case c f is j r n go b size lines fs k u a log goes all =
    let now : Spots = opened fs.memory (c.sp - c.area + fs.used) size in
    let same : fs.used ≡ a.used = a.used_is refl in
    let room = a.room in
    let bytes = sum_by-cons alloc_bytes (Alloc None size) lines in
    let m = reach c f b (Alloc None size) lines fs k u (λ t. Framed c fs.numbers now t × (t.output ≡ u.output)) a
    (leads_nowhere (site c) u (λ t. Framed c fs.numbers now t × (t.output ≡ u.output))
    (opened_framed c is.setting fs.numbers fs.memory u fs.used size (omega (arith, room, bytes, same)) a.framed, refl)) in
    go b lines (record fs { next = fs.next + 1; memory = now; used = fs.used + round_16 size }) (k + m.steps) m.after
    (advance c f b (Alloc None size) lines fs k u fs.numbers now (fs.used + round_16 size) a refl refl a.paid m) log goes all

pub alloc_case : (c : Setting) (f : Code Location) → CodeStands c f → (j : FlatGiven) (r : FlatOutcome) (n : ℕ) → Follows c f j r n
    → (b : Block Location) (to : Option Location) (size : ℕ) (lines : List (Line Location)) (fs : FlatState) (k : ℕ) (u : State)
    → At c f b (Alloc to size ∷ lines) fs k u → (log : Log)
    → Then c f j r n log
    (goes_on
    (record fs {
      numbers = made_in to (c.sp - c.area + fs.used) fs.numbers;
      memory = opened fs.memory (c.sp - c.area + fs.used) size;
      used = fs.used + round_16 size;
    }))
    → AllPerform c.world c.floor log → Performed c f r
alloc_case c f is j r n go b None size lines fs k u a log goes all = unnamed_case c f is j r n go b size lines fs k u a log goes all
alloc_case c f is j r n go b (Some to) size lines fs k u a log goes all = named_case c f is j r n go b to size lines fs k u a log goes all
