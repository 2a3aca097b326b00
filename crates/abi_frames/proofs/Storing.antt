-- A store: its code, and that the machine follows the code on bytes over it.
use Rattle.std.proofs.Common.{inl, inr, ◌≡◌, ℕ, zero, suc, ◌+◌, ◌-◌, ◌%◌, ◌^◌, ◌<◌, Bool, true, false, List, [], ◌∷◌, refl, sym, ◌∙◌, ap, subst, arith, lit<, if◌then◌else◌, Option, Some, None}
use Rattle.std.specs.Int.{byte_at}
use Rattle.il_ast.specs.declared.operation.Size.{Size}
use Rattle.il_ast.specs.declared.operation.Size.TheVariants.{Byte, Half, Word, Long}
use Rattle.il_ast.specs.Prelude.{byte_count, stored_class}
use Rattle.abi_frames.proofs.Shared.{State, Immediate, StoreOp, Item, Location, Operand, Number, Name, Line, Block, Code, list_all, option_map, option_and_then, and_parts, stored, moved, is_place, operand_keeps, line_keeps}
use Rattle.rv_isa.specs.Prelude.{store_size, lower_part, Fixed}
use Rattle.rv_isa.specs.declared.relocation.Partial.TheVariants.{Store as StoreBy}
use Rattle.rv_isa.proofs.MemoryLemmas.{stored_below, stored_above}
use Rattle.vcode.specs.declared.place.Address.{Address}
use Rattle.vcode.specs.declared.place.Operand.TheVariants.{At as In}
use Rattle.vcode.specs.declared.line.Line.TheVariants.{Store}
use Rattle.flat_code.specs.Flat.{NoAccess, ThisByte, Spots, FlatGiven, FlatOutcome}
use Rattle.flat_code.specs.Step.{all_there, is_in, with_number, stored as stored_spots, FlatState, number_of, address_of, read, taken, changes, goes_on}
use Rattle.abi_frames.specs.Performs.{HoldsSpots, AllPerform}
use Rattle.operation_code.specs.Constants.{reg}
use Rattle.abi_frames.specs.Emission.{source, store_by, store_op, store_items}
use Rattle.operation_code.proofs.Leading.{Leads, in_register, same_in_register}
use Rattle.abi_frames.proofs.Leads.{leads_on, leads_as}
use Rattle.abi_frames.proofs.StackAccesses.{UsableFrom, is_28, is_29}
use Rattle.operation_code.proofs.Instructions.{leads_named}
use Rattle.abi_frames.proofs.Addressing.{IsBased, is_based}
use Rattle.abi_frames.proofs.Activations.{Setting, IsSetting, site, bottom, operand_in, Framed, operand_known}
use Rattle.abi_frames.proofs.LineCode.{offset_left, leads_base, aimed_scratched, leads_fetch, fetched_scratched, scratched_then, operand_same, source_small, source_not_29}
use Rattle.abi_frames.proofs.Accesses.{Written, leads_store_any_in, stored_byte}
use Rattle.abi_frames.proofs.MemoryChanges.{Changed, changed, there_at, usable_from, inside_is, outside_is}
use Rattle.abi_frames.proofs.Simulation.{CodeStands, At, Performed, Log, Follows, Then, undefined, reach, advance, nothing_taken}
use Rattle.flat_code.proofs.Storing.{known_is}

-- ---- the code

-- n bytes at `a` are the lowest of v; of the registers only scratch may have changed
pub record Stored (s : State) (a n v : ℕ) (u : State) : Type 0 where
  pub bytes : u.bytes ≡ stored s.bytes a n v
  pub registers : (m : ℕ) → m < 28 → u.registers m ≡ s.registers m
  pub output : u.output ≡ s.output

size_is : (size : Size) → store_size (store_op size) ≡ byte_count size
size_is Byte = refl
size_is Half = refl
size_is Word = refl
size_is Long = refl

leads_store_by : (c : Setting) (w : State) (op : StoreOp) (v : ℕ) (a : Operand Location) (o : Immediate) (p : ℕ) → Fixed c.world.memory_map w
    → moved (in_register w (source 29 a)) (offset_left c a o).value ≡ p → UsableFrom c.world.memory_map p (store_size op)
    → Leads (site c) (store_by op v a o ∷ []) w (Written w p (store_size op) (in_register w v))
leads_store_by c w op v (In q) o p f there usable = leads_store_any_in (site c) w op v (source 29 (In q)) o p f there usable
leads_store_by c w op v (Number n) o p f there usable = leads_store_any_in (site c) w op v (source 29 (Number n)) o p f there usable
leads_store_by c w op v (Name g) o p f there usable =
    leads_named (site c) w (record { instruction = StoreBy op (reg 29) (reg v); global = g; offset = o }) (Written w p (store_size op) (in_register w v))
    (leads_store_any_in (site c) w op v 29 (lower_part (moved (c.global g) o.value)) p f there usable)

pub leads_store_line : (c : Setting) → IsSetting c → (s : State) (size : Size) (a : Operand Location) (at : Address Location) (p : ℕ) → s.registers 2 ≡ bottom c
    → operand_keeps (is_place c.slots) a ≡ true → operand_keeps (is_place c.slots) at.base ≡ true → IsBased c s at p
    → UsableFrom c.world.memory_map p (byte_count size)
    → Leads (site c) (store_items c.layout size a at) s (Stored s p (byte_count size) (operand_in c s a))
leads_store_line c is s size a at p pointer known_a known_at based usable =
    let v : ℕ = operand_in c s a in
    let n : ℕ = byte_count size in
    let x : ℕ = source 28 a in
    let b : Operand Location = at.base in
    let o : Immediate = at.offset in
    let made : List Item = store_by (store_op size) x b o ∷ [] in
    leads_on (leads_fetch c is s 28 a is_28 (λ e. absurd (omega (arith, e))) pointer known_a)
    (λ u f one.
    let same = fetched_scratched c s 28 a u (omega arith) one in
    leads_on (leads_base c is u 29 b o p is_29 (λ e. absurd (omega (arith, e))) (same.registers 2 (lit< tt) ∙ pointer) known_at
    (λ y e small. based y (e ∙ operand_same c s u b known_at same) small))
    (λ w g two.
    let all = scratched_then s u w same (aimed_scratched c u 29 b o p w (omega arith) two) in
    let value : in_register w x ≡ v =
    same_in_register u w x (source_small c.slots 28 a (lit< tt) known_a) (two.others x (source_not_29 c.slots a known_a)) ∙ one.value in
    let there = subst (λ q. UsableFrom c.world.memory_map p q) (sym (size_is size)) usable in
    leads_as (leads_store_by c w (store_op size) x b o p g two.there there)
    (λ t h three. record {
      bytes = three.bytes ∙ (ap (λ q. stored w.bytes p q (in_register w x)) (size_is size) ∙ (ap (stored w.bytes p n) value ∙ ap (λ (m : ℕ → ℕ). stored m p n v) all.bytes));
      registers = λ m lo. three.registers m ∙ all.registers m lo;
      output = three.output ∙ all.output;
    })))

-- ---- the bytes after it

low_byte : (v k : ℕ) → k < 4 → byte_at k v ≡ byte_at k (v % 2 ^ 32)
low_byte v zero h = omega arith
low_byte v (suc zero) h = omega arith
low_byte v (suc (suc zero)) h = omega arith
low_byte v (suc (suc (suc zero))) h = omega arith
low_byte v (suc (suc (suc (suc k)))) h = absurd (omega (arith, h))

-- the bytes that are stored are those of the part of the number that the class takes
byte_taken : (size : Size) (v k : ℕ) → k < byte_count size → byte_at k v ≡ byte_at k (taken (stored_class size) v)
byte_taken Long v k h = refl
byte_taken Byte v k h = low_byte v k (omega (arith, h))
byte_taken Half v k h = low_byte v k (omega (arith, h))
byte_taken Word v k h = low_byte v k h

pub stored_changes : (c : Setting) (memory : Spots) (s u : State) (a n v z : ℕ) → HoldsSpots c.world.memory_map memory s → all_there memory a n ≡ true
    → ((k : ℕ) → k < n → byte_at k v ≡ byte_at k z) → Stored s a n v u → Changed memory (with_number memory a n z) s u
stored_changes c memory s u a n v z holds there same h = record {
  registers = h.registers;
  output = h.output;
  spared = λ x away. at_x x ∙ elsewhere x (spared x away (is_in a n x) refl);
  known = λ x m e. known x m (is_in a n x) refl e;
  stays = λ x away. stays x away (is_in a n x) refl;
}
  where
    at_x : (x : ℕ) → u.bytes x ≡ stored s.bytes a n v x
    at_x x = ap (λ (m : ℕ → ℕ). m x) h.bytes

    elsewhere : (x : ℕ) → is_in a n x ≡ false → stored s.bytes a n v x ≡ s.bytes x
    elsewhere x out = elim (outside_is a n x out) [
      | inl below ↦ stored_below s.bytes a n v x below
      | inr above ↦ stored_above s.bytes a n v x above
    ]

    spared : (x : ℕ) → memory x ≡ NoAccess → (b : Bool) → is_in a n x ≡ b → is_in a n x ≡ false
    spared x away false e = e
    spared x away true e = let at = inside_is a n x e in absurd (there_at memory a n x there at.0 at.1 away)

    stays : (x : ℕ) → memory x ≡ NoAccess → (b : Bool) → is_in a n x ≡ b → (if b then ThisByte (byte_at (x - a) z) else memory x) ≡ NoAccess
    stays x away false e = away
    stays x away true e = let at = inside_is a n x e in absurd (there_at memory a n x there at.0 at.1 away)

    known : (x m : ℕ) → (b : Bool) → is_in a n x ≡ b → (if b then ThisByte (byte_at (x - a) z) else memory x) ≡ ThisByte m → u.bytes x ≡ m
    known x m false e is = at_x x ∙ (elsewhere x e ∙ holds.known x m is)
    known x m true e is =
        let at = inside_is a n x e in
        let lo = at.0 in
        let hi = at.1 in
        let place : x ≡ a + (x - a) = omega (arith, lo) in
        let few : x - a < n = omega (arith, lo, hi) in
        at_x x ∙ (ap (stored s.bytes a n v) place ∙ (stored_byte s.bytes a n v (x - a) few ∙ (same (x - a) few ∙ known_is (byte_at (x - a) z) m is)))

-- ---- the line

stores : (c : Setting) (f : Code Location) → CodeStands c f → (j : FlatGiven) (r : FlatOutcome) (n : ℕ) → Follows c f j r n
    → (b : Block Location) (size : Size) (x : Operand Location) (y : Address Location) (lines : List (Line Location)) (fs : FlatState) (k : ℕ) (u : State)
    → (a : At c f b (Store size x y ∷ lines) fs k u) → (log : Log) → AllPerform c.world c.floor log
    → (v p : ℕ) → number_of c.addresses fs.numbers x ≡ Some v → address_of c.addresses fs.numbers y ≡ Some p
    → all_there fs.memory p (byte_count size) ≡ true
    → Then c f j r n log (goes_on (record fs { memory = with_number fs.memory p (byte_count size) (taken (stored_class size) v) })) → Performed c f r
stores c f is j r n go b size x y lines fs k u a log all v p is_x is_y there goes =
    let m : ℕ = byte_count size in
    let now : Spots = with_number fs.memory p m (taken (stored_class size) v) in
    let known = and_parts (operand_keeps (is_place c.slots) x) (operand_keeps (is_place c.slots) y.base)
    (and_parts (line_keeps (is_place c.slots) (Store size x y)) (list_all (line_keeps (is_place c.slots)) lines) a.known).0 in
    let at_x : operand_in c u x ≡ v = operand_known c fs.numbers fs.memory u x v is.setting a.framed known.0 is_x in
    let based = is_based c fs.numbers fs.memory u y p is.setting a.framed known.1 is_y in
    let usable = usable_from c.world.memory_map fs.memory u p m a.framed.spots there in
    let reached = reach c f b (Store size x y) lines fs k u (λ t. Framed c fs.numbers now t × (t.output ≡ u.output)) a
    (leads_as (leads_store_line c is.setting u size x y p a.framed.pointer known.0 known.1 based usable)
    (λ t fixed made. (
      changed c is.setting fs.numbers fs.memory now u t a.framed
          (stored_changes c fs.memory u t p m v (taken (stored_class size) v) a.framed.spots there (byte_taken size v)
          (subst (λ q. Stored u p m q t) at_x made)),
      made.output,
    ))) in
    go b lines (record fs { next = fs.next + 1; memory = now }) (k + reached.steps) reached.after
    (advance c f b (Store size x y) lines fs k u fs.numbers now fs.used a refl (nothing_taken fs.used) a.paid reached) log goes all

pub store_case : (c : Setting) (f : Code Location) → CodeStands c f → (j : FlatGiven) (r : FlatOutcome) (n : ℕ) → Follows c f j r n
    → (b : Block Location) (size : Size) (x : Operand Location) (y : Address Location) (lines : List (Line Location)) (fs : FlatState) (k : ℕ) (u : State)
    → At c f b (Store size x y ∷ lines) fs k u → (log : Log)
    → Then c f j r n log
    (changes fs
    (option_and_then
    (λ v. option_and_then (λ p. stored_spots fs.memory p (byte_count size) v) (address_of c.addresses fs.numbers y))
    (read c.addresses fs.numbers (stored_class size) x)))
    → AllPerform c.world c.floor log → Performed c f r
store_case c f is j r n go b size x y lines fs k u a log goes all =
    by_operands (number_of c.addresses fs.numbers x) refl (address_of c.addresses fs.numbers y) refl goes
  where
    by_test : (v p : ℕ) → number_of c.addresses fs.numbers x ≡ Some v → address_of c.addresses fs.numbers y ≡ Some p
        → (t : Bool) → all_there fs.memory p (byte_count size) ≡ t
        → Then c f j r n log (changes fs (if t then Some (with_number fs.memory p (byte_count size) (taken (stored_class size) v)) else None))
        → Performed c f r
    by_test v p e d false h e_goes = undefined c f fs.spent r e_goes.0
    by_test v p e d true h e_goes = stores c f is j r n go b size x y lines fs k u a log all v p e d h e_goes

    by_operands : (o : Option ℕ) → number_of c.addresses fs.numbers x ≡ o → (q : Option ℕ) → address_of c.addresses fs.numbers y ≡ q
        → Then c f j r n log
        (changes fs
        (option_and_then (λ v. option_and_then (λ p. stored_spots fs.memory p (byte_count size) v) q) (option_map (taken (stored_class size)) o)))
        → Performed c f r
    by_operands None e q d e_goes = undefined c f fs.spent r e_goes.0
    by_operands (Some v) e None d e_goes = undefined c f fs.spent r e_goes.0
    by_operands (Some v) e (Some p) d e_goes = by_test v p e d (all_there fs.memory p (byte_count size)) refl e_goes
