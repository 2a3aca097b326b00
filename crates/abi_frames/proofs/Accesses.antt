-- Loads and stores of any size, at an offset from a register; and the bytes that they change.
use Rattle.std.proofs.Common.{◌≡◌, ℕ, zero, suc, ◌+◌, ◌-◌, ◌/◌, ◌%◌, ◌^◌, ◌<◌, ◌≤◌, Bool, true, [], ◌∷◌, refl, sym, ◌∙◌, ap, subst, arith, lit<, nat_le, Ok}
use Rattle.std.specs.Int.{byte_at}
use Rattle.abi_frames.proofs.Shared.{State, Immediate, StoreOp, and_from, nat_tests, stored, moved}
use Rattle.rv_isa.specs.Prelude.{each_of, allowed, can_write, act, store, store_size, Ground, Fixed}
use Rattle.rv_isa.specs.declared.permission.Permission.{Permission}
use Rattle.rv_isa.specs.declared.instruction.Instr.TheVariants.{Store}
use Rattle.rv_isa.specs.declared.instruction.StoreOp.TheVariants.{Sb, Sh, Sw, Sd}
use Rattle.rv_isa.proofs.MemoryLemmas.{updated_here, updated_elsewhere, each_from, stored_avoids}
use Rattle.operation_code.specs.Constants.{reg, store_from}
use Rattle.operation_code.proofs.Leading.{Site, Leads, leads_by, in_register}
use Rattle.abi_frames.proofs.StackAccesses.{UsableFrom}
use Rattle.flat_code.proofs.Storing.{byte_later}

-- ---- a store

pub some_stored : (op : StoreOp) → 0 < store_size op
some_stored Sb = lit< tt
some_stored Sh = lit< tt
some_stored Sw = lit< tt
some_stored Sd = lit< tt

n_writable : (g : Ground) (a n : ℕ) → 0 < n → UsableFrom g a n → allowed (λ x. (g.allows x).writable) a n ≡ true
n_writable g a n some usable =
    let last = (usable (a + (n - 1)) (omega arith) (omega (arith, some))).small in
    let whole : a + n ≤ 2 ^ 64 = omega (arith, last, some) in
    and_from (nat_le (a + n) (2 ^ 64)) (each_of (λ x. (g.allows x).writable) a n) (grind (arith, nat_tests))
    (each_from (λ x. (g.allows x).writable) a n (λ x lo hi. (usable x lo hi).writable))

-- n bytes at `a` are the lowest of v, and no register has changed
pub record Written (s : State) (a n v : ℕ) (u : State) : Type 0 where
  pub bytes : u.bytes ≡ stored s.bytes a n v
  pub registers : (m : ℕ) → u.registers m ≡ s.registers m
  pub output : u.output ≡ s.output

pub leads_store_any_in : (c : Site) (s : State) (op : StoreOp) (v base : ℕ) (offset : Immediate) (a : ℕ) → Fixed c.ground s
    → moved (in_register s base) offset.value ≡ a → UsableFrom c.ground a (store_size op)
    → Leads c (store_from op v base offset ∷ []) s (Written s a (store_size op) (in_register s v))
leads_store_any_in c s op v base offset a fixed there usable =
    let n : ℕ = store_size op in
    let x : ℕ = in_register s v in
    let P : (ℕ → Permission) → Type 0 = λ p. allowed (λ x. (p x).writable) a n ≡ true in
    let writable : can_write s a n ≡ true = subst P (sym fixed.permissions) (n_writable c.ground a n (some_stored op) usable) in
    let t : State = record s { pc = (s.pc + 4) % 2 ^ 64; bytes = stored s.bytes a n x } in
    let acts : act (Store op (reg base) (reg v) offset) s ≡ Ok t = ap (store s op x) there ∙ (rw writable refl) in
    let p : ℕ → Bool = λ x. (c.ground.allows x).writable in
    let each : each_of p a n ≡ true = each_from p a n (λ x lo hi. (usable x lo hi).writable) in
    leads_by c s t (Store op (reg base) (reg v) offset) (Written s a n x) acts refl refl
    (λ y h. stored_avoids p s.bytes a n x y each h)
    (record { bytes = refl; registers = λ m. refl; output = refl })

-- ---- the bytes that are stored

pub stored_byte : (f : ℕ → ℕ) (a n v k : ℕ) → k < n → stored f a n v (a + k) ≡ byte_at k v
unfolding stored
stored_byte f a zero v k h = absurd (omega (arith, h))
stored_byte f a (suc n) v zero h =
    let here : a + zero ≡ a = omega arith in
    let g : ℕ → ℕ = stored f (a + 1) n (v / 256) in
    ap (stored f a (suc n) v) here ∙ updated_here g a (v % 256)
stored_byte f a (suc n) v (suc k) h =
    let next : a + suc k ≡ a + 1 + k = omega arith in
    let g : ℕ → ℕ = stored f (a + 1) n (v / 256) in
    updated_elsewhere g a (v % 256) (a + suc k) (λ e. absurd (omega (arith, e)))
    ∙ (ap g next ∙ (stored_byte f (a + 1) n (v / 256) k (omega (arith, h)) ∙ byte_later k v))
