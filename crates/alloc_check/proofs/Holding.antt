-- What a table says of its places after each change.
use Rattle.std.proofs.Common.{◌≡◌, ℕ, zero, suc, ◌+◌, ◌<◌, ◌≤◌, Bool, true, false, nat_eq, nat_lt, nat_le, if◌then◌else◌, List, [], ◌∷◌, length, slice_get, slice_set, Option, Some, None, refl, sym, ◌∙◌, ap, subst, arith}
use Rattle.std.specs.Option.{option_map_or}
use Rattle.std.proofs.Math.Path.{fun_ext}
use Rattle.std.proofs.lemmas.Bool.Decides.{nat_tests}
use Rattle.std.proofs.lemmas.Option.{slice_get_past, slice_get_within}
use Rattle.rv_isa.specs.declared.abi.TheConstants.{LAST_SAVED}
use Rattle.vcode.specs.declared.place.Location.{Location}
use Rattle.vcode.specs.declared.place.Location.TheVariants.{Register, Slot}
use Rattle.vcode.specs.Prelude.{same_location, is_callers}
use Rattle.certificates.specs.declared.certificate.Equality.{Equality}
use Rattle.certificates.specs.declared.certificate.Transfer.{Transfer}
use Rattle.alloc_check.specs.declared.first.First.{First}
use Rattle.alloc_check.specs.declared.table.Held.{Held}
use Rattle.alloc_check.specs.declared.table.OwnerTable.{OwnerTable}
use Rattle.alloc_check.specs.Prelude.{Owners, nobody, other_than, own_put, own_also, own_move, own_kept, known, item, cell_at, first_at, latest, counts, counted, own_by, own_of, forgets, Forgotten, IsFirst, IsTable, Rewrites}
use Rattle.il_ast.proofs.Listed.{get_set_same, get_set_other, get_below}

-- ---- lists

-- ---- what counts

abbrev pub Written : List ℕ → ℕ → Type 0
Written ws time = (k w : ℕ) → slice_get ws k ≡ Some w → w ≤ time

count_by : (ws : List ℕ) (since r w : ℕ) → slice_get ws r ≡ Some w → w ≤ since → counted ws since (Some r) ≡ Some r
count_by ws since r w e low =
    let t : nat_le w since ≡ true = grind (arith, nat_tests) in
    ap (λ o. if option_map_or (λ v. nat_le v since) o false then Some r else None) e ∙ ap (λ b. if b then Some r else None) t

-- what is as late as all that was written counts
pub late_counts : (ws : List ℕ) (since : ℕ) (o : Option ℕ) → Written ws since → ((r : ℕ) → o ≡ Some r → r < length ws) → counted ws since o ≡ o
late_counts ws since None written low = refl
late_counts ws since (Some r) written low =
    let at = get_below ws r (low r refl) in
    count_by ws since r at.0 at.1 (written r at.0 at.1)

if_some : (b : Bool) (r k : ℕ) → (if b then Some r else None) ≡ Some k → (b ≡ true) × (r ≡ k)
if_some true r k h = (refl, ap (λ (o : Option ℕ). option_map_or (λ x. x) o r) h)
if_some false r k h = cc

counts_below : (ws : List ℕ) (since r : ℕ) (o : Option ℕ) → slice_get ws r ≡ o → option_map_or (λ w. nat_le w since) o false ≡ true → r < length ws
counts_below ws since r None e h = cc
counts_below ws since r (Some w) e h = slice_get_within ws r w e

-- whoever counts is there
pub counted_below : (ws : List ℕ) (since : ℕ) (o : Option ℕ) (k : ℕ) → counted ws since o ≡ Some k → k < length ws
counted_below ws since None k h = cc
counted_below ws since (Some r) k h =
    let s = if_some (counts ws since r) r k h in
    subst (λ i. i < length ws) s.1 (counts_below ws since r (slice_get ws r) refl s.0)

-- register r was written since: what held it doesn't count
other_counts : (ws : List ℕ) (r time since k : ℕ) (same b : Bool) → nat_eq k r ≡ same → counts ws since k ≡ b → r < length ws → since ≤ time
    → counted (slice_set ws r (time + 1)) since (Some k) ≡ other_than r (if b then Some k else None)
other_counts ws r time since k true b e c low late =
    let is : k ≡ r = grind (arith, nat_tests) in
    let new : slice_get (slice_set ws r (time + 1)) k ≡ Some (time + 1) = ap (λ i. slice_get (slice_set ws r (time + 1)) i) is ∙ get_set_same ws r (time + 1) low in
    let never : nat_le (time + 1) since ≡ false = grind (arith, nat_tests) in
    let x : counts (slice_set ws r (time + 1)) since k ≡ false = ap (λ o. option_map_or (λ v. nat_le v since) o false) new ∙ never in
    ap (λ d. if d then Some k else None) x ∙ sym (dropped b)
  where
    dropped : (d : Bool) → other_than r (if d then Some k else None) ≡ None
    dropped true = ap (λ i. if i then None else Some k) e
    dropped false = refl
other_counts ws r time since k false b e c low late =
    let x : counts (slice_set ws r (time + 1)) since k ≡ b = ap (λ o. option_map_or (λ v. nat_le v since) o false) (get_set_other ws r k (time + 1) e) ∙ c in
    ap (λ d. if d then Some k else None) x ∙ sym (stays b)
  where
    stays : (d : Bool) → other_than r (if d then Some k else None) ≡ (if d then Some k else None)
    stays true = ap (λ i. if i then None else Some k) e
    stays false = refl

pub others_count : (ws : List ℕ) (r time since : ℕ) (o : Option ℕ) → r < length ws → since ≤ time → counted (slice_set ws r (time + 1)) since o ≡ other_than r (counted ws since o)
others_count ws r time since None low late = refl
others_count ws r time since (Some k) low late = other_counts ws r time since k (nat_eq k r) (counts ws since k) refl refl low late

-- ---- what is known last of a place

pub latest_old : (begun : ℕ) (x : Option Held) (first : Option ℕ) → ((h : Held) → x ≡ Some h → h.since < begun) → latest begun x first ≡ record { owner = first; since = begun }
latest_old begun None first old = refl
latest_old begun (Some h) first old =
    let low = old h refl in
    let never : nat_le begun h.since ≡ false = grind (arith, nat_tests) in
    ap (λ b. if b then h else record { owner = first; since = begun }) never

latest_new : (begun : ℕ) (h : Held) (first : Option ℕ) → begun ≤ h.since → latest begun (Some h) first ≡ h
latest_new begun h first low =
    let t : nat_le begun h.since ≡ true = grind (arith, nat_tests) in
    ap (λ b. if b then h else record { owner = first; since = begun }) t

latest_since : (begun time : ℕ) (x : Option Held) (first : Option ℕ) → begun ≤ time → ((h : Held) → x ≡ Some h → h.since ≤ time) → (latest begun x first).since ≤ time
latest_since begun time None first low old = low
latest_since begun time (Some h) first low old = by (nat_le begun h.since)
  where
    by : (b : Bool) → (if b then h else record { owner = first; since = begun }).since ≤ time
    by true = old h refl
    by false = low

-- ---- a block begins

-- where nothing has become of any place, all is as blocks begin
begun_as : (ws : List ℕ) (n begun : ℕ) (es : List Equality) (f : First) (x : Option Held) (q : Location) → IsFirst n es f → length ws ≡ n → Written ws begun
    → ((h : Held) → x ≡ Some h → h.since < begun) → own_by ws (latest begun x (first_at f q)) ≡ known es nobody q
begun_as ws n begun es f x q first long written old =
    ap (own_by ws) (latest_old begun x (first_at f q) old)
    ∙ ap (λ (own : Owners). counted ws begun (own q)) first.owners
    ∙ late_counts ws begun (known es nobody q) written (λ r e. subst (λ k. r < k) (sym long) (first.low q r e))

pub begins_known : (t : OwnerTable) (n time : ℕ) (es : List Equality) → IsTable n es time t
    → (λ (q : Location). own_by t.written.items (latest (time + 1) (cell_at t q) (first_at t.first q))) ≡ known es nobody
begins_known t n time es is =
    fun_ext (λ q. begun_as t.written.items n (time + 1) es t.first (cell_at t q) q is.first is.written
    (λ k w e. let low = is.writes k w e in omega arith) (λ h e. let low = is.cells q h e in omega arith))

pub new_known : (t : OwnerTable) (n : ℕ) (es : List Equality) → IsFirst n es t.first → length t.written.items ≡ n → Written t.written.items 0 → t.begun ≡ 0 → ((q : Location) → cell_at t q ≡ None)
    → own_of t ≡ known es nobody
new_known t n es first long writes begun none =
    fun_ext (λ q. ap (λ b. own_by t.written.items (latest b (cell_at t q) (first_at t.first q))) begun
    ∙ begun_as t.written.items n 0 es t.first (cell_at t q) q first long writes (λ h e. let f : None ≡ Some h = sym (none q) ∙ e in cc))

-- ---- a register is written

put_one : (t u : OwnerTable) (n time : ℕ) (es : List Equality) (d : Location) (r : ℕ) (q : Location) (b : Bool) → IsTable n es time t → Rewrites d (record { owner = Some r; since = time + 1 }) t u → r < n
    → same_location q d ≡ b
    → own_by (slice_set u.written.items r (time + 1)) (latest u.begun (cell_at u q) (first_at u.first q)) ≡ (if b then Some r else other_than r (own_of t q))
put_one t u n time es d r q true is new low e =
    let held : Held = record { owner = Some r; since = time + 1 } in
    let at : cell_at u q ≡ Some held = new.cells q ∙ ap (λ (k : Bool). if k then Some held else cell_at t q) e in
    let inside : r < length u.written.items = subst (λ (ws : List ℕ). r < length ws) (sym new.written) (subst (λ k. r < k) (sym is.written) low) in
    let early : u.begun ≤ time + 1 = (let b : t.begun ≤ time = is.begun in let e2 : u.begun ≡ t.begun = new.begun in omega arith) in
    ap (λ x. own_by (slice_set u.written.items r (time + 1)) (latest u.begun x (first_at u.first q))) at
    ∙ ap (own_by (slice_set u.written.items r (time + 1))) (latest_new u.begun held (first_at u.first q) early)
    ∙ count_by (slice_set u.written.items r (time + 1)) (time + 1) r (time + 1) (get_set_same u.written.items r (time + 1) inside) (omega arith)
put_one t u n time es d r q false is new low e =
    let held : Held = record { owner = Some r; since = time + 1 } in
    let at : cell_at u q ≡ cell_at t q = new.cells q ∙ ap (λ (k : Bool). if k then Some held else cell_at t q) e in
    let inside : r < length t.written.items = subst (λ k. r < k) (sym is.written) low in
    let l : Held = latest t.begun (cell_at t q) (first_at t.first q) in
    ap (λ ws. own_by (slice_set ws r (time + 1)) (latest u.begun (cell_at u q) (first_at u.first q))) new.written
    ∙ ap (λ k. own_by (slice_set t.written.items r (time + 1)) (latest k (cell_at u q) (first_at u.first q))) new.begun
    ∙ ap (λ x. own_by (slice_set t.written.items r (time + 1)) (latest t.begun x (first_at u.first q))) at
    ∙ ap (λ (f : First). own_by (slice_set t.written.items r (time + 1)) (latest t.begun (cell_at t q) (first_at f q))) new.first
    ∙ others_count t.written.items r time l.since l.owner inside (latest_since t.begun time (cell_at t q) (first_at t.first q) is.begun (λ h f. is.cells q h f))

pub put_owns : (t u : OwnerTable) (n time : ℕ) (es : List Equality) (d : Location) (r : ℕ) → IsTable n es time t → Rewrites d (record { owner = Some r; since = time + 1 }) t u → r < n
    → (λ (q : Location). own_by (slice_set u.written.items r (time + 1)) (latest u.begun (cell_at u q) (first_at u.first q))) ≡ own_put d r (own_of t)
put_owns t u n time es d r is new low = fun_ext (λ q. put_one t u n time es d r q (same_location q d) is new low refl)

-- ---- a place holds another's value

holds_one : (t u : OwnerTable) (n time : ℕ) (es : List Equality) (d : Location) (o : Option ℕ) (q : Location) (b : Bool) → IsTable n es time t → Rewrites d (record { owner = o; since = time }) t u
    → ((r : ℕ) → o ≡ Some r → r < n) → same_location q d ≡ b → own_of u q ≡ (if b then o else own_of t q)
holds_one t u n time es d o q true is new low e =
    let held : Held = record { owner = o; since = time } in
    let at : cell_at u q ≡ Some held = new.cells q ∙ ap (λ (k : Bool). if k then Some held else cell_at t q) e in
    let early : u.begun ≤ time = (let b : t.begun ≤ time = is.begun in let e2 : u.begun ≡ t.begun = new.begun in omega arith) in
    ap (λ x. own_by u.written.items (latest u.begun x (first_at u.first q))) at
    ∙ ap (own_by u.written.items) (latest_new u.begun held (first_at u.first q) early)
    ∙ ap (λ ws. counted ws time o) new.written
    ∙ late_counts t.written.items time o is.writes (λ r f. subst (λ k. r < k) (sym is.written) (low r f))
holds_one t u n time es d o q false is new low e =
    let held : Held = record { owner = o; since = time } in
    let at : cell_at u q ≡ cell_at t q = new.cells q ∙ ap (λ (k : Bool). if k then Some held else cell_at t q) e in
    ap (λ ws. own_by ws (latest u.begun (cell_at u q) (first_at u.first q))) new.written
    ∙ ap (λ k. own_by t.written.items (latest k (cell_at u q) (first_at u.first q))) new.begun
    ∙ ap (λ x. own_by t.written.items (latest t.begun x (first_at u.first q))) at
    ∙ ap (λ (f : First). own_by t.written.items (latest t.begun (cell_at t q) (first_at f q))) new.first

pub also_owns : (t u : OwnerTable) (n time : ℕ) (es : List Equality) (d : Location) (r : ℕ) → IsTable n es time t → Rewrites d (record { owner = Some r; since = time }) t u → r < n
    → own_of u ≡ own_also (record { register = r; place = d }) (own_of t)
also_owns t u n time es d r is new low =
    fun_ext (λ q. holds_one t u n time es d (Some r) q (same_location q d) is new (λ k e. let same : r ≡ k = cc in omega arith) refl)

pub move_owns : (t u : OwnerTable) (n time : ℕ) (es : List Equality) (m : Transfer) → IsTable n es time t → Rewrites m.to (record { owner = own_of t m.from; since = time }) t u
    → own_of u ≡ own_move m (own_of t)
move_owns t u n time es m is new =
    let from : Held = latest t.begun (cell_at t m.from) (first_at t.first m.from) in
    fun_ext (λ q. holds_one t u n time es m.to (own_of t m.from) q (same_location q m.to) is new
    (λ r e. subst (λ k. r < k) is.written (counted_below t.written.items from.since from.owner r e)) refl)

-- ---- what stays a table

pub later_cells : (t u : OwnerTable) (n time since : ℕ) (es : List Equality) (d : Location) (held : Held) → IsTable n es time t → Rewrites d held t u → held.since ≤ since → time ≤ since
    → (q : Location) (h : Held) → cell_at u q ≡ Some h → h.since ≤ since
later_cells t u n time since es d held is new low late q h e = by (same_location q d) refl
  where
    same : (x y : Held) → Some x ≡ Some y → x ≡ y
    same x y f = cc

    by : (b : Bool) → same_location q d ≡ b → h.since ≤ since
    by true f =
        let g : held ≡ h = same held h (ap (λ (k : Bool). if k then Some held else cell_at t q) (sym f) ∙ sym (new.cells q) ∙ e) in
        subst (λ (x : Held). x.since ≤ since) g low
    by false f =
        let old : h.since ≤ time = is.cells q h (ap (λ (k : Bool). if k then Some held else cell_at t q) (sym f) ∙ sym (new.cells q) ∙ e) in
        omega arith

pub later_writes : (ws : List ℕ) (r time : ℕ) → ((k w : ℕ) → slice_get ws k ≡ Some w → w ≤ time) → (k w : ℕ) → slice_get (slice_set ws r (time + 1)) k ≡ Some w → w ≤ time + 1
later_writes [] r time low k w e = cc
later_writes (x ∷ ws) zero time low zero w e = let f : time + 1 ≡ w = cc in omega arith
later_writes (x ∷ ws) zero time low (suc k) w e = let old : w ≤ time = low (suc k) w e in omega arith
later_writes (x ∷ ws) (suc r) time low zero w e = let old : w ≤ time = low zero w e in omega arith
later_writes (x ∷ ws) (suc r) time low (suc k) w e = later_writes ws r time (λ j v f. low (suc j) v f) k w e

-- a cell is written with what is no later
pub stays_table : (t u : OwnerTable) (n time : ℕ) (es : List Equality) (d : Location) (held : Held) → IsTable n es time t → Rewrites d held t u → held.since ≤ time → IsTable n es time u
stays_table t u n time es d held is new low =
    record {
      machine = new.machine ∙ is.machine;
      slots = new.slots ∙ is.slots;
      written = ap length new.written ∙ is.written;
      begun = subst (λ k. k ≤ time) (sym new.begun) is.begun;
      writes = λ r w e. is.writes r w (subst (λ ws. slice_get ws r ≡ Some w) new.written e);
      cells = later_cells t u n time time es d held is new low (omega arith);
      first = subst (λ (f : First). IsFirst n es f) (sym new.first) is.first;
    }

-- ---- calls

item_from : (cells : List (Option Held)) (k : ℕ) (x : Option Held) → slice_get cells k ≡ Some x → item cells k ≡ x
item_from cells k x e = ap (λ (o : Option (Option Held)). option_map_or (λ (h : Option Held). h) o None) e

item_past : {X : Type 0} (cells : List (Option X)) (k : ℕ) → length cells ≤ k → item cells k ≡ None
item_past {X} cells k h = ap (λ (o : Option (Option X)). option_map_or (λ (x : Option X). x) o None) (slice_get_past cells k h)

pub forget_step : (time : ℕ) (cells old : List (Option Held)) (k : ℕ) (x y : Option Held)
    → ((j : ℕ) → item cells j ≡ (if nat_lt j k then forgets time j (item old j) else item old j))
    → k < length cells → item cells k ≡ x → y ≡ forgets time k x
    → (j : ℕ) → item (slice_set cells k y) j ≡ (if nat_lt j (k + 1) then forgets time j (item old j) else item old j)
forget_step time cells old k x y before low at new j = by (nat_eq j k) refl
  where
    by : (b : Bool) → nat_eq j k ≡ b → item (slice_set cells k y) j ≡ (if nat_lt j (k + 1) then forgets time j (item old j) else item old j)
    by true f =
        let is : j ≡ k = grind (arith, nat_tests) in
        let t : nat_lt k (k + 1) ≡ true = grind (arith, nat_tests) in
        let u : nat_lt k k ≡ false = grind (arith, nat_tests) in
        let here : item cells k ≡ item old k = before k ∙ ap (λ b2. if b2 then forgets time k (item old k) else item old k) u in
        subst (λ i. item (slice_set cells k y) i ≡ (if nat_lt i (k + 1) then forgets time i (item old i) else item old i)) (sym is)
        (item_from (slice_set cells k y) k y (get_set_same cells k y low)
        ∙ new ∙ ap (forgets time k) (sym at ∙ here)
        ∙ sym (ap (λ b2. if b2 then forgets time k (item old k) else item old k) t))
    by false f =
        let t : nat_lt j (k + 1) ≡ nat_lt j k = grind (arith, nat_tests) in
        ap (λ (o : Option (Option Held)). option_map_or (λ (h : Option Held). h) o None) (get_set_other cells k j y f) ∙ before j
        ∙ sym (ap (λ b2. if b2 then forgets time j (item old j) else item old j) t)

pub forget_all : (time : ℕ) (cells old : List (Option Held)) (k : ℕ) → length old ≤ k → k ≤ length cells → length cells ≡ length old
    → ((j : ℕ) → item cells j ≡ (if nat_lt j k then forgets time j (item old j) else item old j)) → Forgotten time cells old
forget_all time cells old k high low long before j =
    let same : length old ≡ k = omega arith in
    before j ∙ ap (λ i. if nat_lt j i then forgets time j (item old j) else item old j) (sym same)

call_one : (written : List ℕ) (begun time k : ℕ) (x y : Option Held) (first : Option ℕ) (inside b : Bool) → begun ≤ time
    → (inside ≡ false → y ≡ None) → (inside ≡ false → first ≡ None)
    → x ≡ (if inside then (if b then Some (record { owner = None; since = time }) else y) else y)
    → own_by written (latest begun x first) ≡ (if b then None else own_by written (latest begun y first))
call_one written begun time k x y first true true low none1 none2 e =
    ap (λ z. own_by written (latest begun z first)) e
    ∙ ap (own_by written) (latest_new begun (record { owner = None; since = time }) first low)
call_one written begun time k x y first true false low none1 none2 e = ap (λ z. own_by written (latest begun z first)) e
call_one written begun time k x y first false true low none1 none2 e =
    ap (λ z. own_by written (latest begun z first)) (e ∙ none1 refl) ∙ ap (λ f. own_by written (latest begun None f)) (none2 refl)
call_one written begun time k x y first false false low none1 none2 e = ap (λ z. own_by written (latest begun z first)) e

pub call_keeps : (t u : OwnerTable) (n time : ℕ) (es : List Equality) → IsTable n es time t → u.begun ≡ t.begun → u.written.items ≡ t.written.items → u.slots.items ≡ t.slots.items → u.first ≡ t.first
    → Forgotten time u.machine.items t.machine.items → own_of u ≡ own_kept (own_of t)
call_keeps t u n time es is same_begun same_written same_slots same_first cells = fun_ext at
  where
    same : (x : Option Held) (q : Location) → own_by u.written.items (latest u.begun x (first_at u.first q)) ≡ own_by t.written.items (latest t.begun x (first_at t.first q))
    same x q =
        ap (λ ws. own_by ws (latest u.begun x (first_at u.first q))) same_written
        ∙ ap (λ b. own_by t.written.items (latest b x (first_at u.first q))) same_begun
        ∙ ap (λ (f : First). own_by t.written.items (latest t.begun x (first_at f q))) same_first

    at : (q : Location) → own_of u q ≡ own_kept (own_of t) q
    at (Register k) =
        same (item u.machine.items k) (Register k)
        ∙ call_one t.written.items t.begun time k (item u.machine.items k) (item t.machine.items k) (first_at t.first (Register k)) (nat_lt k (length t.machine.items)) (is_callers (Register k)) is.begun
        (λ f. item_past t.machine.items k (let high : length t.machine.items ≤ k = grind (arith, nat_tests) in high))
        (λ f. item_past t.first.machine.items k
        (let high : length t.machine.items ≤ k = grind (arith, nat_tests) in
        let long : length t.machine.items ≡ LAST_SAVED + 1 = is.machine in
        let long2 : length t.first.machine.items ≤ LAST_SAVED + 1 = is.first.machine in
        omega arith))
        (cells k)
    at (Slot s) = same (item u.slots.items s) (Slot s) ∙ ap (λ xs. own_by t.written.items (latest t.begun (item xs s) (first_at t.first (Slot s)))) same_slots

forgets_low : (time k : ℕ) (x : Option Held) (h : Held) (b : Bool) → ((g : Held) → x ≡ Some g → g.since ≤ time) → (if b then Some (record { owner = None; since = time }) else x) ≡ Some h → h.since ≤ time
forgets_low time k x h true low e =
    let same : record { owner = None; since = time } ≡ h = some_same (record { owner = None; since = time }) h e in
    subst (λ (g : Held). g.since ≤ time) same (omega arith)
  where
    some_same : (x y : Held) → Some x ≡ Some y → x ≡ y
    some_same x y f = cc
forgets_low time k x h false low e = low h e

pub call_cells : (cells old : List (Option Held)) (time k : ℕ) (h : Held) → item cells k ≡ (if nat_lt k (length old) then forgets time k (item old k) else item old k)
    → ((g : Held) → item old k ≡ Some g → g.since ≤ time) → item cells k ≡ Some h → h.since ≤ time
call_cells cells old time k h is low e = by (nat_lt k (length old)) refl
  where
    by : (b : Bool) → nat_lt k (length old) ≡ b → h.since ≤ time
    by true f = forgets_low time k (item old k) h (is_callers (Register k)) low (sym (is ∙ ap (λ b. if b then forgets time k (item old k) else item old k) f) ∙ e)
    by false f = low h (sym (is ∙ ap (λ b. if b then forgets time k (item old k) else item old k) f) ∙ e)
