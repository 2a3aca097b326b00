-- All holds at the end of a block that holds at the start of every one, where it does so of what the block may have changed.
use Rattle.std.proofs.Common.{◌≡◌, ℕ, zero, suc, ◌+◌, ◌<◌, Bool, true, false, ◌&&◌, nat_eq, nat_lt, nat_le, if◌then◌else◌, List, [], ◌∷◌, Option, Some, None, refl, sym, ◌∙◌, ap, subst, arith, inl, inr, ◌⊎◌}
use Rattle.std.specs.List.{list_all}
use Rattle.std.specs.Option.{option_map_or, option_and_then}
use Rattle.std.proofs.lemmas.Bool.Decides.{nat_tests}
use Rattle.std.proofs.lemmas.Bool.{and_parts}
use Rattle.rv_isa.specs.declared.abi.TheConstants.{LAST_SAVED}
use Rattle.vcode.specs.declared.place.Location.{Location}
use Rattle.vcode.specs.declared.place.Location.TheVariants.{Register, Slot}
use Rattle.vcode.specs.declared.line.Line.{Line}
use Rattle.vcode.specs.declared.line.Line.TheVariants.{Tick, Set, Operate, Load, Store, Alloc, Blit, Call}
use Rattle.vcode.specs.Prelude.{is_place, same_location, is_callers}
use Rattle.cfg_live.specs.Registers.{line_writes}
use Rattle.certificates.specs.declared.certificate.Equality.{Equality}
use Rattle.certificates.specs.declared.certificate.Transfer.{Transfer}
use Rattle.certificates.specs.declared.certificate.Certificate.{Certificate}
use Rattle.alloc_check.specs.Prelude.{Layout, Owners, nobody, nowhere, other_than, own_put, own_move, own_also, own_kept, known, stand_also, standing, owns, operand_held, args_held, all_hold, is_at, are_apart, where_held, moves_at, begins_at, layout_at, next_point, jump_point, exists_in, in_table, put_in, moves_before, moved_in, known_in, after_reads, line_in, point_in, lines_in, place_stays, register_stays, moves_stay, starts_stay, write_stays, line_stays, lines_stay, machine_stays, block_stays}
use Rattle.alloc_check.proofs.Agreeing.{same_is}
use Rattle.il_ast.proofs.Truth.{same_tests}

-- ---- tests

same_owners : (x o : Owners) → Some x ≡ Some o → x ≡ o
same_owners x o h = ap (λ (q : Option Owners). option_map_or (λ (w : Owners). w) q x) h

where_is : (b : Bool) (x o : Owners) → where_held b x ≡ Some o → x ≡ o
where_is true x o h = same_owners x o h
where_is false x o h = absurd (none_some o h)
  where
    none_some : (w : Owners) → None ≡ Some w → ⊥
    none_some w e = let f : false ≡ true = ap (λ (q : Option Owners). option_map_or (λ (v : Owners). true) q false) e in cc

where_then : (b : Bool) (x o : Owners) (g : Owners → Option Owners) → option_and_then g (where_held b x) ≡ Some o → g x ≡ Some o
where_then true x o g h = h
where_then false x o g h = absurd (none_some o h)
  where
    none_some : (w : Owners) → None ≡ Some w → ⊥
    none_some w e = let f : false ≡ true = ap (λ (q : Option Owners). option_map_or (λ (v : Owners). true) q false) e in cc

reads_is : (b : Bool) (x : Option Owners) (o : Owners) → after_reads b x ≡ Some o → x ≡ Some o
reads_is true x o h = h
reads_is false x o h = absurd (none_some o h)
  where
    none_some : (w : Owners) → None ≡ Some w → ⊥
    none_some w e = let f : false ≡ true = ap (λ (q : Option Owners). option_map_or (λ (v : Owners). true) q false) e in cc

-- what is found on the way
then_some : (g : Owners → Option Owners) (x : Option Owners) (o : Owners) → option_and_then g x ≡ Some o → (w : Owners) × (x ≡ Some w) × (g w ≡ Some o)
then_some g None o h = absurd (none_some o h)
  where
    none_some : (w : Owners) → None ≡ Some w → ⊥
    none_some w e = let f : false ≡ true = ap (λ (q : Option Owners). option_map_or (λ (v : Owners). true) q false) e in cc
then_some g (Some w) o h = (w, refl, h)

pub owned : (own : Owners) (q : Location) (r : ℕ) → own q ≡ Some r → owns own q r ≡ true
owned own q r e = ap (λ o. option_map_or (λ k. nat_eq k r) o false) e ∙ (let t : nat_eq r r ≡ true = grind (arith, nat_tests) in t)

pub owner_is : (own : Owners) (q : Location) (r : ℕ) → owns own q r ≡ true → own q ≡ Some r
owner_is own q r h = by (own q) refl h
  where
    by : (o : Option ℕ) → own q ≡ o → option_map_or (λ k. nat_eq k r) o false ≡ true → own q ≡ Some r
    by None e t = cc
    by (Some k) e t = e ∙ ap (λ j. Some j) (let same : k ≡ r = grind (arith, nat_tests) in same)

stood : (d : Location) (p : Option Location) → is_at d p ≡ true → p ≡ Some d
stood d None h = cc
stood d (Some q) h = ap (λ x. Some x) (same_is q d h)

every_from : {X : Type 0} (test other : X → Bool) (xs : List X) → list_all test xs ≡ true → ((x : X) → test x ≡ true → other x ≡ true) → list_all other xs ≡ true
every_from test other [] h on = refl
every_from test other (x ∷ xs) h on =
    let s = and_parts (test x) (list_all test xs) h in
    ap (λ b. b && list_all other xs) (on x s.0) ∙ every_from test other xs s.1 on

every_so : {X : Type 0} (test : X → Bool) (xs : List X) → ((x : X) → test x ≡ true) → list_all test xs ≡ true
every_so test [] on = refl
every_so test (x ∷ xs) on = ap (λ b. b && list_all test xs) (on x) ∙ every_so test xs on

every_two : {X : Type 0} (test other : X → Bool) (xs : List X) → list_all test xs ≡ true → list_all other xs ≡ true → list_all (λ x. test x && other x) xs ≡ true
every_two test other [] h g = refl
every_two test other (x ∷ xs) h g =
    let s = and_parts (test x) (list_all test xs) h in
    let t = and_parts (other x) (list_all other xs) g in
    ap (λ b. (b && other x) && list_all (λ y. test y && other y) xs) s.0
    ∙ ap (λ b. b && list_all (λ y. test y && other y) xs) t.0
    ∙ every_two test other xs s.1 t.1

-- ---- one equality on its way through a block

-- register r is at q where blocks begin, as far as is known then; `last` says who owns what at the block's end
record Watched (es : List Equality) (last : Owners) (q : Location) (r : ℕ) : Type 0 where
  there : known es nobody q ≡ Some r
  stands : standing es nowhere r ≡ Some q
  over_calls : is_callers q ≡ true → owns last q r ≡ true

-- it is there, or something became of it and it holds at the end
abbrev Safe : Owners → Location → ℕ → Owners → Type 0
Safe last q r own = (own q ≡ Some r) ⊎ (owns last q r ≡ true)

looked_at : (es : List Equality) (last : Owners) (q d : Location) (r : ℕ) → Watched es last q r → same_location q d ≡ true → place_stays es last d ≡ true → owns last q r ≡ true
looked_at es last q d r w same stays =
    ap (λ o. option_map_or (λ k. owns last q k) o true) (sym w.there) ∙ subst (λ (p : Location). place_stays es last p ≡ true) (sym (same_is q d same)) stays

looked_for : (es : List Equality) (last : Owners) (q : Location) (r : ℕ) → Watched es last q r → register_stays es last r ≡ true → owns last q r ≡ true
looked_for es last q r w stays = ap (λ o. option_map_or (λ p. owns last p r) o true) (sym w.stands) ∙ stays

move_safe : (es : List Equality) (last : Owners) (q : Location) (r : ℕ) (m : Transfer) (own : Owners) → Watched es last q r → place_stays es last m.to ≡ true → Safe last q r own → Safe last q r (own_move m own)
move_safe es last q r m own w stays (inr h) = inr h
move_safe es last q r m own w stays (inl h) = by (same_location q m.to) refl
  where
    by : (b : Bool) → same_location q m.to ≡ b → Safe last q r (own_move m own)
    by true e = inr (looked_at es last q m.to r w e stays)
    by false e = inl (ap (λ b. if b then own m.from else own q) e ∙ h)

moves_safe : (es : List Equality) (last : Owners) (q : Location) (r n : ℕ) (ms : List Transfer) (own o : Owners) → Watched es last q r → moved_in n ms own ≡ Some o → moves_stay es last ms ≡ true
    → Safe last q r own → Safe last q r o
moves_safe es last q r n [] own o w is stays safe = subst (λ (x : Owners). Safe last q r x) (same_owners own o is) safe
moves_safe es last q r n (m ∷ ms) own o w is stays safe =
    let s = and_parts (place_stays es last m.to) (moves_stay es last ms) stays in
    moves_safe es last q r n ms (own_move m own) o w (where_then (in_table n m.to) (own_move m own) o (moved_in n ms) is) s.1 (move_safe es last q r m own w s.0 safe)

also_safe : (es : List Equality) (last : Owners) (q : Location) (r : ℕ) (e : Equality) (own : Owners) → Watched es last q r → place_stays es last e.place ≡ true → Safe last q r own → Safe last q r (own_also e own)
also_safe es last q r e own w stays (inr h) = inr h
also_safe es last q r e own w stays (inl h) = by (same_location q e.place) refl
  where
    by : (b : Bool) → same_location q e.place ≡ b → Safe last q r (own_also e own)
    by true f = inr (looked_at es last q e.place r w f stays)
    by false f = inl (ap (λ b. if b then Some e.register else own q) f ∙ h)

starts_safe : (es : List Equality) (last : Owners) (q : Location) (r n : ℕ) (bs : List Equality) (own o : Owners) → Watched es last q r → known_in n bs own ≡ Some o → starts_stay es last bs ≡ true
    → Safe last q r own → Safe last q r o
starts_safe es last q r n [] own o w is stays safe = subst (λ (x : Owners). Safe last q r x) (same_owners own o is) safe
starts_safe es last q r n (e ∷ bs) own o w is stays safe =
    let s = and_parts (place_stays es last e.place) (starts_stay es last bs) stays in
    starts_safe es last q r n bs (own_also e own) o w (where_then (in_table n e.place && nat_lt e.register n) (own_also e own) o (known_in n bs) is) s.1 (also_safe es last q r e own w s.0 safe)

put_safe : (es : List Equality) (last : Owners) (q : Location) (r : ℕ) (d : Location) (k : ℕ) (own : Owners) → Watched es last q r → (place_stays es last d && register_stays es last k) ≡ true
    → Safe last q r own → Safe last q r (own_put d k own)
put_safe es last q r d k own w stays (inr h) = inr h
put_safe es last q r d k own w stays (inl h) = by (same_location q d) refl (nat_eq r k) refl
  where
    s : (place_stays es last d ≡ true) × (register_stays es last k ≡ true)
    s = and_parts (place_stays es last d) (register_stays es last k) stays

    by : (b : Bool) → same_location q d ≡ b → (c : Bool) → nat_eq r k ≡ c → Safe last q r (own_put d k own)
    by true e c f = inr (looked_at es last q d r w e s.0)
    by false e true f =
        let same : k ≡ r = grind (arith, nat_tests) in
        inr (looked_for es last q r w (subst (λ i. register_stays es last i ≡ true) same s.1))
    by false e false f =
        inl (ap (λ b. if b then Some k else other_than k (own q)) e ∙ ap (other_than k) h ∙ ap (λ b. if b then None else Some r) f)

put_in_safe : (es : List Equality) (last : Owners) (q : Location) (r n : ℕ) (d : Location) (k : ℕ) (own o : Owners) → Watched es last q r → put_in n d k own ≡ Some o
    → (place_stays es last d && register_stays es last k) ≡ true → Safe last q r own → Safe last q r o
put_in_safe es last q r n d k own o w is stays safe =
    subst (λ (x : Owners). Safe last q r x) (where_is (in_table n d && nat_lt k n) (own_put d k own) o is) (put_safe es last q r d k own w stays safe)

call_safe : (es : List Equality) (last : Owners) (q : Location) (r : ℕ) (own : Owners) → Watched es last q r → Safe last q r own → Safe last q r (own_kept own)
call_safe es last q r own w (inr h) = inr h
call_safe es last q r own w (inl h) = by (is_callers q) refl
  where
    by : (b : Bool) → is_callers q ≡ b → Safe last q r (own_kept own)
    by true e = inr (w.over_calls e)
    by false e = inl (ap (λ b. if b then None else own q) e ∙ h)

same_safe : (last : Owners) (q : Location) (r : ℕ) (own o : Owners) → own ≡ o → Safe last q r own → Safe last q r o
same_safe last q r own o e safe = subst (λ (x : Owners). Safe last q r x) e safe

line_safe : (es : List Equality) (last : Owners) (q : Location) (r n : ℕ) (f : Layout) (l : Line ℕ) (own o : Owners) → Watched es last q r → line_in n own f l ≡ Some o
    → write_stays es last f (line_writes l) ≡ true → Safe last q r own → Safe last q r o
line_safe es last q r n f (Tick turn v) own o w is stays safe = same_safe last q r own o (same_owners own o is) safe
line_safe es last q r n f (Set to a) own o w is stays safe =
    put_in_safe es last q r n (f to) to own o w (reads_is (operand_held own f a) (put_in n (f to) to own) o is) stays safe
line_safe es last q r n f (Operate to op a b) own o w is stays safe =
    put_in_safe es last q r n (f to) to own o w (reads_is (operand_held own f a && operand_held own f b) (put_in n (f to) to own) o is) stays safe
line_safe es last q r n f (Load to op at) own o w is stays safe =
    put_in_safe es last q r n (f to) to own o w (reads_is (operand_held own f at.base) (put_in n (f to) to own) o is) stays safe
line_safe es last q r n f (Store size a at) own o w is stays safe = same_safe last q r own o (where_is (operand_held own f a && operand_held own f at.base) own o is) safe
line_safe es last q r n f (Alloc None size) own o w is stays safe = same_safe last q r own o (same_owners own o is) safe
line_safe es last q r n f (Alloc (Some k) size) own o w is stays safe = put_in_safe es last q r n (f k) k own o w is stays safe
line_safe es last q r n f (Blit from to count) own o w is stays safe = same_safe last q r own o (where_is (operand_held own f from && operand_held own f to) own o is) safe
line_safe es last q r n f (Call None callee args) own o w is stays safe =
    let found = reads_is (operand_held own f callee && args_held own f args) (Some (own_kept own)) o is in
    same_safe last q r (own_kept own) o (same_owners (own_kept own) o found) (call_safe es last q r own w safe)
line_safe es last q r n f (Call (Some d) callee args) own o w is stays safe =
    let found = reads_is (operand_held own f callee && args_held own f args) (put_in n (f d.place) d.place (own_kept own)) o is in
    put_in_safe es last q r n (f d.place) d.place (own_kept own) o w found stays (call_safe es last q r own w safe)

-- a line that is a point, after the moves before it
point_safe : (es : List Equality) (c : Certificate) (p : ℕ) (last : Owners) (q : Location) (r n : ℕ) (l : Line ℕ) (own o : Owners) → Watched es last q r
    → option_and_then (λ x. line_in n x (layout_at c p) l) (moved_in n (moves_at c p) own) ≡ Some o
    → (moves_stay es last (moves_at c p) && write_stays es last (layout_at c p) (line_writes l)) ≡ true
    → Safe last q r own → Safe last q r o
point_safe es c p last q r n l own o w is stays safe =
    let s = and_parts (moves_stay es last (moves_at c p)) (write_stays es last (layout_at c p) (line_writes l)) stays in
    let t = then_some (λ x. line_in n x (layout_at c p) l) (moved_in n (moves_at c p) own) o is in
    line_safe es last q r n (layout_at c p) l t.0 o w t.2 s.1 (moves_safe es last q r n (moves_at c p) own t.0 w t.1 s.0 safe)

line_or_tick : (es : List Equality) (c : Certificate) (p : ℕ) (last : Owners) (q : Location) (r n : ℕ) (l : Line ℕ) (own o : Owners) → Watched es last q r
    → point_in n c p own l ≡ Some o → line_stays es c p last l ≡ true → Safe last q r own → Safe last q r o
line_or_tick es c p last q r n (Tick turn v) own o w is stays safe = same_safe last q r own o (same_owners own o is) safe
line_or_tick es c p last q r n (Set to a) own o w is stays safe = point_safe es c p last q r n (Set to a) own o w is stays safe
line_or_tick es c p last q r n (Operate to op a b) own o w is stays safe = point_safe es c p last q r n (Operate to op a b) own o w is stays safe
line_or_tick es c p last q r n (Load to op at) own o w is stays safe = point_safe es c p last q r n (Load to op at) own o w is stays safe
line_or_tick es c p last q r n (Store size a at) own o w is stays safe = point_safe es c p last q r n (Store size a at) own o w is stays safe
line_or_tick es c p last q r n (Alloc to size) own o w is stays safe = point_safe es c p last q r n (Alloc to size) own o w is stays safe
line_or_tick es c p last q r n (Blit from to count) own o w is stays safe = point_safe es c p last q r n (Blit from to count) own o w is stays safe
line_or_tick es c p last q r n (Call to callee args) own o w is stays safe = point_safe es c p last q r n (Call to callee args) own o w is stays safe

lines_safe : (es : List Equality) (c : Certificate) (p : ℕ) (last : Owners) (q : Location) (r n : ℕ) (lines : List (Line ℕ)) (own o end : Owners) → Watched es last q r
    → lines_in n c p own lines ≡ Some o → moved_in n (moves_at c (jump_point p lines)) o ≡ Some end → lines_stay es c p last lines ≡ true
    → Safe last q r own → Safe last q r end
lines_safe es c p last q r n [] own o end w is goes stays safe =
    moves_safe es last q r n (moves_at c p) o end w goes stays (same_safe last q r own o (same_owners own o is) safe)
lines_safe es c p last q r n (l ∷ lines) own o end w is goes stays safe =
    let s = and_parts (line_stays es c p last l) (lines_stay es c (next_point p l) last lines) stays in
    let t = then_some (λ x. lines_in n c (next_point p l) x lines) (point_in n c p own l) o is in
    lines_safe es c (next_point p l) last q r n lines t.0 o end w t.2 goes s.1 (line_or_tick es c p last q r n l own t.0 w t.1 s.0 safe)

-- ---- what is looked at holds: all of it does

machine_at : (es : List Equality) (last : Owners) (k m : ℕ) → k < m → machine_stays es last m ≡ true → place_stays es last (Register k) ≡ true
machine_at es last k zero low h = absurd (omega arith)
machine_at es last k (suc m) low h =
    let s = and_parts (machine_stays es last m) (place_stays es last (Register m)) h in
    by (nat_eq k m) refl s.1 (λ below. machine_at es last k m below s.0)
  where
    by : (b : Bool) → nat_eq k m ≡ b → place_stays es last (Register m) ≡ true → (k < m → place_stays es last (Register k) ≡ true) → place_stays es last (Register k) ≡ true
    by true e here before = let same : m ≡ k = grind (arith, nat_tests) in subst (λ i. place_stays es last (Register i) ≡ true) same here
    by false e here before = before (grind (arith, nat_tests))

kept_over : (es : List Equality) (last : Owners) (n : ℕ) (q : Location) (r : ℕ) → known es nobody q ≡ Some r → is_place n q ≡ true → machine_stays es last (LAST_SAVED + 1) ≡ true → is_callers q ≡ true → owns last q r ≡ true
kept_over es last n (Register k) r there h machine callers =
    let e : nat_le k 27 ≡ true = (and_parts (nat_le 5 k) (nat_le k 27) h).1 in
    let low : k < LAST_SAVED + 1 = grind (arith, nat_tests) in
    ap (λ o. option_map_or (λ i. owns last (Register k) i) o true) (sym there) ∙ machine_at es last k (LAST_SAVED + 1) low machine
kept_over es last n (Slot s) r there h machine callers = cc

-- an equality of those that hold at the start of every block
abbrev Stands : ℕ → List Equality → Equality → Bool
Stands n es e = exists_in n e && (owns (known es nobody) e.place e.register && is_at e.place (standing es nowhere e.register))

one_holds : (n : ℕ) (c : Certificate) (p k : ℕ) (es : List Equality) (lines : List (Line ℕ)) (first o last : Owners) (e : Equality)
    → known_in n (begins_at c k) (known es nobody) ≡ Some first → lines_in n c p first lines ≡ Some o → moved_in n (moves_at c (jump_point p lines)) o ≡ Some last
    → machine_stays es last (LAST_SAVED + 1) ≡ true → starts_stay es last (begins_at c k) ≡ true → lines_stay es c p last lines ≡ true
    → Stands n es e ≡ true → owns last e.place e.register ≡ true
one_holds n c p k es lines first o last e begins goes moves machine starts stays stands =
    let s = and_parts (exists_in n e) (owns (known es nobody) e.place e.register && is_at e.place (standing es nowhere e.register)) stands in
    let t = and_parts (owns (known es nobody) e.place e.register) (is_at e.place (standing es nowhere e.register)) s.1 in
    let there : known es nobody e.place ≡ Some e.register = owner_is (known es nobody) e.place e.register t.0 in
    let place : is_place n e.place ≡ true = (and_parts (is_place n e.place) (nat_lt e.register n) s.0).0 in
    let w : Watched es last e.place e.register =
    record { there = there; stands = stood e.place (standing es nowhere e.register) t.1; over_calls = kept_over es last n e.place e.register there place machine }
    in
    by (lines_safe es c p last e.place e.register n lines first o last w goes moves stays
    (starts_safe es last e.place e.register n (begins_at c k) (known es nobody) first w begins starts (inl there)))
  where
    by : Safe last e.place e.register last → owns last e.place e.register ≡ true
    by (inl h) = owned last e.place e.register h
    by (inr h) = h

-- ---- all of it holds: so does what is looked at

known_holds : (last : Owners) (es : List Equality) (own : Owners) (q : Location) (r : ℕ) → all_hold last es ≡ true → (own q ≡ Some r → owns last q r ≡ true) → known es own q ≡ Some r → owns last q r ≡ true
known_holds last [] own q r h before is = before is
known_holds last (e ∷ es) own q r h before is =
    let s = and_parts (owns last e.place e.register) (all_hold last es) h in
    known_holds last es (own_also e own) q r s.1 (by s.0 (same_location q e.place) refl) is
  where
    by : owns last e.place e.register ≡ true → (b : Bool) → same_location q e.place ≡ b → own_also e own q ≡ Some r → owns last q r ≡ true
    by here true f g =
        let same : Some e.register ≡ Some r = sym (ap (λ b. if b then Some e.register else own q) f) ∙ g in
        let register : e.register ≡ r = cc in
        ap (λ (d : Location). owns last d r) (same_is q e.place f) ∙ subst (λ k. owns last e.place k ≡ true) register here
    by here false f g = before (sym (ap (λ b. if b then Some e.register else own q) f) ∙ g)

standing_holds : (last : Owners) (es : List Equality) (at : ℕ → Option Location) (q : Location) (r : ℕ) → all_hold last es ≡ true → (at r ≡ Some q → owns last q r ≡ true) → standing es at r ≡ Some q → owns last q r ≡ true
standing_holds last [] at q r h before is = before is
standing_holds last (e ∷ es) at q r h before is =
    let s = and_parts (owns last e.place e.register) (all_hold last es) h in
    standing_holds last es (stand_also e at) q r s.1 (by s.0 (nat_eq r e.register) refl) is
  where
    by : owns last e.place e.register ≡ true → (b : Bool) → nat_eq r e.register ≡ b → stand_also e at r ≡ Some q → owns last q r ≡ true
    by here true f g =
        let same : Some e.place ≡ Some q = sym (ap (λ b. if b then Some e.place else at r) f) ∙ g in
        let register : r ≡ e.register = grind (arith, nat_tests) in
        let place : e.place ≡ q = ap (λ (o : Option Location). option_map_or (λ (x : Location). x) o e.place) same in
        subst (λ (d : Location). owns last d r ≡ true) place (ap (owns last e.place) register ∙ here)
    by here false f g = before (sym (ap (λ b. if b then Some e.place else at r) f) ∙ g)

some_or : {X : Type 0} (o : Option X) (test : X → Bool) → ((x : X) → o ≡ Some x → test x ≡ true) → option_map_or test o true ≡ true
some_or None test h = refl
some_or (Some x) test h = h x refl

place_so : (last : Owners) (es : List Equality) (q : Location) → all_hold last es ≡ true → place_stays es last q ≡ true
place_so last es q h = some_or (known es nobody q) (λ r. owns last q r) (λ r e. known_holds last es nobody q r h (λ f. cc) e)

register_so : (last : Owners) (es : List Equality) (r : ℕ) → all_hold last es ≡ true → register_stays es last r ≡ true
register_so last es r h = some_or (standing es nowhere r) (λ q. owns last q r) (λ q e. standing_holds last es nowhere q r h (λ f. cc) e)

machine_so : (last : Owners) (es : List Equality) (m : ℕ) → all_hold last es ≡ true → machine_stays es last m ≡ true
machine_so last es zero h = refl
machine_so last es (suc m) h = ap (λ b. b && place_stays es last (Register m)) (machine_so last es m h) ∙ place_so last es (Register m) h

moves_so : (last : Owners) (es : List Equality) (ms : List Transfer) → all_hold last es ≡ true → moves_stay es last ms ≡ true
moves_so last es ms h = every_so (λ (m : Transfer). place_stays es last m.to) ms (λ m. place_so last es m.to h)

write_so : (last : Owners) (es : List Equality) (f : Layout) (o : Option ℕ) → all_hold last es ≡ true → write_stays es last f o ≡ true
write_so last es f None h = refl
write_so last es f (Some r) h = ap (λ b. b && register_stays es last r) (place_so last es (f r) h) ∙ register_so last es r h

lines_so : (last : Owners) (es : List Equality) (c : Certificate) (p : ℕ) (lines : List (Line ℕ)) → all_hold last es ≡ true → lines_stay es c p last lines ≡ true
lines_so last es c p [] h = moves_so last es (moves_at c p) h
lines_so last es c p (l ∷ lines) h =
    ap (λ b. (b && write_stays es last (layout_at c p) (line_writes l)) && lines_stay es c (next_point p l) last lines) (moves_so last es (moves_before c p l) h)
    ∙ ap (λ b. b && lines_stay es c (next_point p l) last lines) (write_so last es (layout_at c p) (line_writes l) h)
    ∙ lines_so last es c (next_point p l) lines h

-- ---- both

pub stays_is : (n : ℕ) (c : Certificate) (p k : ℕ) (es : List Equality) (lines : List (Line ℕ)) (first o last : Owners)
    → list_all (exists_in n) es ≡ true → are_apart es ≡ true
    → known_in n (begins_at c k) (known es nobody) ≡ Some first → lines_in n c p first lines ≡ Some o → moved_in n (moves_at c (jump_point p lines)) o ≡ Some last
    → block_stays es c p k last lines ≡ all_hold last es
stays_is n c p k [] lines first o last exist apart begins goes moves = refl
stays_is n c p k (d ∷ ds) lines first o last exist apart begins goes moves = same_tests (block_stays es c p k last lines) (all_hold last es) holds looks
  where
    es : List Equality
    es = d ∷ ds

    holds : block_stays es c p k last lines ≡ true → all_hold last es ≡ true
    holds h =
        let s = and_parts (machine_stays es last (LAST_SAVED + 1)) (starts_stay es last (begins_at c k) && lines_stay es c p last lines) h in
        let t = and_parts (starts_stay es last (begins_at c k)) (lines_stay es c p last lines) s.1 in
        every_from (Stands n es) (λ (e : Equality). owns last e.place e.register) es
        (every_two (exists_in n) (λ (e : Equality). owns (known es nobody) e.place e.register && is_at e.place (standing es nowhere e.register)) es exist apart)
        (λ e stands. one_holds n c p k es lines first o last e begins goes moves s.0 t.0 t.1 stands)

    looks : all_hold last es ≡ true → block_stays es c p k last lines ≡ true
    looks h =
        ap (λ b. b && (starts_stay es last (begins_at c k) && lines_stay es c p last lines)) (machine_so last es (LAST_SAVED + 1) h)
        ∙ ap (λ b. b && lines_stay es c p last lines) (every_so (λ (e : Equality). place_stays es last e.place) (begins_at c k) (λ e. place_so last es e.place h))
        ∙ lines_so last es c p lines h
