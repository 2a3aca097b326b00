-- What the checker does is what makes a certificate sound, where all places and registers exist.
use Rattle.std.proofs.Common.{◌≡◌, ℕ, zero, suc, ◌+◌, ◌<◌, ◌≤◌, Bool, true, false, ◌&&◌, nat_lt, nat_le, List, [], ◌∷◌, ◌++◌, map, length, get_or, drop, slice_get, Option, Some, None, refl, sym, ◌∙◌, ap, subst, arith}
use Rattle.std.specs.List.{list_all}
use Rattle.std.specs.Option.{option_map, option_map_or, option_and_then}
use Rattle.std.proofs.lemmas.Bool.Decides.{nat_tests}
use Rattle.std.proofs.lemmas.Bool.{and_parts}
use Rattle.vcode.specs.declared.place.Location.{Location}
use Rattle.vcode.specs.declared.place.Location.TheVariants.{Register, Slot}
use Rattle.vcode.specs.declared.place.Destination.{Destination}
use Rattle.vcode.specs.declared.line.Line.{Line}
use Rattle.vcode.specs.declared.line.Line.TheVariants.{Tick, Set, Operate, Load, Store, Alloc, Blit, Call}
use Rattle.vcode.specs.declared.line.Jump.{Jump}
use Rattle.vcode.specs.declared.line.Jump.TheVariants.{Goto, Branch, Return, Halt}
use Rattle.vcode.specs.declared.code.Block.{Block}
use Rattle.vcode.specs.declared.code.Code.{Code}
use Rattle.vcode.specs.Prelude.{operand_keeps, wanted_keeps, line_keeps, jump_keeps, block_keeps, keeps_places, is_below, is_place}
use Rattle.certificates.specs.declared.certificate.Equality.{Equality}
use Rattle.certificates.specs.declared.certificate.Transfer.{Transfer}
use Rattle.certificates.specs.declared.certificate.Certificate.{Certificate}
use Rattle.alloc_check.specs.Prelude.{Layout, placed_operand, placed_argument, placed_destination, placed_line, placed_jump, Owners, nobody, own_put, own_move, own_kept, own_also, moved, known, operand_held, args_held, all_hold, are_apart, where_held, received, after_line, moves_at, begins_at, starts_at, layout_at, transfers, next_point, jump_point, certified_lines, certified_block, certified_blocks, certified_params, placed_by, jump_right, lines_right, blocks_right, params_placed, entry_right, is_sound, exists_in, equalities_exist, in_table, put_in, moved_in, known_in, after_reads, receives_in, line_in, lines_in, block_stays, targets_in, jump_in, block_in, blocks_in, entry_in, sound_in, certified_line}
use Rattle.alloc_check.proofs.Starting.{both_hold}
use Rattle.alloc_check.proofs.Untouched.{stays_is}
use Rattle.vcode.proofs.Lists.{item_next}
use Rattle.il_ast.proofs.Truth.{and_assoc}

-- ---- the code, line by line

append_one : (xs ys : List (Line Location)) (l : Line Location) → xs ++ l ∷ ys ≡ (xs ++ l ∷ []) ++ ys
append_one [] ys l = refl
append_one (x ∷ xs) ys l = ap (λ zs. x ∷ zs) (append_one xs ys l)

pub lines_on : (c : Certificate) (p : ℕ) (l : Line ℕ) (lines : List (Line ℕ)) → certified_lines c p (l ∷ lines) ≡ certified_line c p l ++ certified_lines c (next_point p l) lines
lines_on c p (Tick turn w) lines = refl
lines_on c p (Set to a) lines = append_one (transfers (moves_at c p)) (certified_lines c (p + 1) lines) (placed_line (layout_at c p) (Set to a))
lines_on c p (Operate to op a b) lines = append_one (transfers (moves_at c p)) (certified_lines c (p + 1) lines) (placed_line (layout_at c p) (Operate to op a b))
lines_on c p (Load to op at) lines = append_one (transfers (moves_at c p)) (certified_lines c (p + 1) lines) (placed_line (layout_at c p) (Load to op at))
lines_on c p (Store size a at) lines = append_one (transfers (moves_at c p)) (certified_lines c (p + 1) lines) (placed_line (layout_at c p) (Store size a at))
lines_on c p (Alloc to size) lines = append_one (transfers (moves_at c p)) (certified_lines c (p + 1) lines) (placed_line (layout_at c p) (Alloc to size))
lines_on c p (Blit from to count) lines = append_one (transfers (moves_at c p)) (certified_lines c (p + 1) lines) (placed_line (layout_at c p) (Blit from to count))
lines_on c p (Call to callee args) lines = append_one (transfers (moves_at c p)) (certified_lines c (p + 1) lines) (placed_line (layout_at c p) (Call to callee args))

-- ---- what exists has room

pub has_room : (n : ℕ) (q : Location) → is_place n q ≡ true → in_table n q ≡ true
has_room n (Register k) h =
    let e : nat_le k 27 ≡ true = (and_parts (nat_le 5 k) (nat_le k 27) h).1 in
    let low : k ≤ 27 = grind (arith, nat_tests) in
    grind (arith, nat_tests)
has_room n (Slot s) h = h

put_is : (n : ℕ) (q : Location) (r : ℕ) (own : Owners) → is_place n q ≡ true → nat_lt r n ≡ true → put_in n q r own ≡ Some (own_put q r own)
put_is n q r own h e = ap (λ b. where_held (b && nat_lt r n) (own_put q r own)) (has_room n q h) ∙ ap (λ b. where_held b (own_put q r own)) e

reads_some : (b : Bool) (own : Owners) → after_reads b (Some own) ≡ where_held b own
reads_some true own = refl
reads_some false own = refl

reads_put : (n : ℕ) (q : Location) (r : ℕ) (own : Owners) (b : Bool) → is_place n q ≡ true → nat_lt r n ≡ true → after_reads b (put_in n q r own) ≡ where_held b (own_put q r own)
reads_put n q r own b h e = ap (after_reads b) (put_is n q r own h e) ∙ reads_some b (own_put q r own)

receives_is : (n : ℕ) (f : Layout) (to : Option (Destination ℕ)) (own : Owners) → wanted_keeps (is_below n) to ≡ true → wanted_keeps (is_place n) (option_map (placed_destination f) to) ≡ true
    → receives_in n f to own ≡ Some (received f to own)
receives_is n f None own e h = refl
receives_is n f (Some d) own e h = put_is n (f d.place) d.place own h e

line_is : (n : ℕ) (own : Owners) (f : Layout) (l : Line ℕ) → line_keeps (is_below n) l ≡ true → line_keeps (is_place n) (placed_line f l) ≡ true → line_in n own f l ≡ after_line own f l
line_is n own f (Tick turn w) e h = refl
line_is n own f (Set to a) e h =
    reads_put n (f to) to own (operand_held own f a) (and_parts (is_place n (f to)) (operand_keeps (is_place n) (placed_operand f a)) h).0 (and_parts (nat_lt to n) (operand_keeps (is_below n) a) e).0
line_is n own f (Operate to op a b) e h =
    reads_put n (f to) to own (operand_held own f a && operand_held own f b)
    (and_parts (is_place n (f to)) (operand_keeps (is_place n) (placed_operand f a) && operand_keeps (is_place n) (placed_operand f b)) h).0
    (and_parts (nat_lt to n) (operand_keeps (is_below n) a && operand_keeps (is_below n) b) e).0
line_is n own f (Load to op at) e h =
    reads_put n (f to) to own (operand_held own f at.base) (and_parts (is_place n (f to)) (operand_keeps (is_place n) (placed_operand f at.base)) h).0
    (and_parts (nat_lt to n) (operand_keeps (is_below n) at.base) e).0
line_is n own f (Store size a at) e h = refl
line_is n own f (Alloc None size) e h = refl
line_is n own f (Alloc (Some r) size) e h = put_is n (f r) r own h e
line_is n own f (Blit from to count) e h = refl
line_is n own f (Call to callee args) e h =
    ap (after_reads (operand_held own f callee && args_held own f args))
    (receives_is n f to (own_kept own)
    (and_parts (wanted_keeps (is_below n) to) (operand_keeps (is_below n) callee && list_all (λ a. operand_keeps (is_below n) a.value) args) e).0
    (and_parts (wanted_keeps (is_place n) (option_map (placed_destination f) to))
    (operand_keeps (is_place n) (placed_operand f callee) && list_all (λ a. operand_keeps (is_place n) a.value) (map (placed_argument f) args)) h).0)
    ∙ reads_some (operand_held own f callee && args_held own f args) (received f to (own_kept own))

-- ---- moves

moves_are : (n : ℕ) (ms : List Transfer) (rest : List (Line Location)) (own : Owners) → list_all (line_keeps (is_place n)) (transfers ms ++ rest) ≡ true
    → (moved_in n ms own ≡ Some (moved ms own)) × (list_all (line_keeps (is_place n)) rest ≡ true)
moves_are n [] rest own h = (refl, h)
moves_are n (m ∷ ms) rest own h =
    let first = and_parts (is_place n m.to && is_place n m.from) (list_all (line_keeps (is_place n)) (transfers ms ++ rest)) h in
    let room : in_table n m.to ≡ true = has_room n m.to (and_parts (is_place n m.to) (is_place n m.from) first.0).0 in
    let after = moves_are n ms rest (own_move m own) first.1 in
    (ap (λ b. option_and_then (moved_in n ms) (where_held b (own_move m own))) room ∙ after.0, after.1)

-- ---- lines

-- what a jump at point p finds, after the moves before it
abbrev pub jump_plain : ℕ → Certificate → ℕ → Jump ℕ → Owners → Bool
jump_plain n c p j own = option_map_or (λ o. jump_right c o (layout_at c p) j) (moved_in n (moves_at c p) own) false

-- what a block finds from here on, lines and jump
abbrev pub rest_in : ℕ → Certificate → ℕ → Owners → Jump ℕ → List (Line ℕ) → Bool
rest_in n c p own j lines = option_map_or (jump_plain n c (jump_point p lines) j) (lines_in n c p own lines) false

then_or : (n : ℕ) (c : Certificate) (p : ℕ) (j : Jump ℕ) (lines : List (Line ℕ)) (q : ℕ) (o : Option Owners)
    → option_map_or (jump_plain n c (jump_point p lines) j) (option_and_then (λ w. lines_in n c p w lines) o) false ≡ option_map_or (λ w. rest_in n c p w j lines) o false
then_or n c p j lines q None = refl
then_or n c p j lines q (Some o) = refl

same_or : (o : Option Owners) (f g : Owners → Bool) → ((w : Owners) → f w ≡ g w) → option_map_or f o false ≡ option_map_or g o false
same_or None f g e = refl
same_or (Some o) f g e = e o

-- a line that is a point
point_right : (n : ℕ) (c : Certificate) (p : ℕ) (own : Owners) (j : Jump ℕ) (l : Line ℕ) (lines : List (Line ℕ))
    → line_keeps (is_below n) l ≡ true → list_all (line_keeps (is_place n)) (transfers (moves_at c p) ++ placed_line (layout_at c p) l ∷ certified_lines c (p + 1) lines) ≡ true
    → ((o : Owners) → list_all (line_keeps (is_place n)) (certified_lines c (p + 1) lines) ≡ true → rest_in n c (p + 1) o j lines ≡ lines_right c (p + 1) o j lines)
    → option_map_or (jump_plain n c (jump_point (p + 1) lines) j) (option_and_then (λ o. lines_in n c (p + 1) o lines) (option_and_then (λ o. line_in n o (layout_at c p) l) (moved_in n (moves_at c p) own))) false
    ≡ option_map_or (λ (o : Owners). lines_right c (p + 1) o j lines) (after_line (moved (moves_at c p) own) (layout_at c p) l) false
point_right n c p own j l lines e h on =
    let m = moves_are n (moves_at c p) (placed_line (layout_at c p) l ∷ certified_lines c (p + 1) lines) own h in
    let first = and_parts (line_keeps (is_place n) (placed_line (layout_at c p) l)) (list_all (line_keeps (is_place n)) (certified_lines c (p + 1) lines)) m.1 in
    then_or n c (p + 1) j lines p (option_and_then (λ o. line_in n o (layout_at c p) l) (moved_in n (moves_at c p) own))
    ∙ ap (λ o. option_map_or (λ w. rest_in n c (p + 1) w j lines) (option_and_then (λ w. line_in n w (layout_at c p) l) o) false) m.0
    ∙ ap (λ o. option_map_or (λ w. rest_in n c (p + 1) w j lines) o false) (line_is n (moved (moves_at c p) own) (layout_at c p) l e first.0)
    ∙ same_or (after_line (moved (moves_at c p) own) (layout_at c p) l) (λ w. rest_in n c (p + 1) w j lines) (λ w. lines_right c (p + 1) w j lines) (λ o. on o first.1)

pub lines_are : (n : ℕ) (c : Certificate) (p : ℕ) (own : Owners) (j : Jump ℕ) (lines : List (Line ℕ)) → list_all (line_keeps (is_below n)) lines ≡ true
    → list_all (line_keeps (is_place n)) (certified_lines c p lines) ≡ true → rest_in n c p own j lines ≡ lines_right c p own j lines
lines_are n c p own j [] e h =
    let m = moves_are n (moves_at c p) [] own (subst (λ xs. list_all (line_keeps (is_place n)) xs ≡ true) (sym (append_none (transfers (moves_at c p)))) h) in
    ap (λ o. option_map_or (λ w. jump_right c w (layout_at c p) j) o false) m.0
  where
    append_none : (xs : List (Line Location)) → xs ++ [] ≡ xs
    append_none [] = refl
    append_none (x ∷ xs) = ap (λ zs. x ∷ zs) (append_none xs)
lines_are n c p own j (Tick turn w ∷ lines) e h = lines_are n c p own j lines e h
lines_are n c p own j (Set to a ∷ lines) e h = let s = and_parts (line_keeps (is_below n) (Set to a)) (list_all (line_keeps (is_below n)) lines) e in point_right n c p own j (Set to a) lines s.0 h (λ o g. lines_are n c (p + 1) o j lines s.1 g)
lines_are n c p own j (Operate to op a b ∷ lines) e h = let s = and_parts (line_keeps (is_below n) (Operate to op a b)) (list_all (line_keeps (is_below n)) lines) e in point_right n c p own j (Operate to op a b) lines s.0 h (λ o g. lines_are n c (p + 1) o j lines s.1 g)
lines_are n c p own j (Load to op at ∷ lines) e h = let s = and_parts (line_keeps (is_below n) (Load to op at)) (list_all (line_keeps (is_below n)) lines) e in point_right n c p own j (Load to op at) lines s.0 h (λ o g. lines_are n c (p + 1) o j lines s.1 g)
lines_are n c p own j (Store size a at ∷ lines) e h = let s = and_parts (line_keeps (is_below n) (Store size a at)) (list_all (line_keeps (is_below n)) lines) e in point_right n c p own j (Store size a at) lines s.0 h (λ o g. lines_are n c (p + 1) o j lines s.1 g)
lines_are n c p own j (Alloc to size ∷ lines) e h = let s = and_parts (line_keeps (is_below n) (Alloc to size)) (list_all (line_keeps (is_below n)) lines) e in point_right n c p own j (Alloc to size) lines s.0 h (λ o g. lines_are n c (p + 1) o j lines s.1 g)
lines_are n c p own j (Blit from to count ∷ lines) e h = let s = and_parts (line_keeps (is_below n) (Blit from to count)) (list_all (line_keeps (is_below n)) lines) e in point_right n c p own j (Blit from to count) lines s.0 h (λ o g. lines_are n c (p + 1) o j lines s.1 g)
lines_are n c p own j (Call to callee args ∷ lines) e h = let s = and_parts (line_keeps (is_below n) (Call to callee args)) (list_all (line_keeps (is_below n)) lines) e in point_right n c p own j (Call to callee args) lines s.0 h (λ o g. lines_are n c (p + 1) o j lines s.1 g)

-- ---- blocks

known_is : (n : ℕ) (es : List Equality) (own : Owners) → list_all (exists_in n) es ≡ true → known_in n es own ≡ Some (known es own)
known_is n [] own h = refl
known_is n (e ∷ es) own h =
    let first = and_parts (exists_in n e) (list_all (exists_in n) es) h in
    let here = and_parts (is_place n e.place) (nat_lt e.register n) first.0 in
    ap (λ b. option_and_then (known_in n es) (where_held (b && nat_lt e.register n) (own_also e own))) (has_room n e.place here.0)
    ∙ ap (λ b. option_and_then (known_in n es) (where_held b (own_also e own))) here.1
    ∙ known_is n es (own_also e own) first.1

start_exists : (n : ℕ) (starts : List (List Equality)) (k : ℕ) → equalities_exist n starts ≡ true → list_all (exists_in n) (option_map_or (λ (es : List Equality). es) (slice_get starts k) []) ≡ true
start_exists n [] k h = refl
start_exists n (es ∷ starts) zero h = (and_parts (list_all (exists_in n) es) (equalities_exist n starts) h).0
start_exists n (es ∷ starts) (suc k) h = start_exists n starts k (and_parts (list_all (exists_in n) es) (equalities_exist n starts) h).1

known_append : (xs ys : List Equality) (own : Owners) → known (xs ++ ys) own ≡ known ys (known xs own)
known_append [] ys own = refl
known_append (e ∷ xs) ys own = known_append xs ys (own_also e own)

same_at : (x : Option Owners) (f g : Owners → Bool) → ((w : Owners) → x ≡ Some w → f w ≡ g w) → option_map_or f x false ≡ option_map_or g x false
same_at None f g e = refl
same_at (Some w) f g e = e w refl

-- what its targets ask for, where it is known whether all holds that holds everywhere
targets_right : (c : Certificate) (own : Owners) (f : Layout) (j : Jump ℕ) → targets_in c (all_hold own c.everywhere) own f j ≡ jump_right c own f j
targets_right c own f (Goto k) = sym (both_hold own c.everywhere (begins_at c k))
targets_right c own f (Branch on met otherwise) =
    ap (λ b. (operand_held own f on.left && operand_held own f on.right) && b)
    (both (all_hold own c.everywhere) (all_hold own (begins_at c met)) (all_hold own (begins_at c otherwise))
    ∙ ap (λ b. b && (all_hold own c.everywhere && all_hold own (begins_at c otherwise))) (sym (both_hold own c.everywhere (begins_at c met)))
    ∙ ap (λ b. all_hold own (starts_at c met) && b) (sym (both_hold own c.everywhere (begins_at c otherwise))))
  where
    both : (a b d : Bool) → (a && (b && d)) ≡ ((a && b) && (a && d))
    both false b d = refl
    both true b d = refl
targets_right c own f (Return None) = refl
targets_right c own f (Return (Some a)) = refl
targets_right c own f Halt = refl

block_is : (n : ℕ) (c : Certificate) (p k : ℕ) (b : Block ℕ) → list_all (exists_in n) c.everywhere ≡ true → are_apart c.everywhere ≡ true → equalities_exist n c.starts ≡ true
    → list_all (line_keeps (is_below n)) b.lines ≡ true → list_all (line_keeps (is_place n)) (certified_lines c p b.lines) ≡ true
    → block_in n c.everywhere c p k b ≡ lines_right c p (known (starts_at c k) nobody) b.jump b.lines
block_is n c p k b every apart starts lines made =
    let es : List Equality = c.everywhere in
    let own : Owners = known (begins_at c k) (known es nobody) in
    let begins : known_in n (begins_at c k) (known es nobody) ≡ Some own = known_is n (begins_at c k) (known es nobody) (start_exists n c.starts k starts) in
    ap (λ o. option_map_or (jump_in n es c p k b) (option_and_then (λ w. lines_in n c p w b.lines) o) false) begins
    ∙ same_at (lines_in n c p own b.lines) (jump_in n es c p k b) (jump_plain n c (jump_point p b.lines) b.jump)
    (λ o goes. same_at (moved_in n (moves_at c (jump_point p b.lines)) o)
    (λ w. targets_in c (block_stays es c p k w b.lines) w (layout_at c (jump_point p b.lines)) b.jump)
    (λ w. jump_right c w (layout_at c (jump_point p b.lines)) b.jump)
    (λ w moves. ap (λ t. targets_in c t w (layout_at c (jump_point p b.lines)) b.jump) (stays_is n c p k es b.lines own o w every apart begins goes moves)
    ∙ targets_right c w (layout_at c (jump_point p b.lines)) b.jump))
    ∙ ap (λ w. rest_in n c p w b.jump b.lines) (sym (known_append es (begins_at c k) nobody))
    ∙ lines_are n c p (known (starts_at c k) nobody) b.jump b.lines lines made

pub blocks_are : (n : ℕ) (c : Certificate) (p k : ℕ) (blocks : List (Block ℕ)) → list_all (exists_in n) c.everywhere ≡ true → are_apart c.everywhere ≡ true → equalities_exist n c.starts ≡ true
    → list_all (block_keeps (is_below n)) blocks ≡ true
    → list_all (block_keeps (is_place n)) (certified_blocks c p blocks) ≡ true → blocks_in n c.everywhere c p k blocks ≡ blocks_right c p k blocks
blocks_are n c p k [] every apart starts e h = refl
blocks_are n c p k (b ∷ blocks) every apart starts e h =
    let below = and_parts (block_keeps (is_below n) b) (list_all (block_keeps (is_below n)) blocks) e in
    let placed = and_parts (block_keeps (is_place n) (certified_block c p b)) (list_all (block_keeps (is_place n)) (certified_blocks c (jump_point p b.lines + 1) blocks)) h in
    let lines : list_all (line_keeps (is_below n)) b.lines ≡ true = (and_parts (list_all (line_keeps (is_below n)) b.lines) (jump_keeps (is_below n) b.jump) below.0).0 in
    let made : list_all (line_keeps (is_place n)) (certified_lines c p b.lines) ≡ true =
    (and_parts (list_all (line_keeps (is_place n)) (certified_lines c p b.lines)) (jump_keeps (is_place n) (placed_jump (layout_at c (jump_point p b.lines)) b.jump)) placed.0).0 in
    ap (λ t. t && blocks_in n c.everywhere c (jump_point p b.lines + 1) (k + 1) blocks) (block_is n c p k b every apart starts lines made)
    ∙ ap (λ t. lines_right c p (known (starts_at c k) nobody) b.jump b.lines && t) (blocks_are n c (jump_point p b.lines + 1) (k + 1) blocks every apart starts below.1 placed.1)

-- ---- on entry

apart_sound : (n : ℕ) (v : Code ℕ) (c : Certificate) → keeps_places (is_below n) v ≡ true → list_all (exists_in n) c.everywhere ≡ true → equalities_exist n c.starts ≡ true
    → keeps_places (is_place n) (placed_by v c) ≡ true → are_apart c.everywhere ≡ true → (entry_in v c && blocks_in n c.everywhere c 0 0 v.blocks) ≡ is_sound v c
apart_sound n v c e every starts h apart =
    let below = and_parts (list_all (λ (d : Destination ℕ). is_below n d.place) v.params) (list_all (block_keeps (is_below n)) v.blocks) e in
    let placed = and_parts (list_all (λ (d : Destination Location). is_place n d.place) (certified_params v.params c.params)) (list_all (block_keeps (is_place n)) (certified_blocks c 0 v.blocks)) h in
    ap (λ t. entry_in v c && t) (blocks_are n c 0 0 v.blocks every apart starts below.1 placed.1)
    ∙ and_assoc (params_placed v.params c.params) (entry_right v c) (blocks_right c 0 0 v.blocks)

pub sound_is : (n : ℕ) (v : Code ℕ) (c : Certificate) → keeps_places (is_below n) v ≡ true → list_all (exists_in n) c.everywhere ≡ true → equalities_exist n c.starts ≡ true
    → keeps_places (is_place n) (placed_by v c) ≡ true → sound_in n v c ≡ (are_apart c.everywhere && is_sound v c)
sound_is n v c e every starts h = by (are_apart c.everywhere) refl
  where
    by : (b : Bool) → are_apart c.everywhere ≡ b → sound_in n v c ≡ (are_apart c.everywhere && is_sound v c)
    by true f =
        ap (λ b. b && (entry_in v c && blocks_in n c.everywhere c 0 0 v.blocks)) f
        ∙ apart_sound n v c e every starts h f
        ∙ sym (ap (λ b. b && is_sound v c) f)
    by false f = ap (λ b. b && (entry_in v c && blocks_in n c.everywhere c 0 0 v.blocks)) f ∙ sym (ap (λ b. b && is_sound v c) f)

-- ---- in a loop

pub append_three : {X : Type 0} (xs ys zs : List X) → (xs ++ ys) ++ zs ≡ xs ++ (ys ++ zs)
append_three [] ys zs = refl
append_three (x ∷ xs) ys zs = ap (λ ws. x ∷ ws) (append_three xs ys zs)

pub push_on : (c : Certificate) (lines : List (Line ℕ)) (i p q : ℕ) (l : Line ℕ) (placed new whole : List (Line Location))
    → i < length lines → l ≡ get_or lines i l → q ≡ next_point p l → new ≡ placed ++ certified_line c p l → placed ++ certified_lines c p (drop i lines) ≡ whole
    → new ++ certified_lines c q (drop (i + 1) lines) ≡ whole
push_on c lines i p q l placed new whole low at next is before =
    ap (λ xs. xs ++ certified_lines c q (drop (i + 1) lines)) is
    ∙ ap (λ k. (placed ++ certified_line c p l) ++ certified_lines c k (drop (i + 1) lines)) next
    ∙ append_three placed (certified_line c p l) (certified_lines c (next_point p l) (drop (i + 1) lines))
    ∙ ap (λ xs. placed ++ xs) (sym (lines_on c p l (drop (i + 1) lines)))
    ∙ ap (λ xs. placed ++ certified_lines c p xs) (sym (item_next lines i l low at))
    ∙ before
