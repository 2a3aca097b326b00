-- Memory without its hidden blocks: the others have numbers of their own there. What is clean doesn't point to a hidden block.
use Rattle.std.proofs.Common.{◌≡◌, ℕ, zero, suc, ◌+◌, ◌*◌, ◌/◌, ◌^◌, ◌<◌, ◌≤◌, Bool, true, false, not, ◌&&◌, ◌||◌, nat_eq, nat_le, cond, List, [], ◌∷◌, ◌++◌, map, length, take, drop, replicate, refl, sym, ◌∙◌, ap, subst, arith, lit<, mod-lt, slice_get, slice_set, Option, Some, None, eqb-true}
use Rattle.std.specs.Option.{option_map, option_and_then, option_flatten}
use Rattle.std.proofs.lemmas.List.{length-set, length-map, take-map, drop-map, map-append}
use Rattle.std.proofs.Math.Dec.{eqb-zero-suc, eqb-suc-zero, eqb-suc-suc}
use Rattle.std.proofs.Math.Nat.{pow-succ'}
use Rattle.std.proofs.lemmas.Option.{slice_get_within}
use Rattle.il_ast.specs.declared.value.Value.{Value}
use Rattle.il_ast.specs.declared.value.Value.TheVariants.{Integer, Pointer, Function}
use Rattle.il_ast.specs.declared.value.Cell.{Cell}
use Rattle.il_ast.specs.declared.value.Cell.TheVariants.{Plain, Part, Blank}
use Rattle.il_ast.specs.Prelude.{bytes_of, number_of, same_value, Memory, block_at, parts, cells_for, plain_bytes, are_parts_from, value_of, span, put, cells_at, write_at, load, store, apart_or_same, copy, fresh, free, free_all}
use Rattle.il_ast.proofs.Listed.{get_before, get_set_other}

-- for each block ever made whether it is hidden
abbrev pub Marks : Type 0
Marks = List Bool

-- the number of block b where the hidden ones are gone: how many that aren't hidden stand before it
abbrev counted : Bool → ℕ → ℕ
counted true n = n
counted false n = suc n

abbrev pub place : Marks → ℕ → ℕ
place [] b = b
place (h ∷ hs) zero = 0
place (h ∷ hs) (suc b) = counted h (place hs b)

-- values and cells there
abbrev pub moved : Marks → Value → Value
moved hs (Integer n) = Integer n
moved hs (Pointer b o) = Pointer (place hs b) o
moved hs (Function f) = Function f

abbrev pub moved_if : Marks → Option Value → Option Value
moved_if hs o = option_map (moved hs) o

abbrev pub moved_cell : Marks → Cell → Cell
moved_cell hs (Plain b) = Plain b
moved_cell hs (Part v i) = Part (moved hs v) i
moved_cell hs Blank = Blank

abbrev pub moved_cells : Marks → List Cell → List Cell
moved_cells hs cells = map (moved_cell hs) cells

abbrev pub moved_block : Marks → Option (List Cell) → Option (List Cell)
moved_block hs b = option_map (moved_cells hs) b

-- the blocks that the marks hs don't hide, moved by the marks ks
abbrev pub shown_by : (ks hs : Marks) → Memory → Memory
shown_by ks [] m = []
shown_by ks (h ∷ hs) [] = []
shown_by ks (true ∷ hs) (b ∷ m) = shown_by ks hs m
shown_by ks (false ∷ hs) (b ∷ m) = moved_block ks b ∷ shown_by ks hs m

-- the memory without the hidden blocks
abbrev pub shown : Marks → Memory → Memory
shown hs m = shown_by hs hs m

-- ---- lists

-- what is found after a change is new, or was there
pub get_set : {X : Type 0} (P : X → Type 0) (xs : List X) (i j : ℕ) (x y : X) → P x → ((z : X) → slice_get xs j ≡ Some z → P z) → slice_get (slice_set xs i x) j ≡ Some y → P y
get_set P [] i j x y new old e = old y e
get_set P (z ∷ zs) zero zero x y new old e = let same : x ≡ y = cc in subst P same new
get_set P (z ∷ zs) zero (suc j) x y new old e = old y e
get_set P (z ∷ zs) (suc i) zero x y new old e = old y e
get_set P (z ∷ zs) (suc i) (suc j) x y new old e = get_set P zs i j x y new old e

-- ---- blocks that are hidden, and others

get_shown : (ks hs : Marks) (m : Memory) (b : ℕ) → slice_get hs b ≡ Some false → slice_get (shown_by ks hs m) (place hs b) ≡ option_map (moved_block ks) (slice_get m b)
get_shown ks [] m b e = absurd (let no : ⊥ = cc in no)
get_shown ks (h ∷ hs) [] b e = refl
get_shown ks (true ∷ hs) (c ∷ m) zero e = absurd (let no : ⊥ = cc in no)
get_shown ks (false ∷ hs) (c ∷ m) zero e = refl
get_shown ks (true ∷ hs) (c ∷ m) (suc b) e = get_shown ks hs m b e
get_shown ks (false ∷ hs) (c ∷ m) (suc b) e = get_shown ks hs m b e

set_shown : (ks hs : Marks) (m : Memory) (b : ℕ) (x : Option (List Cell)) → slice_get hs b ≡ Some false → shown_by ks hs (slice_set m b x) ≡ slice_set (shown_by ks hs m) (place hs b) (moved_block ks x)
set_shown ks [] m b x e = absurd (let no : ⊥ = cc in no)
set_shown ks (h ∷ hs) [] b x e = refl
set_shown ks (true ∷ hs) (c ∷ m) zero x e = absurd (let no : ⊥ = cc in no)
set_shown ks (false ∷ hs) (c ∷ m) zero x e = refl
set_shown ks (true ∷ hs) (c ∷ m) (suc b) x e = set_shown ks hs m b x e
set_shown ks (false ∷ hs) (c ∷ m) (suc b) x e = ap (λ r. moved_block ks c ∷ r) (set_shown ks hs m b x e)

set_hidden_by : (ks hs : Marks) (m : Memory) (b : ℕ) (x : Option (List Cell)) → slice_get hs b ≡ Some true → shown_by ks hs (slice_set m b x) ≡ shown_by ks hs m
set_hidden_by ks [] m b x e = absurd (let no : ⊥ = cc in no)
set_hidden_by ks (h ∷ hs) [] b x e = refl
set_hidden_by ks (true ∷ hs) (c ∷ m) zero x e = refl
set_hidden_by ks (false ∷ hs) (c ∷ m) zero x e = absurd (let no : ⊥ = cc in no)
set_hidden_by ks (true ∷ hs) (c ∷ m) (suc b) x e = set_hidden_by ks hs m b x e
set_hidden_by ks (false ∷ hs) (c ∷ m) (suc b) x e = ap (λ r. moved_block ks c ∷ r) (set_hidden_by ks hs m b x e)

pub set_hidden : (hs : Marks) (m : Memory) (b : ℕ) (x : Option (List Cell)) → slice_get hs b ≡ Some true → shown hs (slice_set m b x) ≡ shown hs m
set_hidden hs m b x e = set_hidden_by hs hs m b x e

-- blocks that aren't hidden have the same number just where they are the same
pub place_same : (hs : Marks) (a b : ℕ) → slice_get hs a ≡ Some false → slice_get hs b ≡ Some false → nat_eq (place hs a) (place hs b) ≡ nat_eq a b
place_same [] a b h k = absurd (let no : ⊥ = cc in no)
place_same (g ∷ hs) zero zero h k = refl
place_same (true ∷ hs) zero (suc b) h k = absurd (let no : ⊥ = cc in no)
place_same (false ∷ hs) zero (suc b) h k = eqb-zero-suc (place hs b) ∙ sym (eqb-zero-suc b)
place_same (true ∷ hs) (suc a) zero h k = absurd (let no : ⊥ = cc in no)
place_same (false ∷ hs) (suc a) zero h k = eqb-suc-zero (place hs a) ∙ sym (eqb-suc-zero a)
place_same (true ∷ hs) (suc a) (suc b) h k = place_same hs a b h k ∙ sym (eqb-suc-suc a b)
place_same (false ∷ hs) (suc a) (suc b) h k = eqb-suc-suc (place hs a) (place hs b) ∙ (place_same hs a b h k ∙ sym (eqb-suc-suc a b))

-- where nothing is hidden all is as it was
place_none : (n b : ℕ) → place (replicate n false) b ≡ b
place_none zero b = refl
place_none (suc n) zero = refl
place_none (suc n) (suc b) = ap suc (place_none n b)

pub moved_none : (n : ℕ) (v : Value) → moved (replicate n false) v ≡ v
moved_none n (Integer k) = refl
moved_none n (Pointer b o) = ap (λ k. Pointer k o) (place_none n b)
moved_none n (Function f) = refl

cell_none : (n : ℕ) (c : Cell) → moved_cell (replicate n false) c ≡ c
cell_none n (Plain b) = refl
cell_none n (Part v i) = ap (λ u. Part u i) (moved_none n v)
cell_none n Blank = refl

cells_none : (n : ℕ) (cs : List Cell) → moved_cells (replicate n false) cs ≡ cs
cells_none n [] = refl
cells_none n (c ∷ cs) = ap (λ x. x ∷ moved_cells (replicate n false) cs) (cell_none n c) ∙ ap (λ r. c ∷ r) (cells_none n cs)

block_none : (n : ℕ) (b : Option (List Cell)) → moved_block (replicate n false) b ≡ b
block_none n None = refl
block_none n (Some cells) = ap (λ cs. Some cs) (cells_none n cells)

shown_none : (n : ℕ) (m : Memory) → shown_by (replicate n false) (replicate (length m) false) m ≡ m
shown_none n [] = refl
shown_none n (b ∷ m) =
    ap (λ x. x ∷ shown_by (replicate n false) (replicate (length m) false) m) (block_none n b) ∙ ap (λ r. b ∷ r) (shown_none n m)

pub nothing_hidden : (m : Memory) → shown (replicate (length m) false) m ≡ m
nothing_hidden m = shown_none (length m) m

-- ---- clean values and cells

abbrev pub Clean : Marks → Value → Type 0
Clean hs (Integer n) = n < 2 ^ 64
Clean hs (Pointer b o) = slice_get hs b ≡ Some false
Clean hs (Function f) = Unit {0}

abbrev pub IfClean : Marks → Option Value → Type 0
IfClean hs None = Unit {0}
IfClean hs (Some v) = Clean hs v

abbrev pub CleanAll : Marks → List Value → Type 0
CleanAll hs [] = Unit {0}
CleanAll hs (v ∷ vs) = Clean hs v × CleanAll hs vs

abbrev pub CleanCell : Marks → Cell → Type 0
CleanCell hs (Plain b) = b < 256
CleanCell hs (Part v i) = Clean hs v
CleanCell hs Blank = Unit {0}

abbrev pub CleanCells : Marks → List Cell → Type 0
CleanCells hs [] = Unit {0}
CleanCells hs (c ∷ cs) = CleanCell hs c × CleanCells hs cs

abbrev pub IfCleanCells : Marks → Option (List Cell) → Type 0
IfCleanCells hs None = Unit {0}
IfCleanCells hs (Some cells) = CleanCells hs cells

-- blocks that aren't hidden have clean cells
abbrev pub CleanMemory : Marks → Memory → Type 0
CleanMemory hs m = (b : ℕ) (x : Option (List Cell)) → slice_get hs b ≡ Some false → slice_get m b ≡ Some x → IfCleanCells hs x

-- marks only grow
abbrev pub Extends : Marks → Marks → Type 0
Extends hs ks = (b : ℕ) (x : Bool) → slice_get hs b ≡ Some x → slice_get ks b ≡ Some x

pub clean_later : (hs ks : Marks) → Extends hs ks → (v : Value) → Clean hs v → Clean ks v
clean_later hs ks h (Integer n) c = c
clean_later hs ks h (Pointer b o) c = h b false c
clean_later hs ks h (Function f) c = tt

clean_cell_later : (hs ks : Marks) → Extends hs ks → (c : Cell) → CleanCell hs c → CleanCell ks c
clean_cell_later hs ks h (Plain b) c = c
clean_cell_later hs ks h (Part v i) c = clean_later hs ks h v c
clean_cell_later hs ks h Blank c = tt

clean_cells_later : (hs ks : Marks) → Extends hs ks → (cs : List Cell) → CleanCells hs cs → CleanCells ks cs
clean_cells_later hs ks h [] c = tt
clean_cells_later hs ks h (x ∷ cs) c = (clean_cell_later hs ks h x c.0, clean_cells_later hs ks h cs c.1)

clean_block_later : (hs ks : Marks) → Extends hs ks → (x : Option (List Cell)) → IfCleanCells hs x → IfCleanCells ks x
clean_block_later hs ks h None c = tt
clean_block_later hs ks h (Some cells) c = clean_cells_later hs ks h cells c

place_later : (hs ks : Marks) → Extends hs ks → (b : ℕ) (x : Bool) → slice_get hs b ≡ Some x → place ks b ≡ place hs b
place_later [] ks h b x e = absurd (let no : ⊥ = cc in no)
place_later (g ∷ hs) [] h b x e = absurd (let first = h zero g refl in let no : ⊥ = cc in no)
place_later (g ∷ hs) (k ∷ ks) h zero x e = refl
place_later (g ∷ hs) (k ∷ ks) h (suc b) x e =
    let first : Some k ≡ Some g = h zero g refl in
    let same : k ≡ g = cc in
    ap (λ z. counted z (place ks b)) same ∙ ap (counted g) (place_later hs ks (λ c y f. h (suc c) y f) b x e)

pub moved_later : (hs ks : Marks) → Extends hs ks → (v : Value) → Clean hs v → moved ks v ≡ moved hs v
moved_later hs ks h (Integer n) c = refl
moved_later hs ks h (Pointer b o) c = ap (λ n. Pointer n o) (place_later hs ks h b false c)
moved_later hs ks h (Function f) c = refl

cell_moved_later : (hs ks : Marks) → Extends hs ks → (c : Cell) → CleanCell hs c → moved_cell ks c ≡ moved_cell hs c
cell_moved_later hs ks h (Plain b) c = refl
cell_moved_later hs ks h (Part v i) c = ap (λ u. Part u i) (moved_later hs ks h v c)
cell_moved_later hs ks h Blank c = refl

cells_moved_later : (hs ks : Marks) → Extends hs ks → (cs : List Cell) → CleanCells hs cs → moved_cells ks cs ≡ moved_cells hs cs
cells_moved_later hs ks h [] c = refl
cells_moved_later hs ks h (x ∷ cs) c =
    ap (λ y. y ∷ moved_cells ks cs) (cell_moved_later hs ks h x c.0) ∙ ap (λ r. moved_cell hs x ∷ r) (cells_moved_later hs ks h cs c.1)

block_moved_later : (hs ks : Marks) → Extends hs ks → (x : Option (List Cell)) → IfCleanCells hs x → moved_block ks x ≡ moved_block hs x
block_moved_later hs ks h None c = refl
block_moved_later hs ks h (Some cells) c = ap (λ cs. Some cs) (cells_moved_later hs ks h cells c)

-- blocks that the marks hs don't hide have cells that are clean by the marks ks
abbrev CleanBy : (ks hs : Marks) → Memory → Type 0
CleanBy ks hs m = (b : ℕ) (x : Option (List Cell)) → slice_get hs b ≡ Some false → slice_get m b ≡ Some x → IfCleanCells ks x

shown_later : (ks js hs : Marks) (m : Memory) → Extends ks js → CleanBy ks hs m → shown_by js hs m ≡ shown_by ks hs m
shown_later ks js [] m ext c = refl
shown_later ks js (h ∷ hs) [] ext c = refl
shown_later ks js (true ∷ hs) (x ∷ m) ext c = shown_later ks js hs m ext (λ b y e g. c (suc b) y e g)
shown_later ks js (false ∷ hs) (x ∷ m) ext c =
    ap (λ y. y ∷ shown_by js hs m) (block_moved_later ks js ext x (c zero x refl refl))
    ∙ ap (λ r. moved_block ks x ∷ r) (shown_later ks js hs m ext (λ b y e g. c (suc b) y e g))

pub clean_both : (hs : Marks) (xs ys : List Cell) → CleanCells hs xs → CleanCells hs ys → CleanCells hs (xs ++ ys)
clean_both hs [] ys h k = k
clean_both hs (x ∷ xs) ys h k = (h.0, clean_both hs xs ys h.1 k)

clean_take : (hs : Marks) (n : ℕ) (xs : List Cell) → CleanCells hs xs → CleanCells hs (take n xs)
clean_take hs zero [] h = tt
clean_take hs zero (x ∷ xs) h = tt
clean_take hs (suc n) [] h = tt
clean_take hs (suc n) (x ∷ xs) h = (h.0, clean_take hs n xs h.1)

clean_drop : (hs : Marks) (n : ℕ) (xs : List Cell) → CleanCells hs xs → CleanCells hs (drop n xs)
clean_drop hs zero [] h = tt
clean_drop hs zero (x ∷ xs) h = h
clean_drop hs (suc n) [] h = tt
clean_drop hs (suc n) (x ∷ xs) h = clean_drop hs n xs h.1

pub clean_blanks : (hs : Marks) (n : ℕ) → CleanCells hs (replicate n Blank)
clean_blanks hs zero = tt
clean_blanks hs (suc n) = (tt, clean_blanks hs n)

pub clean_parts : (hs : Marks) (v : Value) → Clean hs v → CleanCells hs (parts v)
clean_parts hs v h = (h, (h, (h, (h, (h, (h, (h, (h, tt))))))))

pub clean_bytes : (hs : Marks) (k n : ℕ) → CleanCells hs (map Plain (bytes_of k n))
clean_bytes hs zero n = tt
clean_bytes hs (suc k) n = (mod-lt n (lit< tt), clean_bytes hs k (n / 256))

if_clean : (hs : Marks) (b : Bool) (cells : List Cell) → CleanCells hs cells → IfCleanCells hs (cond b (Some cells) None)
if_clean hs true cells h = h
if_clean hs false cells h = tt

cells_clean : (hs : Marks) (n : ℕ) (v : Value) → Clean hs v → IfCleanCells hs (cells_for n v)
cells_clean hs n (Integer k) h = clean_bytes hs n k
cells_clean hs n (Pointer b o) h = if_clean hs (nat_eq n 8) (parts (Pointer b o)) (clean_parts hs (Pointer b o) h)
cells_clean hs n (Function f) h = if_clean hs (nat_eq n 8) (parts (Function f)) (clean_parts hs (Function f) h)

-- ---- cells that are moved

bytes_moved : (hs : Marks) (bs : List ℕ) → moved_cells hs (map Plain bs) ≡ map Plain bs
bytes_moved hs [] = refl
bytes_moved hs (b ∷ bs) = ap (λ r. Plain b ∷ r) (bytes_moved hs bs)

blanks_moved : (hs : Marks) (n : ℕ) → moved_cells hs (replicate n Blank) ≡ replicate n Blank
blanks_moved hs zero = refl
blanks_moved hs (suc n) = ap (λ r. Blank ∷ r) (blanks_moved hs n)

if_moved : (hs : Marks) (b : Bool) (cells : List Cell) → cond b (Some (moved_cells hs cells)) None ≡ moved_block hs (cond b (Some cells) None)
if_moved hs true cells = refl
if_moved hs false cells = refl

cells_moved : (hs : Marks) (n : ℕ) (v : Value) → cells_for n (moved hs v) ≡ moved_block hs (cells_for n v)
cells_moved hs n (Integer k) = ap (λ cs. Some cs) (sym (bytes_moved hs (bytes_of n k)))
cells_moved hs n (Pointer b o) = if_moved hs (nat_eq n 8) (parts (Pointer b o))
cells_moved hs n (Function f) = if_moved hs (nat_eq n 8) (parts (Function f))

same_moved : (hs : Marks) (u v : Value) → Clean hs u → Clean hs v → same_value (moved hs u) (moved hs v) ≡ same_value u v
same_moved hs (Integer a) (Integer b) h k = refl
same_moved hs (Integer a) (Pointer b q) h k = refl
same_moved hs (Integer a) (Function g) h k = refl
same_moved hs (Pointer a o) (Integer b) h k = refl
same_moved hs (Pointer a o) (Pointer b q) h k = ap (λ x. x && nat_eq o q) (place_same hs a b h k)
same_moved hs (Pointer a o) (Function g) h k = refl
same_moved hs (Function f) (Integer b) h k = refl
same_moved hs (Function f) (Pointer b q) h k = refl
same_moved hs (Function f) (Function g) h k = refl

parts_moved : (hs : Marks) (k : ℕ) (v : Value) (cs : List Cell) → Clean hs v → CleanCells hs cs → are_parts_from k (moved hs v) (moved_cells hs cs) ≡ are_parts_from k v cs
parts_moved hs k v [] h c = refl
parts_moved hs k v (Plain b ∷ cs) h c = refl
parts_moved hs k v (Part u i ∷ cs) h c =
    ap (λ x. x && (nat_eq i k && are_parts_from (k + 1) (moved hs v) (moved_cells hs cs))) (same_moved hs u v c.0 h)
    ∙ ap (λ x. same_value u v && (nat_eq i k && x)) (parts_moved hs (k + 1) v cs h c.1)
parts_moved hs k v (Blank ∷ cs) h c = refl

pub plain_moved : (hs : Marks) (cs : List Cell) → plain_bytes (moved_cells hs cs) ≡ plain_bytes cs
plain_moved hs [] = refl
plain_moved hs (Plain b ∷ cs) = ap (option_map (λ bytes. b ∷ bytes)) (plain_moved hs cs)
plain_moved hs (Part v i ∷ cs) = refl
plain_moved hs (Blank ∷ cs) = refl

pub integer_moved : (hs : Marks) (o : Option ℕ) → option_map Integer o ≡ moved_if hs (option_map Integer o)
integer_moved hs None = refl
integer_moved hs (Some n) = refl

if_value : (hs : Marks) (b : Bool) (v : Value) → cond b (Some (moved hs v)) None ≡ moved_if hs (cond b (Some v) None)
if_value hs true v = refl
if_value hs false v = refl

value_moved : (hs : Marks) (cs : List Cell) → CleanCells hs cs → value_of (moved_cells hs cs) ≡ moved_if hs (value_of cs)
value_moved hs [] c = refl
value_moved hs (Plain b ∷ cs) c =
    ap (λ o. option_map Integer (option_map number_of o)) (plain_moved hs (Plain b ∷ cs))
    ∙ integer_moved hs (option_map number_of (plain_bytes (Plain b ∷ cs)))
value_moved hs (Part v i ∷ cs) c =
    ap (λ b. cond b (Some (moved hs v)) None) (parts_moved hs 0 v (Part v i ∷ cs) c.0 c) ∙ if_value hs (are_parts_from 0 v (Part v i ∷ cs)) v
value_moved hs (Blank ∷ cs) c = refl

span_moved : (hs : Marks) (o n : ℕ) (x : Option (List Cell)) → option_and_then (span o n) (moved_block hs x) ≡ moved_block hs (option_and_then (span o n) x)
span_moved hs o n None = refl
span_moved hs o n (Some cells) =
    ap (λ k. cond (nat_le (o + n) k) (Some (take n (drop o (moved_cells hs cells)))) None) (length-map cells (moved_cell hs))
    ∙ (ap (λ cs. cond (nat_le (o + n) (length cells)) (Some cs) None) (ap (take n) (drop-map (moved_cell hs) o cells) ∙ take-map (moved_cell hs) n (drop o cells))
    ∙ if_moved hs (nat_le (o + n) (length cells)) (take n (drop o cells)))

-- the cells with new ones from offset o
abbrev placed : ℕ → ℕ → List Cell → List Cell → List Cell
placed o n new cells = take o cells ++ (new ++ drop (o + n) cells)

placed_moved : (hs : Marks) (o n : ℕ) (new cells : List Cell) → placed o n (moved_cells hs new) (moved_cells hs cells) ≡ moved_cells hs (placed o n new cells)
placed_moved hs o n new cells =
    ap (λ cs. cs ++ (moved_cells hs new ++ drop (o + n) (moved_cells hs cells))) (take-map (moved_cell hs) o cells)
    ∙ (ap (λ cs. moved_cells hs (take o cells) ++ (moved_cells hs new ++ cs)) (drop-map (moved_cell hs) (o + n) cells)
    ∙ (ap (λ cs. moved_cells hs (take o cells) ++ cs) (sym (map-append (moved_cell hs) new (drop (o + n) cells)))
    ∙ sym (map-append (moved_cell hs) (take o cells) (new ++ drop (o + n) cells))))

put_moved : (hs : Marks) (o : ℕ) (new : List Cell) (x : Option (List Cell)) → option_and_then (put o (moved_cells hs new)) (moved_block hs x) ≡ moved_block hs (option_and_then (put o new) x)
put_moved hs o new None = refl
put_moved hs o new (Some cells) =
    ap (λ k. cond (nat_le (o + k) (length (moved_cells hs cells))) (Some (placed o k (moved_cells hs new) (moved_cells hs cells))) None) (length-map new (moved_cell hs))
    ∙ (ap (λ k. cond (nat_le (o + length new) k) (Some (placed o (length new) (moved_cells hs new) (moved_cells hs cells))) None) (length-map cells (moved_cell hs))
    ∙ (ap (λ cs. cond (nat_le (o + length new) (length cells)) (Some cs) None) (placed_moved hs o (length new) new cells)
    ∙ if_moved hs (nat_le (o + length new) (length cells)) (placed o (length new) new cells)))

-- ---- loads

block_clean_at : (hs : Marks) (m : Memory) (b : ℕ) → CleanMemory hs m → slice_get hs b ≡ Some false → (o : Option (Option (List Cell))) → slice_get m b ≡ o → IfCleanCells hs (option_flatten o)
block_clean_at hs m b h e None s = tt
block_clean_at hs m b h e (Some x) s = h b x e s

block_clean : (hs : Marks) (m : Memory) (b : ℕ) → CleanMemory hs m → slice_get hs b ≡ Some false → IfCleanCells hs (block_at m b)
block_clean hs m b h e = block_clean_at hs m b h e (slice_get m b) refl

flat_moved : (hs : Marks) (o : Option (Option (List Cell))) → option_flatten (option_map (moved_block hs) o) ≡ moved_block hs (option_flatten o)
flat_moved hs None = refl
flat_moved hs (Some x) = refl

pub block_shown : (hs : Marks) (m : Memory) (b : ℕ) → slice_get hs b ≡ Some false → block_at (shown hs m) (place hs b) ≡ moved_block hs (block_at m b)
block_shown hs m b e = ap option_flatten (get_shown hs hs m b e) ∙ flat_moved hs (slice_get m b)

span_clean : (hs : Marks) (o n : ℕ) (x : Option (List Cell)) → IfCleanCells hs x → IfCleanCells hs (option_and_then (span o n) x)
span_clean hs o n None h = tt
span_clean hs o n (Some cells) h =
    if_clean hs (nat_le (o + n) (length cells)) (take n (drop o cells)) (clean_take hs n (drop o cells) (clean_drop hs o cells h))

cells_at_clean : (hs : Marks) (m : Memory) (b o n : ℕ) → CleanMemory hs m → slice_get hs b ≡ Some false → IfCleanCells hs (cells_at m b o n)
cells_at_clean hs m b o n h e = span_clean hs o n (block_at m b) (block_clean hs m b h e)

pub cells_at_shown : (hs : Marks) (m : Memory) (b o n : ℕ) → slice_get hs b ≡ Some false → cells_at (shown hs m) (place hs b) o n ≡ moved_block hs (cells_at m b o n)
cells_at_shown hs m b o n e = ap (option_and_then (span o n)) (block_shown hs m b e) ∙ span_moved hs o n (block_at m b)

values_moved : (hs : Marks) (x : Option (List Cell)) → IfCleanCells hs x → option_and_then value_of (moved_block hs x) ≡ moved_if hs (option_and_then value_of x)
values_moved hs None c = refl
values_moved hs (Some cells) c = value_moved hs cells c

pub load_shown : (hs : Marks) (m : Memory) (n : ℕ) (p : Value) → CleanMemory hs m → Clean hs p → load (shown hs m) n (moved hs p) ≡ moved_if hs (load m n p)
unfolding load
load_shown hs m n (Integer k) c h = refl
load_shown hs m n (Pointer b o) c h =
    ap (option_and_then value_of) (cells_at_shown hs m b o n h) ∙ values_moved hs (cells_at m b o n) (cells_at_clean hs m b o n c h)
load_shown hs m n (Function f) c h = refl

-- a number of up to eight bytes
power_step : (b x p : ℕ) → b < 256 → x < p → b + 256 * x < 256 * p
power_step b x p h k = omega arith

few_bytes : (k : ℕ) → k ≤ 8 → 256 ^ k ≤ 2 ^ 64
few_bytes zero h = omega arith
few_bytes (suc zero) h = omega arith
few_bytes (suc (suc zero)) h = omega arith
few_bytes (suc (suc (suc zero))) h = omega arith
few_bytes (suc (suc (suc (suc zero)))) h = omega arith
few_bytes (suc (suc (suc (suc (suc zero))))) h = omega arith
few_bytes (suc (suc (suc (suc (suc (suc zero)))))) h = omega arith
few_bytes (suc (suc (suc (suc (suc (suc (suc zero))))))) h = omega arith
few_bytes (suc (suc (suc (suc (suc (suc (suc (suc zero)))))))) h = omega arith
few_bytes (suc (suc (suc (suc (suc (suc (suc (suc (suc k))))))))) h = absurd (omega arith)

-- the bytes' number is below the power for so many cells
abbrev Below : ℕ → Option (List ℕ) → Type 0
Below k None = Unit {0}
Below k (Some bytes) = number_of bytes < 256 ^ k

one_below : (hs : Marks) (k b : ℕ) (o : Option (List ℕ)) → b < 256 → Below k o → Below (suc k) (option_map (λ bytes. b ∷ bytes) o)
one_below hs k b None h e = tt
one_below hs k b (Some bytes) h e =
    subst (λ p. b + 256 * number_of bytes < p) (sym (pow-succ' 256 k)) (power_step b (number_of bytes) (256 ^ k) h e)

bytes_below : (hs : Marks) (cs : List Cell) → CleanCells hs cs → Below (length cs) (plain_bytes cs)
bytes_below hs [] h = lit< tt
bytes_below hs (Plain b ∷ cs) h = one_below hs (length cs) b (plain_bytes cs) h.0 (bytes_below hs cs h.1)
bytes_below hs (Part v i ∷ cs) h = tt
bytes_below hs (Blank ∷ cs) h = tt

number_clean : (hs : Marks) (k : ℕ) (o : Option (List ℕ)) → k ≤ 8 → Below k o → IfClean hs (option_map Integer (option_map number_of o))
number_clean hs k None le h = tt
number_clean hs k (Some bytes) le h = let most = few_bytes k le in omega (arith, h, most)

if_part : (hs : Marks) (b : Bool) (v : Value) → Clean hs v → IfClean hs (cond b (Some v) None)
if_part hs true v h = h
if_part hs false v h = tt

value_clean : (hs : Marks) (cs : List Cell) → length cs ≤ 8 → CleanCells hs cs → IfClean hs (value_of cs)
value_clean hs [] le h = lit< tt
value_clean hs (Plain b ∷ cs) le h = number_clean hs (length (Plain b ∷ cs)) (plain_bytes (Plain b ∷ cs)) le (bytes_below hs (Plain b ∷ cs) h)
value_clean hs (Part v i ∷ cs) le h = if_part hs (are_parts_from 0 v (Part v i ∷ cs)) v h.0
value_clean hs (Blank ∷ cs) le h = tt

-- a span is as long as it is asked for
abbrev Short : ℕ → Option (List Cell) → Type 0
Short n None = Unit {0}
Short n (Some cells) = length cells ≤ n

short_if : (n : ℕ) (b : Bool) (cells : List Cell) → length cells ≤ n → Short n (cond b (Some cells) None)
short_if n true cells h = h
short_if n false cells h = tt

short_take : (n : ℕ) (xs : List Cell) → length (take n xs) ≤ n
short_take zero [] = omega arith
short_take zero (x ∷ xs) = omega arith
short_take (suc n) [] = omega arith
short_take (suc n) (x ∷ xs) = omega (arith, short_take n xs)

span_short : (o n : ℕ) (x : Option (List Cell)) → Short n (option_and_then (span o n) x)
span_short o n None = tt
span_short o n (Some cells) = short_if n (nat_le (o + n) (length cells)) (take n (drop o cells)) (short_take n (drop o cells))

values_clean : (hs : Marks) (n : ℕ) (x : Option (List Cell)) → n ≤ 8 → Short n x → IfCleanCells hs x → IfClean hs (option_and_then value_of x)
values_clean hs n None le s h = tt
values_clean hs n (Some cells) le s h = value_clean hs cells (omega (arith, le, s)) h

pub load_clean : (hs : Marks) (m : Memory) (n : ℕ) (p : Value) → CleanMemory hs m → n ≤ 8 → Clean hs p → IfClean hs (load m n p)
unfolding load
load_clean hs m n (Integer k) h le c = tt
load_clean hs m n (Pointer b o) h le c =
    values_clean hs n (cells_at m b o n) le (span_short o n (block_at m b)) (cells_at_clean hs m b o n h c)
load_clean hs m n (Function f) h le c = tt

-- ---- stores

-- a memory that came from another by a change of blocks that aren't hidden
pub record Changed (hs : Marks) (m now : Memory) : Type 0 where
  pub long : length now ≡ length m
  pub clean : CleanMemory hs now
  pub kept : (b : ℕ) → slice_get hs b ≡ Some true → slice_get now b ≡ slice_get m b

abbrev pub IfChanged : Marks → Memory → Option Memory → Type 0
IfChanged hs m None = Unit {0}
IfChanged hs m (Some now) = Changed hs m now

differ_by : (hs : Marks) (a b : ℕ) (t : Bool) → nat_eq a b ≡ t → slice_get hs a ≡ Some true → slice_get hs b ≡ Some false → t ≡ false
differ_by hs a b false e h k = refl
differ_by hs a b true e h k =
    let same : a ≡ b = eqb-true a b e in let both : slice_get hs a ≡ slice_get hs b = ap (slice_get hs) same in absurd (let no : ⊥ = cc in no)

pub marks_differ : (hs : Marks) (a b : ℕ) → slice_get hs a ≡ Some true → slice_get hs b ≡ Some false → nat_eq a b ≡ false
marks_differ hs a b h k = differ_by hs a b (nat_eq a b) refl h k

set_changed : (hs : Marks) (m : Memory) (b : ℕ) (cells : List Cell) → CleanMemory hs m → slice_get hs b ≡ Some false → CleanCells hs cells → Changed hs m (slice_set m b (Some cells))
set_changed hs m b cells h e c =
    record {
      long = length-set m b (Some cells);
      clean = λ d x f g. get_set (IfCleanCells hs) m b d (Some cells) x c (λ z s. h d z f s) g;
      kept = λ d f. get_set_other m b d (Some cells) (marks_differ hs d b f e);
    }

put_clean : (hs : Marks) (o : ℕ) (new : List Cell) (x : Option (List Cell)) → CleanCells hs new → IfCleanCells hs x → IfCleanCells hs (option_and_then (put o new) x)
put_clean hs o new None c h = tt
put_clean hs o new (Some cells) c h =
    if_clean hs (nat_le (o + length new) (length cells)) (take o cells ++ (new ++ drop (o + length new) cells))
    (clean_both hs (take o cells) (new ++ drop (o + length new) cells) (clean_take hs o cells h)
    (clean_both hs new (drop (o + length new) cells) c (clean_drop hs (o + length new) cells h)))

wrote : (hs : Marks) (m : Memory) (b : ℕ) (x : Option (List Cell)) → CleanMemory hs m → slice_get hs b ≡ Some false → IfCleanCells hs x → IfChanged hs m (option_map (λ cells. slice_set m b (Some cells)) x)
wrote hs m b None h e c = tt
wrote hs m b (Some cells) h e c = set_changed hs m b cells h e c

wrote_shows : (hs : Marks) (m : Memory) (b : ℕ) (x : Option (List Cell)) → slice_get hs b ≡ Some false → option_map (λ cells. slice_set (shown hs m) (place hs b) (Some cells)) (moved_block hs x) ≡ option_map (shown hs) (option_map (λ cells. slice_set m b (Some cells)) x)
wrote_shows hs m b None e = refl
wrote_shows hs m b (Some cells) e = ap (λ k. Some k) (sym (set_shown hs hs m b (Some cells) e))

write_changed : (hs : Marks) (m : Memory) (b o : ℕ) (new : List Cell) → CleanMemory hs m → slice_get hs b ≡ Some false → CleanCells hs new → IfChanged hs m (write_at m b o new)
write_changed hs m b o new h e c = wrote hs m b (option_and_then (put o new) (block_at m b)) h e (put_clean hs o new (block_at m b) c (block_clean hs m b h e))

write_shows : (hs : Marks) (m : Memory) (b o : ℕ) (new : List Cell) → slice_get hs b ≡ Some false → write_at (shown hs m) (place hs b) o (moved_cells hs new) ≡ option_map (shown hs) (write_at m b o new)
write_shows hs m b o new e =
    ap (λ x. option_map (λ cells. slice_set (shown hs m) (place hs b) (Some cells)) (option_and_then (put o (moved_cells hs new)) x)) (block_shown hs m b e)
    ∙ (ap (option_map (λ cells. slice_set (shown hs m) (place hs b) (Some cells))) (put_moved hs o new (block_at m b))
    ∙ wrote_shows hs m b (option_and_then (put o new) (block_at m b)) e)

writes_changed : (hs : Marks) (m : Memory) (b o : ℕ) (x : Option (List Cell)) → CleanMemory hs m → slice_get hs b ≡ Some false → IfCleanCells hs x → IfChanged hs m (option_and_then (write_at m b o) x)
writes_changed hs m b o None h e c = tt
writes_changed hs m b o (Some new) h e c = write_changed hs m b o new h e c

writes_show : (hs : Marks) (m : Memory) (b o : ℕ) (x : Option (List Cell)) → slice_get hs b ≡ Some false → option_and_then (write_at (shown hs m) (place hs b) o) (moved_block hs x) ≡ option_map (shown hs) (option_and_then (write_at m b o) x)
writes_show hs m b o None e = refl
writes_show hs m b o (Some new) e = write_shows hs m b o new e

pub store_changed : (hs : Marks) (m : Memory) (n : ℕ) (p v : Value) → CleanMemory hs m → Clean hs p → Clean hs v → IfChanged hs m (store m n p v)
unfolding store
store_changed hs m n (Integer k) v h c d = tt
store_changed hs m n (Pointer b o) v h c d = writes_changed hs m b o (cells_for n v) h c (cells_clean hs n v d)
store_changed hs m n (Function f) v h c d = tt

pub store_shows : (hs : Marks) (m : Memory) (n : ℕ) (p v : Value) → Clean hs p → store (shown hs m) n (moved hs p) (moved hs v) ≡ option_map (shown hs) (store m n p v)
unfolding store
store_shows hs m n (Integer k) v c = refl
store_shows hs m n (Pointer b o) v c = ap (option_and_then (write_at (shown hs m) (place hs b) o)) (cells_moved hs n v) ∙ writes_show hs m b o (cells_for n v) c
store_shows hs m n (Function f) v c = refl

nothing_changed : (hs : Marks) (m : Memory) → CleanMemory hs m → Changed hs m m
nothing_changed hs m h = record { long = refl; clean = h; kept = λ b e. refl }

if_changed : (hs : Marks) (m : Memory) (b : Bool) (o : Option Memory) → IfChanged hs m o → IfChanged hs m (cond b o None)
if_changed hs m true o h = h
if_changed hs m false o h = tt

if_shows : (hs : Marks) (b : Bool) (o p : Option Memory) → p ≡ option_map (shown hs) o → cond b p None ≡ option_map (shown hs) (cond b o None)
if_shows hs true o p h = h
if_shows hs false o p h = refl

pub copy_changed : (hs : Marks) (m : Memory) (n : ℕ) (p q : Value) → CleanMemory hs m → Clean hs p → Clean hs q → IfChanged hs m (copy m n p q)
unfolding copy
copy_changed hs m zero p q h c d = nothing_changed hs m h
copy_changed hs m (suc n) (Pointer a o) (Pointer b q) h c d =
    if_changed hs m (apart_or_same (suc n) a o b q) (option_and_then (write_at m b q) (cells_at m a o (suc n)))
    (writes_changed hs m b q (cells_at m a o (suc n)) h d (cells_at_clean hs m a o (suc n) h c))
copy_changed hs m (suc n) (Pointer a o) (Integer k) h c d = tt
copy_changed hs m (suc n) (Pointer a o) (Function f) h c d = tt
copy_changed hs m (suc n) (Integer k) q h c d = tt
copy_changed hs m (suc n) (Function f) q h c d = tt

pub copy_shows : (hs : Marks) (m : Memory) (n : ℕ) (p q : Value) → Clean hs p → Clean hs q → copy (shown hs m) n (moved hs p) (moved hs q) ≡ option_map (shown hs) (copy m n p q)
unfolding copy
copy_shows hs m zero p q c d = refl
copy_shows hs m (suc n) (Pointer a o) (Pointer b q) c d =
    ap (λ t. cond (not t || (nat_eq o q || (nat_le (o + suc n) q || nat_le (q + suc n) o))) (option_and_then (write_at (shown hs m) (place hs b) q) (cells_at (shown hs m) (place hs a) o (suc n))) None) (place_same hs a b c d)
    ∙ if_shows hs (apart_or_same (suc n) a o b q) (option_and_then (write_at m b q) (cells_at m a o (suc n))) (option_and_then (write_at (shown hs m) (place hs b) q) (cells_at (shown hs m) (place hs a) o (suc n)))
    (ap (option_and_then (write_at (shown hs m) (place hs b) q)) (cells_at_shown hs m a o (suc n) c) ∙ writes_show hs m b q (cells_at m a o (suc n)) d)
copy_shows hs m (suc n) (Pointer a o) (Integer k) c d = refl
copy_shows hs m (suc n) (Pointer a o) (Function f) c d = refl
copy_shows hs m (suc n) (Integer k) q c d = refl
copy_shows hs m (suc n) (Function f) q c d = refl

-- ---- fresh blocks

pub get_end : {X : Type 0} (P : X → Type 0) (xs : List X) (x y : X) (b : ℕ) → P x → ((z : X) → slice_get xs b ≡ Some z → P z) → slice_get (xs ++ x ∷ []) b ≡ Some y → P y
get_end P [] x y zero new old e = let same : x ≡ y = cc in subst P same new
get_end P [] x y (suc b) new old e = absurd (let no : ⊥ = cc in no)
get_end P (z ∷ zs) x y zero new old e = old y e
get_end P (z ∷ zs) x y (suc b) new old e = get_end P zs x y b new old e

pub marks_grow : (hs : Marks) (h : Bool) → Extends hs (hs ++ h ∷ [])
marks_grow hs h b x e = get_before hs (h ∷ []) b x e

hidden_last : (ks hs : Marks) (m : Memory) (n : ℕ) → length hs ≡ length m → shown_by ks (hs ++ true ∷ []) (fresh m n) ≡ shown_by ks hs m
hidden_last ks [] [] n e = refl
hidden_last ks [] (b ∷ m) n e = absurd (omega (arith, e))
hidden_last ks (g ∷ hs) [] n e = absurd (omega (arith, e))
hidden_last ks (true ∷ hs) (b ∷ m) n e = hidden_last ks hs m n (omega (arith, e))
hidden_last ks (false ∷ hs) (b ∷ m) n e = ap (λ r. moved_block ks b ∷ r) (hidden_last ks hs m n (omega (arith, e)))

shown_last : (ks hs : Marks) (m : Memory) (n : ℕ) → length hs ≡ length m → shown_by ks (hs ++ false ∷ []) (fresh m n) ≡ fresh (shown_by ks hs m) n
shown_last ks [] [] n e = ap (λ cs. Some cs ∷ []) (blanks_moved ks n)
shown_last ks [] (b ∷ m) n e = absurd (omega (arith, e))
shown_last ks (g ∷ hs) [] n e = absurd (omega (arith, e))
shown_last ks (true ∷ hs) (b ∷ m) n e = shown_last ks hs m n (omega (arith, e))
shown_last ks (false ∷ hs) (b ∷ m) n e = ap (λ r. moved_block ks b ∷ r) (shown_last ks hs m n (omega (arith, e)))

-- a fresh block that is hidden leaves the other memory as it was
pub fresh_hidden : (hs : Marks) (m : Memory) (n : ℕ) → length hs ≡ length m → CleanMemory hs m → shown (hs ++ true ∷ []) (fresh m n) ≡ shown hs m
fresh_hidden hs m n e c = hidden_last (hs ++ true ∷ []) hs m n e ∙ shown_later hs (hs ++ true ∷ []) hs m (marks_grow hs true) c

-- another is made there too
pub fresh_shown : (hs : Marks) (m : Memory) (n : ℕ) → length hs ≡ length m → CleanMemory hs m → shown (hs ++ false ∷ []) (fresh m n) ≡ fresh (shown hs m) n
fresh_shown hs m n e c =
    shown_last (hs ++ false ∷ []) hs m n e ∙ ap (λ k. fresh k n) (shown_later hs (hs ++ false ∷ []) hs m (marks_grow hs false) c)

place_last : (ks hs : Marks) (m : Memory) (h : Bool) (n : ℕ) → length hs ≡ length m → n ≡ length m → place (hs ++ h ∷ []) n ≡ length (shown_by ks hs m)
place_last ks [] [] h zero e f = refl
place_last ks [] [] h (suc n) e f = absurd (omega (arith, f))
place_last ks [] (b ∷ m) h n e f = absurd (omega (arith, e))
place_last ks (g ∷ hs) [] h n e f = absurd (omega (arith, e))
place_last ks (g ∷ hs) (b ∷ m) h zero e f = absurd (omega (arith, f))
place_last ks (true ∷ hs) (b ∷ m) h (suc n) e f = place_last ks hs m h n (omega (arith, e)) (omega (arith, f))
place_last ks (false ∷ hs) (b ∷ m) h (suc n) e f = ap suc (place_last ks hs m h n (omega (arith, e)) (omega (arith, f)))

-- a fresh block's number is the length of the memory before, there too
pub place_fresh : (hs : Marks) (m : Memory) (h : Bool) → length hs ≡ length m → place (hs ++ h ∷ []) (length m) ≡ length (shown hs m)
place_fresh hs m h e = place_last hs hs m h (length m) e refl

end_mark : (hs : Marks) (h : Bool) (b : ℕ) → b < length hs → slice_get (hs ++ h ∷ []) b ≡ slice_get hs b
end_mark [] h b lt = absurd (omega arith)
end_mark (g ∷ hs) h zero lt = refl
end_mark (g ∷ hs) h (suc b) lt = end_mark hs h b (omega arith)

pub fresh_clean : (hs ks : Marks) (m : Memory) (h : Bool) (n : ℕ) → ks ≡ hs ++ h ∷ [] → Extends hs ks → length hs ≡ length m → CleanMemory hs m → CleanMemory ks (fresh m n)
fresh_clean hs ks m h n is ext l c b x e g =
    get_end (IfCleanCells ks) m (Some (replicate n Blank)) x b (clean_blanks ks n)
    (λ z f.
    let within = slice_get_within m b z f in
    let old : slice_get hs b ≡ Some false = sym (end_mark hs h b (omega (arith, within, l))) ∙ (sym (ap (λ k. slice_get k b) is) ∙ e) in
    clean_block_later hs ks ext z (c b z old f)) g

free_clean : (hs : Marks) (m : Memory) (b : ℕ) → CleanMemory hs m → CleanMemory hs (free m b)
free_clean hs m b h d x e g = get_set (IfCleanCells hs) m b d None x tt (λ z s. h d z e s) g

pub free_all_clean : (hs : Marks) (m : Memory) (bs : List ℕ) → CleanMemory hs m → CleanMemory hs (free_all m bs)
free_all_clean hs m [] h = h
free_all_clean hs m (b ∷ bs) h = free_all_clean hs (free m b) bs (free_clean hs m b h)

-- ---- the blocks of an activation

-- a block that there is, made since the first `first` ones
pub record Made (hs : Marks) (first b : ℕ) : Type 0 where
  pub since : first ≤ b
  pub mark : Bool
  pub is : slice_get hs b ≡ Some mark

abbrev pub AllMade : Marks → ℕ → List ℕ → Type 0
AllMade hs first [] = Unit {0}
AllMade hs first (b ∷ bs) = Made hs first b × AllMade hs first bs

-- the number of block b, if it isn't hidden, and then others
abbrev number_if : Marks → ℕ → Option Bool → List ℕ → List ℕ
number_if hs b None ns = ns
number_if hs b (Some true) ns = ns
number_if hs b (Some false) ns = place hs b ∷ ns

-- the numbers of those of these blocks that aren't hidden
abbrev pub places : Marks → List ℕ → List ℕ
places hs [] = []
places hs (b ∷ bs) = number_if hs b (slice_get hs b) (places hs bs)

pub made_later : (hs ks : Marks) (first : ℕ) (bs : List ℕ) → Extends hs ks → AllMade hs first bs → AllMade ks first bs
made_later hs ks first [] ext h = tt
made_later hs ks first (b ∷ bs) ext h = (
  record { since = h.0.since; mark = h.0.mark; is = ext b h.0.mark h.0.is },
  made_later hs ks first bs ext h.1,
)

number_later : (hs ks : Marks) (b : ℕ) (x : Bool) (ns : List ℕ) → Extends hs ks → slice_get hs b ≡ Some x → number_if ks b (slice_get ks b) ns ≡ number_if hs b (slice_get hs b) ns
number_later hs ks b true ns ext e = ap (λ o. number_if ks b o ns) (ext b true e) ∙ sym (ap (λ o. number_if hs b o ns) e)
number_later hs ks b false ns ext e =
    ap (λ o. number_if ks b o ns) (ext b false e) ∙ (ap (λ n. n ∷ ns) (place_later hs ks ext b false e) ∙ sym (ap (λ o. number_if hs b o ns) e))

pub places_later : (hs ks : Marks) (first : ℕ) (bs : List ℕ) → Extends hs ks → AllMade hs first bs → places ks bs ≡ places hs bs
places_later hs ks first [] ext h = refl
places_later hs ks first (b ∷ bs) ext h =
    number_later hs ks b h.0.mark (places ks bs) ext h.0.is ∙ ap (number_if hs b (slice_get hs b)) (places_later hs ks first bs ext h.1)

number_both : (hs : Marks) (b : ℕ) (o : Option Bool) (xs ys : List ℕ) → number_if hs b o (xs ++ ys) ≡ number_if hs b o xs ++ ys
number_both hs b None xs ys = refl
number_both hs b (Some true) xs ys = refl
number_both hs b (Some false) xs ys = refl

pub places_both : (hs : Marks) (bs cs : List ℕ) → places hs (bs ++ cs) ≡ places hs bs ++ places hs cs
places_both hs [] cs = refl
places_both hs (b ∷ bs) cs = ap (number_if hs b (slice_get hs b)) (places_both hs bs cs) ∙ number_both hs b (slice_get hs b) (places hs bs) (places hs cs)

-- a block that is made, at the end of those of an activation
pub places_hidden : (hs : Marks) (b : ℕ) → slice_get hs b ≡ Some true → places hs (b ∷ []) ≡ []
places_hidden hs b e = ap (λ o. number_if hs b o []) e

pub places_shown : (hs : Marks) (b : ℕ) → slice_get hs b ≡ Some false → places hs (b ∷ []) ≡ place hs b ∷ []
places_shown hs b e = ap (λ o. number_if hs b o []) e

free_shows : (hs : Marks) (m : Memory) (b : ℕ) (x : Bool) (ns : List ℕ) → slice_get hs b ≡ Some x → free_all (shown hs (free m b)) ns ≡ free_all (shown hs m) (number_if hs b (slice_get hs b) ns)
free_shows hs m b true ns e =
    ap (λ k. free_all k ns) (set_hidden hs m b None e) ∙ sym (ap (λ o. free_all (shown hs m) (number_if hs b o ns)) e)
free_shows hs m b false ns e =
    ap (λ k. free_all k ns) (set_shown hs hs m b None e) ∙ sym (ap (λ o. free_all (shown hs m) (number_if hs b o ns)) e)

pub free_all_shows : (hs : Marks) (m : Memory) (first : ℕ) (bs : List ℕ) → AllMade hs first bs → shown hs (free_all m bs) ≡ free_all (shown hs m) (places hs bs)
free_all_shows hs m first [] h = refl
free_all_shows hs m first (b ∷ bs) h =
    free_all_shows hs (free m b) first bs h.1 ∙ free_shows hs m b h.0.mark (places hs bs) h.0.is
