-- Operations on clean values see no hidden block, and give clean values: on values that are moved, what they gave, moved.
use Rattle.std.proofs.Common.{◌≡◌, ℕ, ◌+◌, ◌-◌, ◌%◌, ◌^◌, ◌<◌, Bool, true, false, ◌&&◌, nat_eq, nat_le, nat_lt, cond, List, length, refl, ◌∙◌, ap, arith, lit<, mod-lt, slice_get, Option, Some, None}
use Rattle.std.proofs.lemmas.List.{length-map}
use Rattle.std.specs.Option.{option_map, option_and_then, option_map_or}
use Rattle.il_ast.specs.declared.operation.Class.{Class}
use Rattle.il_ast.specs.declared.operation.Class.TheVariants.{W, L}
use Rattle.il_ast.specs.declared.operation.Extension.{Extension}
use Rattle.il_ast.specs.declared.operation.UnaryOp.{UnaryOp}
use Rattle.il_ast.specs.declared.operation.UnaryOp.TheVariants.{Neg, Copy, Extend, LoadLong, Load}
use Rattle.il_ast.specs.declared.operation.Condition.{Condition}
use Rattle.il_ast.specs.declared.operation.BinaryOp.{BinaryOp}
use Rattle.il_ast.specs.declared.operation.BinaryOp.TheVariants.{Add, Sub, Mul, And, Or, Xor, Div, Rem, Udiv, Urem, Sar, Shr, Shl, Compare}
use Rattle.il_ast.specs.declared.value.Value.{Value}
use Rattle.il_ast.specs.declared.value.Value.TheVariants.{Integer, Pointer, Function}
use Rattle.il_ast.specs.declared.value.Cell.{Cell}
use Rattle.il_ast.specs.Prelude.{modulus, in_place, Memory, block_at, load, size_at, left_class, right_class, on_integers, extension_bytes, truth, where_different, on_offsets, reaches, lies_in, compare_pointers, compare_with_zero, compare_places, on_places, widened, operate_one, operate_two}
use Rattle.promote.proofs.Ranges.{IfBelow, integers_fit, extended_fits, neg_fits, modulus_fits}
use Rattle.promote.proofs.Hiding.{Marks, place, moved, moved_if, moved_cell, moved_block, shown, Clean, IfClean, CleanMemory, place_same, integer_moved, block_shown, load_shown, load_clean}

-- ---- one operand

widened_moved : (hs : Marks) (e : Extension) (c : Class) (v : Value) → widened e c (moved hs v) ≡ moved_if hs (widened e c v)
widened_moved hs e c (Integer n) = refl
widened_moved hs e c (Pointer b o) = refl
widened_moved hs e c (Function f) = refl

then_widened_moved : (hs : Marks) (e : Extension) (c : Class) (o : Option Value) → option_and_then (widened e c) (moved_if hs o) ≡ moved_if hs (option_and_then (widened e c) o)
then_widened_moved hs e c None = refl
then_widened_moved hs e c (Some v) = widened_moved hs e c v

pub one_shown : (hs : Marks) (m : Memory) (op : UnaryOp) (c : Class) (v : Value) → CleanMemory hs m → Clean hs v → operate_one (shown hs m) op c (moved hs v) ≡ moved_if hs (operate_one m op c v)
unfolding operate_one
one_shown hs m Neg c (Integer n) k h = refl
one_shown hs m Neg c (Pointer b o) k h = refl
one_shown hs m Neg c (Function f) k h = refl
one_shown hs m Copy c v k h = refl
one_shown hs m (Extend e) c v k h = widened_moved hs e c v
one_shown hs m LoadLong c v k h = load_shown hs m 8 v k h
one_shown hs m (Load e) c v k h =
    ap (option_and_then (widened e c)) (load_shown hs m (extension_bytes e) v k h) ∙ then_widened_moved hs e c (load m (extension_bytes e) v)

widened_clean : (hs : Marks) (e : Extension) (c : Class) (v : Value) → IfClean hs (widened e c v)
widened_clean hs e c (Integer n) = extended_fits e c n
widened_clean hs e c (Pointer b o) = tt
widened_clean hs e c (Function f) = tt

then_widened : (hs : Marks) (e : Extension) (c : Class) (o : Option Value) → IfClean hs (option_and_then (widened e c) o)
then_widened hs e c None = tt
then_widened hs e c (Some v) = widened_clean hs e c v

pub one_clean : (hs : Marks) (m : Memory) (op : UnaryOp) (c : Class) (v : Value) → CleanMemory hs m → Clean hs v → IfClean hs (operate_one m op c v)
unfolding operate_one
one_clean hs m Neg c (Integer n) k h = neg_fits c n
one_clean hs m Neg c (Pointer b o) k h = tt
one_clean hs m Neg c (Function f) k h = tt
one_clean hs m Copy c v k h = h
one_clean hs m (Extend e) c v k h = widened_clean hs e c v
one_clean hs m LoadLong c v k h = load_clean hs m 8 v k (omega arith) h
one_clean hs m (Load e) c v k h = then_widened hs e c (load m (extension_bytes e) v)

-- ---- two operands

size_moved : (hs : Marks) (x : Option (List Cell)) → option_map length (moved_block hs x) ≡ option_map length x
size_moved hs None = refl
size_moved hs (Some cells) = ap (λ n. Some n) (length-map cells (moved_cell hs))

size_shown : (hs : Marks) (m : Memory) (b o : ℕ) → Clean hs (Pointer b o) → size_at (shown hs m) (place hs b) ≡ size_at m b
size_shown hs m b o h = ap (option_map length) (block_shown hs m b h) ∙ size_moved hs (block_at m b)

reaches_shown : (hs : Marks) (m : Memory) (b o : ℕ) → Clean hs (Pointer b o) → reaches (shown hs m) (place hs b) o ≡ reaches m b o
reaches_shown hs m b o h = ap (λ s. option_map_or (λ size. nat_le o size) s false) (size_shown hs m b o h)

lies_shown : (hs : Marks) (m : Memory) (b o : ℕ) → Clean hs (Pointer b o) → lies_in (shown hs m) (place hs b) o ≡ lies_in m b o
lies_shown hs m b o h = ap (λ s. option_map_or (λ size. nat_lt o size) s false) (size_shown hs m b o h)

-- the answer about two pointers, by what it asks of them
abbrev pointers_by : Condition → ℕ → ℕ → (same first second lies also : Bool) → Option Bool
pointers_by on o q same first second lies also =
    cond same (cond (first && second) (on_offsets on o q) None) (cond (lies && also) (where_different on) None)

pointers_shown : (hs : Marks) (m : Memory) (on : Condition) (a o b q : ℕ) → Clean hs (Pointer a o) → Clean hs (Pointer b q) → compare_pointers (shown hs m) on (place hs a) o (place hs b) q ≡ compare_pointers m on a o b q
pointers_shown hs m on a o b q h k =
    ap (λ x. pointers_by on o q x (reaches (shown hs m) (place hs a) o) (reaches (shown hs m) (place hs b) q) (lies_in (shown hs m) (place hs a) o) (lies_in (shown hs m) (place hs b) q)) (place_same hs a b h k)
    ∙ (ap (λ x. pointers_by on o q (nat_eq a b) x (reaches (shown hs m) (place hs b) q) (lies_in (shown hs m) (place hs a) o) (lies_in (shown hs m) (place hs b) q)) (reaches_shown hs m a o h)
    ∙ (ap (λ x. pointers_by on o q (nat_eq a b) (reaches m a o) x (lies_in (shown hs m) (place hs a) o) (lies_in (shown hs m) (place hs b) q)) (reaches_shown hs m b q k)
    ∙ (ap (λ x. pointers_by on o q (nat_eq a b) (reaches m a o) (reaches m b q) x (lies_in (shown hs m) (place hs b) q)) (lies_shown hs m a o h)
    ∙ ap (pointers_by on o q (nat_eq a b) (reaches m a o) (reaches m b q) (lies_in m a o)) (lies_shown hs m b q k))))

zero_shown : (hs : Marks) (m : Memory) (on : Condition) (n b o : ℕ) → Clean hs (Pointer b o) → compare_with_zero (shown hs m) on n (place hs b) o ≡ compare_with_zero m on n b o
zero_shown hs m on n b o h = ap (λ x. cond (nat_eq n 0 && x) (where_different on) None) (reaches_shown hs m b o h)

places_shown : (hs : Marks) (m : Memory) (on : Condition) (u v : Value) → Clean hs u → Clean hs v → compare_places (shown hs m) on (moved hs u) (moved hs v) ≡ compare_places m on u v
places_shown hs m on (Pointer a o) (Pointer b q) h k = pointers_shown hs m on a o b q h k
places_shown hs m on (Pointer b o) (Integer n) h k = zero_shown hs m on n b o h
places_shown hs m on (Pointer b o) (Function f) h k = refl
places_shown hs m on (Integer n) (Pointer b o) h k = zero_shown hs m on n b o k
places_shown hs m on (Integer n) (Integer j) h k = refl
places_shown hs m on (Integer n) (Function f) h k = refl
places_shown hs m on (Function f) (Pointer b o) h k = refl
places_shown hs m on (Function f) (Integer n) h k = refl
places_shown hs m on (Function f) (Function g) h k = refl

truth_moved : (hs : Marks) (o : Option Bool) → option_map (λ t. Integer (truth t)) o ≡ moved_if hs (option_map (λ t. Integer (truth t)) o)
truth_moved hs None = refl
truth_moved hs (Some t) = refl

if_integer_moved : (hs : Marks) (b : Bool) (n : ℕ) → cond b (Some (Integer n)) None ≡ moved_if hs (cond b (Some (Integer n)) None)
if_integer_moved hs true n = refl
if_integer_moved hs false n = refl

on_places_shown : (hs : Marks) (m : Memory) (op : BinaryOp) (u v : Value) → Clean hs u → Clean hs v → on_places (shown hs m) op (moved hs u) (moved hs v) ≡ moved_if hs (on_places m op u v)
on_places_shown hs m (Compare on c) u v h k =
    ap (option_map (λ t. Integer (truth t))) (places_shown hs m on u v h k) ∙ truth_moved hs (compare_places m on u v)
on_places_shown hs m Add (Pointer b o) (Integer n) h k = refl
on_places_shown hs m Add (Pointer b o) (Pointer d q) h k = refl
on_places_shown hs m Add (Pointer b o) (Function f) h k = refl
on_places_shown hs m Add (Integer n) (Pointer b o) h k = refl
on_places_shown hs m Add (Integer n) (Integer j) h k = refl
on_places_shown hs m Add (Integer n) (Function f) h k = refl
on_places_shown hs m Add (Function f) v h k = refl
on_places_shown hs m Sub (Pointer b o) (Integer n) h k = refl
on_places_shown hs m Sub (Pointer b o) (Pointer d q) h k =
    ap (λ t. cond t (Some (Integer ((o + (2 ^ 64 - q % 2 ^ 64)) % 2 ^ 64))) None) (place_same hs b d h k)
    ∙ if_integer_moved hs (nat_eq b d) ((o + (2 ^ 64 - q % 2 ^ 64)) % 2 ^ 64)
on_places_shown hs m Sub (Pointer b o) (Function f) h k = refl
on_places_shown hs m Sub (Integer n) v h k = refl
on_places_shown hs m Sub (Function f) v h k = refl
on_places_shown hs m Mul u v h k = refl
on_places_shown hs m And u v h k = refl
on_places_shown hs m Or u v h k = refl
on_places_shown hs m Xor u v h k = refl
on_places_shown hs m Div u v h k = refl
on_places_shown hs m Rem u v h k = refl
on_places_shown hs m Udiv u v h k = refl
on_places_shown hs m Urem u v h k = refl
on_places_shown hs m Sar u v h k = refl
on_places_shown hs m Shr u v h k = refl
on_places_shown hs m Shl u v h k = refl

pub two_shown : (hs : Marks) (m : Memory) (op : BinaryOp) (c : Class) (u v : Value) → Clean hs u → Clean hs v → operate_two (shown hs m) op c (moved hs u) (moved hs v) ≡ moved_if hs (operate_two m op c u v)
unfolding operate_two
two_shown hs m op c (Integer a) (Integer b) h k = integer_moved hs (on_integers op c a b)
two_shown hs m op c (Integer a) (Pointer b o) h k = on_places_shown hs m op (Integer a) (Pointer b o) h k
two_shown hs m op c (Integer a) (Function f) h k = on_places_shown hs m op (Integer a) (Function f) h k
two_shown hs m op c (Pointer b o) v h k = on_places_shown hs m op (Pointer b o) v h k
two_shown hs m op c (Function f) v h k = on_places_shown hs m op (Function f) v h k

truth_clean : (hs : Marks) (o : Option Bool) → IfClean hs (option_map (λ t. Integer (truth t)) o)
truth_clean hs None = tt
truth_clean hs (Some true) = lit< tt
truth_clean hs (Some false) = lit< tt

if_integer : (hs : Marks) (b : Bool) (n : ℕ) → n < 2 ^ 64 → IfClean hs (cond b (Some (Integer n)) None)
if_integer hs true n h = h
if_integer hs false n h = tt

on_places_clean : (hs : Marks) (m : Memory) (op : BinaryOp) (u v : Value) → Clean hs u → Clean hs v → IfClean hs (on_places m op u v)
on_places_clean hs m (Compare on c) u v h k = truth_clean hs (compare_places m on u v)
on_places_clean hs m Add (Pointer b o) (Integer n) h k = h
on_places_clean hs m Add (Pointer b o) (Pointer d q) h k = tt
on_places_clean hs m Add (Pointer b o) (Function f) h k = tt
on_places_clean hs m Add (Integer n) (Pointer b o) h k = k
on_places_clean hs m Add (Integer n) (Integer j) h k = tt
on_places_clean hs m Add (Integer n) (Function f) h k = tt
on_places_clean hs m Add (Function f) v h k = tt
on_places_clean hs m Sub (Pointer b o) (Integer n) h k = h
on_places_clean hs m Sub (Pointer b o) (Pointer d q) h k =
    if_integer hs (nat_eq b d) ((o + (2 ^ 64 - q % 2 ^ 64)) % 2 ^ 64) (mod-lt (o + (2 ^ 64 - q % 2 ^ 64)) (lit< tt))
on_places_clean hs m Sub (Pointer b o) (Function f) h k = tt
on_places_clean hs m Sub (Integer n) v h k = tt
on_places_clean hs m Sub (Function f) v h k = tt
on_places_clean hs m Mul u v h k = tt
on_places_clean hs m And u v h k = tt
on_places_clean hs m Or u v h k = tt
on_places_clean hs m Xor u v h k = tt
on_places_clean hs m Div u v h k = tt
on_places_clean hs m Rem u v h k = tt
on_places_clean hs m Udiv u v h k = tt
on_places_clean hs m Urem u v h k = tt
on_places_clean hs m Sar u v h k = tt
on_places_clean hs m Shr u v h k = tt
on_places_clean hs m Shl u v h k = tt

-- a clean value that its place lets pass
abbrev pub Placed : Marks → Class → Value → Type 0
Placed hs c (Integer n) = n < modulus c
Placed hs c (Pointer b o) = slice_get hs b ≡ Some false
Placed hs c (Function f) = Unit {0}

pub placed_clean : (hs : Marks) (c : Class) (v : Value) → Placed hs c v → Clean hs v
placed_clean hs c (Integer n) h = modulus_fits c n h
placed_clean hs c (Pointer b o) h = h
placed_clean hs c (Function f) h = h

abbrev pub IfPlaced : Marks → Class → Option Value → Type 0
IfPlaced hs c None = Unit {0}
IfPlaced hs c (Some v) = Placed hs c v

pub in_place_moved : (hs : Marks) (c : Class) (v : Value) → in_place c (moved hs v) ≡ moved_if hs (in_place c v)
in_place_moved hs W (Integer n) = refl
in_place_moved hs W (Pointer b o) = refl
in_place_moved hs W (Function f) = refl
in_place_moved hs L v = refl

pub in_place_placed : (hs : Marks) (c : Class) (v : Value) → Clean hs v → IfPlaced hs c (in_place c v)
in_place_placed hs W (Integer n) h = mod-lt n (lit< tt)
in_place_placed hs W (Pointer b o) h = tt
in_place_placed hs W (Function f) h = tt
in_place_placed hs L (Integer n) h = h
in_place_placed hs L (Pointer b o) h = h
in_place_placed hs L (Function f) h = h

below_clean : (hs : Marks) (o : Option ℕ) → IfBelow o → IfClean hs (option_map Integer o)
below_clean hs None h = tt
below_clean hs (Some n) h = h

pub two_clean : (hs : Marks) (m : Memory) (op : BinaryOp) (c : Class) (u v : Value) → Placed hs (left_class op c) u → Placed hs (right_class op c) v → IfClean hs (operate_two m op c u v)
unfolding operate_two
two_clean hs m op c (Integer a) (Integer b) h k = below_clean hs (on_integers op c a b) (integers_fit op c a b h k)
two_clean hs m op c (Integer a) (Pointer b o) h k = on_places_clean hs m op (Integer a) (Pointer b o) (placed_clean hs (left_class op c) (Integer a) h) k
two_clean hs m op c (Integer a) (Function f) h k = on_places_clean hs m op (Integer a) (Function f) (placed_clean hs (left_class op c) (Integer a) h) k
two_clean hs m op c (Pointer b o) v h k = on_places_clean hs m op (Pointer b o) v h (placed_clean hs (right_class op c) v k)
two_clean hs m op c (Function f) v h k = on_places_clean hs m op (Function f) v h (placed_clean hs (right_class op c) v k)
