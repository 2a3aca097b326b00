-- One instruction on both sides.
use Rattle.std.proofs.Common.{◌≡◌, ℕ, zero, suc, ◌≤◌, true, List, [], ◌∷◌, map, length, refl, sym, ◌∙◌, ap, subst, arith, lit<, mod-lt, slice_get, slice_set, Option, Some, None, flat_map}
use Rattle.std.specs.Option.{option_map, option_and_then, option_flatten}
use Rattle.il_ast.specs.declared.operation.Class.{Class}
use Rattle.il_ast.specs.declared.operation.Class.TheVariants.{L}
use Rattle.il_ast.specs.declared.operation.Size.{Size}
use Rattle.il_ast.specs.declared.operation.UnaryOp.{UnaryOp}
use Rattle.il_ast.specs.declared.operation.BinaryOp.{BinaryOp}
use Rattle.il_ast.specs.declared.operand.Val.{Val}
use Rattle.il_ast.specs.declared.operand.Val.TheVariants.{Int, Temp, Global}
use Rattle.il_ast.specs.declared.operand.Dest.{Dest}
use Rattle.il_ast.specs.declared.operand.Arg.{Arg}
use Rattle.il_ast.specs.declared.instruction.Inst.TheVariants.{Unary, Binary, Store, Blit, Call as CallInst}
use Rattle.il_ast.specs.declared.value.Value.{Value}
use Rattle.il_ast.specs.declared.value.Value.TheVariants.{Integer, Pointer, Function}
use Rattle.il_ast.specs.Prelude.{in_place, byte_count, Memory, store, copy, operand_class, left_class, right_class, operate_one, operate_two, Locals, Call, value_at, operand, all_operands, InstEffect, Done, Asks, Fails, assigned, changed, stored_class, blit_weight, calls_value, call_effect, inst_effect}
use Rattle.promote.specs.declared.mention.Role.TheVariants.{Used}
use Rattle.promote.specs.Uses.{value_mentions, arg_mentions, Widths}
use Rattle.promote.proofs.Respect.{Suited, Respected, respected_first, respected_then, used_plain}
use Rattle.promote.proofs.Hiding.{Marks, moved, moved_if, shown, Clean, IfClean, CleanAll, CleanMemory, Extends, clean_later, moved_later, IfChanged, store_changed, store_shows, copy_changed, copy_shows, AllMade, places}
use Rattle.promote.proofs.Operating.{one_shown, one_clean, two_shown, two_clean, IfPlaced, placed_clean, in_place_moved, in_place_placed}
use Rattle.promote.proofs.Sides.{Sides, KeptHidden, sides_later, sides_assign}

-- values that are the same on both sides
abbrev pub AllStay : Marks → List Value → Type 0
AllStay hs [] = Unit {0}
AllStay hs (v ∷ vs) = (moved hs v ≡ v) × AllStay hs vs

-- what stays fixed in an activation: the widths, the values of global names, and the marks and the memory at its beginning
pub record Setting : Type 0 where
  pub widths : Widths
  pub globals : List Value
  pub marks : Marks
  pub memory : Memory
  pub alike : length marks ≡ length memory
  pub names : CleanAll marks globals
  pub still : AllStay marks globals

pub record State (c : Setting) (hs : Marks) (m : Memory) (ts us : List (Option Value)) (owned : List ℕ) : Type 0 where
  pub alike : length hs ≡ length m
  pub grown : Extends c.marks hs
  pub clean : CleanMemory hs m
  pub kept : KeptHidden c.marks c.memory m
  pub low : length c.memory ≤ length m
  pub mine : AllMade hs (length c.memory) owned
  pub sides : Sides c.widths hs (length c.memory) m ts us

abbrev pub held_as : List (Option Value) → List ℕ → Locals
held_as ts owned = record { temps = ts; owned = owned }

-- what the activation holds on the other side
abbrev pub across : Marks → List (Option Value) → List ℕ → Locals
across hs us owned = held_as us (places hs owned)

pub record DoneSo (c : Setting) (weight : ℕ) (now : Locals) (m : Memory) (e : InstEffect) : Type 0 where
  pub marks : Marks
  pub temps : List (Option Value)
  pub is : e ≡ Done weight (across marks temps now.owned) (shown marks m)
  pub state : State c marks m now.temps temps now.owned

abbrev pub DestPlain : Widths → Option Dest → Type 0
DestPlain w None = Unit {0}
DestPlain w (Some d) = w d.temp ≡ None

-- a call as the other side makes it
abbrev pub moved_call : Marks → Call → Call
moved_call hs call = record call { args = map (moved hs) call.args }

-- the second effect goes with the first, from a state with these marks; nothing is owed where it is undefined
abbrev pub GoesSo : Setting → Marks → InstEffect → InstEffect → Type 0
GoesSo c hs (Done weight now m) e = DoneSo c weight now m e
GoesSo c hs (Asks weight call to) e = (e ≡ Asks weight (moved_call hs call) to) × CleanAll hs call.args × DestPlain c.widths to
GoesSo c hs Fails e = Unit {0}

-- ---- operands

abbrev pub PlainValue : Widths → Val → Type 0
PlainValue w (Int n) = Unit {0}
PlainValue w (Temp t) = w t ≡ None
PlainValue w (Global g) = Unit {0}

pub suited_plain : (w : Widths) (t : ℕ) → Suited w (record { temp = t; role = Used }) → w t ≡ None
suited_plain w t h = used_plain w t (w t) refl (λ s e. h s e)

pub plain_value : (w : Widths) (a : Val) → Respected w (value_mentions Used a) → PlainValue w a
plain_value w (Int n) h = tt
plain_value w (Temp t) h = suited_plain w t h.0
plain_value w (Global g) h = tt

pub clean_at : (hs ks : Marks) (vs : List Value) (g : ℕ) → Extends hs ks → CleanAll hs vs → IfClean ks (slice_get vs g)
clean_at hs ks [] g x h = tt
clean_at hs ks (v ∷ vs) zero x h = clean_later hs ks x v h.0
clean_at hs ks (v ∷ vs) (suc g) x h = clean_at hs ks vs g x h.1

flat_clean : (hs : Marks) (o : Option (Option Value)) → ((y : Option Value) → o ≡ Some y → IfClean hs y) → IfClean hs (option_flatten o)
flat_clean hs None h = tt
flat_clean hs (Some y) h = h y refl

stays_at : (hs ks : Marks) (vs : List Value) (g : ℕ) → Extends hs ks → CleanAll hs vs → AllStay hs vs → slice_get vs g ≡ moved_if ks (slice_get vs g)
stays_at hs ks [] g x h k = refl
stays_at hs ks (v ∷ vs) zero x h k = ap (λ u. Some u) (sym (moved_later hs ks x v h.0 ∙ k.0))
stays_at hs ks (v ∷ vs) (suc g) x h k = stays_at hs ks vs g x h.1 k.1

flat_moved : (hs : Marks) (o : Option (Option Value)) → option_flatten (option_map (moved_if hs) o) ≡ moved_if hs (option_flatten o)
flat_moved hs None = refl
flat_moved hs (Some y) = refl

value_alike : (c : Setting) (hs : Marks) (m : Memory) (ts us : List (Option Value)) (owned : List ℕ) → State c hs m ts us owned → (a : Val) → PlainValue c.widths a → value_at c.globals us a ≡ moved_if hs (value_at c.globals ts a)
value_alike c hs m ts us owned st (Int n) p = refl
value_alike c hs m ts us owned st (Temp t) p = ap option_flatten (st.sides.same t p) ∙ flat_moved hs (slice_get ts t)
value_alike c hs m ts us owned st (Global g) p = stays_at c.marks hs c.globals g st.grown c.names c.still

value_clean : (c : Setting) (hs : Marks) (m : Memory) (ts us : List (Option Value)) (owned : List ℕ) → State c hs m ts us owned → (a : Val) → PlainValue c.widths a → IfClean hs (value_at c.globals ts a)
value_clean c hs m ts us owned st (Int n) p = mod-lt n (lit< tt)
value_clean c hs m ts us owned st (Temp t) p = flat_clean hs (slice_get ts t) (λ y e. st.sides.clean t y p e)
value_clean c hs m ts us owned st (Global g) p = clean_at c.marks hs c.globals g st.grown c.names

placed_in : (hs : Marks) (k : Class) (o : Option Value) → IfClean hs o → IfPlaced hs k (option_and_then (in_place k) o)
placed_in hs k None h = tt
placed_in hs k (Some v) h = in_place_placed hs k v h

place_moved : (hs : Marks) (k : Class) (o : Option Value) → option_and_then (in_place k) (moved_if hs o) ≡ moved_if hs (option_and_then (in_place k) o)
place_moved hs k None = refl
place_moved hs k (Some v) = in_place_moved hs k v

pub operand_alike : (c : Setting) (hs : Marks) (m : Memory) (ts us : List (Option Value)) (owned : List ℕ) → State c hs m ts us owned → (k : Class) (a : Val) → PlainValue c.widths a → operand c.globals us k a ≡ moved_if hs (operand c.globals ts k a)
operand_alike c hs m ts us owned st k a p =
    ap (option_and_then (in_place k)) (value_alike c hs m ts us owned st a p) ∙ place_moved hs k (value_at c.globals ts a)

operand_placed : (c : Setting) (hs : Marks) (m : Memory) (ts us : List (Option Value)) (owned : List ℕ) → State c hs m ts us owned → (k : Class) (a : Val) → PlainValue c.widths a → IfPlaced hs k (operand c.globals ts k a)
operand_placed c hs m ts us owned st k a p = placed_in hs k (value_at c.globals ts a) (value_clean c hs m ts us owned st a p)

placed_option : (hs : Marks) (k : Class) (o : Option Value) → IfPlaced hs k o → IfClean hs o
placed_option hs k None h = tt
placed_option hs k (Some v) h = placed_clean hs k v h

pub operand_clean : (c : Setting) (hs : Marks) (m : Memory) (ts us : List (Option Value)) (owned : List ℕ) → State c hs m ts us owned → (k : Class) (a : Val) → PlainValue c.widths a → IfClean hs (operand c.globals ts k a)
operand_clean c hs m ts us owned st k a p = placed_option hs k (operand c.globals ts k a) (operand_placed c hs m ts us owned st k a p)

-- ---- assignments and changes of memory

pub state_assign : (c : Setting) (hs : Marks) (m : Memory) (ts us : List (Option Value)) (owned : List ℕ) (t : ℕ) (v : Value) → State c hs m ts us owned → c.widths t ≡ None → Clean hs v → State c hs m (slice_set ts t (Some v)) (slice_set us t (Some (moved hs v))) owned
state_assign c hs m ts us owned t v st p h =
    record {
      alike = st.alike;
      grown = st.grown;
      clean = st.clean;
      kept = st.kept;
      low = st.low;
      mine = st.mine;
      sides = sides_assign c.widths hs (length c.memory) m ts us t v p h st.sides;
    }

pub assigned_so : (c : Setting) (hs : Marks) (m : Memory) (ts us : List (Option Value)) (owned : List ℕ) (t : ℕ) (o o2 : Option Value) → State c hs m ts us owned → c.widths t ≡ None → o2 ≡ moved_if hs o → IfClean hs o → GoesSo c hs (assigned (held_as ts owned) m t o) (assigned (across hs us owned) (shown hs m) t o2)
assigned_so c hs m ts us owned t None o2 st p e h = tt
assigned_so c hs m ts us owned t (Some v) o2 st p e h =
    record {
      marks = hs;
      temps = slice_set us t (Some (moved hs v));
      is = ap (assigned (across hs us owned) (shown hs m) t) e;
      state = state_assign c hs m ts us owned t v st p h;
    }

pub kept_hidden : (c : Setting) (hs : Marks) (m now : Memory) → Extends c.marks hs → KeptHidden c.marks c.memory m → KeptHidden hs m now → KeptHidden c.marks c.memory now
kept_hidden c hs m now g k h b e = h b (g b true e) ∙ k b e

changed_so : (c : Setting) (hs : Marks) (m : Memory) (ts us : List (Option Value)) (owned : List ℕ) (weight : ℕ) (o o2 : Option Memory) → State c hs m ts us owned → o2 ≡ option_map (shown hs) o → IfChanged hs m o → GoesSo c hs (changed (held_as ts owned) weight o) (changed (across hs us owned) weight o2)
changed_so c hs m ts us owned weight None o2 st e h = tt
changed_so c hs m ts us owned weight (Some now) o2 st e h =
    let long = h.long in
    let low = st.low in
    record {
      marks = hs;
      temps = us;
      is = ap (changed (across hs us owned) weight) e;
      state =
          record {
            alike = st.alike ∙ sym long;
            grown = st.grown;
            clean = h.clean;
            kept = kept_hidden c hs m now st.grown st.kept h.kept;
            low = omega (arith, low, long);
            mine = st.mine;
            sides = sides_later c.widths hs hs (length c.memory) m now ts us (λ b x e. e) h.kept st.sides;
          };
    }

-- ---- plain operations

one_then : (hs : Marks) (m : Memory) (op : UnaryOp) (c : Class) (o : Option Value) → CleanMemory hs m → IfClean hs o → option_and_then (operate_one (shown hs m) op c) (moved_if hs o) ≡ moved_if hs (option_and_then (operate_one m op c) o)
one_then hs m op c None k h = refl
one_then hs m op c (Some v) k h = one_shown hs m op c v k h

one_then_clean : (hs : Marks) (m : Memory) (op : UnaryOp) (c : Class) (o : Option Value) → CleanMemory hs m → IfClean hs o → IfClean hs (option_and_then (operate_one m op c) o)
one_then_clean hs m op c None k h = tt
one_then_clean hs m op c (Some v) k h = one_clean hs m op c v k h

pub unary_so : (c : Setting) (hs : Marks) (m : Memory) (ts us : List (Option Value)) (owned : List ℕ) → State c hs m ts us owned → (to : Dest) (op : UnaryOp) (a : Val) → c.widths to.temp ≡ None → PlainValue c.widths a → GoesSo c hs (inst_effect c.globals (held_as ts owned) m (Unary to op a)) (inst_effect c.globals (across hs us owned) (shown hs m) (Unary to op a))
unfolding inst_effect
unary_so c hs m ts us owned st to op a p q =
    let k = operand_class op to.class in
    let h = operand_clean c hs m ts us owned st k a q in
    assigned_so c hs m ts us owned to.temp (option_and_then (operate_one m op to.class) (operand c.globals ts k a))
    (option_and_then (operate_one (shown hs m) op to.class) (operand c.globals us k a)) st p
    (ap (option_and_then (operate_one (shown hs m) op to.class)) (operand_alike c hs m ts us owned st k a q) ∙ one_then hs m op to.class (operand c.globals ts k a) st.clean h)
    (one_then_clean hs m op to.class (operand c.globals ts k a) st.clean h)

two_then : (hs : Marks) (m : Memory) (op : BinaryOp) (c : Class) (x y : Option Value) → IfPlaced hs (left_class op c) x → IfPlaced hs (right_class op c) y → option_and_then (λ u. option_and_then (λ v. operate_two (shown hs m) op c u v) (moved_if hs y)) (moved_if hs x) ≡ moved_if hs (option_and_then (λ u. option_and_then (λ v. operate_two m op c u v) y) x)
two_then hs m op c None y h k = refl
two_then hs m op c (Some u) None h k = refl
two_then hs m op c (Some u) (Some v) h k = two_shown hs m op c u v (placed_clean hs (left_class op c) u h) (placed_clean hs (right_class op c) v k)

two_then_clean : (hs : Marks) (m : Memory) (op : BinaryOp) (c : Class) (x y : Option Value) → IfPlaced hs (left_class op c) x → IfPlaced hs (right_class op c) y → IfClean hs (option_and_then (λ u. option_and_then (λ v. operate_two m op c u v) y) x)
two_then_clean hs m op c None y h k = tt
two_then_clean hs m op c (Some u) None h k = tt
two_then_clean hs m op c (Some u) (Some v) h k = two_clean hs m op c u v h k

pub binary_so : (c : Setting) (hs : Marks) (m : Memory) (ts us : List (Option Value)) (owned : List ℕ) → State c hs m ts us owned → (to : Dest) (op : BinaryOp) (a b : Val) → c.widths to.temp ≡ None → PlainValue c.widths a → PlainValue c.widths b → GoesSo c hs (inst_effect c.globals (held_as ts owned) m (Binary to op a b)) (inst_effect c.globals (across hs us owned) (shown hs m) (Binary to op a b))
unfolding inst_effect
binary_so c hs m ts us owned st to op a b p q r =
    let j = left_class op to.class in
    let k = right_class op to.class in
    let h = operand_placed c hs m ts us owned st j a q in
    let i = operand_placed c hs m ts us owned st k b r in
    assigned_so c hs m ts us owned to.temp
    (option_and_then (λ u. option_and_then (λ v. operate_two m op to.class u v) (operand c.globals ts k b)) (operand c.globals ts j a))
    (option_and_then (λ u. option_and_then (λ v. operate_two (shown hs m) op to.class u v) (operand c.globals us k b)) (operand c.globals us j a)) st p
    (ap (option_and_then (λ u. option_and_then (λ v. operate_two (shown hs m) op to.class u v) (operand c.globals us k b))) (operand_alike c hs m ts us owned st j a q)
    ∙ (ap (λ y. option_and_then (λ u. option_and_then (λ v. operate_two (shown hs m) op to.class u v) y) (moved_if hs (operand c.globals ts j a))) (operand_alike c hs m ts us owned st k b r)
    ∙ two_then hs m op to.class (operand c.globals ts j a) (operand c.globals ts k b) h i))
    (two_then_clean hs m op to.class (operand c.globals ts j a) (operand c.globals ts k b) h i)

-- ---- plain stores and blits

store_then : (hs : Marks) (m : Memory) (n : ℕ) (x y : Option Value) → IfClean hs x → IfClean hs y → option_and_then (λ v. option_and_then (λ p. store (shown hs m) n p v) (moved_if hs y)) (moved_if hs x) ≡ option_map (shown hs) (option_and_then (λ v. option_and_then (λ p. store m n p v) y) x)
store_then hs m n None y h k = refl
store_then hs m n (Some v) None h k = refl
store_then hs m n (Some v) (Some p) h k = store_shows hs m n p v k

store_then_changed : (hs : Marks) (m : Memory) (n : ℕ) (x y : Option Value) → CleanMemory hs m → IfClean hs x → IfClean hs y → IfChanged hs m (option_and_then (λ v. option_and_then (λ p. store m n p v) y) x)
store_then_changed hs m n None y d h k = tt
store_then_changed hs m n (Some v) None d h k = tt
store_then_changed hs m n (Some v) (Some p) d h k = store_changed hs m n p v d k h

pub store_so : (c : Setting) (hs : Marks) (m : Memory) (ts us : List (Option Value)) (owned : List ℕ) → State c hs m ts us owned → (size : Size) (a at : Val) → PlainValue c.widths a → PlainValue c.widths at → GoesSo c hs (inst_effect c.globals (held_as ts owned) m (Store size a at)) (inst_effect c.globals (across hs us owned) (shown hs m) (Store size a at))
unfolding inst_effect
store_so c hs m ts us owned st size a at q r =
    let n = byte_count size in
    let k = stored_class size in
    let h = operand_clean c hs m ts us owned st k a q in
    let i = operand_clean c hs m ts us owned st L at r in
    changed_so c hs m ts us owned 1
    (option_and_then (λ v. option_and_then (λ p. store m n p v) (operand c.globals ts L at)) (operand c.globals ts k a))
    (option_and_then (λ v. option_and_then (λ p. store (shown hs m) n p v) (operand c.globals us L at)) (operand c.globals us k a)) st
    (ap (option_and_then (λ v. option_and_then (λ p. store (shown hs m) n p v) (operand c.globals us L at))) (operand_alike c hs m ts us owned st k a q)
    ∙ (ap (λ y. option_and_then (λ v. option_and_then (λ p. store (shown hs m) n p v) y) (moved_if hs (operand c.globals ts k a))) (operand_alike c hs m ts us owned st L at r)
    ∙ store_then hs m n (operand c.globals ts k a) (operand c.globals ts L at) h i))
    (store_then_changed hs m n (operand c.globals ts k a) (operand c.globals ts L at) st.clean h i)

copy_then : (hs : Marks) (m : Memory) (n : ℕ) (x y : Option Value) → IfClean hs x → IfClean hs y → option_and_then (λ p. option_and_then (λ q. copy (shown hs m) n p q) (moved_if hs y)) (moved_if hs x) ≡ option_map (shown hs) (option_and_then (λ p. option_and_then (λ q. copy m n p q) y) x)
copy_then hs m n None y h k = refl
copy_then hs m n (Some p) None h k = refl
copy_then hs m n (Some p) (Some q) h k = copy_shows hs m n p q h k

copy_then_changed : (hs : Marks) (m : Memory) (n : ℕ) (x y : Option Value) → CleanMemory hs m → IfClean hs x → IfClean hs y → IfChanged hs m (option_and_then (λ p. option_and_then (λ q. copy m n p q) y) x)
copy_then_changed hs m n None y d h k = tt
copy_then_changed hs m n (Some p) None d h k = tt
copy_then_changed hs m n (Some p) (Some q) d h k = copy_changed hs m n p q d h k

pub blit_so : (c : Setting) (hs : Marks) (m : Memory) (ts us : List (Option Value)) (owned : List ℕ) → State c hs m ts us owned → (from to : Val) (n : ℕ) → PlainValue c.widths from → PlainValue c.widths to → GoesSo c hs (inst_effect c.globals (held_as ts owned) m (Blit from to n)) (inst_effect c.globals (across hs us owned) (shown hs m) (Blit from to n))
unfolding inst_effect
blit_so c hs m ts us owned st from to n q r =
    let h = operand_clean c hs m ts us owned st L from q in
    let i = operand_clean c hs m ts us owned st L to r in
    changed_so c hs m ts us owned (blit_weight n)
    (option_and_then (λ p. option_and_then (λ q. copy m n p q) (operand c.globals ts L to)) (operand c.globals ts L from))
    (option_and_then (λ p. option_and_then (λ q. copy (shown hs m) n p q) (operand c.globals us L to)) (operand c.globals us L from)) st
    (ap (option_and_then (λ p. option_and_then (λ q. copy (shown hs m) n p q) (operand c.globals us L to))) (operand_alike c hs m ts us owned st L from q)
    ∙ (ap (λ y. option_and_then (λ p. option_and_then (λ q. copy (shown hs m) n p q) y) (moved_if hs (operand c.globals ts L from))) (operand_alike c hs m ts us owned st L to r)
    ∙ copy_then hs m n (operand c.globals ts L from) (operand c.globals ts L to) h i))
    (copy_then_changed hs m n (operand c.globals ts L from) (operand c.globals ts L to) st.clean h i)

-- ---- calls

abbrev pub PlainArgs : Widths → List Arg → Type 0
PlainArgs w [] = Unit {0}
PlainArgs w (a ∷ args) = PlainValue w a.value × PlainArgs w args

pub plain_args : (w : Widths) (args : List Arg) → Respected w (flat_map arg_mentions args) → PlainArgs w args
plain_args w [] h = tt
plain_args w (a ∷ args) h = (
  plain_value w a.value (respected_first w (value_mentions Used a.value) (flat_map arg_mentions args) h),
  plain_args w args (respected_then w (value_mentions Used a.value) (flat_map arg_mentions args) h),
)

abbrev IfCleanAll : Marks → Option (List Value) → Type 0
IfCleanAll hs None = Unit {0}
IfCleanAll hs (Some vs) = CleanAll hs vs

cons_clean : (hs : Marks) (x : Option Value) (ys : Option (List Value)) → IfClean hs x → IfCleanAll hs ys → IfCleanAll hs (option_and_then (λ v. option_map (λ vs. v ∷ vs) ys) x)
cons_clean hs None ys h k = tt
cons_clean hs (Some v) None h k = tt
cons_clean hs (Some v) (Some vs) h k = (h, k)

-- values that are moved
abbrev pub moved_all : Marks → Option (List Value) → Option (List Value)
moved_all hs o = option_map (map (moved hs)) o

pub cons_moved : (hs : Marks) (x : Option Value) (ys : Option (List Value)) → option_and_then (λ v. option_map (λ vs. v ∷ vs) (moved_all hs ys)) (moved_if hs x) ≡ moved_all hs (option_and_then (λ v. option_map (λ vs. v ∷ vs) ys) x)
cons_moved hs None ys = refl
cons_moved hs (Some v) None = refl
cons_moved hs (Some v) (Some vs) = refl

args_alike : (c : Setting) (hs : Marks) (m : Memory) (ts us : List (Option Value)) (owned : List ℕ) → State c hs m ts us owned → (args : List Arg) → PlainArgs c.widths args → all_operands c.globals us args ≡ moved_all hs (all_operands c.globals ts args)
args_alike c hs m ts us owned st [] p = refl
args_alike c hs m ts us owned st (a ∷ args) p =
    ap (option_and_then (λ v. option_map (λ vs. v ∷ vs) (all_operands c.globals us args))) (operand_alike c hs m ts us owned st a.class a.value p.0)
    ∙ (ap (λ y. option_and_then (λ v. option_map (λ vs. v ∷ vs) y) (moved_if hs (operand c.globals ts a.class a.value))) (args_alike c hs m ts us owned st args p.1)
    ∙ cons_moved hs (operand c.globals ts a.class a.value) (all_operands c.globals ts args))

args_clean : (c : Setting) (hs : Marks) (m : Memory) (ts us : List (Option Value)) (owned : List ℕ) → State c hs m ts us owned → (args : List Arg) → PlainArgs c.widths args → IfCleanAll hs (all_operands c.globals ts args)
args_clean c hs m ts us owned st [] p = tt
args_clean c hs m ts us owned st (a ∷ args) p =
    cons_clean hs (operand c.globals ts a.class a.value) (all_operands c.globals ts args) (operand_clean c hs m ts us owned st a.class a.value p.0)
    (args_clean c hs m ts us owned st args p.1)

asks_so : (c : Setting) (hs : Marks) (to : Option Dest) (args : List Arg) (f : Value) (values : List Value) → DestPlain c.widths to → CleanAll hs values → GoesSo c hs (calls_value to args f values) (calls_value to args (moved hs f) (map (moved hs) values))
asks_so c hs to args (Integer n) values p h = tt
asks_so c hs to args (Pointer b o) values p h = tt
asks_so c hs to args (Function f) values p h = (refl, h, p)

call_so : (c : Setting) (hs : Marks) (to : Option Dest) (args : List Arg) (x : Option Value) (y : Option (List Value)) → DestPlain c.widths to → IfCleanAll hs y → GoesSo c hs (call_effect to args x y) (call_effect to args (moved_if hs x) (moved_all hs y))
call_so c hs to args None y p h = tt
call_so c hs to args (Some f) None p h = tt
call_so c hs to args (Some f) (Some values) p h = asks_so c hs to args f values p h

pub calls_so : (c : Setting) (hs : Marks) (m : Memory) (ts us : List (Option Value)) (owned : List ℕ) → State c hs m ts us owned → (to : Option Dest) (callee : Val) (args : List Arg) → DestPlain c.widths to → PlainValue c.widths callee → PlainArgs c.widths args → GoesSo c hs (inst_effect c.globals (held_as ts owned) m (CallInst to callee args)) (inst_effect c.globals (across hs us owned) (shown hs m) (CallInst to callee args))
unfolding inst_effect
calls_so c hs m ts us owned st to callee args p q r =
    subst (GoesSo c hs (call_effect to args (operand c.globals ts L callee) (all_operands c.globals ts args)))
    (sym (ap (λ x. call_effect to args x (all_operands c.globals us args)) (operand_alike c hs m ts us owned st L callee q)
    ∙ ap (call_effect to args (moved_if hs (operand c.globals ts L callee))) (args_alike c hs m ts us owned st args r)))
    (call_so c hs to args (operand c.globals ts L callee) (all_operands c.globals ts args) p (args_clean c hs m ts us owned st args r))
