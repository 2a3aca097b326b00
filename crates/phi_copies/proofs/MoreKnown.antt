-- An instruction does the same where further temporaries stand behind the function's own.
use Rattle.std.proofs.Common.{◌≡◌, ℕ, zero, suc, List, [], ◌∷◌, ◌++◌, length, refl, sym, ◌∙◌, ap, subst, slice_get, slice_set, Option, Some, None, length-set}
use Rattle.std.specs.Option.{option_map, option_and_then, option_flatten}
use Rattle.il_ast.specs.declared.operation.Class.{Class}
use Rattle.il_ast.specs.declared.operation.Class.TheVariants.{L}
use Rattle.il_ast.specs.declared.operand.Val.{Val}
use Rattle.il_ast.specs.declared.operand.Val.TheVariants.{Int, Temp, Global}
use Rattle.il_ast.specs.declared.operand.Arg.{Arg}
use Rattle.il_ast.specs.declared.operand.Dest.{Dest}
use Rattle.il_ast.specs.declared.instruction.Inst.{Inst}
use Rattle.il_ast.specs.declared.instruction.Inst.TheVariants.{Unary, Binary, Alloc, Store, Blit, Call as CallInst}
use Rattle.il_ast.specs.declared.value.Value.{Value}
use Rattle.il_ast.specs.declared.value.Value.TheVariants.{Integer, Pointer, Function}
use Rattle.il_ast.specs.Prelude.{in_place, byte_count, Memory, store, copy, fresh, operand_class, left_class, right_class, operate_one, operate_two, Locals, InstEffect, Done, Asks, Fails, value_at, operand, all_operands, assigned, changed, stored_class, blit_weight, call_effect, inst_effect}
use Rattle.il_ast.proofs.Listed.{get_before}

-- ---- lists with more behind them

-- what stands behind a list after a write to the whole
abbrev pub behind : {A : Type 0} → List A → List A → ℕ → A → List A
behind [] ys k x = slice_set ys k x
behind (y ∷ xs) ys zero x = ys
behind (y ∷ xs) ys (suc k) x = behind xs ys k x

pub set_both : {A : Type 0} (xs ys : List A) (k : ℕ) (x : A) → slice_set (xs ++ ys) k x ≡ slice_set xs k x ++ behind xs ys k x
set_both [] ys k x = refl
set_both (y ∷ xs) ys zero x = refl
set_both (y ∷ xs) ys (suc k) x = ap (λ zs. y ∷ zs) (set_both xs ys k x)

pub length_behind : {A : Type 0} (xs ys : List A) (k : ℕ) (x : A) → length (behind xs ys k x) ≡ length ys
length_behind [] ys k x = length-set ys k x
length_behind (y ∷ xs) ys zero x = refl
length_behind (y ∷ xs) ys (suc k) x = length_behind xs ys k x

-- ---- values of which more is known

-- what the one gives, the other gives too
abbrev pub Less : {A : Type 0} → Option A → Option A → Type 0
Less {A} o p = (x : A) → o ≡ Some x → p ≡ Some x

pub then_less : {A B : Type 0} (o p : Option A) (f g : A → Option B) → Less o p → ((x : A) → Less (f x) (g x)) → Less (option_and_then f o) (option_and_then g p)
then_less None p f g h k x e = absurd (let no : ⊥ = cc in no)
then_less (Some y) p f g h k x e = ap (option_and_then g) (h y refl) ∙ k y x e

pub map_less : {A B : Type 0} (o p : Option A) (f : A → B) → Less o p → Less (option_map f o) (option_map f p)
map_less None p f h x e = absurd (let no : ⊥ = cc in no)
map_less (Some y) p f h x e = ap (option_map f) (h y refl) ∙ e

flatten_less : {A : Type 0} (xs ys : List (Option A)) (k : ℕ) (o : Option (Option A)) → slice_get xs k ≡ o → Less (option_flatten o) (option_flatten (slice_get (xs ++ ys) k))
flatten_less xs ys k None e x h = absurd (let no : ⊥ = cc in no)
flatten_less xs ys k (Some y) e x h = ap option_flatten (get_before xs ys k y e) ∙ h

value_less : (globals : List Value) (xs ys : List (Option Value)) (a : Val) → Less (value_at globals xs a) (value_at globals (xs ++ ys) a)
value_less globals xs ys (Int n) v h = h
value_less globals xs ys (Temp t) v h = flatten_less xs ys t (slice_get xs t) refl v h
value_less globals xs ys (Global g) v h = h

pub operand_less : (globals : List Value) (xs ys : List (Option Value)) (c : Class) (a : Val) → Less (operand globals xs c a) (operand globals (xs ++ ys) c a)
operand_less globals xs ys c a =
    then_less (value_at globals xs a) (value_at globals (xs ++ ys) a) (in_place c) (in_place c) (value_less globals xs ys a) (λ x v h. h)

operands_less : (globals : List Value) (xs ys : List (Option Value)) (args : List Arg) → Less (all_operands globals xs args) (all_operands globals (xs ++ ys) args)
operands_less globals xs ys [] vs h = h
operands_less globals xs ys (a ∷ args) v h =
    then_less (operand globals xs a.class a.value) (operand globals (xs ++ ys) a.class a.value)
    (λ v. option_map (λ vs. v ∷ vs) (all_operands globals xs args)) (λ v. option_map (λ vs. v ∷ vs) (all_operands globals (xs ++ ys) args))
    (operand_less globals xs ys a.class a.value)
    (λ u. map_less (all_operands globals xs args) (all_operands globals (xs ++ ys) args) (λ vs. u ∷ vs) (operands_less globals xs ys args)) v h

-- ---- effects

-- the second effect is the first, with k temporaries behind the own ones, of which there are n
abbrev pub Follows : (n k : ℕ) → InstEffect → InstEffect → Type 0
Follows n k (Done w now m) e =
    (length now.temps ≡ n)
    × ((extra : List (Option Value)) × (length extra ≡ k) × (e ≡ Done w (record { temps = now.temps ++ extra; owned = now.owned }) m))
Follows n k (Asks w call to) e = e ≡ Asks w call to
Follows n k Fails e = Unit {0}

abbrev pub locals : List (Option Value) → List ℕ → Locals
locals temps owned = record { temps = temps; owned = owned }

assigned_follows : (xs ys : List (Option Value)) (owned : List ℕ) (m : Memory) (t : ℕ) (o p : Option Value) → Less o p → Follows (length xs) (length ys) (assigned (locals xs owned) m t o) (assigned (locals (xs ++ ys) owned) m t p)
assigned_follows xs ys owned m t None p h = tt
assigned_follows xs ys owned m t (Some v) p h = (
  length-set xs t (Some v),
  (
    behind xs ys t (Some v),
    length_behind xs ys t (Some v),
    ap (assigned (locals (xs ++ ys) owned) m t) (h v refl) ∙ ap (λ zs. Done 1 (locals zs owned) m) (set_both xs ys t (Some v)),
  ),
)

changed_follows : (xs ys : List (Option Value)) (owned : List ℕ) (w : ℕ) (o p : Option Memory) → Less o p → Follows (length xs) (length ys) (changed (locals xs owned) w o) (changed (locals (xs ++ ys) owned) w p)
changed_follows xs ys owned w None p h = tt
changed_follows xs ys owned w (Some m) p h = (refl, (ys, refl, ap (changed (locals (xs ++ ys) owned) w) (h m refl)))

value_follows : (n k : ℕ) (to : Option Dest) (args : List Arg) (f : Value) (vs : List Value) → Follows n k (call_effect to args (Some f) (Some vs)) (call_effect to args (Some f) (Some vs))
value_follows n k to args (Function f) vs = refl
value_follows n k to args (Integer m) vs = tt
value_follows n k to args (Pointer b o) vs = tt

call_follows : (n k : ℕ) (to : Option Dest) (args : List Arg) (o p : Option Value) (os ps : Option (List Value)) → Less o p → Less os ps → Follows n k (call_effect to args o os) (call_effect to args p ps)
call_follows n k to args None p os ps h j = tt
call_follows n k to args (Some f) p None ps h j = tt
call_follows n k to args (Some f) p (Some vs) ps h j =
    subst (λ q. Follows n k (call_effect to args (Some f) (Some vs)) (call_effect to args q ps)) (sym (h f refl))
    (subst (λ q. Follows n k (call_effect to args (Some f) (Some vs)) (call_effect to args (Some f) q)) (sym (j vs refl)) (value_follows n k to args f vs))

pub inst_follows : (globals : List Value) (xs ys : List (Option Value)) (owned : List ℕ) (m : Memory) (i : Inst) → Follows (length xs) (length ys) (inst_effect globals (locals xs owned) m i) (inst_effect globals (locals (xs ++ ys) owned) m i)
unfolding inst_effect
inst_follows globals xs ys owned m (Unary to op a) =
    assigned_follows xs ys owned m to.temp _ _
    (then_less (operand globals xs (operand_class op to.class) a) (operand globals (xs ++ ys) (operand_class op to.class) a)
    (operate_one m op to.class) (operate_one m op to.class) (operand_less globals xs ys (operand_class op to.class) a) (λ u v h. h))
inst_follows globals xs ys owned m (Binary to op a b) =
    assigned_follows xs ys owned m to.temp _ _
    (then_less (operand globals xs (left_class op to.class) a) (operand globals (xs ++ ys) (left_class op to.class) a)
    (λ u. option_and_then (λ v. operate_two m op to.class u v) (operand globals xs (right_class op to.class) b))
    (λ u. option_and_then (λ v. operate_two m op to.class u v) (operand globals (xs ++ ys) (right_class op to.class) b))
    (operand_less globals xs ys (left_class op to.class) a)
    (λ u. then_less (operand globals xs (right_class op to.class) b) (operand globals (xs ++ ys) (right_class op to.class) b)
    (λ v. operate_two m op to.class u v) (λ v. operate_two m op to.class u v) (operand_less globals xs ys (right_class op to.class) b) (λ v w h. h)))
inst_follows globals xs ys owned m (Alloc to alignment size) = (
  length-set xs to.temp (Some (Pointer (length m) 0)),
  (
    behind xs ys to.temp (Some (Pointer (length m) 0)),
    length_behind xs ys to.temp (Some (Pointer (length m) 0)),
    ap (λ zs. Done 1 (locals zs (owned ++ length m ∷ [])) (fresh m size)) (set_both xs ys to.temp (Some (Pointer (length m) 0))),
  ),
)
inst_follows globals xs ys owned m (Store size a at) =
    changed_follows xs ys owned 1 _ _
    (then_less (operand globals xs (stored_class size) a) (operand globals (xs ++ ys) (stored_class size) a)
    (λ v. option_and_then (λ p. store m (byte_count size) p v) (operand globals xs L at))
    (λ v. option_and_then (λ p. store m (byte_count size) p v) (operand globals (xs ++ ys) L at))
    (operand_less globals xs ys (stored_class size) a)
    (λ v. then_less (operand globals xs L at) (operand globals (xs ++ ys) L at)
    (λ p. store m (byte_count size) p v) (λ p. store m (byte_count size) p v) (operand_less globals xs ys L at) (λ p n h. h)))
inst_follows globals xs ys owned m (Blit from to count) =
    changed_follows xs ys owned (blit_weight count) _ _
    (then_less (operand globals xs L from) (operand globals (xs ++ ys) L from)
    (λ p. option_and_then (λ q. copy m count p q) (operand globals xs L to))
    (λ p. option_and_then (λ q. copy m count p q) (operand globals (xs ++ ys) L to))
    (operand_less globals xs ys L from)
    (λ p. then_less (operand globals xs L to) (operand globals (xs ++ ys) L to)
    (λ q. copy m count p q) (λ q. copy m count p q) (operand_less globals xs ys L to) (λ q n h. h)))
inst_follows globals xs ys owned m (CallInst to callee args) =
    call_follows (length xs) (length ys) to args (operand globals xs L callee) (operand globals (xs ++ ys) L callee)
    (all_operands globals xs args) (all_operands globals (xs ++ ys) args)
    (operand_less globals xs ys L callee) (operands_less globals xs ys args)
