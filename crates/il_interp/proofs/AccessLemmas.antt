-- Loads and stores of integers.
use Rattle.std.proofs.Common.{◌≡◌, ℕ, ◌+◌, ◌%◌, ◌^◌, Bool, true, false, List, ap, sym, ◌∙◌, slice_get, slice_set, Option, Some, MatchBool}
use Rattle.std.specs.Option.{option_and_then, option_flatten}
use Rattle.il_ast.specs.declared.operation.Class.{Class}
use Rattle.il_ast.specs.declared.operation.Class.TheVariants.{L}
use Rattle.il_ast.specs.declared.operation.Extension.{Extension}
use Rattle.il_ast.specs.declared.operation.Size.{Size}
use Rattle.il_ast.specs.declared.operation.UnaryOp.{UnaryOp}
use Rattle.il_ast.specs.declared.operation.UnaryOp.TheVariants.{Load, LoadLong}
use Rattle.il_ast.specs.declared.operation.BinaryOp.{BinaryOp}
use Rattle.il_ast.specs.declared.operation.BinaryOp.TheVariants.{Add}
use Rattle.il_ast.specs.declared.operand.Dest.{Dest}
use Rattle.il_ast.specs.declared.operand.Val.{Val}
use Rattle.il_ast.specs.declared.operand.Val.TheVariants.{Temp}
use Rattle.il_ast.specs.declared.instruction.Inst.TheVariants.{Unary, Binary, Store}
use Rattle.il_ast.specs.declared.value.Value.{Value}
use Rattle.il_ast.specs.declared.value.Value.TheVariants.{Integer, Pointer}
use Rattle.il_ast.specs.Prelude.{in_place, byte_count, Memory, load, store, operand_class, left_class, right_class, operate_one, operate_two, widened, extended, extension_bytes, Locals, stored_class, inst_effect, assigned, changed, operand, value_at, Done}
use Rattle.il_interp.specs.Rows.{held, in_class, Does}
use Rattle.il_interp.specs.Slots.{Moves}
use Rattle.il_interp.proofs.RowLemmas.{operand_is}

pub loads_long : (m : Memory) (c : Class) (b o n k : ℕ) → k ≡ 8 → load m k (Pointer b o) ≡ Some (Integer n) → operate_one m LoadLong c (Pointer b o) ≡ Some (Integer n)
unfolding operate_one
loads_long m c b o n k e h = ap (λ j. load m j (Pointer b o)) (sym e) ∙ h

pub loads : (m : Memory) (e : Extension) (c : Class) (b o n k r : ℕ) → k ≡ extension_bytes e → load m k (Pointer b o) ≡ Some (Integer n) → r ≡ extended e c n → operate_one m (Load e) c (Pointer b o) ≡ Some (Integer r)
unfolding operate_one
loads m e c b o n k r same h is =
    ap (λ j. option_and_then (widened e c) (load m j (Pointer b o))) (sym same)
    ∙ (ap (option_and_then (widened e c)) h ∙ ap (λ j. Some (Integer j)) (sym is))

pub does_load : (old new : List (Option Value)) (to : Dest) (op : UnaryOp) (at : Val) (b o made : ℕ) (m : Memory)
    → ((globals : List Value) → value_at globals old at ≡ Some (Pointer b o)) → operand_class op to.class ≡ L → operate_one m op to.class (Pointer b o) ≡ Some (Integer made)
    → new ≡ slice_set old to.temp (Some (Integer made)) → (globals : List Value) → Does globals (held old m) (Unary to op at) (held new m)
unfolding inst_effect
does_load old new to op at b o made m ha place h n globals owned =
    ap (assigned (record { temps = old; owned = owned }) m to.temp)
    (ap (option_and_then (operate_one m op to.class))
    (ap (λ k. operand globals old k at) place ∙ ap (option_and_then (in_place L)) (ha globals)) ∙ h)
    ∙ ap (λ temps. Done 1 (record { temps = temps; owned = owned }) m) (sym n)

pub does_store : (temps : List (Option Value)) (old new : Memory) (size : Size) (value at : Val) (n w b o : ℕ)
    → ((globals : List Value) → value_at globals temps value ≡ Some (Integer n)) → ((globals : List Value) → value_at globals temps at ≡ Some (Pointer b o))
    → w ≡ in_class (stored_class size) n → store old (byte_count size) (Pointer b o) (Integer w) ≡ Some new
    → (globals : List Value) → Does globals (held temps old) (Store size value at) (held temps new)
unfolding inst_effect
does_store temps old new size value at n w b o hv ha hw h globals owned =
    ap (λ x. changed (record { temps = temps; owned = owned }) 1 (option_and_then (λ v. option_and_then (λ p. store old (byte_count size) p v) (operand globals temps L at)) x))
    (operand_is globals temps (stored_class size) value n (hv globals) ∙ ap (λ j. Some (Integer j)) (sym hw))
    ∙ (ap (λ x. changed (record { temps = temps; owned = owned }) 1 (option_and_then (λ p. store old (byte_count size) p (Integer w)) x))
    (ap (option_and_then (in_place L)) (ha globals))
    ∙ ap (changed (record { temps = temps; owned = owned }) 1) h)

pub does_move : (old new : List (Option Value)) (to : Dest) (op : BinaryOp) (left right : Val) (b o n : ℕ)
    → to.class ≡ L → op ≡ Add → ((globals : List Value) → value_at globals old left ≡ Some (Pointer b o)) → ((globals : List Value) → value_at globals old right ≡ Some (Integer n))
    → new ≡ slice_set old to.temp (Some (Pointer b ((o + n) % 2 ^ 64))) → (globals : List Value) (m : Memory) → Does globals (held old m) (Binary to op left right) (held new m)
unfolding inst_effect operate_two
does_move old new to op left right b o n long sum hl hr is globals m owned =
    let here : Locals = record { temps = old; owned = owned } in
    let both = λ (x : BinaryOp) (k : Class). assigned here m to.temp (option_and_then (λ u. option_and_then (λ v. operate_two m x k u v) (operand globals old (right_class x k) right)) (operand globals old (left_class x k) left)) in
    ap (λ x. both x to.class) sum
    ∙ (ap (λ k. both Add k) long
    ∙ (ap (λ x. assigned here m to.temp (option_and_then (λ u. option_and_then (λ v. operate_two m Add L u v) (operand globals old L right)) x)) (ap (option_and_then (in_place L)) (hl globals))
    ∙ (ap (λ x. assigned here m to.temp (option_and_then (λ v. operate_two m Add L (Pointer b o) v) x)) (ap (option_and_then (in_place L)) (hr globals))
    ∙ ap (λ temps. Done 1 (record { temps = temps; owned = owned }) m) (sym is))))

-- ---- as a call answered

pub store_answered : (temps : List (Option Value)) (old new : Memory) (size : Size) (value at : Val) (n w b o : ℕ) (r : Bool)
    → MatchBool r (store old (byte_count size) (Pointer b o) (Integer w) ≡ Some new) (new ≡ old)
    → ((globals : List Value) → value_at globals temps value ≡ Some (Integer n)) → ((globals : List Value) → value_at globals temps at ≡ Some (Pointer b o))
    → w ≡ in_class (stored_class size) n
    → MatchBool r ((globals : List Value) → Does globals (held temps old) (Store size value at) (held temps new)) (new ≡ old)
store_answered temps old new size value at n w b o true h hv ha hw = does_store temps old new size value at n w b o hv ha hw h
store_answered temps old new size value at n w b o false h hv ha hw = h

pub move_answered : (old new : List (Option Value)) (to : Dest) (op : BinaryOp) (left right : Val) (base from place n : ℕ) (r : Bool)
    → MatchBool r (Moves old from n place new) (new ≡ old) → to.class ≡ L → op ≡ Add → left ≡ Temp base → from ≡ base → place ≡ to.temp
    → ((globals : List Value) → value_at globals old right ≡ Some (Integer n))
    → MatchBool r ((globals : List Value) (m : Memory) → Does globals (held old m) (Binary to op left right) (held new m)) (new ≡ old)
move_answered old new to op left right base from place n true h long sum is f p hr =
    does_move old new to op left right h.block h.offset n long sum
    (λ globals. ap (value_at globals old) is ∙ (ap (λ (k : ℕ). option_flatten (slice_get old k)) (sym f) ∙ h.source)) hr
    (h.moved ∙ ap (λ (k : ℕ). slice_set old k (Some (Pointer h.block ((h.offset + n) % 2 ^ 64)))) p)
move_answered old new to op left right base from place n false h long sum is f p hr = h
