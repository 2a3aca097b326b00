-- A turn of a function whose calls are within what its bound leaves keeps good locals and memory, and makes only such calls.
use Rattle.std.proofs.Common.{◌≡◌, ℕ, zero, suc, ◌≤◌, Bool, true, false, nat_eq, List, [], ◌∷◌, length, map, refl, sym, subst, arith, cond, slice_get, slice_set, Option, Some, None}
use Rattle.std.specs.List.{list_all, find}
use Rattle.std.specs.Option.{option_map, option_and_then, option_flatten}
use Rattle.std.proofs.lemmas.Bool.{and_parts}
use Rattle.std.proofs.lemmas.Bool.Decides.{nat_tests}
use Rattle.std.proofs.lemmas.List.{length-map}
use Rattle.il_ast.specs.declared.operation.Class.{Class}
use Rattle.il_ast.specs.declared.operation.Class.TheVariants.{W, L}
use Rattle.il_ast.specs.declared.operation.UnaryOp.{UnaryOp}
use Rattle.il_ast.specs.declared.operation.BinaryOp.{BinaryOp}
use Rattle.il_ast.specs.declared.operand.Val.{Val}
use Rattle.il_ast.specs.declared.operand.Val.TheVariants.{Int, Temp, Global}
use Rattle.il_ast.specs.declared.operand.Dest.{Dest}
use Rattle.il_ast.specs.declared.operand.Arg.{Arg}
use Rattle.il_ast.specs.declared.instruction.Inst.{Inst}
use Rattle.il_ast.specs.declared.instruction.Inst.TheVariants.{Unary, Binary, Alloc, Store, Blit, Call as CallInst}
use Rattle.il_ast.specs.declared.instruction.Jump.{Jump}
use Rattle.il_ast.specs.declared.instruction.Jump.TheVariants.{Goto, Branch, Return, Halt as HaltJump}
use Rattle.il_ast.specs.declared.instruction.Lined.{Lined}
use Rattle.il_ast.specs.declared.block.Phi.{Phi}
use Rattle.il_ast.specs.declared.block.PhiArg.{PhiArg}
use Rattle.il_ast.specs.declared.block.Block.{Block}
use Rattle.il_ast.specs.declared.function.Func.{Func}
use Rattle.il_ast.specs.declared.program.Program.{Program}
use Rattle.il_ast.specs.declared.program.Target.{Target}
use Rattle.il_ast.specs.declared.program.Target.TheVariants.{Code, Object}
use Rattle.il_ast.specs.declared.value.Callee.{Callee}
use Rattle.il_ast.specs.declared.value.Callee.TheVariants.{Defined, SystemWrite, SystemExit}
use Rattle.il_ast.specs.declared.value.Value.{Value}
use Rattle.il_ast.specs.declared.value.Value.TheVariants.{Integer, Pointer, Function}
use Rattle.il_ast.specs.declared.value.End.{End}
use Rattle.il_ast.specs.declared.value.End.TheVariants.{Exit, Halt, Undefined, Stack, Turns}
use Rattle.il_ast.specs.Prelude.{in_place, byte_count, Memory, store, copy, operand_class, left_class, right_class, operate_one, operate_two, Locals, Activation, Call, value_at, operand, all_operands, InstEffect, Done, Asks, Fails, assigned, changed, stored_class, blit_weight, call_effect, inst_effect, Effect, Goes, Returns, Ends, phi_value, phi_values, with_phis, place_of, entered, enter_at, enter_place, branch_to, branched, returned, return_value, jump_effect, end_effect, after_inst, turn_in, turn_of, effect, target_value}
use Rattle.il_ast.specs.Effect.{Calls}
use Rattle.stack_bound.specs.declared.bounds.Bounds.{Bounds}
use Rattle.stack_bound.specs.Bounds.{bound_of, pointed_bound, at_most, arity, name_fits, operand_fits, named_bound, call_bound, args_fit, inst_fits, phi_fits, jump_fits, end_fits, block_fits}
use Rattle.stack_bound.proofs.Every.{Every, IfThere, every_set, there_at, all_there}
use Rattle.stack_bound.proofs.Good.{GoodValue, Good, GoodMemory, GoodTemps, good_in_place, good_one, good_two, good_store, good_copy, good_fresh, good_free_all}

-- ---- bounds

pub at_most_trans : (x y z : Option ℕ) → at_most x y ≡ true → at_most y z ≡ true → at_most x z ≡ true
at_most_trans x y None h k = refl
at_most_trans x None (Some n) h k = absurd (never k)
  where
    never : false ≡ true → ⊥
    never e = cc
at_most_trans None (Some m) (Some n) h k = h
at_most_trans (Some l) (Some m) (Some n) h k = grind (arith, nat_tests)

pub at_most_more : (x : Option ℕ) (m n : ℕ) → m ≤ n → at_most x (Some m) ≡ true → at_most x (Some n) ≡ true
at_most_more None m n le h = h
at_most_more (Some l) m n le h = grind (arith, nat_tests)

-- ---- calls

-- a call of this function with n arguments is within the room, where it is one of as many parameters
abbrev pub Within : Program → Bounds → (room : ℕ) → (n : ℕ) → Callee → Type 0
Within p b room n (Defined f) = arity p f ≡ n → at_most (bound_of b (Defined f)) (Some room) ≡ true
Within p b room n SystemWrite = Unit {0}
Within p b room n SystemExit = Unit {0}

abbrev pub Reaches : Program → Bounds → (room : ℕ) → (n : ℕ) → Value → Type 0
Reaches p b room n (Function f) = Within p b room n f
Reaches p b room n (Integer k) = Unit {0}
Reaches p b room n (Pointer k o) = Unit {0}

pub record GoodCall (p : Program) (b : Bounds) (room : ℕ) (call : Call) : Type 0 where
  pub within : Within p b room (length call.classes) call.callee
  pub args : Every (GoodValue p b) call.args

within_more : (p : Program) (b : Bounds) (m n k : ℕ) (f : Callee) → m ≤ n → Within p b m k f → Within p b n k f
within_more p b m n k (Defined f) le h = λ e. at_most_more (bound_of b (Defined f)) m n le (h e)
within_more p b m n k SystemWrite le h = tt
within_more p b m n k SystemExit le h = tt

pub call_more : (p : Program) (b : Bounds) (m n : ℕ) (call : Call) → m ≤ n → GoodCall p b m call → GoodCall p b n call
call_more p b m n call le h = record { within = within_more p b m n (length call.classes) call.callee le h.within; args = h.args }

-- ---- what a turn does

abbrev pub NotStack : End → Type 0
NotStack (Exit n) = Unit {0}
NotStack Halt = Unit {0}
NotStack Undefined = Unit {0}
NotStack Stack = ⊥
NotStack Turns = Unit {0}

abbrev GoodInst : Program → Bounds → (left : ℕ) → InstEffect → Type 0
GoodInst p b left (Done w here m) = GoodTemps p b here.temps × GoodMemory p b m
GoodInst p b left (Asks w call to) = GoodCall p b left call
GoodInst p b left Fails = Unit {0}

abbrev pub GoodEffect : Program → Bounds → (left : ℕ) → Effect → Type 0
GoodEffect p b left (Goes w a m) = GoodTemps p b a.locals.temps × GoodMemory p b m
GoodEffect p b left (Calls w call to a) = GoodCall p b left call × GoodTemps p b a.locals.temps
GoodEffect p b left (Returns v m) = Good p b v × GoodMemory p b m
GoodEffect p b left (Ends e) = NotStack e

module _ (p : Program) (b : Bounds) where
  -- ---- operands

  pub good_name : (names : List Target) (g : ℕ) → name_fits p b (slice_get names g) ≡ true → Good p b (slice_get (map target_value names) g)
  good_name [] g h = tt
  good_name (Code f ∷ names) zero h = h
  good_name (Object k ∷ names) zero h = tt
  good_name (t ∷ names) (suc g) h = good_name names g h

  good_temp : (temps : List (Option Value)) (t : ℕ) → GoodTemps p b temps → Good p b (option_flatten (slice_get temps t))
  good_temp temps t h = flat (slice_get temps t) (there_at (Good p b) temps t h)
    where
      flat : (x : Option (Option Value)) → IfThere (Good p b) x → Good p b (option_flatten x)
      flat None h = tt
      flat (Some x) h = h

  good_value_at : (names : List Target) (temps : List (Option Value)) (a : Val) → operand_fits p b names a ≡ true → GoodTemps p b temps → Good p b (value_at (map target_value names) temps a)
  good_value_at names temps (Int n) h g = tt
  good_value_at names temps (Temp t) h g = good_temp temps t g
  good_value_at names temps (Global s) h g = good_name names s h

  good_operand : (names : List Target) (temps : List (Option Value)) (c : Class) (a : Val) → operand_fits p b names a ≡ true → GoodTemps p b temps → Good p b (operand (map target_value names) temps c a)
  good_operand names temps c a h g =
      good_in_place p b c (value_at (map target_value names) temps a) (good_value_at names temps a h g)

  good_join : (v : Option Value) (vs : Option (List Value)) → Good p b v → IfThere (Every (GoodValue p b)) vs → IfThere (Every (GoodValue p b)) (option_and_then (λ (x : Value). option_map (λ (xs : List Value). x ∷ xs) vs) v)
  good_join None vs h k = tt
  good_join (Some v) None h k = tt
  good_join (Some v) (Some vs) h k = (h, k)

  good_args : (names : List Target) (temps : List (Option Value)) (args : List Arg) → args_fit p b names args ≡ true → GoodTemps p b temps → IfThere (Every (GoodValue p b)) (all_operands (map target_value names) temps args)
  good_args names temps [] h g = tt
  good_args names temps (a ∷ args) h g =
      let parts = and_parts (operand_fits p b names a.value) (args_fit p b names args) h in
      good_join (operand (map target_value names) temps a.class a.value) (all_operands (map target_value names) temps args)
      (good_operand names temps a.class a.value parts.0 g) (good_args names temps args parts.1 g)

  -- ---- callees

  pointed_reaches : (left n : ℕ) (v : Value) → at_most (pointed_bound b n) (Some left) ≡ true → GoodValue p b v → Reaches p b left n v
  pointed_reaches left n (Integer k) h g = tt
  pointed_reaches left n (Pointer k o) h g = tt
  pointed_reaches left n (Function SystemWrite) h g = tt
  pointed_reaches left n (Function SystemExit) h g = tt
  pointed_reaches left n (Function (Defined f)) h g = λ e.
      at_most_trans (bound_of b (Defined f)) (pointed_bound b n) (Some left)
      (subst (λ (k : ℕ). at_most (bound_of b (Defined f)) (pointed_bound b k) ≡ true) e g) h

  named_reaches : (left n : ℕ) (f : Callee) → at_most (bound_of b f) (Some left) ≡ true → Within p b left n f
  named_reaches left n (Defined f) h = λ e. h
  named_reaches left n SystemWrite h = tt
  named_reaches left n SystemExit h = tt

  name_reaches : (left n : ℕ) (names : List Target) (g : ℕ) → at_most (named_bound b (slice_get names g)) (Some left) ≡ true → IfThere (Reaches p b left n) (slice_get (map target_value names) g)
  name_reaches left n [] g h = tt
  name_reaches left n (Code f ∷ names) zero h = named_reaches left n f h
  name_reaches left n (Object k ∷ names) zero h = tt
  name_reaches left n (t ∷ names) (suc g) h = name_reaches left n names g h

  temp_reaches : (left n : ℕ) (v : Option Value) → at_most (pointed_bound b n) (Some left) ≡ true → Good p b v → IfThere (Reaches p b left n) v
  temp_reaches left n None h g = tt
  temp_reaches left n (Some v) h g = pointed_reaches left n v h g

  value_reaches : (left n : ℕ) (names : List Target) (temps : List (Option Value)) (a : Val) → at_most (call_bound b names a n) (Some left) ≡ true → GoodTemps p b temps → IfThere (Reaches p b left n) (value_at (map target_value names) temps a)
  value_reaches left n names temps (Int k) h g = tt
  value_reaches left n names temps (Temp t) h g = temp_reaches left n (option_flatten (slice_get temps t)) h (good_temp temps t g)
  value_reaches left n names temps (Global s) h g = name_reaches left n names s h

  in_long : (left n : ℕ) (v : Option Value) → IfThere (Reaches p b left n) v → IfThere (Reaches p b left n) (option_and_then (in_place L) v)
  in_long left n None h = tt
  in_long left n (Some v) h = h

  -- ---- instructions

  good_assigned : (left : ℕ) (here : Locals) (m : Memory) (t : ℕ) (v : Option Value) → GoodTemps p b here.temps → GoodMemory p b m → Good p b v → GoodInst p b left (assigned here m t v)
  good_assigned left here m t None g h k = tt
  good_assigned left here m t (Some v) g h k = (every_set (Good p b) here.temps t (Some v) g k, h)

  good_changed : (left : ℕ) (here : Locals) (weight : ℕ) (m : Option Memory) → GoodTemps p b here.temps → IfThere (GoodMemory p b) m → GoodInst p b left (changed here weight m)
  good_changed left here weight None g h = tt
  good_changed left here weight (Some m) g h = (g, h)

  then_one : (m : Memory) (op : UnaryOp) (c : Class) (v : Option Value) → GoodMemory p b m → Good p b v → Good p b (option_and_then (operate_one m op c) v)
  then_one m op c None h g = tt
  then_one m op c (Some v) h g = good_one p b m op c v h g

  then_two : (m : Memory) (op : BinaryOp) (c : Class) (x y : Option Value) → Good p b (option_and_then (λ (u : Value). option_and_then (λ (v : Value). operate_two m op c u v) y) x)
  then_two m op c None y = tt
  then_two m op c (Some u) None = tt
  then_two m op c (Some u) (Some v) = good_two p b m op c u v

  then_store : (m : Memory) (n : ℕ) (x y : Option Value) → GoodMemory p b m → Good p b x → IfThere (GoodMemory p b) (option_and_then (λ (v : Value). option_and_then (λ (q : Value). store m n q v) y) x)
  then_store m n None y h g = tt
  then_store m n (Some v) None h g = tt
  then_store m n (Some v) (Some q) h g = good_store p b m n q v h g

  then_copy : (m : Memory) (n : ℕ) (x y : Option Value) → GoodMemory p b m → IfThere (GoodMemory p b) (option_and_then (λ (u : Value). option_and_then (λ (v : Value). copy m n u v) y) x)
  then_copy m n None y h = tt
  then_copy m n (Some u) None h = tt
  then_copy m n (Some u) (Some v) h = good_copy p b m n u v h

  good_call : (left : ℕ) (to : Option Dest) (args : List Arg) (f : Option Value) (values : Option (List Value)) → IfThere (Reaches p b left (length args)) f → IfThere (Every (GoodValue p b)) values → GoodInst p b left (call_effect to args f values)
  good_call left to args None values h g = tt
  good_call left to args (Some f) None h g = tt
  good_call left to args (Some (Integer n)) (Some values) h g = tt
  good_call left to args (Some (Pointer k o)) (Some values) h g = tt
  good_call left to args (Some (Function f)) (Some values) h g =
      record {
        within = subst (λ (n : ℕ). Within p b left n f) (sym (length-map args (λ (a : Arg). a.class))) h;
        args = g;
      }

  good_inst : (names : List Target) (left : ℕ) (here : Locals) (m : Memory) (i : Inst) → inst_fits p b names left i ≡ true → GoodTemps p b here.temps → GoodMemory p b m → GoodInst p b left (inst_effect (map target_value names) here m i)
  unfolding inst_effect
  good_inst names left here m (Unary to op a) f g h =
      good_assigned left here m to.temp _ g h
      (then_one m op to.class (operand (map target_value names) here.temps (operand_class op to.class) a) h
      (good_operand names here.temps (operand_class op to.class) a f g))
  good_inst names left here m (Binary to op a c) f g h =
      good_assigned left here m to.temp _ g h
      (then_two m op to.class (operand (map target_value names) here.temps (left_class op to.class) a)
      (operand (map target_value names) here.temps (right_class op to.class) c))
  good_inst names left here m (Alloc to alignment size) f g h =
      (every_set (Good p b) here.temps to.temp (Some (Pointer (length m) 0)) g tt, good_fresh p b m size h)
  good_inst names left here m (Store size a at) f g h =
      good_changed left here 1 _ g
      (then_store m (byte_count size) (operand (map target_value names) here.temps (stored_class size) a)
      (operand (map target_value names) here.temps L at) h (good_operand names here.temps (stored_class size) a f g))
  good_inst names left here m (Blit from to count) f g h =
      good_changed left here (blit_weight count) _ g
      (then_copy m count (operand (map target_value names) here.temps L from) (operand (map target_value names) here.temps L to) h)
  good_inst names left here m (CallInst to callee args) f g h =
      let parts = and_parts (at_most (call_bound b names callee (length args)) (Some left)) (args_fit p b names args) f in
      good_call left to args (operand (map target_value names) here.temps L callee) (all_operands (map target_value names) here.temps args)
      (in_long left (length args) (value_at (map target_value names) here.temps callee)
      (value_reaches left (length args) names here.temps callee parts.0 g))
      (good_args names here.temps args parts.1 g)

  -- ---- phis

  good_found : (names : List Target) (temps : List (Option Value)) (c : Class) (from : ℕ) (args : List PhiArg) → list_all (λ (a : PhiArg). operand_fits p b names a.value) args ≡ true → GoodTemps p b temps → Good p b (option_and_then (λ (a : PhiArg). operand (map target_value names) temps c a.value) (find (λ (a : PhiArg). nat_eq a.from from) args))
  good_found names temps c from [] h g = tt
  good_found names temps c from (a ∷ args) h g =
      let parts = and_parts (operand_fits p b names a.value) (list_all (λ (x : PhiArg). operand_fits p b names x.value) args) h in
      choose (nat_eq a.from from) (good_operand names temps c a.value parts.0 g) (good_found names temps c from args parts.1 g)
    where
      choose : (t : Bool) → Good p b (operand (map target_value names) temps c a.value) → Good p b (option_and_then (λ (x : PhiArg). operand (map target_value names) temps c x.value) (find (λ (x : PhiArg). nat_eq x.from from) args)) → Good p b (option_and_then (λ (x : PhiArg). operand (map target_value names) temps c x.value) (cond t (Some a) (find (λ (x : PhiArg). nat_eq x.from from) args)))
      choose true u v = u
      choose false u v = v

  good_phis : (names : List Target) (temps : List (Option Value)) (from : ℕ) (phis : List Phi) → list_all (phi_fits p b names) phis ≡ true → GoodTemps p b temps → IfThere (Every (GoodValue p b)) (phi_values (map target_value names) temps from phis)
  good_phis names temps from [] h g = tt
  good_phis names temps from (x ∷ xs) h g =
      let parts = and_parts (phi_fits p b names x) (list_all (phi_fits p b names) xs) h in
      good_join (phi_value (map target_value names) temps from x) (phi_values (map target_value names) temps from xs)
      (good_found names temps x.to.class from x.args parts.0 g) (good_phis names temps from xs parts.1 g)

  good_with_phis : (temps : List (Option Value)) (phis : List Phi) (vs : List Value) → GoodTemps p b temps → Every (GoodValue p b) vs → GoodTemps p b (with_phis temps phis vs)
  good_with_phis temps [] vs g h = g
  good_with_phis temps (x ∷ xs) [] g h = g
  good_with_phis temps (x ∷ xs) (v ∷ vs) g h =
      good_with_phis (slice_set temps x.to.temp (Some v)) xs vs (every_set (Good p b) temps x.to.temp (Some v) g h.0) h.1

  -- ---- jumps

  good_entered : (left : ℕ) (here : Locals) (m : Memory) (k : ℕ) (phis : List Phi) (vs : Option (List Value)) → GoodTemps p b here.temps → GoodMemory p b m → IfThere (Every (GoodValue p b)) vs → GoodEffect p b left (entered here m k phis vs)
  good_entered left here m k phis None g h i = tt
  good_entered left here m k phis (Some vs) g h i = (good_with_phis here.temps phis vs g i, h)

  -- the calls of these blocks, and what they make values of
  abbrev pub BlocksFit : List Target → (left : ℕ) → Func → Type 0
  BlocksFit names left f = list_all (block_fits p b names left) f.blocks ≡ true

  good_enter_at : (names : List Target) (left : ℕ) (f : Func) (from : ℕ) (here : Locals) (m : Memory) (k : ℕ) (x : Option Block) → IfThere (λ (y : Block). block_fits p b names left y ≡ true) x → GoodTemps p b here.temps → GoodMemory p b m → GoodEffect p b left (enter_at (record { func = f; globals = map target_value names }) from here m k x)
  good_enter_at names left f from here m k None i g h = tt
  good_enter_at names left f from here m k (Some y) i g h =
      let parts = and_parts (list_all (phi_fits p b names) y.phis) _ i in
      good_entered left here m k y.phis (phi_values (map target_value names) here.temps from y.phis) g h
      (good_phis names here.temps from y.phis parts.0 g)

  good_enter_place : (names : List Target) (left : ℕ) (f : Func) (from : ℕ) (here : Locals) (m : Memory) (k : Option ℕ) → BlocksFit names left f → GoodTemps p b here.temps → GoodMemory p b m → GoodEffect p b left (enter_place (record { func = f; globals = map target_value names }) from here m k)
  good_enter_place names left f from here m None i g h = tt
  good_enter_place names left f from here m (Some k) i g h =
      good_enter_at names left f from here m k (slice_get f.blocks k) (all_there (block_fits p b names left) f.blocks k i) g h

  good_branched : (names : List Target) (left : ℕ) (f : Func) (from : ℕ) (here : Locals) (m : Memory) (nonzero otherwise : ℕ) (v : Option Value) → BlocksFit names left f → GoodTemps p b here.temps → GoodMemory p b m → GoodEffect p b left (branched (record { func = f; globals = map target_value names }) from here m nonzero otherwise v)
  good_branched names left f from here m nonzero otherwise None i g h = tt
  good_branched names left f from here m nonzero otherwise (Some v) i g h =
      good_enter_place names left f from here m (place_of f.blocks (branch_to v nonzero otherwise)) i g h

  good_returned : (left : ℕ) (here : Locals) (m : Memory) (v : Option Value) → Good p b v → GoodMemory p b m → GoodEffect p b left (returned here m v)
  good_returned left here m None g h = tt
  good_returned left here m (Some v) g h = (g, good_free_all p b m here.owned h)

  good_return : (names : List Target) (left : ℕ) (f : Func) (here : Locals) (m : Memory) (c : Option Class) (a : Val) → operand_fits p b names a ≡ true → GoodTemps p b here.temps → GoodMemory p b m → GoodEffect p b left (return_value (record { func = f; globals = map target_value names }) here m c a)
  good_return names left f here m None a i g h = tt
  good_return names left f here m (Some c) a i g h =
      good_returned left here m (operand (map target_value names) here.temps c a) (good_operand names here.temps c a i g) h

  good_jump : (names : List Target) (left : ℕ) (f : Func) (from : ℕ) (here : Locals) (m : Memory) (j : Jump) → jump_fits p b names j ≡ true → BlocksFit names left f → GoodTemps p b here.temps → GoodMemory p b m → GoodEffect p b left (jump_effect (record { func = f; globals = map target_value names }) from here m j)
  good_jump names left f from here m (Goto l) e i g h = good_enter_place names left f from here m (place_of f.blocks l) i g h
  good_jump names left f from here m (Branch a nonzero otherwise) e i g h =
      good_branched names left f from here m nonzero otherwise (operand (map target_value names) here.temps W a) i g h
  good_jump names left f from here m (Return None) e i g h = (tt, good_free_all p b m here.owned h)
  good_jump names left f from here m (Return (Some a)) e i g h = good_return names left f here m f.result a e g h
  good_jump names left f from here m HaltJump e i g h = tt

  good_end : (names : List Target) (left : ℕ) (f : Func) (from : ℕ) (here : Locals) (m : Memory) (j : Option (Lined Jump)) → end_fits p b names j ≡ true → BlocksFit names left f → GoodTemps p b here.temps → GoodMemory p b m → GoodEffect p b left (end_effect (record { func = f; globals = map target_value names }) from here m j)
  good_end names left f from here m None e i g h = tt
  good_end names left f from here m (Some j) e i g h = good_jump names left f from here m j.item e i g h

  -- ---- turns

  good_after_inst : (left block next : ℕ) (here : Locals) (e : InstEffect) → GoodTemps p b here.temps → GoodInst p b left e → GoodEffect p b left (after_inst block next here e)
  good_after_inst left block next here (Done w now m) g h = h
  good_after_inst left block next here (Asks w call to) g h = (h, g)
  good_after_inst left block next here Fails g h = tt

  good_turn_in : (names : List Target) (left : ℕ) (f : Func) (a : Activation) (m : Memory) (x : Block) (i : Option (Lined Inst)) → block_fits p b names left x ≡ true → IfThere (λ (y : Lined Inst). inst_fits p b names left y.item ≡ true) i → BlocksFit names left f → GoodTemps p b a.locals.temps → GoodMemory p b m → GoodEffect p b left (turn_in (record { func = f; globals = map target_value names }) a m x i)
  good_turn_in names left f a m x (Some y) e k i g h =
      good_after_inst left a.block a.next a.locals (inst_effect (map target_value names) a.locals m y.item) g
      (good_inst names left a.locals m y.item k g h)
  good_turn_in names left f a m x None e k i g h =
      let parts = and_parts (list_all (phi_fits p b names) x.phis) _ e in
      let more = and_parts (list_all (λ (y : Lined Inst). inst_fits p b names left y.item) x.insts) _ parts.1 in
      good_end names left f x.label a.locals m x.jump more.1 i g h

  good_turn_of : (names : List Target) (left : ℕ) (f : Func) (a : Activation) (m : Memory) (x : Option Block) → IfThere (λ (y : Block). block_fits p b names left y ≡ true) x → BlocksFit names left f → GoodTemps p b a.locals.temps → GoodMemory p b m → GoodEffect p b left (turn_of (record { func = f; globals = map target_value names }) a m x)
  good_turn_of names left f a m None e i g h = tt
  good_turn_of names left f a m (Some x) e i g h =
      let parts = and_parts (list_all (phi_fits p b names) x.phis) _ e in
      let more = and_parts (list_all (λ (y : Lined Inst). inst_fits p b names left y.item) x.insts) _ parts.1 in
      good_turn_in names left f a m x (slice_get x.insts a.next) e
      (all_there (λ (y : Lined Inst). inst_fits p b names left y.item) x.insts a.next more.0) i g h

  pub good_effect : (names : List Target) (left : ℕ) (f : Func) (a : Activation) (m : Memory) → BlocksFit names left f → GoodTemps p b a.locals.temps → GoodMemory p b m → GoodEffect p b left (effect (record { func = f; globals = map target_value names }) a m)
  unfolding effect
  good_effect names left f a m i g h =
      good_turn_of names left f a m (slice_get f.blocks a.block) (all_there (block_fits p b names left) f.blocks a.block i) i g h
