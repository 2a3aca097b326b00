-- Where bounds are right, a call within the room doesn't end for want of stack; so neither does a program whose `main` is within it.
use Rattle.std.proofs.Common.{◌≡◌, ◌≢◌, ℕ, zero, suc, ◌+◌, ◌-◌, ◌%◌, ◌^◌, ◌≤◌, Bool, true, false, nat_eq, nat_le, List, [], ◌∷◌, ◌++◌, length, map, replicate, refl, sym, ◌∙◌, ap, subst, arith, cond, nat_lt, slice_get, Option, Some, None, unwrap_or, option_and_then}
use Rattle.std.specs.List.{list_all, flat_map}
use Rattle.std.proofs.lemmas.Bool.{and_parts}
use Rattle.std.proofs.lemmas.Bool.Decides.{nat_tests}
use Rattle.std.proofs.lemmas.List.{length-map}
use Rattle.std.proofs.lemmas.Option.{same_Some, none-some}
use Rattle.il_ast.specs.declared.limits.TheConstants.{STACK_ROOM}
use Rattle.il_ast.specs.declared.operation.Class.{Class}
use Rattle.il_ast.specs.declared.operation.Class.TheVariants.{W, L}
use Rattle.il_ast.specs.declared.operation.Size.{Size}
use Rattle.il_ast.specs.declared.operand.Dest.{Dest}
use Rattle.il_ast.specs.declared.function.Param.{Param}
use Rattle.il_ast.specs.declared.function.Func.{Func}
use Rattle.il_ast.specs.declared.datum.Item.{Item}
use Rattle.il_ast.specs.declared.datum.Item.TheVariants.{Int as NumberItem, Bytes, Address}
use Rattle.il_ast.specs.declared.datum.Field.{Field}
use Rattle.il_ast.specs.declared.datum.Field.TheVariants.{Items, Zeros}
use Rattle.il_ast.specs.declared.datum.DataDef.{DataDef}
use Rattle.il_ast.specs.declared.program.InText.{InText}
use Rattle.il_ast.specs.declared.program.Target.{Target}
use Rattle.il_ast.specs.declared.program.Program.{Program}
use Rattle.il_ast.specs.declared.value.Callee.{Callee}
use Rattle.il_ast.specs.declared.value.Callee.TheVariants.{Defined, SystemWrite, SystemExit}
use Rattle.il_ast.specs.declared.value.Value.{Value}
use Rattle.il_ast.specs.declared.value.Value.TheVariants.{Integer, Pointer, Function}
use Rattle.il_ast.specs.declared.value.Cell.{Cell}
use Rattle.il_ast.specs.declared.value.Cell.TheVariants.{Plain, Blank}
use Rattle.il_ast.specs.declared.value.End.{End}
use Rattle.il_ast.specs.declared.value.End.TheVariants.{Exit, Halt, Undefined, Stack, Turns}
use Rattle.il_ast.specs.Prelude.{same_class, bytes_of, byte_count, Memory, cells_at, plain_bytes, parts, need, Activation, Call, Effect, Goes, Returns, Ends, effect, Spent, nothing, one_turn, one_call, Outcome, Returned, Ended, after, Callees, Rest, receive, resume, perform, run, with_args, begun, body, target_value, values_of, globals_of, address_cells, item_cells, field_cells, object_cells, word_cells, pointers_from, start_memory, same_classes, result_fits, call_fits, answered, put_out, write_bytes, write_integer, write_call, exit_call, call_function, call_named, callees, main_args, params_of, main_call, end_of, behaviour_of, outcome, meaning}
use Rattle.il_ast.specs.Effect.{Calls}
use Rattle.stack_bound.specs.declared.bounds.Bounds.{Bounds}
use Rattle.stack_bound.specs.Bounds.{bound_of, at_most, arity, names_in, left_of, blocks_fit, function_fits, functions_fit, item_fits, field_fits, object_fits, are_bounds, BoundsAreEnough, EnoughStays}
use Rattle.stack_bound.proofs.Every.{Every, IfThere, every_append, every_set, every_replicate, every_map}
use Rattle.stack_bound.proofs.Good.{GoodValue, Good, GoodCell, GoodCells, GoodMemory, GoodTemps, good_plain, good_parts}
use Rattle.stack_bound.proofs.GoodTurns.{Within, GoodCall, call_more, NotStack, GoodEffect, good_name, BlocksFit, good_effect}

never : {A : Type 0} → false ≡ true → A
never e = absurd (no e)
  where
    no : false ≡ true → ⊥
    no h = cc

left_is : (need bound left : ℕ) → left_of need bound ≡ Some left → (need ≤ bound) × (left ≡ bound - need)
left_is need bound left e = by_test (nat_le need bound) refl e
  where
    by_test : (t : Bool) → nat_le need bound ≡ t → cond t (Some (bound - need)) None ≡ Some left → (need ≤ bound) × (left ≡ bound - need)
    by_test true a h = (grind (arith, nat_tests), sym (same_Some (bound - need) left h))
    by_test false a h = absurd (none-some left h)

abbrev pub GoodOutcome : Program → Bounds → Outcome → Type 0
GoodOutcome p b (Returned s v m) = Good p b v × GoodMemory p b m
GoodOutcome p b (Ended s e) = NotStack e

-- what each call within the room does
abbrev pub GoodCallees : Program → Bounds → Callees → Type 0
GoodCallees p b callees =
    (call : Call) (t room : ℕ) (m : Memory) → GoodCall p b room call → GoodMemory p b m → GoodOutcome p b (callees call t room m)

abbrev GoodRest : Program → Bounds → Rest → Type 0
GoodRest p b rest =
    (t : ℕ) (a : Activation) (m : Memory) → GoodTemps p b a.locals.temps → GoodMemory p b m → GoodOutcome p b (rest t a m)

module _ (p : Program) (b : Bounds) where
  good_after : (s : Spent) (o : Outcome) → GoodOutcome p b o → GoodOutcome p b (after s o)
  good_after s (Returned t v m) h = h
  good_after s (Ended t e) h = h

  good_choice : (t : Bool) (o x : Outcome) → (t ≡ true → GoodOutcome p b o) → GoodOutcome p b x → GoodOutcome p b (cond t o x)
  good_choice true o x h k = h refl
  good_choice false o x h k = k

  -- ---- bodies

  good_receive : (rest : Rest) → GoodRest p b rest → (t : ℕ) (to : Option Dest) (a : Activation) (v : Option Value) (m : Memory) → GoodTemps p b a.locals.temps → Good p b v → GoodMemory p b m → GoodOutcome p b (receive rest t to a v m)
  good_receive rest r t None a v m g h k = r t a m g k
  good_receive rest r t (Some to) a None m g h k = tt
  good_receive rest r t (Some to) a (Some v) m g h k = r t _ m (every_set (Good p b) a.locals.temps to.temp (Some v) g h) k

  good_resume : (rest : Rest) → GoodRest p b rest → (t : ℕ) (to : Option Dest) (a : Activation) (o : Outcome) → GoodTemps p b a.locals.temps → GoodOutcome p b o → GoodOutcome p b (resume rest t to a o)
  good_resume rest r t to a (Returned s v m) g h = good_after s _ (good_receive rest r (t - s.turns) to a v m g h.0 h.1)
  good_resume rest r t to a (Ended s e) g h = h

  good_perform : (callees : Callees) → GoodCallees p b callees → (left room : ℕ) → left ≤ room → (rest : Rest) → GoodRest p b rest → (t : ℕ) (m : Memory) → GoodMemory p b m → (e : Effect) → GoodEffect p b left e → GoodOutcome p b (perform callees room rest t m e)
  good_perform callees c left room le rest r t m k (Goes w a now) h = good_after (one_turn w) _ (r t a now h.0 h.1)
  good_perform callees c left room le rest r t m k (Calls w call to a) h =
      good_after (one_turn w) _
      (good_resume rest r t to a (callees call t room m) h.1 (c call t room m (call_more p b left room call le h.0) k))
  good_perform callees c left room le rest r t m k (Returns v now) h = h
  good_perform callees c left room le rest r t m k (Ends e) h = h

  good_run : (names : List Target) (left room : ℕ) (f : Func) (callees : Callees) → GoodCallees p b callees → left ≤ room → BlocksFit p b names left f → (steps : ℕ) → GoodRest p b (run (record { func = f; globals = map target_value names }) callees room steps)
  unfolding run
  good_run names left room f callees c le i zero t a m g h = tt
  good_run names left room f callees c le i (suc k) zero a m g h = tt
  good_run names left room f callees c le i (suc k) (suc t) a m g h =
      good_perform callees c left room le (run (record { func = f; globals = map target_value names }) callees room k)
      (good_run names left room f callees c le i k) t m h (effect (record { func = f; globals = map target_value names }) a m)
      (good_effect p b names left f a m i g h)

  good_with_args : (temps : List (Option Value)) (params : List Param) (vs : List Value) → GoodTemps p b temps → Every (GoodValue p b) vs → GoodTemps p b (with_args temps params vs)
  good_with_args temps [] vs g h = g
  good_with_args temps (x ∷ xs) [] g h = g
  good_with_args temps (x ∷ xs) (v ∷ vs) g h = good_with_args _ xs vs (every_set (Good p b) temps x.temp (Some v) g h.0) h.1

  good_body : (names : List Target) (globals : List Value) → globals ≡ map target_value names → (left room : ℕ) (f : Func) (callees : Callees) → GoodCallees p b callees → left ≤ room → BlocksFit p b names left f → (t : ℕ) (args : List Value) (m : Memory) → Every (GoodValue p b) args → GoodMemory p b m → GoodOutcome p b (body (record { func = f; globals = globals }) callees t room args m)
  good_body names globals same left room f callees c le i t args m g h =
      subst (λ (x : List Value). GoodOutcome p b (body (record { func = f; globals = x }) callees t room args m)) (sym same)
      (good_run names left room f callees c le i t t (begun f args) m
      (good_with_args (replicate (length f.temps) None) f.params args (every_replicate (Good p b) (length f.temps) None tt) g) h)

  -- ---- calls

  same_names : (x : Option (List Target)) → values_of x ≡ map target_value (unwrap_or x [])
  same_names None = refl
  same_names (Some targets) = refl

  same_lengths : (cs ds : List Class) → same_classes cs ds ≡ true → length cs ≡ length ds
  same_lengths [] [] h = refl
  same_lengths [] (d ∷ ds) h = never h
  same_lengths (c ∷ cs) [] h = never h
  same_lengths (c ∷ cs) (d ∷ ds) h = ap suc (same_lengths cs ds (and_parts (same_class c d) (same_classes cs ds) h).1)

  -- the call's function, with its bound
  good_entry : (f : InText Func) (bound : Option ℕ) (callees : Callees) → GoodCallees p b callees → (t room : ℕ) (args : List Value) (m : Memory) → function_fits p b f bound ≡ true → at_most bound (Some room) ≡ true → Every (GoodValue p b) args → GoodMemory p b m → GoodOutcome p b (cond (nat_lt room (need f.item)) (Ended nothing Stack) (after one_call (body (record { func = f.item; globals = globals_of p f.text }) callees t (room - need f.item) args m)))
  good_entry f None callees c t room args m fits within g h = never within
  good_entry f (Some n) callees c t room args m fits within g h = by_left (left_of (need f.item) n) refl fits
    where
      by_left : (left : Option ℕ) → left_of (need f.item) n ≡ left → blocks_fit p b f left ≡ true → GoodOutcome p b (cond (nat_lt room (need f.item)) (Ended nothing Stack) (after one_call (body (record { func = f.item; globals = globals_of p f.text }) callees t (room - need f.item) args m)))
      by_left None e i = never i
      by_left (Some left) e i =
          let is = left_is (need f.item) n left e in
          let fewer : need f.item ≤ n = is.0 in
          let same : left ≡ n - need f.item = is.1 in
          let enough : nat_lt room (need f.item) ≡ false = grind (arith, nat_tests) in
          let less : left ≤ room - need f.item = grind (arith, nat_tests) in
          rw enough
          (good_after one_call _
          (good_body (names_in p f.text) (globals_of p f.text) (same_names (slice_get p.targets f.text)) left (room - need f.item) f.item callees c less i t args m g h))

  functions_at : (n : ℕ) (fs : List (InText Func)) (k j : ℕ) → functions_fit p b n fs ≡ true → j ≡ n + k → IfThere (λ (f : InText Func). function_fits p b f (bound_of b (Defined j)) ≡ true) (slice_get fs k)
  functions_at n [] k j h e = tt
  functions_at n (f ∷ fs) zero j h e =
      let same : n ≡ j = omega arith in
      subst (λ (i : ℕ). function_fits p b f (bound_of b (Defined i)) ≡ true) same
      (and_parts (function_fits p b f (bound_of b (Defined n))) (functions_fit p b (n + 1) fs) h).0
  functions_at n (f ∷ fs) (suc k) j h e =
      functions_at (n + 1) fs k j (and_parts (function_fits p b f (bound_of b (Defined n))) (functions_fit p b (n + 1) fs) h).1 (omega arith)

  good_defined : functions_fit p b 0 p.functions ≡ true → (callees : Callees) → GoodCallees p b callees → (call : Call) (t room : ℕ) (m : Memory) (k : ℕ) (x : Option (InText Func)) → slice_get p.functions k ≡ x → IfThere (λ (f : InText Func). function_fits p b f (bound_of b (Defined k)) ≡ true) x → Within p b room (length call.classes) (Defined k) → Every (GoodValue p b) call.args → GoodMemory p b m → GoodOutcome p b (call_function p callees call t room m x)
  good_defined right callees c call t room m k None at fits within g h = tt
  good_defined right callees c call t room m k (Some f) at fits within g h =
      good_choice (call_fits call (map (λ (x : Param). x.class) f.item.params) f.item.result) _ (Ended nothing Undefined)
      (λ e. good_entry f (bound_of b (Defined k)) callees c t room call.args m fits (within (counted e)) g h)
      tt
    where
      counted : call_fits call (map (λ (x : Param). x.class) f.item.params) f.item.result ≡ true → arity p k ≡ length call.classes
      counted e =
          ap (λ (y : Option (InText Func)). length (params_of y)) at
          ∙ (sym (length-map f.item.params (λ (x : Param). x.class))
          ∙ sym (same_lengths call.classes (map (λ (x : Param). x.class) f.item.params)
          (and_parts (same_classes call.classes (map (λ (x : Param). x.class) f.item.params)) (result_fits call.wants f.item.result) e).0))

  good_put_out : (n : ℕ) (m : Memory) (bytes : Option (List ℕ)) → GoodMemory p b m → GoodOutcome p b (put_out n m bytes)
  good_put_out n m None h = tt
  good_put_out n m (Some bytes) h = (tt, h)

  good_write_bytes : (v : Value) (n : ℕ) (m : Memory) → GoodMemory p b m → GoodOutcome p b (write_bytes v n m)
  good_write_bytes (Pointer k o) n m h =
      first (nat_eq n 0) (answered [] 0 m) (put_out n m (option_and_then plain_bytes (cells_at m k o n))) (tt, h)
      (good_put_out n m (option_and_then plain_bytes (cells_at m k o n)) h)
    where
      first : (t : Bool) (o x : Outcome) → GoodOutcome p b o → GoodOutcome p b x → GoodOutcome p b (cond t o x)
      first t o x g k = good_choice t o x (λ e. g) k
  good_write_bytes (Integer k) n m h = good_choice (nat_eq n 0) (answered [] 0 m) (Ended nothing Undefined) (λ e. (tt, h)) tt
  good_write_bytes (Function f) n m h = good_choice (nat_eq n 0) (answered [] 0 m) (Ended nothing Undefined) (λ e. (tt, h)) tt

  good_write_integer : (v n : Value) (m : Memory) → GoodMemory p b m → GoodOutcome p b (write_integer v n m)
  good_write_integer v (Integer n) m h = good_write_bytes v n m h
  good_write_integer v (Pointer k o) m h = tt
  good_write_integer v (Function f) m h = tt

  good_write_call : (args : List Value) (m : Memory) → GoodMemory p b m → GoodOutcome p b (write_call args m)
  good_write_call [] m h = tt
  good_write_call (Pointer k o ∷ args) m h = tt
  good_write_call (Function f ∷ args) m h = tt
  good_write_call (Integer d ∷ []) m h = tt
  good_write_call (Integer d ∷ v ∷ []) m h = tt
  good_write_call (Integer d ∷ v ∷ n ∷ []) m h =
      good_choice (nat_eq d 1) (write_integer v n m) (answered [] (2 ^ 64 - 9) m) (λ e. good_write_integer v n m h) (tt, h)
  good_write_call (Integer d ∷ v ∷ n ∷ x ∷ args) m h = tt

  good_exit_call : (args : List Value) → GoodOutcome p b (exit_call args)
  good_exit_call [] = tt
  good_exit_call (Integer s ∷ []) = tt
  good_exit_call (Integer s ∷ x ∷ args) = tt
  good_exit_call (Pointer k o ∷ args) = tt
  good_exit_call (Function f ∷ args) = tt

  good_named : functions_fit p b 0 p.functions ≡ true → (callees : Callees) → GoodCallees p b callees → (call : Call) (t room : ℕ) (m : Memory) (f : Callee) → Within p b room (length call.classes) f → Every (GoodValue p b) call.args → GoodMemory p b m → GoodOutcome p b (call_named p callees call t room m f)
  good_named right callees c call t room m (Defined k) within g h =
      good_defined right callees c call t room m k (slice_get p.functions k) refl
      (functions_at 0 p.functions k k right (omega arith)) within g h
  good_named right callees c call t room m SystemWrite within g h =
      good_choice (call_fits call (W ∷ L ∷ L ∷ []) (Some L)) (write_call call.args m) (Ended nothing Undefined) (λ e. good_write_call call.args m h) tt
  good_named right callees c call t room m SystemExit within g h =
      good_choice (call_fits call (W ∷ []) None) (exit_call call.args) (Ended nothing Undefined) (λ e. good_exit_call call.args) tt

  pub good_callees : functions_fit p b 0 p.functions ≡ true → (depth : ℕ) → GoodCallees p b (callees p depth)
  unfolding callees
  good_callees right zero call t room m g h = tt
  good_callees right (suc k) call t room m g h =
      good_named right (callees p k) (good_callees right k) call t room m call.callee g.within g.args h

  -- ---- the start

  good_address : (v : Option Value) (offset : ℕ) → Good p b v → GoodCells p b (address_cells v offset)
  good_address (Some (Pointer k o)) offset h = good_parts p b (Pointer k ((o + offset) % 2 ^ 64)) tt
  good_address (Some (Integer n)) offset h = every_replicate (GoodCell p b) 8 Blank tt
  good_address None offset h = every_replicate (GoodCell p b) 8 Blank tt
  good_address (Some (Function f)) offset h =
      either (nat_eq offset 0) (parts (Function f)) (replicate 8 Blank) (good_parts p b (Function f) h) (every_replicate (GoodCell p b) 8 Blank tt)
    where
      either : (t : Bool) (xs ys : List Cell) → GoodCells p b xs → GoodCells p b ys → GoodCells p b (cond t xs ys)
      either true xs ys g k = g
      either false xs ys g k = k

  good_item : (names : List Target) (size : Size) (i : Item) → item_fits p b names i ≡ true → GoodCells p b (item_cells (map target_value names) size i)
  good_item names size (NumberItem n) h = good_plain p b (bytes_of (byte_count size) n)
  good_item names size (Bytes bytes) h = good_plain p b bytes
  good_item names size (Address g offset) h = good_address (slice_get (map target_value names) g) offset (good_name p b names g h)

  good_items : (names : List Target) (size : Size) (items : List Item) → list_all (item_fits p b names) items ≡ true → GoodCells p b (flat_map (item_cells (map target_value names) size) items)
  good_items names size [] h = tt
  good_items names size (i ∷ items) h =
      let parts = and_parts (item_fits p b names i) (list_all (item_fits p b names) items) h in
      every_append (GoodCell p b) (item_cells (map target_value names) size i) _ (good_item names size i parts.0) (good_items names size items parts.1)

  good_field : (names : List Target) (f : Field) → field_fits p b names f ≡ true → GoodCells p b (field_cells (map target_value names) f)
  good_field names (Items size items) h = good_items names size items h
  good_field names (Zeros n) h = every_replicate (GoodCell p b) n (Plain 0) tt

  good_fields : (names : List Target) (fields : List Field) → list_all (field_fits p b names) fields ≡ true → GoodCells p b (flat_map (field_cells (map target_value names)) fields)
  good_fields names [] h = tt
  good_fields names (f ∷ fields) h =
      let parts = and_parts (field_fits p b names f) (list_all (field_fits p b names) fields) h in
      every_append (GoodCell p b) (field_cells (map target_value names) f) _ (good_field names f parts.0) (good_fields names fields parts.1)

  good_objects : (ds : List (InText DataDef)) → list_all (object_fits p b) ds ≡ true → GoodMemory p b (map (λ (d : InText DataDef). Some (object_cells p d)) ds)
  good_objects [] h = tt
  good_objects (d ∷ ds) h =
      let parts = and_parts (object_fits p b d) (list_all (object_fits p b) ds) h in (
        subst (λ (x : List Value). GoodCells p b (flat_map (field_cells x) d.item.fields)) (sym (same_names (slice_get p.targets d.text)))
            (good_fields (names_in p d.text) d.item.fields parts.0),
        good_objects ds parts.1,
      )

  good_pointers : (k n : ℕ) → GoodCells p b (pointers_from k n)
  good_pointers k zero = tt
  good_pointers k (suc n) = every_append (GoodCell p b) (parts (Pointer k 0)) _ (good_parts p b (Pointer k 0) tt) (good_pointers (k + 1) n)

  good_start : list_all (object_fits p b) p.objects ≡ true → (words : List (List ℕ)) → GoodMemory p b (start_memory p words)
  good_start right words =
      every_append (IfThere (GoodCells p b)) (map (λ (d : InText DataDef). Some (object_cells p d)) p.objects) _ (good_objects p.objects right)
      (every_append (IfThere (GoodCells p b)) (map (λ (w : List ℕ). Some (word_cells w)) words) _
      (every_map (IfThere (GoodCells p b)) (λ (w : List ℕ). Some (word_cells w)) (λ w. good_plain p b (w ++ 0 ∷ [])) words) (
        every_append (GoodCell p b) (pointers_from (length p.objects) (length words)) _ (good_pointers (length p.objects) (length words))
            (every_replicate (GoodCell p b) 8 (Plain 0) tt),
        tt,
      ))

  good_main_args : (objects words : ℕ) (params : List Param) → Every (GoodValue p b) (main_args objects words params)
  good_main_args objects words [] = tt
  good_main_args objects words (x ∷ xs) = (tt, (tt, tt))

-- ---- the law

not_stack : (e : End) → NotStack e → e ≢ Stack
not_stack (Exit n) h = λ e. cc
not_stack Halt h = λ e. cc
not_stack Undefined h = λ e. cc
not_stack Stack h = absurd h
not_stack Turns h = λ e. cc

ends_so : (v : Option Value) → NotStack (end_of v)
ends_so None = tt
ends_so (Some (Integer n)) = tt
ends_so (Some (Pointer k o)) = tt
ends_so (Some (Function f)) = tt

outcome_is : (p : Program) (b : Bounds) (o : Outcome) → GoodOutcome p b o → NotStack (behaviour_of o).ending
outcome_is p b (Returned s v m) h = ends_so v
outcome_is p b (Ended s e) h = h

pub bounds_are_enough : BoundsAreEnough
unfolding are_bounds
bounds_are_enough p b n right is room words turns le =
    let parts = and_parts (functions_fit p b 0 p.functions) (list_all (object_fits p b) p.objects) right in
    not_stack _ (outcome_is p b _
    (good_callees p b parts.0 (suc turns) (main_call p words) turns room (start_memory p words)
    (record { within = λ e. fits; args = good_main_args p b (length p.objects) (length words) (params_of (slice_get p.functions p.main)) })
    (good_start p b parts.1 words)))
  where
    fits : at_most (bound_of b (Defined p.main)) (Some room) ≡ true
    fits = subst (λ (x : Option ℕ). at_most x (Some room) ≡ true) (sym is) (grind (arith, nat_tests))

pub enough_stays : EnoughStays
unfolding meaning outcome
enough_stays p n enough le words turns = enough STACK_ROOM words turns le
