-- Values, memory and locals whose functions may be called by pointer: what operations, loads, stores and copies make of such are such.
use Rattle.std.proofs.Common.{◌≡◌, ℕ, zero, suc, ◌+◌, Bool, true, false, nat_eq, nat_le, List, [], ◌∷◌, ◌++◌, length, take, drop, map, replicate, cond, slice_get, slice_set, Option, Some, None}
use Rattle.std.specs.Option.{option_map, option_and_then, option_flatten}
use Rattle.il_ast.specs.declared.operation.Class.{Class}
use Rattle.il_ast.specs.declared.operation.Class.TheVariants.{W, L}
use Rattle.il_ast.specs.declared.operation.Extension.{Extension}
use Rattle.il_ast.specs.declared.operation.UnaryOp.{UnaryOp}
use Rattle.il_ast.specs.declared.operation.UnaryOp.TheVariants.{Neg, Copy, Extend, LoadLong, Load}
use Rattle.il_ast.specs.declared.operation.BinaryOp.{BinaryOp}
use Rattle.il_ast.specs.declared.operation.BinaryOp.TheVariants.{Add, Sub, Mul, And, Or, Xor, Div, Rem, Udiv, Urem, Sar, Shr, Shl, Compare}
use Rattle.il_ast.specs.declared.program.Program.{Program}
use Rattle.il_ast.specs.declared.value.Value.{Value}
use Rattle.il_ast.specs.declared.value.Value.TheVariants.{Integer, Pointer, Function}
use Rattle.il_ast.specs.declared.value.Cell.{Cell}
use Rattle.il_ast.specs.declared.value.Cell.TheVariants.{Plain, Part, Blank}
use Rattle.il_ast.specs.Prelude.{bytes_of, number_of, in_place, Memory, block_at, parts, cells_for, plain_bytes, are_parts_from, value_of, span, put, cells_at, write_at, load, store, apart_or_same, copy, free, free_all, widened, extension_bytes, operate_one, on_integers, on_places, compare_places, operate_two, truth}
use Rattle.stack_bound.specs.declared.bounds.Bounds.{Bounds}
use Rattle.stack_bound.specs.Bounds.{callee_fits}
use Rattle.stack_bound.proofs.Every.{Every, IfThere, every_append, every_take, every_drop, every_set, every_replicate, every_map, there_at}

abbrev pub GoodValue : Program → Bounds → Value → Type 0
GoodValue p b (Integer n) = Unit {0}
GoodValue p b (Pointer k o) = Unit {0}
GoodValue p b (Function f) = callee_fits p b f ≡ true

-- a value that there may be
abbrev pub Good : Program → Bounds → Option Value → Type 0
Good p b v = IfThere (GoodValue p b) v

abbrev pub GoodCell : Program → Bounds → Cell → Type 0
GoodCell p b (Plain n) = Unit {0}
GoodCell p b (Part v i) = GoodValue p b v
GoodCell p b Blank = Unit {0}

abbrev pub GoodCells : Program → Bounds → List Cell → Type 0
GoodCells p b cells = Every (GoodCell p b) cells

abbrev pub GoodMemory : Program → Bounds → Memory → Type 0
GoodMemory p b m = Every (IfThere (GoodCells p b)) m

abbrev pub GoodTemps : Program → Bounds → List (Option Value) → Type 0
GoodTemps p b temps = Every (Good p b) temps

module _ (p : Program) (b : Bounds) where
  -- ---- values

  pub good_integer : (n : Option ℕ) → Good p b (option_map Integer n)
  good_integer None = tt
  good_integer (Some n) = tt

  pub good_in_place : (c : Class) (v : Option Value) → Good p b v → Good p b (option_and_then (in_place c) v)
  good_in_place c None h = tt
  good_in_place W (Some (Integer n)) h = tt
  good_in_place W (Some (Pointer k o)) h = tt
  good_in_place W (Some (Function f)) h = tt
  good_in_place L (Some v) h = h

  good_cond : (t : Bool) (u v : Option Value) → Good p b u → Good p b v → Good p b (cond t u v)
  good_cond true u v h k = h
  good_cond false u v h k = k

  -- ---- cells

  pub good_plain : (bytes : List ℕ) → GoodCells p b (map Plain bytes)
  good_plain bytes = every_map (GoodCell p b) Plain (λ n. tt) bytes

  pub good_parts : (v : Value) → GoodValue p b v → GoodCells p b (parts v)
  good_parts v h = (h, (h, (h, (h, (h, (h, (h, (h, tt))))))))

  cells_cond : (t : Bool) (u v : Option (List Cell)) → IfThere (GoodCells p b) u → IfThere (GoodCells p b) v → IfThere (GoodCells p b) (cond t u v)
  cells_cond true u v h k = h
  cells_cond false u v h k = k

  good_cells_for : (n : ℕ) (v : Value) → GoodValue p b v → IfThere (GoodCells p b) (cells_for n v)
  good_cells_for n (Integer k) h = good_plain (bytes_of n k)
  good_cells_for n (Pointer k o) h = cells_cond (nat_eq n 8) (Some (parts (Pointer k o))) None (good_parts (Pointer k o) tt) tt
  good_cells_for n (Function f) h = cells_cond (nat_eq n 8) (Some (parts (Function f))) None (good_parts (Function f) h) tt

  good_value_of : (cells : List Cell) → GoodCells p b cells → Good p b (value_of cells)
  good_value_of [] h = tt
  good_value_of (Plain n ∷ cells) h = good_integer (option_map number_of (plain_bytes (Plain n ∷ cells)))
  good_value_of (Part v i ∷ cells) h = good_cond (are_parts_from 0 v (Part v i ∷ cells)) (Some v) None h.0 tt
  good_value_of (Blank ∷ cells) h = good_integer (option_map number_of (plain_bytes (Blank ∷ cells)))

  -- ---- memory

  good_block : (m : Memory) (k : ℕ) → GoodMemory p b m → IfThere (GoodCells p b) (block_at m k)
  good_block m k h = flat (slice_get m k) (there_at (IfThere (GoodCells p b)) m k h)
    where
      flat : (x : Option (Option (List Cell))) → IfThere (IfThere (GoodCells p b)) x → IfThere (GoodCells p b) (option_flatten x)
      flat None h = tt
      flat (Some x) h = h

  good_span : (o n : ℕ) (cells : Option (List Cell)) → IfThere (GoodCells p b) cells → IfThere (GoodCells p b) (option_and_then (span o n) cells)
  good_span o n None h = tt
  good_span o n (Some cells) h =
      cells_cond (nat_le (o + n) (length cells)) (Some (take n (drop o cells))) None
      (every_take (GoodCell p b) n (drop o cells) (every_drop (GoodCell p b) o cells h)) tt

  good_cells_at : (m : Memory) (k o n : ℕ) → GoodMemory p b m → IfThere (GoodCells p b) (cells_at m k o n)
  good_cells_at m k o n h = good_span o n (block_at m k) (good_block m k h)

  good_put : (o : ℕ) (new : List Cell) (cells : Option (List Cell)) → GoodCells p b new → IfThere (GoodCells p b) cells → IfThere (GoodCells p b) (option_and_then (put o new) cells)
  good_put o new None g h = tt
  good_put o new (Some cells) g h =
      cells_cond (nat_le (o + length new) (length cells)) (Some (take o cells ++ (new ++ drop (o + length new) cells))) None
      (every_append (GoodCell p b) (take o cells) (new ++ drop (o + length new) cells) (every_take (GoodCell p b) o cells h)
      (every_append (GoodCell p b) new (drop (o + length new) cells) g (every_drop (GoodCell p b) (o + length new) cells h)))
      tt

  pub good_write : (m : Memory) (k o : ℕ) (new : Option (List Cell)) → GoodMemory p b m → IfThere (GoodCells p b) new → IfThere (GoodMemory p b) (option_and_then (write_at m k o) new)
  good_write m k o None h g = tt
  good_write m k o (Some new) h g = written (option_and_then (put o new) (block_at m k)) (good_put o new (block_at m k) g (good_block m k h))
    where
      written : (cells : Option (List Cell)) → IfThere (GoodCells p b) cells → IfThere (GoodMemory p b) (option_map (λ (c : List Cell). slice_set m k (Some c)) cells)
      written None g = tt
      written (Some cells) g = every_set (IfThere (GoodCells p b)) m k (Some cells) h g

  pub good_load : (m : Memory) (n : ℕ) (v : Value) → GoodMemory p b m → Good p b (load m n v)
  unfolding load
  good_load m n (Integer k) h = tt
  good_load m n (Function f) h = tt
  good_load m n (Pointer k o) h = found (cells_at m k o n) (good_cells_at m k o n h)
    where
      found : (cells : Option (List Cell)) → IfThere (GoodCells p b) cells → Good p b (option_and_then value_of cells)
      found None g = tt
      found (Some cells) g = good_value_of cells g

  pub good_store : (m : Memory) (n : ℕ) (at v : Value) → GoodMemory p b m → GoodValue p b v → IfThere (GoodMemory p b) (store m n at v)
  unfolding store
  good_store m n (Integer k) v h g = tt
  good_store m n (Function f) v h g = tt
  good_store m n (Pointer k o) v h g = good_write m k o (cells_for n v) h (good_cells_for n v g)

  memory_cond : (t : Bool) (u v : Option Memory) → IfThere (GoodMemory p b) u → IfThere (GoodMemory p b) v → IfThere (GoodMemory p b) (cond t u v)
  memory_cond true u v h k = h
  memory_cond false u v h k = k

  pub good_copy : (m : Memory) (n : ℕ) (from to : Value) → GoodMemory p b m → IfThere (GoodMemory p b) (copy m n from to)
  unfolding copy
  good_copy m zero from to h = h
  good_copy m (suc n) (Pointer a o) (Pointer c q) h =
      memory_cond (apart_or_same (suc n) a o c q) (option_and_then (write_at m c q) (cells_at m a o (suc n))) None
      (good_write m c q (cells_at m a o (suc n)) h (good_cells_at m a o (suc n) h)) tt
  good_copy m (suc n) (Pointer a o) (Integer k) h = tt
  good_copy m (suc n) (Pointer a o) (Function f) h = tt
  good_copy m (suc n) (Integer k) to h = tt
  good_copy m (suc n) (Function f) to h = tt

  pub good_fresh : (m : Memory) (size : ℕ) → GoodMemory p b m → GoodMemory p b (m ++ Some (replicate size Blank) ∷ [])
  good_fresh m size h =
      every_append (IfThere (GoodCells p b)) m (Some (replicate size Blank) ∷ []) h
      (every_replicate (GoodCell p b) size Blank tt, tt)

  pub good_free_all : (m : Memory) (owned : List ℕ) → GoodMemory p b m → GoodMemory p b (free_all m owned)
  good_free_all m [] h = h
  good_free_all m (k ∷ owned) h = good_free_all (free m k) owned (every_set (IfThere (GoodCells p b)) m k None h tt)

  -- ---- operations

  good_widened : (e : Extension) (c : Class) (v : Option Value) → Good p b (option_and_then (widened e c) v)
  good_widened e c None = tt
  good_widened e c (Some (Integer n)) = tt
  good_widened e c (Some (Pointer k o)) = tt
  good_widened e c (Some (Function f)) = tt

  pub good_one : (m : Memory) (op : UnaryOp) (c : Class) (v : Value) → GoodMemory p b m → GoodValue p b v → Good p b (operate_one m op c v)
  unfolding operate_one
  good_one m Neg c (Integer n) h g = tt
  good_one m Neg c (Pointer k o) h g = tt
  good_one m Neg c (Function f) h g = tt
  good_one m Copy c v h g = g
  good_one m (Extend e) c v h g = good_widened e c (Some v)
  good_one m LoadLong c v h g = good_load m 8 v h
  good_one m (Load e) c v h g = good_widened e c (load m (extension_bytes e) v)

  good_truth : (t : Option Bool) → Good p b (option_map (λ (x : Bool). Integer (truth x)) t)
  good_truth None = tt
  good_truth (Some t) = tt

  good_places : (m : Memory) (op : BinaryOp) (u v : Value) → Good p b (on_places m op u v)
  good_places m Add (Integer k) (Integer n) = tt
  good_places m Add (Integer k) (Pointer a o) = tt
  good_places m Add (Integer k) (Function f) = tt
  good_places m Add (Pointer a o) (Integer n) = tt
  good_places m Add (Pointer a o) (Pointer c q) = tt
  good_places m Add (Pointer a o) (Function f) = tt
  good_places m Add (Function f) v = tt
  good_places m Sub (Integer k) v = tt
  good_places m Sub (Pointer a o) (Integer n) = tt
  good_places m Sub (Pointer a o) (Pointer c q) = good_cond (nat_eq a c) _ None tt tt
  good_places m Sub (Pointer a o) (Function f) = tt
  good_places m Sub (Function f) v = tt
  good_places m Mul u v = tt
  good_places m And u v = tt
  good_places m Or u v = tt
  good_places m Xor u v = tt
  good_places m Div u v = tt
  good_places m Rem u v = tt
  good_places m Udiv u v = tt
  good_places m Urem u v = tt
  good_places m Sar u v = tt
  good_places m Shr u v = tt
  good_places m Shl u v = tt
  good_places m (Compare on k) u v = good_truth (compare_places m on u v)

  pub good_two : (m : Memory) (op : BinaryOp) (c : Class) (u v : Value) → Good p b (operate_two m op c u v)
  unfolding operate_two
  good_two m op c (Integer x) (Integer y) = good_integer (on_integers op c x y)
  good_two m op c (Integer x) (Pointer k o) = good_places m op (Integer x) (Pointer k o)
  good_two m op c (Integer x) (Function f) = good_places m op (Integer x) (Function f)
  good_two m op c (Pointer k o) v = good_places m op (Pointer k o) v
  good_two m op c (Function f) v = good_places m op (Function f) v
