-- Allocs, and loads and stores of promoted temporaries, on both sides.
use Rattle.std.proofs.Common.{◌≡◌, ◌⊎◌, inl, inr, ℕ, suc, ◌+◌, ◌-◌, ◌%◌, ◌^◌, ◌<◌, ◌≤◌, Bool, true, false, nat_eq, nat_le, cond, List, [], ◌∷◌, ◌++◌, map, length, take, drop, replicate, length-append, refl, sym, ◌∙◌, ap, subst, arith, slice_get, slice_set, Option, Some, None, flat_map, eqb-true}
use Rattle.std.specs.Option.{option_map, option_and_then, option_flatten}
use Rattle.std.proofs.lemmas.Bool.Decides.{nat_tests}
use Rattle.std.proofs.lemmas.List.{length-set, length-map, length-drop, append-nil}
use Rattle.std.proofs.Math.Seq.{take-append_seam}
use Rattle.std.proofs.lemmas.Option.{slice_get_within}
use Rattle.il_ast.specs.declared.operation.Class.{Class}
use Rattle.il_ast.specs.declared.operation.Class.TheVariants.{W, L}
use Rattle.il_ast.specs.declared.operation.Size.{Size}
use Rattle.il_ast.specs.declared.operation.Size.TheVariants.{Long}
use Rattle.il_ast.specs.declared.operation.Extension.{Extension}
use Rattle.il_ast.specs.declared.operation.UnaryOp.{UnaryOp}
use Rattle.il_ast.specs.declared.operation.UnaryOp.TheVariants.{Neg, Copy, Extend, LoadLong, Load}
use Rattle.il_ast.specs.declared.operation.Alignment.{Alignment}
use Rattle.il_ast.specs.declared.operand.Val.{Val}
use Rattle.il_ast.specs.declared.operand.Val.TheVariants.{Int, Temp, Global}
use Rattle.il_ast.specs.declared.operand.Dest.{Dest}
use Rattle.il_ast.specs.declared.instruction.Inst.{Inst}
use Rattle.il_ast.specs.declared.instruction.Inst.TheVariants.{Unary, Binary, Alloc, Store, Blit, Call as CallInst}
use Rattle.il_ast.specs.declared.value.Value.{Value}
use Rattle.il_ast.specs.declared.value.Value.TheVariants.{Integer, Pointer, Function}
use Rattle.il_ast.specs.declared.value.Cell.{Cell}
use Rattle.il_ast.specs.declared.value.Cell.TheVariants.{Plain, Blank}
use Rattle.il_ast.specs.Prelude.{bytes_of, in_place, byte_count, Memory, parts, cells_for, value_of, span, put, write_at, load, store, fresh, operand_class, extension_bytes, widened, operate_one, operand, InstEffect, Done, assigned, changed, stored_class, inst_effect}
use Rattle.promote.specs.declared.mention.Role.TheVariants.{Accessed, Used}
use Rattle.promote.specs.Uses.{value_mentions, operand_role, extension_size, same_size, suits, destination_mentions, arg_mentions, item_mentions, Widths, storing, loading, extending, promoted, made_in, stored_in, taken_from}
use Rattle.promote.specs.declared.mention.Mention.{Mention}
use Rattle.promote.proofs.Choosing.{same_true}
use Rattle.promote.proofs.Respect.{Respected, respected_first, respected_then}
use Rattle.promote.proofs.Rules.{store_class}
use Rattle.promote.proofs.Hiding.{Marks, moved, moved_if, shown, set_hidden, Clean, IfClean, CleanMemory, Extends, marks_grow, fresh_hidden, fresh_shown, place, place_fresh, fresh_clean, Made, AllMade, made_later, places, places_later, places_both, places_hidden, places_shown}
use Rattle.promote.proofs.Carrying.{Put, put_there, take_long, take_short, extension_count}
use Rattle.promote.proofs.Sides.{Shows, Held, Sides, KeptHidden, sides_later, sides_assign, sides_alloc, sides_store, fresh_kept, get_last}
use Rattle.promote.proofs.Instructions.{Setting, State, held_as, across, DestPlain, GoesSo, PlainValue, suited_plain, plain_value, plain_args, operand_alike, operand_clean, assigned_so, kept_hidden, unary_so, binary_so, store_so, blit_so, calls_so}
use Rattle.il_ast.proofs.Listed.{get_set_other}
use Rattle.il_ast.proofs.Measured.{length_bytes}

-- ---- allocs

one_made : (hs : Marks) (first : ℕ) (bs : List ℕ) (b : ℕ) → AllMade hs first bs → Made hs first b → AllMade hs first (bs ++ b ∷ [])
one_made hs first [] b h k = (k, tt)
one_made hs first (x ∷ bs) b h k = (h.0, one_made hs first bs b h.1 k)

grown_more : (c : Setting) (hs : Marks) (h : Bool) → Extends c.marks hs → Extends c.marks (hs ++ h ∷ [])
grown_more c hs h g b x e = marks_grow hs h b x (g b x e)

one_longer : {X Y : Type 0} (xs : List X) (ys : List Y) (x : X) (y : Y) → length xs ≡ length ys → length (xs ++ x ∷ []) ≡ length (ys ++ y ∷ [])
one_longer [] [] x y e = refl
one_longer [] (b ∷ ys) x y e = absurd (omega (arith, e))
one_longer (a ∷ xs) [] x y e = absurd (omega (arith, e))
one_longer (a ∷ xs) (b ∷ ys) x y e = ap suc (one_longer xs ys x y (omega (arith, e)))

-- the blocks of the activation, with one more
places_more : (hs : Marks) (m : Memory) (first : ℕ) (owned : List ℕ) (h : Bool) → AllMade hs first owned → places (hs ++ h ∷ []) (owned ++ length m ∷ []) ≡ places hs owned ++ places (hs ++ h ∷ []) (length m ∷ [])
places_more hs m first owned h made =
    places_both (hs ++ h ∷ []) owned (length m ∷ []) ∙ ap (λ ns. ns ++ places (hs ++ h ∷ []) (length m ∷ [])) (places_later hs (hs ++ h ∷ []) first owned (marks_grow hs h) made)

alloc_state : (c : Setting) (hs : Marks) (m : Memory) (ts us vs ws : List (Option Value)) (owned : List ℕ) (h : Bool) (n : ℕ) → State c hs m ts us owned → Sides c.widths (hs ++ h ∷ []) (length c.memory) (fresh m n) vs ws → State c (hs ++ h ∷ []) (fresh m n) vs ws (owned ++ length m ∷ [])
alloc_state c hs m ts us vs ws owned h n st sides =
    let longer : length (fresh m n) ≡ length m + 1 = length-append m (Some (replicate n Blank) ∷ []) in
    let low = st.low in
    let ks = hs ++ h ∷ [] in
    record {
      alike = one_longer hs m h (Some (replicate n Blank)) st.alike;
      grown = grown_more c hs h st.grown;
      clean = fresh_clean hs ks m h n refl (marks_grow hs h) st.alike st.clean;
      kept = kept_hidden c hs m (fresh m n) st.grown st.kept (fresh_kept hs m n st.alike);
      low = omega (arith, longer, low);
      mine = one_made ks (length c.memory) owned (length m) (made_later hs ks (length c.memory) owned (marks_grow hs h) st.mine)
          (record { since = st.low; mark = h; is = get_last hs h (length m) (sym st.alike) });
      sides = sides;
    }

-- an alloc that stays
kept_is : (c : Setting) (hs : Marks) (m : Memory) (ts us : List (Option Value)) (owned : List ℕ) (to : Dest) (alignment : Alignment) (n : ℕ) → State c hs m ts us owned → inst_effect c.globals (across hs us owned) (shown hs m) (Alloc to alignment n) ≡ Done 1 (across (hs ++ false ∷ []) (slice_set us to.temp (Some (moved (hs ++ false ∷ []) (Pointer (length m) 0)))) (owned ++ length m ∷ [])) (shown (hs ++ false ∷ []) (fresh m n))
unfolding inst_effect
kept_is c hs m ts us owned to alignment n st =
    let ks = hs ++ false ∷ [] in
    let number : place ks (length m) ≡ length (shown hs m) = place_fresh hs m false st.alike in
    let mine : places ks (owned ++ length m ∷ []) ≡ places hs owned ++ place ks (length m) ∷ [] =
    places_more hs m (length c.memory) owned false st.mine
    ∙ ap (λ ns. places hs owned ++ ns) (places_shown ks (length m) (get_last hs false (length m) (sym st.alike))) in
    ap (λ k. Done 1 (held_as (slice_set us to.temp (Some (Pointer k 0))) (places hs owned ++ k ∷ [])) (fresh (shown hs m) n)) (sym number)
    ∙ (ap (λ ns. Done 1 (held_as (slice_set us to.temp (Some (Pointer (place ks (length m)) 0))) ns) (fresh (shown hs m) n)) (sym mine)
    ∙ ap (Done 1 (across ks (slice_set us to.temp (Some (moved ks (Pointer (length m) 0)))) (owned ++ length m ∷ []))) (sym (fresh_shown hs m n st.alike st.clean)))

-- an alloc that is gone
zero_is : (c : Class) → option_and_then (in_place c) (Some (Integer (0 % 2 ^ 64))) ≡ Some (Integer 0)
zero_is W = refl
zero_is L = refl

gone_is : (c : Setting) (hs : Marks) (m : Memory) (ts us : List (Option Value)) (owned : List ℕ) (to : Dest) (n : ℕ) → State c hs m ts us owned → inst_effect c.globals (across hs us owned) (shown hs m) (Unary to Copy (Int 0)) ≡ Done 1 (across (hs ++ true ∷ []) (slice_set us to.temp (Some (Integer 0))) (owned ++ length m ∷ [])) (shown (hs ++ true ∷ []) (fresh m n))
unfolding inst_effect operate_one
gone_is c hs m ts us owned to n st =
    let ks = hs ++ true ∷ [] in
    let mine : places ks (owned ++ length m ∷ []) ≡ places hs owned =
    places_more hs m (length c.memory) owned true st.mine
    ∙ (ap (λ ns. places hs owned ++ ns) (places_hidden ks (length m) (get_last hs true (length m) (sym st.alike))) ∙ append-nil (places hs owned)) in
    ap (λ o. assigned (across hs us owned) (shown hs m) to.temp (option_and_then (operate_one (shown hs m) Copy to.class) o)) (zero_is to.class)
    ∙ (ap (λ ns. Done 1 (held_as (slice_set us to.temp (Some (Integer 0))) ns) (shown hs m)) (sym mine)
    ∙ ap (Done 1 (across ks (slice_set us to.temp (Some (Integer 0))) (owned ++ length m ∷ []))) (sym (fresh_hidden hs m n st.alike st.clean)))

alloc_so : (c : Setting) (hs : Marks) (m : Memory) (ts us : List (Option Value)) (owned : List ℕ) → State c hs m ts us owned → (to : Dest) (alignment : Alignment) (n : ℕ) (o : Option Size) → c.widths to.temp ≡ o → GoesSo c hs (inst_effect c.globals (held_as ts owned) m (Alloc to alignment n)) (inst_effect c.globals (across hs us owned) (shown hs m) (made_in o to alignment n))
unfolding inst_effect
alloc_so c hs m ts us owned st to alignment n None p =
    let v = Pointer (length m) 0 in
    let ks = hs ++ false ∷ [] in
    record {
      marks = ks;
      temps = slice_set us to.temp (Some (moved ks v));
      is = kept_is c hs m ts us owned to alignment n st;
      state = alloc_state c hs m ts us (slice_set ts to.temp (Some v)) (slice_set us to.temp (Some (moved ks v))) owned false n st
          (sides_assign c.widths ks (length c.memory) (fresh m n) ts us to.temp v p (get_last hs false (length m) (sym st.alike))
          (sides_later c.widths hs ks (length c.memory) m (fresh m n) ts us (marks_grow hs false) (fresh_kept hs m n st.alike) st.sides));
    }
alloc_so c hs m ts us owned st to alignment n (Some s) p =
    let v = Pointer (length m) 0 in
    record {
      marks = hs ++ true ∷ [];
      temps = slice_set us to.temp (Some (Integer 0));
      is = gone_is c hs m ts us owned to n st;
      state = alloc_state c hs m ts us (slice_set ts to.temp (Some v)) (slice_set us to.temp (Some (Integer 0))) owned true n st
          (sides_alloc c.widths hs (length c.memory) m ts us (Integer 0) to.temp n s p st.alike st.low st.sides);
    }

-- ---- loads

-- what memory has for a promoted temporary
record Read (hs : Marks) (m : Memory) (s : Size) (v : Value) (u : Option (Option Value)) : Type 0 where
  value : Value
  is : u ≡ Some (Some (moved hs value))
  clean : Clean hs value
  new : List Cell
  made : cells_for (byte_count s) value ≡ Some new
  got : load m (byte_count s) v ≡ value_of new

read_held : (hs : Marks) (first : ℕ) (m : Memory) (s : Size) (v : Value) (u : Option (Option Value)) → Held hs first m s v u → (load m (byte_count s) v ≡ None) ⊎ Read hs m s v u
unfolding load
read_held hs first m s v u h = by_block (slice_get m h.block) refl
  where
    at_block : load m (byte_count s) v ≡ option_and_then value_of (option_and_then (span 0 (byte_count s)) (option_flatten (slice_get m h.block)))
    at_block = ap (load m (byte_count s)) h.is

    by_cells : (cells : List Cell) → slice_get m h.block ≡ Some (Some cells) → Shows hs s cells u → (load m (byte_count s) v ≡ None) ⊎ Read hs m s v u
    by_cells cells e (inl none) =
        inl (at_block ∙ (ap (λ o. option_and_then value_of (option_and_then (span 0 (byte_count s)) (option_flatten o))) e ∙ none))
    by_cells cells e (inr x) =
        inr (record {
          value = x.value;
          is = x.is;
          clean = x.clean;
          new = x.new;
          made = x.made;
          got = at_block
              ∙ (ap (λ o. option_and_then value_of (option_and_then (span 0 (byte_count s)) (option_flatten o))) e ∙ ap (option_and_then value_of) x.begins);
        })

    by_block : (o : Option (Option (List Cell))) → slice_get m h.block ≡ o → (load m (byte_count s) v ≡ None) ⊎ Read hs m s v u
    by_block None e = inl (at_block ∙ ap (λ o. option_and_then value_of (option_and_then (span 0 (byte_count s)) (option_flatten o))) e)
    by_block (Some None) e = inl (at_block ∙ ap (λ o. option_and_then value_of (option_and_then (span 0 (byte_count s)) (option_flatten o))) e)
    by_block (Some (Some cells)) e = by_cells cells e (h.shows cells e)

-- the load is undefined, or the other side takes the same
abbrev LoadsSo : Marks → Memory → UnaryOp → Class → Value → Option (Option Value) → Type 0
LoadsSo hs m op c v u =
    (operate_one m op c v ≡ None)
    ⊎ ((option_and_then (operate_one (shown hs m) (loading op c) c) (option_and_then (in_place (operand_class (loading op c) c)) (option_flatten u)) ≡ moved_if hs (operate_one m op c v))
    × IfClean hs (operate_one m op c v))

loads_long : (hs : Marks) (first : ℕ) (m : Memory) (v : Value) (u : Option (Option Value)) → Held hs first m Long v u → LoadsSo hs m LoadLong L v u
unfolding operate_one
loads_long hs first m v u h = by_read (read_held hs first m Long v u h)
  where
    by_read : (load m 8 v ≡ None) ⊎ Read hs m Long v u → LoadsSo hs m LoadLong L v u
    by_read (inl none) = inl none
    by_read (inr r) =
        let t = take_long hs (shown hs m) r.value r.new r.clean r.made in
        inr (
          ap (λ o. option_and_then (operate_one (shown hs m) Copy L) (option_and_then (in_place L) (option_flatten o))) r.is ∙ (t.0 ∙ sym (ap (moved_if hs) r.got)),
          subst (IfClean hs) (sym r.got) t.1,
        )

loads_short : (hs : Marks) (first : ℕ) (m : Memory) (e : Extension) (c : Class) (v : Value) (u : Option (Option Value)) → Held hs first m (extension_size e) v u → LoadsSo hs m (Load e) c v u
unfolding operate_one
loads_short hs first m e c v u h = by_read (read_held hs first m (extension_size e) v u h)
  where
    by_read : (load m (byte_count (extension_size e)) v ≡ None) ⊎ Read hs m (extension_size e) v u → LoadsSo hs m (Load e) c v u
    by_read (inl none) = inl (ap (λ n. option_and_then (widened e c) (load m n v)) (sym (extension_count e)) ∙ ap (option_and_then (widened e c)) none)
    by_read (inr r) =
        let made : cells_for (extension_bytes e) r.value ≡ Some r.new = ap (λ n. cells_for n r.value) (sym (extension_count e)) ∙ r.made in
        let got : option_and_then (widened e c) (load m (extension_bytes e) v) ≡ option_and_then (widened e c) (value_of r.new) =
        ap (λ n. option_and_then (widened e c) (load m n v)) (sym (extension_count e)) ∙ ap (option_and_then (widened e c)) r.got in
        let t = take_short hs (shown hs m) e c r.value r.new made in
        inr (
          ap (λ o. option_and_then (operate_one (shown hs m) (extending e c) c) (option_and_then (in_place (operand_class (extending e c) c)) (option_flatten o))) r.is ∙ (t.0 ∙ sym (ap (moved_if hs) got)),
          subst (IfClean hs) (sym got) t.1,
        )

loads_any : (hs : Marks) (first : ℕ) (m : Memory) (op : UnaryOp) (c : Class) (s : Size) (v : Value) (u : Option (Option Value)) → suits s (operand_role op c) ≡ true → Held hs first m s v u → LoadsSo hs m op c v u
loads_any hs first m Neg c s v u r h = absurd (let no : ⊥ = cc in no)
loads_any hs first m Copy c s v u r h = absurd (let no : ⊥ = cc in no)
loads_any hs first m (Extend e) c s v u r h = absurd (let no : ⊥ = cc in no)
loads_any hs first m LoadLong W s v u r h = absurd (let no : ⊥ = cc in no)
loads_any hs first m LoadLong L s v u r h = loads_long hs first m v u (subst (λ k. Held hs first m k v u) (sym (same_true Long s r)) h)
loads_any hs first m (Load e) c s v u r h = loads_short hs first m e c v u (subst (λ k. Held hs first m k v u) (sym (same_true (extension_size e) s r)) h)

from_long : (op : UnaryOp) (c : Class) (s : Size) → suits s (operand_role op c) ≡ true → operand_class op c ≡ L
from_long Neg c s r = absurd (let no : ⊥ = cc in no)
from_long Copy c s r = absurd (let no : ⊥ = cc in no)
from_long (Extend e) c s r = absurd (let no : ⊥ = cc in no)
from_long LoadLong W s r = absurd (let no : ⊥ = cc in no)
from_long LoadLong L s r = refl
from_long (Load e) c s r = refl

-- the other side's result; the first side's, of what the temporary holds; and that the two go together
abbrev taken_second : Setting → Marks → Memory → List (Option Value) → Dest → UnaryOp → ℕ → Option Value
taken_second c hs m us to op p =
    option_and_then (operate_one (shown hs m) (loading op to.class) to.class) (operand c.globals us (operand_class (loading op to.class) to.class) (Temp p))

abbrev taken_first : Memory → Dest → UnaryOp → Class → Option (Option Value) → Option Value
taken_first m to op x o = option_and_then (operate_one m op to.class) (option_and_then (in_place x) (option_flatten o))

abbrev TakenSo : Setting → Marks → Memory → (ts us : List (Option Value)) → List ℕ → Dest → UnaryOp → ℕ → Option Value → Type 0
TakenSo c hs m ts us owned to op p o =
    GoesSo c hs (assigned (held_as ts owned) m to.temp o) (assigned (across hs us owned) (shown hs m) to.temp (taken_second c hs m us to op p))

load_so : (c : Setting) (hs : Marks) (m : Memory) (ts us : List (Option Value)) (owned : List ℕ) → State c hs m ts us owned → (to : Dest) (op : UnaryOp) (p : ℕ) (s : Size) → c.widths to.temp ≡ None → c.widths p ≡ Some s → suits s (operand_role op to.class) ≡ true → GoesSo c hs (inst_effect c.globals (held_as ts owned) m (Unary to op (Temp p))) (inst_effect c.globals (across hs us owned) (shown hs m) (Unary to (loading op to.class) (Temp p)))
unfolding inst_effect
load_so c hs m ts us owned st to op p s k q r = by_slot (slice_get ts p) refl
  where
    by_load : (v : Value) → LoadsSo hs m op to.class v (slice_get us p) → TakenSo c hs m ts us owned to op p (operate_one m op to.class v)
    by_load v (inl none) = subst (TakenSo c hs m ts us owned to op p) (sym none) tt
    by_load v (inr x) = assigned_so c hs m ts us owned to.temp (operate_one m op to.class v) (taken_second c hs m us to op p) st k x.0 x.1

    by_slot : (o : Option (Option Value)) → slice_get ts p ≡ o → TakenSo c hs m ts us owned to op p (taken_first m to op (operand_class op to.class) (slice_get ts p))
    by_slot None e = subst (λ o. TakenSo c hs m ts us owned to op p (taken_first m to op (operand_class op to.class) o)) (sym e) tt
    by_slot (Some None) e = subst (λ o. TakenSo c hs m ts us owned to op p (taken_first m to op (operand_class op to.class) o)) (sym e) tt
    by_slot (Some (Some v)) e =
        subst (λ o. TakenSo c hs m ts us owned to op p (taken_first m to op (operand_class op to.class) o)) (sym e)
        (subst (λ x. TakenSo c hs m ts us owned to op p (taken_first m to op x (Some (Some v)))) (sym (from_long op to.class s r))
        (by_load v (loads_any hs (length c.memory) m op to.class s v (slice_get us p) r (st.sides.held p s (Some v) q e))))

-- ---- stores

part_count : (n : ℕ) (b : Bool) (v : Value) (new : List Cell) → nat_eq n 8 ≡ b → cond b (Some (parts v)) None ≡ Some new → length new ≡ n
part_count n true v new t e =
    let same : parts v ≡ new = cc in let eight : n ≡ 8 = eqb-true n 8 t in sym (ap length same) ∙ sym eight
part_count n false v new t e = absurd (let no : ⊥ = cc in no)

cells_count : (n : ℕ) (v : Value) (new : List Cell) → cells_for n v ≡ Some new → length new ≡ n
cells_count n (Integer k) new e =
    let same : map Plain (bytes_of n k) ≡ new = cc in sym (ap length same) ∙ (length-map (bytes_of n k) Plain ∙ length_bytes n k)
cells_count n (Pointer b o) new e = part_count n (nat_eq n 8) (Pointer b o) new refl e
cells_count n (Function f) new e = part_count n (nat_eq n 8) (Function f) new refl e

-- the cells with new ones at their beginning
abbrev over : List Cell → List Cell → List Cell
over new cells = take 0 cells ++ (new ++ drop (0 + length new) cells)

over_is : (new cells : List Cell) → over new cells ≡ new ++ drop (length new) cells
over_is new [] = ap (λ n. new ++ drop n []) (let e : 0 + length new ≡ length new = omega arith in e)
over_is new (c ∷ cells) = ap (λ n. new ++ drop n (c ∷ cells)) (let e : 0 + length new ≡ length new = omega arith in e)

over_long : (new cells : List Cell) → length new ≤ length cells → length (over new cells) ≡ length cells
over_long new cells le =
    let one : length (new ++ drop (length new) cells) ≡ length new + length (drop (length new) cells) = length-append new (drop (length new) cells) in
    let two : length (drop (length new) cells) ≡ length cells - length new = length-drop (length new) cells in
    ap length (over_is new cells) ∙ omega (arith, one, two, le)

drop_none : (xs : List Cell) → drop 0 xs ≡ xs
drop_none [] = refl
drop_none (x ∷ xs) = refl

over_begins : (n : ℕ) (new cells : List Cell) → length new ≡ n → length new ≤ length cells → span 0 n (over new cells) ≡ Some new
over_begins n new cells count le =
    let long = over_long new cells le in
    let fits : nat_le (0 + n) (length (over new cells)) ≡ true = let lt : 0 + n ≤ length (over new cells) = omega (arith, long, le, count) in grind (arith, nat_tests) in
    ap (λ b. cond b (Some (take n (drop 0 (over new cells)))) None) fits
    ∙ ap (λ cs. Some cs)
    (ap (take n) (drop_none (over new cells) ∙ over_is new cells)
    ∙ (ap (λ k. take k (new ++ drop (length new) cells)) (sym count) ∙ take-append_seam new (drop (length new) cells)))

clean_hidden : (hs : Marks) (m : Memory) (b : ℕ) (x : Option (List Cell)) → slice_get hs b ≡ Some true → CleanMemory hs m → CleanMemory hs (slice_set m b x)
clean_hidden hs m b x e h d y f g = h d y f (sym (get_set_other m b d x (shown_differs (nat_eq d b) refl)) ∙ g)
  where
    shown_differs : (t : Bool) → nat_eq d b ≡ t → nat_eq d b ≡ false
    shown_differs false k = k
    shown_differs true k = let same : slice_get hs d ≡ slice_get hs b = ap (slice_get hs) (eqb-true d b k) in absurd (let no : ⊥ = cc in no)

kept_new : (c : Setting) (m : Memory) (b : ℕ) (x : Option (List Cell)) → length c.memory ≤ b → KeptHidden c.marks c.memory m → KeptHidden c.marks c.memory (slice_set m b x)
kept_new c m b x le k d e =
    let within = slice_get_within c.marks d true e in
    let alike = c.alike in
    let lt : d < b = omega (arith, within, alike, le) in
    let other : nat_eq d b ≡ false = grind (arith, nat_tests) in
    get_set_other m b d x other ∙ k d e

-- the store is done, and the other side has the value in its temporary
stored_so : (c : Setting) (hs : Marks) (m : Memory) (ts us : List (Option Value)) (owned : List ℕ) → State c hs m ts us owned → (size : Size) (p b : ℕ) (v : Value) (cells new : List Cell) → c.widths p ≡ Some size → slice_get ts p ≡ Some (Some (Pointer b 0)) → length c.memory ≤ b → slice_get hs b ≡ Some true → slice_get m b ≡ Some (Some cells) → cells_for (byte_count size) v ≡ Some new → length new ≤ length cells → Put hs (shown hs m) size v new → GoesSo c hs (Done 1 (held_as ts owned) (slice_set m b (Some (over new cells)))) (assigned (across hs us owned) (shown hs m) p (operate_one (shown hs m) (storing size) L (moved hs v)))
stored_so c hs m ts us owned st size p b v cells new q at low hidden there made le r =
    let count = cells_count (byte_count size) v new made in
    let now = slice_set m b (Some (over new cells)) in
    let same : shown hs now ≡ shown hs m = set_hidden hs m b (Some (over new cells)) hidden in
    let more = st.low in
    let long : length now ≡ length m = length-set m b (Some (over new cells)) in
    record {
      marks = hs;
      temps = slice_set us p (Some (moved hs r.value));
      is = ap (assigned (across hs us owned) (shown hs m) p) r.is
          ∙ ap (λ k. Done 1 (across hs (slice_set us p (Some (moved hs r.value))) owned) k) (sym same);
      state =
          record {
            alike = st.alike ∙ sym long;
            grown = st.grown;
            clean = clean_hidden hs m b (Some (over new cells)) hidden st.clean;
            kept = kept_new c m b (Some (over new cells)) low st.kept;
            low = omega (arith, more, long);
            mine = st.mine;
            sides = sides_store c.widths hs (length c.memory) m ts us p b size (over new cells) (moved hs r.value) q at
                (inr (record { value = r.value; is = refl; clean = r.clean; new = new; made = r.cells; begins = over_begins (byte_count size) new cells count le }))
                st.sides;
          };
    }

-- the two sides' effects, of the value that is stored, which the other side moves; and that they go together, where the first side's memory is so
abbrev put_first : Setting → Memory → List (Option Value) → List ℕ → Size → ℕ → Option Value → InstEffect
put_first c m ts owned size p x =
    changed (held_as ts owned) 1 (option_and_then (λ v. option_and_then (λ k. store m (byte_count size) k v) (operand c.globals ts L (Temp p))) x)

abbrev put_second : Marks → Memory → List (Option Value) → List ℕ → Size → ℕ → Option Value → InstEffect
put_second hs m us owned size p x = assigned (across hs us owned) (shown hs m) p (option_and_then (operate_one (shown hs m) (storing size) L) (moved_if hs x))

abbrev PutSo : Setting → Marks → Memory → (ts us : List (Option Value)) → List ℕ → Size → ℕ → Value → Option Memory → Type 0
PutSo c hs m ts us owned size p v o = GoesSo c hs (changed (held_as ts owned) 1 o) (put_second hs m us owned size p (Some v))

-- what a store does at a slot
abbrev put_at : Memory → Size → Value → Option (Option Value) → Option Memory
put_at m size v o = option_and_then (λ k. store m (byte_count size) k v) (option_and_then (in_place L) (option_flatten o))

value_put_so : (c : Setting) (hs : Marks) (m : Memory) (ts us : List (Option Value)) (owned : List ℕ) → State c hs m ts us owned → (size : Size) (p : ℕ) → c.widths p ≡ Some size → (v : Value) → Clean hs v → PutSo c hs m ts us owned size p v (put_at m size v (slice_get ts p))
unfolding store
value_put_so c hs m ts us owned st size p q v clean = by_slot (slice_get ts p) refl
  where
    by_fit : (b : ℕ) (cells new : List Cell) (t : Bool) → slice_get ts p ≡ Some (Some (Pointer b 0)) → length c.memory ≤ b → slice_get hs b ≡ Some true → slice_get m b ≡ Some (Some cells) → cells_for (byte_count size) v ≡ Some new → nat_le (0 + length new) (length cells) ≡ t → PutSo c hs m ts us owned size p v (option_map (λ cs. slice_set m b (Some cs)) (cond t (Some (over new cells)) None))
    by_fit b cells new false at low hidden there made le = tt
    by_fit b cells new true at low hidden there made le =
        let fits : length new ≤ length cells = let k : 0 + length new ≤ length cells = grind (arith, nat_tests) in omega arith in
        stored_so c hs m ts us owned st size p b v cells new q at low hidden there made fits (put_there hs (shown hs m) size v new clean made)

    by_block : (b : ℕ) (new : List Cell) (o : Option (Option (List Cell))) → slice_get ts p ≡ Some (Some (Pointer b 0)) → length c.memory ≤ b → slice_get hs b ≡ Some true → slice_get m b ≡ o → cells_for (byte_count size) v ≡ Some new → PutSo c hs m ts us owned size p v (option_map (λ cs. slice_set m b (Some cs)) (option_and_then (put 0 new) (option_flatten o)))
    by_block b new None at low hidden there made = tt
    by_block b new (Some None) at low hidden there made = tt
    by_block b new (Some (Some cells)) at low hidden there made = by_fit b cells new (nat_le (0 + length new) (length cells)) at low hidden there made refl

    by_cells : (b : ℕ) (o : Option (List Cell)) → slice_get ts p ≡ Some (Some (Pointer b 0)) → length c.memory ≤ b → slice_get hs b ≡ Some true → cells_for (byte_count size) v ≡ o → PutSo c hs m ts us owned size p v (option_and_then (write_at m b 0) o)
    by_cells b None at low hidden made = tt
    by_cells b (Some new) at low hidden made = by_block b new (slice_get m b) at low hidden refl made

    by_slot : (o : Option (Option Value)) → slice_get ts p ≡ o → PutSo c hs m ts us owned size p v (put_at m size v (slice_get ts p))
    by_slot None e = subst (λ o. PutSo c hs m ts us owned size p v (put_at m size v o)) (sym e) tt
    by_slot (Some None) e = subst (λ o. PutSo c hs m ts us owned size p v (put_at m size v o)) (sym e) tt
    by_slot (Some (Some x)) e =
        let h = st.sides.held p size (Some x) q e in
        let is : x ≡ Pointer h.block 0 = h.is in
        let at : slice_get ts p ≡ Some (Some (Pointer h.block 0)) = e ∙ ap (λ z. Some (Some z)) is in
        subst (λ o. PutSo c hs m ts us owned size p v (put_at m size v o)) (sym at) (by_cells h.block (cells_for (byte_count size) v) at h.new h.hidden refl)

promoted_store_so : (c : Setting) (hs : Marks) (m : Memory) (ts us : List (Option Value)) (owned : List ℕ) → State c hs m ts us owned → (size : Size) (a : Val) (p : ℕ) → PlainValue c.widths a → c.widths p ≡ Some size → GoesSo c hs (inst_effect c.globals (held_as ts owned) m (Store size a (Temp p))) (inst_effect c.globals (across hs us owned) (shown hs m) (Unary (record { temp = p; class = L }) (storing size) a))
unfolding inst_effect
promoted_store_so c hs m ts us owned st size a p plain q =
    subst (GoesSo c hs (put_first c m ts owned size p (operand c.globals ts (stored_class size) a))) (sym second_is)
    (by_operand (operand c.globals ts (stored_class size) a) (operand_clean c hs m ts us owned st (stored_class size) a plain))
  where
    second_is : assigned (across hs us owned) (shown hs m) p (option_and_then (operate_one (shown hs m) (storing size) L) (operand c.globals us (operand_class (storing size) L) a)) ≡ put_second hs m us owned size p (operand c.globals ts (stored_class size) a)
    second_is =
        ap (λ k. assigned (across hs us owned) (shown hs m) p (option_and_then (operate_one (shown hs m) (storing size) L) (operand c.globals us k a))) (store_class size)
        ∙ ap (λ x. assigned (across hs us owned) (shown hs m) p (option_and_then (operate_one (shown hs m) (storing size) L) x)) (operand_alike c hs m ts us owned st (stored_class size) a plain)

    by_operand : (x : Option Value) → IfClean hs x → GoesSo c hs (put_first c m ts owned size p x) (put_second hs m us owned size p x)
    by_operand None clean = tt
    by_operand (Some v) clean = value_put_so c hs m ts us owned st size p q v clean

-- ---- every instruction

store_by : (c : Setting) (hs : Marks) (m : Memory) (ts us : List (Option Value)) (owned : List ℕ) → State c hs m ts us owned → (size : Size) (a : Val) (p : ℕ) (o : Option Size) → PlainValue c.widths a → c.widths p ≡ o → ((s : Size) → c.widths p ≡ Some s → same_size size s ≡ true) → GoesSo c hs (inst_effect c.globals (held_as ts owned) m (Store size a (Temp p))) (inst_effect c.globals (across hs us owned) (shown hs m) (stored_in o size a p))
store_by c hs m ts us owned st size a p None plain e h = store_so c hs m ts us owned st size a (Temp p) plain e
store_by c hs m ts us owned st size a p (Some s) plain e h =
    promoted_store_so c hs m ts us owned st size a p plain (e ∙ ap (λ k. Some k) (sym (same_true size s (h s e))))

unary_by : (c : Setting) (hs : Marks) (m : Memory) (ts us : List (Option Value)) (owned : List ℕ) → State c hs m ts us owned → (to : Dest) (op : UnaryOp) (p : ℕ) (o : Option Size) → c.widths to.temp ≡ None → c.widths p ≡ o → ((s : Size) → c.widths p ≡ Some s → suits s (operand_role op to.class) ≡ true) → GoesSo c hs (inst_effect c.globals (held_as ts owned) m (Unary to op (Temp p))) (inst_effect c.globals (across hs us owned) (shown hs m) (taken_from o to op p))
unary_by c hs m ts us owned st to op p None plain e h = unary_so c hs m ts us owned st to op (Temp p) plain e
unary_by c hs m ts us owned st to op p (Some s) plain e h = load_so c hs m ts us owned st to op p s plain e (h s e)

plain_dest : (w : Widths) (to : Option Dest) (ms : List Mention) → Respected w (destination_mentions to ++ ms) → DestPlain w to
plain_dest w None ms h = tt
plain_dest w (Some d) ms h = suited_plain w d.temp h.0

pub inst_so : (c : Setting) (hs : Marks) (m : Memory) (ts us : List (Option Value)) (owned : List ℕ) → State c hs m ts us owned → (i : Inst) → Respected c.widths (item_mentions i) → GoesSo c hs (inst_effect c.globals (held_as ts owned) m i) (inst_effect c.globals (across hs us owned) (shown hs m) (promoted c.widths i))
inst_so c hs m ts us owned st (Unary to op (Int n)) h = unary_so c hs m ts us owned st to op (Int n) (suited_plain c.widths to.temp h.0) tt
inst_so c hs m ts us owned st (Unary to op (Temp p)) h = unary_by c hs m ts us owned st to op p (c.widths p) (suited_plain c.widths to.temp h.0) refl h.1.0
inst_so c hs m ts us owned st (Unary to op (Global g)) h = unary_so c hs m ts us owned st to op (Global g) (suited_plain c.widths to.temp h.0) tt
inst_so c hs m ts us owned st (Binary to op a b) h =
    binary_so c hs m ts us owned st to op a b (suited_plain c.widths to.temp h.0)
    (plain_value c.widths a (respected_first c.widths (value_mentions Used a) (value_mentions Used b) h.1))
    (plain_value c.widths b (respected_then c.widths (value_mentions Used a) (value_mentions Used b) h.1))
inst_so c hs m ts us owned st (Alloc to alignment n) h = alloc_so c hs m ts us owned st to alignment n (c.widths to.temp) refl
inst_so c hs m ts us owned st (Store size a (Int n)) h =
    store_so c hs m ts us owned st size a (Int n) (plain_value c.widths a (respected_first c.widths (value_mentions Used a) [] h)) tt
inst_so c hs m ts us owned st (Store size a (Temp p)) h =
    store_by c hs m ts us owned st size a p (c.widths p)
    (plain_value c.widths a (respected_first c.widths (value_mentions Used a) (value_mentions (Accessed size) (Temp p)) h)) refl
    (respected_then c.widths (value_mentions Used a) (value_mentions (Accessed size) (Temp p)) h).0
inst_so c hs m ts us owned st (Store size a (Global g)) h =
    store_so c hs m ts us owned st size a (Global g) (plain_value c.widths a (respected_first c.widths (value_mentions Used a) [] h)) tt
inst_so c hs m ts us owned st (Blit from to n) h =
    blit_so c hs m ts us owned st from to n (plain_value c.widths from (respected_first c.widths (value_mentions Used from) (value_mentions Used to) h))
    (plain_value c.widths to (respected_then c.widths (value_mentions Used from) (value_mentions Used to) h))
inst_so c hs m ts us owned st (CallInst to callee args) h =
    let rest = respected_then c.widths (destination_mentions to) (value_mentions Used callee ++ flat_map arg_mentions args) h in
    calls_so c hs m ts us owned st to callee args (plain_dest c.widths to (value_mentions Used callee ++ flat_map arg_mentions args) h)
    (plain_value c.widths callee (respected_first c.widths (value_mentions Used callee) (flat_map arg_mentions args) rest))
    (plain_args c.widths args (respected_then c.widths (value_mentions Used callee) (flat_map arg_mentions args) rest))
