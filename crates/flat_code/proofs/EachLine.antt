-- Each line on bytes goes beside the line on blocks.
use Rattle.std.proofs.Common.{◌≡◌, ℕ, zero, suc, ◌+◌, ◌<◌, ◌≤◌, ◌^◌, ◌%◌, true, false, not, List, [], ◌∷◌, drop, length, slice_get, Option, Some, None, refl, sym, ◌∙◌, ap, subst, arith, option_map, option_and_then}
use Rattle.std.specs.List.{sum_by, list_any}
use Rattle.std.proofs.lemmas.List.Sums.{sum_by-cons}
use Rattle.il_ast.specs.declared.value.Value.{Value}
use Rattle.il_ast.specs.declared.value.Value.TheVariants.{Pointer}
use Rattle.il_ast.specs.Prelude.{byte_count, store, copy, stored_class, round_16}
use Rattle.rv_isa.specs.Prelude.{load_size, load_value}
use Rattle.vcode.specs.declared.place.Location.{Location}
use Rattle.vcode.specs.declared.line.Line.{Line}
use Rattle.vcode.specs.declared.line.Line.TheVariants.{Tick, Set, Operate, Load, Store, Alloc, Blit, Call}
use Rattle.vcode.specs.declared.code.Block.{Block}
use Rattle.vcode.specs.Prelude.{loaded, Values, located, is_alloc, allocs_first, alloc_bytes, area, State, value_of, read as value_read, read_all as values_read, operated as values_operated, address_of as value_address, made_in as value_made, line_step}
use Rattle.flat_code.specs.Flat.{Bases, Entries, Shows}
use Rattle.flat_code.specs.Step.{Numbers, FlatState, number_of, read, read_all, operated, address_of, made_in, known_number, stored, copied, opened, flat_line}
use Rattle.flat_code.proofs.Shown.{AllFollow, some_follows, follows_then, put_follows, follow_grown, read_follows, all_follow}
use Rattle.flat_code.proofs.Loading.{loaded_follows}
use Rattle.flat_code.proofs.Storing.{stored_follows}
use Rattle.flat_code.proofs.Copying.{copied_follows}
use Rattle.flat_code.proofs.Making.{IsMade, makes}
use Rattle.flat_code.proofs.Going.{Setting, ground, IsSetting, HasRoom, Related, Together, names_shown, sets_together, takes_together, changes_together, ticks_together, memory_then}
use Rattle.flat_code.proofs.Operands.{operand_shown, operation_shown, address_shown}
use Rattle.flat_code.proofs.Calling.{calls_together}
use Rattle.il_ast.proofs.Listed.{all_at, any_at, drop_at}
use Rattle.std.proofs.lemmas.Option.{same_Some}

-- ---- where the line stands

-- the line is the next one of its block
pub record IsNext (c : Setting) (s : State Location) (l : Line Location) : Type 0 where
  pub here : Block Location
  pub block : slice_get c.code.blocks s.block ≡ Some here
  pub line : slice_get here.lines s.next ≡ Some l

-- the rest of the block, with this line
room_with : (c : Setting) (s : State Location) (l : Line Location) (used : ℕ) → (n : IsNext c s l) → HasRoom c s.block s.next used → s.block ≡ 0
    → used + (alloc_bytes l + sum_by alloc_bytes (drop (s.next + 1) n.here.lines)) ≤ area c.code
room_with c s l used n room first =
    let found : slice_get c.code.blocks 0 ≡ Some n.here = ap (slice_get c.code.blocks) (sym first) ∙ n.block in
    let same : sum_by alloc_bytes (drop s.next n.here.lines) ≡ alloc_bytes l + sum_by alloc_bytes (drop (s.next + 1) n.here.lines) =
    ap (sum_by alloc_bytes) (drop_at n.here.lines s.next l n.line) ∙ sum_by-cons alloc_bytes l (drop (s.next + 1) n.here.lines)
    in
    subst (λ k. used + k ≤ area c.code) same (room n.here first found)

room_later : (c : Setting) (s : State Location) (l : Line Location) (used later : ℕ) → IsNext c s l → HasRoom c s.block s.next used → later ≡ used + alloc_bytes l → HasRoom c s.block (s.next + 1) later
room_later c s l used later n room sum b first found =
    let same : n.here ≡ b = same_Some n.here b (sym n.block ∙ (ap (slice_get c.code.blocks) first ∙ found)) in
    subst (λ (d : Block Location). later + sum_by alloc_bytes (drop (s.next + 1) d.lines) ≤ area c.code) same
    (joined (alloc_bytes l) (sum_by alloc_bytes (drop (s.next + 1) n.here.lines)) (area c.code) sum (room_with c s l used n room first))
  where
    joined : (x y k : ℕ) → later ≡ used + x → used + (x + y) ≤ k → later + y ≤ k
    joined x y k e h = omega arith

nothing_more : (used : ℕ) → used ≡ used + 0
nothing_more used = omega arith

-- ---- blocks of memory are made in the first block

alloc_first : (blocks : List (Block Location)) (k i : ℕ) (b : Block Location) (to : Option Location) (size : ℕ) → allocs_first blocks ≡ true → slice_get blocks k ≡ Some b → slice_get b.lines i ≡ Some (Alloc to size) → k ≡ 0
alloc_first blocks zero i b to size all block line = refl
alloc_first [] (suc k) i b to size all block line = cc
alloc_first (d ∷ blocks) (suc k) i b to size all block line =
    let none : not (list_any is_alloc b.lines) ≡ true = all_at (λ (c : Block Location). not (list_any is_alloc c.lines)) blocks k b all block in
    let some : list_any is_alloc b.lines ≡ true = any_at is_alloc b.lines i (Alloc to size) line refl in
    absurd (false_true (ap not (sym some) ∙ none))
  where
    false_true : false ≡ true → ⊥
    false_true h = cc

made_follows : (e : Entries) (p : Bases) (values : Values Location) (numbers : Numbers) (to : Option Location) (v : Value) (x : ℕ) → AllFollow e p values numbers → Shows e p v x
    → AllFollow e p (value_made located to v values) (made_in to x numbers)
made_follows e p values numbers None v x follow shown = follow
made_follows e p values numbers (Some to) v x follow shown = put_follows e p values numbers to (Some v) (Some x) follow (some_follows e p v x shown)

made_together : (c : Setting) → IsSetting c → (p : Bases) (s : State Location) (t : FlatState) (to : Option Location) (size : ℕ) → Related c p s t → IsNext c s (Alloc to size)
    → Together c p (line_step located c.names.globals c.given s (Alloc to size)) (flat_line c.names.addresses c.base c.shown t (Alloc to size))
unfolding line_step flat_line
made_together c is p s t to size r n =
    let made : IsMade (ground c) p s.memory s.owned t.memory t.used size =
    makes (ground c) is.grounded p s.memory s.owned t.memory t.used size r.held fits
    in
    let shown : Shows c.names.entries made.bases (Pointer (length s.memory) 0) (c.base + t.used) = (c.base + t.used, made.is, small (c.base + t.used) below) in (
      record t { next = t.next + 1; numbers = made_in to (c.base + t.used) t.numbers; memory = opened t.memory (c.base + t.used) size; used = t.used + round_16 size },
      refl,
      (
        made.bases,
        made.grown,
        record {
          block = r.block;
          next = ap (λ k. k + 1) r.next;
          spent = r.spent;
          follow = made_follows c.names.entries made.bases s.values t.numbers to (Pointer (length s.memory) 0) (c.base + t.used)
              (follow_grown c.names.entries p made.bases made.grown s.values t.numbers r.follow) shown;
          held = made.held;
          room = room_later c s (Alloc to size) t.used (t.used + round_16 size) n r.room refl;
        },
      ),
    )
  where
    first : s.block ≡ 0
    first = alloc_first c.code.blocks s.block s.next n.here to size is.regular.first n.block n.line

    fits : t.used + round_16 size ≤ area c.code
    fits = less t.used (round_16 size) (sum_by alloc_bytes (drop (s.next + 1) n.here.lines)) (area c.code) (room_with c s (Alloc to size) t.used n r.room first)
      where
        less : (i j k m : ℕ) → i + (j + k) ≤ m → i + j ≤ m
        less i j k m h = omega arith

    below : c.base + t.used < 2 ^ 64
    below = less c.base t.used (round_16 size) (area c.code) fits is.grounded.below_end
      where
        less : (i j k m : ℕ) → j + k ≤ m → i + m < 2 ^ 64 → i + j < 2 ^ 64
        less i j k m h g = omega arith

    small : (i : ℕ) → i < 2 ^ 64 → i ≡ (i + 0) % 2 ^ 64
    small i h = omega arith

-- ---- each line

pub line_together : (c : Setting) → IsSetting c → (p : Bases) (s : State Location) (t : FlatState) (l : Line Location) → Related c p s t → IsNext c s l
    → Together c p (line_step located c.names.globals c.given s l) (flat_line c.names.addresses c.base c.shown t l)
unfolding line_step flat_line
line_together c is p s t (Tick turn w) r n =
    ticks_together c is p s t turn w r (room_later c s (Tick turn w) t.used t.used n r.room (nothing_more t.used))
line_together c is p s t (Set to a) r n =
    takes_together c p s t to (value_of c.names.globals s.values a) (number_of c.names.addresses t.numbers a) r
    (room_later c s (Set to a) t.used t.used n r.room (nothing_more t.used)) (operand_shown c is p s t r a)
line_together c is p s t (Operate to op a b) r n =
    takes_together c p s t to
    (values_operated s.memory op (value_of c.names.globals s.values a) (value_of c.names.globals s.values b))
    (operated op (number_of c.names.addresses t.numbers a) (number_of c.names.addresses t.numbers b)) r
    (room_later c s (Operate to op a b) t.used t.used n r.room (nothing_more t.used))
    (operation_shown c is p s t r op a b)
line_together c is p s t (Load to op at) r n =
    sets_together c p s t to (option_and_then (loaded s.memory op) (value_address c.names.globals s.memory s.values at))
    (option_and_then (λ x. option_map (load_value op) (known_number t.memory x (load_size op))) (address_of c.names.addresses t.numbers at)) r
    (room_later c s (Load to op at) t.used t.used n r.room (nothing_more t.used))
    (follows_then c.names.entries p (value_address c.names.globals s.memory s.values at) (address_of c.names.addresses t.numbers at) (loaded s.memory op)
    (λ x. option_map (load_value op) (known_number t.memory x (load_size op))) (address_shown c is p s t r at)
    (λ v x h. loaded_follows c.names.entries p s.memory t.memory r.held.memory op v x h))
line_together c is p s t (Store size a at) r n =
    changes_together c p s t
    (option_and_then (λ v. option_and_then (λ u. store s.memory (byte_count size) u v) (value_address c.names.globals s.memory s.values at)) (value_read c.names.globals s.values (stored_class size) a))
    (option_and_then (λ v. option_and_then (λ x. stored t.memory x (byte_count size) v) (address_of c.names.addresses t.numbers at)) (read c.names.addresses t.numbers (stored_class size) a)) r
    (room_later c s (Store size a at) t.used t.used n r.room (nothing_more t.used))
    (memory_then c.names.entries p s.memory t.memory (value_read c.names.globals s.values (stored_class size) a) (read c.names.addresses t.numbers (stored_class size) a)
    (λ v. option_and_then (λ u. store s.memory (byte_count size) u v) (value_address c.names.globals s.memory s.values at))
    (λ v. option_and_then (λ x. stored t.memory x (byte_count size) v) (address_of c.names.addresses t.numbers at))
    (read_follows c.names.entries p c.names.globals c.names.addresses s.values t.numbers (names_shown c is p s t r) r.follow (stored_class size) a)
    (λ v z k. memory_then c.names.entries p s.memory t.memory (value_address c.names.globals s.memory s.values at) (address_of c.names.addresses t.numbers at)
    (λ u. store s.memory (byte_count size) u v) (λ x. stored t.memory x (byte_count size) z) (address_shown c is p s t r at)
    (λ u x h. stored_follows c.names.entries p s.memory t.memory is.grounded.known r.held.memory (byte_count size) u v x z h k)))
line_together c is p s t (Alloc to size) r n = made_together c is p s t to size r n
line_together c is p s t (Blit from to count) r n =
    changes_together c p s t
    (option_and_then (λ u. option_and_then (λ v. copy s.memory count u v) (value_of c.names.globals s.values to)) (value_of c.names.globals s.values from))
    (option_and_then (λ x. option_and_then (λ y. copied t.memory count x y) (number_of c.names.addresses t.numbers to)) (number_of c.names.addresses t.numbers from)) r
    (room_later c s (Blit from to count) t.used t.used n r.room (nothing_more t.used))
    (memory_then c.names.entries p s.memory t.memory (value_of c.names.globals s.values from) (number_of c.names.addresses t.numbers from)
    (λ u. option_and_then (λ v. copy s.memory count u v) (value_of c.names.globals s.values to))
    (λ x. option_and_then (λ y. copied t.memory count x y) (number_of c.names.addresses t.numbers to)) (operand_shown c is p s t r from)
    (λ u x h. memory_then c.names.entries p s.memory t.memory (value_of c.names.globals s.values to) (number_of c.names.addresses t.numbers to)
    (λ v. copy s.memory count u v) (λ y. copied t.memory count x y) (operand_shown c is p s t r to)
    (λ v y k. copied_follows c.names.entries p s.memory t.memory r.held.memory count u v x y h k)))
line_together c is p s t (Call to callee args) r n =
    calls_together c is p s t to args (value_of c.names.globals s.values callee) (number_of c.names.addresses t.numbers callee) (values_read c.names.globals s.values args)
    (read_all c.names.addresses t.numbers args) r
    (room_later c s (Call to callee args) t.used t.used n r.room (nothing_more t.used)) (operand_shown c is p s t r callee)
    (all_follow c.names.entries p c.names.globals c.names.addresses s.values t.numbers (names_shown c is p s t r) r.follow args)
