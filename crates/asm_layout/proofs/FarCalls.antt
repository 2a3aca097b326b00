-- Code whose calls are `lui` and `jalr`: its labels and size are those of the code with calls, and where it stands, that stands.
use Rattle.std.proofs.Common.{◌≡◌, ℕ, ◌+◌, ◌%◌, ◌^◌, ◌<◌, true, List, [], ◌∷◌, ◌++◌, refl, sym, ◌∙◌, ap, subst, arith, lit<, lit≤, mod-lt, ◌&&◌, if◌then◌else◌, Ok}
use Rattle.std.specs.List.{list_all}
use Rattle.std.proofs.lemmas.Bool.{and_parts, and_from}
use Rattle.std.proofs.lemmas.Int.{ints}
use Rattle.rv_isa.specs.Prelude.{moved, upper_value, LabelledItems, IsLabelled, longest_size, is_label, times_labelled, has_label_below, Ground, Fixed, InstrAt, Calls, Stands, Stand, upper_part, lower_part, of_global, State, register, put, step, even_below}
use Rattle.rv_isa.specs.declared.instruction.Instr.TheVariants.{Lui, Jalr}
use Rattle.rv_isa.specs.declared.labelled.Item.{Item}
use Rattle.rv_isa.specs.declared.labelled.Item.TheVariants.{Plain, Label, Branch, Goto, Call, Relocated}
use Rattle.rv_isa.specs.declared.ranges.UpperField.{UpperField}
use Rattle.rv_isa.specs.declared.code.Hole.{Hole}
use Rattle.rv_isa.specs.declared.relocation.Filling.TheVariants.{Part}
use Rattle.rv_isa.specs.declared.relocation.Partial.TheVariants.{Upper, Jump}
use Rattle.rv_isa.proofs.MemoryLemmas.{updated_elsewhere}
use Rattle.rv_isa.proofs.RunLemmas.{comes_by_step, comes_then}
use Rattle.rv_isa.proofs.StepLemmas.{step_at}
use Rattle.asm_layout.specs.Forms.{link, with_far_calls, formed, size, holes_with, is_part}
use Rattle.asm_layout.specs.declared.call.CallForm.TheVariants.{Far}
use Rattle.asm_layout.proofs.Calling.{gone_to, jump_goes}
use Rattle.asm_layout.proofs.Running.{put_fits, ahead}

-- ---- labels and sizes

pub far_size : (items : List Item) → longest_size (with_far_calls items) ≡ longest_size items
far_size [] = refl
far_size (Plain x ∷ items) = ap (λ n. 1 + n) (far_size items)
far_size (Label l ∷ items) = ap (λ n. 0 + n) (far_size items)
far_size (Branch op rs1 rs2 l ∷ items) = ap (λ n. 3 + n) (far_size items)
far_size (Goto l ∷ items) = ap (λ n. 2 + n) (far_size items)
far_size (Call n ∷ items) = let rest = far_size items in omega (arith, rest)
far_size (Relocated r ∷ items) = ap (λ n. 1 + n) (far_size items)

far_times : (l : ℕ) (items : List Item) → times_labelled l (with_far_calls items) ≡ times_labelled l items
far_times l [] = refl
far_times l (Plain x ∷ items) = ap (λ n. 0 + n) (far_times l items)
far_times l (Label m ∷ items) = ap (λ n. (if is_label l (Label m) then 1 else 0) + n) (far_times l items)
far_times l (Branch op rs1 rs2 m ∷ items) = ap (λ n. 0 + n) (far_times l items)
far_times l (Goto m ∷ items) = ap (λ n. 0 + n) (far_times l items)
far_times l (Call n ∷ items) = let rest = far_times l items in omega (arith, rest)
far_times l (Relocated r ∷ items) = ap (λ n. 0 + n) (far_times l items)

far_labels : (labels : ℕ) (items : List Item) → list_all (has_label_below labels) (with_far_calls items) ≡ list_all (has_label_below labels) items
far_labels labels [] = refl
far_labels labels (Plain x ∷ items) = far_labels labels items
far_labels labels (Label m ∷ items) = ap (λ b. has_label_below labels (Label m) && b) (far_labels labels items)
far_labels labels (Branch op rs1 rs2 m ∷ items) = ap (λ b. has_label_below labels (Branch op rs1 rs2 m) && b) (far_labels labels items)
far_labels labels (Goto m ∷ items) = ap (λ b. has_label_below labels (Goto m) && b) (far_labels labels items)
far_labels labels (Call n ∷ items) = far_labels labels items
far_labels labels (Relocated r ∷ items) = far_labels labels items

pub far_is_labelled : (c : LabelledItems) → IsLabelled c → IsLabelled (formed Far c)
far_is_labelled c is =
    let same = far_size c.items in
    let some = is.not_empty in
    let near = is.near in
    record {
      labels = far_labels c.labels c.items ∙ is.labels;
      once = λ l. let times = far_times l c.items in let few = is.once l in omega (arith, times, few);
      not_empty = omega (arith, same, some);
      near = omega (arith, same, near);
    }

pub far_made : (c : LabelledItems) → IsLabelled c → (xs ys : List Item) (n : ℕ) → xs ≡ with_far_calls ys → ys ≡ c.items → n ≡ c.labels
    → IsLabelled (record { items = xs; labels = n })
far_made c is xs ys n made same labels = rw (made, same, labels) (far_is_labelled c is)

-- ---- no calls

parts_more : (xs ys : List Hole) → list_all (λ h. is_part h.filling) xs ≡ true → list_all (λ h. is_part h.filling) ys ≡ true
    → list_all (λ h. is_part h.filling) (xs ++ ys) ≡ true
parts_more [] ys h k = k
parts_more (x ∷ xs) ys h k =
    let both = and_parts (is_part x.filling) (list_all (λ y. is_part y.filling) xs) h in
    and_from (is_part x.filling) (list_all (λ y. is_part y.filling) (xs ++ ys)) both.0 (parts_more xs ys both.1 k)

pub far_parts : (far : List ℕ) (f p : ℕ) (hs : List Hole) (items : List Item) → list_all (λ h. is_part h.filling) hs ≡ true
    → list_all (λ h. is_part h.filling) (holes_with far f p hs (with_far_calls items)) ≡ true
far_parts far f p hs [] h = h
far_parts far f p hs (Plain x ∷ items) h = far_parts far (f + 1) (p + 1) (hs ++ []) items (parts_more hs [] h refl)
far_parts far f p hs (Label l ∷ items) h = far_parts far (f + 0) (p + 0) (hs ++ []) items (parts_more hs [] h refl)
far_parts far f p hs (Branch op rs1 rs2 l ∷ items) h =
    far_parts far (f + 3) (p + size far f (Branch op rs1 rs2 l)) (hs ++ []) items (parts_more hs [] h refl)
far_parts far f p hs (Goto l ∷ items) h = far_parts far (f + 2) (p + size far f (Goto l)) (hs ++ []) items (parts_more hs [] h refl)
far_parts far f p hs (Relocated r ∷ items) h =
    let mine : List Hole = record { word = p; filling = Part r } ∷ [] in
    far_parts far (f + 1) (p + 1) (hs ++ mine) items (parts_more hs mine h refl)
far_parts far f p hs (Call n ∷ items) h =
    let first : List Hole = record { word = p; filling = Part (of_global (Upper link) n) } ∷ [] in
    let second : List Hole = record { word = p + 1; filling = Part (of_global (Jump link link) n) } ∷ [] in
    far_parts far (f + 1 + 1) (p + 1 + 1) ((hs ++ first) ++ second) items (parts_more (hs ++ first) second (parts_more hs first h refl) refl)

-- ---- a call

whole : (n : ℕ) → n < 2 ^ 30 → moved n (lower_part 0).value ≡ n
whole n h = omega (arith, h)

upper_below : (field : UpperField) → upper_value field < 2 ^ 64
upper_below field = grind (arith, ints)

-- the two parts lead to the address
parts_lead : (n : ℕ) → n < 2 ^ 30 → n % 4 ≡ 0 → even_below (moved (upper_value (upper_part n)) (lower_part n).value) ≡ n
parts_lead n small even =
    ap (λ x. even_below (moved x (lower_part n).value)) (no_more (upper_value (upper_part n)) (upper_below (upper_part n)))
    ∙ ahead 0 n n small (omega arith) (omega (arith, small)) (omega (arith, even))
  where
    no_more : (x : ℕ) → x < 2 ^ 64 → x ≡ (0 + x) % 2 ^ 64
    no_more x h = omega (arith, h)

far_goes : (g : Ground) (a n : ℕ) → n < 2 ^ 30 → n % 4 ≡ 0 → InstrAt g a (Lui link (upper_part n)) → (b : ℕ) → b ≡ a + 4
    → InstrAt g b (Jalr link link (lower_part n)) → (c : ℕ) → c ≡ b + 4 → (s : State) → Fixed g s → s.pc ≡ a → Calls g n c s
far_goes g a n small even first b next second c after s fixed pc =
    let inside_first = first.inside in
    let inside = second.inside in
    let v : ℕ = upper_value (upper_part n) in
    let fits : v < 2 ^ 64 = upper_below (upper_part n) in
    let mid : State = put s link v in
    let mid_fixed : Fixed g mid = record {
      permissions = fixed.permissions;
      code_here = fixed.code_here;
      words = λ m. put_fits s.registers 1 v m fits fixed.words;
      small = fixed.small;
    } in
    let one : step s ≡ Ok mid = step_at g s (Lui link (upper_part n)) fixed (subst (λ x. InstrAt g x (Lui link (upper_part n))) (sym pc) first) in
    let there : b ≡ mid.pc = omega (arith, next, pc, inside_first) in
    let goes : even_below (moved (register mid link) (lower_part n).value) ≡ n = parts_lead n small even in
    let two : step mid ≡ Ok (gone_to mid n) =
    step_at g mid (Jalr link link (lower_part n)) mid_fixed (subst (λ x. InstrAt g x (Jalr link link (lower_part n))) there second)
    ∙ jump_goes mid (even_below (moved (register mid link) (lower_part n).value)) n goes even in
    record {
      count = 1 + 1;
      after = gone_to mid n;
      comes = comes_then (comes_by_step s mid one) (comes_by_step mid (gone_to mid n) two);
      at_least_one = lit< tt;
      at_most = lit≤ tt;
      place = refl;
      fixed = record {
        permissions = fixed.permissions;
        code_here = fixed.code_here;
        words = λ m. put_fits mid.registers 1 ((mid.pc + 4) % 2 ^ 64) m (mod-lt (mid.pc + 4) (lit< tt)) mid_fixed.words;
        small = fixed.small;
      };
      output = refl;
      bytes = refl;
      return_address = omega (arith, there, inside, after);
      registers = λ m other. updated_elsewhere mid.registers 1 ((mid.pc + 4) % 2 ^ 64) m other ∙ updated_elsewhere s.registers 1 v m other;
    }

-- ---- all items

pub far_stands : (g : Ground) (label global : ℕ → ℕ) (items : List Item) (a : ℕ) → Stand g label global (with_far_calls items) a → Stand g label global items a
unfolding Stand Stands
far_stands g label global [] a h = h
far_stands g label global (Plain x ∷ items) a h = (h.0, h.1, far_stands g label global items h.0 h.2)
far_stands g label global (Label l ∷ items) a h = (h.0, h.1, far_stands g label global items h.0 h.2)
far_stands g label global (Branch op rs1 rs2 l ∷ items) a h = (h.0, h.1, far_stands g label global items h.0 h.2)
far_stands g label global (Goto l ∷ items) a h = (h.0, h.1, far_stands g label global items h.0 h.2)
far_stands g label global (Relocated r ∷ items) a h = (h.0, h.1, far_stands g label global items h.0 h.2)
far_stands g label global (Call n ∷ items) a h =
    let first = h.1 in
    let second = h.2.1 in
    let aligned = second.0.aligned in
    let after = second.1 in (
      h.2.0,
      (
        omega (arith, aligned, after),
        λ even small s fixed pc. far_goes g a (global n) small even
            (subst (λ x. InstrAt g a (Lui link (upper_part x))) (whole (global n) small) first.0) h.0 first.1
            (subst (λ x. InstrAt g h.0 (Jalr link link (lower_part x))) (whole (global n) small) second.0) h.2.0 after s fixed pc,
      ),
      far_stands g label global items h.2.0 h.2.2,
    )
