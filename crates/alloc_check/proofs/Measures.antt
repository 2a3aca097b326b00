-- Location code that a certificate makes, and code with every register in a slot, keeps the virtual code: it has the same parameters and result, and runs alike.
-- With every register in a slot it also weighs and takes the same.
use Rattle.std.proofs.Common.{◌≡◌, ℕ, ◌+◌, ◌*◌, ◌-◌, true, List, [], ◌∷◌, map, refl, ◌∙◌, ap, max, sum_by}
use Rattle.il_ast.specs.declared.operation.Class.{Class}
use Rattle.il_ast.specs.Prelude.{round_16, Keeps}
use Rattle.vcode.specs.declared.place.Location.{Location}
use Rattle.vcode.specs.declared.place.Location.TheVariants.{Slot}
use Rattle.vcode.specs.declared.place.Destination.{Destination}
use Rattle.vcode.specs.declared.line.Line.{Line}
use Rattle.vcode.specs.declared.line.Line.TheVariants.{Tick, Set, Operate, Load, Store, Alloc, Blit, Call}
use Rattle.vcode.specs.declared.code.Block.{Block}
use Rattle.vcode.specs.declared.code.Code.{Code}
use Rattle.vcode.specs.Prelude.{classes_in, coded, args_on_stack, most_in_lines, most_in_blocks, outgoing, frame_bound, virtual, located, area, weight_of, code_weight}
use Rattle.certificates.specs.declared.certificate.Certificate.{Certificate}
use Rattle.alloc_check.specs.Prelude.{Layout, placed_argument, placed_destination, placed_line, placed_block, in_slots, certified_params, placed_by, params_placed, is_sound}
use Rattle.alloc_check.proofs.Certifies.{weight_same}
use Rattle.alloc_check.proofs.InSlots.{slots_keep}
use Rattle.alloc_check.proofs.Regular.{map_length, sum_map, area_same}
use Rattle.alloc_check.proofs.Sound.{sound_keeps}
use Rattle.il_ast.proofs.Truth.{and_first}

-- ---- what a certificate makes

args_same : (f : Layout) (l : Line ℕ) → args_on_stack (placed_line f l) ≡ args_on_stack l
args_same f (Tick turn w) = refl
args_same f (Set to a) = refl
args_same f (Operate to o a b) = refl
args_same f (Load to o at) = refl
args_same f (Store size a at) = refl
args_same f (Alloc to size) = refl
args_same f (Blit from to count) = refl
args_same f (Call to callee args) = ap (λ n. n - 8) (map_length (placed_argument f) args)

certified_classes : (ds : List (Destination ℕ)) (qs : List Location) → params_placed ds qs ≡ true → classes_in (certified_params ds qs) ≡ classes_in ds
certified_classes [] qs h = refl
certified_classes (d ∷ ds) [] h = absurd (let no : ⊥ = cc in no)
certified_classes (d ∷ ds) (q ∷ qs) h = ap (λ (cs : List Class). d.class ∷ cs) (certified_classes ds qs h)

pub certified_keeps : (v : Code ℕ) (c : Certificate) → is_sound v c ≡ true → Keeps (coded virtual v) (coded located (placed_by v c))
certified_keeps v c sound =
    record {
      params = certified_classes v.params c.params (and_first (params_placed v.params c.params) _ sound);
      result = refl;
      runs = sound_keeps v c sound;
    }

-- ---- every register in a slot

slot_lines_pass : (lines : List (Line ℕ)) → most_in_lines (map (placed_line Slot) lines) ≡ most_in_lines lines
slot_lines_pass [] = refl
slot_lines_pass (l ∷ lines) =
    ap (λ n. max n (most_in_lines (map (placed_line Slot) lines))) (args_same Slot l) ∙ ap (λ n. max (args_on_stack l) n) (slot_lines_pass lines)

slot_blocks_pass : (blocks : List (Block ℕ)) → most_in_blocks (map (placed_block Slot) blocks) ≡ most_in_blocks blocks
slot_blocks_pass [] = refl
slot_blocks_pass (b ∷ blocks) =
    ap (λ n. max n (most_in_blocks (map (placed_block Slot) blocks))) (slot_lines_pass b.lines) ∙ ap (λ n. max (most_in_lines b.lines) n) (slot_blocks_pass blocks)

slot_classes : (ds : List (Destination ℕ)) → classes_in (map (placed_destination Slot) ds) ≡ classes_in ds
slot_classes [] = refl
slot_classes (d ∷ ds) = ap (λ (cs : List Class). d.class ∷ cs) (slot_classes ds)

pub slots_weigh_same : (v : Code ℕ) → code_weight (in_slots v) ≡ code_weight v
slots_weigh_same v =
    sum_map (λ (b : Block ℕ). sum_by weight_of b.lines) (λ (b : Block Location). sum_by weight_of b.lines) (placed_block Slot)
    (λ b. sum_map weight_of weight_of (placed_line Slot) (weight_same Slot) b.lines) v.blocks

pub in_slots_keeps : (v : Code ℕ) → Keeps (coded virtual v) (coded located (in_slots v))
in_slots_keeps v =
    record {
      params = slot_classes v.params;
      result = refl;
      runs = slots_keep v;
    }

pub slots_take_same : (v : Code ℕ) (n : ℕ) → frame_bound (in_slots v) n ≡ frame_bound v n
slots_take_same v n =
    ap (λ bytes. round_16 (bytes + 8 * (n + outgoing (in_slots v) + 16))) (area_same Slot v (in_slots v) refl)
    ∙ ap (λ passed. round_16 (area v + 8 * (n + passed + 16))) (slot_blocks_pass v.blocks)
