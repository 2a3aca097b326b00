-- A call passes at most 56 arguments on the stack, so the slots begin near the stack pointer.
use Rattle.std.proofs.Common.{◌≡◌, ℕ, zero, suc, ap, ◌<◌, ◌≤◌, true, List, [], ◌∷◌, arith, nat_le, max, length, slice_get, Some}
use Rattle.abi_frames.proofs.Shared.{Location, Line, Block, Code, list_all, and_parts, same_Some, nat_tests}
use Rattle.vcode.specs.declared.line.Line.TheVariants.{Tick, Set, Operate, Load, Store, Alloc, Blit, Call}
use Rattle.vcode.specs.Prelude.{IsRegular, passes_few}
use Rattle.abi_frames.specs.Performs.{outgoing, args_on_stack, most_in_lines, most_in_blocks, slots_offset}
use Rattle.abi_frames.proofs.Saving.{few_saved_registers}

at_most_64 : (n : ℕ) → nat_le n 64 ≡ true → n ≤ 64
at_most_64 n h = grind (arith, nat_tests)

few_in_line : (l : Line Location) → passes_few l ≡ true → args_on_stack l ≤ 56
few_in_line (Tick turn w) h = omega arith
few_in_line (Set to a) h = omega arith
few_in_line (Operate to op a b) h = omega arith
few_in_line (Load to op at) h = omega arith
few_in_line (Store size a at) h = omega arith
few_in_line (Alloc to size) h = omega arith
few_in_line (Blit from to count) h = omega arith
few_in_line (Call to callee args) h = let le = at_most_64 (length args) h in omega (arith, le)

max_le : (a b m : ℕ) → a ≤ m → b ≤ m → max a b ≤ m
max_le a b m h k = omega (arith, h, k)

few_in_lines : (lines : List (Line Location)) → list_all passes_few lines ≡ true → most_in_lines lines ≤ 56
few_in_lines [] h = omega arith
few_in_lines (l ∷ lines) h =
    let parts = and_parts (passes_few l) (list_all passes_few lines) h in
    max_le (args_on_stack l) (most_in_lines lines) 56 (few_in_line l parts.0) (few_in_lines lines parts.1)

few_in_blocks : (blocks : List (Block Location)) → list_all (λ (b : Block Location). list_all passes_few b.lines) blocks ≡ true → most_in_blocks blocks ≤ 56
few_in_blocks [] h = omega arith
few_in_blocks (b ∷ blocks) h =
    let parts = and_parts (list_all passes_few b.lines) (list_all (λ (d : Block Location). list_all passes_few d.lines) blocks) h in
    max_le (most_in_lines b.lines) (most_in_blocks blocks) 56 (few_in_lines b.lines parts.0) (few_in_blocks blocks parts.1)

pub few_passed : (f : Code Location) → list_all (λ (b : Block Location). list_all passes_few b.lines) f.blocks ≡ true → outgoing f ≤ 56
few_passed f few = few_in_blocks f.blocks few

pub few_outgoing : (f : Code Location) → IsRegular f → outgoing f ≤ 56
few_outgoing f is = few_passed f is.few_args

pub slots_near : (f : Code Location) → IsRegular f → slots_offset f < 1024
slots_near f is = let few = few_outgoing f is in let saved = few_saved_registers f in omega (arith, few, saved)

-- no block passes more than the most
pub block_passes : (blocks : List (Block Location)) (i : ℕ) (b : Block Location) → slice_get blocks i ≡ Some b → most_in_lines b.lines ≤ most_in_blocks blocks
block_passes [] i b e = absurd (let no : ⊥ = cc in no)
block_passes (d ∷ blocks) zero b e =
    let same : most_in_lines d.lines ≡ most_in_lines b.lines = ap (λ (x : Block Location). most_in_lines x.lines) (same_Some d b e) in
    first_of (most_in_lines d.lines) (most_in_lines b.lines) (most_in_blocks blocks) same
  where
    first_of : (x y m : ℕ) → x ≡ y → y ≤ max x m
    first_of x y m e = omega (arith, e)
block_passes (d ∷ blocks) (suc i) b e = later (most_in_lines d.lines) (most_in_lines b.lines) (most_in_blocks blocks) (block_passes blocks i b e)
  where
    later : (x y m : ℕ) → y ≤ m → y ≤ max x m
    later x y m h = omega (arith, h)
