-- How many turns may have begun where the machine comes to a block, and where it goes on from its lines.
use Rattle.std.proofs.Common.{◌≡◌, ℕ, zero, suc, ◌+◌, ◌≤◌, Bool, true, false, List, [], ◌∷◌, refl, sym, ◌∙◌, ap, arith, if◌then◌else◌, slice_get, Some}
use Rattle.il_ast.specs.declared.limits.TheConstants.{FUNCTION_WEIGHT}
use Rattle.abi_frames.proofs.Shared.{Location, Block, Code, sum_by, sum_by-cons, nat_tests}
use Rattle.vcode.specs.Prelude.{turns_of}
use Rattle.abi_frames.specs.Performs.{turns_in, falls_through}

abbrev pub block_turns : Block Location → ℕ
block_turns b = sum_by turns_of b.lines

-- the turns that begin in the first i blocks
abbrev pub turns_before : List (Block Location) → (i : ℕ) → ℕ
turns_before blocks zero = 0
turns_before [] (suc i) = 0
turns_before (b ∷ blocks) (suc i) = block_turns b + turns_before blocks i

at_most_all : (blocks : List (Block Location)) (i : ℕ) → turns_before blocks i ≤ sum_by block_turns blocks
at_most_all blocks zero = omega arith
at_most_all [] (suc i) = omega arith
at_most_all (b ∷ blocks) (suc i) =
    let rest = at_most_all blocks i in
    let sum = sum_by-cons block_turns b blocks in
    omega (arith, rest, sum)

with_block : (blocks : List (Block Location)) (i : ℕ) (b : Block Location) → slice_get blocks i ≡ Some b
    → turns_before blocks i + block_turns b ≤ turns_before blocks (suc i)
with_block [] i b e = absurd (let no : ⊥ = cc in no)
with_block (d ∷ blocks) zero b e = let same = ap block_turns (one d b e) in omega (arith, same)
  where
    one : (x y : Block Location) → Some x ≡ Some y → x ≡ y
    one x y h = cc
with_block (d ∷ blocks) (suc i) b e = let rest = with_block blocks i b e in omega (arith, rest)

-- where no block falls into the next, all jumps are instructions. Where one does, no more turns have begun, but for those that instructions pay for, than begin in
-- the text before
abbrev pub landing_if : Bool → Code Location → (i : ℕ) → ℕ
landing_if falls f i = if falls then turns_before f.blocks i else 0

abbrev pub standing_if : Bool → Code Location → (i : ℕ) → ℕ
standing_if falls f i = if falls then turns_before f.blocks (suc i) else FUNCTION_WEIGHT

-- at the label of the block i, and at a line of it with those of the lines that are left
abbrev pub landing : Code Location → (i : ℕ) → ℕ
landing f i = landing_if (falls_through f) f i

abbrev pub standing : Code Location → (i : ℕ) → ℕ
standing f i = standing_if (falls_through f) f i

pub few_standing : (f : Code Location) (i : ℕ) → standing f i ≤ FUNCTION_WEIGHT
few_standing f i = by_test (falls_through f) refl
  where
    by_test : (b : Bool) → falls_through f ≡ b → standing_if b f i ≤ FUNCTION_WEIGHT
    by_test true e =
        let all = at_most_all f.blocks (suc i) in
        let few : turns_in f ≤ FUNCTION_WEIGHT = grind (arith, nat_tests) in
        omega (arith, all, few)
    by_test false e = omega arith

pub lands_on : (f : Code Location) (i : ℕ) (b : Block Location) → slice_get f.blocks i ≡ Some b → block_turns b ≤ FUNCTION_WEIGHT
    → landing f i + block_turns b ≤ standing f i
lands_on f i b e few = by_test (falls_through f)
  where
    by_test : (t : Bool) → landing_if t f i + block_turns b ≤ standing_if t f i
    by_test true = with_block f.blocks i b e
    by_test false = omega (arith, few)

-- a block that falls into the next one
pub falls_on : (f : Code Location) (i l : ℕ) → falls_through f ≡ true → l ≡ i + 1 → standing f i ≡ landing f l
falls_on f i l falls e =
    let next : suc i ≡ l = omega (arith, e) in
    ap (λ (b : Bool). standing_if b f i) falls ∙ (ap (turns_before f.blocks) next ∙ ap (λ (b : Bool). landing_if b f l) (sym falls))
