-- Code that holds a constant takes what the code took and names registers of the function; whether its ticks still pay is tested.
use Rattle.std.proofs.Common.{◌≡◌, ℕ, ◌+◌, Bool, true, false, ◌&&◌, nat_lt, if◌then◌else◌, List, [], ◌∷◌, ◌++◌, map, refl, ◌∙◌, arith}
use Rattle.std.specs.List.{list_all}
use Rattle.std.proofs.lemmas.Bool.{and_parts, and_from}
use Rattle.vcode.specs.declared.place.Operand.{Operand}
use Rattle.vcode.specs.declared.place.Operand.TheVariants.{At}
use Rattle.vcode.specs.declared.line.Line.{Line}
use Rattle.vcode.specs.declared.line.Line.TheVariants.{Set}
use Rattle.vcode.specs.declared.code.Block.{Block}
use Rattle.vcode.specs.declared.function.VFunc.{VFunc}
use Rattle.vcode.specs.Prelude.{is_paid, operand_keeps, line_keeps, jump_keeps, block_keeps, is_below, Replacing, with_line, with_jump}
use Rattle.vcode.proofs.Replacing.{measure_stays, line_low, jump_low, inside_same}
use Rattle.vcode.proofs.Measuring.{Measured, Empty, Put, SetIn, within_tested, Each, NoBlocks, OneMore}
use Rattle.vcode.proofs.Results.{Serves, Owed, owed_each}
use Rattle.constant_placement.specs.declared.hoisting.plan.Constant.{Constant}
use Rattle.constant_placement.specs.declared.hoisting.plan.Constant.TheVariants.{Number as OfNumber, Name as OfName}
use Rattle.constant_placement.specs.declared.hoisting.plan.Plan.{Plan}
use Rattle.constant_placement.specs.Held.{operand_of, is_it, is_held, is_set, replaced, setting, held_block, with_blocks, is_safe}
use Rattle.constant_placement.proofs.RunningHeld.{runs}

-- ---- what lines take

lines_measured : (p : Plan) (held set : Bool) (lines : List (Line ℕ)) → Measured true lines (map (with_line (replaced p held)) lines ++ setting p set)
lines_measured p held false [] = Empty
lines_measured p held true [] = SetIn refl refl Empty
lines_measured p held set (l ∷ lines) = Put (measure_stays (replaced p held) l) (λ e. absurd (let never : ⊥ = cc in never)) (lines_measured p held set lines)

-- ---- the registers that it names

setting_all : (test : Line ℕ → Bool) (p : Plan) → test (Set p.register (operand_of p.constant)) ≡ true → (set : Bool) → list_all test (setting p set) ≡ true
setting_all test p h false = refl
setting_all test p h true = and_from (test (Set p.register (operand_of p.constant))) true h refl

-- what all lines keep
lines_all : (test : Line ℕ → Bool) (p : Plan) (held set : Bool) → ((l : Line ℕ) → test l ≡ true → test (with_line (replaced p held) l) ≡ true) → test (Set p.register (operand_of p.constant)) ≡ true
    → (lines : List (Line ℕ)) → list_all test lines ≡ true → list_all test (map (with_line (replaced p held)) lines ++ setting p set) ≡ true
lines_all test p held set keeps one [] h = setting_all test p one set
lines_all test p held set keeps one (l ∷ lines) h =
    let s = and_parts (test l) (list_all test lines) h in
    and_from (test (with_line (replaced p held) l)) (list_all test (map (with_line (replaced p held)) lines ++ setting p set)) (keeps l s.0) (lines_all test p held set keeps one lines s.1)

constant_low : (n : ℕ) (c : Constant) → operand_keeps (is_below n) (operand_of c) ≡ true
constant_low n (OfNumber k) = refl
constant_low n (OfName g) = refl

replaced_low : (n : ℕ) (p : Plan) (held : Bool) → nat_lt p.register n ≡ true → (a : Operand ℕ) → operand_keeps (is_below n) a ≡ true → operand_keeps (is_below n) (replaced p held a) ≡ true
replaced_low n p held low a h = by (held && is_it p.constant a)
  where
    by : (b : Bool) → operand_keeps (is_below n) (if b then At p.register else a) ≡ true
    by true = low
    by false = h

block_low : (n : ℕ) (p : Plan) → nat_lt p.register n ≡ true → (held set : Bool) (b : Block ℕ) → block_keeps (is_below n) b ≡ true → block_keeps (is_below n) (held_block p held set b) ≡ true
block_low n p low held set b h =
    let f : Replacing = replaced p held in
    let s = and_parts (list_all (line_keeps (is_below n)) b.lines) (jump_keeps (is_below n) b.jump) h in
    and_from (list_all (line_keeps (is_below n)) ((held_block p held set b).lines)) (jump_keeps (is_below n) (with_jump f b.jump))
    (lines_all (line_keeps (is_below n)) p held set (line_low n f (replaced_low n p held low))
    (and_from (is_below n p.register) (operand_keeps (is_below n) (operand_of p.constant)) low (constant_low n p.constant)) b.lines s.0)
    (jump_low n f (replaced_low n p held low) b.jump s.1)

-- ---- the whole

block_serves : (n : ℕ) (p : Plan) → nat_lt p.register n ≡ true → (held set : Bool) (b : Block ℕ) → is_paid (held_block p held set b) ≡ true → Serves n n b (held_block p held set b)
block_serves n p low held set b paid =
    record {
      within = within_tested b (held_block p held set b) (lines_measured p held set b.lines) (λ e. paid);
      inside = λ m h. inside_same m (replaced p held) b.jump ∙ h;
      names = block_low n p low held set b;
    }

blocks_serve : (n : ℕ) (p : Plan) → nat_lt p.register n ≡ true → (k : ℕ) (blocks : List (Block ℕ)) → list_all is_paid (with_blocks p k blocks) ≡ true → Each (Serves n n) blocks (with_blocks p k blocks)
blocks_serve n p low k [] paid = NoBlocks
blocks_serve n p low k (b ∷ blocks) paid =
    let s = and_parts (is_paid (held_block p (is_held p k) (is_set p k) b)) (list_all is_paid (with_blocks p (k + 1) blocks)) paid in
    OneMore (block_serves n p low (is_held p k) (is_set p k) b s.0) (blocks_serve n p low (k + 1) blocks s.1)

pub owed : (p : Plan) (v : VFunc) → nat_lt p.register v.registers ≡ true → is_safe p v.code ≡ true → list_all is_paid (with_blocks p 0 v.code.blocks) ≡ true → Owed v v.registers (with_blocks p 0 v.code.blocks)
owed p v low safe paid = owed_each v v.registers (with_blocks p 0 v.code.blocks) (omega arith) (blocks_serve v.registers p low 0 v.code.blocks paid) (runs p v.code safe)
