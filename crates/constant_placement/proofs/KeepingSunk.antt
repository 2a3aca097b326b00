-- Code whose blocks set registers takes what the code took, where their ticks pay for that, and
-- names the registers of the function.
use Rattle.std.proofs.Common.{◌≡◌, ℕ, ◌+◌, ◌≤◌, true, List, [], ◌∷◌, ◌++◌, map, zero, suc, refl, sym, ◌∙◌, ap, subst, arith}
use Rattle.std.specs.List.{list_all}
use Rattle.std.proofs.lemmas.Bool.{and_parts, and_from}
use Rattle.vcode.specs.declared.line.Line.{Line}
use Rattle.vcode.specs.declared.line.Jump.{Jump}
use Rattle.vcode.specs.declared.code.Block.{Block}
use Rattle.vcode.specs.declared.function.VFunc.{VFunc}
use Rattle.vcode.specs.Prelude.{affords, is_paid, line_keeps, jump_keeps, is_below, leads_inside, with_these}
use Rattle.vcode.proofs.Measuring.{Measured, Empty, Put, SetIn, within_tested, Each, NoBlocks, OneMore}
use Rattle.vcode.proofs.Results.{Serves, Owed, owed_each}
use Rattle.constant_placement.specs.declared.sinking.known.Known.{Known}
use Rattle.constant_placement.specs.declared.sinking.known.Plan.{Plan}
use Rattle.constant_placement.specs.Known.{plan_at, set_line, with_sets, is_low, Sinks, Sets, Stays, AllSunk}
use Rattle.constant_placement.proofs.RunningSunk.{runs}

-- ---- what lines take

lines_measured : (lines : List (Line ℕ)) → Measured true lines lines
lines_measured [] = Empty
lines_measured (l ∷ lines) = Put refl (λ e. absurd (let no : ⊥ = cc in no)) (lines_measured lines)

sets_measured : (plan : List Known) (lines : List (Line ℕ)) → Measured true lines (map set_line plan ++ lines)
sets_measured [] lines = lines_measured lines
sets_measured (s ∷ plan) lines = SetIn refl refl (sets_measured plan lines)

with_measured : (m : ℕ) (plan : List Known) (lines : List (Line ℕ)) → Measured true lines (with_sets m plan lines)
with_measured zero plan lines = sets_measured plan lines
with_measured (suc m) plan [] = sets_measured plan []
with_measured (suc m) plan (l ∷ lines) = Put refl (λ e. absurd (let no : ⊥ = cc in no)) (with_measured m plan lines)

-- ---- the registers that it names

sets_low : (n : ℕ) (plan : List Known) (lines : List (Line ℕ)) → list_all (is_low n) plan ≡ true → list_all (line_keeps (is_below n)) lines ≡ true → list_all (line_keeps (is_below n)) (map set_line plan ++ lines) ≡ true
sets_low n [] lines low h = h
sets_low n (s ∷ plan) lines low h =
    let parts = and_parts (is_low n s) (list_all (is_low n) plan) low in
    and_from (line_keeps (is_below n) (set_line s)) (list_all (line_keeps (is_below n)) (map set_line plan ++ lines)) (and_from (is_below n s.register) true parts.0 refl) (sets_low n plan lines parts.1 h)

with_low : (n m : ℕ) (plan : List Known) (lines : List (Line ℕ)) → list_all (is_low n) plan ≡ true → list_all (line_keeps (is_below n)) lines ≡ true → list_all (line_keeps (is_below n)) (with_sets m plan lines) ≡ true
with_low n zero plan lines low h = sets_low n plan lines low h
with_low n (suc m) plan [] low h = sets_low n plan [] low h
with_low n (suc m) plan (l ∷ lines) low h =
    let s = and_parts (line_keeps (is_below n) l) (list_all (line_keeps (is_below n)) lines) h in
    and_from (line_keeps (is_below n) l) (list_all (line_keeps (is_below n)) (with_sets m plan lines)) s.0 (with_low n m plan lines low s.1)

-- ---- the whole

serves : (n : ℕ) (b d : Block ℕ) (lines : List (Line ℕ)) → d.lines ≡ lines → d.jump ≡ b.jump → Measured true b.lines lines → (is_paid b ≡ true → is_paid d ≡ true)
    → (list_all (line_keeps (is_below n)) b.lines ≡ true → list_all (line_keeps (is_below n)) lines ≡ true) → Serves n n b d
serves n b d lines is jump measured paid low =
    record {
      within = within_tested b d (subst (λ (ls : List (Line ℕ)). Measured true b.lines ls) (sym is) measured) paid;
      inside = λ k e. ap (leads_inside k) jump ∙ e;
      names = λ e.
          let s = and_parts (list_all (line_keeps (is_below n)) b.lines) (jump_keeps (is_below n) b.jump) e in
          and_from (list_all (line_keeps (is_below n)) d.lines) (jump_keeps (is_below n) d.jump) (ap (list_all (line_keeps (is_below n))) is ∙ low s.0) (ap (jump_keeps (is_below n)) jump ∙ s.1);
    }

-- a block with the lines and the jump of another is paid as that is
still_paid : (b d : Block ℕ) → d.lines ≡ b.lines → d.jump ≡ b.jump → is_paid b ≡ true → is_paid d ≡ true
still_paid b d lines jump h = ap (λ (ls : List (Line ℕ)). affords 0 d.jump ls) lines ∙ ap (λ (j : Jump ℕ). affords 0 j b.lines) jump ∙ h

block_serves : (n : ℕ) (plan : List Known) (b d : Block ℕ) → Sinks n plan b d → Serves n n b d
block_serves n plan b d (Sets m low stay lines jump paid) = serves n b d (with_sets m plan b.lines) lines jump (with_measured m plan b.lines) (λ e. paid) (with_low n m plan b.lines low)
block_serves n plan b d (Stays lines jump) = serves n b d b.lines lines jump (lines_measured b.lines) (still_paid b d lines jump) (λ h. h)

blocks_serve : (n : ℕ) (plans : List Plan) (k : ℕ) (blocks new : List (Block ℕ)) → AllSunk n plans k blocks new → Each (Serves n n) blocks new
blocks_serve n plans k [] [] h = NoBlocks
blocks_serve n plans k [] (d ∷ new) h = absurd h
blocks_serve n plans k (b ∷ blocks) [] h = absurd h
blocks_serve n plans k (b ∷ blocks) (d ∷ new) h = OneMore (block_serves n (plan_at plans k) b d h.0.sinks) (blocks_serve n plans (k + 1) blocks new h.1)

itself_least : (k : ℕ) → k ≤ k
itself_least k = omega arith

pub owed : (v : VFunc) (plans : List Plan) (new : List (Block ℕ)) → plan_at plans 0 ≡ [] → AllSunk v.registers plans 0 v.code.blocks new → Owed v v.registers new
owed v plans new nothing all =
    owed_each v v.registers new (itself_least v.registers) (blocks_serve v.registers plans 0 v.code.blocks new all) (runs v.registers plans v.code (with_these v.code new) nothing all refl refl)
