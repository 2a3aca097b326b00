-- Code in which operations are put off takes what the code took, and names the registers that it named.
use Rattle.std.proofs.Common.{◌≡◌, ℕ, ◌≤◌, true, List, [], ◌∷◌, Option, Some, None, refl, ◌∙◌, ap, arith}
use Rattle.std.specs.List.{list_all}
use Rattle.std.proofs.lemmas.Bool.{and_parts, and_from}
use Rattle.vcode.specs.declared.line.Line.{Line}
use Rattle.vcode.specs.declared.code.Block.{Block}
use Rattle.vcode.specs.declared.function.VFunc.{VFunc}
use Rattle.vcode.specs.Prelude.{line_keeps, jump_keeps, is_below, leads_inside, with_these}
use Rattle.vcode.proofs.Measuring.{Measured, Empty, Put, LeftOut, SetIn, within_tested, Each, NoBlocks, OneMore}
use Rattle.vcode.proofs.Results.{Serves, Owed, owed_each}
use Rattle.code_motion.specs.declared.later.waiting.Waiting.{Waiting}
use Rattle.code_motion.specs.Later.{line_of, AreLater, NoLines, Own, PutOff, Waits, Done, IsLater, AllLater}
use Rattle.code_motion.proofs.RunningLater.{runs}

lines_measured : {q : Option Waiting} {lines new : List (Line ℕ)} → AreLater q lines new → Measured true lines new
lines_measured NoLines = Empty
lines_measured (Own rest) = Put refl (λ e. absurd (let no : ⊥ = cc in no)) (lines_measured rest)
lines_measured (PutOff may rest) = LeftOut refl (lines_measured rest)
lines_measured (Waits lets rest) = Put refl (λ e. absurd (let no : ⊥ = cc in no)) (lines_measured rest)
lines_measured (Done rest) = SetIn refl refl (lines_measured rest)

-- ---- the registers that it names

abbrev IsLow : ℕ → Option Waiting → Type 0
IsLow n None = Unit {0}
IsLow n (Some p) = line_keeps (is_below n) (line_of p) ≡ true

lines_low : (n : ℕ) {q : Option Waiting} {lines new : List (Line ℕ)} → AreLater q lines new → IsLow n q → list_all (line_keeps (is_below n)) lines ≡ true → list_all (line_keeps (is_below n)) new ≡ true
lines_low n NoLines low h = refl
lines_low n (Own {l = l} {lines = lines} {new = new} rest) low h =
    let s = and_parts (line_keeps (is_below n) l) (list_all (line_keeps (is_below n)) lines) h in
    and_from (line_keeps (is_below n) l) (list_all (line_keeps (is_below n)) new) s.0 (lines_low n rest tt s.1)
lines_low n (PutOff {p = p} {lines = lines} may rest) low h =
    let s = and_parts (line_keeps (is_below n) (line_of p)) (list_all (line_keeps (is_below n)) lines) h in lines_low n rest s.0 s.1
lines_low n (Waits {l = l} {lines = lines} {new = new} lets rest) low h =
    let s = and_parts (line_keeps (is_below n) l) (list_all (line_keeps (is_below n)) lines) h in
    and_from (line_keeps (is_below n) l) (list_all (line_keeps (is_below n)) new) s.0 (lines_low n rest low s.1)
lines_low n (Done {p = p} {new = new} rest) low h = and_from (line_keeps (is_below n) (line_of p)) (list_all (line_keeps (is_below n)) new) low (lines_low n rest tt h)

-- ---- the whole

block_serves : (n : ℕ) (b d : Block ℕ) → IsLater b d → Serves n n b d
block_serves n b d is =
    record {
      within = within_tested b d (lines_measured is.lines) is.paid;
      inside = λ k e. ap (leads_inside k) is.jump ∙ e;
      names = λ e.
          let s = and_parts (list_all (line_keeps (is_below n)) b.lines) (jump_keeps (is_below n) b.jump) e in
          and_from (list_all (line_keeps (is_below n)) d.lines) (jump_keeps (is_below n) d.jump) (lines_low n is.lines tt s.0) (ap (jump_keeps (is_below n)) is.jump ∙ s.1);
    }

blocks_serve : (n : ℕ) (blocks new : List (Block ℕ)) → AllLater blocks new → Each (Serves n n) blocks new
blocks_serve n [] [] h = NoBlocks
blocks_serve n [] (d ∷ new) h = absurd h
blocks_serve n (b ∷ blocks) [] h = absurd h
blocks_serve n (b ∷ blocks) (d ∷ new) h = OneMore (block_serves n b d h.0) (blocks_serve n blocks new h.1)

itself : (n : ℕ) → n ≤ n
itself n = omega arith

pub owed_later : (v : VFunc) (new : List (Block ℕ)) → AllLater v.code.blocks new → Owed v v.registers new
owed_later v new all = owed_each v v.registers new (itself v.registers) (blocks_serve v.registers v.code.blocks new all) (runs v.code (with_these v.code new) all refl refl)
