-- Code with more operations in its blocks takes what the code took, where their ticks pay for them, and names registers that there are.
use Rattle.std.proofs.Common.{◌≡◌, ℕ, ◌≤◌, true, nat_le, List, [], ◌∷◌, refl, ◌∙◌, ap}
use Rattle.std.specs.List.{list_all}
use Rattle.std.proofs.lemmas.Bool.{and_parts, and_from}
use Rattle.vcode.specs.declared.place.Destination.{Destination}
use Rattle.vcode.specs.declared.line.Line.{Line}
use Rattle.vcode.specs.declared.line.Line.TheVariants.{Tick, Set, Operate, Load, Store, Alloc, Blit, Call}
use Rattle.vcode.specs.declared.code.Block.{Block}
use Rattle.vcode.specs.declared.function.VFunc.{VFunc}
use Rattle.vcode.specs.Prelude.{line_keeps, jump_keeps, block_keeps, is_below, leads_inside, with_these}
use Rattle.vcode.proofs.Measuring.{Measured, Empty, Put, SetIn, measure, nothing_taken, within_tested, Each, NoBlocks, OneMore}
use Rattle.vcode.proofs.Results.{Serves, Owed, owed_each}
use Rattle.vcode.proofs.Weaker.{line_weaker, jump_weaker, below_more}
use Rattle.code_motion.specs.Longer.{is_extra, AreLonger, NoLines, Own, Extra, IsLonger, AllLonger}
use Rattle.code_motion.proofs.Running.{runs}

-- ---- what lines take

extra_takes : (n m : ℕ) (l : Line ℕ) → is_extra n m l ≡ true → measure l ≡ nothing_taken
extra_takes n m (Operate to op a b) h = refl
extra_takes n m (Tick turn w) h = absurd (let no : ⊥ = cc in no)
extra_takes n m (Set to a) h = absurd (let no : ⊥ = cc in no)
extra_takes n m (Load to op at) h = absurd (let no : ⊥ = cc in no)
extra_takes n m (Store size a at) h = absurd (let no : ⊥ = cc in no)
extra_takes n m (Alloc to size) h = absurd (let no : ⊥ = cc in no)
extra_takes n m (Blit from to count) h = absurd (let no : ⊥ = cc in no)
extra_takes n m (Call to callee args) h = absurd (let no : ⊥ = cc in no)

lines_measured : (n m : ℕ) {lines new : List (Line ℕ)} → AreLonger n m lines new → Measured true lines new
lines_measured n m NoLines = Empty
lines_measured n m (Own rest) = Put refl (λ e. absurd (let no : ⊥ = cc in no)) (lines_measured n m rest)
lines_measured n m (Extra {m = k} fits rest) = SetIn refl (extra_takes n m k fits) (lines_measured n m rest)

-- ---- the registers that it names

extra_low : (n m : ℕ) (l : Line ℕ) → is_extra n m l ≡ true → line_keeps (is_below m) l ≡ true
extra_low n m (Operate to op a b) h = (and_parts (nat_le n to) _ h).1
extra_low n m (Tick turn w) h = absurd (let no : ⊥ = cc in no)
extra_low n m (Set to a) h = absurd (let no : ⊥ = cc in no)
extra_low n m (Load to op at) h = absurd (let no : ⊥ = cc in no)
extra_low n m (Store size a at) h = absurd (let no : ⊥ = cc in no)
extra_low n m (Alloc to size) h = absurd (let no : ⊥ = cc in no)
extra_low n m (Blit from to count) h = absurd (let no : ⊥ = cc in no)
extra_low n m (Call to callee args) h = absurd (let no : ⊥ = cc in no)

lines_low : (n m : ℕ) → n ≤ m → {lines new : List (Line ℕ)} → AreLonger n m lines new → list_all (line_keeps (is_below n)) lines ≡ true → list_all (line_keeps (is_below m)) new ≡ true
lines_low n m more NoLines h = refl
lines_low n m more (Own {l = l} {lines = lines} {new = new} rest) h =
    let s = and_parts (line_keeps (is_below n) l) (list_all (line_keeps (is_below n)) lines) h in
    and_from (line_keeps (is_below m) l) (list_all (line_keeps (is_below m)) new) (line_weaker (is_below n) (is_below m) (below_more n m more) l s.0) (lines_low n m more rest s.1)
lines_low n m more (Extra {m = k} {new = new} fits rest) h = and_from (line_keeps (is_below m) k) (list_all (line_keeps (is_below m)) new) (extra_low n m k fits) (lines_low n m more rest h)

-- ---- the whole

block_serves : (n m : ℕ) → n ≤ m → (b d : Block ℕ) → IsLonger n m b d → Serves n m b d
block_serves n m more b d is =
    record {
      within = within_tested b d (lines_measured n m is.lines) is.paid;
      inside = λ k e. ap (leads_inside k) is.jump ∙ e;
      names = λ e.
          let s = and_parts (list_all (line_keeps (is_below n)) b.lines) (jump_keeps (is_below n) b.jump) e in
          and_from (list_all (line_keeps (is_below m)) d.lines) (jump_keeps (is_below m) d.jump)
          (lines_low n m more is.lines s.0)
          (ap (jump_keeps (is_below m)) is.jump ∙ jump_weaker (is_below n) (is_below m) (below_more n m more) b.jump s.1);
    }

blocks_serve : (n m : ℕ) → n ≤ m → (blocks new : List (Block ℕ)) → AllLonger n m blocks new → Each (Serves n m) blocks new
blocks_serve n m more [] [] h = NoBlocks
blocks_serve n m more [] (d ∷ new) h = absurd h
blocks_serve n m more (b ∷ blocks) [] h = absurd h
blocks_serve n m more (b ∷ blocks) (d ∷ new) h = OneMore (block_serves n m more b d h.0) (blocks_serve n m more blocks new h.1)

pub owed : (v : VFunc) (m : ℕ) (new : List (Block ℕ)) → v.registers ≤ m → AllLonger v.registers m v.code.blocks new → Owed v m new
owed v m new more all =
    owed_each v m new more (blocks_serve v.registers m more v.code.blocks new all)
    (runs v.registers m v.code (with_these v.code new) all (and_parts (list_all (λ (d : Destination ℕ). is_below v.registers d.place) v.code.params) (list_all (block_keeps (is_below v.registers)) v.code.blocks) v.known).1 refl refl)
