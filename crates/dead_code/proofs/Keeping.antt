-- Code without dead lines takes no more than the code did.
use Rattle.std.proofs.Common.{◌≡◌, ℕ, Bool, true, false, ◌&&◌, if◌then◌else◌, List, [], ◌∷◌, map, Some, None, refl, ◌∙◌, ap, arith}
use Rattle.std.specs.List.{list_all}
use Rattle.std.proofs.lemmas.Bool.{and_parts}
use Rattle.bitset.specs.Bits.{Bits}
use Rattle.vcode.specs.declared.line.Line.{Line}
use Rattle.vcode.specs.declared.line.Line.TheVariants.{Tick, Set, Operate, Load, Store, Alloc, Blit, Call}
use Rattle.vcode.specs.declared.code.Block.{Block}
use Rattle.vcode.specs.declared.function.VFunc.{VFunc}
use Rattle.vcode.specs.Prelude.{line_cost, jump_cost, line_keeps, jump_keeps, block_keeps, is_below}
use Rattle.vcode.proofs.Measuring.{no_more, measure, nothing_taken, Measured, Empty, Put, LeftOut, within, each_mapped}
use Rattle.vcode.proofs.Results.{Serves, Owed, owed_each}
use Rattle.dead_code.specs.Without.{Wanted, is_dead, wanted_at, as_wanted, kept_lines, wanted_behind, kept_block, Closed}
use Rattle.dead_code.proofs.Running.{same_as_wanted, runs}

-- ---- what lines take

dead_takes_none : (w : Wanted) (l : Line ℕ) → is_dead w l ≡ true → measure l ≡ nothing_taken
dead_takes_none w (Set to a) dead = refl
dead_takes_none w (Operate to op a b) dead = refl
dead_takes_none w (Load to op a) dead = refl
dead_takes_none w (Tick turn x) dead = absurd (let no : ⊥ = cc in no)
dead_takes_none w (Store size a b) dead = absurd (let no : ⊥ = cc in no)
dead_takes_none w (Alloc to size) dead = absurd (let no : ⊥ = cc in no)
dead_takes_none w (Blit a b count) dead = absurd (let no : ⊥ = cc in no)
dead_takes_none w (Call to callee args) dead = absurd (let no : ⊥ = cc in no)

lines_measured : (out : Wanted) (lines : List (Line ℕ)) → Measured false lines (kept_lines out lines)
lines_measured out [] = Empty
lines_measured out (l ∷ lines) = by (is_dead (wanted_at out lines) l) refl (lines_measured out lines)
  where
    m : Line ℕ
    m = as_wanted (wanted_at out lines) l

    by : (b : Bool) → is_dead (wanted_at out lines) l ≡ b → Measured false lines (kept_lines out lines) → Measured false (l ∷ lines) (if b then kept_lines out lines else m ∷ kept_lines out lines)
    by true e rest = LeftOut (dead_takes_none (wanted_at out lines) l e) rest
    by false e rest =
        Put (same_as_wanted measure (λ to size. refl) (wanted_at out lines) l)
        (λ f. no_more (line_cost m) (line_cost l) (same_as_wanted line_cost (λ to size. refl) (wanted_at out lines) l)) rest

-- ---- the registers that they name

all_by_kind : (test : Line ℕ → Bool) (l : Line ℕ) (kept : List (Line ℕ)) (b : Bool) → test l ≡ true → list_all test kept ≡ true → list_all test (if b then kept else l ∷ kept) ≡ true
all_by_kind test l kept true h rest = rest
all_by_kind test l kept false h rest = ap (λ x. x && list_all test kept) h ∙ rest

-- what a line keeps that loses its register
abbrev Bears : (Line ℕ → Bool) → Type 0
Bears test = (w : Wanted) (l : Line ℕ) → test l ≡ true → test (as_wanted w l) ≡ true

lines_all : (test : Line ℕ → Bool) → Bears test → (out : Wanted) (lines : List (Line ℕ)) → list_all test lines ≡ true → list_all test (kept_lines out lines) ≡ true
lines_all test bears out [] h = refl
lines_all test bears out (l ∷ lines) h =
    let s = and_parts (test l) (list_all test lines) h in
    let w : Wanted = wanted_at out lines in
    all_by_kind test (as_wanted w l) (kept_lines out lines) (is_dead w l) (bears w l s.0) (lines_all test bears out lines s.1)

keeps_as_wanted : (test : ℕ → Bool) → Bears (line_keeps test)
keeps_as_wanted test w (Tick turn x) h = h
keeps_as_wanted test w (Set to a) h = h
keeps_as_wanted test w (Operate to op a b) h = h
keeps_as_wanted test w (Load to op at) h = h
keeps_as_wanted test w (Store size a at) h = h
keeps_as_wanted test w (Alloc None size) h = h
keeps_as_wanted test w (Alloc (Some to) size) h = by (w to)
  where
    by : (b : Bool) → line_keeps test (Alloc (if b then Some to else None) size) ≡ true
    by true = h
    by false = refl
keeps_as_wanted test w (Blit a b count) h = h
keeps_as_wanted test w (Call to callee args) h = h

lines_named : (test : ℕ → Bool) (out : Wanted) (b : Block ℕ) → block_keeps test b ≡ true → block_keeps test (record { lines = kept_lines out b.lines; jump = b.jump }) ≡ true
lines_named test out b h =
    let t = and_parts (list_all (line_keeps test) b.lines) (jump_keeps test b.jump) h in
    ap (λ x. x && jump_keeps test b.jump) (lines_all (line_keeps test) (keeps_as_wanted test) out b.lines t.0) ∙ t.1

-- ---- the whole

block_serves : (starts : List Bits) (n : ℕ) (b : Block ℕ) → Serves n n b (kept_block n starts b)
block_serves starts n b =
    record {
      within = within b (kept_block n starts b) (lines_measured (wanted_behind n starts b.jump) b.lines) (no_more (jump_cost b.jump) (jump_cost b.jump) refl);
      inside = λ m h. h;
      names = lines_named (is_below n) (wanted_behind n starts b.jump) b;
    }

pub owed : (v : VFunc) (starts : List Bits) → Closed v.registers starts v.code.blocks → Owed v v.registers (map (kept_block v.registers starts) v.code.blocks)
owed v starts closed =
    owed_each v v.registers (map (kept_block v.registers starts) v.code.blocks) (omega arith)
    (each_mapped (Serves v.registers v.registers) (kept_block v.registers starts) (block_serves starts v.registers) v.code.blocks) (runs v.registers starts v.code closed)
