-- Code that reads copies takes what the code took, and names the registers of the function.
use Rattle.std.proofs.Common.{◌≡◌, ℕ, Bool, true, false, nat_eq, nat_lt, if◌then◌else◌, List, [], ◌∷◌, ◌++◌, map, length, Option, Some, None, refl, ◌∙◌, arith, filter}
use Rattle.std.specs.List.{list_all}
use Rattle.std.proofs.lemmas.Bool.{and_parts, and_from}
use Rattle.vcode.specs.declared.place.Operand.TheVariants.{At, Number, Name}
use Rattle.vcode.specs.declared.line.Line.{Line}
use Rattle.vcode.specs.declared.line.Line.TheVariants.{Tick, Set, Operate, Load, Store, Alloc, Blit, Call}
use Rattle.vcode.specs.declared.code.Block.{Block}
use Rattle.vcode.specs.declared.function.VFunc.{VFunc}
use Rattle.vcode.specs.Prelude.{line_cost, jump_cost, line_keeps, jump_keeps, block_keeps, is_below, Replacing, with_line, with_jump, line_writes}
use Rattle.vcode.proofs.Replacing.{measure_stays, Costs, line_cost_same, jump_cost_same, Low, line_low, jump_low, inside_same}
use Rattle.vcode.proofs.Measuring.{no_more, Measured, Empty, Put, within, each_mapped}
use Rattle.vcode.proofs.Results.{Serves, Owed, owed_each}
use Rattle.propagation.specs.declared.copies.known.KnownCopy.{KnownCopy}
use Rattle.propagation.specs.Copied.{copy_of, read_by, survives, surviving, made_by, with_copy, after, reading_lines, known_behind, reading_block}
use Rattle.propagation.proofs.RunningCopies.{runs}

-- a register costs what another does
cost_same : (copies : List KnownCopy) → Costs (read_by copies)
cost_same copies (At r) = refl
cost_same copies (Number n) = refl
cost_same copies (Name g) = refl

lines_measured : (copies : List KnownCopy) (lines : List (Line ℕ)) → Measured false lines (reading_lines copies lines)
lines_measured copies [] = Empty
lines_measured copies (l ∷ lines) =
    let m : Line ℕ = with_line (read_by copies) l in
    Put (measure_stays (read_by copies) l) (λ e. no_more (line_cost m) (line_cost l) (line_cost_same (read_by copies) (cost_same copies) l)) (lines_measured (after m copies) lines)

-- ---- the registers that it names

abbrev are_below : ℕ → List KnownCopy → Bool
are_below n copies = list_all (λ (c : KnownCopy). is_below n c.copy) copies

copy_low : (n : ℕ) (copies : List KnownCopy) → are_below n copies ≡ true → (r : ℕ) → is_below n r ≡ true → is_below n (copy_of copies r) ≡ true
copy_low n [] all r h = h
copy_low n (c ∷ copies) all r h =
    let s = and_parts (is_below n c.copy) (are_below n copies) all in
    by (nat_eq c.source r) (copy_of copies r) s.0 (copy_low n copies s.1 r h)
  where
    by : (b : Bool) (q : ℕ) → is_below n c.copy ≡ true → is_below n q ≡ true → is_below n (if b then c.copy else q) ≡ true
    by true q first rest = first
    by false q first rest = rest

read_low : (n : ℕ) (copies : List KnownCopy) → are_below n copies ≡ true → Low n (read_by copies)
read_low n copies all (At r) h = copy_low n copies all r h
read_low n copies all (Number k) h = h
read_low n copies all (Name g) h = h

-- ---- the copies that are known are below n

filtered_low : (n k : ℕ) (copies : List KnownCopy) → are_below n copies ≡ true → are_below n (filter (survives k) copies) ≡ true
filtered_low n k [] all = refl
filtered_low n k (c ∷ copies) all =
    let s = and_parts (is_below n c.copy) (are_below n copies) all in
    by (survives k c) (filter (survives k) copies) s.0 (filtered_low n k copies s.1)
  where
    by : (b : Bool) (rest : List KnownCopy) → is_below n c.copy ≡ true → are_below n rest ≡ true → are_below n (if b then c ∷ rest else rest) ≡ true
    by true rest first h = and_from (is_below n c.copy) (are_below n rest) first h
    by false rest first h = h

surviving_low : (n : ℕ) (w : Option ℕ) (copies : List KnownCopy) → are_below n copies ≡ true → are_below n (surviving w copies) ≡ true
surviving_low n None copies all = all
surviving_low n (Some k) copies all = filtered_low n k copies all

one_low : (n : ℕ) (c : KnownCopy) → is_below n c.copy ≡ true → (copies : List KnownCopy) → are_below n copies ≡ true → are_below n (copies ++ c ∷ []) ≡ true
one_low n c h [] all = and_from (is_below n c.copy) true h refl
one_low n c h (d ∷ copies) all =
    let s = and_parts (is_below n d.copy) (are_below n copies) all in and_from (is_below n d.copy) (are_below n (copies ++ c ∷ [])) s.0 (one_low n c h copies s.1)

-- a copy that may be made is below n
abbrev MadeLow : ℕ → Option KnownCopy → Type 0
MadeLow n None = Unit {0}
MadeLow n (Some c) = is_below n c.copy ≡ true

with_low : (n : ℕ) (o : Option KnownCopy) → MadeLow n o → (copies : List KnownCopy) → are_below n copies ≡ true → are_below n (with_copy o copies) ≡ true
with_low n None h copies all = all
with_low n (Some c) h copies all = by (nat_lt (length copies) 16)
  where
    by : (b : Bool) → are_below n (if b then copies ++ c ∷ [] else copies) ≡ true
    by true = one_low n c h copies all
    by false = all

made_low : (n : ℕ) (l : Line ℕ) → line_keeps (is_below n) l ≡ true → MadeLow n (made_by l)
made_low n (Tick turn w) h = tt
made_low n (Set to (At from)) h = by (nat_eq to from)
  where
    by : (b : Bool) → MadeLow n (if b then None else Some (record { source = from; copy = to }))
    by true = tt
    by false = (and_parts (is_below n to) (is_below n from) h).0
made_low n (Set to (Number k)) h = tt
made_low n (Set to (Name g)) h = tt
made_low n (Operate to op a b) h = tt
made_low n (Load to op at) h = tt
made_low n (Store size a at) h = tt
made_low n (Alloc to size) h = tt
made_low n (Blit from to count) h = tt
made_low n (Call to callee args) h = tt

after_low : (n : ℕ) (l : Line ℕ) → line_keeps (is_below n) l ≡ true → (copies : List KnownCopy) → are_below n copies ≡ true → are_below n (after l copies) ≡ true
after_low n l h copies all = with_low n (made_by l) (made_low n l h) (surviving (line_writes l) copies) (surviving_low n (line_writes l) copies all)

lines_low : (n : ℕ) (copies : List KnownCopy) → are_below n copies ≡ true → (lines : List (Line ℕ)) → list_all (line_keeps (is_below n)) lines ≡ true
    → (list_all (line_keeps (is_below n)) (reading_lines copies lines) ≡ true) × (are_below n (known_behind copies lines) ≡ true)
lines_low n copies all [] h = (refl, all)
lines_low n copies all (l ∷ lines) h =
    let s = and_parts (line_keeps (is_below n) l) (list_all (line_keeps (is_below n)) lines) h in
    let m : Line ℕ = with_line (read_by copies) l in
    let low : line_keeps (is_below n) m ≡ true = line_low n (read_by copies) (read_low n copies all) l s.0 in
    let rest = lines_low n (after m copies) (after_low n m low copies all) lines s.1 in
    (and_from (line_keeps (is_below n) m) (list_all (line_keeps (is_below n)) (reading_lines (after m copies) lines)) low rest.0, rest.1)

block_low : (n : ℕ) (b : Block ℕ) → block_keeps (is_below n) b ≡ true → block_keeps (is_below n) (reading_block b) ≡ true
block_low n b h =
    let s = and_parts (list_all (line_keeps (is_below n)) b.lines) (jump_keeps (is_below n) b.jump) h in
    let low = lines_low n [] refl b.lines s.0 in
    let f : Replacing = read_by (known_behind [] b.lines) in
    and_from (list_all (line_keeps (is_below n)) (reading_lines [] b.lines)) (jump_keeps (is_below n) (with_jump f b.jump)) low.0
    (jump_low n f (read_low n (known_behind [] b.lines) low.1) b.jump s.1)

-- ---- the whole

block_serves : (n : ℕ) (b : Block ℕ) → Serves n n b (reading_block b)
block_serves n b =
    let f : Replacing = read_by (known_behind [] b.lines) in
    record {
      within = within b (reading_block b) (lines_measured [] b.lines) (no_more (jump_cost (with_jump f b.jump)) (jump_cost b.jump) (jump_cost_same f (cost_same (known_behind [] b.lines)) b.jump));
      inside = λ m h. inside_same m f b.jump ∙ h;
      names = block_low n b;
    }

pub owed : (v : VFunc) → Owed v v.registers (map reading_block v.code.blocks)
owed v = owed_each v v.registers (map reading_block v.code.blocks) (omega arith) (each_mapped (Serves v.registers v.registers) reading_block (block_serves v.registers) v.code.blocks) (runs v.code)
