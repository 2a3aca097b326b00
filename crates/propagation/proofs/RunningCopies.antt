-- Code that reads copies follows the code, in the same states, in which all copies that are known hold what their sources do.
use Rattle.std.proofs.Common.{◌≡◌, ℕ, Bool, true, false, not, ◌&&◌, nat_eq, nat_lt, if◌then◌else◌, List, [], ◌∷◌, ◌++◌, length, Option, Some, None, refl, sym, ◌∙◌, ap, subst, filter, option_map, eqb-true}
use Rattle.std.proofs.lemmas.Option.{slice_get-map}
use Rattle.il_ast.specs.declared.value.Value.{Value}
use Rattle.il_ast.specs.Prelude.{Memory, KeepsCode}
use Rattle.vcode.specs.declared.place.Operand.{Operand}
use Rattle.vcode.specs.declared.place.Operand.TheVariants.{At, Number, Name}
use Rattle.vcode.specs.declared.line.Line.{Line}
use Rattle.vcode.specs.declared.line.Line.TheVariants.{Tick, Set, Operate, Load, Store, Alloc, Blit, Call}
use Rattle.vcode.specs.declared.line.Jump.{Jump}
use Rattle.vcode.specs.declared.code.Code.{Code}
use Rattle.vcode.specs.Prelude.{Values, virtual, classes_in, begin, step, with_line, with_jump, line_writes, Act, act, written, Way, Lost, Enters, Answers, Halts, way, Follows, Jumps, Both, Rewrites}
use Rattle.vcode.proofs.Facts.{Facts, claimed}
use Rattle.vcode.proofs.Alike.{MayLeave}
use Rattle.vcode.proofs.SameReads.{SameValue}
use Rattle.vcode.proofs.SameActs.{reads_every, jump_reads_every, act_same, way_same, writes_stay}
use Rattle.vcode.proofs.Writing.{is_written, unwritten, now_holds}
use Rattle.vcode.proofs.Factual.{fact_line, Claimed, fact_jump, facts_rewrite}
use Rattle.vcode.proofs.Rewriting.{rewrites_keep}
use Rattle.propagation.specs.declared.copies.known.KnownCopy.{KnownCopy}
use Rattle.propagation.specs.Copied.{copy_of, read_by, survives, surviving, made_by, with_copy, after, reading_lines, known_behind, reading_block, reading_copies}
use Rattle.il_ast.proofs.Truth.{equal_turned}

-- ---- what is known

-- all copies hold what their sources do
abbrev AreTrue : Values ℕ → List KnownCopy → Type 0
AreTrue ev [] = Unit {0}
AreTrue ev (c ∷ copies) = (ev c.copy ≡ ev c.source) × AreTrue ev copies

abbrev known : Facts
known = record { Known = List KnownCopy; hold = λ copies globals memory ev. AreTrue ev copies; at_start = λ k. [] }

first_same : (ev : Values ℕ) (c : KnownCopy) (r q : ℕ) → ev c.copy ≡ ev c.source → ev q ≡ ev r → (b : Bool) → nat_eq c.source r ≡ b → ev (if b then c.copy else q) ≡ ev r
first_same ev c r q h rest true e = h ∙ ap ev (eqb-true c.source r e)
first_same ev c r q h rest false e = rest

copy_same : (ev : Values ℕ) (copies : List KnownCopy) → AreTrue ev copies → (r : ℕ) → ev (copy_of copies r) ≡ ev r
copy_same ev [] all r = refl
copy_same ev (c ∷ copies) all r = first_same ev c r (copy_of copies r) all.0 (copy_same ev copies all.1 r) (nat_eq c.source r) refl

operand_same : (globals : List Value) (ev : Values ℕ) (copies : List KnownCopy) → AreTrue ev copies → (a : Operand ℕ) → SameValue globals ev ev (read_by copies) a
operand_same globals ev copies all (At r) = copy_same ev copies all r
operand_same globals ev copies all (Number n) = refl
operand_same globals ev copies all (Name g) = refl

-- ---- the copy that a line makes

copies_register : (ev : Values ℕ) (to from : ℕ) (o : Option Value) → o ≡ ev from → (b : Bool) → nat_eq to from ≡ b → (c : KnownCopy) → (if b then None else Some (record { source = from; copy = to })) ≡ Some c
    → written (Some to) o ev c.copy ≡ written (Some to) o ev c.source
copies_register ev to from o is true e c h = absurd (let no : ⊥ = cc in no)
copies_register ev to from o is false e c h =
    let one : KnownCopy = record { source = from; copy = to } in
    let same : one ≡ c = cc in
    subst (λ (d : KnownCopy). written (Some to) o ev d.copy ≡ written (Some to) o ev d.source) same (now_holds to o ev ∙ is ∙ sym (unwritten (Some to) o ev from e))

copied : (globals : List Value) (memory next : Memory) (ev : Values ℕ) (m : Line ℕ) (o : Option Value) → MayLeave memory (act globals memory ev m) o next → (c : KnownCopy) → made_by m ≡ Some c
    → written (line_writes m) o ev c.copy ≡ written (line_writes m) o ev c.source
copied globals memory next ev (Set to (At from)) o may c h = copies_register ev to from o may.0 (nat_eq to from) refl c h
copied globals memory next ev (Set to (Number n)) o may c h = absurd (let no : ⊥ = cc in no)
copied globals memory next ev (Set to (Name g)) o may c h = absurd (let no : ⊥ = cc in no)
copied globals memory next ev (Tick turn w) o may c h = absurd (let no : ⊥ = cc in no)
copied globals memory next ev (Operate to op a b) o may c h = absurd (let no : ⊥ = cc in no)
copied globals memory next ev (Load to op at) o may c h = absurd (let no : ⊥ = cc in no)
copied globals memory next ev (Store size a at) o may c h = absurd (let no : ⊥ = cc in no)
copied globals memory next ev (Alloc to size) o may c h = absurd (let no : ⊥ = cc in no)
copied globals memory next ev (Blit from to count) o may c h = absurd (let no : ⊥ = cc in no)
copied globals memory next ev (Call to callee args) o may c h = absurd (let no : ⊥ = cc in no)

-- ---- what is known after a line is true

not_both : (a b : Bool) → (not a && not b) ≡ true → (a ≡ false) × (b ≡ false)
not_both false false h = (refl, refl)
not_both false true h = absurd (let no : ⊥ = cc in no)
not_both true b h = absurd (let no : ⊥ = cc in no)

-- values that are the same but in one register
abbrev LeavesOthers : Option ℕ → (ev new : Values ℕ) → Type 0
LeavesOthers w ev new = (r : ℕ) → is_written w r ≡ false → new r ≡ ev r

all_true : (ev new : Values ℕ) → ((r : ℕ) → new r ≡ ev r) → (copies : List KnownCopy) → AreTrue ev copies → AreTrue new copies
all_true ev new same [] all = tt
all_true ev new same (c ∷ copies) all = (same c.copy ∙ all.0 ∙ sym (same c.source), all_true ev new same copies all.1)

one_true : (ev new : Values ℕ) (k : ℕ) → LeavesOthers (Some k) ev new → (c : KnownCopy) (copies : List KnownCopy) → ev c.copy ≡ ev c.source → AreTrue new (filter (survives k) copies) → (b : Bool) → survives k c ≡ b
    → AreTrue new (if b then c ∷ filter (survives k) copies else filter (survives k) copies)
one_true ev new k same c copies h rest true e =
    let s = not_both (nat_eq c.source k) (nat_eq c.copy k) e in
    (same c.copy (equal_turned k c.copy ∙ s.1) ∙ h ∙ sym (same c.source (equal_turned k c.source ∙ s.0)), rest)
one_true ev new k same c copies h rest false e = rest

filtered_true : (ev new : Values ℕ) (k : ℕ) → LeavesOthers (Some k) ev new → (copies : List KnownCopy) → AreTrue ev copies → AreTrue new (filter (survives k) copies)
filtered_true ev new k same [] all = tt
filtered_true ev new k same (c ∷ copies) all = one_true ev new k same c copies all.0 (filtered_true ev new k same copies all.1) (survives k c) refl

surviving_true : (ev new : Values ℕ) (w : Option ℕ) → LeavesOthers w ev new → (copies : List KnownCopy) → AreTrue ev copies → AreTrue new (surviving w copies)
surviving_true ev new None same copies all = all_true ev new (λ r. same r refl) copies all
surviving_true ev new (Some k) same copies all = filtered_true ev new k same copies all

one_more : (ev : Values ℕ) (c : KnownCopy) → ev c.copy ≡ ev c.source → (copies : List KnownCopy) → AreTrue ev copies → AreTrue ev (copies ++ c ∷ [])
one_more ev c h [] all = (h, tt)
one_more ev c h (d ∷ copies) all = (all.0, one_more ev c h copies all.1)

made_true : (ev : Values ℕ) (o : Option KnownCopy) → ((c : KnownCopy) → o ≡ Some c → ev c.copy ≡ ev c.source) → (copies : List KnownCopy) → AreTrue ev copies → AreTrue ev (with_copy o copies)
made_true ev None h copies all = all
made_true ev (Some c) h copies all = by (nat_lt (length copies) 16)
  where
    by : (b : Bool) → AreTrue ev (if b then copies ++ c ∷ [] else copies)
    by true = one_more ev c (h c refl) copies all
    by false = all

true_after : (globals : List Value) (memory next : Memory) (ev : Values ℕ) (m : Line ℕ) (o : Option Value) (copies : List KnownCopy) → MayLeave memory (act globals memory ev m) o next → AreTrue ev copies
    → AreTrue (written (line_writes m) o ev) (after m copies)
true_after globals memory next ev m o copies may all =
    made_true (written (line_writes m) o ev) (made_by m) (copied globals memory next ev m o may) (surviving (line_writes m) copies)
    (surviving_true ev (written (line_writes m) o ev) (line_writes m) (unwritten (line_writes m) o ev) copies all)

-- ---- the code follows

none_claimed : (globals : List Value) (memory : Memory) (ev : Values ℕ) (x : Way) → Claimed known globals memory ev x
none_claimed globals memory ev Lost = tt
none_claimed globals memory ev (Enters k) = tt
none_claimed globals memory ev (Answers o) = tt
none_claimed globals memory ev Halts = tt

module _ (v w : Code ℕ) where
  lines_follow : (copies : List KnownCopy) (lines : List (Line ℕ)) (j : Jump ℕ) → Follows (claimed known) v w copies lines j (reading_lines copies lines) (with_jump (read_by (known_behind copies lines)) j)
  lines_follow copies [] j =
      Jumps
      (fact_jump known v.result copies j (with_jump (read_by copies) j)
      (λ globals memory ev all. way_same globals v.result memory ev ev (read_by copies) j (jump_reads_every (SameValue globals ev ev (read_by copies)) (operand_same globals ev copies all) j))
      (λ globals memory ev all. none_claimed globals memory ev (way globals v.result memory ev j)))
  lines_follow copies (l ∷ lines) j =
      let m : Line ℕ = with_line (read_by copies) l in
      let writes : line_writes m ≡ line_writes l = writes_stay (read_by copies) l in
      let same : (globals : List Value) (memory : Memory) (ev : Values ℕ) → AreTrue ev copies → act globals memory ev m ≡ act globals memory ev l =
      (λ globals memory ev all. act_same globals memory ev ev (read_by copies) l (reads_every (SameValue globals ev ev (read_by copies)) (operand_same globals ev copies all) l)) in
      Both
      (fact_line known copies (after m copies) l m writes (λ globals memory ev all works. same globals memory ev all)
      (λ globals memory ev all o next may.
      subst (λ (x : Option ℕ). AreTrue (written x o ev) (after m copies)) writes
      (true_after globals memory next ev m o copies (subst (λ (a : Act). MayLeave memory a o next) (sym (same globals memory ev all)) may) all)))
      (lines_follow (after m copies) lines j)

rewrites : (v : Code ℕ) → Rewrites (claimed known) v (reading_copies v)
rewrites v =
    facts_rewrite known v (reading_copies v) refl refl (λ globals i. tt)
    (λ k b at. (reading_block b, (slice_get-map reading_block v.blocks k ∙ ap (option_map reading_block) at, lines_follow v (reading_copies v) [] b.lines b.jump)))

pub runs : (v : Code ℕ) (globals : List Value)
    → KeepsCode (classes_in v.params) (begin virtual v) (step virtual globals v) (begin virtual (reading_copies v)) (step virtual globals (reading_copies v))
runs v globals = rewrites_keep (claimed known) v (reading_copies v) (rewrites v) globals
