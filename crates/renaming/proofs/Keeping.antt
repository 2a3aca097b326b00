-- Code by other names takes what the code took, and names registers that there are.
use Rattle.std.proofs.Common.{◌≡◌, ℕ, ◌+◌, ◌≤◌, Bool, true, false, ◌&&◌, nat_lt, nat_eq, if◌then◌else◌, List, [], ◌∷◌, Option, Some, None, refl, ◌∙◌, ap}
use Rattle.std.specs.List.{list_all}
use Rattle.std.specs.Option.{option_map_or}
use Rattle.std.proofs.lemmas.Bool.{and_parts, and_from}
use Rattle.vcode.specs.declared.place.Operand.TheVariants.{At, Number, Name}
use Rattle.vcode.specs.declared.place.Argument.{Argument}
use Rattle.vcode.specs.declared.line.Line.{Line}
use Rattle.vcode.specs.declared.line.Line.TheVariants.{Tick, Set, Operate, Load, Store, Alloc, Blit, Call}
use Rattle.vcode.specs.declared.code.Block.{Block}
use Rattle.vcode.specs.declared.function.VFunc.{VFunc}
use Rattle.vcode.specs.Prelude.{line_cost, jump_cost, operand_keeps, line_keeps, jump_keeps, is_below, leads_inside, with_line, line_writes}
use Rattle.vcode.proofs.Replacing.{measure_stays, Costs, line_cost_same, jump_cost_same, Low, line_low, jump_low, inside_same}
use Rattle.vcode.proofs.Measuring.{no_more, measure, Measured, Empty, Put, within, Each, NoBlocks, OneMore}
use Rattle.vcode.proofs.Results.{Serves, Owed, owed_each}
use Rattle.vcode.proofs.SameActs.{writes_stay}
use Rattle.vcode.proofs.Weaker.{line_weaker, jump_weaker, below_more}
use Rattle.renaming.specs.declared.plan.Renamed.{Renamed}
use Rattle.renaming.specs.Renamed.{Owners, Names, is_plain, total, owner, is_name, name_or, read_by, with_destination, IsRenamed, IsRenamedBlock, AllRenamed, start_at, keep_names}
use Rattle.renaming.proofs.Sound.{Sound, lines_sound, all_lines}
use Rattle.renaming.proofs.Running.{begins_sound, runs}

-- ---- what lines take

cost_same : (names : Names) → Costs (read_by names)
cost_same names (At r) = refl
cost_same names (Number n) = refl
cost_same names (Name g) = refl

measure_elsewhere : (n : ℕ) (l : Line ℕ) → measure (with_destination n l) ≡ measure l
measure_elsewhere n (Tick turn w) = refl
measure_elsewhere n (Set to a) = refl
measure_elsewhere n (Operate to op a b) = refl
measure_elsewhere n (Load to op at) = refl
measure_elsewhere n (Store size a at) = refl
measure_elsewhere n (Alloc None size) = refl
measure_elsewhere n (Alloc (Some to) size) = refl
measure_elsewhere n (Blit from to count) = refl
measure_elsewhere n (Call None callee args) = refl
measure_elsewhere n (Call (Some d) callee args) = refl

cost_elsewhere : (n : ℕ) (l : Line ℕ) → line_cost (with_destination n l) ≡ line_cost l
cost_elsewhere n (Tick turn w) = refl
cost_elsewhere n (Set to a) = refl
cost_elsewhere n (Operate to op a b) = refl
cost_elsewhere n (Load to op at) = refl
cost_elsewhere n (Store size a at) = refl
cost_elsewhere n (Alloc None size) = refl
cost_elsewhere n (Alloc (Some to) size) = refl
cost_elsewhere n (Blit from to count) = refl
cost_elsewhere n (Call None callee args) = refl
cost_elsewhere n (Call (Some d) callee args) = refl

line_measured : (o : Owners) (names next : Names) (l m : Line ℕ) → IsRenamed o names l m next → measure m ≡ measure l
line_measured o names next l m is = ap measure is.line ∙ measure_elsewhere is.name (with_line (read_by names) l) ∙ measure_stays (read_by names) l

line_costs : (o : Owners) (names next : Names) (l m : Line ℕ) → IsRenamed o names l m next → line_cost m ≡ line_cost l
line_costs o names next l m is = ap line_cost is.line ∙ cost_elsewhere is.name (with_line (read_by names) l) ∙ line_cost_same (read_by names) (cost_same names) l

-- ---- the registers that they name

name_low : (o : Owners) (r n : ℕ) → is_name o r n ≡ true → is_below (total o) n ≡ true
name_low o r n h = (and_parts (nat_lt n (total o)) (nat_eq (if is_plain o r then n else owner o n) r) h).0

read_low : (o : Owners) (names : Names) → Sound o names → Low (total o) (read_by names)
read_low o names sound (At r) h = by (names r) refl
  where
    by : (x : Option ℕ) → names r ≡ x → is_below (total o) (name_or x r) ≡ true
    by (Some n) e = name_low o r n (sound.fit r n e)
    by None e = h
read_low o names sound (Number n) h = h
read_low o names sound (Name g) h = h

-- the line names registers of a kind, and so does what it writes in the place of its own
put_keeps : (test : ℕ → Bool) (n : ℕ) (l : Line ℕ) → option_map_or (λ r. test n) (line_writes l) true ≡ true → line_keeps test l ≡ true → line_keeps test (with_destination n l) ≡ true
put_keeps test n (Tick turn w) fits h = h
put_keeps test n (Set to a) fits h = and_from (test n) (operand_keeps test a) fits (and_parts (test to) (operand_keeps test a) h).1
put_keeps test n (Operate to op a b) fits h =
    and_from (test n) (operand_keeps test a && operand_keeps test b) fits (and_parts (test to) (operand_keeps test a && operand_keeps test b) h).1
put_keeps test n (Load to op at) fits h = and_from (test n) (operand_keeps test at.base) fits (and_parts (test to) (operand_keeps test at.base) h).1
put_keeps test n (Store size a at) fits h = h
put_keeps test n (Alloc None size) fits h = h
put_keeps test n (Alloc (Some to) size) fits h = fits
put_keeps test n (Blit from to count) fits h = h
put_keeps test n (Call None callee args) fits h = h
put_keeps test n (Call (Some d) callee args) fits h =
    let rest : Bool = operand_keeps test callee && list_all (λ (a : Argument ℕ). operand_keeps test a.value) args in
    and_from (test n) rest fits (and_parts (test d.place) rest h).1

written_low : (o : Owners) (n : ℕ) (w : Option ℕ) → option_map_or (λ r. is_name o r n) w true ≡ true → option_map_or (λ r. is_below (total o) n) w true ≡ true
written_low o n None h = refl
written_low o n (Some r) h = name_low o r n h

module _ (registers : ℕ) (o : Owners) (more : registers ≤ total o) where
  line_named : (names next : Names) (l m : Line ℕ) → Sound o names → IsRenamed o names l m next → line_keeps (is_below registers) l ≡ true → line_keeps (is_below (total o)) m ≡ true
  line_named names next l m sound is h =
      let put : Line ℕ = with_line (read_by names) l in
      let low : line_keeps (is_below (total o)) put ≡ true =
      line_low (total o) (read_by names) (read_low o names sound) l (line_weaker (is_below registers) (is_below (total o)) (below_more registers (total o) more) l h) in
      let fits : option_map_or (λ r. is_below (total o) is.name) (line_writes put) true ≡ true =
      ap (λ (w : Option ℕ). option_map_or (λ r. is_below (total o) is.name) w true) (writes_stay (read_by names) l) ∙ written_low o is.name (line_writes l) is.fits in
      ap (line_keeps (is_below (total o))) is.line ∙ put_keeps (is_below (total o)) is.name put fits low

  abbrev lines_named : List (Line ℕ) → List (Line ℕ) → Type 0
  lines_named ls ms = list_all (line_keeps (is_below registers)) ls ≡ true → list_all (line_keeps (is_below (total o))) ms ≡ true

  one_named : (names next : Names) (l m : Line ℕ) (ls ms : List (Line ℕ)) → Sound o names → IsRenamed o names l m next → lines_named ls ms → lines_named (l ∷ ls) (m ∷ ms)
  one_named names next l m ls ms sound is rest h =
      let s = and_parts (line_keeps (is_below registers) l) (list_all (line_keeps (is_below registers)) ls) h in
      and_from (line_keeps (is_below (total o)) m) (list_all (line_keeps (is_below (total o))) ms) (line_named names next l m sound is s.0) (rest s.1)

  block_serves : (starts : List (List Renamed)) (k : ℕ) (b d : Block ℕ) → IsRenamedBlock o starts k b d → Serves registers (total o) b d
  block_serves starts k b d is =
      let sound = begins_sound o starts k is.begins in
      let last : Sound o is.names = lines_sound o is.lines sound in
      record {
        within =
            within b d
            (all_lines o (λ names ls ms. Measured false ls ms)
            (λ names next l m ls ms sound one rest. Put (line_measured o names next l m one) (λ e. no_more (line_cost m) (line_cost l) (line_costs o names next l m one)) rest) is.lines sound
            (λ sound. Empty))
            (no_more (jump_cost d.jump) (jump_cost b.jump) (ap jump_cost is.ended.jump ∙ jump_cost_same (read_by is.names) (cost_same is.names) b.jump));
        inside = λ m h. ap (leads_inside m) is.ended.jump ∙ inside_same m (read_by is.names) b.jump ∙ h;
        names = λ h.
            let s = and_parts (list_all (line_keeps (is_below registers)) b.lines) (jump_keeps (is_below registers) b.jump) h in
            and_from (list_all (line_keeps (is_below (total o))) d.lines) (jump_keeps (is_below (total o)) d.jump)
            (all_lines o (λ names ls ms. lines_named ls ms) one_named is.lines sound (λ sound e. refl) s.0)
            (ap (jump_keeps (is_below (total o))) is.ended.jump
            ∙ jump_low (total o) (read_by is.names) (read_low o is.names last) b.jump (jump_weaker (is_below registers) (is_below (total o)) (below_more registers (total o) more) b.jump s.1));
      }

  blocks_serve : (starts : List (List Renamed)) (k : ℕ) (bs ds : List (Block ℕ)) → AllRenamed o starts k bs ds → Each (Serves registers (total o)) bs ds
  blocks_serve starts k [] [] all = NoBlocks
  blocks_serve starts k [] (d ∷ ds) all = absurd all
  blocks_serve starts k (b ∷ bs) [] all = absurd all
  blocks_serve starts k (b ∷ bs) (d ∷ ds) all = OneMore (block_serves starts k b d all.0) (blocks_serve starts (k + 1) bs ds all.1)

-- ---- the whole

pub owed : (v : VFunc) (o : Owners) (starts : List (List Renamed)) (blocks : List (Block ℕ)) → v.registers ≤ total o → AllRenamed o starts 0 v.code.blocks blocks → keep_names (start_at starts 0) ≡ true → Owed v (total o) blocks
owed v o starts blocks more all own = owed_each v (total o) blocks more (blocks_serve v.registers o more starts 0 v.code.blocks blocks all) (runs o starts v.code blocks all own)
