-- A function in which a call is done in place is code that there may be, where its ticks pay.
use Rattle.std.proofs.Common.{◌≡◌, ℕ, zero, suc, ◌+◌, ◌<◌, ◌≤◌, Bool, true, false, not, ◌&&◌, nat_le, List, [], ◌∷◌, ◌++◌, map, length, slice_get, take, drop, Option, Some, refl, sym, ◌∙◌, ap, subst, arith, slice_set}
use Rattle.std.specs.List.{list_all, list_any, sum_by}
use Rattle.std.proofs.lemmas.Bool.{and_parts, and_from}
use Rattle.std.proofs.lemmas.List.Sums.{sum_by-cons, sum_by-append}
use Rattle.il_ast.specs.declared.operation.Class.{Class}
use Rattle.il_ast.specs.declared.limits.TheConstants.{ARGUMENTS, FUNCTION_WEIGHT, ALLOC_BYTES}
use Rattle.vcode.specs.declared.place.Operand.{Operand}
use Rattle.vcode.specs.declared.place.Operand.TheVariants.{Name}
use Rattle.vcode.specs.declared.place.Destination.{Destination}
use Rattle.vcode.specs.declared.place.Argument.{Argument}
use Rattle.vcode.specs.declared.line.Line.{Line}
use Rattle.vcode.specs.declared.line.Line.TheVariants.{Tick, Set, Operate, Load, Store, Alloc, Blit, Call}
use Rattle.vcode.specs.declared.code.Block.{Block}
use Rattle.vcode.specs.declared.code.Code.{Code}
use Rattle.vcode.specs.declared.function.VFunc.{VFunc}
use Rattle.vcode.specs.Prelude.{with_these, is_paid, operand_keeps, wanted_keeps, line_keeps, jump_keeps, block_keeps, is_below, leads_inside, is_alloc, allocs_first, alloc_bytes, turns_of, passes_few, weight_of, area, code_weight, IsRegular}
use Rattle.inlining.specs.declared.growth.Room.{Room}
use Rattle.inlining.specs.declared.growth.Growth.{Growth}
use Rattle.inlining.specs.declared.growth.Cut.{Cut}
use Rattle.inlining.specs.InPlace.{is_candidate, arguments_brought, result_brought, candidate_block, Site, up_to_call, behind_call, blocks_in_place, IsSite, moved, moved_line, Candidates, Grows, AsItWas, OneMore}
use Rattle.inlining.specs.Growth.{Answers, StandsAt, IsCut, IsGrowth}
use Rattle.vcode.proofs.Replacing.{args_count}
use Rattle.inlining.proofs.Calm.{makes_none, candidate_makes_none}
use Rattle.inlining.proofs.Listing.{all_taken, all_left, all_set, all_changed, all_weaker, sum_at, sum_set, sum_changed, length_both, length_changed, none_all, all_none, no_any}
use Rattle.inlining.proofs.Fitting.{IsPlain, arguments_plain, result_plain, plain_sum, plain_all, arguments_named, candidate_named, inside_more, inside_moved, target_at}
use Rattle.vcode.proofs.Weaker.{block_weaker, below_more}
use Rattle.il_ast.proofs.Listed.{all_at, length_slice_set, all_append}
use Rattle.std.proofs.lemmas.Option.{slice_get_within}
use Rattle.vcode.proofs.Measuring.{still_within}

-- ---- sums over lines

-- what a line takes, where a line at other registers takes as much, and those that bring and that call nothing
record IsTaken (g : Line ℕ → ℕ) : Type 0 where
  plain : (l : Line ℕ) → IsPlain l → g l ≡ 0
  moved : (base : ℕ) (l : Line ℕ) → g (moved_line base l) ≡ g l
  calls : (to : Option (Destination ℕ)) (callee : Operand ℕ) (args : List (Argument ℕ)) → g (Call to callee args) ≡ 0

weight_moved : (base : ℕ) (l : Line ℕ) → weight_of (moved_line base l) ≡ weight_of l
weight_moved base (Tick turn w) = refl
weight_moved base (Set to a) = refl
weight_moved base (Operate to op a b) = refl
weight_moved base (Load to op at) = refl
weight_moved base (Store size a at) = refl
weight_moved base (Alloc to size) = refl
weight_moved base (Blit from to count) = refl
weight_moved base (Call to callee args) = refl

turns_moved : (base : ℕ) (l : Line ℕ) → turns_of (moved_line base l) ≡ turns_of l
turns_moved base (Tick true w) = refl
turns_moved base (Tick false w) = refl
turns_moved base (Set to a) = refl
turns_moved base (Operate to op a b) = refl
turns_moved base (Load to op at) = refl
turns_moved base (Store size a at) = refl
turns_moved base (Alloc to size) = refl
turns_moved base (Blit from to count) = refl
turns_moved base (Call to callee args) = refl

bytes_moved : (base : ℕ) (l : Line ℕ) → alloc_bytes (moved_line base l) ≡ alloc_bytes l
bytes_moved base (Tick turn w) = refl
bytes_moved base (Set to a) = refl
bytes_moved base (Operate to op a b) = refl
bytes_moved base (Load to op at) = refl
bytes_moved base (Store size a at) = refl
bytes_moved base (Alloc to size) = refl
bytes_moved base (Blit from to count) = refl
bytes_moved base (Call to callee args) = refl

few_moved : (base : ℕ) (l : Line ℕ) → passes_few l ≡ true → passes_few (moved_line base l) ≡ true
few_moved base (Tick turn w) h = refl
few_moved base (Set to a) h = refl
few_moved base (Operate to op a b) h = refl
few_moved base (Load to op at) h = refl
few_moved base (Store size a at) h = refl
few_moved base (Alloc to size) h = refl
few_moved base (Blit from to count) h = refl
few_moved base (Call to callee args) h = ap (λ k. nat_le k ARGUMENTS) (args_count (moved base) args) ∙ h

none_moved : (base : ℕ) (l : Line ℕ) → makes_none l ≡ true → not (is_alloc (moved_line base l)) ≡ true
none_moved base (Tick turn w) h = refl
none_moved base (Set to a) h = refl
none_moved base (Operate to op a b) h = refl
none_moved base (Load to op at) h = refl
none_moved base (Store size a at) h = refl
none_moved base (Alloc to size) h = h
none_moved base (Blit from to count) h = refl
none_moved base (Call to callee args) h = refl

none_bytes : (l : Line ℕ) → makes_none l ≡ true → alloc_bytes l ≡ 0
none_bytes (Tick turn w) h = refl
none_bytes (Set to a) h = refl
none_bytes (Operate to op a b) h = refl
none_bytes (Load to op at) h = refl
none_bytes (Store size a at) h = refl
none_bytes (Alloc to size) h = absurd (let no : ⊥ = cc in no)
none_bytes (Blit from to count) h = refl
none_bytes (Call to callee args) h = refl

weights : IsTaken weight_of
weights = record { plain = λ l p. p.weight; moved = weight_moved; calls = λ to callee args. refl }

turns : IsTaken turns_of
turns = record { plain = λ l p. p.turns; moved = turns_moved; calls = λ to callee args. refl }

bytes : IsTaken alloc_bytes
bytes = record { plain = λ l p. p.bytes; moved = bytes_moved; calls = λ to callee args. refl }

abbrev in_block : (Line ℕ → ℕ) → Block ℕ → ℕ
in_block g b = sum_by g b.lines

candidate_takes : (g : Line ℕ → ℕ) → IsTaken g → (first behind base : ℕ) (k : Option Class) (to : Option (Destination ℕ)) (b : Block ℕ) → in_block g (candidate_block first behind base k to b) ≡ in_block g b
candidate_takes g is first behind base k to b =
    let both = sum_by-append g (map (moved_line base) b.lines) (result_brought base k to b.jump) in
    let same = sum_changed g g (moved_line base) (is.moved base) b.lines in
    let none = plain_sum g is.plain (result_brought base k to b.jump) (result_plain base k to b.jump) in
    omega (arith, both, same, none)

up_to_takes : (g : Line ℕ → ℕ) → IsTaken g → (first base j : ℕ) (params : List (Destination ℕ)) (s : Site) → in_block g (up_to_call first base j params s) ≡ sum_by g (take j s.block.lines)
up_to_takes g is first base j params s =
    let both = sum_by-append g (take j s.block.lines) (arguments_brought base params s.args) in
    let none = plain_sum g is.plain (arguments_brought base params s.args) (arguments_plain base params s.args) in
    omega (arith, both, none)

-- the parts of a block take what it takes
parts_take : (g : Line ℕ → ℕ) → IsTaken g → (first base j : ℕ) (params : List (Destination ℕ)) (s : Site) → slice_get s.block.lines j ≡ Some (Call s.to (Name s.name) s.args)
    → in_block g (up_to_call first base j params s) + in_block g (behind_call j s) ≡ in_block g s.block
parts_take g is first base j params s call =
    let up = up_to_takes g is first base j params s in
    let parts = sum_at g s.block.lines j (Call s.to (Name s.name) s.args) call in
    let none = is.calls s.to (Name s.name) s.args in
    omega (arith, up, parts, none)

-- all blocks take what they took, and what the candidate's take
blocks_take : (g : Line ℕ → ℕ) → IsTaken g → (blocks : List (Block ℕ)) (candidate : Code ℕ) (base k j : ℕ) (s : Site) → slice_get blocks k ≡ Some s.block
    → slice_get s.block.lines j ≡ Some (Call s.to (Name s.name) s.args)
    → sum_by (in_block g) (blocks_in_place blocks candidate base k j s) ≡ sum_by (in_block g) blocks + sum_by (in_block g) candidate.blocks
blocks_take g is blocks candidate base k j s at call =
    let behind = length blocks in
    let first = behind + 1 in
    let up : Block ℕ = up_to_call first base j candidate.params s in
    let rest : Block ℕ = behind_call j s in
    let own : List (Block ℕ) = slice_set blocks k up in
    let more : List (Block ℕ) = map (candidate_block first behind base candidate.result s.to) candidate.blocks in
    let all = sum_by-append (in_block g) own (rest ∷ more) in
    let next = sum_by-cons (in_block g) rest more in
    let set = sum_set (in_block g) blocks k s.block up at in
    let parts = parts_take g is first base j candidate.params s call in
    let same = sum_changed (in_block g) (in_block g) (candidate_block first behind base candidate.result s.to) (candidate_takes g is first behind base candidate.result s.to) candidate.blocks in
    omega (arith, all, next, set, parts, same)

none_area : (lines : List (Line ℕ)) → list_all makes_none lines ≡ true → sum_by alloc_bytes lines ≡ 0
none_area [] h = refl
none_area (l ∷ lines) h =
    let s = and_parts (makes_none l) (list_all makes_none lines) h in
    let here = none_bytes l s.0 in
    let rest = none_area lines s.1 in
    let all = sum_by-cons alloc_bytes l lines in
    omega (arith, here, rest, all)

candidate_area : (blocks : List (Block ℕ)) → list_all (λ (b : Block ℕ). list_all makes_none b.lines) blocks ≡ true → sum_by (in_block alloc_bytes) blocks ≡ 0
candidate_area [] h = refl
candidate_area (b ∷ blocks) h =
    let s = and_parts (list_all makes_none b.lines) (list_all (λ (c : Block ℕ). list_all makes_none c.lines) blocks) h in
    let here = none_area b.lines s.0 in
    let rest = candidate_area blocks s.1 in
    let all = sum_by-cons (in_block alloc_bytes) b blocks in
    omega (arith, here, rest, all)

-- ---- what each block passes

-- blocks pass a test where the old ones do, the two parts of the one that is cut, and the candidate's
all_in_place : (p : Block ℕ → Bool) (blocks : List (Block ℕ)) (candidate : Code ℕ) (base k j : ℕ) (s : Site) → list_all p blocks ≡ true → p (up_to_call (length blocks + 1) base j candidate.params s) ≡ true
    → p (behind_call j s) ≡ true → list_all p (map (candidate_block (length blocks + 1) (length blocks) base candidate.result s.to) candidate.blocks) ≡ true → list_all p (blocks_in_place blocks candidate base k j s) ≡ true
all_in_place p blocks candidate base k j s old up rest more =
    let behind = length blocks in
    let first = behind + 1 in
    let cut : Block ℕ = up_to_call first base j candidate.params s in
    let left : Block ℕ = behind_call j s in
    let others : List (Block ℕ) = map (candidate_block first behind base candidate.result s.to) candidate.blocks in
    all_append p (slice_set blocks k cut) (left ∷ others) (all_set p blocks k cut old up) (and_from (p left) (list_all p others) rest more)

-- makes no block of memory
abbrev is_plain : Block ℕ → Bool
is_plain b = not (list_any is_alloc b.lines)

plain_lines : (lines : List (Line ℕ)) → list_all (λ (l : Line ℕ). not (is_alloc l)) lines ≡ true → not (list_any is_alloc lines) ≡ true
plain_lines lines h = ap not (all_none is_alloc lines h)

lines_plain : (lines : List (Line ℕ)) → not (list_any is_alloc lines) ≡ true → list_all (λ (l : Line ℕ). not (is_alloc l)) lines ≡ true
lines_plain lines h = none_all is_alloc lines (no_any is_alloc lines h)

up_to_plain : (first base j : ℕ) (params : List (Destination ℕ)) (s : Site) → is_plain s.block ≡ true → is_plain (up_to_call first base j params s) ≡ true
up_to_plain first base j params s h =
    plain_lines (take j s.block.lines ++ arguments_brought base params s.args)
    (all_append (λ (l : Line ℕ). not (is_alloc l)) (take j s.block.lines) (arguments_brought base params s.args)
    (all_taken (λ (l : Line ℕ). not (is_alloc l)) j s.block.lines (lines_plain s.block.lines h))
    (plain_all (λ (l : Line ℕ). not (is_alloc l)) (λ l p. ap not p.makes) (arguments_brought base params s.args) (arguments_plain base params s.args)))

candidate_plain : (first behind base : ℕ) (k : Option Class) (to : Option (Destination ℕ)) (b : Block ℕ) → list_all makes_none b.lines ≡ true → is_plain (candidate_block first behind base k to b) ≡ true
candidate_plain first behind base k to b h =
    plain_lines (map (moved_line base) b.lines ++ result_brought base k to b.jump)
    (all_append (λ (l : Line ℕ). not (is_alloc l)) (map (moved_line base) b.lines) (result_brought base k to b.jump)
    (all_changed makes_none (λ (l : Line ℕ). not (is_alloc l)) (moved_line base) (none_moved base) b.lines h)
    (plain_all (λ (l : Line ℕ). not (is_alloc l)) (λ l p. ap not p.makes) (result_brought base k to b.jump) (result_plain base k to b.jump)))

-- only the first block makes blocks of memory, and it stays the first
first_in_place : (old new more : List (Block ℕ)) (k : ℕ) (b up : Block ℕ) → slice_get old k ≡ Some b → new ≡ slice_set old k up ++ more → (is_plain b ≡ true → is_plain up ≡ true)
    → list_all is_plain more ≡ true → allocs_first old ≡ true → allocs_first new ≡ true
first_in_place [] new more k b up at is stays rest h = absurd (let no : ⊥ = cc in no)
first_in_place (c ∷ cs) new more zero b up at is stays rest h = ap (λ (bs : List (Block ℕ)). allocs_first bs) is ∙ all_append is_plain cs more h rest
first_in_place (c ∷ cs) new more (suc k) b up at is stays rest h =
    ap (λ (bs : List (Block ℕ)). allocs_first bs) is ∙ all_append is_plain (slice_set cs k up) more (all_set is_plain cs k up h (stays (all_at is_plain cs k b h at))) rest

few_up_to : (first base j : ℕ) (params : List (Destination ℕ)) (s : Site) → list_all passes_few s.block.lines ≡ true → list_all passes_few (take j s.block.lines ++ arguments_brought base params s.args) ≡ true
few_up_to first base j params s h =
    all_append passes_few (take j s.block.lines) (arguments_brought base params s.args) (all_taken passes_few j s.block.lines h)
    (plain_all passes_few (λ l p. p.few) (arguments_brought base params s.args) (arguments_plain base params s.args))

few_candidate : (first behind base : ℕ) (k : Option Class) (to : Option (Destination ℕ)) (b : Block ℕ) → list_all passes_few b.lines ≡ true
    → list_all passes_few (candidate_block first behind base k to b).lines ≡ true
few_candidate first behind base k to b h =
    all_append passes_few (map (moved_line base) b.lines) (result_brought base k to b.jump) (all_changed passes_few passes_few (moved_line base) (few_moved base) b.lines h)
    (plain_all passes_few (λ l p. p.few) (result_brought base k to b.jump) (result_plain base k to b.jump))

-- ---- the whole

count_in_place : (blocks : List (Block ℕ)) (candidate : Code ℕ) (base k j : ℕ) (s : Site) → length (blocks_in_place blocks candidate base k j s) ≡ length blocks + (1 + length candidate.blocks)
count_in_place blocks candidate base k j s =
    let behind = length blocks in
    let up : Block ℕ = up_to_call (behind + 1) base j candidate.params s in
    let rest : Block ℕ = behind_call j s in
    let more : List (Block ℕ) = map (candidate_block (behind + 1) behind base candidate.result s.to) candidate.blocks in
    let both = length_both (slice_set blocks k up) (rest ∷ more) in
    let own = length_slice_set blocks k up in
    let others = length_changed (candidate_block (behind + 1) behind base candidate.result s.to) candidate.blocks in
    omega (arith, both, own, others)

inside_in_place : (blocks : List (Block ℕ)) (candidate : Code ℕ) (base k j : ℕ) (s : Site) → slice_get blocks k ≡ Some s.block → 0 < length candidate.blocks
    → list_all (λ (b : Block ℕ). leads_inside (length blocks) b.jump) blocks ≡ true → list_all (λ (b : Block ℕ). leads_inside (length candidate.blocks) b.jump) candidate.blocks ≡ true
    → list_all (λ (b : Block ℕ). leads_inside (length (blocks_in_place blocks candidate base k j s)) b.jump) (blocks_in_place blocks candidate base k j s) ≡ true
inside_in_place blocks candidate base k j s at begins own other =
    let behind = length blocks in
    let n = length candidate.blocks in
    let m = behind + (1 + n) in
    let low = slice_get_within blocks k s.block at in
    let old : list_all (λ (b : Block ℕ). leads_inside m b.jump) blocks ≡ true =
    all_weaker (λ (b : Block ℕ). leads_inside behind b.jump) (λ (b : Block ℕ). leads_inside m b.jump) (λ b h. inside_more behind m (omega arith) b.jump h) blocks own in
    ap (λ x. list_all (λ (b : Block ℕ). leads_inside x b.jump) (blocks_in_place blocks candidate base k j s)) (count_in_place blocks candidate base k j s)
    ∙ all_in_place (λ (b : Block ℕ). leads_inside m b.jump) blocks candidate base k j s old (target_at m (behind + 1) (omega arith) (omega (arith, begins)))
    (all_at (λ (b : Block ℕ). leads_inside m b.jump) blocks k s.block old at)
    (all_changed (λ (b : Block ℕ). leads_inside n b.jump) (λ (b : Block ℕ). leads_inside m b.jump) (candidate_block (behind + 1) behind base candidate.result s.to)
    (λ b h. inside_moved n behind base b.jump (omega (arith, low)) h) candidate.blocks other)

paced_in_place : (blocks : List (Block ℕ)) (candidate : Code ℕ) (base k j : ℕ) (s : Site) → slice_get blocks k ≡ Some s.block → slice_get s.block.lines j ≡ Some (Call s.to (Name s.name) s.args)
    → list_all (λ (b : Block ℕ). nat_le (sum_by turns_of b.lines) FUNCTION_WEIGHT) blocks ≡ true → list_all (λ (b : Block ℕ). nat_le (sum_by turns_of b.lines) FUNCTION_WEIGHT) candidate.blocks ≡ true
    → list_all (λ (b : Block ℕ). nat_le (sum_by turns_of b.lines) FUNCTION_WEIGHT) (blocks_in_place blocks candidate base k j s) ≡ true
paced_in_place blocks candidate base k j s at call own other =
    let behind = length blocks in
    let first = behind + 1 in
    let up : Block ℕ = up_to_call first base j candidate.params s in
    let rest : Block ℕ = behind_call j s in
    let parts = parts_take turns_of turns first base j candidate.params s call in
    let here = all_at (λ (b : Block ℕ). nat_le (sum_by turns_of b.lines) FUNCTION_WEIGHT) blocks k s.block own at in
    all_in_place (λ (b : Block ℕ). nat_le (sum_by turns_of b.lines) FUNCTION_WEIGHT) blocks candidate base k j s own
    (still_within (in_block turns_of up) (in_block turns_of s.block) FUNCTION_WEIGHT (omega (arith, parts)) here)
    (still_within (in_block turns_of rest) (in_block turns_of s.block) FUNCTION_WEIGHT (omega (arith, parts)) here)
    (all_changed (λ (b : Block ℕ). nat_le (sum_by turns_of b.lines) FUNCTION_WEIGHT) (λ (b : Block ℕ). nat_le (sum_by turns_of b.lines) FUNCTION_WEIGHT)
    (candidate_block first behind base candidate.result s.to)
    (λ b h. let same = candidate_takes turns_of turns first behind base candidate.result s.to b in still_within (in_block turns_of (candidate_block first behind base candidate.result s.to b)) (in_block turns_of b) FUNCTION_WEIGHT (omega (arith, same)) h)
    candidate.blocks other)

few_in_place : (blocks : List (Block ℕ)) (candidate : Code ℕ) (base k j : ℕ) (s : Site) → slice_get blocks k ≡ Some s.block → list_all (λ (b : Block ℕ). list_all passes_few b.lines) blocks ≡ true
    → list_all (λ (b : Block ℕ). list_all passes_few b.lines) candidate.blocks ≡ true → list_all (λ (b : Block ℕ). list_all passes_few b.lines) (blocks_in_place blocks candidate base k j s) ≡ true
few_in_place blocks candidate base k j s at own other =
    let behind = length blocks in
    let first = behind + 1 in
    let here = all_at (λ (b : Block ℕ). list_all passes_few b.lines) blocks k s.block own at in
    all_in_place (λ (b : Block ℕ). list_all passes_few b.lines) blocks candidate base k j s own (few_up_to first base j candidate.params s here) (all_left passes_few (j + 1) s.block.lines here)
    (all_changed (λ (b : Block ℕ). list_all passes_few b.lines) (λ (b : Block ℕ). list_all passes_few b.lines) (candidate_block first behind base candidate.result s.to)
    (few_candidate first behind base candidate.result s.to) candidate.blocks other)

-- what a call names
record Named (p : ℕ → Bool) (s : Site) : Type 0 where
  to : wanted_keeps p s.to ≡ true
  args : list_all (λ (a : Argument ℕ). operand_keeps p a.value) s.args ≡ true

named_at : (p : ℕ → Bool) (j : ℕ) (s : Site) → slice_get s.block.lines j ≡ Some (Call s.to (Name s.name) s.args) → list_all (line_keeps p) s.block.lines ≡ true → Named p s
named_at p j s call h =
    let one : line_keeps p (Call s.to (Name s.name) s.args) ≡ true = all_at (line_keeps p) s.block.lines j (Call s.to (Name s.name) s.args) h call in
    let t = and_parts (wanted_keeps p s.to) (true && list_all (λ (a : Argument ℕ). operand_keeps p a.value) s.args) one in
    record { to = t.0; args = (and_parts true (list_all (λ (a : Argument ℕ). operand_keeps p a.value) s.args) t.1).1 }

known_in_place : (blocks : List (Block ℕ)) (candidate : Code ℕ) (base n k j : ℕ) (s : Site) → slice_get blocks k ≡ Some s.block → slice_get s.block.lines j ≡ Some (Call s.to (Name s.name) s.args)
    → list_all (block_keeps (is_below base)) blocks ≡ true → list_all (λ (d : Destination ℕ). is_below n d.place) candidate.params ≡ true → list_all (block_keeps (is_below n)) candidate.blocks ≡ true
    → list_all (block_keeps (is_below (base + n))) (blocks_in_place blocks candidate base k j s) ≡ true
known_in_place blocks candidate base n k j s at call own params other =
    let behind = length blocks in
    let first = behind + 1 in
    let p = is_below (base + n) in
    let wider : (r : ℕ) → is_below base r ≡ true → is_below (base + n) r ≡ true = below_more base (base + n) (omega arith) in
    let old : list_all (block_keeps p) blocks ≡ true = all_weaker (block_keeps (is_below base)) (block_keeps p) (block_weaker (is_below base) p wider) blocks own in
    let here = and_parts (list_all (line_keeps p) s.block.lines) (jump_keeps p s.block.jump) (all_at (block_keeps p) blocks k s.block old at) in
    let named = named_at p j s call here.0 in
    all_in_place (block_keeps p) blocks candidate base k j s old
    (and_from (list_all (line_keeps p) (take j s.block.lines ++ arguments_brought base candidate.params s.args)) true
    (all_append (line_keeps p) (take j s.block.lines) (arguments_brought base candidate.params s.args) (all_taken (line_keeps p) j s.block.lines here.0)
    (arguments_named base n candidate.params s.args params named.args))
    refl)
    (and_from (list_all (line_keeps p) (drop (j + 1) s.block.lines)) (jump_keeps p s.block.jump) (all_left (line_keeps p) (j + 1) s.block.lines here.0) here.1)
    (all_changed (block_keeps (is_below n)) (block_keeps p) (candidate_block first behind base candidate.result s.to) (λ b h. candidate_named base n first behind candidate.result s.to b named.to h) candidate.blocks other)

plain_in_place : (blocks : List (Block ℕ)) (candidate : Code ℕ) (base k j : ℕ) (s : Site) → slice_get blocks k ≡ Some s.block → StandsAt j s → is_candidate candidate ≡ true → allocs_first blocks ≡ true
    → allocs_first (blocks_in_place blocks candidate base k j s) ≡ true
plain_in_place blocks candidate base k j s at stands calm h =
    let behind = length blocks in
    let first = behind + 1 in
    let up : Block ℕ = up_to_call first base j candidate.params s in
    let rest : Block ℕ = behind_call j s in
    let more : List (Block ℕ) = map (candidate_block first behind base candidate.result s.to) candidate.blocks in
    first_in_place blocks (slice_set blocks k up ++ rest ∷ more) (rest ∷ more) k s.block up at refl (up_to_plain first base j candidate.params s)
    (and_from (is_plain rest) (list_all is_plain more) stands.plain
    (all_changed (λ (b : Block ℕ). list_all makes_none b.lines) is_plain (candidate_block first behind base candidate.result s.to) (candidate_plain first behind base candidate.result s.to) candidate.blocks (candidate_makes_none candidate calm)))
    h

small_in_place : (blocks : List (Block ℕ)) (candidate : Code ℕ) (base k j : ℕ) (s : Site) → slice_get blocks k ≡ Some s.block → StandsAt j s → is_candidate candidate ≡ true
    → sum_by (in_block alloc_bytes) (blocks_in_place blocks candidate base k j s) ≤ sum_by (in_block alloc_bytes) blocks
small_in_place blocks candidate base k j s at stands calm =
    let all = blocks_take alloc_bytes bytes blocks candidate base k j s at stands.call in
    let none = candidate_area candidate.blocks (candidate_makes_none candidate calm) in
    omega (arith, all, none)

regular_in_place : (w : Code ℕ) (candidate : VFunc) (base k j : ℕ) (s : Site) → slice_get w.blocks k ≡ Some s.block → StandsAt j s → Answers candidate s → IsRegular w
    → list_all is_paid (blocks_in_place w.blocks candidate.code base k j s) ≡ true → IsRegular (with_these w (blocks_in_place w.blocks candidate.code base k j s))
regular_in_place w candidate base k j s at stands answers good paid =
    let f = candidate.code in
    let other : IsRegular f = candidate.regular in
    record {
      few_params = good.few_params;
      inside = inside_in_place w.blocks f base k j s at answers.begins good.inside other.inside;
      first = plain_in_place w.blocks f base k j s at stands answers.calm good.first;
      small = still_within (area (with_these w (blocks_in_place w.blocks f base k j s))) (area w) ALLOC_BYTES (small_in_place w.blocks f base k j s at stands answers.calm) good.small;
      paid = paid;
      paced = paced_in_place w.blocks f base k j s at stands.call good.paced other.paced;
      few_args = few_in_place w.blocks f base k j s at good.few_args other.few_args;
    }

pub grown : (candidates : Candidates) (v : VFunc) (g h : Growth) (k : ℕ) (b : Block ℕ) (c : Cut) → IsGrowth candidates v g → slice_get g.blocks.items k ≡ Some b → IsCut candidates g b c
    → h.blocks.items ≡ slice_set g.blocks.items k c.up_to ++ c.behind.items → h.room ≡ c.room → IsGrowth candidates v h
grown candidates v g h k b c before there cut blocks room =
    let bs : List (Block ℕ) = g.blocks.items in
    let w : Code ℕ = with_these v.code bs in
    let candidate = cut.candidate in
    let f = candidate.code in
    let s = cut.site in
    let j = cut.line in
    let base = g.room.registers in
    let made = cut.made in
    let behind = length bs in
    let up : Block ℕ = up_to_call (behind + 1) base j f.params s in
    let rest : Block ℕ = behind_call j s in
    let more : List (Block ℕ) = map (candidate_block (behind + 1) behind base f.result s.to) f.blocks in
    let new : List (Block ℕ) = blocks_in_place bs f base k j s in
    let at : slice_get bs k ≡ Some s.block = there ∙ ap (λ (d : Block ℕ). Some d) (sym cut.block) in
    let is : h.blocks.items ≡ new =
    blocks ∙ ap (λ (d : Block ℕ). slice_set bs k d ++ c.behind.items) made.up_to ∙ ap (λ (ds : List (Block ℕ)). slice_set bs k up ++ ds) made.behind in
    let registers : h.room.registers ≡ base + candidate.registers = ap (λ (r : Room). r.registers) room ∙ made.takes.registers in
    let left : h.room.weight_left ≡ c.room.weight_left = ap (λ (r : Room). r.weight_left) room in
    let named = and_parts (list_all (λ (d : Destination ℕ). is_below base d.place) v.code.params) (list_all (block_keeps (is_below base)) bs) before.known in
    let other = and_parts (list_all (λ (d : Destination ℕ). is_below candidate.registers d.place) f.params) (list_all (block_keeps (is_below candidate.registers)) f.blocks) candidate.known in
    let paid : list_all is_paid new ≡ true =
    all_append is_paid (slice_set bs k up) (rest ∷ more) (all_set is_paid bs k up before.regular.paid (ap is_paid (sym made.up_to) ∙ made.paid))
    (ap (λ (ds : List (Block ℕ)). list_all is_paid ds) (sym made.behind) ∙ made.all_paid) in
    let site : IsSite w f base k j s =
    record { block = at; call = cut.stands.call; turn = cut.stands.turn; classes = cut.answers.classes; result = cut.answers.result; known = before.known; calm = cut.answers.calm } in
    let known : list_all (λ (d : Destination ℕ). is_below (base + candidate.registers) d.place) v.code.params && list_all (block_keeps (is_below (base + candidate.registers))) new ≡ true =
    and_from (list_all (λ (d : Destination ℕ). is_below (base + candidate.registers) d.place) v.code.params) (list_all (block_keeps (is_below (base + candidate.registers))) new)
    (all_weaker (λ (d : Destination ℕ). is_below base d.place) (λ (d : Destination ℕ). is_below (base + candidate.registers) d.place)
    (λ d e. below_more base (base + candidate.registers) (omega arith) d.place e) v.code.params named.0)
    (known_in_place bs f base candidate.registers k j s at cut.stands.call named.1 other.0 other.1) in
    let weight = blocks_take weight_of weights bs f base k j s at cut.stands.call in
    let takes = made.takes.weight in
    let light = before.light in
    let same : code_weight (with_these v.code h.blocks.items) ≡ code_weight (with_these v.code new) = ap (λ (ds : List (Block ℕ)). code_weight (with_these v.code ds)) is in
    record {
      regular = subst (λ (ds : List (Block ℕ)). IsRegular (with_these v.code ds)) (sym is) (regular_in_place w candidate base k j s at cut.stands cut.answers before.regular paid);
      light = omega (arith, weight, takes, light, same, left);
      known =
          ap (λ n. list_all (λ (d : Destination ℕ). is_below n d.place) v.code.params && list_all (block_keeps (is_below n)) h.blocks.items) registers
          ∙ ap (λ (ds : List (Block ℕ)). list_all (λ (d : Destination ℕ). is_below (base + candidate.registers) d.place) v.code.params && list_all (block_keeps (is_below (base + candidate.registers))) ds) is ∙ known;
      few = (let few = made.takes.few in let same_room = ap (λ (r : Room). r.registers) room in omega (arith, few, same_room));
      grows =
          subst (λ n. Grows candidates v.code v.registers (with_these v.code h.blocks.items) n) (sym registers)
          (subst (λ (ds : List (Block ℕ)). Grows candidates v.code v.registers (with_these v.code ds) (base + candidate.registers)) (sym is) (OneMore before.grows cut.named site));
    }

pub grown_itself : (candidates : Candidates) (v : VFunc) (g : Growth) → g.blocks.items ≡ v.code.blocks → g.room.registers ≡ v.registers → code_weight v.code + g.room.weight_left ≡ FUNCTION_WEIGHT
    → IsGrowth candidates v g
grown_itself candidates v g blocks registers light =
    let bs : List (Block ℕ) = g.blocks.items in
    let same : code_weight (with_these v.code bs) ≡ code_weight v.code = ap (λ (ds : List (Block ℕ)). code_weight (with_these v.code ds)) blocks in
    record {
      regular = subst (λ (ds : List (Block ℕ)). IsRegular (with_these v.code ds)) (sym blocks) v.regular;
      light = omega (arith, same, light);
      known =
          ap (λ n. list_all (λ (d : Destination ℕ). is_below n d.place) v.code.params && list_all (block_keeps (is_below n)) bs) registers
          ∙ ap (λ (ds : List (Block ℕ)). list_all (λ (d : Destination ℕ). is_below v.registers d.place) v.code.params && list_all (block_keeps (is_below v.registers)) ds) blocks ∙ v.known;
      few = (let few = v.few in omega (arith, few, registers));
      grows =
          subst (λ n. Grows candidates v.code v.registers (with_these v.code bs) n) (sym registers)
          (subst (λ (ds : List (Block ℕ)). Grows candidates v.code v.registers (with_these v.code ds) v.registers) (sym blocks) AsItWas);
    }
