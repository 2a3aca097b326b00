-- Code with a call in place is code that there may be.
use Rattle.std.proofs.Common.{◌≡◌, ℕ, ◌+◌, ◌<◌, ◌≤◌, Bool, true, false, ◌&&◌, nat_lt, List, [], ◌∷◌, map, Option, Some, None, refl, arith, option_map}
use Rattle.std.specs.List.{list_all, sum_by}
use Rattle.std.proofs.lemmas.Bool.{and_parts, and_from, ltb-true, lt-ltb}
use Rattle.std.proofs.lemmas.Bool.Decides.{nat_tests}
use Rattle.std.proofs.lemmas.List.Sums.{sum_by-cons}
use Rattle.il_ast.specs.declared.operation.Class.{Class}
use Rattle.il_ast.specs.declared.operation.Class.TheVariants.{W, L}
use Rattle.vcode.specs.declared.place.Operand.{Operand}
use Rattle.vcode.specs.declared.place.Operand.TheVariants.{At, Number, Name}
use Rattle.vcode.specs.declared.place.Destination.{Destination}
use Rattle.vcode.specs.declared.place.Argument.{Argument}
use Rattle.vcode.specs.declared.place.Extension.{Extension}
use Rattle.vcode.specs.declared.place.Extension.TheVariants.{Made, Claimed}
use Rattle.vcode.specs.declared.line.Line.{Line}
use Rattle.vcode.specs.declared.line.Line.TheVariants.{Tick, Set, Operate, Load, Store, Alloc, Blit, Call}
use Rattle.vcode.specs.declared.line.Jump.{Jump}
use Rattle.vcode.specs.declared.line.Jump.TheVariants.{Goto, Branch, Return, Halt}
use Rattle.vcode.specs.declared.code.Block.{Block}
use Rattle.vcode.specs.Prelude.{operand_keeps, wanted_keeps, line_keeps, jump_keeps, block_keeps, is_below, leads_inside, is_target, is_alloc, alloc_bytes, turns_of, passes_few, weight_of, with_argument}
use Rattle.vcode.proofs.Weaker.{line_weaker, below_more}
use Rattle.inlining.specs.InPlace.{moved, moved_destination, moved_line, moved_jump, brought, arguments_brought, result_brought, candidate_block}
use Rattle.inlining.proofs.Listing.{all_changed}
use Rattle.il_ast.proofs.Listed.{all_append}

-- ---- registers

below_moved : (n base r : ℕ) → is_below n r ≡ true → is_below (base + n) (r + base) ≡ true
below_moved n base r h = grind (arith, nat_tests)

-- names below n, moved by base, are below both together
module _ (n base : ℕ) where
  operand_moved : (a : Operand ℕ) → operand_keeps (is_below n) a ≡ true → operand_keeps (is_below (base + n)) (moved base a) ≡ true
  operand_moved (At r) h = below_moved n base r h
  operand_moved (Number k) h = refl
  operand_moved (Name g) h = refl

  wanted_moved : (to : Option (Destination ℕ)) → wanted_keeps (is_below n) to ≡ true → wanted_keeps (is_below (base + n)) (option_map (moved_destination base) to) ≡ true
  wanted_moved None h = refl
  wanted_moved (Some d) h = below_moved n base d.place h

  line_moved : (l : Line ℕ) → line_keeps (is_below n) l ≡ true → line_keeps (is_below (base + n)) (moved_line base l) ≡ true
  line_moved (Tick turn w) h = refl
  line_moved (Set to a) h =
      let s = and_parts (is_below n to) (operand_keeps (is_below n) a) h in
      and_from (is_below (base + n) (to + base)) (operand_keeps (is_below (base + n)) (moved base a)) (below_moved n base to s.0) (operand_moved a s.1)
  line_moved (Operate to op a b) h =
      let s = and_parts (is_below n to) (operand_keeps (is_below n) a && operand_keeps (is_below n) b) h in
      let t = and_parts (operand_keeps (is_below n) a) (operand_keeps (is_below n) b) s.1 in
      and_from (is_below (base + n) (to + base)) (operand_keeps (is_below (base + n)) (moved base a) && operand_keeps (is_below (base + n)) (moved base b)) (below_moved n base to s.0)
      (and_from (operand_keeps (is_below (base + n)) (moved base a)) (operand_keeps (is_below (base + n)) (moved base b)) (operand_moved a t.0) (operand_moved b t.1))
  line_moved (Load to op at) h =
      let s = and_parts (is_below n to) (operand_keeps (is_below n) at.base) h in
      and_from (is_below (base + n) (to + base)) (operand_keeps (is_below (base + n)) (moved base at.base)) (below_moved n base to s.0) (operand_moved at.base s.1)
  line_moved (Store size a at) h =
      let s = and_parts (operand_keeps (is_below n) a) (operand_keeps (is_below n) at.base) h in
      and_from (operand_keeps (is_below (base + n)) (moved base a)) (operand_keeps (is_below (base + n)) (moved base at.base)) (operand_moved a s.0) (operand_moved at.base s.1)
  line_moved (Alloc to size) h = line_weaker (is_below n) (is_below (base + n)) (below_more n (base + n) (omega arith)) (Alloc to size) h
  line_moved (Blit from to count) h =
      let s = and_parts (operand_keeps (is_below n) from) (operand_keeps (is_below n) to) h in
      and_from (operand_keeps (is_below (base + n)) (moved base from)) (operand_keeps (is_below (base + n)) (moved base to)) (operand_moved from s.0) (operand_moved to s.1)
  line_moved (Call to callee args) h =
      let s = and_parts (wanted_keeps (is_below n) to) (operand_keeps (is_below n) callee && list_all (λ (a : Argument ℕ). operand_keeps (is_below n) a.value) args) h in
      let t = and_parts (operand_keeps (is_below n) callee) (list_all (λ (a : Argument ℕ). operand_keeps (is_below n) a.value) args) s.1 in
      let others : List (Argument ℕ) = map (with_argument (moved base)) args in
      and_from (wanted_keeps (is_below (base + n)) (option_map (moved_destination base) to))
      (operand_keeps (is_below (base + n)) (moved base callee) && list_all (λ (a : Argument ℕ). operand_keeps (is_below (base + n)) a.value) others) (wanted_moved to s.0)
      (and_from (operand_keeps (is_below (base + n)) (moved base callee)) (list_all (λ (a : Argument ℕ). operand_keeps (is_below (base + n)) a.value) others) (operand_moved callee t.0)
      (all_changed (λ (a : Argument ℕ). operand_keeps (is_below n) a.value) (λ (a : Argument ℕ). operand_keeps (is_below (base + n)) a.value) (with_argument (moved base))
      (λ a e. operand_moved a.value e) args t.1))

  jump_moved : (first behind : ℕ) (j : Jump ℕ) → jump_keeps (is_below n) j ≡ true → jump_keeps (is_below (base + n)) (moved_jump first behind base j) ≡ true
  jump_moved first behind (Goto k) h = refl
  jump_moved first behind (Branch on met otherwise) h =
      let s = and_parts (operand_keeps (is_below n) on.left) (operand_keeps (is_below n) on.right) h in
      and_from (operand_keeps (is_below (base + n)) (moved base on.left)) (operand_keeps (is_below (base + n)) (moved base on.right)) (operand_moved on.left s.0) (operand_moved on.right s.1)
  jump_moved first behind (Return a) h = refl
  jump_moved first behind Halt h = refl

-- ---- lines that bring what is passed

brought_names : (p : ℕ → Bool) (to : ℕ) (k : Class) (e : Extension) (a : Operand ℕ) → p to ≡ true → operand_keeps p a ≡ true → line_keeps p (brought to k e a) ≡ true
brought_names p to W Made a h g = and_from (p to) (operand_keeps p a && true) h (and_from (operand_keeps p a) true g refl)
brought_names p to W Claimed a h g = and_from (p to) (operand_keeps p a) h g
brought_names p to L e a h g = and_from (p to) (operand_keeps p a) h g

-- a line that neither calls nor ticks nor makes a block of memory
pub record IsPlain (l : Line ℕ) : Type 0 where
  pub weight : weight_of l ≡ 0
  pub turns : turns_of l ≡ 0
  pub bytes : alloc_bytes l ≡ 0
  pub few : passes_few l ≡ true
  pub makes : is_alloc l ≡ false

brought_plain : (to : ℕ) (k : Class) (e : Extension) (a : Operand ℕ) → IsPlain (brought to k e a)
brought_plain to W Made a = record { weight = refl; turns = refl; bytes = refl; few = refl; makes = refl }
brought_plain to W Claimed a = record { weight = refl; turns = refl; bytes = refl; few = refl; makes = refl }
brought_plain to L e a = record { weight = refl; turns = refl; bytes = refl; few = refl; makes = refl }

-- lines that are all of them
pub data ArePlain : List (Line ℕ) → Type 0 where
  NoLines : ArePlain []
  More : {l : Line ℕ} {ls : List (Line ℕ)} → IsPlain l → ArePlain ls → ArePlain (l ∷ ls)

pub arguments_plain : (base : ℕ) (params : List (Destination ℕ)) (args : List (Argument ℕ)) → ArePlain (arguments_brought base params args)
arguments_plain base [] args = NoLines
arguments_plain base (d ∷ ds) [] = NoLines
arguments_plain base (d ∷ ds) (a ∷ args) = More (brought_plain (d.place + base) a.class a.extension a.value) (arguments_plain base ds args)

pub result_plain : (base : ℕ) (k : Option Class) (to : Option (Destination ℕ)) (j : Jump ℕ) → ArePlain (result_brought base k to j)
result_plain base None to j = NoLines
result_plain base (Some k) None j = NoLines
result_plain base (Some k) (Some d) (Goto n) = NoLines
result_plain base (Some k) (Some d) (Branch on met otherwise) = NoLines
result_plain base (Some k) (Some d) (Return None) = NoLines
result_plain base (Some k) (Some d) (Return (Some a)) = More (brought_plain d.place k a.extension (moved base a.value)) NoLines
result_plain base (Some k) (Some d) Halt = NoLines

pub plain_sum : (g : Line ℕ → ℕ) → ((l : Line ℕ) → IsPlain l → g l ≡ 0) → (ls : List (Line ℕ)) → ArePlain ls → sum_by g ls ≡ 0
plain_sum g none [] NoLines = refl
plain_sum g none (l ∷ ls) (More one rest) =
    let here = none l one in
    let on = plain_sum g none ls rest in
    let all = sum_by-cons g l ls in
    omega (arith, here, on, all)

pub plain_all : (p : Line ℕ → Bool) → ((l : Line ℕ) → IsPlain l → p l ≡ true) → (ls : List (Line ℕ)) → ArePlain ls → list_all p ls ≡ true
plain_all p passes [] NoLines = refl
plain_all p passes (l ∷ ls) (More one rest) = and_from (p l) (list_all p ls) (passes l one) (plain_all p passes ls rest)

pub arguments_named : (base n : ℕ) (params : List (Destination ℕ)) (args : List (Argument ℕ)) → list_all (λ (d : Destination ℕ). is_below n d.place) params ≡ true
    → list_all (λ (a : Argument ℕ). operand_keeps (is_below (base + n)) a.value) args ≡ true → list_all (line_keeps (is_below (base + n))) (arguments_brought base params args) ≡ true
arguments_named base n [] args h g = refl
arguments_named base n (d ∷ ds) [] h g = refl
arguments_named base n (d ∷ ds) (a ∷ args) h g =
    let s = and_parts (is_below n d.place) (list_all (λ (x : Destination ℕ). is_below n x.place) ds) h in
    let t = and_parts (operand_keeps (is_below (base + n)) a.value) (list_all (λ (x : Argument ℕ). operand_keeps (is_below (base + n)) x.value) args) g in
    and_from (line_keeps (is_below (base + n)) (brought (d.place + base) a.class a.extension a.value)) (list_all (line_keeps (is_below (base + n))) (arguments_brought base ds args))
    (brought_names (is_below (base + n)) (d.place + base) a.class a.extension a.value (below_moved n base d.place s.0) t.0) (arguments_named base n ds args s.1 t.1)

result_named : (base n : ℕ) (k : Option Class) (to : Option (Destination ℕ)) (j : Jump ℕ) → wanted_keeps (is_below (base + n)) to ≡ true → jump_keeps (is_below n) j ≡ true
    → list_all (line_keeps (is_below (base + n))) (result_brought base k to j) ≡ true
result_named base n None to j h g = refl
result_named base n (Some k) None j h g = refl
result_named base n (Some k) (Some d) (Goto m) h g = refl
result_named base n (Some k) (Some d) (Branch on met otherwise) h g = refl
result_named base n (Some k) (Some d) (Return None) h g = refl
result_named base n (Some k) (Some d) (Return (Some a)) h g =
    let one : Line ℕ = brought d.place k a.extension (moved base a.value) in
    and_from (line_keeps (is_below (base + n)) one) true (brought_names (is_below (base + n)) d.place k a.extension (moved base a.value) h (operand_moved n base a.value g)) refl
result_named base n (Some k) (Some d) Halt h g = refl

pub candidate_named : (base n first behind : ℕ) (k : Option Class) (to : Option (Destination ℕ)) (b : Block ℕ) → wanted_keeps (is_below (base + n)) to ≡ true → block_keeps (is_below n) b ≡ true
    → block_keeps (is_below (base + n)) (candidate_block first behind base k to b) ≡ true
candidate_named base n first behind k to b h known =
    let s = and_parts (list_all (line_keeps (is_below n)) b.lines) (jump_keeps (is_below n) b.jump) known in
    let d : Block ℕ = candidate_block first behind base k to b in
    and_from (list_all (line_keeps (is_below (base + n))) d.lines) (jump_keeps (is_below (base + n)) d.jump)
    (all_append (line_keeps (is_below (base + n))) (map (moved_line base) b.lines) (result_brought base k to b.jump)
    (all_changed (line_keeps (is_below n)) (line_keeps (is_below (base + n))) (moved_line base) (line_moved n base) b.lines s.0) (result_named base n k to b.jump h s.1))
    (jump_moved n base first behind b.jump s.1)

-- ---- where jumps lead

target_more : (n m k : ℕ) → n ≤ m → is_target n k ≡ true → is_target m k ≡ true
target_more n m k le h =
    let s = and_parts (nat_lt 0 k) (nat_lt k n) h in and_from (nat_lt 0 k) (nat_lt k m) s.0 (below_more n m le k s.1)

pub inside_more : (n m : ℕ) → n ≤ m → (j : Jump ℕ) → leads_inside n j ≡ true → leads_inside m j ≡ true
inside_more n m le (Goto k) h = target_more n m k le h
inside_more n m le (Branch on met otherwise) h =
    let s = and_parts (is_target n met) (is_target n otherwise) h in
    and_from (is_target m met) (is_target m otherwise) (target_more n m met le s.0) (target_more n m otherwise le s.1)
inside_more n m le (Return a) h = refl
inside_more n m le Halt h = refl

pub target_at : (m k : ℕ) → 0 < k → k < m → is_target m k ≡ true
target_at m k h g = and_from (nat_lt 0 k) (nat_lt k m) (lt-ltb 0 k h) (lt-ltb k m g)

target_moved : (n behind k : ℕ) → is_target n k ≡ true → is_target (behind + (1 + n)) (k + (behind + 1)) ≡ true
target_moved n behind k h =
    let s = and_parts (nat_lt 0 k) (nat_lt k n) h in
    let low = ltb-true k n s.1 in
    target_at (behind + (1 + n)) (k + (behind + 1)) (omega arith) (omega (arith, low))

pub inside_moved : (n behind base : ℕ) (j : Jump ℕ) → 0 < behind → leads_inside n j ≡ true → leads_inside (behind + (1 + n)) (moved_jump (behind + 1) behind base j) ≡ true
inside_moved n behind base (Goto k) some h = target_moved n behind k h
inside_moved n behind base (Branch on met otherwise) some h =
    let s = and_parts (is_target n met) (is_target n otherwise) h in
    and_from (is_target (behind + (1 + n)) (met + (behind + 1))) (is_target (behind + (1 + n)) (otherwise + (behind + 1))) (target_moved n behind met s.0) (target_moved n behind otherwise s.1)
inside_moved n behind base (Return a) some h = target_at (behind + (1 + n)) behind some (omega arith)
inside_moved n behind base Halt some h = refl
