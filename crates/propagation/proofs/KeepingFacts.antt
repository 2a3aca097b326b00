-- Code that is put by what is known takes no more than the code did, and names registers of the function.
use Rattle.std.proofs.Common.{◌≡◌, ℕ, ◌+◌, ◌%◌, ◌^◌, ◌≤◌, Bool, true, false, not, ◌&&◌, nat_eq, nat_lt, nat_le, if◌then◌else◌, List, [], ◌∷◌, map, Option, Some, None, inl, inr, refl, sym, ◌∙◌, ap, arith}
use Rattle.std.specs.Option.{option_map_or}
use Rattle.std.specs.List.{list_all}
use Rattle.std.proofs.lemmas.Bool.{and_parts, and_from}
use Rattle.il_ast.specs.declared.operation.Class.{Class}
use Rattle.il_ast.specs.declared.operation.Class.TheVariants.{W, L}
use Rattle.il_ast.specs.declared.operation.Condition.{Condition}
use Rattle.il_ast.specs.declared.operation.Condition.TheVariants.{Equal, NotEqual, SignedLessEqual, SignedLess, SignedGreaterEqual, SignedGreater, UnsignedLessEqual, UnsignedLess, UnsignedGreaterEqual, UnsignedGreater}
use Rattle.vcode.specs.declared.place.Operand.{Operand}
use Rattle.vcode.specs.declared.place.Address.{Address}
use Rattle.vcode.specs.declared.line.Operation.{Operation}
use Rattle.vcode.specs.Prelude.{distance, beyond, is_immediate, operand_cost, line_cost, branch_cost, jump_cost, affords, operand_keeps, wanted_keeps, line_keeps, jump_keeps, is_below, is_target, leads_inside, with_base, with_argument, with_returned, with_comparison, with_these}
use Rattle.vcode.specs.declared.place.Operand.TheVariants.{At, Number, Name}
use Rattle.vcode.specs.declared.place.Argument.{Argument}
use Rattle.vcode.specs.declared.line.Comparison.{Comparison}
use Rattle.vcode.specs.declared.line.Line.{Line}
use Rattle.vcode.specs.declared.line.Line.TheVariants.{Tick, Set, Operate, Load, Store, Alloc, Blit, Call}
use Rattle.vcode.specs.declared.line.Jump.{Jump}
use Rattle.vcode.specs.declared.line.Jump.TheVariants.{Goto, Branch, Return, Halt}
use Rattle.vcode.specs.declared.code.Block.{Block}
use Rattle.vcode.specs.declared.function.VFunc.{VFunc}
use Rattle.vcode.proofs.Replacing.{args_count, args_low}
use Rattle.vcode.proofs.Measuring.{measure, Measured, Empty, Put, still_affords, within_tested, Each, NoBlocks, OneMore}
use Rattle.vcode.proofs.Results.{Serves, Owed, owed_each}
use Rattle.propagation.specs.declared.constants.fact.Fact.{Fact}
use Rattle.propagation.specs.declared.constants.fact.Fact.TheVariants.{Same, Sum, Test}
use Rattle.propagation.specs.declared.constants.claim.Claim.{Claim}
use Rattle.propagation.specs.declared.constants.claim.Entry.{Entry}
use Rattle.propagation.specs.Forwarded.{claims_at, making, claimed, known_at, is_short, copied, propagate, regrouped, grouped, folded, operands_of, further, from_base, with_address, with_line, test_of, tested_by, with_test, with_branch, numbers_hold, decided, with_jump, IsPut, IsPutJump, AreForwarded, IsForwarded, AllForwarded, is_add, writes_it, fact_of, leaves, after}
use Rattle.propagation.specs.FactTable.{Facts, operand_below, fact_below, kept_if, shortened}
use Rattle.propagation.proofs.Meant.{AreBelow}
use Rattle.propagation.proofs.Computing.{unchanged, any_cheaper}
use Rattle.propagation.proofs.RunningFacts.{runs}

-- ---- operands cost no more, and are as low

short_cost : (b : Operand ℕ) (r : ℕ) (c : Bool) → is_short b ≡ c → operand_cost (if c then b else At r) ≤ 3
short_cost b r false e = omega arith
short_cost (At q) r true e = omega arith
short_cost (Number n) r true e = let a : Operand ℕ = Number n in let low : operand_cost a ≡ 1 = ap (λ (x : Bool). if x then 1 else 9) e in omega arith
short_cost (Name g) r true e = absurd (let no : ⊥ = cc in no)

fact_cost : (o : Option Fact) (r : ℕ) → operand_cost (option_map_or (copied (At r)) o (At r)) ≤ 3
fact_cost None r = omega arith
fact_cost (Some (Same b)) r = short_cost b r (is_short b) refl
fact_cost (Some (Sum b n)) r = omega arith
fact_cost (Some (Test c)) r = omega arith

forward_cost : (fs : Facts) (a : Operand ℕ) → operand_cost (propagate fs a) ≤ operand_cost a
forward_cost fs (At r) = fact_cost (fs r) r
forward_cost fs (Number n) = omega arith
forward_cost fs (Name g) = omega arith

short_low : (n r : ℕ) (b : Operand ℕ) (c : Bool) → operand_below n b ≡ true → nat_lt r n ≡ true → operand_keeps (is_below n) (if c then b else At r) ≡ true
short_low n r b false h low = low
short_low n r (At q) true h low = h
short_low n r (Number m) true h low = refl
short_low n r (Name g) true h low = refl

fact_low : (n r : ℕ) (o : Option Fact) → ((f : Fact) → o ≡ Some f → fact_below n f ≡ true) → nat_lt r n ≡ true → operand_keeps (is_below n) (option_map_or (copied (At r)) o (At r)) ≡ true
fact_low n r None h low = low
fact_low n r (Some (Same b)) h low = short_low n r b (is_short b) (h (Same b) refl) low
fact_low n r (Some (Sum b m)) h low = low
fact_low n r (Some (Test c)) h low = low

forward_low : (n : ℕ) (fs : Facts) → AreBelow n fs → (a : Operand ℕ) → operand_keeps (is_below n) a ≡ true → operand_keeps (is_below n) (propagate fs a) ≡ true
forward_low n fs below (At r) h = fact_low n r (fs r) (below r) h
forward_low n fs below (Number m) h = refl
forward_low n fs below (Name g) h = refl

-- ---- lines

-- the number 1 costs no more than another
least : (m : ℕ) → 1 ≤ (if is_immediate m then 1 else 9)
least m = by (is_immediate m)
  where
    by : (c : Bool) → 1 ≤ (if c then 1 else 9)
    by true = omega arith
    by false = omega arith

regrouped_cost : (o : Option Fact) (r m : ℕ) → operand_cost (regrouped o r m).0 + operand_cost (regrouped o r m).1 ≤ 3 + (if is_immediate m then 1 else 9)
regrouped_cost None r m = omega arith
regrouped_cost (Some (Same a)) r m = omega arith
regrouped_cost (Some (Test c)) r m = omega arith
regrouped_cost (Some (Sum (Number k) n)) r m = omega arith
regrouped_cost (Some (Sum (Name g) n)) r m = omega arith
regrouped_cost (Some (Sum (At b) n)) r m = by (is_immediate ((n + m) % 2 ^ 64)) refl
  where
    pair : Bool → Operand ℕ × Operand ℕ
    pair c = if c then (At b, Number ((n + m) % 2 ^ 64)) else (At r, Number m)

    by : (c : Bool) → is_immediate ((n + m) % 2 ^ 64) ≡ c → operand_cost (pair c).0 + operand_cost (pair c).1 ≤ 3 + (if is_immediate m then 1 else 9)
    by true e =
        let x : ℕ = if is_immediate ((n + m) % 2 ^ 64) then 1 else 9 in
        let one : x ≡ 1 = ap (λ (b : Bool). if b then 1 else 9) e in let y = least m in omega (arith, one, y)
    by false e = omega arith

grouped_cost : (fs : Facts) (a b : Operand ℕ) → operand_cost (grouped fs a b).0 + operand_cost (grouped fs a b).1 ≤ operand_cost a + operand_cost b
grouped_cost fs (At r) (Number m) = regrouped_cost (fs r) r m
grouped_cost fs (At r) (At q) = omega arith
grouped_cost fs (At r) (Name g) = omega arith
grouped_cost fs (Number k) b = omega arith
grouped_cost fs (Name g) b = omega arith

folded_cost : (fs : Facts) (op : Operation) (a b : Operand ℕ) → operand_cost (folded fs op a b).0 + operand_cost (folded fs op a b).1 ≤ operand_cost a + operand_cost b
folded_cost fs op a b = by (is_add op)
  where
    by : (c : Bool) → operand_cost (if c then grouped fs a b else (a, b)).0 + operand_cost (if c then grouped fs a b else (a, b)).1 ≤ operand_cost a + operand_cost b
    by true = grouped_cost fs a b
    by false = omega arith

further_cost : (at : Address ℕ) (r : ℕ) → at.base ≡ At r → (o : Option Fact) → operand_cost (further at o).base ≤ operand_cost at.base
further_cost at r e None = omega arith
further_cost at r e (Some (Same a)) = omega arith
further_cost at r e (Some (Test c)) = omega arith
further_cost at r e (Some (Sum (Number k) n)) = omega arith
further_cost at r e (Some (Sum (Name g) n)) = omega arith
further_cost at r e (Some (Sum (At b) n)) = by (let d = (n + distance at) % 2 ^ 64 in not (nat_eq d 0) && is_immediate d)
  where
    by : (c : Bool) → operand_cost (if c then beyond (At b) ((n + distance at) % 2 ^ 64) else at).base ≤ operand_cost at.base
    by true = let f : operand_cost at.base ≡ 3 = ap operand_cost e in omega (arith, f)
    by false = omega arith

from_base_cost : (fs : Facts) (at : Address ℕ) (a : Operand ℕ) → at.base ≡ a → operand_cost (from_base fs at a).base ≤ operand_cost at.base
from_base_cost fs at (At r) e = further_cost at r e (fs r)
from_base_cost fs at (Number n) e = omega arith
from_base_cost fs at (Name g) e = omega arith

address_cost : (fs : Facts) (at : Address ℕ) → operand_cost (with_address fs at).base ≤ operand_cost at.base
address_cost fs at =
    let x = forward_cost fs at.base in let y = from_base_cost fs (with_base (propagate fs) at) (propagate fs at.base) refl in omega (arith, x, y)

line_costs : (fs : Facts) (l : Line ℕ) → line_cost (with_line fs l) ≤ line_cost l
line_costs fs (Tick turn w) = omega arith
line_costs fs (Set to a) = let x = forward_cost fs a in omega (arith, x)
line_costs fs (Operate to op a b) =
    let x = forward_cost fs a in let y = forward_cost fs b in let z = folded_cost fs op (propagate fs a) (propagate fs b) in omega (arith, x, y, z)
line_costs fs (Load to op at) = let x = address_cost fs at in omega (arith, x)
line_costs fs (Store size a at) = let x = forward_cost fs a in let y = address_cost fs at in omega (arith, x, y)
line_costs fs (Alloc to size) = omega arith
line_costs fs (Blit a b count) = let x = forward_cost fs a in let y = forward_cost fs b in omega (arith, x, y)
line_costs fs (Call to callee args) = let e = args_count (propagate fs) args in omega (arith, e)

two_low : (n : ℕ) (fs : Facts) → AreBelow n fs → (a b : Operand ℕ) → (operand_keeps (is_below n) a && operand_keeps (is_below n) b) ≡ true
    → (operand_keeps (is_below n) (propagate fs a) && operand_keeps (is_below n) (propagate fs b)) ≡ true
two_low n fs below a b h =
    let s = and_parts (operand_keeps (is_below n) a) (operand_keeps (is_below n) b) h in
    and_from (operand_keeps (is_below n) (propagate fs a)) (operand_keeps (is_below n) (propagate fs b)) (forward_low n fs below a s.0) (forward_low n fs below b s.1)

regrouped_low : (n : ℕ) (o : Option Fact) (r m : ℕ) → ((f : Fact) → o ≡ Some f → fact_below n f ≡ true) → nat_lt r n ≡ true
    → (operand_keeps (is_below n) (regrouped o r m).0 && operand_keeps (is_below n) (regrouped o r m).1) ≡ true
regrouped_low n None r m below low = ap (λ b. b && true) low
regrouped_low n (Some (Same a)) r m below low = ap (λ b. b && true) low
regrouped_low n (Some (Test c)) r m below low = ap (λ b. b && true) low
regrouped_low n (Some (Sum (Number k) q)) r m below low = ap (λ b. b && true) low
regrouped_low n (Some (Sum (Name g) q)) r m below low = ap (λ b. b && true) low
regrouped_low n (Some (Sum (At b) q)) r m below low = by (is_immediate ((q + m) % 2 ^ 64))
  where
    pair : Bool → Operand ℕ × Operand ℕ
    pair c = if c then (At b, Number ((q + m) % 2 ^ 64)) else (At r, Number m)

    by : (c : Bool) → (operand_keeps (is_below n) (pair c).0 && operand_keeps (is_below n) (pair c).1) ≡ true
    by true = ap (λ x. x && true) (below (Sum (At b) q) refl)
    by false = ap (λ x. x && true) low

grouped_low : (n : ℕ) (fs : Facts) → AreBelow n fs → (a b : Operand ℕ) → (operand_keeps (is_below n) a && operand_keeps (is_below n) b) ≡ true
    → (operand_keeps (is_below n) (grouped fs a b).0 && operand_keeps (is_below n) (grouped fs a b).1) ≡ true
grouped_low n fs below (At r) (Number m) h = regrouped_low n (fs r) r m (below r) (and_parts (nat_lt r n) true h).0
grouped_low n fs below (At r) (At q) h = h
grouped_low n fs below (At r) (Name g) h = h
grouped_low n fs below (Number k) b h = h
grouped_low n fs below (Name g) b h = h

folded_low : (n : ℕ) (fs : Facts) → AreBelow n fs → (op : Operation) (a b : Operand ℕ) → (operand_keeps (is_below n) a && operand_keeps (is_below n) b) ≡ true
    → (operand_keeps (is_below n) (folded fs op a b).0 && operand_keeps (is_below n) (folded fs op a b).1) ≡ true
folded_low n fs below op a b h = by (is_add op)
  where
    by : (c : Bool) → (operand_keeps (is_below n) (if c then grouped fs a b else (a, b)).0 && operand_keeps (is_below n) (if c then grouped fs a b else (a, b)).1) ≡ true
    by true = grouped_low n fs below a b h
    by false = h

further_low : (n : ℕ) (at : Address ℕ) (o : Option Fact) → ((f : Fact) → o ≡ Some f → fact_below n f ≡ true) → operand_keeps (is_below n) at.base ≡ true → operand_keeps (is_below n) (further at o).base ≡ true
further_low n at None below low = low
further_low n at (Some (Same a)) below low = low
further_low n at (Some (Test c)) below low = low
further_low n at (Some (Sum (Number k) q)) below low = low
further_low n at (Some (Sum (Name g) q)) below low = low
further_low n at (Some (Sum (At b) q)) below low = by (let d = (q + distance at) % 2 ^ 64 in not (nat_eq d 0) && is_immediate d)
  where
    by : (c : Bool) → operand_keeps (is_below n) (if c then beyond (At b) ((q + distance at) % 2 ^ 64) else at).base ≡ true
    by true = below (Sum (At b) q) refl
    by false = low

from_base_low : (n : ℕ) (fs : Facts) → AreBelow n fs → (at : Address ℕ) (a : Operand ℕ) → operand_keeps (is_below n) at.base ≡ true → operand_keeps (is_below n) (from_base fs at a).base ≡ true
from_base_low n fs below at (At r) low = further_low n at (fs r) (below r) low
from_base_low n fs below at (Number k) low = low
from_base_low n fs below at (Name g) low = low

address_low : (n : ℕ) (fs : Facts) → AreBelow n fs → (at : Address ℕ) → operand_keeps (is_below n) at.base ≡ true → operand_keeps (is_below n) (with_address fs at).base ≡ true
address_low n fs below at low = from_base_low n fs below (with_base (propagate fs) at) (propagate fs at.base) (forward_low n fs below at.base low)

line_low : (n : ℕ) (fs : Facts) → AreBelow n fs → (l : Line ℕ) → line_keeps (is_below n) l ≡ true → line_keeps (is_below n) (with_line fs l) ≡ true
line_low n fs below (Tick turn w) h = refl
line_low n fs below (Set to a) h =
    let s = and_parts (is_below n to) (operand_keeps (is_below n) a) h in and_from (is_below n to) (operand_keeps (is_below n) (propagate fs a)) s.0 (forward_low n fs below a s.1)
line_low n fs below (Operate to op a b) h =
    let s = and_parts (is_below n to) (operand_keeps (is_below n) a && operand_keeps (is_below n) b) h in
    and_from (is_below n to) (operand_keeps (is_below n) (operands_of fs op a b).0 && operand_keeps (is_below n) (operands_of fs op a b).1) s.0
    (folded_low n fs below op (propagate fs a) (propagate fs b) (two_low n fs below a b s.1))
line_low n fs below (Load to op at) h =
    let s = and_parts (is_below n to) (operand_keeps (is_below n) at.base) h in and_from (is_below n to) (operand_keeps (is_below n) (with_address fs at).base) s.0 (address_low n fs below at s.1)
line_low n fs below (Store size a at) h =
    let s = and_parts (operand_keeps (is_below n) a) (operand_keeps (is_below n) at.base) h in
    and_from (operand_keeps (is_below n) (propagate fs a)) (operand_keeps (is_below n) (with_address fs at).base) (forward_low n fs below a s.0) (address_low n fs below at s.1)
line_low n fs below (Alloc to size) h = h
line_low n fs below (Blit a b count) h = two_low n fs below a b h
line_low n fs below (Call to callee args) h =
    let s = and_parts (wanted_keeps (is_below n) to) (operand_keeps (is_below n) callee && list_all (λ (a : Argument ℕ). operand_keeps (is_below n) a.value) args) h in
    let t = and_parts (operand_keeps (is_below n) callee) (list_all (λ (a : Argument ℕ). operand_keeps (is_below n) a.value) args) s.1 in
    and_from (wanted_keeps (is_below n) to)
    (operand_keeps (is_below n) (propagate fs callee) && list_all (λ (a : Argument ℕ). operand_keeps (is_below n) a.value) (map (with_argument (propagate fs)) args)) s.0
    (and_from (operand_keeps (is_below n) (propagate fs callee)) (list_all (λ (a : Argument ℕ). operand_keeps (is_below n) a.value) (map (with_argument (propagate fs)) args))
    (forward_low n fs below callee t.0) (args_low n (propagate fs) (forward_low n fs below) args t.1))

-- ---- jumps

chosen : (lines : List (Line ℕ)) (good : Jump ℕ → Type 0) (old new : Jump ℕ) (b : Bool) → affords 0 new lines ≡ b → good old → (affords 0 new lines ≡ true → good new) → good (if b then new else old)
chosen lines good old new true e g h = h e
chosen lines good old new false e g h = g

-- what holds of the branch as it is, and of both new ones where the lines pay for them, holds of the one that is chosen
test_either : (lines : List (Line ℕ)) (good : Jump ℕ → Type 0) (k : Condition) (on : Comparison ℕ) (met otherwise : ℕ) (o : Option (Comparison ℕ)) → good (Branch on met otherwise)
    → ((c : Comparison ℕ) → o ≡ Some c
    → (affords 0 (Branch c met otherwise) lines ≡ true → good (Branch c met otherwise)) × (affords 0 (Branch c otherwise met) lines ≡ true → good (Branch c otherwise met)))
    → good (with_test lines k on met otherwise o)
test_either lines good NotEqual on met otherwise None g h = g
test_either lines good Equal on met otherwise None g h = g
test_either lines good SignedLessEqual on met otherwise o g h = g
test_either lines good SignedLess on met otherwise o g h = g
test_either lines good SignedGreaterEqual on met otherwise o g h = g
test_either lines good SignedGreater on met otherwise o g h = g
test_either lines good UnsignedLessEqual on met otherwise o g h = g
test_either lines good UnsignedLess on met otherwise o g h = g
test_either lines good UnsignedGreaterEqual on met otherwise o g h = g
test_either lines good UnsignedGreater on met otherwise o g h = g
test_either lines good NotEqual on met otherwise (Some c) g h = chosen lines good (Branch on met otherwise) (Branch c met otherwise) (affords 0 (Branch c met otherwise) lines) refl g (h c refl).0
test_either lines good Equal on met otherwise (Some c) g h = chosen lines good (Branch on met otherwise) (Branch c otherwise met) (affords 0 (Branch c otherwise met) lines) refl g (h c refl).1

-- what holds of the branch and of the jumps to where it leads holds of the one that is chosen
outcome_either : (good : Jump ℕ → Type 0) (o : Option Bool) (met otherwise : ℕ) (j : Jump ℕ) → good (Goto met) → good (Goto otherwise) → good j → good (decided o met otherwise j)
outcome_either good None met otherwise j first second g = g
outcome_either good (Some true) met otherwise j first second g = first
outcome_either good (Some false) met otherwise j first second g = second

some_branch_cost : (k : Class) → 2 ≤ branch_cost k
some_branch_cost W = omega arith
some_branch_cost L = omega arith

fact_test : (n : ℕ) (o : Option Fact) (c : Comparison ℕ) → ((f : Fact) → o ≡ Some f → fact_below n f ≡ true) → test_of o ≡ Some c → fact_below n (Test c) ≡ true
fact_test n None c h e = absurd (let no : ⊥ = cc in no)
fact_test n (Some (Same b)) c h e = absurd (let no : ⊥ = cc in no)
fact_test n (Some (Sum b m)) c h e = absurd (let no : ⊥ = cc in no)
fact_test n (Some (Test d)) c h e = let same : d ≡ c = cc in ap (λ (x : Comparison ℕ). fact_below n (Test x)) (sym same) ∙ h (Test d) refl

if_test : (n : ℕ) (o : Option Fact) (c : Comparison ℕ) (b : Bool) → ((f : Fact) → o ≡ Some f → fact_below n f ≡ true) → (if b then test_of o else None) ≡ Some c → fact_below n (Test c) ≡ true
if_test n o c true h e = fact_test n o c h e
if_test n o c false h e = absurd (let no : ⊥ = cc in no)

tested_low : (n : ℕ) (fs : Facts) → AreBelow n fs → (a b : Operand ℕ) (c : Comparison ℕ) → tested_by fs a b ≡ Some c → fact_below n (Test c) ≡ true
tested_low n fs below (At r) (Number m) c e = if_test n (fs r) c (nat_eq m 0) (below r) e
tested_low n fs below (At r) (At q) c e = absurd (let no : ⊥ = cc in no)
tested_low n fs below (At r) (Name g) c e = absurd (let no : ⊥ = cc in no)
tested_low n fs below (Number m) b c e = absurd (let no : ⊥ = cc in no)
tested_low n fs below (Name m) b c e = absurd (let no : ⊥ = cc in no)

keeps_below : (n : ℕ) (a : Operand ℕ) → operand_below n a ≡ true → operand_keeps (is_below n) a ≡ true
keeps_below n (At r) h = h
keeps_below n (Number m) h = refl
keeps_below n (Name g) h = refl

jump_low : (lines : List (Line ℕ)) (n : ℕ) (fs : Facts) → AreBelow n fs → (j : Jump ℕ) → jump_keeps (is_below n) j ≡ true → jump_keeps (is_below n) (with_jump lines fs j) ≡ true
jump_low lines n fs below (Goto k) h = refl
jump_low lines n fs below (Branch on met otherwise) h =
    let new : Comparison ℕ = with_comparison (propagate fs) on in
    outcome_either (λ k. jump_keeps (is_below n) k ≡ true) (numbers_hold new.condition new.class new.left new.right) met otherwise (with_branch lines fs new met otherwise) refl refl
    (test_either lines (λ k. jump_keeps (is_below n) k ≡ true) new.condition new met otherwise (tested_by fs new.left new.right) (two_low n fs below on.left on.right h)
    (λ c e. let s = and_parts (operand_below n c.left) (operand_below n c.right) (tested_low n fs below new.left new.right c e) in
    let all = and_from (operand_keeps (is_below n) c.left) (operand_keeps (is_below n) c.right) (keeps_below n c.left s.0) (keeps_below n c.right s.1) in (λ paid. all, λ paid. all)))
jump_low lines n fs below (Return None) h = refl
jump_low lines n fs below (Return (Some a)) h = forward_low n fs below a.value h
jump_low lines n fs below Halt h = refl

jump_inside : (lines : List (Line ℕ)) (n m : ℕ) (fs : Facts) (j : Jump ℕ) → leads_inside m j ≡ true → leads_inside m (with_jump lines fs j) ≡ true
jump_inside lines n m fs (Goto k) h = h
jump_inside lines n m fs (Branch on met otherwise) h =
    let new : Comparison ℕ = with_comparison (propagate fs) on in
    let s = and_parts (is_target m met) (is_target m otherwise) h in
    outcome_either (λ k. leads_inside m k ≡ true) (numbers_hold new.condition new.class new.left new.right) met otherwise (with_branch lines fs new met otherwise) s.0 s.1
    (test_either lines (λ k. leads_inside m k ≡ true) new.condition new met otherwise (tested_by fs new.left new.right) h
    (λ c e. (λ paid. h, λ paid. and_from (is_target m otherwise) (is_target m met) s.1 s.0)))
jump_inside lines n m fs (Return a) h = refl
jump_inside lines n m fs Halt h = refl

-- ---- what lines take

measure_carried : (fs : Facts) (l : Line ℕ) → measure (with_line fs l) ≡ measure l
measure_carried fs (Tick turn w) = refl
measure_carried fs (Set to a) = refl
measure_carried fs (Operate to op a b) = refl
measure_carried fs (Load to op a) = refl
measure_carried fs (Store size a b) = refl
measure_carried fs (Alloc to size) = refl
measure_carried fs (Blit a b count) = refl
measure_carried fs (Call to callee args) =
    ap (λ k. record { weight = 0; turns = 0; bytes = 0; few = nat_le k 64; makes = false }) (args_count (propagate fs) args)

short_costs : (l : Line ℕ) → line_cost (shortened l) ≤ line_cost l
short_costs (Tick turn w) = omega arith
short_costs (Set to a) = omega arith
short_costs (Operate to op a b) = any_cheaper (λ m. line_cost m ≤ line_cost (Operate to op a b)) to op a b (λ new c cheap. cheap) (λ n cheap. cheap)
short_costs (Load to op a) = omega arith
short_costs (Store size a b) = omega arith
short_costs (Alloc to size) = omega arith
short_costs (Blit a b count) = omega arith
short_costs (Call to callee args) = omega arith

put_costs : (fs : Facts) (l m : Line ℕ) → IsPut fs l m → line_cost m ≤ line_cost l
put_costs fs l m (inl is) = let same = ap line_cost is in omega (arith, same)
put_costs fs l m (inr is) = let same = ap line_cost is in let short = short_costs (with_line fs l) in let put = line_costs fs l in omega (arith, same, short, put)

put_measure : (fs : Facts) (l m : Line ℕ) → IsPut fs l m → measure m ≡ measure l
put_measure fs l m (inl is) = ap measure is
put_measure fs l m (inr is) = ap measure is ∙ unchanged measure (λ to op other a p q. refl, λ to op a b p. refl) (with_line fs l) ∙ measure_carried fs l

lines_measured : (n : ℕ) (es : List Entry) (whole : List (Line ℕ)) (fs : Facts) (lines new : List (Line ℕ)) (j k : Jump ℕ) → AreForwarded n es whole fs lines new j k → Measured false lines new
lines_measured n es whole fs [] [] j k f = Empty
lines_measured n es whole fs [] (m ∷ new) j k f = absurd f
lines_measured n es whole fs (l ∷ lines) [] j k f = absurd f
lines_measured n es whole fs (l ∷ lines) (m ∷ new) j k f =
    Put (put_measure fs l m f.0) (λ e. put_costs fs l m f.0) (lines_measured n es whole (after n m fs) lines new j k f.1)

-- lines that pay for every jump that costs no more pay for the one that is made of it
jump_paid : (lines : List (Line ℕ)) (fs : Facts) (j : Jump ℕ) → ((k : Jump ℕ) → jump_cost k ≤ jump_cost j → affords 0 k lines ≡ true) → affords 0 (with_jump lines fs j) lines ≡ true
jump_paid lines fs (Goto k) h = h (Goto k) (omega arith)
jump_paid lines fs (Branch on met otherwise) h =
    let new : Comparison ℕ = with_comparison (propagate fs) on in
    let x = forward_cost fs on.left in
    let y = forward_cost fs on.right in
    let z = some_branch_cost on.class in
    outcome_either (λ k. affords 0 k lines ≡ true) (numbers_hold new.condition new.class new.left new.right) met otherwise (with_branch lines fs new met otherwise)
    (h (Goto met) (omega (arith, z))) (h (Goto otherwise) (omega (arith, z)))
    (test_either lines (λ k. affords 0 k lines ≡ true) new.condition new met otherwise (tested_by fs new.left new.right) (h (Branch new met otherwise) (omega (arith, x, y)))
    (λ c e. (λ paid. paid, λ paid. paid)))
jump_paid lines fs (Return None) h = h (Return None) (omega arith)
jump_paid lines fs (Return (Some a)) h = h (Return (Some (with_returned (propagate fs) a))) (let x = forward_cost fs a.value in omega (arith, x))
jump_paid lines fs Halt h = h Halt (omega arith)

-- what is known after all lines, and the jump that it makes
jump_made : (n : ℕ) (es : List Entry) (whole : List (Line ℕ)) (fs : Facts) (lines new : List (Line ℕ)) (j k : Jump ℕ) → AreForwarded n es whole fs lines new j k → (gs : Facts) × IsPutJump whole gs j k
jump_made n es whole fs [] [] j k f = (fs, f.0)
jump_made n es whole fs [] (m ∷ new) j k f = absurd f
jump_made n es whole fs (l ∷ lines) [] j k f = absurd f
jump_made n es whole fs (l ∷ lines) (m ∷ new) j k f = jump_made n es whole (after n m fs) lines new j k f.1

kept_below : (n : ℕ) (b : Bool) (test : Fact → Bool) (o : Option Fact) (f : Fact) → kept_if (λ g. b && (fact_below n g && test g)) o ≡ Some f → fact_below n f ≡ true
kept_below n b test None f h = absurd (let no : ⊥ = cc in no)
kept_below n b test (Some g) f h = by (b && (fact_below n g && test g)) refl h
  where
    by : (c : Bool) → (b && (fact_below n g && test g)) ≡ c → (if c then Some g else None) ≡ Some f → fact_below n f ≡ true
    by true e k =
        let same : g ≡ f = cc in
        ap (fact_below n) (sym same) ∙ (and_parts (fact_below n g) (test g) (and_parts b (fact_below n g && test g) e).1).0
    by false e k = absurd (let no : ⊥ = cc in no)

after_below : (n : ℕ) (l : Line ℕ) (fs : Facts) → AreBelow n (after n l fs)
after_below n l fs r f h = kept_below n (nat_lt r n) (leaves l) (if writes_it l r then fact_of l else fs r) f h

put_low : (n : ℕ) (fs : Facts) → AreBelow n fs → (l m : Line ℕ) → IsPut fs l m → line_keeps (is_below n) l ≡ true → line_keeps (is_below n) m ≡ true
put_low n fs below l m (inl is) h = ap (line_keeps (is_below n)) is ∙ h
put_low n fs below l m (inr is) h = ap (line_keeps (is_below n)) is ∙ (unchanged (line_keeps (is_below n)) (λ to op new a p q. refl, λ to op a b p. refl) (with_line fs l) ∙ line_low n fs below l h)

put_jump_low : (whole : List (Line ℕ)) (n : ℕ) (fs : Facts) → AreBelow n fs → (j k : Jump ℕ) → IsPutJump whole fs j k → jump_keeps (is_below n) j ≡ true → jump_keeps (is_below n) k ≡ true
put_jump_low whole n fs below j k (inl is) h = ap (jump_keeps (is_below n)) is ∙ h
put_jump_low whole n fs below j k (inr is) h = ap (jump_keeps (is_below n)) is ∙ jump_low whole n fs below j h

put_jump_inside : (whole : List (Line ℕ)) (n m : ℕ) (fs : Facts) (j k : Jump ℕ) → IsPutJump whole fs j k → leads_inside m j ≡ true → leads_inside m k ≡ true
put_jump_inside whole n m fs j k (inl is) h = ap (leads_inside m) is ∙ h
put_jump_inside whole n m fs j k (inr is) h = ap (leads_inside m) is ∙ jump_inside whole n m fs j h

put_jump_paid : (lines : List (Line ℕ)) (fs : Facts) (j k : Jump ℕ) → IsPutJump lines fs j k → ((q : Jump ℕ) → jump_cost q ≤ jump_cost j → affords 0 q lines ≡ true) → affords 0 k lines ≡ true
put_jump_paid lines fs j k (inl is) h = ap (λ (q : Jump ℕ). affords 0 q lines) is ∙ h j (omega arith)
put_jump_paid lines fs j k (inr is) h = ap (λ (q : Jump ℕ). affords 0 q lines) is ∙ jump_paid lines fs j h

lines_low : (n : ℕ) (es : List Entry) (whole : List (Line ℕ)) (fs : Facts) (lines new : List (Line ℕ)) (j k : Jump ℕ) → AreForwarded n es whole fs lines new j k → AreBelow n fs
    → (list_all (line_keeps (is_below n)) lines && jump_keeps (is_below n) j) ≡ true
    → (list_all (line_keeps (is_below n)) new && jump_keeps (is_below n) k) ≡ true
lines_low n es whole fs [] [] j k f below h = put_jump_low whole n fs below j k f.0 h
lines_low n es whole fs [] (m ∷ new) j k f below h = absurd f
lines_low n es whole fs (l ∷ lines) [] j k f below h = absurd f
lines_low n es whole fs (l ∷ lines) (m ∷ new) j k f below h =
    let s = and_parts (line_keeps (is_below n) l && list_all (line_keeps (is_below n)) lines) (jump_keeps (is_below n) j) h in
    let t = and_parts (line_keeps (is_below n) l) (list_all (line_keeps (is_below n)) lines) s.0 in
    let rest = lines_low n es whole (after n m fs) lines new j k f.1 (after_below n m fs) (and_from (list_all (line_keeps (is_below n)) lines) (jump_keeps (is_below n) j) t.1 s.1) in
    let u = and_parts (list_all (line_keeps (is_below n)) new) (jump_keeps (is_below n) k) rest in
    and_from (line_keeps (is_below n) m && list_all (line_keeps (is_below n)) new) (jump_keeps (is_below n) k)
    (and_from (line_keeps (is_below n) m) (list_all (line_keeps (is_below n)) new) (put_low n fs below l m f.0 t.0) u.0) u.1

known_below : (n : ℕ) (claims : List Claim) (fs : Facts) → AreBelow n fs → AreBelow n (claimed n fs claims)
known_below n [] fs below = below
known_below n (c ∷ claims) fs below = known_below n claims (after n (making c) fs) (after_below n (making c) fs)

-- ---- the whole

block_serves : (n : ℕ) (es : List Entry) (i : ℕ) (b c : Block ℕ) → IsForwarded n es i b c → Serves n n b c
block_serves n es i b c f =
    let made = jump_made n es c.lines (known_at n es i) b.lines c.lines b.jump c.jump f in
    let measured = lines_measured n es c.lines (known_at n es i) b.lines c.lines b.jump c.jump f in
    record {
      within = within_tested b c measured
          (λ paid. put_jump_paid c.lines made.0 b.jump c.jump made.1 (λ k low. still_affords measured b.jump k low 0 0 (omega arith) paid));
      inside = λ m h. put_jump_inside c.lines n m made.0 b.jump c.jump made.1 h;
      names = lines_low n es c.lines (known_at n es i) b.lines c.lines b.jump c.jump f (known_below n (claims_at es i) (λ r. None) (λ r g h. absurd (let no : ⊥ = cc in no)));
    }

blocks_serve : (n : ℕ) (es : List Entry) (i : ℕ) (blocks new : List (Block ℕ)) → AllForwarded n es i blocks new → Each (Serves n n) blocks new
blocks_serve n es i [] [] h = NoBlocks
blocks_serve n es i [] (c ∷ new) h = absurd h
blocks_serve n es i (b ∷ blocks) [] h = absurd h
blocks_serve n es i (b ∷ blocks) (c ∷ new) h = OneMore (block_serves n es i b c h.0) (blocks_serve n es (i + 1) blocks new h.1)

pub owed : (v : VFunc) (es : List Entry) (new : List (Block ℕ)) → claims_at es 0 ≡ [] → AllForwarded v.registers es 0 v.code.blocks new → Owed v v.registers new
owed v es new none all =
    owed_each v v.registers new (omega arith) (blocks_serve v.registers es 0 v.code.blocks new all) (runs v.registers es v.code (with_these v.code new) none all refl refl)
