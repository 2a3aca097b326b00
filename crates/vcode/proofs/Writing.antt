-- What registers hold after a write.
use Rattle.std.proofs.Common.{◌≡◌, ℕ, Bool, true, false, not, ◌&&◌, nat_eq, if◌then◌else◌, Option, Some, None, refl, sym, ◌∙◌, ap}
use Rattle.std.specs.Option.{option_map_or}
use Rattle.std.specs.List.{list_all}
use Rattle.std.proofs.lemmas.Bool.{and_parts, eqb-true}
use Rattle.il_ast.specs.declared.value.Value.{Value}
use Rattle.vcode.specs.Prelude.{Argument, Line, Tick, Set, Operate, Load, Store, Alloc, Blit, Call, operand_keeps, line_keeps, line_writes, Values, written}
use Rattle.il_ast.proofs.Truth.{equals_itself, equal_turned}

abbrev pub is_written : Option ℕ → ℕ → Bool
is_written to r = option_map_or (λ k. nat_eq k r) to false

-- a register that isn't written holds what it did
pub unwritten : (to : Option ℕ) (o : Option Value) (values : Values ℕ) (r : ℕ) → is_written to r ≡ false → written to o values r ≡ values r
unwritten None o values r h = refl
unwritten (Some k) o values r h = ap (λ (b : Bool). if b then o else values r) (equal_turned r k ∙ h)

-- one that is written holds the value
pub now_holds : (k : ℕ) (o : Option Value) (values : Values ℕ) → written (Some k) o values k ≡ o
now_holds k o values = ap (λ (b : Bool). if b then o else values k) (equals_itself k)

-- ---- two codes that write the same

-- registers of a kind that hold the same
abbrev pub Agree : (ℕ → Bool) → (before after : Values ℕ) → Type 0
Agree w before after = (r : ℕ) → w r ≡ true → after r ≡ before r

kept_and : (a b : Bool) → a ≡ true → b ≡ false → (a && not b) ≡ true
kept_and a b h k = ap (λ x. x && not b) h ∙ ap not k

-- those that agreed but for the one that both write
pub written_agree : (w : ℕ → Bool) (to : Option ℕ) (o : Option Value) (before after : Values ℕ) → Agree (λ r. w r && not (is_written to r)) before after → Agree w (written to o before) (written to o after)
written_agree w None o before after agrees r e = agrees r (kept_and (w r) false e refl)
written_agree w (Some k) o before after agrees r e = by (nat_eq r k) (equal_turned k r)
  where
    by : (b : Bool) → nat_eq k r ≡ b → (if b then o else after r) ≡ (if b then o else before r)
    by true f = refl
    by false f = agrees r (kept_and (w r) (nat_eq k r) e f)

pub both_write : (w : ℕ → Bool) (to : Option ℕ) (o : Option Value) (before after : Values ℕ) → Agree w before after → Agree w (written to o before) (written to o after)
both_write w to o before after agrees = written_agree w to o before after (λ r e. agrees r (first_of (w r) (not (is_written to r)) e))
  where
    first_of : (a b : Bool) → (a && b) ≡ true → a ≡ true
    first_of true b h = refl
    first_of false b h = h

-- a write to a register that isn't of the kind leaves them, in the one code or in the other
pub unlike : (w : ℕ → Bool) (k r : ℕ) → w k ≡ false → w r ≡ true → nat_eq k r ≡ false
unlike w k r isnt e = by (nat_eq k r) refl
  where
    by : (b : Bool) → nat_eq k r ≡ b → b ≡ false
    by true f = sym e ∙ ap w (sym (eqb-true k r f)) ∙ isnt
    by false f = refl

pub first_writes : (w : ℕ → Bool) (k : ℕ) (o : Option Value) (before after : Values ℕ) → w k ≡ false → Agree w before after → Agree w (written (Some k) o before) after
first_writes w k o before after isnt agrees r e = agrees r e ∙ sym (unwritten (Some k) o before r (unlike w k r isnt e))

pub second_writes : (w : ℕ → Bool) (k : ℕ) (o : Option Value) (before after : Values ℕ) → w k ≡ false → Agree w before after → Agree w before (written (Some k) o after)
second_writes w k o before after isnt agrees r e = unwritten (Some k) o after r (unlike w k r isnt e) ∙ agrees r e

other : (test : ℕ → Bool) (to r : ℕ) → test to ≡ true → test r ≡ false → nat_eq to r ≡ false
other test to r h isnt = equal_turned to r ∙ unlike test r to isnt h

-- a line writes no register that isn't of a kind whose registers alone it names
pub writes_only : (test : ℕ → Bool) (l : Line ℕ) (r : ℕ) → line_keeps test l ≡ true → test r ≡ false → is_written (line_writes l) r ≡ false
writes_only test (Tick turn w) r h isnt = refl
writes_only test (Set to a) r h isnt = other test to r (and_parts (test to) (operand_keeps test a) h).0 isnt
writes_only test (Operate to op a b) r h isnt = other test to r (and_parts (test to) (operand_keeps test a && operand_keeps test b) h).0 isnt
writes_only test (Load to op at) r h isnt = other test to r (and_parts (test to) (operand_keeps test at.base) h).0 isnt
writes_only test (Store size a at) r h isnt = refl
writes_only test (Alloc None size) r h isnt = refl
writes_only test (Alloc (Some to) size) r h isnt = other test to r h isnt
writes_only test (Blit from to count) r h isnt = refl
writes_only test (Call None callee args) r h isnt = refl
writes_only test (Call (Some d) callee args) r h isnt =
    other test d.place r (and_parts (test d.place) (operand_keeps test callee && list_all (λ (a : Argument ℕ). operand_keeps test a.value) args) h).0 isnt
