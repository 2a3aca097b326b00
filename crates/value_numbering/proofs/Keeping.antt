-- Code that uses values again takes what the code took, and names the registers of the function.
use Rattle.std.proofs.Common.{◌≡◌, ℕ, ◌+◌, ◌<◌, ◌≤◌, Bool, true, false, ◌&&◌, ◌||◌, nat_lt, nat_le, ◌-◌, ◌%◌, ◌^◌, if◌then◌else◌, List, [], ◌∷◌, Some, refl, sym, ◌∙◌, ap, subst, arith}
use Rattle.std.specs.List.{list_all}
use Rattle.std.proofs.lemmas.Bool.{and_parts, and_from, lt-ltb}
use Rattle.std.proofs.lemmas.Bool.Decides.{nat_tests}
use Rattle.vcode.specs.declared.place.Operand.{Operand}
use Rattle.vcode.specs.declared.place.Operand.TheVariants.{At, Number, Name}
use Rattle.vcode.specs.declared.line.Operation.{Operation}
use Rattle.vcode.specs.declared.line.Operation.TheVariants.{Reg, RegW, Compare}
use Rattle.vcode.specs.declared.line.Line.{Line}
use Rattle.vcode.specs.declared.line.Line.TheVariants.{Tick, Set, Operate, Load, Store, Alloc, Blit, Call}
use Rattle.vcode.specs.declared.line.Jump.{Jump}
use Rattle.vcode.specs.declared.code.Block.{Block}
use Rattle.vcode.specs.declared.function.VFunc.{VFunc}
use Rattle.rv_isa.specs.declared.instruction.RegOp.TheVariants.{Add, Sll, Srl}
use Rattle.vcode.specs.Prelude.{operand_cost, operation_cost, line_cost, jump_cost, is_immediate, operand_keeps, line_keeps, jump_keeps, is_below, distance, leads_inside, with_these}
use Rattle.vcode.proofs.Measuring.{Measured, Empty, Put, measure, within_tested, Each, NoBlocks, OneMore}
use Rattle.vcode.proofs.Results.{Serves, Owed, owed_each}
use Rattle.value_numbering.specs.declared.fact.Expression.TheVariants.{Same, Loaded}
use Rattle.value_numbering.specs.declared.fact.Fact.{Fact}
use Rattle.sign_extensions.specs.Whole.{are_closed}
use Rattle.value_numbering.specs.Known.{computed, source}
use Rattle.value_numbering.specs.Steps.{after}
use Rattle.il_ast.specs.declared.operation.Size.{Size}
use Rattle.vcode.specs.declared.place.Address.{Address}
use Rattle.value_numbering.specs.Reused.{IsNarrow, IsRegrouped, Made, Itself, Copy, Narrow, FirstRegrouped, SecondRegrouped, Halfway, Reloaded, Again, claims_at, AreReused, IsReused, AllReused}
use Rattle.value_numbering.specs.Extensions.{is_base}
use Rattle.rv_isa.specs.declared.instruction.LoadOp.{LoadOp}
use Rattle.value_numbering.proofs.Running.{runs}

-- ---- what lines take

measure_same : (n : ℕ) (facts : List Fact) (l m : Line ℕ) → Made n facts l m → measure m ≡ measure l
measure_same n facts l m Itself = refl
measure_same n facts l m (Narrow is low) = refl
measure_same n facts l m (FirstRegrouped is) = refl
measure_same n facts l m (SecondRegrouped is) = refl
measure_same n facts l m (Halfway is) = refl
measure_same n facts l m (Reloaded is) = refl
measure_same n facts l m (Again {k = k} first second) = measure_same n facts k m second ∙ measure_same n facts l k first
measure_same n facts (Set to a) m (Copy is low known) = refl
measure_same n facts (Operate to op a b) m (Copy is low known) = refl
measure_same n facts (Load to op at) m (Copy is low known) = refl
measure_same n facts (Tick turn w) m (Copy is low known) = absurd (let no : ⊥ = cc in no)
measure_same n facts (Store size a at) m (Copy is low known) = absurd (let no : ⊥ = cc in no)
measure_same n facts (Alloc to size) m (Copy is low known) = absurd (let no : ⊥ = cc in no)
measure_same n facts (Blit from to count) m (Copy is low known) = absurd (let no : ⊥ = cc in no)
measure_same n facts (Call to callee args) m (Copy is low known) = absurd (let no : ⊥ = cc in no)

itself_least : (k : ℕ) → k ≤ k
itself_least k = omega arith

base_low : (n : ℕ) (a : Operand ℕ) → is_base n a ≡ true → operand_keeps (is_below n) a ≡ true
base_low n (At r) h = h
base_low n (Name g) h = refl
base_low n (Number k) h = refl

lines_measured : (n : ℕ) (marks : List Bool) (claims : List (List Fact)) (facts : List Fact) (lines new : List (Line ℕ)) (j : Jump ℕ) → AreReused n marks claims facts lines new j → Measured true lines new
lines_measured n marks claims facts [] [] j h = Empty
lines_measured n marks claims facts [] (m ∷ new) j h = absurd h
lines_measured n marks claims facts (l ∷ lines) [] j h = absurd h
lines_measured n marks claims facts (l ∷ lines) (m ∷ new) j h =
    Put (measure_same n facts l m h.0) (λ e. absurd (let no : ⊥ = cc in no)) (lines_measured n marks claims (after m facts) lines new j h.1)

-- ---- the registers that it names

writes_low : (n : ℕ) (l : Line ℕ) (f : Fact) → computed l ≡ Some f → line_keeps (is_below n) l ≡ true → is_below n f.register ≡ true
writes_low n (Set to a) f is h = let same : to ≡ f.register = cc in ap (is_below n) (sym same) ∙ (and_parts (is_below n to) _ h).0
writes_low n (Operate to op a b) f is h = let same : to ≡ f.register = cc in ap (is_below n) (sym same) ∙ (and_parts (is_below n to) _ h).0
writes_low n (Load to op at) f is h = let same : to ≡ f.register = cc in ap (is_below n) (sym same) ∙ (and_parts (is_below n to) _ h).0
writes_low n (Tick turn w) f is h = absurd (let no : ⊥ = cc in no)
writes_low n (Store size a at) f is h = absurd (let no : ⊥ = cc in no)
writes_low n (Alloc to size) f is h = absurd (let no : ⊥ = cc in no)
writes_low n (Blit from to count) f is h = absurd (let no : ⊥ = cc in no)
writes_low n (Call to callee args) f is h = absurd (let no : ⊥ = cc in no)

sum_low : (n : ℕ) (facts : List Fact) (op : Operation) (to y part : ℕ) (added rest : Operand ℕ) → is_below n to ≡ true → IsRegrouped n facts op (source facts y) added part rest → line_keeps (is_below n) (let l : Line ℕ = Operate to op (At part) rest in l) ≡ true
sum_low n facts op to y part added rest h is =
    and_from (is_below n to) (is_below n part && operand_keeps (is_below n) rest) h (and_from (is_below n part) (operand_keeps (is_below n) rest) (lt-ltb part n is.first) is.second)

made_low : (n : ℕ) (facts : List Fact) (l m : Line ℕ) → Made n facts l m → line_keeps (is_below n) l ≡ true → line_keeps (is_below n) m ≡ true
made_low n facts l m Itself h = h
made_low n facts l m (Narrow {size = size} {a = a} {at = at} {q = q} is low) h = and_from (is_below n q) (operand_keeps (is_below n) at.base) (lt-ltb q n low) (and_parts (operand_keeps (is_below n) a) (operand_keeps (is_below n) at.base) h).1
made_low n facts l m (FirstRegrouped {op = op} {to = to} {y = y} {part = part} {added = added} {rest = rest} is) h = sum_low n facts op to y part added rest (and_parts (is_below n to) _ h).0 is
made_low n facts l m (SecondRegrouped {op = op} {to = to} {y = y} {part = part} {added = added} {rest = rest} is) h = sum_low n facts op to y part added rest (and_parts (is_below n to) _ h).0 is
made_low n facts l m (Halfway {to = to} {whole = whole} is) h = and_from (is_below n to) (is_below n whole && true) (and_parts (is_below n to) _ h).0 (and_from (is_below n whole) true (lt-ltb whole n is.low) refl)
made_low n facts l m (Reloaded {to = to} {at = at} is) h = and_from (is_below n to) (operand_keeps (is_below n) at.base) (and_parts (is_below n to) _ h).0 (base_low n at.base is.base)
made_low n facts l m (Again {k = k} first second) h = made_low n facts k m second (made_low n facts l k first h)
made_low n facts l m (Copy {f = f} {r = r} is low known) h = and_from (is_below n f.register) (is_below n r) (writes_low n l f is h) (lt-ltb r n low)

lines_low : (n : ℕ) (marks : List Bool) (claims : List (List Fact)) (facts : List Fact) (lines new : List (Line ℕ)) (j : Jump ℕ) → AreReused n marks claims facts lines new j → list_all (line_keeps (is_below n)) lines ≡ true → list_all (line_keeps (is_below n)) new ≡ true
lines_low n marks claims facts [] [] j h low = refl
lines_low n marks claims facts [] (m ∷ new) j h low = absurd h
lines_low n marks claims facts (l ∷ lines) [] j h low = absurd h
lines_low n marks claims facts (l ∷ lines) (m ∷ new) j h low =
    let s = and_parts (line_keeps (is_below n) l) (list_all (line_keeps (is_below n)) lines) low in
    and_from (line_keeps (is_below n) m) (list_all (line_keeps (is_below n)) new) (made_low n facts l m h.0 s.0) (lines_low n marks claims (after m facts) lines new j h.1 s.1)

-- ---- the whole

block_serves : (n : ℕ) (marks : List Bool) (claims : List (List Fact)) (k : ℕ) (b d : Block ℕ) → IsReused n marks claims k b d → Serves n n b d
block_serves n marks claims k b d h =
    record {
      within = within_tested b d (lines_measured n marks claims (claims_at claims k) b.lines d.lines b.jump h.1.1) (λ e. h.1.0);
      inside = λ m e. ap (leads_inside m) h.0 ∙ e;
      names = λ e.
          let s = and_parts (list_all (line_keeps (is_below n)) b.lines) (jump_keeps (is_below n) b.jump) e in
          and_from (list_all (line_keeps (is_below n)) d.lines) (jump_keeps (is_below n) d.jump) (lines_low n marks claims (claims_at claims k) b.lines d.lines b.jump h.1.1 s.0) (ap (jump_keeps (is_below n)) h.0 ∙ s.1);
    }

blocks_serve : (n : ℕ) (marks : List Bool) (claims : List (List Fact)) (k : ℕ) (blocks new : List (Block ℕ)) → AllReused n marks claims k blocks new → Each (Serves n n) blocks new
blocks_serve n marks claims k [] [] h = NoBlocks
blocks_serve n marks claims k [] (d ∷ new) h = absurd h
blocks_serve n marks claims k (b ∷ blocks) [] h = absurd h
blocks_serve n marks claims k (b ∷ blocks) (d ∷ new) h = OneMore (block_serves n marks claims k b d h.0) (blocks_serve n marks claims (k + 1) blocks new h.1)

pub owed : (v : VFunc) (marks : List Bool) (claims : List (List Fact)) (new : List (Block ℕ)) → are_closed marks v.code ≡ true → claims_at claims 0 ≡ [] → AllReused v.registers marks claims 0 v.code.blocks new → Owed v v.registers new
owed v marks claims new closed nothing all =
    owed_each v v.registers new (itself_least v.registers) (blocks_serve v.registers marks claims 0 v.code.blocks new all) (runs v.registers marks claims v.code (with_these v.code new) closed nothing all refl refl)
