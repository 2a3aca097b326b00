-- Code that uses values again does what the code did: at each line both are in one state, of which what is known is true.
use Rattle.std.proofs.Common.{◌≡◌, ℕ, zero, suc, ◌+◌, ◌-◌, ◌%◌, ◌^◌, ◌<◌, Bool, true, false, not, ◌&&◌, ◌||◌, nat_eq, nat_lt, if◌then◌else◌, List, [], ◌∷◌, ◌++◌, filter, length, Option, Some, None, slice_get, refl, sym, ◌∙◌, ap, subst, arith, option_and_then, option_map, ℤ, int_lt, int_le}
use Rattle.std.specs.List.{list_all}
use Rattle.std.specs.Int.{w32, w64, cast_signed}
use Rattle.std.proofs.lemmas.Bool.{and_parts, eqb-true, not-true, or_parts}
use Rattle.std.proofs.lemmas.Bool.Decides.{nat_tests}
use Rattle.std.proofs.lemmas.Int.{ints}
use Rattle.il_ast.specs.declared.value.Value.{Value}
use Rattle.il_ast.specs.declared.value.Value.TheVariants.{Integer, Pointer, Function}
use Rattle.il_ast.specs.Prelude.{Memory, KeepsCode, where_different, on_offsets, on_functions, reaches, lies_in, compare_pointers, compare_with_zero, on_places, holds, truth, operate_two, same_callee}
use Rattle.il_ast.specs.declared.operation.Class.{Class}
use Rattle.rv_isa.specs.declared.instruction.RegOp.{RegOp}
use Rattle.rv_isa.specs.declared.instruction.RegWOp.{RegWOp}
use Rattle.rv_isa.specs.declared.instruction.RegWOp.TheVariants.{Addw, Subw, Sllw, Srlw, Sraw, Mulw, Divw, Divuw, Remw, Remuw}
use Rattle.rv_isa.specs.declared.instruction.RegOp.TheVariants.{Add, Sub, Sll, Slt, Sltu, Xor, Srl, Sra, Or, And, Mul, Mulh, Mulhsu, Mulhu, Div, Divu, Rem, Remu}
use Rattle.il_ast.specs.declared.operation.BinaryOp.TheVariants.{Add as SumOf, Sub as DifferenceOf}
use Rattle.il_ast.specs.declared.operation.Condition.{Condition}
use Rattle.il_ast.specs.declared.operation.Condition.TheVariants.{Equal, NotEqual, SignedLessEqual, SignedLess, SignedGreaterEqual, SignedGreater, UnsignedLessEqual, UnsignedLess, UnsignedGreaterEqual, UnsignedGreater}
use Rattle.il_ast.specs.declared.operation.Class.TheVariants.{W, L}
use Rattle.vcode.specs.declared.place.Operand.{Operand}
use Rattle.vcode.specs.declared.place.Operand.TheVariants.{At, Number, Name}
use Rattle.vcode.specs.declared.line.Operation.{Operation}
use Rattle.vcode.specs.declared.line.Operation.TheVariants.{Reg, RegW, Compare}
use Rattle.vcode.specs.declared.line.Line.{Line}
use Rattle.vcode.specs.declared.line.Line.TheVariants.{Tick, Set, Operate, Load, Store, Alloc, Blit, Call}
use Rattle.vcode.specs.declared.line.Jump.{Jump}
use Rattle.vcode.specs.declared.line.Jump.TheVariants.{Goto, Branch, Return, Halt}
use Rattle.vcode.specs.declared.code.Block.{Block}
use Rattle.vcode.specs.declared.code.Code.{Code}
use Rattle.vcode.specs.Prelude.{distance, operate, reg_on_places, loaded, Values, virtual, unknown, classes_in, begin, step, bound, value_of, operated, address_of, read_result, line_writes, Act, Gives, given, act, written, way, entering, answering, Alike, Follows, Jumps, Both}
use Rattle.vcode.proofs.Facts.{Facts as About, claimed}
use Rattle.vcode.proofs.Alike.{MayLeave}
use Rattle.vcode.proofs.Factual.{fact_line, fact_jump, facts_rewrite, Claimed}
use Rattle.vcode.proofs.Rewriting.{rewrites_keep}
use Rattle.vcode.proofs.Writing.{unwritten, now_holds}
use Rattle.value_numbering.specs.declared.fact.Expression.{Expression}
use Rattle.value_numbering.specs.declared.fact.Expression.TheVariants.{Same, Operated, Extended, Loaded, Linear, Growing}
use Rattle.value_numbering.specs.declared.fact.Fact.{Fact}
use Rattle.value_numbering.specs.declared.steps.Multiple.{Multiple}
use Rattle.value_numbering.specs.declared.steps.Increment.{Increment}
use Rattle.value_numbering.specs.declared.ways.Order.{Order}
use Rattle.value_numbering.specs.Known.{computed, names, reads, asks_memory, changes_memory, spares, stays, copied_from, source_by, source, copied, shifted_in, first_of, shifted, is_back, extended_by, grows_as, grows_in, widened, joined, canonical, is_plain, kept_fact, known_by}
use Rattle.value_numbering.proofs.Meant.{reached, linear, only_if, gives, IsTrueOf, grows}
use Rattle.value_numbering.specs.Steps.{product_in, product, product_of, beyond, linear_in, linear_note, word_in, is_word, is_word_by, noted, other_by, added_to, ahead, growth, increment_of, increment_by, further, behind, with_offset, moved_linear, moved, if_stays, with_front, carried, kept, with_fact, after}
use Rattle.sign_extensions.specs.Whole.{is_marked, takes_whole, keeps_marks, are_closed}
use Rattle.sign_extensions.proofs.Values.{IfWhole, AreWhole, whole_number}
use Rattle.sign_extensions.proofs.Running.{line_whole, bound_whole}
use Rattle.value_numbering.proofs.Counting.{number, nothing_more, whole_grows, index_grows, shift_is_product, IsWord, word_given, number_stands, grown_same, grown_word, is_less, Less, Limit, less_grows, more_shrinks, more_than_before, less_than_next}
use Rattle.value_numbering.proofs.Narrowing.{narrow_same}
use Rattle.value_numbering.specs.Extensions.{other_way}
use Rattle.value_numbering.proofs.Extending.{itself_same, reloaded_same, gives_one}
use Rattle.value_numbering.specs.Reused.{IsNarrow, is_sum, Adds, IsSum, InOrder, Turned, IsRegrouped, Holds, Found, Already, Counted, Made, Itself, Copy, Narrow, FirstRegrouped, SecondRegrouped, Halfway, Reloaded, Again, claims_at, order_of, before, next, is_least, is_most, at_least, at_most, order_met, order_missed, IsKnown, Listed, OfCopies, Bounded, Above, holds_word, is_limit, limits, bounds, exceeds, AllKnown, LeadsWell, AreReused, AllReused, IsHalfway}
use Rattle.value_numbering.proofs.Regrouping.{turned as sum_turned, regrouped}
use Rattle.value_numbering.proofs.Shifting.{less_back}
use Rattle.il_ast.proofs.Truth.{equal_turned}

-- ---- all facts are true

abbrev AreTrue : List Value → Memory → Values ℕ → List Fact → Type 0
AreTrue globals m values [] = Unit {0}
AreTrue globals m values (f ∷ facts) = IsTrueOf globals m values f × AreTrue globals m values facts

true_at : (globals : List Value) (m : Memory) (values : Values ℕ) (facts : List Fact) (k : ℕ) (f : Fact) → AreTrue globals m values facts → slice_get facts k ≡ Some f → IsTrueOf globals m values f
true_at globals m values [] k f all at = absurd (let no : ⊥ = cc in no)
true_at globals m values (g ∷ facts) zero f all at = let same : g ≡ f = cc in subst (IsTrueOf globals m values) same all.0
true_at globals m values (g ∷ facts) (suc k) f all at = true_at globals m values facts k f all.1 at

-- ---- expressions of operands with the same values give the same

abbrev SameIn : List Value → (values other : Values ℕ) → (Operand ℕ → Operand ℕ) → Operand ℕ → Type 0
SameIn globals values other f a = value_of globals other (f a) ≡ value_of globals values a

-- with other operands
abbrev put : (Operand ℕ → Operand ℕ) → Expression → Expression
put f (Same a) = Same (f a)
put f (Operated op a b) = Operated op (f a) (f b)
put f (Extended back a n) = Extended back (f a) n
put f (Loaded op a d) = Loaded op (f a) d
put f (Linear b i c o) = Linear (f b) (f i) c o
put f (Growing a n) = Growing (f a) n

abbrev AllOf : (Operand ℕ → Type 0) → Expression → Type 0
AllOf holds (Same a) = holds a
AllOf holds (Operated op a b) = holds a × holds b
AllOf holds (Extended back a n) = holds a
AllOf holds (Loaded op a d) = holds a
AllOf holds (Linear b i c o) = holds b × holds i
AllOf holds (Growing a n) = holds a

gives_same : (globals : List Value) (m : Memory) (values other : Values ℕ) (f : Operand ℕ → Operand ℕ) (e : Expression) → AllOf (SameIn globals values other f) e → gives globals m other (put f e) ≡ gives globals m values e
gives_same globals m values other f (Same a) h = ap Gives h
gives_same globals m values other f (Operated op a b) h =
    ap (λ (x : Option Value). Gives (operated m op x (value_of globals other (f b)))) h.0 ∙ ap (λ (x : Option Value). Gives (operated m op (value_of globals values a) x)) h.1
gives_same globals m values other f (Extended back a n) h =
    ap (λ (x : Option Value). Gives (operated m (Reg back) (operated m (Reg Sll) x (value_of globals values (Number n))) (value_of globals values (Number n)))) h
gives_same globals m values other f (Loaded op a d) h =
    ap (λ (x : Option Value). given (option_and_then (loaded m op) (if nat_eq d 0 then x else operated m (Reg Add) x (value_of globals values (Number d))))) h
gives_same globals m values other f (Linear b i c o) h =
    ap (λ (x : Option Value). Gives (linear m x (value_of globals other (f i)) c o)) h.0 ∙ ap (λ (x : Option Value). Gives (linear m (value_of globals values b) x c o)) h.1
gives_same globals m values other f (Growing a n) h = ap (λ (x : Option Value). only_if (grows n x) x) h

put_nothing : (e : Expression) → put (λ a. a) e ≡ e
put_nothing (Same a) = refl
put_nothing (Operated op a b) = refl
put_nothing (Extended back a n) = refl
put_nothing (Loaded op a d) = refl
put_nothing (Linear b i c o) = refl
put_nothing (Growing a n) = refl

-- ---- copies

copy_same : (globals : List Value) (m : Memory) (values : Values ℕ) (f : Fact) (r q : ℕ) → IsTrueOf globals m values f → (if nat_eq f.register r then copied_from f.value else None) ≡ Some q → values q ≡ values r
copy_same globals m values f r q is e = by (nat_eq f.register r) refl e
  where
    from : (x : Expression) → copied_from x ≡ Some q → gives globals m values x ≡ Gives (values q)
    from (Same (At p)) h = let same : p ≡ q = cc in ap (λ (k : ℕ). Gives (values k)) same
    from (Same (Number n)) h = absurd (let no : ⊥ = cc in no)
    from (Same (Name g)) h = absurd (let no : ⊥ = cc in no)
    from (Operated op a b) h = absurd (let no : ⊥ = cc in no)
    from (Extended back a n) h = absurd (let no : ⊥ = cc in no)
    from (Loaded op a d) h = absurd (let no : ⊥ = cc in no)
    from (Linear b i c o) h = absurd (let no : ⊥ = cc in no)
    from (Growing a n) h = absurd (let no : ⊥ = cc in no)

    by : (b : Bool) → nat_eq f.register r ≡ b → (if b then copied_from f.value else None) ≡ Some q → values q ≡ values r
    by true t h =
        let here : f.register ≡ r = grind (arith, nat_tests) in
        gives_one (values q) (values r) (sym (from f.value h) ∙ is ∙ ap (λ (k : ℕ). Gives (values k)) here)
    by false t h = absurd (let no : ⊥ = cc in no)

source_same : (globals : List Value) (m : Memory) (values : Values ℕ) (facts : List Fact) → AreTrue globals m values facts → (r : ℕ) → values (source facts r) ≡ values r
source_same globals m values [] all r = refl
source_same globals m values (f ∷ facts) all r = by (if nat_eq f.register r then copied_from f.value else None) refl (source_same globals m values facts all.1 r)
  where
    by : (o : Option ℕ) → (if nat_eq f.register r then copied_from f.value else None) ≡ o → values (source facts r) ≡ values r → values (source_by o (source facts r)) ≡ values r
    by (Some q) e rest = copy_same globals m values f r q all.0 e
    by None e rest = rest

copied_same : (globals : List Value) (m : Memory) (values : Values ℕ) (facts : List Fact) → AreTrue globals m values facts → (a : Operand ℕ) → SameIn globals values values (copied facts) a
copied_same globals m values facts all (At r) = source_same globals m values facts all r
copied_same globals m values facts all (Number n) = refl
copied_same globals m values facts all (Name g) = refl

-- ---- extensions

shift_here : (globals : List Value) (m : Memory) (values : Values ℕ) (f : Fact) (r n : ℕ) (a : Operand ℕ) → IsTrueOf globals m values f → (if nat_eq f.register r then shifted_in f.value n else None) ≡ Some a
    → values r ≡ operated m (Reg Sll) (value_of globals values a) (value_of globals values (Number n))
shift_here globals m values f r n a is e = by (nat_eq f.register r) refl e
  where
    here : (b : Operand ℕ) (k : ℕ) (t : Bool) → nat_eq k n ≡ t → (if t then Some b else None) ≡ Some a
        → gives globals m values (Operated (Reg Sll) b (Number k)) ≡ Gives (operated m (Reg Sll) (value_of globals values a) (value_of globals values (Number n)))
    here b k true t h =
        let same : b ≡ a = cc in
        ap (λ (x : Operand ℕ). Gives (operated m (Reg Sll) (value_of globals values x) (value_of globals values (Number k)))) same ∙ ap (λ (j : ℕ). Gives (operated m (Reg Sll) (value_of globals values a) (value_of globals values (Number j)))) (eqb-true k n t)
    here b k false t h = absurd (let no : ⊥ = cc in no)

    from : (x : Expression) → shifted_in x n ≡ Some a → gives globals m values x ≡ Gives (operated m (Reg Sll) (value_of globals values a) (value_of globals values (Number n)))
    from (Same b) h = absurd (let no : ⊥ = cc in no)
    from (Operated (Reg Sll) b (Number k)) h = here b k (nat_eq k n) refl h
    from (Operated (Reg Sll) b (At q)) h = absurd (let no : ⊥ = cc in no)
    from (Operated (Reg Sll) b (Name g)) h = absurd (let no : ⊥ = cc in no)
    from (Operated (Reg Add) b c) h = absurd (let no : ⊥ = cc in no)
    from (Operated (Reg Sub) b c) h = absurd (let no : ⊥ = cc in no)
    from (Operated (Reg Slt) b c) h = absurd (let no : ⊥ = cc in no)
    from (Operated (Reg Sltu) b c) h = absurd (let no : ⊥ = cc in no)
    from (Operated (Reg Xor) b c) h = absurd (let no : ⊥ = cc in no)
    from (Operated (Reg Srl) b c) h = absurd (let no : ⊥ = cc in no)
    from (Operated (Reg Sra) b c) h = absurd (let no : ⊥ = cc in no)
    from (Operated (Reg Or) b c) h = absurd (let no : ⊥ = cc in no)
    from (Operated (Reg And) b c) h = absurd (let no : ⊥ = cc in no)
    from (Operated (Reg Mul) b c) h = absurd (let no : ⊥ = cc in no)
    from (Operated (Reg Mulh) b c) h = absurd (let no : ⊥ = cc in no)
    from (Operated (Reg Mulhsu) b c) h = absurd (let no : ⊥ = cc in no)
    from (Operated (Reg Mulhu) b c) h = absurd (let no : ⊥ = cc in no)
    from (Operated (Reg Div) b c) h = absurd (let no : ⊥ = cc in no)
    from (Operated (Reg Divu) b c) h = absurd (let no : ⊥ = cc in no)
    from (Operated (Reg Rem) b c) h = absurd (let no : ⊥ = cc in no)
    from (Operated (Reg Remu) b c) h = absurd (let no : ⊥ = cc in no)
    from (Operated (RegW op) b c) h = absurd (let no : ⊥ = cc in no)
    from (Operated (Compare on k) b c) h = absurd (let no : ⊥ = cc in no)
    from (Extended back b k) h = absurd (let no : ⊥ = cc in no)
    from (Loaded op b d) h = absurd (let no : ⊥ = cc in no)
    from (Linear b i c o) h = absurd (let no : ⊥ = cc in no)
    from (Growing b k) h = absurd (let no : ⊥ = cc in no)

    by : (b : Bool) → nat_eq f.register r ≡ b → (if b then shifted_in f.value n else None) ≡ Some a → values r ≡ operated m (Reg Sll) (value_of globals values a) (value_of globals values (Number n))
    by true t h =
        let same : f.register ≡ r = eqb-true f.register r t in
        gives_one (values r) (operated m (Reg Sll) (value_of globals values a) (value_of globals values (Number n))) (ap (λ (k : ℕ). Gives (values k)) (sym same) ∙ sym is ∙ from f.value h)
    by false t h = absurd (let no : ⊥ = cc in no)

shifted_true : (globals : List Value) (m : Memory) (values : Values ℕ) (facts : List Fact) → AreTrue globals m values facts → (r n : ℕ) (a : Operand ℕ) → shifted facts r n ≡ Some a
    → values r ≡ operated m (Reg Sll) (value_of globals values a) (value_of globals values (Number n))
shifted_true globals m values [] all r n a h = absurd (let no : ⊥ = cc in no)
shifted_true globals m values (f ∷ facts) all r n a h = by (if nat_eq f.register r then shifted_in f.value n else None) refl (shifted_true globals m values facts all.1 r n a) h
  where
    by : (o : Option (Operand ℕ)) → (if nat_eq f.register r then shifted_in f.value n else None) ≡ o → (shifted facts r n ≡ Some a → values r ≡ operated m (Reg Sll) (value_of globals values a) (value_of globals values (Number n))) → first_of o (shifted facts r n) ≡ Some a
        → values r ≡ operated m (Reg Sll) (value_of globals values a) (value_of globals values (Number n))
    by (Some b) e rest h = shift_here globals m values f r n a all.0 (e ∙ h)
    by None e rest h = rest h

-- ---- words that grow as longs do

growing_here : (globals : List Value) (m : Memory) (values : Values ℕ) (e : Expression) (n : ℕ) (o : Option Value) → grows_as e n ≡ true → gives globals m values e ≡ Gives o → grows n o ≡ true
growing_here globals m values (Growing a k) n o h is = by (grows k (value_of globals values a)) refl is
  where
    by : (b : Bool) → grows k (value_of globals values a) ≡ b → only_if b (value_of globals values a) ≡ Gives o → grows n o ≡ true
    by true e f = ap (λ (j : ℕ). grows j o) (sym (eqb-true k n h)) ∙ ap (grows k) (sym (gives_one (value_of globals values a) o f)) ∙ e
    by false e f = absurd (let no : ⊥ = cc in no)
growing_here globals m values (Same a) n o h is = absurd (let no : ⊥ = cc in no)
growing_here globals m values (Operated op a b) n o h is = absurd (let no : ⊥ = cc in no)
growing_here globals m values (Extended back a k) n o h is = absurd (let no : ⊥ = cc in no)
growing_here globals m values (Loaded op a d) n o h is = absurd (let no : ⊥ = cc in no)
growing_here globals m values (Linear b i c q) n o h is = absurd (let no : ⊥ = cc in no)

grows_true : (globals : List Value) (m : Memory) (values : Values ℕ) (facts : List Fact) → AreTrue globals m values facts → (r n : ℕ) → grows_in facts r n ≡ true → grows n (values r) ≡ true
grows_true globals m values [] all r n h = absurd (let no : ⊥ = cc in no)
grows_true globals m values (f ∷ facts) all r n h = by (nat_eq f.register r && grows_as f.value n) refl (grows_true globals m values facts all.1 r n) h
  where
    by : (b : Bool) → (nat_eq f.register r && grows_as f.value n) ≡ b → (grows_in facts r n ≡ true → grows n (values r) ≡ true) → (if b then true else grows_in facts r n) ≡ true → grows n (values r) ≡ true
    by true e rest k =
        let s = and_parts (nat_eq f.register r) (grows_as f.value n) e in
        ap (λ (j : ℕ). grows n (values j)) (sym (eqb-true f.register r s.0)) ∙ growing_here globals m values f.value n (values f.register) s.1 all.0
    by false e rest k = rest k

widened_same : (globals : List Value) (m : Memory) (values : Values ℕ) (op : RegWOp) (r n : ℕ) (b : Bool) → (b ≡ true → grows n (values r) ≡ true) → gives globals m values (widened op r n b) ≡ gives globals m values (Operated (RegW op) (At r) (Number n))
widened_same globals m values op r n b grow = by op b grow
  where
    by : (op : RegWOp) (b : Bool) → (b ≡ true → grows n (values r) ≡ true) → gives globals m values (widened op r n b) ≡ gives globals m values (Operated (RegW op) (At r) (Number n))
    by Addw true h = ap Gives (grown_same m (values r) n (h refl))
    by Addw false h = refl
    by Subw b h = refl
    by Sllw b h = refl
    by Srlw b h = refl
    by Sraw b h = refl
    by Mulw b h = refl
    by Divw b h = refl
    by Divuw b h = refl
    by Remw b h = refl
    by Remuw b h = refl

joined_same : (globals : List Value) (m : Memory) (values : Values ℕ) (facts : List Fact) → AreTrue globals m values facts → (op : Operation) (a b : Operand ℕ) → gives globals m values (joined facts op a b) ≡ gives globals m values (Operated op a b)
joined_same globals m values facts all (Reg op) (At r) (Number n) = by (is_back op)
  where
    found : (o : Option (Operand ℕ)) → shifted facts r n ≡ o → gives globals m values (extended_by op r n o) ≡ gives globals m values (Operated (Reg op) (At r) (Number n))
    found (Some a) e = ap (λ (x : Option Value). Gives (operated m (Reg op) x (value_of globals values (Number n)))) (sym (shifted_true globals m values facts all r n a e))
    found None e = refl

    by : (b : Bool) → gives globals m values (if b then extended_by op r n (shifted facts r n) else Operated (Reg op) (At r) (Number n)) ≡ gives globals m values (Operated (Reg op) (At r) (Number n))
    by true = found (shifted facts r n) refl
    by false = refl
joined_same globals m values facts all (Reg op) (At r) (At q) = refl
joined_same globals m values facts all (Reg op) (At r) (Name g) = refl
joined_same globals m values facts all (Reg op) (Number k) b = refl
joined_same globals m values facts all (Reg op) (Name g) b = refl
joined_same globals m values facts all (RegW op) (At r) (Number n) = widened_same globals m values op r n (grows_in facts r n) (grows_true globals m values facts all r n)
joined_same globals m values facts all (RegW op) (At r) (At q) = refl
joined_same globals m values facts all (RegW op) (At r) (Name g) = refl
joined_same globals m values facts all (RegW op) (Number k) b = refl
joined_same globals m values facts all (RegW op) (Name g) b = refl
joined_same globals m values facts all (Compare on k) a b = refl

canonical_same : (globals : List Value) (m : Memory) (values : Values ℕ) (facts : List Fact) → AreTrue globals m values facts → (e : Expression) → gives globals m values (canonical facts e) ≡ gives globals m values e
canonical_same globals m values facts all (Same a) = gives_same globals m values values (copied facts) (Same a) (copied_same globals m values facts all a)
canonical_same globals m values facts all (Operated op a b) =
    joined_same globals m values facts all op (copied facts a) (copied facts b) ∙ gives_same globals m values values (copied facts) (Operated op a b) (copied_same globals m values facts all a, copied_same globals m values facts all b)
canonical_same globals m values facts all (Extended back a n) = gives_same globals m values values (copied facts) (Extended back a n) (copied_same globals m values facts all a)
canonical_same globals m values facts all (Loaded op a d) = gives_same globals m values values (copied facts) (Loaded op a d) (copied_same globals m values facts all a)
canonical_same globals m values facts all (Linear b i c o) =
    gives_same globals m values values (copied facts) (Linear b i c o) (copied_same globals m values facts all b, copied_same globals m values facts all i)
canonical_same globals m values facts all (Growing a n) = gives_same globals m values values (copied facts) (Growing a n) (copied_same globals m values facts all a)

-- ---- sums with products

abbrev times : List Value → Memory → Values ℕ → Multiple → Option Value
times globals m values p = operated m (Reg Mul) (value_of globals values p.index) (number p.factor)

product_value : (globals : List Value) (m : Memory) (values : Values ℕ) (e : Expression) (p : Multiple) → product_in e ≡ Some p → gives globals m values e ≡ Gives (times globals m values p)
product_value globals m values (Operated (Reg Sll) a (Number n)) p h = by (nat_lt n 64) refl h
  where
    by : (b : Bool) → nat_lt n 64 ≡ b → (if b then Some (record { index = a; factor = 2 ^ n }) else None) ≡ Some p → gives globals m values (Operated (Reg Sll) a (Number n)) ≡ Gives (times globals m values p)
    by true t k =
        let few : n < 64 = grind (arith, nat_tests) in
        let same : record { index = a; factor = 2 ^ n } ≡ p = cc in
        ap Gives (shift_is_product m (value_of globals values a) n few) ∙ ap (λ (q : Multiple). Gives (times globals m values q)) same
    by false t k = absurd (let no : ⊥ = cc in no)
product_value globals m values (Operated (Reg Mul) a (Number n)) p h = let same : record { index = a; factor = n } ≡ p = cc in ap (λ (q : Multiple). Gives (times globals m values q)) same
product_value globals m values (Operated (Reg Sll) a (At q)) p h = absurd (let no : ⊥ = cc in no)
product_value globals m values (Operated (Reg Sll) a (Name g)) p h = absurd (let no : ⊥ = cc in no)
product_value globals m values (Operated (Reg Mul) a (At q)) p h = absurd (let no : ⊥ = cc in no)
product_value globals m values (Operated (Reg Mul) a (Name g)) p h = absurd (let no : ⊥ = cc in no)
product_value globals m values (Operated (Reg Add) a b) p h = absurd (let no : ⊥ = cc in no)
product_value globals m values (Operated (Reg Sub) a b) p h = absurd (let no : ⊥ = cc in no)
product_value globals m values (Operated (Reg Slt) a b) p h = absurd (let no : ⊥ = cc in no)
product_value globals m values (Operated (Reg Sltu) a b) p h = absurd (let no : ⊥ = cc in no)
product_value globals m values (Operated (Reg Xor) a b) p h = absurd (let no : ⊥ = cc in no)
product_value globals m values (Operated (Reg Srl) a b) p h = absurd (let no : ⊥ = cc in no)
product_value globals m values (Operated (Reg Sra) a b) p h = absurd (let no : ⊥ = cc in no)
product_value globals m values (Operated (Reg Or) a b) p h = absurd (let no : ⊥ = cc in no)
product_value globals m values (Operated (Reg And) a b) p h = absurd (let no : ⊥ = cc in no)
product_value globals m values (Operated (Reg Mulh) a b) p h = absurd (let no : ⊥ = cc in no)
product_value globals m values (Operated (Reg Mulhsu) a b) p h = absurd (let no : ⊥ = cc in no)
product_value globals m values (Operated (Reg Mulhu) a b) p h = absurd (let no : ⊥ = cc in no)
product_value globals m values (Operated (Reg Div) a b) p h = absurd (let no : ⊥ = cc in no)
product_value globals m values (Operated (Reg Divu) a b) p h = absurd (let no : ⊥ = cc in no)
product_value globals m values (Operated (Reg Rem) a b) p h = absurd (let no : ⊥ = cc in no)
product_value globals m values (Operated (Reg Remu) a b) p h = absurd (let no : ⊥ = cc in no)
product_value globals m values (Operated (RegW op) a b) p h = absurd (let no : ⊥ = cc in no)
product_value globals m values (Operated (Compare on k) a b) p h = absurd (let no : ⊥ = cc in no)
product_value globals m values (Same a) p h = absurd (let no : ⊥ = cc in no)
product_value globals m values (Extended back a k) p h = absurd (let no : ⊥ = cc in no)
product_value globals m values (Loaded op a d) p h = absurd (let no : ⊥ = cc in no)
product_value globals m values (Linear b i c o) p h = absurd (let no : ⊥ = cc in no)
product_value globals m values (Growing a n) p h = absurd (let no : ⊥ = cc in no)

product_true : (globals : List Value) (m : Memory) (values : Values ℕ) (facts : List Fact) → AreTrue globals m values facts → (r : ℕ) (p : Multiple) → product facts r ≡ Some p → values r ≡ times globals m values p
product_true globals m values [] all r p h = absurd (let no : ⊥ = cc in no)
product_true globals m values (f ∷ facts) all r p h = by (if nat_eq f.register r then product_in f.value else None) refl (product_true globals m values facts all.1 r p) h
  where
    here : (b : Bool) → nat_eq f.register r ≡ b → (q : Multiple) → (if b then product_in f.value else None) ≡ Some q → values r ≡ times globals m values q
    here true t q k =
        gives_one (values r) (times globals m values q) (ap (λ (j : ℕ). Gives (values j)) (sym (eqb-true f.register r t)) ∙ sym all.0 ∙ product_value globals m values f.value q k)
    here false t q k = absurd (let no : ⊥ = cc in no)

    by : (o : Option Multiple) → (if nat_eq f.register r then product_in f.value else None) ≡ o → (product facts r ≡ Some p → values r ≡ times globals m values p) → first_of o (product facts r) ≡ Some p → values r ≡ times globals m values p
    by (Some q) e rest k = here (nat_eq f.register r) refl p (e ∙ k)
    by None e rest k = rest k

product_of_true : (globals : List Value) (m : Memory) (values : Values ℕ) (facts : List Fact) → AreTrue globals m values facts → (a : Operand ℕ) (p : Multiple) → product_of facts a ≡ Some p → value_of globals values a ≡ times globals m values p
product_of_true globals m values facts all (At r) p h = product_true globals m values facts all r p h
product_of_true globals m values facts all (Number n) p h = absurd (let no : ⊥ = cc in no)
product_of_true globals m values facts all (Name g) p h = absurd (let no : ⊥ = cc in no)

beyond_same : (globals : List Value) (m : Memory) (values : Values ℕ) (facts : List Fact) → AreTrue globals m values facts → (a b : Operand ℕ) (o : Option Multiple) → product_of facts b ≡ o → (l : Expression) → beyond a o ≡ Some l
    → gives globals m values l ≡ Gives (operated m (Reg Add) (value_of globals values a) (value_of globals values b))
beyond_same globals m values facts all a b (Some p) e l h =
    let same : Linear a p.index p.factor 0 ≡ l = cc in
    ap (gives globals m values) (sym same) ∙ ap Gives (nothing_more m (value_of globals values a) (times globals m values p))
    ∙ ap (λ (x : Option Value). Gives (operated m (Reg Add) (value_of globals values a) x)) (sym (product_of_true globals m values facts all b p e))
beyond_same globals m values facts all a b None e l h = absurd (let no : ⊥ = cc in no)

linear_same : (globals : List Value) (m : Memory) (values : Values ℕ) (facts : List Fact) → AreTrue globals m values facts → (e l : Expression) → linear_in facts e ≡ Some l → gives globals m values l ≡ gives globals m values e
linear_same globals m values facts all (Operated (Reg Add) a b) l h = by (beyond a (product_of facts b)) refl h
  where
    by : (o : Option Expression) → beyond a (product_of facts b) ≡ o → first_of o (beyond b (product_of facts a)) ≡ Some l → gives globals m values l ≡ gives globals m values (Operated (Reg Add) a b)
    by (Some k) e h = beyond_same globals m values facts all a b (product_of facts b) refl l (e ∙ h)
    by None e h = beyond_same globals m values facts all b a (product_of facts a) refl l h ∙ ap Gives (sum_turned m (Reg Add) refl (value_of globals values b) (value_of globals values a))
linear_same globals m values facts all (Operated (Reg Sub) a b) l h = absurd (let no : ⊥ = cc in no)
linear_same globals m values facts all (Operated (Reg Sll) a b) l h = absurd (let no : ⊥ = cc in no)
linear_same globals m values facts all (Operated (Reg Slt) a b) l h = absurd (let no : ⊥ = cc in no)
linear_same globals m values facts all (Operated (Reg Sltu) a b) l h = absurd (let no : ⊥ = cc in no)
linear_same globals m values facts all (Operated (Reg Xor) a b) l h = absurd (let no : ⊥ = cc in no)
linear_same globals m values facts all (Operated (Reg Srl) a b) l h = absurd (let no : ⊥ = cc in no)
linear_same globals m values facts all (Operated (Reg Sra) a b) l h = absurd (let no : ⊥ = cc in no)
linear_same globals m values facts all (Operated (Reg Or) a b) l h = absurd (let no : ⊥ = cc in no)
linear_same globals m values facts all (Operated (Reg And) a b) l h = absurd (let no : ⊥ = cc in no)
linear_same globals m values facts all (Operated (Reg Mul) a b) l h = absurd (let no : ⊥ = cc in no)
linear_same globals m values facts all (Operated (Reg Mulh) a b) l h = absurd (let no : ⊥ = cc in no)
linear_same globals m values facts all (Operated (Reg Mulhsu) a b) l h = absurd (let no : ⊥ = cc in no)
linear_same globals m values facts all (Operated (Reg Mulhu) a b) l h = absurd (let no : ⊥ = cc in no)
linear_same globals m values facts all (Operated (Reg Div) a b) l h = absurd (let no : ⊥ = cc in no)
linear_same globals m values facts all (Operated (Reg Divu) a b) l h = absurd (let no : ⊥ = cc in no)
linear_same globals m values facts all (Operated (Reg Rem) a b) l h = absurd (let no : ⊥ = cc in no)
linear_same globals m values facts all (Operated (Reg Remu) a b) l h = absurd (let no : ⊥ = cc in no)
linear_same globals m values facts all (Operated (RegW op) a b) l h = absurd (let no : ⊥ = cc in no)
linear_same globals m values facts all (Operated (Compare on k) a b) l h = absurd (let no : ⊥ = cc in no)
linear_same globals m values facts all (Same a) l h = absurd (let no : ⊥ = cc in no)
linear_same globals m values facts all (Extended back a k) l h = absurd (let no : ⊥ = cc in no)
linear_same globals m values facts all (Loaded op a d) l h = absurd (let no : ⊥ = cc in no)
linear_same globals m values facts all (Linear b i c o) l h = absurd (let no : ⊥ = cc in no)
linear_same globals m values facts all (Growing a n) l h = absurd (let no : ⊥ = cc in no)

-- ---- words that stand extended

word_value : (globals : List Value) (m : Memory) (values : Values ℕ) (facts : List Fact) → AreTrue globals m values facts → (e : Expression) (o : Option Value) → word_in facts e ≡ true → gives globals m values e ≡ Gives o → IsWord o
word_value globals m values facts all (Operated (RegW op) a b) o h is =
    subst IsWord (gives_one (operated m (RegW op) (value_of globals values a) (value_of globals values b)) o is) (word_given m op (value_of globals values a) (value_of globals values b))
word_value globals m values facts all (Operated (Reg Add) (At q) (Number n)) o h is =
    subst IsWord (gives_one (operated m (Reg Add) (values q) (number n)) o is) (grown_word m (values q) n (grows_true globals m values facts all q n h))
word_value globals m values facts all (Same (Number n)) o h is = subst IsWord (gives_one (number n) o is) (number_stands n h)
word_value globals m values facts all (Operated (Reg Add) (At q) (At r)) o h is = absurd (let no : ⊥ = cc in no)
word_value globals m values facts all (Operated (Reg Add) (At q) (Name g)) o h is = absurd (let no : ⊥ = cc in no)
word_value globals m values facts all (Operated (Reg Add) (Number k) b) o h is = absurd (let no : ⊥ = cc in no)
word_value globals m values facts all (Operated (Reg Add) (Name g) b) o h is = absurd (let no : ⊥ = cc in no)
word_value globals m values facts all (Operated (Reg Sub) a b) o h is = absurd (let no : ⊥ = cc in no)
word_value globals m values facts all (Operated (Reg Sll) a b) o h is = absurd (let no : ⊥ = cc in no)
word_value globals m values facts all (Operated (Reg Slt) a b) o h is = absurd (let no : ⊥ = cc in no)
word_value globals m values facts all (Operated (Reg Sltu) a b) o h is = absurd (let no : ⊥ = cc in no)
word_value globals m values facts all (Operated (Reg Xor) a b) o h is = absurd (let no : ⊥ = cc in no)
word_value globals m values facts all (Operated (Reg Srl) a b) o h is = absurd (let no : ⊥ = cc in no)
word_value globals m values facts all (Operated (Reg Sra) a b) o h is = absurd (let no : ⊥ = cc in no)
word_value globals m values facts all (Operated (Reg Or) a b) o h is = absurd (let no : ⊥ = cc in no)
word_value globals m values facts all (Operated (Reg And) a b) o h is = absurd (let no : ⊥ = cc in no)
word_value globals m values facts all (Operated (Reg Mul) a b) o h is = absurd (let no : ⊥ = cc in no)
word_value globals m values facts all (Operated (Reg Mulh) a b) o h is = absurd (let no : ⊥ = cc in no)
word_value globals m values facts all (Operated (Reg Mulhsu) a b) o h is = absurd (let no : ⊥ = cc in no)
word_value globals m values facts all (Operated (Reg Mulhu) a b) o h is = absurd (let no : ⊥ = cc in no)
word_value globals m values facts all (Operated (Reg Div) a b) o h is = absurd (let no : ⊥ = cc in no)
word_value globals m values facts all (Operated (Reg Divu) a b) o h is = absurd (let no : ⊥ = cc in no)
word_value globals m values facts all (Operated (Reg Rem) a b) o h is = absurd (let no : ⊥ = cc in no)
word_value globals m values facts all (Operated (Reg Remu) a b) o h is = absurd (let no : ⊥ = cc in no)
word_value globals m values facts all (Operated (Compare on k) a b) o h is = absurd (let no : ⊥ = cc in no)
word_value globals m values facts all (Same (At q)) o h is = absurd (let no : ⊥ = cc in no)
word_value globals m values facts all (Same (Name g)) o h is = absurd (let no : ⊥ = cc in no)
word_value globals m values facts all (Extended back a k) o h is = absurd (let no : ⊥ = cc in no)
word_value globals m values facts all (Loaded op a d) o h is = absurd (let no : ⊥ = cc in no)
word_value globals m values facts all (Linear b i c q) o h is = absurd (let no : ⊥ = cc in no)
word_value globals m values facts all (Growing a n) o h is = absurd (let no : ⊥ = cc in no)

word_by_true : (globals : List Value) (m : Memory) (values : Values ℕ) (every facts : List Fact) → AreTrue globals m values every → AreTrue globals m values facts → (r : ℕ) → is_word_by every facts r ≡ true → IsWord (values r)
word_by_true globals m values every [] all some r h = absurd (let no : ⊥ = cc in no)
word_by_true globals m values every (f ∷ facts) all some r h = by (nat_eq f.register r && word_in every f.value) refl (word_by_true globals m values every facts all some.1 r) h
  where
    by : (b : Bool) → (nat_eq f.register r && word_in every f.value) ≡ b → (is_word_by every facts r ≡ true → IsWord (values r)) → (if b then true else is_word_by every facts r) ≡ true → IsWord (values r)
    by true e rest k =
        let s = and_parts (nat_eq f.register r) (word_in every f.value) e in
        subst (λ (j : ℕ). IsWord (values j)) (eqb-true f.register r s.0) (word_value globals m values every all f.value (values f.register) s.1 some.0)
    by false e rest k = rest k

word_true : (globals : List Value) (m : Memory) (values : Values ℕ) (facts : List Fact) → AreTrue globals m values facts → (r : ℕ) → is_word facts r ≡ true → IsWord (values r)
word_true globals m values facts all r h = word_by_true globals m values facts facts all all r h

-- ---- registers that grow

added_value : (globals : List Value) (m : Memory) (values : Values ℕ) (x : ℕ) (e : Expression) (n : ℕ) → added_to x e ≡ Some n → gives globals m values e ≡ Gives (operated m (Reg Add) (values x) (number n))
added_value globals m values x (Operated (Reg Add) (At q) (Number k)) n h = by (nat_eq q x) refl h
  where
    by : (b : Bool) → nat_eq q x ≡ b → (if b then Some k else None) ≡ Some n → gives globals m values (Operated (Reg Add) (At q) (Number k)) ≡ Gives (operated m (Reg Add) (values x) (number n))
    by true t h =
        let same : k ≡ n = cc in
        ap (λ (j : ℕ). Gives (operated m (Reg Add) (values j) (number k))) (eqb-true q x t) ∙ ap (λ (j : ℕ). Gives (operated m (Reg Add) (values x) (number j))) same
    by false t h = absurd (let no : ⊥ = cc in no)
added_value globals m values x (Operated (Reg Add) (At q) (At r)) n h = absurd (let no : ⊥ = cc in no)
added_value globals m values x (Operated (Reg Add) (At q) (Name g)) n h = absurd (let no : ⊥ = cc in no)
added_value globals m values x (Operated (Reg Add) (Number k) b) n h = absurd (let no : ⊥ = cc in no)
added_value globals m values x (Operated (Reg Add) (Name g) b) n h = absurd (let no : ⊥ = cc in no)
added_value globals m values x (Operated (Reg Sub) a b) n h = absurd (let no : ⊥ = cc in no)
added_value globals m values x (Operated (Reg Sll) a b) n h = absurd (let no : ⊥ = cc in no)
added_value globals m values x (Operated (Reg Slt) a b) n h = absurd (let no : ⊥ = cc in no)
added_value globals m values x (Operated (Reg Sltu) a b) n h = absurd (let no : ⊥ = cc in no)
added_value globals m values x (Operated (Reg Xor) a b) n h = absurd (let no : ⊥ = cc in no)
added_value globals m values x (Operated (Reg Srl) a b) n h = absurd (let no : ⊥ = cc in no)
added_value globals m values x (Operated (Reg Sra) a b) n h = absurd (let no : ⊥ = cc in no)
added_value globals m values x (Operated (Reg Or) a b) n h = absurd (let no : ⊥ = cc in no)
added_value globals m values x (Operated (Reg And) a b) n h = absurd (let no : ⊥ = cc in no)
added_value globals m values x (Operated (Reg Mul) a b) n h = absurd (let no : ⊥ = cc in no)
added_value globals m values x (Operated (Reg Mulh) a b) n h = absurd (let no : ⊥ = cc in no)
added_value globals m values x (Operated (Reg Mulhsu) a b) n h = absurd (let no : ⊥ = cc in no)
added_value globals m values x (Operated (Reg Mulhu) a b) n h = absurd (let no : ⊥ = cc in no)
added_value globals m values x (Operated (Reg Div) a b) n h = absurd (let no : ⊥ = cc in no)
added_value globals m values x (Operated (Reg Divu) a b) n h = absurd (let no : ⊥ = cc in no)
added_value globals m values x (Operated (Reg Rem) a b) n h = absurd (let no : ⊥ = cc in no)
added_value globals m values x (Operated (Reg Remu) a b) n h = absurd (let no : ⊥ = cc in no)
added_value globals m values x (Operated (RegW op) a b) n h = absurd (let no : ⊥ = cc in no)
added_value globals m values x (Operated (Compare on k) a b) n h = absurd (let no : ⊥ = cc in no)
added_value globals m values x (Same a) n h = absurd (let no : ⊥ = cc in no)
added_value globals m values x (Extended back a k) n h = absurd (let no : ⊥ = cc in no)
added_value globals m values x (Loaded op a d) n h = absurd (let no : ⊥ = cc in no)
added_value globals m values x (Linear b i c o) n h = absurd (let no : ⊥ = cc in no)
added_value globals m values x (Growing a k) n h = absurd (let no : ⊥ = cc in no)

ahead_true : (globals : List Value) (m : Memory) (values : Values ℕ) (facts : List Fact) → AreTrue globals m values facts → (x y n : ℕ) → ahead facts x y ≡ Some n → values y ≡ operated m (Reg Add) (values x) (number n)
ahead_true globals m values [] all x y n h = absurd (let no : ⊥ = cc in no)
ahead_true globals m values (f ∷ facts) all x y n h = by (if nat_eq f.register y then added_to x f.value else None) refl (ahead_true globals m values facts all.1 x y n) h
  where
    here : (b : Bool) → nat_eq f.register y ≡ b → (k : ℕ) → (if b then added_to x f.value else None) ≡ Some k → values y ≡ operated m (Reg Add) (values x) (number k)
    here true t k h =
        gives_one (values y) (operated m (Reg Add) (values x) (number k)) (ap (λ (j : ℕ). Gives (values j)) (sym (eqb-true f.register y t)) ∙ sym all.0 ∙ added_value globals m values x f.value k h)
    here false t k h = absurd (let no : ⊥ = cc in no)

    by : (o : Option ℕ) → (if nat_eq f.register y then added_to x f.value else None) ≡ o → (ahead facts x y ≡ Some n → values y ≡ operated m (Reg Add) (values x) (number n)) → first_of o (ahead facts x y) ≡ Some n → values y ≡ operated m (Reg Add) (values x) (number n)
    by (Some k) e rest h = here (nat_eq f.register y) refl n (e ∙ h)
    by None e rest h = rest h

growth_true : (globals : List Value) (m : Memory) (values : Values ℕ) (facts : List Fact) → AreTrue globals m values facts → (x : ℕ) (e : Expression) (n : ℕ) → growth facts x e ≡ Some n → gives globals m values e ≡ Gives (operated m (Reg Add) (values x) (number n))
growth_true globals m values facts all x (Same (At y)) n h = ap Gives (ahead_true globals m values facts all x y n h)
growth_true globals m values facts all x (Same (Number k)) n h = absurd (let no : ⊥ = cc in no)
growth_true globals m values facts all x (Same (Name g)) n h = absurd (let no : ⊥ = cc in no)
growth_true globals m values facts all x (Operated op a b) n h = added_value globals m values x (Operated op a b) n h
growth_true globals m values facts all x (Extended back a k) n h = absurd (let no : ⊥ = cc in no)
growth_true globals m values facts all x (Loaded op a d) n h = absurd (let no : ⊥ = cc in no)
growth_true globals m values facts all x (Linear b i c o) n h = absurd (let no : ⊥ = cc in no)
growth_true globals m values facts all x (Growing a k) n h = absurd (let no : ⊥ = cc in no)

-- ---- lines

-- a line that computes something does nothing else
computes : (globals : List Value) (m : Memory) (values : Values ℕ) (l : Line ℕ) (f : Fact) → computed l ≡ Some f → (act globals m values l ≡ gives globals m values f.value) × (line_writes l ≡ Some f.register)
computes globals m values (Set to a) f h = let same : record { register = to; value = Same a } ≡ f = cc in (ap (λ (x : Fact). gives globals m values x.value) same, ap (λ (x : Fact). Some x.register) same)
computes globals m values (Operate to op a b) f h =
    let same : record { register = to; value = Operated op a b } ≡ f = cc in (ap (λ (x : Fact). gives globals m values x.value) same, ap (λ (x : Fact). Some x.register) same)
computes globals m values (Load to op at) f h =
    let same : record { register = to; value = Loaded op at.base (distance at) } ≡ f = cc in (ap (λ (x : Fact). gives globals m values x.value) same, ap (λ (x : Fact). Some x.register) same)
computes globals m values (Tick turn w) f h = absurd (let no : ⊥ = cc in no)
computes globals m values (Store size a at) f h = absurd (let no : ⊥ = cc in no)
computes globals m values (Alloc to size) f h = absurd (let no : ⊥ = cc in no)
computes globals m values (Blit from to count) f h = absurd (let no : ⊥ = cc in no)
computes globals m values (Call to callee args) f h = absurd (let no : ⊥ = cc in no)

-- ---- a line that is made

holds_true : (globals : List Value) (m : Memory) (values : Values ℕ) (facts : List Fact) (r : ℕ) (e : Expression) → AreTrue globals m values facts → Holds facts r e → gives globals m values e ≡ Gives (values r)
holds_true globals m values facts r e all (Found is) = true_at globals m values facts is.0 (record { register = r; value = e }) all is.1
holds_true globals m values facts r e all (Already is) =
    let held = is.1.1 in
    itself_same globals m values is.0 e held.0 r is.1.0 held.1.1 (true_at globals m values facts held.1.0.0 (record { register = r; value = held.0 }) all held.1.0.1)
holds_true globals m values facts r e all (Counted {l = l} is found) =
    sym (linear_same globals m values facts all e l is) ∙ true_at globals m values facts found.0 (record { register = r; value = l }) all found.1

-- a register that is known to hold a sum holds it
adds_true : (globals : List Value) (m : Memory) (values : Values ℕ) (facts : List Fact) (op : Operation) (r : ℕ) (a b : Operand ℕ) → AreTrue globals m values facts → Adds facts op r a b → values r ≡ operated m op (value_of globals values a) (value_of globals values b)
adds_true globals m values facts op r a b all is =
    gives_one (values r) (operated m op (value_of globals values a) (value_of globals values b)) (sym (true_at globals m values facts is.0 (record { register = r; value = Operated op a b }) all is.1))

sum_true : (globals : List Value) (m : Memory) (values : Values ℕ) (facts : List Fact) (op : Operation) (r : ℕ) (a b : Operand ℕ) → is_sum op ≡ true → AreTrue globals m values facts → IsSum facts op r a b → values r ≡ operated m op (value_of globals values a) (value_of globals values b)
sum_true globals m values facts op r a b adds all (InOrder is) = adds_true globals m values facts op r a b all is
sum_true globals m values facts op r a b adds all (Turned is) = adds_true globals m values facts op r b a all is ∙ sum_turned m op adds (value_of globals values b) (value_of globals values a)

-- so a sum of three may be added in another order
regrouped_true : (globals : List Value) (m : Memory) (values : Values ℕ) (n : ℕ) (facts : List Fact) (op : Operation) (y part : ℕ) (added rest : Operand ℕ) → AreTrue globals m values facts → IsRegrouped n facts op (source facts y) added part rest
    → operated m op (values part) (value_of globals values rest) ≡ operated m op (values y) (value_of globals values added)
regrouped_true globals m values n facts op y part added rest all is =
    let a : Option Value = value_of globals values added in
    let o : Option Value = value_of globals values rest in
    let k : Option Value = value_of globals values is.kept in
    ap (λ (x : Option Value). operated m op x o)
    (sum_true globals m values facts op part is.kept (copied facts added) is.adds all is.known ∙ ap (λ (x : Option Value). operated m op k x) (copied_same globals m values facts all added))
    ∙ regrouped m op is.adds k a o
    ∙ ap (λ (x : Option Value). operated m op x a) (sym (sum_true globals m values facts op (source facts y) is.kept rest is.adds all is.sum) ∙ source_same globals m values facts all y)

-- so an extension that is shifted to the left is what it was halfway, shifted back by less
halfway_true : (globals : List Value) (m : Memory) (values : Values ℕ) (n : ℕ) (facts : List Fact) (y by whole rest : ℕ) → AreTrue globals m values facts → IsHalfway n facts (source facts y) by whole rest
    → operated m (Reg Srl) (values whole) (number rest) ≡ operated m (Reg Sll) (values y) (number by)
halfway_true globals m values n facts y by whole rest all is =
    let o : Option Value = value_of globals values is.operand in
    let held : values whole ≡ operated m (Reg Sll) o (number is.bits) =
    gives_one (values whole) (operated m (Reg Sll) o (number is.bits))
    (sym (true_at globals m values facts is.shifted.0 (record { register = whole; value = Operated (Reg Sll) is.operand (Number is.bits) }) all is.shifted.1))
    in
    let extended : values (source facts y) ≡ operated m (Reg Srl) (operated m (Reg Sll) o (number is.bits)) (number is.bits) =
    gives_one (values (source facts y)) (operated m (Reg Srl) (operated m (Reg Sll) o (number is.bits)) (number is.bits))
    (sym (true_at globals m values facts is.extended.0 (record { register = source facts y; value = Extended Srl is.operand is.bits }) all is.extended.1))
    in
    ap (λ (x : Option Value). operated m (Reg Srl) x (number rest)) held ∙ less_back m o is.bits by rest is.within is.fewer is.left
    ∙ ap (λ (x : Option Value). operated m (Reg Sll) x (number by)) (sym extended ∙ source_same globals m values facts all y)

made_same : (globals : List Value) (m : Memory) (values : Values ℕ) (n : ℕ) (facts : List Fact) (l k : Line ℕ) → AreTrue globals m values facts → Made n facts l k
    → (act globals m values k ≡ act globals m values l) × (line_writes k ≡ line_writes l)
made_same globals m values n facts l k all Itself = (refl, refl)
made_same globals m values n facts l k all (Copy {f = f} {r = r} is low known) =
    let does = computes globals m values l f is in (
      sym (holds_true globals m values facts r (canonical facts f.value) all known) ∙ canonical_same globals m values facts all f.value ∙ sym does.0,
      sym does.1,
    )
made_same globals m values n facts l k all (FirstRegrouped {op = op} {y = y} {part = part} {added = added} {rest = rest} is) = (ap Gives (regrouped_true globals m values n facts op y part added rest all is), refl)
made_same globals m values n facts l k all (SecondRegrouped {op = op} {y = y} {part = part} {added = added} {rest = rest} is) =
    (ap Gives (regrouped_true globals m values n facts op y part added rest all is ∙ sum_turned m op is.adds (values y) (value_of globals values added)), refl)
made_same globals m values n facts l k all (Halfway {y = y} {by = by} {whole = whole} {rest = rest} is) = (ap Gives (halfway_true globals m values n facts y by whole rest all is), refl)
made_same globals m values n facts l k all (Reloaded {to = to} {y = y} {k = number} {o = o} {op = op} {at = at} is) =
    let value : Expression = canonical facts (Operated o (At y) (Number number)) in (
      reloaded_same globals m values op value at.base (distance at) is.register is.extension
          (true_at globals m values facts is.loaded.0 (record { register = is.register; value = Loaded (other_way op) at.base (distance at) }) all is.loaded.1)
          ∙ canonical_same globals m values facts all (Operated o (At y) (Number number)),
      refl,
    )
made_same globals m values n facts l k all (Again {k = j} first second) =
    let one = made_same globals m values n facts l j all first in
    let other = made_same globals m values n facts j k all second in
    (other.0 ∙ one.0, other.1 ∙ one.1)
made_same globals m values n facts l k all (Narrow {size = size} {a = a} {at = at} {q = q} is low) = (by a is, refl)
  where
    by : (b : Operand ℕ) → IsNarrow facts size b q → act globals m values (Store size (At q) at) ≡ act globals m values (Store size b at)
    by (At r) here = narrow_same globals m values size here.1 q r at here.2.1 (true_at globals m values facts here.0 (record { register = r; value = here.1 }) all here.2.0)
    by (Number k) here = absurd here
    by (Name g) here = absurd here

-- ---- what a line leaves

-- an operand that doesn't name the register that is written
operand_spared : (globals : List Value) (values : Values ℕ) (r : ℕ) (o : Option Value) (a : Operand ℕ) → names r a ≡ false → SameIn globals values (written (Some r) o values) (λ x. x) a
operand_spared globals values r o (At q) h = unwritten (Some r) o values q (equal_turned r q ∙ h)
operand_spared globals values r o (Number n) h = refl
operand_spared globals values r o (Name g) h = refl

expression_spared : (globals : List Value) (values : Values ℕ) (r : ℕ) (o : Option Value) (e : Expression) → reads r e ≡ false → AllOf (SameIn globals values (written (Some r) o values) (λ x. x)) e
expression_spared globals values r o (Same a) h = operand_spared globals values r o a h
expression_spared globals values r o (Operated op a b) h = let s = or_parts (names r a) (names r b) h in (operand_spared globals values r o a s.0, operand_spared globals values r o b s.1)
expression_spared globals values r o (Extended back a n) h = operand_spared globals values r o a h
expression_spared globals values r o (Loaded op a d) h = operand_spared globals values r o a h
expression_spared globals values r o (Linear b i c q) h = let s = or_parts (names r b) (names r i) h in (operand_spared globals values r o b s.0, operand_spared globals values r o i s.1)
expression_spared globals values r o (Growing a n) h = operand_spared globals values r o a h

gives_spared : (globals : List Value) (m : Memory) (values : Values ℕ) (r : ℕ) (o : Option Value) (e : Expression) → reads r e ≡ false → gives globals m (written (Some r) o values) e ≡ gives globals m values e
gives_spared globals m values r o e h =
    ap (gives globals m (written (Some r) o values)) (sym (put_nothing e)) ∙ gives_same globals m values (written (Some r) o values) (λ x. x) e (expression_spared globals values r o e h)

fact_spared : (globals : List Value) (m : Memory) (values : Values ℕ) (to : Option ℕ) (o : Option Value) (f : Fact) → spares to f ≡ true → IsTrueOf globals m values f → IsTrueOf globals m (written to o values) f
fact_spared globals m values None o f h is = is
fact_spared globals m values (Some r) o f h is =
    let s = or_parts (nat_eq f.register r) (reads r f.value) (not-true (nat_eq f.register r || reads r f.value) h) in
    gives_spared globals m values r o f.value s.1 ∙ is ∙ ap Gives (sym (unwritten (Some r) o values f.register (equal_turned r f.register ∙ s.0)))

add_any : (m n : Memory) (u v : Value) → on_places m SumOf u v ≡ on_places n SumOf u v
add_any m n (Integer x) (Integer y) = refl
add_any m n (Integer x) (Pointer d y) = refl
add_any m n (Integer x) (Function h) = refl
add_any m n (Pointer b x) (Integer y) = refl
add_any m n (Pointer b x) (Pointer d y) = refl
add_any m n (Pointer b x) (Function h) = refl
add_any m n (Function g) (Integer y) = refl
add_any m n (Function g) (Pointer d y) = refl
add_any m n (Function g) (Function h) = refl

difference_any : (m n : Memory) (u v : Value) → on_places m DifferenceOf u v ≡ on_places n DifferenceOf u v
difference_any m n (Integer x) (Integer y) = refl
difference_any m n (Integer x) (Pointer d y) = refl
difference_any m n (Integer x) (Function h) = refl
difference_any m n (Pointer b x) (Integer y) = refl
difference_any m n (Pointer b x) (Pointer d y) = refl
difference_any m n (Pointer b x) (Function h) = refl
difference_any m n (Function g) (Integer y) = refl
difference_any m n (Function g) (Pointer d y) = refl
difference_any m n (Function g) (Function h) = refl

-- an operation on the machine asks no memory
reg_any : (m n : Memory) (op : RegOp) (u v : Value) → reg_on_places m op u v ≡ reg_on_places n op u v
reg_any m n Add u v = add_any m n u v
reg_any m n Sub u v = difference_any m n u v
reg_any m n Sll u v = refl
reg_any m n Slt u v = refl
reg_any m n Sltu u v = refl
reg_any m n Xor u v = refl
reg_any m n Srl u v = refl
reg_any m n Sra u v = refl
reg_any m n Or u v = refl
reg_any m n And u v = refl
reg_any m n Mul u v = refl
reg_any m n Mulh u v = refl
reg_any m n Mulhsu u v = refl
reg_any m n Mulhu u v = refl
reg_any m n Div u v = refl
reg_any m n Divu u v = refl
reg_any m n Rem u v = refl
reg_any m n Remu u v = refl

operate_any : (m n : Memory) (op : Operation) (u v : Value) → asks_memory (Operated op (Number 0) (Number 0)) ≡ false → operate m op u v ≡ operate n op u v
unfolding operate
operate_any m n (Reg op) (Integer a) (Integer b) h = refl
operate_any m n (Reg op) (Integer a) (Pointer b k) h = reg_any m n op (Integer a) (Pointer b k)
operate_any m n (Reg op) (Integer a) (Function g) h = reg_any m n op (Integer a) (Function g)
operate_any m n (Reg op) (Pointer b k) v h = reg_any m n op (Pointer b k) v
operate_any m n (Reg op) (Function g) v h = reg_any m n op (Function g) v
operate_any m n (RegW op) (Integer a) (Integer b) h = refl
operate_any m n (RegW op) (Integer a) (Pointer b k) h = refl
operate_any m n (RegW op) (Integer a) (Function g) h = refl
operate_any m n (RegW op) (Pointer b k) v h = refl
operate_any m n (RegW op) (Function g) v h = refl
operate_any m n (Compare on k) u v h = absurd (let no : ⊥ = cc in no)

operated_any : (m n : Memory) (op : Operation) (u v : Option Value) → asks_memory (Operated op (Number 0) (Number 0)) ≡ false → operated m op u v ≡ operated n op u v
operated_any m n op None v h = refl
operated_any m n op (Some u) None h = refl
operated_any m n op (Some u) (Some v) h = operate_any m n op u v h

asks_as : (op : Operation) (a b : Operand ℕ) → asks_memory (Operated op a b) ≡ asks_memory (Operated op (Number 0) (Number 0))
asks_as (Reg op) a b = refl
asks_as (RegW op) a b = refl
asks_as (Compare on k) a b = refl

memory_spared : (globals : List Value) (m n : Memory) (values : Values ℕ) (f : Fact) → asks_memory f.value ≡ false → IsTrueOf globals m values f → IsTrueOf globals n values f
memory_spared globals m n values f h is = from f.value h is
  where
    from : (e : Expression) → asks_memory e ≡ false → gives globals m values e ≡ Gives (values f.register) → gives globals n values e ≡ Gives (values f.register)
    from (Same a) h is = is
    from (Operated op a b) h is = ap Gives (sym (operated_any m n op (value_of globals values a) (value_of globals values b) (sym (asks_as op a b) ∙ h))) ∙ is
    from (Extended back a k) h is = ap Gives (sym twice) ∙ is
      where
        by : Option Value
        by = value_of globals values (Number k)

        twice : operated m (Reg back) (operated m (Reg Sll) (value_of globals values a) by) by ≡ operated n (Reg back) (operated n (Reg Sll) (value_of globals values a) by) by
        twice =
            operated_any m n (Reg back) (operated m (Reg Sll) (value_of globals values a) by) by refl ∙ ap (λ (x : Option Value). operated n (Reg back) x by) (operated_any m n (Reg Sll) (value_of globals values a) by refl)
    from (Loaded op a d) h is = absurd (let no : ⊥ = cc in no)
    from (Linear b i c q) h is = ap Gives (sym whole) ∙ is
      where
        base : Option Value
        base = value_of globals values b

        product : Memory → Option Value
        product x = operated x (Reg Mul) (value_of globals values i) (number c)

        whole : linear m base (value_of globals values i) c q ≡ linear n base (value_of globals values i) c q
        whole =
            operated_any m n (Reg Add) (operated m (Reg Add) base (product m)) (number q) refl ∙ ap (λ (x : Option Value). operated n (Reg Add) x (number q)) (operated_any m n (Reg Add) base (product m) refl)
            ∙ ap (λ (x : Option Value). operated n (Reg Add) (operated n (Reg Add) base x) (number q)) (operated_any m n (Reg Mul) (value_of globals values i) (number c) refl)
    from (Growing a k) h is = is

-- a line that changes no memory leaves what was there
unchanged : (globals : List Value) (m : Memory) (values : Values ℕ) (l : Line ℕ) (o : Option Value) (next : Memory) → changes_memory l ≡ false → MayLeave m (act globals m values l) o next → next ≡ m
unchanged globals m values (Tick turn w) o next h may = may
unchanged globals m values (Set to a) o next h may = may.1
unchanged globals m values (Operate to op a b) o next h may = may.1
unchanged globals m values (Load to op at) o next h may = from (option_and_then (loaded m op) (address_of globals m values at)) may
  where
    from : (x : Option Value) → MayLeave m (given x) o next → next ≡ m
    from None may = absurd may
    from (Some v) may = may.1
unchanged globals m values (Store size a at) o next h may = absurd (let no : ⊥ = cc in no)
unchanged globals m values (Alloc to size) o next h may = absurd (let no : ⊥ = cc in no)
unchanged globals m values (Blit from to count) o next h may = absurd (let no : ⊥ = cc in no)
unchanged globals m values (Call to callee args) o next h may = absurd (let no : ⊥ = cc in no)

fact_stays : (globals : List Value) (m : Memory) (values : Values ℕ) (l : Line ℕ) (o : Option Value) (next : Memory) (f : Fact) → MayLeave m (act globals m values l) o next → stays l f ≡ true → IsTrueOf globals m values f
    → IsTrueOf globals next (written (line_writes l) o values) f
fact_stays globals m values l o next f may h is =
    let s = and_parts (not (changes_memory l && asks_memory f.value)) (spares (line_writes l) f) h in
    fact_spared globals next values (line_writes l) o f s.1 (by (changes_memory l) (asks_memory f.value) refl refl s.0)
  where
    by : (a b : Bool) → changes_memory l ≡ a → asks_memory f.value ≡ b → not (a && b) ≡ true → IsTrueOf globals next values f
    by true true c d e = absurd (let no : ⊥ = cc in no)
    by true false c d e = memory_spared globals m next values f d is
    by false b c d e = subst (λ (x : Memory). IsTrueOf globals x values f) (sym (unchanged globals m values l o next c may)) is

all_stay : (globals : List Value) (m : Memory) (values : Values ℕ) (l : Line ℕ) (o : Option Value) (next : Memory) (facts : List Fact) → MayLeave m (act globals m values l) o next → AreTrue globals m values facts
    → AreTrue globals next (written (line_writes l) o values) (filter (stays l) facts)
all_stay globals m values l o next [] may all = tt
all_stay globals m values l o next (f ∷ facts) may all = by (stays l f) refl (all_stay globals m values l o next facts may all.1)
  where
    by : (b : Bool) → stays l f ≡ b → AreTrue globals next (written (line_writes l) o values) (filter (stays l) facts) → AreTrue globals next (written (line_writes l) o values) (if b then f ∷ filter (stays l) facts else filter (stays l) facts)
    by true e rest = (fact_stays globals m values l o next f may e all.0, rest)
    by false e rest = rest

-- a line that computes something gives that, and leaves memory
given_leaves : (m : Memory) (e : Act) (o : Option Value) (next : Memory) (f : Fact) (globals : List Value) (values : Values ℕ) → e ≡ gives globals m values f.value → MayLeave m e o next → (gives globals m values f.value ≡ Gives o) × (next ≡ m)
given_leaves m e o next f globals values is may = from f.value (subst (λ (a : Act). MayLeave m a o next) is may)
  where
    from : (x : Expression) → MayLeave m (gives globals m values x) o next → (gives globals m values x ≡ Gives o) × (next ≡ m)
    from (Same a) h = (ap Gives (sym h.0), h.1)
    from (Operated op a b) h = (ap Gives (sym h.0), h.1)
    from (Extended back a n) h = (ap Gives (sym h.0), h.1)
    from (Loaded op a d) h = loads (option_and_then (loaded m op) (reached globals m values a d)) h
      where
        loads : (x : Option Value) → MayLeave m (given x) o next → (given x ≡ Gives o) × (next ≡ m)
        loads None h = absurd h
        loads (Some v) h = (ap Gives (sym h.0), h.1)
    from (Linear b i c q) h = (ap Gives (sym h.0), h.1)
    from (Growing a n) h = grown (grows n (value_of globals values a)) h
      where
        grown : (b : Bool) → MayLeave m (only_if b (value_of globals values a)) o next → (only_if b (value_of globals values a) ≡ Gives o) × (next ≡ m)
        grown true h = (ap Gives (sym h.0), h.1)
        grown false h = absurd h

-- ---- what is linear, behind a line that adds a number to a register

increment_true : (globals : List Value) (m : Memory) (values : Values ℕ) (l : Line ℕ) (o : Option Value) (next : Memory) (facts : List Fact) (s : Increment) → AreTrue globals m values facts → MayLeave m (act globals m values l) o next → increment_by facts l ≡ Some s
    → (line_writes l ≡ Some s.register) × ((next ≡ m) × (o ≡ operated m (Reg Add) (values s.register) (number s.by)))
increment_true globals m values l o next facts s all may h = by (computed l) refl h
  where
    Does : Increment → Type 0
    Does x = (line_writes l ≡ Some x.register) × ((next ≡ m) × (o ≡ operated m (Reg Add) (values x.register) (number x.by)))

    grown : (f : Fact) → computed l ≡ Some f → (g : Option ℕ) → growth facts f.register (canonical facts f.value) ≡ g → option_map (λ n. record { register = f.register; by = n }) g ≡ Some s → Does s
    grown f e (Some n) k same =
        let does = computes globals m values l f e in
        let left = given_leaves m (act globals m values l) o next f globals values does.0 may in
        let is : record { register = f.register; by = n } ≡ s = cc in
        let sum : o ≡ operated m (Reg Add) (values f.register) (number n) =
        gives_one o (operated m (Reg Add) (values f.register) (number n)) (sym left.0 ∙ sym (canonical_same globals m values facts all f.value) ∙ growth_true globals m values facts all f.register (canonical facts f.value) n k)
        in
        subst Does is (does.1, (left.1, sum))
    grown f e None k same = absurd (let no : ⊥ = cc in no)

    by : (c : Option Fact) → computed l ≡ c → option_and_then (increment_of facts) c ≡ Some s → Does s
    by None e h = absurd (let no : ⊥ = cc in no)
    by (Some f) e h = grown f e (growth facts f.register (canonical facts f.value)) refl h

-- the index grew, and its register took the sum
index_moves : (globals : List Value) (m : Memory) (values : Values ℕ) (x n r : ℕ) (b : Operand ℕ) (c q : ℕ) (o : Option Value) → o ≡ operated m (Reg Add) (values x) (number n) → names x b ≡ false → nat_eq r x ≡ false → gives globals m values (Linear b (At x) c q) ≡ Gives (values r)
    → IsTrueOf globals m (written (Some x) o values) (with_offset r b x c (behind q n c))
index_moves globals m values x n r b c q o sum spared other is =
    ap (λ (v : Option Value). Gives (linear m v (written (Some x) o values x) c (behind q n c))) (operand_spared globals values x o b spared)
    ∙ ap (λ (v : Option Value). Gives (linear m (value_of globals values b) v c (behind q n c))) (now_holds x o values ∙ sum)
    ∙ ap Gives (index_grows m (value_of globals values b) (values x) c q n) ∙ is ∙ ap Gives (sym (unwritten (Some x) o values r (equal_turned x r ∙ other)))

-- the register itself grew
whole_moves : (globals : List Value) (m : Memory) (values : Values ℕ) (x n i : ℕ) (b : Operand ℕ) (c q : ℕ) (o : Option Value) → o ≡ operated m (Reg Add) (values x) (number n) → names x b ≡ false → nat_eq i x ≡ false → gives globals m values (Linear b (At i) c q) ≡ Gives (values x)
    → IsTrueOf globals m (written (Some x) o values) (with_offset x b i c (further q n))
whole_moves globals m values x n i b c q o sum spared other is =
    ap (λ (v : Option Value). Gives (linear m v (written (Some x) o values i) c (further q n))) (operand_spared globals values x o b spared)
    ∙ ap (λ (v : Option Value). Gives (linear m (value_of globals values b) v c (further q n))) (unwritten (Some x) o values i (equal_turned x i ∙ other))
    ∙ ap Gives (sym (whole_grows m (operated m (Reg Add) (value_of globals values b) (operated m (Reg Mul) (values i) (number c))) q n))
    ∙ ap (λ (v : Option Value). Gives (operated m (Reg Add) v (number n))) (gives_one (linear m (value_of globals values b) (values i) c q) (values x) is) ∙ ap Gives (sym sum ∙ sym (now_holds x o values))

moves : (globals : List Value) (m : Memory) (values : Values ℕ) (s : Increment) (r : ℕ) (b : Operand ℕ) (i c q : ℕ) (o : Option Value) (g : Fact) → o ≡ operated m (Reg Add) (values s.register) (number s.by) → gives globals m values (Linear b (At i) c q) ≡ Gives (values r)
    → moved_linear s r b i c q ≡ Some g → IsTrueOf globals m (written (Some s.register) o values) g
moves globals m values s r b i c q o g sum is h = outer (names s.register b) (nat_eq i s.register) (nat_eq r s.register) refl refl refl h
  where
    Behind : Fact → Type 0
    Behind k = IsTrueOf globals m (written (Some s.register) o values) k

    outer : (named index whole : Bool) → names s.register b ≡ named → nat_eq i s.register ≡ index → nat_eq r s.register ≡ whole
        → (if named || (index && whole) then None else (if index then Some (with_offset r b i c (behind q s.by c)) else (if whole then Some (with_offset r b i c (further q s.by)) else None))) ≡ Some g → Behind g
    outer true index whole e f k h = absurd (let no : ⊥ = cc in no)
    outer false true true e f k h = absurd (let no : ⊥ = cc in no)
    outer false true false e f k h =
        let same : with_offset r b i c (behind q s.by c) ≡ g = cc in
        let here : i ≡ s.register = eqb-true i s.register f in
        subst Behind same
        (subst (λ (j : ℕ). Behind (with_offset r b j c (behind q s.by c))) (sym here)
        (index_moves globals m values s.register s.by r b c q o sum e k (subst (λ (j : ℕ). gives globals m values (Linear b (At j) c q) ≡ Gives (values r)) here is)))
    outer false false true e f k h =
        let same : with_offset r b i c (further q s.by) ≡ g = cc in
        let here : r ≡ s.register = eqb-true r s.register k in
        subst Behind same
        (subst (λ (j : ℕ). Behind (with_offset j b i c (further q s.by))) (sym here)
        (whole_moves globals m values s.register s.by i b c q o sum e f (subst (λ (j : ℕ). gives globals m values (Linear b (At i) c q) ≡ Gives (values j)) here is)))
    outer false false false e f k h = absurd (let no : ⊥ = cc in no)

moved_true : (globals : List Value) (m : Memory) (values : Values ℕ) (s : Increment) (f : Fact) (o : Option Value) (g : Fact) → o ≡ operated m (Reg Add) (values s.register) (number s.by) → IsTrueOf globals m values f → moved s f.register f.value ≡ Some g
    → IsTrueOf globals m (written (Some s.register) o values) g
moved_true globals m values s f o g sum is h = from f.value is h
  where
    from : (e : Expression) → gives globals m values e ≡ Gives (values f.register) → moved s f.register e ≡ Some g → IsTrueOf globals m (written (Some s.register) o values) g
    from (Linear b (At i) c q) is h = moves globals m values s f.register b i c q o g sum is h
    from (Linear b (Number k) c q) is h = absurd (let no : ⊥ = cc in no)
    from (Linear b (Name k) c q) is h = absurd (let no : ⊥ = cc in no)
    from (Same a) is h = absurd (let no : ⊥ = cc in no)
    from (Operated op a b) is h = absurd (let no : ⊥ = cc in no)
    from (Extended back a k) is h = absurd (let no : ⊥ = cc in no)
    from (Loaded op a d) is h = absurd (let no : ⊥ = cc in no)
    from (Growing a n) is h = absurd (let no : ⊥ = cc in no)

carried_true : (globals : List Value) (m : Memory) (values : Values ℕ) (l : Line ℕ) (o : Option Value) (next : Memory) (s : Increment) (facts : List Fact) → line_writes l ≡ Some s.register → next ≡ m → o ≡ operated m (Reg Add) (values s.register) (number s.by) → MayLeave m (act globals m values l) o next
    → AreTrue globals m values facts → AreTrue globals next (written (line_writes l) o values) (carried s l facts)
carried_true globals m values l o next s [] writes same sum may all = tt
carried_true globals m values l o next s (f ∷ facts) writes same sum may all =
    by (moved s f.register f.value) refl (carried_true globals m values l o next s facts writes same sum may all.1)
  where
    Behind : List Fact → Type 0
    Behind fs = AreTrue globals next (written (line_writes l) o values) fs

    unmoved : (b : Bool) → stays l f ≡ b → Behind (carried s l facts) → Behind (with_front (if b then Some f else None) (carried s l facts))
    unmoved true e rest = (fact_stays globals m values l o next f may e all.0, rest)
    unmoved false e rest = rest

    by : (g : Option Fact) → moved s f.register f.value ≡ g → Behind (carried s l facts) → Behind (with_front (first_of g (if_stays l f)) (carried s l facts))
    by (Some g) e rest = (
      subst (λ (x : Memory). IsTrueOf globals x (written (line_writes l) o values) g) (sym same)
          (subst (λ (to : Option ℕ). IsTrueOf globals m (written to o values) g) (sym writes) (moved_true globals m values s f o g sum all.0 e)),
      rest,
    )
    by None e rest = unmoved (stays l f) refl rest

kept_true : (globals : List Value) (m : Memory) (values : Values ℕ) (l : Line ℕ) (o : Option Value) (next : Memory) (facts : List Fact) → MayLeave m (act globals m values l) o next → AreTrue globals m values facts → AreTrue globals next (written (line_writes l) o values) (kept (increment_by facts l) l facts)
kept_true globals m values l o next facts may all = by (increment_by facts l) refl
  where
    by : (s : Option Increment) → increment_by facts l ≡ s → AreTrue globals next (written (line_writes l) o values) (kept s l facts)
    by None e = all_stay globals m values l o next facts may all
    by (Some s) e = let does = increment_true globals m values l o next facts s all may e in carried_true globals m values l o next s facts does.0 does.1.0 does.1.1 may all

-- ---- what a line makes known is true behind it

abbrev TrueIf : List Value → Memory → Values ℕ → Option Fact → Type 0
TrueIf globals m values None = Unit {0}
TrueIf globals m values (Some f) = IsTrueOf globals m values f

known_true : (globals : List Value) (m : Memory) (values : Values ℕ) (l : Line ℕ) (o : Option Value) (next : Memory) (facts : List Fact) → AreTrue globals m values facts → MayLeave m (act globals m values l) o next
    → TrueIf globals next (written (line_writes l) o values) (known_by facts l)
known_true globals m values l o next facts all may = by (computed l) refl
  where
    is_known : (f : Fact) → computed l ≡ Some f → (b : Bool) → reads f.register (canonical facts f.value) ≡ b
        → (p : Bool) → TrueIf globals next (written (line_writes l) o values) (if b || p then None else Some (record { register = f.register; value = canonical facts f.value }))
    is_known f e true h p = tt
    is_known f e false h true = tt
    is_known f e false h false =
        let does = computes globals m values l f e in
        let left = given_leaves m (act globals m values l) o next f globals values does.0 may in
        subst (λ (to : Option ℕ). IsTrueOf globals next (written to o values) (record { register = f.register; value = canonical facts f.value })) (sym does.1)
        (subst (λ (x : Memory). IsTrueOf globals x (written (Some f.register) o values) (record { register = f.register; value = canonical facts f.value })) (sym left.1)
        (gives_spared globals m values f.register o (canonical facts f.value) h ∙ canonical_same globals m values facts all f.value ∙ left.0 ∙ ap Gives (sym (now_holds f.register o values))))

    by : (c : Option Fact) → computed l ≡ c
        → TrueIf globals next (written (line_writes l) o values) (option_and_then (λ f. kept_fact (record { register = f.register; value = canonical facts f.value })) c)
    by None e = tt
    by (Some f) e = is_known f e (reads f.register (canonical facts f.value)) refl (is_plain (canonical facts f.value))

-- ... of an expression that doesn't read the register
now_true : (globals : List Value) (m : Memory) (values : Values ℕ) (r : ℕ) (o : Option Value) (e : Expression) → reads r e ≡ false → gives globals m values e ≡ Gives o → IsTrueOf globals m (written (Some r) o values) (record { register = r; value = e })
now_true globals m values r o e h is = gives_spared globals m values r o e h ∙ is ∙ ap Gives (sym (now_holds r o values))

linear_true : (globals : List Value) (m : Memory) (values : Values ℕ) (r : ℕ) (o : Option Value) (facts : List Fact) → AreTrue globals m values facts → (e : Expression) → gives globals m values e ≡ Gives o → (g : Fact) → linear_note facts r e ≡ Some g → IsTrueOf globals m (written (Some r) o values) g
linear_true globals m values r o facts all e is g h = by (linear_in facts e) refl h
  where
    noted_if : (l : Expression) → linear_in facts e ≡ Some l → (b : Bool) → reads r l ≡ b → (p : Bool) → (if b || p then None else Some (record { register = r; value = l })) ≡ Some g → IsTrueOf globals m (written (Some r) o values) g
    noted_if l k true t p h = absurd (let no : ⊥ = cc in no)
    noted_if l k false t true h = absurd (let no : ⊥ = cc in no)
    noted_if l k false t false h =
        let same : record { register = r; value = l } ≡ g = cc in
        subst (IsTrueOf globals m (written (Some r) o values)) same (now_true globals m values r o l t (linear_same globals m values facts all e l k ∙ is))

    by : (x : Option Expression) → linear_in facts e ≡ x → option_and_then (λ l. kept_fact (record { register = r; value = l })) x ≡ Some g → IsTrueOf globals m (written (Some r) o values) g
    by None k h = absurd (let no : ⊥ = cc in no)
    by (Some l) k h = noted_if l k (reads r l) refl (is_plain l) h

noted_true : (globals : List Value) (m : Memory) (values : Values ℕ) (facts : List Fact) → AreTrue globals m values facts → (f : Fact) (o : Option Value) → gives globals m values f.value ≡ Gives o → TrueIf globals m (written (Some f.register) o values) (noted facts f)
noted_true globals m values facts all f o is = by (linear_note facts f.register (canonical facts f.value)) refl
  where
    by : (g : Option Fact) → linear_note facts f.register (canonical facts f.value) ≡ g → TrueIf globals m (written (Some f.register) o values) g
    by (Some g) e = linear_true globals m values f.register o facts all (canonical facts f.value) (canonical_same globals m values facts all f.value ∙ is) g e
    by None e = tt

other_true : (globals : List Value) (m : Memory) (values : Values ℕ) (l : Line ℕ) (o : Option Value) (next : Memory) (facts : List Fact) → AreTrue globals m values facts → MayLeave m (act globals m values l) o next
    → TrueIf globals next (written (line_writes l) o values) (other_by facts l)
other_true globals m values l o next facts all may = by (computed l) refl
  where
    by : (c : Option Fact) → computed l ≡ c → TrueIf globals next (written (line_writes l) o values) (option_and_then (noted facts) c)
    by None e = tt
    by (Some f) e =
        let does = computes globals m values l f e in
        let left = given_leaves m (act globals m values l) o next f globals values does.0 may in
        subst (λ (to : Option ℕ). TrueIf globals next (written to o values) (noted facts f)) (sym does.1)
        (subst (λ (x : Memory). TrueIf globals x (written (Some f.register) o values) (noted facts f)) (sym left.1) (noted_true globals m values facts all f o left.0))

one_more : (globals : List Value) (m : Memory) (values : Values ℕ) (facts : List Fact) (f : Fact) → AreTrue globals m values facts → IsTrueOf globals m values f → AreTrue globals m values (facts ++ f ∷ [])
one_more globals m values [] f all is = (is, tt)
one_more globals m values (g ∷ facts) f all is = (all.0, one_more globals m values facts f all.1 is)

with_true : (globals : List Value) (m : Memory) (values : Values ℕ) (facts : List Fact) (o : Option Fact) → AreTrue globals m values facts → TrueIf globals m values o → AreTrue globals m values (with_fact o facts)
with_true globals m values facts None all is = all
with_true globals m values facts (Some f) all is = by (nat_lt (length facts) 64)
  where
    by : (b : Bool) → AreTrue globals m values (if b then facts ++ f ∷ [] else facts)
    by true = one_more globals m values facts f all is
    by false = all

true_after : (globals : List Value) (m : Memory) (values : Values ℕ) (l : Line ℕ) (o : Option Value) (next : Memory) (facts : List Fact) → AreTrue globals m values facts → MayLeave m (act globals m values l) o next
    → AreTrue globals next (written (line_writes l) o values) (after l facts)
true_after globals m values l o next facts all may =
    with_true globals next (written (line_writes l) o values) (with_fact (known_by facts l) (kept (increment_by facts l) l facts)) (other_by facts l)
    (with_true globals next (written (line_writes l) o values) (kept (increment_by facts l) l facts) (known_by facts l) (kept_true globals m values l o next facts may all) (known_true globals m values l o next facts all may))
    (other_true globals m values l o next facts all may)

-- ---- the code follows

-- besides, marked registers hold whole words
abbrev known : List Bool → List (List Fact) → About
known marks claims = record { Known = List Fact; hold = λ facts globals memory values. AreTrue globals memory values facts × AreWhole marks values; at_start = claims_at claims }

writes_same : (n : ℕ) (facts : List Fact) (l k : Line ℕ) → Made n facts l k → line_writes k ≡ line_writes l
writes_same n facts l k Itself = refl
writes_same n facts l k (Narrow is low) = refl
writes_same n facts l k (FirstRegrouped is) = refl
writes_same n facts l k (SecondRegrouped is) = refl
writes_same n facts l k (Halfway is) = refl
writes_same n facts l k (Reloaded is) = refl
writes_same n facts l k (Again {k = j} first second) = writes_same n facts j k second ∙ writes_same n facts l j first
writes_same n facts l k (Copy {f = f} is low known) = sym (computes [] [] (λ r. None) l f is).1

line_follows : (marks : List Bool) (claims : List (List Fact)) (n : ℕ) (facts : List Fact) (l k : Line ℕ) → keeps_marks marks l ≡ true → Made n facts l k → Alike (claimed (known marks claims)) facts (after k facts) l k
line_follows marks claims n facts l k keeps made =
    fact_line (known marks claims) facts (after k facts) l k (writes_same n facts l k made)
    (λ globals memory values all works. (made_same globals memory values n facts l k all.0 made).0)
    (λ globals memory values all o next may. (
      subst (λ (x : Option ℕ). AreTrue globals next (written x o values) (after k facts)) (made_same globals memory values n facts l k all.0 made).1
          (true_after globals memory values k o next facts all.0 (subst (λ (a : Act). MayLeave memory a o next) (sym (made_same globals memory values n facts l k all.0 made).0) may)),
      line_whole marks globals memory next values l o keeps all.1 may,
    ))

-- ---- what a jump says

-- no two values that aren't both numbers compare so
record Signed (on : Condition) : Type 0 where
  apart : where_different on ≡ None
  offsets : (o q : ℕ) → on_offsets on o q ≡ None
  functions : (s : Bool) → on_functions on s ≡ None

-- whether two numbers compare so as ones of the class
abbrev compare_as : Condition → Class → (a b : ℕ) → Bool
compare_as on W a b = holds on W (a % 2 ^ 32) (b % 2 ^ 32)
compare_as on L a b = holds on L a b

-- two values that are numbers, and whether they compare so
record Numbers (on : Condition) (k : Class) (u v : Option Value) (n : ℕ) : Type 0 where
  left : ℕ
  right : ℕ
  first : u ≡ Some (Integer left)
  second : v ≡ Some (Integer right)
  answer : n ≡ truth (compare_as on k left right)

words_compared : (m : Memory) (on : Condition) (u v : Option Value) (n : ℕ) → operated m (Compare on W) u v ≡ Some (Integer n) → Numbers on W u v n
unfolding operate operate_two
words_compared m on (Some (Integer a)) (Some (Integer b)) n h =
    record { left = a; right = b; first = refl; second = refl; answer = by (truth (holds on W (a % 2 ^ 32) (b % 2 ^ 32))) h }
  where
    by : (k : ℕ) → Some (Integer k) ≡ Some (Integer n) → n ≡ k
    by k e = cc
words_compared m on (Some (Integer a)) (Some (Pointer b o)) n h = absurd (let no : ⊥ = cc in no)
words_compared m on (Some (Integer a)) (Some (Function g)) n h = absurd (let no : ⊥ = cc in no)
words_compared m on (Some (Integer a)) None n h = absurd (let no : ⊥ = cc in no)
words_compared m on (Some (Pointer b o)) None n h = absurd (let no : ⊥ = cc in no)
words_compared m on (Some (Pointer b o)) (Some v) n h = absurd (let no : ⊥ = cc in no)
words_compared m on (Some (Function f)) None n h = absurd (let no : ⊥ = cc in no)
words_compared m on (Some (Function f)) (Some v) n h = absurd (let no : ⊥ = cc in no)
words_compared m on None v n h = absurd (let no : ⊥ = cc in no)

if_none : (t : Bool) (x y : Option Bool) → x ≡ None → y ≡ None → (if t then x else y) ≡ None
if_none true x y e f = e
if_none false x y e f = f

pointers_none : (m : Memory) (on : Condition) → Signed on → (a o b q : ℕ) → compare_pointers m on a o b q ≡ None
pointers_none m on is a o b q =
    if_none (nat_eq a b) (if reaches m a o && reaches m b q then on_offsets on o q else None) (if lies_in m a o && lies_in m b q then where_different on else None)
    (if_none (reaches m a o && reaches m b q) (on_offsets on o q) None (is.offsets o q) refl) (if_none (lies_in m a o && lies_in m b q) (where_different on) None is.apart refl)

zero_none : (m : Memory) (on : Condition) → Signed on → (n b o : ℕ) → compare_with_zero m on n b o ≡ None
zero_none m on is n b o = if_none (nat_eq n 0 && reaches m b o) (where_different on) None is.apart refl

never : (o : Option Bool) (n : ℕ) → o ≡ None → option_map (λ (t : Bool). Integer (truth t)) o ≡ Some (Integer n) → ⊥
never None n e h = let no : ⊥ = cc in no
never (Some t) n e h = let no : ⊥ = cc in no

longs_compared : (m : Memory) (on : Condition) → Signed on → (u v : Option Value) (n : ℕ) → operated m (Compare on L) u v ≡ Some (Integer n) → Numbers on L u v n
unfolding operate operate_two
longs_compared m on is (Some (Integer a)) (Some (Integer b)) n h =
    record { left = a; right = b; first = refl; second = refl; answer = by (truth (holds on L a b)) h }
  where
    by : (k : ℕ) → Some (Integer k) ≡ Some (Integer n) → n ≡ k
    by k e = cc
longs_compared m on is (Some (Integer a)) (Some (Pointer b o)) n h = absurd (never (compare_with_zero m on a b o) n (zero_none m on is a b o) h)
longs_compared m on is (Some (Integer a)) (Some (Function g)) n h = absurd (let no : ⊥ = cc in no)
longs_compared m on is (Some (Pointer b o)) (Some (Integer a)) n h = absurd (never (compare_with_zero m on a b o) n (zero_none m on is a b o) h)
longs_compared m on is (Some (Pointer a o)) (Some (Pointer b q)) n h = absurd (never (compare_pointers m on a o b q) n (pointers_none m on is a o b q) h)
longs_compared m on is (Some (Pointer b o)) (Some (Function g)) n h = absurd (let no : ⊥ = cc in no)
longs_compared m on is (Some (Function f)) (Some (Integer a)) n h = absurd (let no : ⊥ = cc in no)
longs_compared m on is (Some (Function f)) (Some (Pointer b o)) n h = absurd (let no : ⊥ = cc in no)
longs_compared m on is (Some (Function f)) (Some (Function g)) n h = absurd (never (on_functions on (same_callee f g)) n (is.functions (same_callee f g)) h)
longs_compared m on is (Some (Integer a)) None n h = absurd (let no : ⊥ = cc in no)
longs_compared m on is (Some (Pointer b o)) None n h = absurd (let no : ⊥ = cc in no)
longs_compared m on is (Some (Function f)) None n h = absurd (let no : ⊥ = cc in no)
longs_compared m on is None v n h = absurd (let no : ⊥ = cc in no)

compared : (m : Memory) (on : Condition) → Signed on → (k : Class) (u v : Option Value) (n : ℕ) → operated m (Compare on k) u v ≡ Some (Integer n) → Numbers on k u v n
compared m on is W u v n h = words_compared m on u v n h
compared m on is L u v n h = longs_compared m on is u v n h

it_holds : (t : Bool) (n : ℕ) → n ≡ truth t → nat_eq n 0 ≡ false → t ≡ true
it_holds true n is some = refl
it_holds false n is some = absurd (let no : nat_eq 0 0 ≡ false = ap (λ (k : ℕ). nat_eq k 0) (sym is) ∙ some in let never : ⊥ = cc in never)

it_fails : (t : Bool) (n : ℕ) → n ≡ truth t → nat_eq n 0 ≡ true → t ≡ false
it_fails false n is none = refl
it_fails true n is none = absurd (let no : nat_eq 1 0 ≡ true = ap (λ (k : ℕ). nat_eq k 0) (sym is) ∙ none in let never : ⊥ = cc in never)

not_at_most : (x y : ℤ) → int_le y x ≡ false → int_lt x y ≡ true
not_at_most x y h = grind (arith, ints)

no_more : (x y : ℤ) → int_le y x ≡ true → int_lt x y ≡ false
no_more x y h = grind (arith, ints)

-- what an order that is not strict says of the strict one
fails_strictly : (k : Class) (a b : ℕ) → compare_as SignedLessEqual k b a ≡ false → is_less k a b ≡ true
fails_strictly W a b h = not_at_most (cast_signed w32 (a % 2 ^ 32)) (cast_signed w32 (b % 2 ^ 32)) h
fails_strictly L a b h = not_at_most (cast_signed w64 a) (cast_signed w64 b) h

holds_weakly : (k : Class) (a b : ℕ) → compare_as SignedLessEqual k b a ≡ true → is_less k a b ≡ false
holds_weakly W a b h = no_more (cast_signed w32 (a % 2 ^ 32)) (cast_signed w32 (b % 2 ^ 32)) h
holds_weakly L a b h = no_more (cast_signed w64 a) (cast_signed w64 b) h

as_less : (k : Class) (a b : ℕ) → compare_as SignedLess k a b ≡ is_less k a b
as_less W a b = refl
as_less L a b = refl

as_more : (k : Class) (a b : ℕ) → compare_as SignedGreater k a b ≡ is_less k b a
as_more W a b = refl
as_more L a b = refl

as_most : (k : Class) (a b : ℕ) → compare_as SignedGreaterEqual k a b ≡ compare_as SignedLessEqual k b a
as_most W a b = refl
as_most L a b = refl

abbrev Ordered : List Value → Values ℕ → Option Order → Type 0
Ordered globals values None = Unit {0}
Ordered globals values (Some o) = Less o.class (value_of globals values o.less) (value_of globals values o.more)

-- what isn't less than a number, or not more
least_ordered : (globals : List Value) (values : Values ℕ) (k : Class) (a b : Operand ℕ) (x y : ℕ) → value_of globals values a ≡ Some (Integer x) → value_of globals values b ≡ Some (Integer y) → is_less k x y ≡ false → Ordered globals values (at_least k a b)
least_ordered globals values k a (Number n) x y e f h = by (is_least k n) refl
  where
    by : (t : Bool) → is_least k n ≡ t → Ordered globals values (if t then None else order_of k (Number (before n)) a)
    by true t = tt
    by false t =
        let same : y ≡ n % 2 ^ 64 = cc in
        record { left = before n % 2 ^ 64; right = x; first = refl; second = e; less = more_than_before k x n t (subst (λ (z : ℕ). is_less k x z ≡ false) same h) }
least_ordered globals values k a (At r) x y e f h = tt
least_ordered globals values k a (Name g) x y e f h = tt

most_ordered : (globals : List Value) (values : Values ℕ) (k : Class) (a b : Operand ℕ) (x y : ℕ) → value_of globals values a ≡ Some (Integer x) → value_of globals values b ≡ Some (Integer y) → is_less k y x ≡ false → Ordered globals values (at_most k a b)
most_ordered globals values k a (Number n) x y e f h = by (is_most k n) refl
  where
    by : (t : Bool) → is_most k n ≡ t → Ordered globals values (if t then None else order_of k a (Number (next n)))
    by true t = tt
    by false t =
        let same : y ≡ n % 2 ^ 64 = cc in
        record { left = x; right = next n % 2 ^ 64; first = e; second = refl; less = less_than_next k x n t (subst (λ (z : ℕ). is_less k z x ≡ false) same h) }
most_ordered globals values k a (At r) x y e f h = tt
most_ordered globals values k a (Name g) x y e f h = tt

module _ (globals : List Value) (m : Memory) (values : Values ℕ) (k : Class) (a b : Operand ℕ) where
  abbrev comparing : Condition → Option Value
  comparing on = operated m (Compare on k) (value_of globals values a) (value_of globals values b)

  numbers : (on : Condition) → Signed on → (n : ℕ) → comparing on ≡ Some (Integer n) → Numbers on k (value_of globals values a) (value_of globals values b) n
  numbers on is n h = compared m on is k (value_of globals values a) (value_of globals values b) n h

  met_true : (on : Condition) (n : ℕ) → comparing on ≡ Some (Integer n) → nat_eq n 0 ≡ false → Ordered globals values (order_met on k a b)
  met_true SignedLess n h some =
      let is = numbers SignedLess (record { apart = refl; offsets = λ o q. refl; functions = λ s. refl }) n h in
      record { left = is.left; right = is.right; first = is.first; second = is.second; less = sym (as_less k is.left is.right) ∙ it_holds (compare_as SignedLess k is.left is.right) n is.answer some }
  met_true SignedGreater n h some =
      let is = numbers SignedGreater (record { apart = refl; offsets = λ o q. refl; functions = λ s. refl }) n h in
      record { left = is.right; right = is.left; first = is.second; second = is.first; less = sym (as_more k is.left is.right) ∙ it_holds (compare_as SignedGreater k is.left is.right) n is.answer some }
  met_true SignedGreaterEqual n h some =
      let is = numbers SignedGreaterEqual (record { apart = refl; offsets = λ o q. refl; functions = λ s. refl }) n h in
      least_ordered globals values k a b is.left is.right is.first is.second
      (holds_weakly k is.left is.right (sym (as_most k is.left is.right) ∙ it_holds (compare_as SignedGreaterEqual k is.left is.right) n is.answer some))
  met_true SignedLessEqual n h some =
      let is = numbers SignedLessEqual (record { apart = refl; offsets = λ o q. refl; functions = λ s. refl }) n h in
      most_ordered globals values k a b is.left is.right is.first is.second (holds_weakly k is.right is.left (it_holds (compare_as SignedLessEqual k is.left is.right) n is.answer some))
  met_true Equal n h some = tt
  met_true NotEqual n h some = tt
  met_true UnsignedLessEqual n h some = tt
  met_true UnsignedLess n h some = tt
  met_true UnsignedGreaterEqual n h some = tt
  met_true UnsignedGreater n h some = tt

  missed_true : (on : Condition) (n : ℕ) → comparing on ≡ Some (Integer n) → nat_eq n 0 ≡ true → Ordered globals values (order_missed on k a b)
  missed_true SignedGreaterEqual n h none =
      let is = numbers SignedGreaterEqual (record { apart = refl; offsets = λ o q. refl; functions = λ s. refl }) n h in
      record {
        left = is.left;
        right = is.right;
        first = is.first;
        second = is.second;
        less = fails_strictly k is.left is.right (sym (as_most k is.left is.right) ∙ it_fails (compare_as SignedGreaterEqual k is.left is.right) n is.answer none);
      }
  missed_true SignedLessEqual n h none =
      let is = numbers SignedLessEqual (record { apart = refl; offsets = λ o q. refl; functions = λ s. refl }) n h in
      record { left = is.right; right = is.left; first = is.second; second = is.first; less = fails_strictly k is.right is.left (it_fails (compare_as SignedLessEqual k is.left is.right) n is.answer none) }
  missed_true SignedLess n h none =
      let is = numbers SignedLess (record { apart = refl; offsets = λ o q. refl; functions = λ s. refl }) n h in
      least_ordered globals values k a b is.left is.right is.first is.second (sym (as_less k is.left is.right) ∙ it_fails (compare_as SignedLess k is.left is.right) n is.answer none)
  missed_true SignedGreater n h none =
      let is = numbers SignedGreater (record { apart = refl; offsets = λ o q. refl; functions = λ s. refl }) n h in
      most_ordered globals values k a b is.left is.right is.first is.second (sym (as_more k is.left is.right) ∙ it_fails (compare_as SignedGreater k is.left is.right) n is.answer none)
  missed_true Equal n h none = tt
  missed_true NotEqual n h none = tt
  missed_true UnsignedLessEqual n h none = tt
  missed_true UnsignedLess n h none = tt
  missed_true UnsignedGreaterEqual n h none = tt
  missed_true UnsignedGreater n h none = tt

-- ---- what is known of words behind a jump

named : (globals : List Value) (values : Values ℕ) (r : ℕ) (a : Operand ℕ) → names r a ≡ true → value_of globals values a ≡ values r
named globals values r (At q) h = ap values (eqb-true q r h)
named globals values r (Number n) h = absurd (let no : ⊥ = cc in no)
named globals values r (Name g) h = absurd (let no : ⊥ = cc in no)

module _ (globals : List Value) (m : Memory) (values : Values ℕ) (marks : List Bool) (facts : List Fact) (all : AreTrue globals m values facts) (whole : AreWhole marks values) where
  -- a number in a register that holds words
  word_at : (r : ℕ) → holds_word marks facts r ≡ true → (n : ℕ) → values r ≡ Some (Integer n) → IsWord (values r)
  word_at r h n is = by (is_marked marks r) refl h
    where
      by : (t : Bool) → is_marked marks r ≡ t → (t || is_word facts r) ≡ true → IsWord (values r)
      by true e k = subst IsWord (sym is) (whole_number n (subst IfWhole is (whole r e)))
      by false e k = word_true globals m values facts all r k

  word_of_limit : (a : Operand ℕ) → is_limit marks facts a ≡ true → (n : ℕ) → value_of globals values a ≡ Some (Integer n) → IsWord (value_of globals values a)
  word_of_limit (At r) h n is = word_at r h n is
  word_of_limit (Number k) h n is = number_stands k h
  word_of_limit (Name g) h n is = absurd (let no : ⊥ = cc in no)

  limit_true : (k : Class) (a : Operand ℕ) → limits marks facts k a ≡ true → (n : ℕ) → value_of globals values a ≡ Some (Integer n) → Limit k (value_of globals values a)
  limit_true W a h n is = tt
  limit_true L a h n is = word_of_limit a h n is

  bounds_true : (order : Option Order) (r : ℕ) → Ordered globals values order → bounds marks facts order r ≡ true → holds_word marks facts r ≡ true → grows 1 (values r) ≡ true
  bounds_true None r order h word = absurd (let no : ⊥ = cc in no)
  bounds_true (Some o) r order h word =
      let s = and_parts (names r o.less) (limits marks facts o.class o.more) h in
      let less : Less o.class (values r) (value_of globals values o.more) = subst (λ (v : Option Value). Less o.class v (value_of globals values o.more)) (named globals values r o.less s.0) order in
      less_grows o.class (values r) (value_of globals values o.more) (word_at r word less.left less.first) (limit_true o.class o.more s.1 less.right less.second) less

  exceeds_true : (order : Option Order) (r : ℕ) → Ordered globals values order → exceeds marks facts order r ≡ true → holds_word marks facts r ≡ true → grows (2 ^ 64 - 1) (values r) ≡ true
  exceeds_true None r order h word = absurd (let no : ⊥ = cc in no)
  exceeds_true (Some o) r order h word =
      let s = and_parts (names r o.more) (limits marks facts o.class o.less) h in
      let less : Less o.class (value_of globals values o.less) (values r) = subst (λ (v : Option Value). Less o.class (value_of globals values o.less) v) (named globals values r o.more s.0) order in
      more_shrinks o.class (value_of globals values o.less) (values r) (word_at r word less.right less.second) (limit_true o.class o.less s.1 less.left less.first) less

  is_true : (order : Option Order) (f : Fact) → Ordered globals values order → IsKnown marks facts order f → IsTrueOf globals m values f
  is_true order f holds (Listed is) = true_at globals m values facts is.0 f all is.1
  is_true order f holds (OfCopies {r = r} {e = e} is) =
      sym (canonical_same globals m values facts all e) ∙ true_at globals m values facts is.0 (record { register = r; value = canonical facts e }) all is.1
  is_true order f holds (Bounded {r = r} less word) = ap (λ (b : Bool). only_if b (values r)) (bounds_true order r holds less word)
  is_true order f holds (Above {r = r} more word) = ap (λ (b : Bool). only_if b (values r)) (exceeds_true order r holds more word)

  all_true : (order : Option Order) (wanted : List Fact) → Ordered globals values order → AllKnown marks facts order wanted → AreTrue globals m values wanted
  all_true order [] holds known = tt
  all_true order (f ∷ wanted) holds known = (is_true order f holds known.0, all_true order wanted holds known.1)

leads_known : (marks : List Bool) (claims : List (List Fact)) (facts : List Fact) (j : Jump ℕ) → LeadsWell marks claims facts j → (globals : List Value) (result : Option Class) (memory : Memory) (values : Values ℕ) → AreTrue globals memory values facts
    → AreWhole marks values → Claimed (known marks claims) globals memory values (way globals result memory values j)
leads_known marks claims facts (Goto k) leads globals result memory values all whole = (all_true globals memory values marks facts all whole None (claims_at claims k) tt leads, whole)
leads_known marks claims facts (Branch on met otherwise) leads globals result memory values all whole = branch (comparing globals memory values on.class on.left on.right on.condition) refl
  where
    branch : (o : Option Value) → comparing globals memory values on.class on.left on.right on.condition ≡ o → Claimed (known marks claims) globals memory values (entering met otherwise o)
    branch None e = tt
    branch (Some (Pointer b k)) e = tt
    branch (Some (Function g)) e = tt
    branch (Some (Integer k)) e = (by (nat_eq k 0) refl, whole)
      where
        by : (b : Bool) → nat_eq k 0 ≡ b → AreTrue globals memory values (claims_at claims (if b then otherwise else met))
        by true t =
            all_true globals memory values marks facts all whole (order_missed on.condition on.class on.left on.right) (claims_at claims otherwise)
            (missed_true globals memory values on.class on.left on.right on.condition k e t) leads.1
        by false t =
            all_true globals memory values marks facts all whole (order_met on.condition on.class on.left on.right) (claims_at claims met)
            (met_true globals memory values on.class on.left on.right on.condition k e t) leads.0
leads_known marks claims facts (Return None) leads globals result memory values all whole = tt
leads_known marks claims facts (Return (Some a)) leads globals None memory values all whole = tt
leads_known marks claims facts (Return (Some a)) leads globals (Some k) memory values all whole = answers (read_result globals values k a)
  where
    answers : (o : Option Value) → Claimed (known marks claims) globals memory values (answering o)
    answers None = tt
    answers (Some v) = tt
leads_known marks claims facts Halt leads globals result memory values all whole = tt

module _ (n : ℕ) (marks : List Bool) (claims : List (List Fact)) (v w : Code ℕ) where
  lines_follow : (facts : List Fact) (lines new : List (Line ℕ)) (j : Jump ℕ) → list_all (keeps_marks marks) lines ≡ true → AreReused n marks claims facts lines new j → Follows (claimed (known marks claims)) v w facts lines j new j
  lines_follow facts [] [] j keeps h =
      Jumps (fact_jump (known marks claims) v.result facts j j (λ globals memory values all. refl) (λ globals memory values all. leads_known marks claims facts j h globals v.result memory values all.0 all.1))
  lines_follow facts [] (m ∷ new) j keeps h = absurd h
  lines_follow facts (l ∷ lines) [] j keeps h = absurd h
  lines_follow facts (l ∷ lines) (m ∷ new) j keeps h =
      let s = and_parts (keeps_marks marks l) (list_all (keeps_marks marks) lines) keeps in
      Both (line_follows marks claims n facts l m s.0 h.0) (lines_follow (after m facts) lines new j s.1 h.1)

  block_follows : (from : ℕ) (blocks new : List (Block ℕ)) → list_all (λ (d : Block ℕ). list_all (keeps_marks marks) d.lines) blocks ≡ true → AllReused n marks claims from blocks new → (k : ℕ) (b : Block ℕ) → slice_get blocks k ≡ Some b
      → (d : Block ℕ) × ((slice_get new k ≡ Some d) × Follows (claimed (known marks claims)) v w (claims_at claims (from + k)) b.lines b.jump d.lines d.jump)
  block_follows from [] new keep all k b e = absurd (let no : ⊥ = cc in no)
  block_follows from (d ∷ blocks) [] keep all k b e = absurd all
  block_follows from (d ∷ blocks) (c ∷ new) keep all zero b e =
      let own = and_parts (list_all (keeps_marks marks) d.lines) (list_all (λ (x : Block ℕ). list_all (keeps_marks marks) x.lines) blocks) keep in
      let same : d ≡ b = cc in (
        c,
        (
          refl,
          subst (λ (i : ℕ). Follows (claimed (known marks claims)) v w (claims_at claims i) b.lines b.jump c.lines c.jump) (let z : from ≡ from + 0 = omega arith in z)
              (subst (λ (x : Block ℕ). Follows (claimed (known marks claims)) v w (claims_at claims from) x.lines x.jump c.lines c.jump) same
              (subst (λ (x : Jump ℕ). Follows (claimed (known marks claims)) v w (claims_at claims from) d.lines d.jump c.lines x) (sym all.0.0) (lines_follow (claims_at claims from) d.lines c.lines d.jump own.0 all.0.1.1))),
        ),
      )
  block_follows from (d ∷ blocks) (c ∷ new) keep all (suc k) b e =
      let own = and_parts (list_all (keeps_marks marks) d.lines) (list_all (λ (x : Block ℕ). list_all (keeps_marks marks) x.lines) blocks) keep in
      let found = block_follows (from + 1) blocks new own.1 all.1 k b e in (
        found.0,
        (
          found.1.0,
          subst (λ (i : ℕ). Follows (claimed (known marks claims)) v w (claims_at claims i) b.lines b.jump found.0.lines found.0.jump) (let z : (from + 1) + k ≡ from + suc k = omega arith in z) found.1.1,
        ),
      )

  pub runs : are_closed marks v ≡ true → claims_at claims 0 ≡ [] → AllReused n marks claims 0 v.blocks w.blocks → w.result ≡ v.result → w.params ≡ v.params → (globals : List Value)
      → KeepsCode (classes_in v.params) (begin virtual v) (step virtual globals v) (begin virtual w) (step virtual globals w)
  runs closed nothing all result params globals =
      let own = and_parts (list_all (takes_whole marks) v.params) (list_all (λ (d : Block ℕ). list_all (keeps_marks marks) d.lines) v.blocks) closed in
      rewrites_keep (claimed (known marks claims)) v w
      (facts_rewrite (known marks claims) v w result params (λ globals i. (
        subst (λ (facts : List Fact). AreTrue globals i.memory (bound virtual unknown v.params i.args) facts) (sym nothing) tt,
        bound_whole marks unknown v.params i.args own.0 (λ r marked. tt),
      )) (λ k b e.
      let found = block_follows 0 v.blocks w.blocks own.1 all k b e in (
        found.0,
        (
          found.1.0,
          subst (λ (i : ℕ). Follows (claimed (known marks claims)) v w (claims_at claims i) b.lines b.jump found.0.lines found.0.jump) (let z : 0 + k ≡ k = omega arith in z) found.1.1,
        ),
      )))
      globals
