-- Code in which operations are put off does what the code did: until one is done, its register alone may hold something else.
use Rattle.std.proofs.Common.{◌≡◌, ℕ, zero, suc, Bool, true, false, not, ◌&&◌, nat_eq, List, [], ◌∷◌, Option, Some, None, slice_get, refl, sym, ◌∙◌, ap, subst}
use Rattle.std.proofs.lemmas.Bool.{and_parts, eqb-true}
use Rattle.il_ast.specs.declared.value.Value.{Value}
use Rattle.il_ast.specs.declared.value.Value.TheVariants.{Integer, Pointer, Function}
use Rattle.il_ast.specs.declared.operation.BinaryOp.TheVariants.{Add as AddPlaces, Sub as SubPlaces}
use Rattle.il_ast.specs.Prelude.{Memory, on_places, KeepsCode}
use Rattle.il_ast.proofs.Truth.{equals_itself}
use Rattle.rv_isa.specs.declared.instruction.RegOp.{RegOp}
use Rattle.rv_isa.specs.declared.instruction.RegOp.TheVariants.{Add, Sub, Sll, Slt, Sltu, Xor, Srl, Sra, Or, And, Mul, Mulh, Mulhsu, Mulhu, Div, Divu, Rem, Remu}
use Rattle.vcode.specs.declared.place.Operand.{Operand}
use Rattle.vcode.specs.declared.place.Operand.TheVariants.{At, Number, Name}
use Rattle.vcode.specs.declared.line.Operation.{Operation}
use Rattle.vcode.specs.declared.line.Operation.TheVariants.{Reg, RegW, Compare}
use Rattle.vcode.specs.declared.line.Line.{Line}
use Rattle.vcode.specs.declared.line.Jump.{Jump}
use Rattle.vcode.specs.declared.line.Jump.TheVariants.{Goto, Branch, Return, Halt}
use Rattle.vcode.specs.declared.code.Block.{Block}
use Rattle.vcode.specs.declared.code.Code.{Code}
use Rattle.vcode.specs.Prelude.{reg_on_places, operate, Values, virtual, unknown, classes_in, operand_keeps, line_keeps, begin, step, bound, value_of, operated, line_writes, written, Claims, Alike, MayGo, MayCome, LeadAlike, Follows, Jumps, Both, Gone, Come, Rewrites}
use Rattle.vcode.proofs.SameReads.{SameValue}
use Rattle.vcode.proofs.SameActs.{reads_every, reads_named, jump_reads_every, act_agrees}
use Rattle.vcode.proofs.Alike.{lines_alike}
use Rattle.vcode.proofs.Writing.{unwritten, now_holds, Agree, both_write, first_writes, writes_only}
use Rattle.vcode.proofs.Leading.{LeadsTo, Arriving, jump_itself_alike}
use Rattle.vcode.proofs.Rewriting.{rewrites_keep}
use Rattle.code_motion.specs.declared.later.waiting.Waiting.{Waiting}
use Rattle.code_motion.specs.Later.{line_of, asks_nothing, differs, may_wait, is_spared, lets_wait, AreLater, NoLines, Own, PutOff, Waits, Done, IsLater, AllLater}

-- ---- operations on registers, in which memory has no part

sums_aside : (m w : Memory) (u v : Value) → on_places m AddPlaces u v ≡ on_places w AddPlaces u v
sums_aside m w (Integer a) (Integer b) = refl
sums_aside m w (Integer a) (Pointer c d) = refl
sums_aside m w (Integer a) (Function f) = refl
sums_aside m w (Pointer a b) (Integer c) = refl
sums_aside m w (Pointer a b) (Pointer c d) = refl
sums_aside m w (Pointer a b) (Function f) = refl
sums_aside m w (Function f) (Integer c) = refl
sums_aside m w (Function f) (Pointer c d) = refl
sums_aside m w (Function f) (Function g) = refl

differences_aside : (m w : Memory) (u v : Value) → on_places m SubPlaces u v ≡ on_places w SubPlaces u v
differences_aside m w (Integer a) (Integer b) = refl
differences_aside m w (Integer a) (Pointer c d) = refl
differences_aside m w (Integer a) (Function f) = refl
differences_aside m w (Pointer a b) (Integer c) = refl
differences_aside m w (Pointer a b) (Pointer c d) = refl
differences_aside m w (Pointer a b) (Function f) = refl
differences_aside m w (Function f) (Integer c) = refl
differences_aside m w (Function f) (Pointer c d) = refl
differences_aside m w (Function f) (Function g) = refl

places_aside : (m w : Memory) (op : RegOp) (u v : Value) → reg_on_places m op u v ≡ reg_on_places w op u v
places_aside m w Add u v = sums_aside m w u v
places_aside m w Sub u v = differences_aside m w u v
places_aside m w Sll u v = refl
places_aside m w Slt u v = refl
places_aside m w Sltu u v = refl
places_aside m w Xor u v = refl
places_aside m w Srl u v = refl
places_aside m w Sra u v = refl
places_aside m w Or u v = refl
places_aside m w And u v = refl
places_aside m w Mul u v = refl
places_aside m w Mulh u v = refl
places_aside m w Mulhsu u v = refl
places_aside m w Mulhu u v = refl
places_aside m w Div u v = refl
places_aside m w Divu u v = refl
places_aside m w Rem u v = refl
places_aside m w Remu u v = refl

values_aside : (m w : Memory) (op : Operation) → asks_nothing op ≡ true → (u v : Value) → operate m op u v ≡ operate w op u v
unfolding operate
values_aside m w (Reg op) h (Integer a) (Integer b) = refl
values_aside m w (Reg op) h (Integer a) (Pointer c d) = places_aside m w op (Integer a) (Pointer c d)
values_aside m w (Reg op) h (Integer a) (Function f) = places_aside m w op (Integer a) (Function f)
values_aside m w (Reg op) h (Pointer a b) v = places_aside m w op (Pointer a b) v
values_aside m w (Reg op) h (Function f) v = places_aside m w op (Function f) v
values_aside m w (RegW op) h (Integer a) (Integer b) = refl
values_aside m w (RegW op) h (Integer a) (Pointer c d) = refl
values_aside m w (RegW op) h (Integer a) (Function f) = refl
values_aside m w (RegW op) h (Pointer a b) v = refl
values_aside m w (RegW op) h (Function f) v = refl
values_aside m w (Compare on k) h u v = absurd (let no : ⊥ = cc in no)

aside : (m w : Memory) (op : Operation) → asks_nothing op ≡ true → (a b : Option Value) → operated m op a b ≡ operated w op a b
aside m w op h None b = refl
aside m w op h (Some u) None = refl
aside m w op h (Some u) (Some v) = values_aside m w op h u v

-- ---- what is claimed

-- all registers hold the same but the one of what is put off
abbrev free : Option Waiting → ℕ → Bool
free None r = true
free (Some p) r = differs p.to r

abbrev given_by : List Value → Values ℕ → Waiting → Option Value
given_by globals values p = operated [] p.operation (value_of globals values p.left) (value_of globals values p.right)

-- before, that one holds what the operation still gives
abbrev Pending : List Value → Values ℕ → Option Waiting → Type 0
Pending globals before None = Unit {0}
Pending globals before (Some p) = (may_wait p ≡ true) × (before p.to ≡ given_by globals before p)

abbrev claims : Claims
claims =
    record {
      Claim = Option Waiting;
      holds = λ q globals memory before after. Agree (free q) before after × Pending globals before q;
      arrives = λ q k m. (q ≡ None) × (m ≡ k);
    }

-- ---- values that stay

not_false : (b : Bool) → not b ≡ true → b ≡ false
not_false true h = sym h
not_false false h = refl

itself : (r : ℕ) → differs r r ≡ false
itself r = ap not (equals_itself r)

other_value : (globals : List Value) (values : Values ℕ) (r : ℕ) (o : Option Value) (a : Operand ℕ) → operand_keeps (differs r) a ≡ true → value_of globals (written (Some r) o values) a ≡ value_of globals values a
other_value globals values r o (At q) h = unwritten (Some r) o values q (not_false (nat_eq r q) h)
other_value globals values r o (Number n) h = refl
other_value globals values r o (Name g) h = refl

spared_value : (globals : List Value) (values : Values ℕ) (to : Option ℕ) (o : Option Value) (a : Operand ℕ) → is_spared to a ≡ true → value_of globals (written to o values) a ≡ value_of globals values a
spared_value globals values None o a h = refl
spared_value globals values (Some r) o a h = other_value globals values r o a h

-- of two operands
two_values : (m : Memory) (op : Operation) (a b c d : Option Value) → a ≡ c → b ≡ d → operated m op a b ≡ operated m op c d
two_values m op a b c d e f = ap (λ (x : Option Value). operated m op x b) e ∙ ap (λ (x : Option Value). operated m op c x) f

value_same : (globals : List Value) (before after : Values ℕ) (test : ℕ → Bool) → Agree test before after → (a : Operand ℕ) → operand_keeps test a ≡ true → SameValue globals before after (λ x. x) a
value_same globals before after test agrees (At r) h = agrees r h
value_same globals before after test agrees (Number k) h = refl
value_same globals before after test agrees (Name g) h = refl

every_value : (globals : List Value) (before after : Values ℕ) → Agree (free None) before after → (a : Operand ℕ) → SameValue globals before after (λ x. x) a
every_value globals before after agrees (At r) = agrees r refl
every_value globals before after agrees (Number k) = refl
every_value globals before after agrees (Name g) = refl

-- ---- lines

own_line : (l : Line ℕ) → Alike claims None None l l
own_line l globals memory before after h =
    lines_alike (λ next x y. Agree (free None) x y × Pending globals x None) globals memory before after l l
    (λ works. act_agrees globals memory before after l (reads_every (SameValue globals before after (λ x. x)) (every_value globals before after h.0) l))
    (λ o next may. (both_write (free None) (line_writes l) o before after h.0, tt))

still_given : (p : Waiting) (l : Line ℕ) → lets_wait p l ≡ true → (globals : List Value) (before : Values ℕ) (o : Option Value) → Pending globals before (Some p) → Pending globals (written (line_writes l) o before) (Some p)
still_given p l lets globals before o h =
    let s = and_parts (line_keeps (differs p.to) l) (is_spared (line_writes l) p.left && is_spared (line_writes l) p.right) lets in
    let t = and_parts (is_spared (line_writes l) p.left) (is_spared (line_writes l) p.right) s.1 in
    let now : Values ℕ = written (line_writes l) o before in (
      h.0,
      unwritten (line_writes l) o before p.to (writes_only (differs p.to) l p.to s.0 (itself p.to)) ∙ h.1
          ∙ sym (two_values [] p.operation (value_of globals now p.left) (value_of globals now p.right) (value_of globals before p.left) (value_of globals before p.right)
          (spared_value globals before (line_writes l) o p.left t.0) (spared_value globals before (line_writes l) o p.right t.1)),
    )

waiting_line : (p : Waiting) (l : Line ℕ) → lets_wait p l ≡ true → Alike claims (Some p) (Some p) l l
waiting_line p l lets globals memory before after h =
    let s = and_parts (line_keeps (differs p.to) l) (is_spared (line_writes l) p.left && is_spared (line_writes l) p.right) lets in
    lines_alike (λ next x y. Agree (free (Some p)) x y × Pending globals x (Some p)) globals memory before after l l
    (λ works. act_agrees globals memory before after l (reads_named (differs p.to) (SameValue globals before after (λ x. x)) (value_same globals before after (differs p.to) h.0) l s.0))
    (λ o next may. (both_write (differs p.to) (line_writes l) o before after h.0, still_given p l lets globals before o h.1))

goes : (p : Waiting) → may_wait p ≡ true → MayGo claims None (Some p) (line_of p)
goes p may globals memory before after h =
    let o : Option Value = operated memory p.operation (value_of globals before p.left) (value_of globals before p.right) in
    let now : Values ℕ = written (Some p.to) o before in
    let s = and_parts (asks_nothing p.operation) (operand_keeps (differs p.to) p.left && operand_keeps (differs p.to) p.right) may in
    let t = and_parts (operand_keeps (differs p.to) p.left) (operand_keeps (differs p.to) p.right) s.1 in (
      first_writes (differs p.to) p.to o before after (itself p.to) (λ r e. h.0 r refl),
      (
        may,
        now_holds p.to o before ∙ aside memory [] p.operation s.0 (value_of globals before p.left) (value_of globals before p.right)
            ∙ sym (two_values [] p.operation (value_of globals now p.left) (value_of globals now p.right) (value_of globals before p.left) (value_of globals before p.right)
            (other_value globals before p.to o p.left t.0) (other_value globals before p.to o p.right t.1)),
      ),
    )

comes : (p : Waiting) → MayCome claims (Some p) None (line_of p)
comes p globals memory before after h =
    let o : Option Value = operated memory p.operation (value_of globals after p.left) (value_of globals after p.right) in
    let s = and_parts (asks_nothing p.operation) (operand_keeps (differs p.to) p.left && operand_keeps (differs p.to) p.right) h.1.0 in
    let t = and_parts (operand_keeps (differs p.to) p.left) (operand_keeps (differs p.to) p.right) s.1 in
    let gives : o ≡ before p.to =
    two_values memory p.operation (value_of globals after p.left) (value_of globals after p.right) (value_of globals before p.left) (value_of globals before p.right)
    (value_same globals before after (differs p.to) h.0 p.left t.0) (value_same globals before after (differs p.to) h.0 p.right t.1)
    ∙ aside memory [] p.operation s.0 (value_of globals before p.left) (value_of globals before p.right) ∙ sym h.1.1 in
    (o, (refl, ((λ r e. at o gives r (nat_eq p.to r) refl), tt)))
  where
    at : (o : Option Value) → o ≡ before p.to → (r : ℕ) (b : Bool) → nat_eq p.to r ≡ b → written (Some p.to) o after r ≡ before r
    at o gives r true e = ap (written (Some p.to) o after) (sym (eqb-true p.to r e)) ∙ now_holds p.to o after ∙ gives ∙ ap before (eqb-true p.to r e)
    at o gives r false e = unwritten (Some p.to) o after r e ∙ h.0 r (ap not e)

leads_all : (globals : List Value) (memory : Memory) (before after : Values ℕ) → Agree (free None) before after → (j : Jump ℕ) → LeadsTo (Arriving claims globals memory before after (λ k. k)) j
leads_all globals memory before after agrees (Goto k) = (None, ((refl, refl), (agrees, tt)))
leads_all globals memory before after agrees (Branch on met otherwise) = ((None, ((refl, refl), (agrees, tt))), (None, ((refl, refl), (agrees, tt))))
leads_all globals memory before after agrees (Return a) = tt
leads_all globals memory before after agrees Halt = tt

own_jump : (v : Code ℕ) (j : Jump ℕ) → LeadAlike claims v.result None j j
own_jump v j globals memory before after h =
    jump_itself_alike claims globals memory before after v.result j (jump_reads_every (SameValue globals before after (λ x. x)) (every_value globals before after h.0) j) (leads_all globals memory before after h.0 j)

-- ---- the code follows

module _ (v w : Code ℕ) where
  lines_follow : {q : Option Waiting} {lines new : List (Line ℕ)} (j : Jump ℕ) → AreLater q lines new → Follows claims v w q lines j new j
  lines_follow j NoLines = Jumps (own_jump v j)
  lines_follow j (Own {l = l} rest) = Both (own_line l) (lines_follow j rest)
  lines_follow j (PutOff {p = p} may rest) = Gone (goes p may) (lines_follow j rest)
  lines_follow j (Waits {p = p} {l = l} lets rest) = Both (waiting_line p l lets) (lines_follow j rest)
  lines_follow j (Done {p = p} rest) = Come (comes p) (lines_follow j rest)

  block_follows : (b d : Block ℕ) → IsLater b d → Follows claims v w None b.lines b.jump d.lines d.jump
  block_follows b d is = subst (λ (j : Jump ℕ). Follows claims v w None b.lines b.jump d.lines j) (sym is.jump) (lines_follow b.jump is.lines)

  blocks_follow : (blocks new : List (Block ℕ)) → AllLater blocks new → (k : ℕ) (b : Block ℕ) → slice_get blocks k ≡ Some b
      → (d : Block ℕ) × ((slice_get new k ≡ Some d) × Follows claims v w None b.lines b.jump d.lines d.jump)
  blocks_follow [] new all k b e = absurd (let no : ⊥ = cc in no)
  blocks_follow (c ∷ blocks) [] all k b e = absurd all
  blocks_follow (c ∷ blocks) (d ∷ new) all zero b e =
      let same : c ≡ b = cc in
      (d, (refl, subst (λ (x : Block ℕ). Follows claims v w None x.lines x.jump d.lines d.jump) same (block_follows c d all.0)))
  blocks_follow (c ∷ blocks) (d ∷ new) all (suc k) b e = blocks_follow blocks new all.1 k b e

  rewrites : AllLater v.blocks w.blocks → w.result ≡ v.result → w.params ≡ v.params → Rewrites claims v w
  rewrites all result params =
      record {
        result = result;
        first = None;
        arrives = (refl, refl);
        begins = λ globals i args. ((λ r e. ap (λ ps. bound virtual unknown ps i.args r) params), tt);
        follows = λ q k j arrives b e.
            subst (λ (x : Option Waiting). (d : Block ℕ) × ((slice_get w.blocks j ≡ Some d) × Follows claims v w x b.lines b.jump d.lines d.jump)) (sym arrives.0)
            (subst (λ (x : ℕ). (d : Block ℕ) × ((slice_get w.blocks x ≡ Some d) × Follows claims v w None b.lines b.jump d.lines d.jump)) (sym arrives.1) (blocks_follow v.blocks w.blocks all k b e));
      }

  pub runs : AllLater v.blocks w.blocks → w.result ≡ v.result → w.params ≡ v.params → (globals : List Value)
      → KeepsCode (classes_in v.params) (begin virtual v) (step virtual globals v) (begin virtual w) (step virtual globals w)
  runs all result params globals = rewrites_keep claims v w (rewrites all result params) globals
