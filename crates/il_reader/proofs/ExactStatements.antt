-- A line of a block before its jump, read with a look at no more than the next token.
use Rattle.std.proofs.Common.{◌≡◌, ◌⊎◌, inl, inr, ℕ, false, List, [], ◌∷◌, ◌++◌, Option, Some, None, refl, sym, ap, ◌∙◌, ⊎_elim, subst, true, nat_eq, codes, is_some, option_map}
use Rattle.std.specs.Cmp.Lexicographic.{pointwise, bytes_decides}
use Rattle.std.proofs.lemmas.Option.{same_Some, none-some}
use Rattle.il_lex.proofs.Runs.{cond_cases}
use Rattle.il_lex.specs.declared.kind.Symbol.TheVariants.{LeftParen, RightParen, Comma}
use Rattle.il_lex.specs.declared.kind.Kind.TheVariants.{Symbol, Word as WordKind, Temp as TempKind}
use Rattle.il_ast.specs.declared.operation.Class.TheVariants.{W, L}
use Rattle.il_ast.specs.declared.operation.Extension.TheVariants.{SignedWord, UnsignedWord, SignedHalf, UnsignedHalf, SignedByte, UnsignedByte}
use Rattle.il_ast.specs.declared.operation.UnaryOp.{UnaryOp}
use Rattle.il_ast.specs.declared.operation.UnaryOp.TheVariants.{Neg, Copy, Extend, LoadLong, Load}
use Rattle.il_ast.specs.declared.operation.Condition.TheVariants.{Equal, NotEqual, SignedLessEqual, SignedLess, SignedGreaterEqual, SignedGreater, UnsignedLessEqual, UnsignedLess, UnsignedGreaterEqual, UnsignedGreater}
use Rattle.il_ast.specs.declared.operation.BinaryOp.{BinaryOp}
use Rattle.il_ast.specs.declared.operation.BinaryOp.TheVariants.{Add, Sub, Mul, And, Or, Xor, Div, Rem, Udiv, Urem, Sar, Shr, Shl, Compare}
use Rattle.il_ast.specs.declared.operation.Alignment.{Alignment}
use Rattle.il_ast.specs.declared.operation.Size.{Size}
use Rattle.il_ast.specs.declared.operation.Size.TheVariants.{Byte, Half, Word, Long}
use Rattle.il_ast.specs.declared.operation.Alignment.TheVariants.{Four, Eight, Sixteen}
use Rattle.il_ast.specs.declared.operand.Dest.{Dest}
use Rattle.il_ast.specs.declared.instruction.Inst.{Inst}
use Rattle.il_ast.specs.declared.instruction.Inst.TheVariants.{Unary, Binary, Alloc, Call}
use Rattle.il_reader.specs.declared.statement.Operation.{Operation}
use Rattle.il_reader.specs.declared.statement.Operation.TheVariants.{Phi as PhiWord, Call as CallWord, Alloc as AllocWord, Unary as UnaryWord, Binary as BinaryWord}
use Rattle.il_reader.specs.declared.statement.Statement.{Statement}
use Rattle.il_reader.specs.declared.statement.Statement.TheVariants.{Phi as PhiLine, Inst as InstLine}
use Rattle.il_reader.specs.Prelude.{State, unary_word, binary_word, alloc_word, store_word}
use Rattle.il_reader.specs.Rules as rule
use Rattle.il_reader.specs.Grammar as grammar
use Rattle.il_reader.specs.Steps as step
use Rattle.il_reader.specs.Reading as reading
use Rattle.il_reader.specs.Blocks as blocks
use Rattle.il_reader.proofs.Exact.{Exact, Anything, give_exact, said, weaker, bind, bind_before, either_exact, choose_exact, chosen, sees_token}
use Rattle.il_reader.proofs.Tokens.{keyword_from, word_exact, piece_exact, natural_exact}
use Rattle.il_reader.proofs.Operands.{table_sound, value_exact, destination_exact}
use Rattle.il_reader.proofs.Jumps.{unary_sound, sees_word_of, storing_exact, blit_exact, LineEnds}
use Rattle.il_reader.proofs.ArgumentLists.{Closing, is_closing, arguments_exact}
use Rattle.il_reader.proofs.Statements.{line_exact, phi_arguments_exact}

-- ---- how lines begin

pub destination_begins : (s : State) (d : Dest) (s' : State) → grammar.destination s d s' → step.sees reading.is_temp s ≡ true
destination_begins s d s' h = sees_token reading.is_temp TempKind s (37 ∷ h.2.0) h.2.1 h.2.2

pub word_no_temp : (s : State) (text : List ℕ) (s' : State) → rule.token WordKind s text s' → step.sees reading.is_temp s ≡ false
word_no_temp s text s' h = sees_token reading.is_temp WordKind s text s' h

store_head : (c : Size) → is_some (reading.store_of (store_word c)) ≡ true
store_head Byte = refl
store_head Half = refl
store_head Word = refl
store_head Long = refl

-- ---- the word behind a destination

abbrev binary_rows : List BinaryOp
binary_rows = Add ∷ Sub ∷ Mul ∷ And ∷ Or ∷ Xor ∷ Div ∷ Rem ∷ Udiv ∷ Urem ∷ Sar ∷ Shr ∷ Shl ∷ (reading.compared W ++ reading.compared L)

-- how the word of an operation is spelled
abbrev Spells : Operation → List ℕ → Type 0
Spells PhiWord text = text ≡ codes "phi"
Spells CallWord text = text ≡ codes "call"
Spells (AllocWord a) text = text ≡ alloc_word a
Spells (UnaryWord op) text = (text ≡ unary_word op) ⊎ ((op ≡ Load SignedWord) × (text ≡ codes "loadw"))
Spells (BinaryWord op) text = text ≡ binary_word op

or_cases : {A : Type 0} (o q : Option A) (x : A) → blocks.or_else o q ≡ Some x → (o ≡ Some x) ⊎ (q ≡ Some x)
or_cases (Some y) q x e = inl e
or_cases None q x e = inr e

map_from : {A B : Type 0} (f : A → B) (o : Option A) (y : B) → option_map f o ≡ Some y → (x : A) × (o ≡ Some x) × (f x ≡ y)
map_from f None y e = absurd (none-some y e)
map_from f (Some x) y e = (x, refl, same_Some (f x) y e)

operation_sound : (text : List ℕ) (op : Operation) → blocks.operation_of text ≡ Some op → Spells op text
operation_sound text op e =
    cond_cases (λ o. o ≡ Some op → Spells op text) (pointwise nat_eq text (codes "phi")) _ _
    (λ t h. subst (λ op. Spells op text) (same_Some PhiWord op h) ((bytes_decides text (codes "phi")).0 t))
    (λ n h. cond_cases (λ o. o ≡ Some op → Spells op text) (pointwise nat_eq text (codes "call")) _ _
    (λ t h. subst (λ op. Spells op text) (same_Some CallWord op h) ((bytes_decides text (codes "call")).0 t))
    (λ n h. ⊎_elim
    (λ w. let a = map_from AllocWord (reading.alloc_of text) op w in
    subst (λ op. Spells op text) a.2 (table_sound alloc_word (Four ∷ Eight ∷ Sixteen ∷ []) text a.0 a.1))
    (λ k. ⊎_elim
    (λ w. let a = map_from UnaryWord (reading.unary_of text) op w in
    subst (λ op. Spells op text) a.2 (unary_sound text a.0 a.1))
    (λ w. let a = map_from BinaryWord (reading.binary_of text) op w in
    subst (λ op. Spells op text) a.2 (table_sound binary_word binary_rows text a.0 a.1))
    (or_cases (option_map UnaryWord (reading.unary_of text)) (option_map BinaryWord (reading.binary_of text)) op k))
    (or_cases (option_map AllocWord (reading.alloc_of text)) _ op h))
    h)
    e

unary_means : (op : UnaryOp) → blocks.operation_of (unary_word op) ≡ Some (UnaryWord op)
unary_means Neg = refl
unary_means Copy = refl
unary_means (Extend SignedWord) = refl
unary_means (Extend UnsignedWord) = refl
unary_means (Extend SignedHalf) = refl
unary_means (Extend UnsignedHalf) = refl
unary_means (Extend SignedByte) = refl
unary_means (Extend UnsignedByte) = refl
unary_means LoadLong = refl
unary_means (Load SignedWord) = refl
unary_means (Load UnsignedWord) = refl
unary_means (Load SignedHalf) = refl
unary_means (Load UnsignedHalf) = refl
unary_means (Load SignedByte) = refl
unary_means (Load UnsignedByte) = refl

binary_means : (op : BinaryOp) → blocks.operation_of (binary_word op) ≡ Some (BinaryWord op)
binary_means Add = refl
binary_means Sub = refl
binary_means Mul = refl
binary_means And = refl
binary_means Or = refl
binary_means Xor = refl
binary_means Div = refl
binary_means Rem = refl
binary_means Udiv = refl
binary_means Urem = refl
binary_means Sar = refl
binary_means Shr = refl
binary_means Shl = refl
binary_means (Compare Equal W) = refl
binary_means (Compare NotEqual W) = refl
binary_means (Compare SignedLessEqual W) = refl
binary_means (Compare SignedLess W) = refl
binary_means (Compare SignedGreaterEqual W) = refl
binary_means (Compare SignedGreater W) = refl
binary_means (Compare UnsignedLessEqual W) = refl
binary_means (Compare UnsignedLess W) = refl
binary_means (Compare UnsignedGreaterEqual W) = refl
binary_means (Compare UnsignedGreater W) = refl
binary_means (Compare Equal L) = refl
binary_means (Compare NotEqual L) = refl
binary_means (Compare SignedLessEqual L) = refl
binary_means (Compare SignedLess L) = refl
binary_means (Compare SignedGreaterEqual L) = refl
binary_means (Compare SignedGreater L) = refl
binary_means (Compare UnsignedLessEqual L) = refl
binary_means (Compare UnsignedLess L) = refl
binary_means (Compare UnsignedGreaterEqual L) = refl
binary_means (Compare UnsignedGreater L) = refl

alloc_means : (a : Alignment) → blocks.operation_of (alloc_word a) ≡ Some (AllocWord a)
alloc_means Four = refl
alloc_means Eight = refl
alloc_means Sixteen = refl

-- a word that asks for an operation
abbrev Operations : rule.Rule Operation
Operations s PhiWord s' = rule.word (codes "phi") s tt s'
Operations s CallWord s' = rule.word (codes "call") s tt s'
Operations s (AllocWord a) s' = grammar.alloc s a s'
Operations s (UnaryWord op) s' = grammar.unary_operation s op s'
Operations s (BinaryWord op) s' = grammar.binary_operation s op s'

operation_exact : Exact (step.keyword blocks.operation_of) Operations Anything
operation_exact = said (step.keyword blocks.operation_of) (chosen (step.word_test blocks.operation_of)) Operations Anything
    (λ s op s' h.
    let parts = keyword_from blocks.operation_of h.0 h.1 op h.3 in
    let t : rule.token WordKind s h.1 s' = subst (λ kind. rule.token kind s h.1 s') parts.0 h.2 in
    there s op s' h.1 t (operation_sound h.1 op parts.1))
    back
    (choose_exact (step.word_test blocks.operation_of))
  where
    at : (s : State) (s' : State) (text other : List ℕ) → rule.token WordKind s text s' → text ≡ other → rule.token WordKind s other s'
    at s s' text other t e = subst (λ text. rule.token WordKind s text s') e t

    there : (s : State) (op : Operation) (s' : State) (text : List ℕ) → rule.token WordKind s text s' → Spells op text → Operations s op s'
    there s PhiWord s' text t e = at s s' text (codes "phi") t e
    there s CallWord s' text t e = at s s' text (codes "call") t e
    there s (AllocWord a) s' text t e = at s s' text (alloc_word a) t e
    there s (UnaryWord op) s' text t e = ⊎_elim (λ w. inl (at s s' text (unary_word op) t w)) (λ w. inr (w.0, at s s' text (codes "loadw") t w.1)) e
    there s (BinaryWord op) s' text t e = at s s' text (binary_word op) t e

    back : (s : State) (op : Operation) (s' : State) → Operations s op s' → chosen (step.word_test blocks.operation_of) s op s'
    back s PhiWord s' h = (WordKind, codes "phi", h, refl)
    back s CallWord s' h = (WordKind, codes "call", h, refl)
    back s (AllocWord a) s' h = (WordKind, alloc_word a, h, alloc_means a)
    back s (UnaryWord op) s' h = ⊎_elim
        (λ w. (WordKind, unary_word op, w, unary_means op))
        (λ w. (WordKind, codes "loadw", w.1, ap (λ op. Some (UnaryWord op)) (sym w.0))) h
    back s (BinaryWord op) s' h = (WordKind, binary_word op, h, binary_means op)

-- ---- what stands behind the word

-- the same rule with what is made of it
abbrev made : {A B : Type 0} → (A → B) → rule.Rule A → rule.Rule B
made f r = rule.◌>>=◌ r (λ x. rule.give (f x))

pub made_exact : {A B : Type 0} (p : step.Step A) (r : rule.Rule A) (f : A → B) (Follow : State → Type 0) → Exact p r Follow
    → Exact (step.◌>>=◌ p (λ x. step.give (f x))) (rule.◌>>=◌ r (λ x. rule.give (f x))) Follow
made_exact p r f Follow e =
    bind_before p r _ _ Follow Follow (λ x s y s' h g. subst Follow h.1 g) e λ x.
    weaker (step.give (f x)) (rule.give (f x)) Anything Follow (λ s g. tt) (give_exact (f x))

abbrev Called : Option Dest → rule.Rule Inst
Called to = rule.◌>>=◌ grammar.value λ callee.
    rule.◌>>◌ (rule.piece LeftParen) (rule.◌>>=◌ (rule.listed grammar.comma grammar.argument) λ args.
    rule.◌>>◌ (rule.piece RightParen) (rule.give (Call to callee args)))

called_exact : (to : Option Dest) → Exact (blocks.called to) (Called to) Anything
called_exact to =
    bind reading.value grammar.value _ _ Anything value_exact λ callee.
    bind (step.piece LeftParen) (rule.piece LeftParen) _ _ Anything (piece_exact LeftParen) λ _.
    bind_before reading.arguments (rule.listed grammar.comma grammar.argument) _ _ Closing Anything
    (λ args s y s' h f. sees_token is_closing (Symbol RightParen) s h.2.0 h.2.1 h.2.2)
    arguments_exact λ args.
    bind (step.piece RightParen) (rule.piece RightParen) _ _ Anything (piece_exact RightParen) λ _.
    give_exact (Call to callee args)

abbrev on : ℕ → Inst → Statement
on n i = InstLine (record { line = n; item = i })

abbrev Unaries : Dest → UnaryOp → rule.Rule Inst
Unaries to op = rule.◌>>=◌ grammar.value λ v. rule.give (Unary to op v)

abbrev Binaries : Dest → BinaryOp → rule.Rule Inst
Binaries to op = rule.◌>>=◌ grammar.value λ a. rule.◌>>◌ (rule.piece Comma) (rule.◌>>=◌ grammar.value λ b. rule.give (Binary to op a b))

abbrev Allocs : Dest → Alignment → rule.Rule Inst
Allocs to a = rule.◌>>=◌ rule.natural λ size. rule.give (Alloc to a size)

abbrev Phis : ℕ → Dest → rule.Rule Statement
Phis n to = rule.◌>>=◌ (rule.commas grammar.comma grammar.phi_argument) λ args. rule.give (PhiLine (record { line = n; to = to; args = args }))

abbrev Assigned : ℕ → Dest → Operation → rule.Rule Statement
Assigned n to PhiWord = Phis n to
Assigned n to CallWord = made (on n) (Called (Some to))
Assigned n to (AllocWord a) = made (on n) (Allocs to a)
Assigned n to (UnaryWord op) = made (on n) (Unaries to op)
Assigned n to (BinaryWord op) = made (on n) (Binaries to op)

inst_line_exact : (n : ℕ) (p : step.Step Inst) (r : rule.Rule Inst) → Exact p r Anything → Exact (blocks.inst_line n p) (made (on n) r) LineEnds
inst_line_exact n p r e = made_exact p r (on n) LineEnds (weaker p r Anything LineEnds (λ s f. tt) e)

assigned_exact : (n : ℕ) (to : Dest) (op : Operation) → Exact (blocks.assigned n to op) (Assigned n to op) LineEnds
assigned_exact n to PhiWord = made_exact _ _ (λ args. PhiLine (record { line = n; to = to; args = args })) LineEnds phi_arguments_exact
assigned_exact n to CallWord = inst_line_exact n (blocks.called (Some to)) (Called (Some to)) (called_exact (Some to))
assigned_exact n to (AllocWord a) = inst_line_exact n (blocks.alloc_to to a) (Allocs to a) (made_exact step.natural rule.natural (Alloc to a) Anything natural_exact)
assigned_exact n to (UnaryWord op) = inst_line_exact n (blocks.unary_to to op) (Unaries to op) (made_exact reading.value grammar.value (Unary to op) Anything value_exact)
assigned_exact n to (BinaryWord op) = inst_line_exact n (blocks.binary_to to op) (Binaries to op) (
    bind reading.value grammar.value _ _ Anything value_exact λ a.
    bind (step.piece Comma) (rule.piece Comma) _ _ Anything (piece_exact Comma) λ _.
    made_exact reading.value grammar.value (Binary to op a) Anything value_exact)

abbrev Assignment : ℕ → rule.Rule Statement
Assignment n = rule.◌>>=◌ grammar.destination λ to. rule.◌>>=◌ Operations λ op. Assigned n to op

assignment_exact : (n : ℕ) → Exact (blocks.assignment n) (Assignment n) LineEnds
assignment_exact n =
    bind reading.destination grammar.destination _ _ LineEnds destination_exact λ to.
    bind (step.keyword blocks.operation_of) Operations _ _ LineEnds operation_exact λ op.
    assigned_exact n to op

abbrev PlainCall : rule.Rule Inst
PlainCall = rule.◌>>◌ (rule.word (codes "call")) (Called None)

abbrev Effect : rule.Rule Inst
Effect = rule.◌∥◌ grammar.storing (rule.◌∥◌ grammar.blit PlainCall)

effect_exact : Exact blocks.effect Effect Anything
effect_exact =
    either_exact (reading.sees_word (λ text. is_some (reading.store_of text))) _ _ _ _ Anything
    (λ s i s' h. sees_word_of (λ text. is_some (reading.store_of text)) s (store_word h.0) h.1 h.2 ∙ store_head h.0)
    (λ s i s' h. ⊎_elim
    (λ w. sees_word_of (λ text. is_some (reading.store_of text)) s (codes "blit") w.1 w.2)
    (λ w. sees_word_of (λ text. is_some (reading.store_of text)) s (codes "call") w.1 w.2) h)
    storing_exact
    (either_exact (reading.sees_word (reading.is_text (codes "blit"))) _ _ _ _ Anything
    (λ s i s' h. sees_word_of (reading.is_text (codes "blit")) s (codes "blit") h.1 h.2)
    (λ s i s' h. sees_word_of (reading.is_text (codes "blit")) s (codes "call") h.1 h.2)
    blit_exact
    (bind (step.word (codes "call")) (rule.word (codes "call")) _ _ Anything (word_exact (codes "call")) λ _. called_exact None))

effect_no_temp : (s : State) (i : Inst) (s' : State) → Effect s i s' → step.sees reading.is_temp s ≡ false
effect_no_temp s i s' h = ⊎_elim
    (λ w. word_no_temp s (store_word w.0) w.1 w.2)
    (λ k. ⊎_elim (λ w. word_no_temp s (codes "blit") w.1 w.2) (λ w. word_no_temp s (codes "call") w.1 w.2) k) h

-- ---- a phi or an instruction

abbrev Factored : rule.Rule Statement
Factored = rule.◌>>=◌ rule.line λ n. rule.◌∥◌ (Assignment n) (made (on n) Effect)

factored_exact : Exact blocks.statement Factored LineEnds
factored_exact =
    bind reading.line rule.line _ _ LineEnds line_exact λ n.
    either_exact (step.sees reading.is_temp) _ _ _ _ LineEnds
    (λ s x s' h. destination_begins s h.0 h.1 h.2)
    (λ s x s' h. effect_no_temp s h.0 h.1 h.2)
    (assignment_exact n)
    (inst_line_exact n blocks.effect Effect effect_exact)

-- a phi or an instruction, as the grammar has them
abbrev pub Statements : rule.Rule Statement
Statements = rule.◌∥◌ (rule.◌>>=◌ grammar.phi (λ p. rule.give (PhiLine p))) (rule.◌>>=◌ grammar.instruction (λ i. rule.give (InstLine i)))

there : (s : State) (x : Statement) (s' : State) → Factored s x s' → Statements s x s'
there s x s' h = ⊎_elim (λ w. at w.0 w.1 w.2 w.3.0 w.3.1 w.3.2 w.3.3) (λ w. ⊎_elim
    (λ e. inst w.0 w.1 (inr (inr (inr (inl e)))) w.3)
    (λ k. ⊎_elim (λ e. inst w.0 w.1 (inr (inr (inr (inr (inl e))))) w.3)
    (λ e. inst w.0 w.1 (inr (inr (inr (inr (inr (None, h.1, refl, e)))))) w.3) k) w.2) h.3
  where
    inst : (i : Inst) (m : State) → rule.◌∥◌ grammar.unary (rule.◌∥◌ grammar.binary (rule.◌∥◌ grammar.allocation (rule.◌∥◌ grammar.storing (rule.◌∥◌ grammar.blit grammar.call)))) h.1 i m
        → (x ≡ on h.0 i) × (s' ≡ m) → Statements s x s'
    inst i m r e = inr (record { line = h.0; item = i }, m, (h.0, h.1, h.2, (i, m, r, (refl, refl))), e)

    at : (to : Dest) (m : State) → grammar.destination h.1 to m → (op : Operation) (n : State) → Operations m op n → Assigned h.0 to op n x s' → Statements s x s'
    at to m d PhiWord n o r = inl (record { line = h.0; to = to; args = r.0 }, r.1, (h.0, h.1, h.2, (to, m, d, (tt, n, o, (r.0, r.1, r.2, (refl, refl))))), r.3)
    at to m d CallWord n o r = inst r.0 r.1 (inr (inr (inr (inr (inr (Some to, m, d, (tt, n, o, r.2))))))) r.3
    at to m d (AllocWord a) n o r = inst r.0 r.1 (inr (inr (inl (to, m, d, (a, n, o, r.2))))) r.3
    at to m d (UnaryWord op) n o r = inst r.0 r.1 (inl (to, m, d, (op, n, o, r.2))) r.3
    at to m d (BinaryWord op) n o r = inst r.0 r.1 (inr (inl (to, m, d, (op, n, o, r.2)))) r.3

back : (s : State) (x : Statement) (s' : State) → Statements s x s' → Factored s x s'
back s x s' h = ⊎_elim
    (λ w. let p = w.2 in
    let r = p.3.3.3 in
    (p.0, p.1, p.2, inl (p.3.0, p.3.1, p.3.2, (PhiWord, p.3.3.1, p.3.3.2, (r.0, r.1, r.2, (w.3.0 ∙ ap PhiLine r.3.0, w.3.1 ∙ r.3.1))))))
    (λ w. let p = w.2 in
    let r = p.3 in
    (p.0, p.1, p.2, inst p.0 p.1 r.0 r.1 r.2 (w.3.0 ∙ ap InstLine r.3.0, w.3.1 ∙ r.3.1))) h
  where
    called : (n : ℕ) (s : State) (i : Inst) (m : State) (to : Option Dest) (a b : State) → rule.maybe grammar.destination s to a → rule.word (codes "call") a tt b → Called to b i m
        → (x ≡ on n i) × (s' ≡ m) → rule.◌∥◌ (Assignment n) (made (on n) Effect) s x s'
    called n s i m None a b d w c e = inr (i, m, inr (inr (tt, b, subst (λ a. rule.word (codes "call") a tt b) d w, c)), e)
    called n s i m (Some to) a b d w c e = inl (to, a, d, (CallWord, b, w, (i, m, c, e)))

    inst : (n : ℕ) (s : State) (i : Inst) (m : State) → rule.◌∥◌ grammar.unary (rule.◌∥◌ grammar.binary (rule.◌∥◌ grammar.allocation (rule.◌∥◌ grammar.storing (rule.◌∥◌ grammar.blit grammar.call)))) s i m
        → (x ≡ on n i) × (s' ≡ m) → rule.◌∥◌ (Assignment n) (made (on n) Effect) s x s'
    inst n s i m r e = ⊎_elim
        (λ u. inl (u.0, u.1, u.2, (UnaryWord u.3.0, u.3.1, u.3.2, (i, m, u.3.3, e))))
        (λ k. ⊎_elim (λ u. inl (u.0, u.1, u.2, (BinaryWord u.3.0, u.3.1, u.3.2, (i, m, u.3.3, e))))
        (λ k. ⊎_elim (λ u. inl (u.0, u.1, u.2, (AllocWord u.3.0, u.3.1, u.3.2, (i, m, u.3.3, e))))
        (λ k. ⊎_elim (λ u. inr (i, m, inl u, e))
        (λ k. ⊎_elim (λ u. inr (i, m, inr (inl u), e))
        (λ u. called n s i m u.0 u.1 u.3.1 u.2 u.3.2 u.3.3 e) k) k) k) k) r

pub statement_exact : Exact blocks.statement Statements LineEnds
statement_exact = said blocks.statement Factored Statements LineEnds there back factored_exact
