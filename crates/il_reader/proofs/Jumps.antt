-- Rules of operations' words, and of jumps and the instructions without a destination.
use Rattle.std.proofs.Common.{◌≡◌, ◌⊎◌, inl, inr, ℕ, Bool, true, false, List, [], ◌∷◌, ◌++◌, length, take, drop, Some, refl, sym, ap, ◌∙◌, ⊎_elim, subst, nat_eq, codes, take_at, drop_at}
use Rattle.std.specs.Cmp.Lexicographic.{pointwise, bytes_decides}
use Rattle.std.proofs.lemmas.Option.{same_Some}
use Rattle.il_lex.proofs.Runs.{cond_cases}
use Rattle.il_lex.proofs.Exact.{next_complete}
use Rattle.il_lex.specs.declared.kind.Symbol.TheVariants.{Comma}
use Rattle.il_lex.specs.declared.kind.Kind.TheVariants.{Temp as TempKind, Global as GlobalKind, Word as WordKind}
use Rattle.il_ast.specs.declared.operation.Extension.TheVariants.{SignedWord, UnsignedWord, SignedHalf, UnsignedHalf, SignedByte, UnsignedByte}
use Rattle.il_ast.specs.declared.operation.UnaryOp.{UnaryOp}
use Rattle.il_ast.specs.declared.operation.UnaryOp.TheVariants.{Neg, Copy, Extend, LoadLong, Load}
use Rattle.il_ast.specs.declared.operand.Val.{Val}
use Rattle.il_ast.specs.declared.instruction.Inst.TheVariants.{Store, Blit}
use Rattle.il_ast.specs.declared.instruction.Jump.TheVariants.{Goto, Branch, Return, Halt}
use Rattle.il_reader.specs.Prelude.{State, unary_word}
use Rattle.il_reader.specs.Rules as rule
use Rattle.il_reader.specs.Grammar as grammar
use Rattle.il_reader.specs.Steps as step
use Rattle.il_reader.specs.Reading as reading
use Rattle.il_reader.proofs.Exact.{Exact, Anything, give_exact, weaker, bind, bind_before, either_exact, sees_token}
use Rattle.il_reader.proofs.Tokens.{word_exact, piece_exact, natural_exact, label_exact}
use Rattle.il_reader.proofs.Lists.{maybe_exact}
use Rattle.il_reader.proofs.KindTests.{apart}
use Rattle.il_reader.proofs.Operands.{table_sound, value_exact, store_exact, integer_sees}

-- the words of operations

abbrev unary_rows : List UnaryOp
unary_rows = Neg ∷ Copy
    ∷ Extend SignedWord ∷ Extend UnsignedWord ∷ Extend SignedHalf ∷ Extend UnsignedHalf ∷ Extend SignedByte ∷ Extend UnsignedByte ∷ LoadLong
    ∷ Load SignedWord ∷ Load UnsignedWord ∷ Load SignedHalf ∷ Load UnsignedHalf ∷ Load SignedByte ∷ Load UnsignedByte ∷ []

pub unary_sound : (text : List ℕ) (op : UnaryOp) → reading.unary_of text ≡ Some op → (text ≡ unary_word op) ⊎ ((op ≡ Load SignedWord) × (text ≡ codes "loadw"))
unary_sound text op e =
    cond_cases (λ o. o ≡ Some op → (text ≡ unary_word op) ⊎ ((op ≡ Load SignedWord) × (text ≡ codes "loadw"))) (pointwise nat_eq text (codes "loadw")) (Some (Load SignedWord)) (reading.word_in (reading.table unary_word unary_rows) text)
    (λ t h. inr (sym (same_Some (Load SignedWord) op h), (bytes_decides text (codes "loadw")).0 t))
    (λ n h. inl (table_sound unary_word unary_rows text op h)) e

-- what the next word is where a word is read
pub sees_word_of : (test : List ℕ → Bool) (s : State) (text : List ℕ) (s' : State) → rule.token WordKind s text s' → reading.sees_word test s ≡ test text
sees_word_of test s text s' h =
    let later : drop (length h.0) s.rest ≡ text ++ h.1 = ap (drop (length h.0)) h.2.split ∙ drop_at h.0 (text ++ h.1) (length h.0) refl in
    ap (reading.ahead_is test s.rest) (next_complete s.rest WordKind h.0 text h.1 h.2)
    ∙ ap test (ap (take (length text)) later ∙ take_at text h.1 (length text) refl)

-- the end of a line comes next
abbrev pub LineEnds : State → Type 0
LineEnds s = step.sees reading.is_newline s ≡ true

pub storing_exact : Exact reading.storing grammar.storing Anything
storing_exact =
    bind (step.keyword reading.store_of) grammar.store _ _ Anything store_exact λ size.
    bind reading.value grammar.value _ _ Anything value_exact λ v.
    bind (step.piece Comma) (rule.piece Comma) _ _ Anything (piece_exact Comma) λ _.
    bind reading.value grammar.value _ _ Anything value_exact λ at.
    give_exact (Store size v at)

pub blit_exact : Exact reading.blit grammar.blit Anything
blit_exact =
    bind (step.word (codes "blit")) (rule.word (codes "blit")) _ _ Anything (word_exact (codes "blit")) λ _.
    bind reading.value grammar.value _ _ Anything value_exact λ from.
    bind (step.piece Comma) (rule.piece Comma) _ _ Anything (piece_exact Comma) λ _.
    bind reading.value grammar.value _ _ Anything value_exact λ to.
    bind (step.piece Comma) (rule.piece Comma) _ _ Anything (piece_exact Comma) λ _.
    bind step.natural rule.natural _ _ Anything natural_exact λ count.
    give_exact (Blit from to count)

pub goto_exact : Exact reading.goto grammar.goto Anything
goto_exact =
    bind (step.word (codes "jmp")) (rule.word (codes "jmp")) _ _ Anything (word_exact (codes "jmp")) λ _.
    bind step.label rule.label _ _ Anything label_exact λ l.
    give_exact (Goto l)

pub branch_exact : Exact reading.branch grammar.branch Anything
branch_exact =
    bind (step.word (codes "jnz")) (rule.word (codes "jnz")) _ _ Anything (word_exact (codes "jnz")) λ _.
    bind reading.value grammar.value _ _ Anything value_exact λ v.
    bind (step.piece Comma) (rule.piece Comma) _ _ Anything (piece_exact Comma) λ _.
    bind step.label rule.label _ _ Anything label_exact λ nonzero.
    bind (step.piece Comma) (rule.piece Comma) _ _ Anything (piece_exact Comma) λ _.
    bind step.label rule.label _ _ Anything label_exact λ otherwise.
    give_exact (Branch v nonzero otherwise)

-- no value begins where a line ends
no_value : (s : State) → LineEnds s → step.sees reading.is_value s ≡ false
no_value s h = apart reading.is_newline reading.is_value (refl, refl, refl, refl, refl, refl, refl, refl, refl, refl, refl, refl, λ n. refl, λ n. refl, refl) s h

value_begins : (s : State) (v : Val) (s' : State) → grammar.value s v s' → step.sees reading.is_value s ≡ true
value_begins s v s' h = ⊎_elim
    (λ w. integer_sees reading.is_value true (λ n. refl) (λ n. refl) s w.0 w.1 w.2)
    (λ k. ⊎_elim
    (λ w. sees_token reading.is_value TempKind s (37 ∷ w.2.0) w.2.1 w.2.2)
    (λ w. sees_token reading.is_value GlobalKind s (36 ∷ w.2.0) w.2.1 w.2.2) k) h

pub returning_exact : Exact reading.returning grammar.returning LineEnds
returning_exact =
    bind (step.word (codes "ret")) (rule.word (codes "ret")) _ _ LineEnds (word_exact (codes "ret")) λ _.
    bind_before (step.maybe (step.sees reading.is_value) reading.value) (rule.maybe grammar.value) (λ v. step.give (Return v)) (λ v. rule.give (Return v)) LineEnds LineEnds
    (λ v s y s' h f. subst LineEnds h.1 f)
    (maybe_exact (step.sees reading.is_value) reading.value grammar.value LineEnds value_begins no_value
    (weaker reading.value grammar.value Anything LineEnds (λ s f. tt) value_exact))
    (λ v. weaker (step.give (Return v)) (rule.give (Return v)) Anything LineEnds (λ s f. tt) (give_exact (Return v)))

pub halt_exact : Exact reading.halt grammar.halt Anything
halt_exact =
    bind (step.word (codes "hlt")) (rule.word (codes "hlt")) _ _ Anything (word_exact (codes "hlt")) λ _.
    give_exact Halt

pub jump_exact : Exact reading.jump (rule.◌∥◌ grammar.goto (rule.◌∥◌ grammar.branch (rule.◌∥◌ grammar.returning grammar.halt))) LineEnds
jump_exact =
    either_exact (reading.sees_word (reading.is_text (codes "jmp"))) _ _ _ _ LineEnds
    (λ s x s' h. sees_word_of (reading.is_text (codes "jmp")) s (codes "jmp") h.1 h.2)
    (λ s x s' h. ⊎_elim
    (λ w. sees_word_of (reading.is_text (codes "jmp")) s (codes "jnz") w.1 w.2)
    (λ k. ⊎_elim
    (λ w. sees_word_of (reading.is_text (codes "jmp")) s (codes "ret") w.1 w.2)
    (λ w. sees_word_of (reading.is_text (codes "jmp")) s (codes "hlt") w.1 w.2) k) h)
    (weaker reading.goto grammar.goto Anything LineEnds (λ s f. tt) goto_exact)
    (either_exact (reading.sees_word (reading.is_text (codes "jnz"))) _ _ _ _ LineEnds
    (λ s x s' h. sees_word_of (reading.is_text (codes "jnz")) s (codes "jnz") h.1 h.2)
    (λ s x s' h. ⊎_elim
    (λ w. sees_word_of (reading.is_text (codes "jnz")) s (codes "ret") w.1 w.2)
    (λ w. sees_word_of (reading.is_text (codes "jnz")) s (codes "hlt") w.1 w.2) h)
    (weaker reading.branch grammar.branch Anything LineEnds (λ s f. tt) branch_exact)
    (either_exact (reading.sees_word (reading.is_text (codes "ret"))) _ _ _ _ LineEnds
    (λ s x s' h. sees_word_of (reading.is_text (codes "ret")) s (codes "ret") h.1 h.2)
    (λ s x s' h. sees_word_of (reading.is_text (codes "ret")) s (codes "hlt") h.1 h.2)
    returning_exact
    (weaker reading.halt grammar.halt Anything LineEnds (λ s f. tt) halt_exact)))
