-- The lines of a block, and blocks.
use Rattle.std.proofs.Common.{◌≡◌, inl, inr, ℕ, zero, suc, ◌<◌, Bool, true, false, cond, List, [], ◌∷◌, length, Option, Some, None, refl, sym, ap, ◌∙◌, arith, ⊎_elim, subst, not, codes, option_and_then}
use Rattle.std.proofs.lemmas.Bool.{false≢true}
use Rattle.std.proofs.lemmas.Option.{option_and_then_some, some_pair_parts, none-some}
use Rattle.il_lex.proofs.Runs.{cond_cases}
use Rattle.il_lex.specs.declared.kind.Symbol.TheVariants.{RightBrace}
use Rattle.il_lex.specs.declared.kind.Kind.{Kind}
use Rattle.il_lex.specs.declared.kind.Kind.TheVariants.{Symbol, Natural, Negative, Temp as TempKind, Global as GlobalKind, Label as LabelKind, Word as WordKind, Quoted, Newline}
use Rattle.il_lex.specs.declared.scan.Ahead.{Ahead}
use Rattle.il_lex.specs.declared.scan.Ahead.TheVariants.{End, Bad, Found}
use Rattle.il_lex.specs.Scan.{scan}
use Rattle.il_ast.specs.declared.operation.Size.{Size}
use Rattle.il_ast.specs.declared.operation.Size.TheVariants.{Byte, Half, Word, Long}
use Rattle.il_ast.specs.declared.operand.Dest.{Dest}
use Rattle.il_ast.specs.declared.block.Phi.{Phi}
use Rattle.il_ast.specs.declared.block.Block.{Block}
use Rattle.il_ast.specs.declared.instruction.Lined.{Lined}
use Rattle.il_ast.specs.declared.instruction.Inst.{Inst}
use Rattle.il_ast.specs.declared.instruction.Jump.{Jump}
use Rattle.il_reader.specs.declared.statement.Statement.{Statement}
use Rattle.il_reader.specs.declared.statement.Statement.TheVariants.{Phi as PhiLine, Inst as InstLine}
use Rattle.il_reader.specs.Prelude.{State, store_word}
use Rattle.il_reader.specs.Rules as rule
use Rattle.il_reader.specs.Grammar as grammar
use Rattle.il_reader.specs.Reads as reads
use Rattle.il_reader.specs.Steps as step
use Rattle.il_reader.specs.Reading as reading
use Rattle.il_reader.specs.Blocks as blocks
use Rattle.il_reader.proofs.Exact.{Exact, said, weaker, bind, bind_before, sees_token}
use Rattle.il_reader.proofs.Tokens.{label_exact}
use Rattle.il_reader.proofs.Lists.{maybe_exact}
use Rattle.il_reader.proofs.Jumps.{sees_word_of}
use Rattle.il_reader.proofs.KindTests.{apart}
use Rattle.il_reader.proofs.Statements.{line_exact, LineGoesOn, line_ends_exact, on_line_exact, jump_line_exact}
use Rattle.il_reader.proofs.ExactStatements.{word_no_temp, destination_begins, Statements, statement_exact, made_exact}
use Rattle.il_reader.proofs.Shorter.{on_line_shortens, keeps, phi_shortens, instruction_keeps}

-- ---- one line

abbrev Line : rule.Rule Statement
Line s (PhiLine p) s' = reads.on_line grammar.phi s p s'
Line s (InstLine i) s' = reads.on_line grammar.instruction s i s'

same_phi : (p q : Phi) (x : Statement) → PhiLine p ≡ x → x ≡ PhiLine q → p ≡ q
same_phi p q x e f = let g : PhiLine p ≡ PhiLine q = e ∙ f in cc

same_inst : (i j : Lined Inst) (x : Statement) → InstLine i ≡ x → x ≡ InstLine j → i ≡ j
same_inst i j x e f = let g : InstLine i ≡ InstLine j = e ∙ f in cc

phi_is_no_inst : {A : Type 0} (p : Phi) (i : Lined Inst) (x : Statement) → PhiLine p ≡ x → x ≡ InstLine i → A
phi_is_no_inst p i x e f = let g : PhiLine p ≡ InstLine i = e ∙ f in absurd (cc)

inst_is_no_phi : {A : Type 0} (p : Phi) (i : Lined Inst) (x : Statement) → InstLine i ≡ x → x ≡ PhiLine p → A
inst_is_no_phi p i x e f = let g : InstLine i ≡ PhiLine p = e ∙ f in absurd (cc)

there : (s : State) (x : Statement) (s' : State) → reads.on_line Statements s x s' → Line s x s'
there s (PhiLine p) s' h = ⊎_elim
    (λ w. let same = same_phi p w.0 h.0 h.3.3.0 w.3.0 in
    (p, h.1, subst (λ m. grammar.phi s p m) (sym w.3.1) (subst (λ q. grammar.phi s q w.1) (sym same) w.2), (h.3.0, h.3.1, h.3.2, (refl, h.3.3.1))))
    (λ w. phi_is_no_inst p w.0 h.0 h.3.3.0 w.3.0) h.2
there s (InstLine i) s' h = ⊎_elim
    (λ w. inst_is_no_phi w.0 i h.0 h.3.3.0 w.3.0)
    (λ w. let same = same_inst i w.0 h.0 h.3.3.0 w.3.0 in
    (i, h.1, subst (λ m. grammar.instruction s i m) (sym w.3.1) (subst (λ q. grammar.instruction s q w.1) (sym same) w.2), (h.3.0, h.3.1, h.3.2, (refl, h.3.3.1)))) h.2

back : (s : State) (x : Statement) (s' : State) → Line s x s' → reads.on_line Statements s x s'
back s (PhiLine p) s' h = (PhiLine h.0, h.1, inl (h.0, h.1, h.2, (refl, refl)), (h.3.0, h.3.1, h.3.2, (ap PhiLine h.3.3.0, h.3.3.1)))
back s (InstLine i) s' h = (InstLine h.0, h.1, inr (h.0, h.1, h.2, (refl, refl)), (h.3.0, h.3.1, h.3.2, (ap InstLine h.3.3.0, h.3.3.1)))

statement_line_exact : Exact (reading.on_line blocks.statement) Line LineGoesOn
statement_line_exact = said (reading.on_line blocks.statement) (reads.on_line Statements) Line LineGoesOn there back (on_line_exact blocks.statement Statements statement_exact)

-- ---- how lines begin

temp_sees : (s : State) → step.sees reading.is_temp s ≡ true → blocks.sees_statement s ≡ true
temp_sees s h = ap (λ b. cond b true (reading.sees_word (λ text. not (blocks.is_jump text)) s)) h

word_sees : (text : List ℕ) (b : Bool) → not (blocks.is_jump text) ≡ b → (s s' : State) → rule.token WordKind s text s' → blocks.sees_statement s ≡ b
word_sees text b e s s' h =
    ap (λ t. cond t true (reading.sees_word (λ text. not (blocks.is_jump text)) s)) (word_no_temp s text s' h)
    ∙ sees_word_of (λ text. not (blocks.is_jump text)) s text s' h ∙ e

destination_sees : (s : State) (to : Dest) (s' : State) → grammar.destination s to s' → blocks.sees_statement s ≡ true
destination_sees s to s' h = temp_sees s (destination_begins s to s' h)

store_no_jump : (c : Size) → not (blocks.is_jump (store_word c)) ≡ true
store_no_jump Byte = refl
store_no_jump Half = refl
store_no_jump Word = refl
store_no_jump Long = refl

phi_sees : (s : State) (p : Phi) (s' : State) → grammar.phi s p s' → blocks.sees_statement s ≡ true
phi_sees s p s' h = subst (λ s. blocks.sees_statement s ≡ true) h.2.1 (destination_sees h.1 h.3.0 h.3.1 h.3.2)

instruction_sees : (s : State) (i : Lined Inst) (s' : State) → grammar.instruction s i s' → blocks.sees_statement s ≡ true
instruction_sees s i s' h = subst (λ s. blocks.sees_statement s ≡ true) h.2.1 (⊎_elim
    (λ w. destination_sees h.1 w.0 w.1 w.2) (λ k. ⊎_elim
    (λ w. destination_sees h.1 w.0 w.1 w.2) (λ k. ⊎_elim
    (λ w. destination_sees h.1 w.0 w.1 w.2) (λ k. ⊎_elim
    (λ w. word_sees (store_word w.0) true (store_no_jump w.0) h.1 w.1 w.2) (λ k. ⊎_elim
    (λ w. word_sees (codes "blit") true refl h.1 w.1 w.2)
    (λ w. called h.1 w.0 w.1 w.2 w.3.1 w.3.2) k) k) k) k) h.3.2)
  where
    called : (s : State) (to : Option Dest) (m : State) → rule.maybe grammar.destination s to m → (m' : State) → rule.word (codes "call") m tt m' → blocks.sees_statement s ≡ true
    called s None m d m' w = word_sees (codes "call") true refl s m' (subst (λ m. rule.word (codes "call") m tt m') d w)
    called s (Some to) m d m' w = destination_sees s to m d

-- no line before the jump comes next, and no end of a line
pub record Stops (s : State) : Type 0 where
  pub no_statement : blocks.sees_statement s ≡ false
  pub goes_on : LineGoesOn s

abbrev SeesOf : (List ℕ → Bool) → List ℕ → Ahead → Bool
SeesOf test rest a = cond (step.kind_is reading.is_temp a) true (reading.ahead_is test rest a)

statement_goes_on : (s : State) → blocks.sees_statement s ≡ true → LineGoesOn s
statement_goes_on s h = at (scan s.rest) h
  where
    kind : (k : Kind) (gap len : ℕ) → SeesOf (λ text. not (blocks.is_jump text)) s.rest (Found k gap len) ≡ true → reading.is_newline k ≡ false
    kind (Symbol m) gap len e = refl
    kind Newline gap len e = absurd (false≢true e)
    kind WordKind gap len e = refl
    kind GlobalKind gap len e = refl
    kind TempKind gap len e = refl
    kind LabelKind gap len e = refl
    kind (Natural n) gap len e = refl
    kind (Negative n) gap len e = refl
    kind Quoted gap len e = refl

    at : (a : Ahead) → SeesOf (λ text. not (blocks.is_jump text)) s.rest a ≡ true → step.kind_is reading.is_newline a ≡ false
    at End e = refl
    at Bad e = refl
    at (Found k gap len) e = kind k gap len e

-- ---- the lines before the jump

-- phis, where no instruction has come, and then instructions
abbrev Body : Bool → rule.Rule blocks.Lines
Body begun s x s' = (m : State) × rule.many (reads.on_line grammar.phi) s x.0 m × rule.many (reads.on_line grammar.instruction) m x.1 s' × (begun ≡ true → x.0 ≡ [])

-- a line, and then what is read behind it
before_sound : (more : Bool → step.Step blocks.Lines) → ((begun : Bool) (s : State) (x : blocks.Lines) (s' : State) → more begun s ≡ Some (x, s') → Body begun s x s')
    → (begun : Bool) (y : Statement) (s m : State) (x : blocks.Lines) (s' : State) → Line s y m → blocks.before_lines more begun y m ≡ Some (x, s') → Body begun s x s'
before_sound more each true (PhiLine p) s m x s' l h = absurd (none-some (x, s') h)
before_sound more each false (PhiLine p) s m x s' l h = option_and_then_some (blocks.with_phi p) (more false m) (x, s') h (λ z is whole.
    let b = each false m z.0 z.1 is in
    let parts = some_pair_parts (p ∷ z.0.0, z.0.1) x z.1 s' whole in
    let all : Body false s (p ∷ z.0.0, z.0.1) z.1 = (b.0, (m, l, b.1), b.2, λ e. absurd (false≢true e)) in
    subst (λ z. Body false s z s') parts.0 (subst (Body false s (p ∷ z.0.0, z.0.1)) parts.1 all))
before_sound more each begun (InstLine i) s m x s' l h = option_and_then_some (blocks.with_inst i) (more true m) (x, s') h (λ z is whole.
    let b = each true m z.0 z.1 is in
    let parts = some_pair_parts (z.0.0, i ∷ z.0.1) x z.1 s' whole in
    let first : b.0 ≡ m = subst (λ ps. rule.many (reads.on_line grammar.phi) m ps b.0) (b.3 refl) b.1 in
    let later : rule.many (reads.on_line grammar.instruction) m z.0.1 z.1 = subst (λ m. rule.many (reads.on_line grammar.instruction) m z.0.1 z.1) first b.2 in
    let none : rule.many (reads.on_line grammar.phi) s z.0.0 s = subst (λ ps. rule.many (reads.on_line grammar.phi) s ps s) (sym (b.3 refl)) refl in
    let all : Body begun s (z.0.0, i ∷ z.0.1) z.1 = (s, none, (m, l, later), λ _. b.3 refl) in
    subst (λ z. Body begun s z s') parts.0 (subst (Body begun s (z.0.0, i ∷ z.0.1)) parts.1 all))

lines_sound : (n : ℕ) (begun : Bool) (s : State) (x : blocks.Lines) (s' : State) → blocks.lines n begun s ≡ Some (x, s') → Body begun s x s'
lines_sound zero begun s x s' e = absurd (none-some (x, s') e)
lines_sound (suc n) begun s x s' e = cond_cases (λ o. o ≡ Some (x, s') → Body begun s x s') (blocks.sees_statement s) _ _
    (λ t h. option_and_then_some (λ x. blocks.before_lines (blocks.lines n) begun x.0 x.1) (reading.on_line blocks.statement s) (x, s') h
    (λ y is then'. before_sound (blocks.lines n) (lines_sound n) begun y.0 s y.1 x s' (statement_line_exact.sound s y.0 y.1 is) then'))
    (λ f h. let parts = some_pair_parts ([], []) x s s' h in
    let none : Body begun s ([], []) s = (s, refl, refl, λ _. refl) in
    subst (λ z. Body begun s z s') parts.0 (subst (Body begun s ([], [])) parts.1 none))
    e

-- what comes behind a line
after_phis : (s : State) (ps : List Phi) (m : State) (is : List (Lined Inst)) (s' : State) → rule.many (reads.on_line grammar.phi) s ps m → rule.many (reads.on_line grammar.instruction) m is s'
    → Stops s' → LineGoesOn s
after_phis s (p ∷ ps) m is s' h k f = statement_goes_on s (phi_sees s h.1.0 h.1.1 h.1.2)
after_phis s [] m (i ∷ is) s' h k f = subst LineGoesOn h (statement_goes_on m (instruction_sees m k.1.0 k.1.1 k.1.2))
after_phis s [] m [] s' h k f = subst LineGoesOn (k ∙ h) f.goes_on

lines_complete : (n : ℕ) (begun : Bool) (s : State) (ps : List Phi) (m : State) (is : List (Lined Inst)) (s' : State) → length s.rest < n
    → rule.many (reads.on_line grammar.phi) s ps m → rule.many (reads.on_line grammar.instruction) m is s' → (begun ≡ true → ps ≡ []) → Stops s'
    → blocks.lines n begun s ≡ Some ((ps, is), s')
lines_complete zero begun s ps m is s' l h k b f = absurd (omega arith)
lines_complete (suc n) begun s [] m [] s' l h k b f =
    let same : s' ≡ s = k ∙ h in
    ap (λ t. cond t (option_and_then (λ x. blocks.before_lines (blocks.lines n) begun x.0 x.1) (reading.on_line blocks.statement s)) (Some (([], []), s))) (subst Stops same f).no_statement
    ∙ ap (λ m. Some (([], []), m)) (sym same)
lines_complete (suc n) begun s [] m (i ∷ is) s' l h k b f =
    let line : reads.on_line grammar.instruction s i k.0 = subst (λ m. reads.on_line grammar.instruction m i k.0) h k.1 in
    let shorter = (on_line_shortens grammar.instruction instruction_keeps).less s i k.0 line in
    ap (λ t. cond t (option_and_then (λ x. blocks.before_lines (blocks.lines n) begun x.0 x.1) (reading.on_line blocks.statement s)) (Some (([], []), s))) (instruction_sees s line.0 line.1 line.2)
    ∙ ap (option_and_then (λ x. blocks.before_lines (blocks.lines n) begun x.0 x.1)) (statement_line_exact.complete s (InstLine i) k.0 line (after_phis k.0 [] k.0 is s' refl k.2 f))
    ∙ ap (option_and_then (blocks.with_inst i)) (lines_complete n true k.0 [] k.0 is s' (omega arith) refl k.2 (λ _. refl) f)
lines_complete (suc n) true s (p ∷ ps) m is s' l h k b f = absurd (no_phi (b refl))
  where
    no_phi : p ∷ ps ≡ [] → ⊥
    no_phi e = cc
lines_complete (suc n) false s (p ∷ ps) m is s' l h k b f =
    let shorter = (on_line_shortens grammar.phi (keeps grammar.phi phi_shortens)).less s p h.0 h.1 in
    ap (λ t. cond t (option_and_then (λ x. blocks.before_lines (blocks.lines n) false x.0 x.1) (reading.on_line blocks.statement s)) (Some (([], []), s))) (phi_sees s h.1.0 h.1.1 h.1.2)
    ∙ ap (option_and_then (λ x. blocks.before_lines (blocks.lines n) false x.0 x.1)) (statement_line_exact.complete s (PhiLine p) h.0 h.1 (after_phis h.0 ps m is s' h.2 k f))
    ∙ ap (option_and_then (blocks.with_phi p)) (lines_complete n false h.0 ps m is s' (omega arith) h.2 k (λ e. absurd (false≢true e)) f)

body_exact : Exact blocks.body (Body false) Stops
body_exact = record {
  sound = λ s x s' e. lines_sound (suc (length s.rest)) false s x s' e;
  complete = λ s x s' h f. lines_complete (suc (length s.rest)) false s x.0 h.0 x.1 s' (omega arith) h.1 h.2 h.3 f;
}

-- ---- blocks

-- what comes behind a block: a label, or the closing brace
abbrev pub ends_block : Kind → Bool
ends_block LabelKind = true
ends_block (Symbol RightBrace) = true
ends_block _ = false

abbrev pub BlockEnds : State → Type 0
BlockEnds s = step.sees ends_block s ≡ true

pub ends_no_word : (s : State) → BlockEnds s → step.sees reading.is_word s ≡ false
ends_no_word s h = apart ends_block reading.is_word (refl, refl, refl, refl, refl, refl, refl, refl, refl, refl, refl, refl, λ n. refl, λ n. refl, refl) s h

ends_no_newline : (s : State) → BlockEnds s → LineGoesOn s
ends_no_newline s h = apart ends_block reading.is_newline (refl, refl, refl, refl, refl, refl, refl, refl, refl, refl, refl, refl, λ n. refl, λ n. refl, refl) s h

block_end_stops : (s : State) → BlockEnds s → Stops s
block_end_stops s h = record {
  no_statement = at (scan s.rest) h;
  goes_on = ends_no_newline s h;
}
  where
    kind : (k : Kind) (gap len : ℕ) → ends_block k ≡ true → SeesOf (λ text. not (blocks.is_jump text)) s.rest (Found k gap len) ≡ false
    kind (Symbol m) gap len e = refl
    kind Newline gap len e = refl
    kind WordKind gap len e = absurd (false≢true e)
    kind GlobalKind gap len e = refl
    kind TempKind gap len e = absurd (false≢true e)
    kind LabelKind gap len e = refl
    kind (Natural n) gap len e = refl
    kind (Negative n) gap len e = refl
    kind Quoted gap len e = refl

    at : (a : Ahead) → step.kind_is ends_block a ≡ true → SeesOf (λ text. not (blocks.is_jump text)) s.rest a ≡ false
    at End e = refl
    at Bad e = refl
    at (Found k gap len) e = kind k gap len e

-- a jump begins with a word
jump_begins : (s : State) (j : Lined Jump) (s' : State) → reads.on_line grammar.jump s j s' → (step.sees reading.is_word s ≡ true) × Stops s
jump_begins s j s' h = subst (λ s. (step.sees reading.is_word s ≡ true) × Stops s) h.2.2.1 (⊎_elim
    (λ w. at (codes "jmp") w.1 w.2 refl) (λ k. ⊎_elim
    (λ w. at (codes "jnz") w.1 w.2 refl) (λ k. ⊎_elim
    (λ w. at (codes "ret") w.1 w.2 refl)
    (λ w. at (codes "hlt") w.1 w.2 refl) k) k) h.2.3.2)
  where
    at : (text : List ℕ) (m : State) → rule.token WordKind h.2.1 text m → not (blocks.is_jump text) ≡ false → (step.sees reading.is_word h.2.1 ≡ true) × Stops h.2.1
    at text m t e = (
      sees_token reading.is_word WordKind h.2.1 text m t,
      record { no_statement = word_sees text false e h.2.1 m t; goes_on = sees_token reading.is_newline WordKind h.2.1 text m t },
    )

end_stops : (s : State) (o : Option (Lined Jump)) (s' : State) → rule.maybe (reads.on_line grammar.jump) s o s' → BlockEnds s' → Stops s
end_stops s None s' h f = block_end_stops s (subst BlockEnds h f)
end_stops s (Some j) s' h f = (jump_begins s j s' h).1

end_exact : Exact (step.maybe (step.sees reading.is_word) (reading.on_line (reading.lined reading.jump))) (rule.maybe (reads.on_line grammar.jump)) BlockEnds
end_exact = maybe_exact (step.sees reading.is_word) (reading.on_line (reading.lined reading.jump)) (reads.on_line grammar.jump) BlockEnds
    (λ s j s' h. (jump_begins s j s' h).0)
    ends_no_word
    (weaker (reading.on_line (reading.lined reading.jump)) (reads.on_line grammar.jump) LineGoesOn BlockEnds (λ s h. (block_end_stops s h).goes_on) jump_line_exact)

abbrev Whole : rule.Rule Block
Whole = rule.◌>>=◌ rule.line λ n. rule.◌>>=◌ rule.label λ l. rule.◌>>◌ (rule.some rule.newline)
    (rule.◌>>=◌ (Body false) λ parts. rule.◌>>=◌ (rule.maybe (reads.on_line grammar.jump)) λ end.
    rule.give (record { line = n; label = l; phis = parts.0; insts = parts.1; jump = end }))

whole_exact : Exact blocks.block Whole BlockEnds
whole_exact =
    bind reading.line rule.line _ _ BlockEnds line_exact λ n.
    bind step.label rule.label _ _ BlockEnds label_exact λ l.
    bind_before reading.line_ends (rule.some rule.newline) _ _ LineGoesOn BlockEnds
    (λ x s b s' h f. after_phis s h.0.0 h.2.0 h.0.1 h.1 h.2.1 h.2.2 (end_stops h.1 h.3.0 h.3.1 h.3.2 (subst BlockEnds h.3.3.1 f)))
    line_ends_exact λ _.
    bind_before blocks.body (Body false) _ _ Stops BlockEnds
    (λ x s b s' h f. end_stops s h.0 h.1 h.2 (subst BlockEnds h.3.1 f))
    body_exact λ parts.
    made_exact _ _ (λ end. record { line = n; label = l; phis = parts.0; insts = parts.1; jump = end }) BlockEnds end_exact

pub block_exact : Exact blocks.block reads.block BlockEnds
block_exact = said blocks.block Whole reads.block BlockEnds
    (λ s b s' h. (
      h.0,
      h.1,
      h.2,
      (
        h.3.0,
        h.3.1,
        h.3.2,
        (
          h.3.3.0,
          h.3.3.1,
          h.3.3.2,
          (h.3.3.3.0.0, h.3.3.3.2.0, h.3.3.3.2.1, (h.3.3.3.0.1, h.3.3.3.1, h.3.3.3.2.2, h.3.3.3.3)),
        ),
      ),
    ))
    (λ s b s' h. (
      h.0,
      h.1,
      h.2,
      (
        h.3.0,
        h.3.1,
        h.3.2,
        (
          h.3.3.0,
          h.3.3.1,
          h.3.3.2,
          ((h.3.3.3.0, h.3.3.3.3.0), h.3.3.3.3.1, (h.3.3.3.1, h.3.3.3.2, h.3.3.3.3.2, λ e. absurd (false≢true e)), h.3.3.3.3.3),
        ),
      ),
    ))
    whole_exact
