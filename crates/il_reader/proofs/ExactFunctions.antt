-- Functions.
use Rattle.std.proofs.Common.{◌≡◌, ℕ, Bool, true, false, List, [], ◌∷◌, length, arith, Option, Some, refl, sym, ap, ◌∙◌, subst, codes}
use Rattle.std.proofs.lemmas.Option.{some_pair_parts}
use Rattle.il_lex.specs.declared.kind.Symbol.TheVariants.{Comma, LeftBrace, RightBrace, LeftParen, RightParen}
use Rattle.il_lex.specs.declared.kind.Kind.{Kind}
use Rattle.il_lex.specs.declared.kind.Kind.TheVariants.{Symbol, Global as GlobalKind, Label as LabelKind, Word as WordKind}
use Rattle.il_ast.specs.declared.operation.Class.{Class}
use Rattle.il_ast.specs.declared.block.Block.{Block}
use Rattle.il_ast.specs.declared.function.Param.{Param}
use Rattle.il_ast.specs.declared.function.Func.{Func}
use Rattle.il_ast.specs.declared.text.Definition.{Definition}
use Rattle.il_ast.specs.declared.text.Definition.TheVariants.{Function}
use Rattle.il_reader.specs.Prelude.{State, class_word, FunctionParts, function_parts}
use Rattle.il_reader.specs.Rules as rule
use Rattle.il_reader.specs.Grammar as grammar
use Rattle.il_reader.specs.Reads as reads
use Rattle.il_reader.specs.Steps as step
use Rattle.il_reader.specs.Reading as reading
use Rattle.il_reader.specs.Blocks as blocks
use Rattle.il_reader.specs.Definitions as definitions
use Rattle.il_reader.proofs.Exact.{Exact, Anything, give_exact, weaker, bind, bind_before, sees_token, many_exact}
use Rattle.il_reader.proofs.Tokens.{word_exact, piece_exact, temp_exact, symbol_exact}
use Rattle.il_reader.proofs.Lists.{or_nothing, maybe_exact, commas_exact}
use Rattle.il_reader.proofs.Operands.{class_exact}
use Rattle.il_reader.proofs.ArgumentLists.{Closing, is_closing, closing_no_comma, closing_no_word, comma_begins}
use Rattle.il_reader.proofs.Statements.{line_exact, LineGoesOn, line_ends_exact, newlines_exact}
use Rattle.il_reader.proofs.ExactStatements.{made_exact}
use Rattle.il_reader.proofs.ExactBlocks.{ends_block, BlockEnds, block_exact}
use Rattle.il_reader.proofs.KindTests.{apart, within}
use Rattle.il_reader.proofs.Shorter.{Keeps, Shortens, keeps, give_keeps, line_keeps, then_keeps, first_shortens, second_shortens, maybe_keeps, many_keeps, listed_keeps, comma_keeps, some_shortens, piece_shortens, word_shortens, symbol_shortens, newline_shortens, newlines_keep, label_shortens, class_shortens, temp_shortens, on_line_shortens, phi_shortens, instruction_keeps, jump_keeps}

-- ---- parameters

pub class_begins : (s : State) (c : Class) (s' : State) → grammar.class s c s' → step.sees reading.is_word s ≡ true
class_begins s c s' h = sees_token reading.is_word WordKind s (class_word c) s' h

parameter_exact : Exact definitions.parameter reads.parameter Anything
parameter_exact =
    bind reading.line rule.line _ _ Anything line_exact λ n.
    bind reading.class grammar.class _ _ Anything class_exact λ c.
    bind step.temp rule.temp _ _ Anything temp_exact λ t.
    give_exact (record { line = n; temp = t; class = c })

parameter_begins : (s : State) (p : Param) (s' : State) → reads.parameter s p s' → step.sees reading.is_word s ≡ true
parameter_begins s p s' h = subst (λ s. step.sees reading.is_word s ≡ true) h.2.1 (class_begins h.1 h.3.0 h.3.1 h.3.2)

pub parameter_shortens : Shortens reads.parameter
parameter_shortens =
    second_shortens rule.line _ line_keeps λ n.
    first_shortens grammar.class _ class_shortens λ c.
    then_keeps rule.temp _ (keeps rule.temp temp_shortens) λ t. give_keeps _

parameters_exact : Exact definitions.parameters (rule.listed grammar.comma reads.parameter) Closing
parameters_exact = or_nothing (step.sees reading.is_word) _ _ [] Closing
    (λ s xs s' h. parameter_begins s h.0 h.1 h.2)
    closing_no_word
    (commas_exact (step.sees reading.is_comma) (step.sees reading.is_word) reading.comma grammar.comma definitions.parameter reads.parameter Anything Anything Closing
    comma_begins parameter_begins
    closing_no_comma
    closing_no_word
    (piece_shortens Comma).less parameter_shortens.less (λ s h. tt) (λ s h. tt) (λ s h. tt) (λ s h. tt)
    (piece_exact Comma) parameter_exact)

abbrev pub Params : rule.Rule (List Param)
Params = rule.◌>>◌ (rule.piece LeftParen) (rule.◌>>=◌ (rule.listed grammar.comma reads.parameter) λ params.
    rule.◌>>◌ (rule.piece RightParen) (rule.◌>>◌ rule.newlines (rule.give params)))

params_exact : Exact definitions.function_params Params LineGoesOn
params_exact =
    bind (step.piece LeftParen) (rule.piece LeftParen) _ _ LineGoesOn (piece_exact LeftParen) λ _.
    bind_before definitions.parameters (rule.listed grammar.comma reads.parameter) _ _ Closing LineGoesOn
    (λ params s y s' h f. sees_token is_closing (Symbol RightParen) s h.2.0 h.2.1 h.2.2)
    parameters_exact λ params.
    bind (step.piece RightParen) (rule.piece RightParen) _ _ LineGoesOn (piece_exact RightParen) λ _.
    made_exact definitions.newlines rule.newlines (λ _. params) LineGoesOn newlines_exact

-- ---- the head

forget_exact : Exact definitions.forget_names rule.forget_names Anything
forget_exact = record {
  sound = λ s x s' e. sym (some_pair_parts tt x (record s { temps = []; labels = [] }) s' e).1;
  complete = λ s x s' h f. ap (λ m. Some (tt, m)) (sym h);
}

names_exact : Exact definitions.function_names rule.function_names Anything
names_exact = record {
  sound = λ s x s' e. let parts = some_pair_parts (s.temps, s.labels) x s s' e in (sym parts.0, sym parts.1);
  complete = λ s x s' h f. ap (λ z. Some (z, s)) (sym h.0) ∙ ap (λ z. Some (x, z)) (sym h.1);
}

abbrev NoWord : State → Type 0
NoWord s = step.sees reading.is_word s ≡ false

abbrev pub Head : rule.Rule (Option Class × (ℕ × ℕ))
Head = rule.◌>>◌ (rule.word (codes "function")) (rule.◌>>◌ rule.forget_names (rule.◌>>=◌ (rule.maybe grammar.class) λ result.
    rule.◌>>=◌ rule.line λ n. rule.◌>>=◌ rule.symbol λ name. rule.give (result, (n, name))))

head_exact : Exact definitions.function_head Head Anything
head_exact =
    bind (step.word (codes "function")) (rule.word (codes "function")) _ _ Anything (word_exact (codes "function")) λ _.
    bind definitions.forget_names rule.forget_names _ _ Anything forget_exact λ _.
    bind_before (step.maybe (step.sees reading.is_word) reading.class) (rule.maybe grammar.class) _ _ NoWord Anything
    (λ result s y s' h f. subst NoWord h.2.1 (sees_token reading.is_word GlobalKind h.1 (36 ∷ h.3.2.0) h.3.2.1 h.3.2.2))
    (maybe_exact (step.sees reading.is_word) reading.class grammar.class NoWord class_begins (λ s h. h)
    (weaker reading.class grammar.class Anything NoWord (λ s h. tt) class_exact)) λ result.
    bind reading.line rule.line _ _ Anything line_exact λ n.
    bind step.symbol rule.symbol _ _ Anything symbol_exact λ name.
    give_exact (result, (n, name))

-- ---- the blocks

abbrev pub is_brace : Kind → Bool
is_brace (Symbol RightBrace) = true
is_brace _ = false

-- a closing brace comes next
abbrev pub BraceNext : State → Type 0
BraceNext s = step.sees is_brace s ≡ true

block_begins : (s : State) (b : Block) (s' : State) → reads.block s b s' → step.sees reading.is_label s ≡ true
block_begins s b s' h = subst (λ s. step.sees reading.is_label s ≡ true) h.2.1 (sees_token reading.is_label LabelKind h.1 (64 ∷ h.3.2.0) h.3.2.1 h.3.2.2)

pub block_shortens : Shortens reads.block
block_shortens =
    second_shortens rule.line _ line_keeps λ n.
    first_shortens rule.label _ label_shortens λ l.
    then_keeps (rule.some rule.newline) _ (keeps _ (some_shortens rule.newline newline_shortens)) λ _.
    then_keeps (rule.many (reads.on_line grammar.phi)) _ (many_keeps _ (keeps _ (on_line_shortens grammar.phi (keeps grammar.phi phi_shortens)))) λ phis.
    then_keeps (rule.many (reads.on_line grammar.instruction)) _ (many_keeps _ (keeps _ (on_line_shortens grammar.instruction instruction_keeps))) λ insts.
    then_keeps (rule.maybe (reads.on_line grammar.jump)) _ (maybe_keeps _ (keeps _ (on_line_shortens grammar.jump jump_keeps))) λ end.
    give_keeps _

label_ends : (s : State) → step.sees reading.is_label s ≡ true → BlockEnds s
label_ends s h = within reading.is_label ends_block (refl, refl, refl, refl, refl, refl, refl, refl, refl, refl, refl, refl, λ n. refl, λ n. refl, refl) s h

brace_ends : (s : State) → BraceNext s → BlockEnds s
brace_ends s h = within is_brace ends_block (refl, refl, refl, refl, refl, refl, refl, refl, refl, refl, refl, refl, λ n. refl, λ n. refl, refl) s h

brace_no_label : (s : State) → BraceNext s → step.sees reading.is_label s ≡ false
brace_no_label s h = apart is_brace reading.is_label (refl, refl, refl, refl, refl, refl, refl, refl, refl, refl, refl, refl, λ n. refl, λ n. refl, refl) s h

label_goes_on : (s : State) → step.sees reading.is_label s ≡ true → LineGoesOn s
label_goes_on s h = apart reading.is_label reading.is_newline (refl, refl, refl, refl, refl, refl, refl, refl, refl, refl, refl, refl, λ n. refl, λ n. refl, refl) s h

more_exact : Exact (step.many (step.sees reading.is_label) blocks.block) (rule.many reads.block) BraceNext
more_exact = many_exact (step.sees reading.is_label) blocks.block reads.block BlockEnds BraceNext
    block_begins brace_no_label block_shortens.less label_ends brace_ends block_exact

blocks_exact : Exact definitions.blocks (rule.some reads.block) BraceNext
blocks_exact =
    bind_before blocks.block reads.block _ _ BlockEnds BraceNext
    (λ b s bs s' h f. before s h.0 h.1 h.2 (subst BraceNext h.3.1 f)) block_exact λ b.
    made_exact (step.many (step.sees reading.is_label) blocks.block) (rule.many reads.block) (λ bs. b ∷ bs) BraceNext more_exact
  where
    before : (s : State) (bs : List Block) (s' : State) → rule.many reads.block s bs s' → BraceNext s' → BlockEnds s
    before s [] s' h f = brace_ends s (subst BraceNext h f)
    before s (b ∷ bs) s' h f = label_ends s (block_begins s b h.0 h.1)

abbrev pub Blocks : rule.Rule (List Block)
Blocks = rule.◌>>◌ (rule.piece LeftBrace) (rule.◌>>◌ (rule.some rule.newline) (rule.◌>>=◌ (rule.some reads.block) λ bs.
    rule.◌>>◌ (rule.piece RightBrace) (rule.give (reads.falling bs))))

body_exact : Exact definitions.function_body Blocks Anything
body_exact =
    bind (step.piece LeftBrace) (rule.piece LeftBrace) _ _ Anything (piece_exact LeftBrace) λ _.
    bind_before reading.line_ends (rule.some rule.newline) _ _ LineGoesOn Anything
    (λ _ s y s' h f. label_goes_on s (block_begins s h.2.0 h.2.1 h.2.2)) line_ends_exact λ _.
    bind_before definitions.blocks (rule.some reads.block) _ _ BraceNext Anything
    (λ bs s y s' h f. sees_token is_brace (Symbol RightBrace) s h.2.0 h.2.1 h.2.2) blocks_exact λ bs.
    bind (step.piece RightBrace) (rule.piece RightBrace) _ _ Anything (piece_exact RightBrace) λ _.
    give_exact (reads.falling bs)

-- ---- functions

-- the parts of a function
abbrev pub Functions : Bool → rule.Rule FunctionParts
Functions exported = rule.◌>>=◌ Head λ head. rule.◌>>=◌ Params λ params. rule.◌>>=◌ Blocks λ bs. rule.◌>>=◌ rule.function_names λ names.
    rule.give (record {
      line = head.1.0;
      exported = exported;
      name = head.1.1;
      result = head.0;
      params = params;
      blocks = bs;
      temps = names.0;
      labels = names.1;
    })

pub functions_exact : (exported : Bool) → Exact (definitions.function exported) (Functions exported) Anything
functions_exact exported =
    bind definitions.function_head Head _ _ Anything head_exact λ head.
    bind_before definitions.function_params Params _ _ LineGoesOn Anything
    (λ params s y s' h f. sees_token reading.is_newline (Symbol LeftBrace) s h.2.2.0 h.2.2.1 h.2.2.2) params_exact λ params.
    bind definitions.function_body Blocks _ _ Anything body_exact λ bs.
    bind definitions.function_names rule.function_names _ _ Anything names_exact λ names.
    give_exact (record {
      line = head.1.0;
      exported = exported;
      name = head.1.1;
      result = head.0;
      params = params;
      blocks = bs;
      temps = names.0;
      labels = names.1;
    })

forget_keeps : Keeps rule.forget_names
forget_keeps = record { no_more = λ s x s' h. let e : length s'.rest ≡ length s.rest = ap (λ m. length m.rest) h in omega arith }

names_keep : Keeps rule.function_names
names_keep = record { no_more = λ s x s' h. let e : length s'.rest ≡ length s.rest = ap (λ m. length m.rest) h.1 in omega arith }

pub functions_shorten : (exported : Bool) → Shortens (Functions exported)
functions_shorten exported =
    first_shortens Head _ (first_shortens (rule.word (codes "function")) _ (word_shortens (codes "function")) λ _.
    then_keeps rule.forget_names _ forget_keeps λ _.
    then_keeps (rule.maybe grammar.class) _ (maybe_keeps grammar.class (keeps grammar.class class_shortens)) λ result.
    then_keeps rule.line _ line_keeps λ n.
    then_keeps rule.symbol _ (keeps rule.symbol symbol_shortens) λ name. give_keeps _) λ head.
    then_keeps Params _ (then_keeps (rule.piece LeftParen) _ (keeps _ (piece_shortens LeftParen)) λ _.
    then_keeps (rule.listed grammar.comma reads.parameter) _ (listed_keeps grammar.comma reads.parameter comma_keeps parameter_shortens) λ params.
    then_keeps (rule.piece RightParen) _ (keeps _ (piece_shortens RightParen)) λ _.
    then_keeps rule.newlines _ newlines_keep λ _. give_keeps params) λ params.
    then_keeps Blocks _ (then_keeps (rule.piece LeftBrace) _ (keeps _ (piece_shortens LeftBrace)) λ _.
    then_keeps (rule.some rule.newline) _ (keeps _ (some_shortens rule.newline newline_shortens)) λ _.
    then_keeps (rule.some reads.block) _ (keeps _ (some_shortens reads.block block_shortens)) λ bs.
    then_keeps (rule.piece RightBrace) _ (keeps _ (piece_shortens RightBrace)) λ _. give_keeps _) λ bs.
    then_keeps rule.function_names _ names_keep λ names. give_keeps _

-- what has the parts is read
pub function_there : (exported : Bool) (s : State) (f : Func) (s' : State) → Functions exported s (function_parts f) s' → reads.function exported s (Function f) s'
function_there exported s f s' h =
    let a = h.2 in
    let c = a.3.3 in
    let v = c.3.3 in
    let p = h.3.2 in
    let q = p.3.3.3 in
    let b = h.3.3.2 in
    let d = b.3.3 in
    let n = h.3.3.3 in
    let end : h.1 ≡ v.1 = v.3.1 in
    let parts = n.3.0 in
    let opened : rule.piece LeftParen v.1 tt p.1 = subst (λ m. rule.piece LeftParen m tt p.1) v.3.1 p.2 in
    let body : rule.piece LeftBrace q.1 tt b.1 = subst (λ m. rule.piece LeftBrace m tt b.1) q.3.1 b.2 in
    let last : rule.function_names d.3.1 n.0 n.1 = subst (λ m. rule.function_names m n.0 n.1) d.3.3.1 n.2 in (
      a.0,
      a.1,
      a.2,
      (
        a.3.0,
        a.3.1,
        a.3.2,
        (
          c.0,
          c.1,
          c.2,
          (
            c.3.0,
            c.3.1,
            c.3.2,
            (
              v.0,
              v.1,
              v.2,
              (
                tt,
                p.1,
                opened,
                (
                  p.3.0,
                  p.3.1,
                  p.3.2,
                  (
                    p.3.3.0,
                    p.3.3.1,
                    p.3.3.2,
                    (
                      q.0,
                      q.1,
                      q.2,
                      (
                        tt,
                        b.1,
                        body,
                        (
                          b.3.0,
                          b.3.1,
                          b.3.2,
                          (
                            d.0,
                            d.1,
                            d.2,
                            (
                              d.3.0,
                              d.3.1,
                              d.3.2,
                              (
                                n.0,
                                n.1,
                                last,
                                (
                                  f,
                                  refl,
                                  (
                                    ap (λ (x : FunctionParts). x.line) parts ∙ ap (λ x. x.1.0) v.3.0,
                                    ap (λ (x : FunctionParts). x.exported) parts,
                                    ap (λ (x : FunctionParts). x.name) parts ∙ ap (λ x. x.1.1) v.3.0,
                                    ap (λ (x : FunctionParts). x.result) parts ∙ ap (λ x. x.0) v.3.0,
                                    ap (λ (x : FunctionParts). x.params) parts ∙ q.3.0,
                                    ap (λ (x : FunctionParts). x.blocks) parts ∙ d.3.3.0,
                                    ap (λ (x : FunctionParts). x.temps) parts,
                                    ap (λ (x : FunctionParts). x.labels) parts,
                                  ),
                                  n.3.1,
                                ),
                              ),
                            ),
                          ),
                        ),
                      ),
                    ),
                  ),
                ),
              ),
            ),
          ),
        ),
      ),
    )

same_parts : (f : Func) (exported : Bool) (n name : ℕ) (result : Option Class) (params : List Param) (bs : List Block) (temps labels : List (List ℕ))
    → reads.IsFunction f exported n name result params bs (temps, labels)
    → function_parts f ≡ record { line = n; exported = exported; name = name; result = result; params = params; blocks = reads.falling bs; temps = temps; labels = labels }
same_parts f exported n name result params bs temps labels h =
    let a = h.0 in let b = h.1 in let c = h.2 in let d = h.3 in let e = h.4 in let i = h.5 in let j = h.6 in let k = h.7 in cc

-- what is read has the parts
pub function_back : (exported : Bool) (s : State) (d : Definition) (s' : State) → reads.function exported s d s' → (f : Func) × (d ≡ Function f) × Functions exported s (function_parts f) s'
function_back exported s d s' h =
    let a = h in
    let c = a.3.3 in
    let v = c.3.3 in
    let p = v.3 in
    let q = p.3.3.3 in
    let b = q.3 in
    let d = b.3.3 in
    let n = d.3.3 in
    let f = n.3 in
    let parts = same_parts f.0 exported c.3.0 v.0 c.0 p.3.0 d.0 n.0.0 n.0.1 f.2 in (
      f.0,
      f.1,
      (
        (c.0, (c.3.0, v.0)),
        v.1,
        (a.0, a.1, a.2, (a.3.0, a.3.1, a.3.2, (c.0, c.1, c.2, (c.3.0, c.3.1, c.3.2, (v.0, v.1, v.2, (refl, refl)))))),
        (
          p.3.0,
          q.1,
          (p.0, p.1, p.2, (p.3.0, p.3.1, p.3.2, (p.3.3.0, p.3.3.1, p.3.3.2, (q.0, q.1, q.2, (refl, refl))))),
          (
            reads.falling d.0,
            d.3.1,
            (b.0, b.1, b.2, (b.3.0, b.3.1, b.3.2, (d.0, d.1, d.2, (d.3.0, d.3.1, d.3.2, (refl, refl))))),
            (n.0, n.1, n.2, (parts, f.3)),
          ),
        ),
      ),
    )
