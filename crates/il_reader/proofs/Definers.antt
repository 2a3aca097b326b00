-- What functions, data definitions and texts mention.
use Rattle.std.proofs.Common.{◌≡◌, ℕ, Bool, List, [], ◌++◌, length, Option, ap, ◌∙◌, ⊎_elim, flat_map}
use Rattle.il_ast.specs.declared.block.Block.{Block}
use Rattle.il_ast.specs.declared.datum.DataDef.{DataDef}
use Rattle.il_reader.specs.Prelude.{State, FunctionParts, DefinitionParts, FunctionOf, ObjectOf}
use Rattle.il_reader.specs.Rules as rule
use Rattle.il_reader.specs.Grammar as grammar
use Rattle.il_reader.specs.Reads as reads
use Rattle.il_reader.proofs.InOrder.{Goes, stays}
use Rattle.il_reader.proofs.Mentioned.{Naming, Mentions, Quiet, seq, ends, given, give_quiet, line_quiet, then_mentions, either_mentions, maybe_quiet, some_quiet, some_mentions, commas_mention, listed_mention, word_quiet, piece_quiet, newline_quiet, newlines_quiet, natural_quiet, class_quiet, spaced_mentions, in_block, block_mentions, in_parameter, parameter_mentions, falling_same, in_field, field_mentions}
use Rattle.il_reader.proofs.ExactFunctions as function
use Rattle.il_reader.proofs.ExactFunctions.{Functions, functions_exact}
use Rattle.il_reader.proofs.ExactData as object
use Rattle.il_reader.proofs.ExactData.{Objects}
use Rattle.il_reader.proofs.ExactTexts.{Exported, Parts, Between, AllParts}

-- ---- functions

abbrev pub in_function : Naming → FunctionParts → List ℕ
in_function N p = N.symbol p.name ++ (flat_map (in_parameter N) p.params ++ flat_map (in_block N) p.blocks)

params_mention : (N : Naming) → Mentions N function.Params (flat_map (in_parameter N))
params_mention N = record {
  goes = λ s ps s' h.
      let p = h.3 in
      let c = p.3 in
      let n = c.3 in
      given (flat_map (in_parameter N)) n.3 (seq ((piece_quiet N _).goes s h.0 h.1 h.2)
      (ends ((listed_mention N grammar.comma reads.parameter (in_parameter N) (piece_quiet N _) (parameter_mentions N)).goes h.1 p.0 p.1 p.2)
      (seq ((piece_quiet N _).goes p.1 c.0 c.1 c.2) ((newlines_quiet N).goes c.1 n.0 n.1 n.2))));
}

fallen : (N : Naming) (s : State) (bs : List Block) (s' : State) → Goes N.names s (flat_map (in_block N) bs) s' → Goes N.names s (flat_map (in_block N) (reads.falling bs)) s'
fallen N s bs s' g = record { in_order = falling_same N bs (length (N.names s)) ∙ g.in_order; distinct = g.distinct }

blocks_mention : (N : Naming) → Mentions N function.Blocks (flat_map (in_block N))
blocks_mention N = record {
  goes = λ s bs s' h.
      let n = h.3 in
      let b = n.3 in
      let c = b.3 in
      given (flat_map (in_block N)) c.3 (seq ((piece_quiet N _).goes s h.0 h.1 h.2) (seq ((some_quiet N rule.newline (newline_quiet N)).goes h.1 n.0 n.1 n.2)
      (ends (fallen N n.1 b.0 b.1 ((some_mentions N reads.block (in_block N) (block_mentions N)).goes n.1 b.0 b.1 b.2)) ((piece_quiet N _).goes b.1 c.0 c.1 c.2))));
}

-- from where the names of a function are emptied
pub function_goes : (N : Naming) (exported : Bool) (s : State) (p : FunctionParts) (s' : State) (h : Functions exported s p s') → Goes N.names h.2.3.1 (in_function N p) s'
function_goes N exported s p s' h =
    let r = h.2.3.3 in
    let l = r.3 in
    let g = l.3 in
    let ps = h.3 in
    let b = ps.3 in
    let n = b.3 in
    let head : Goes N.names h.2.3.1 (N.symbol h.0.1.1) h.1 =
    given (λ (x : Option _ × (ℕ × ℕ)). N.symbol x.1.1) g.3
    (seq ((maybe_quiet N grammar.class (class_quiet N)).goes h.2.3.1 r.0 r.1 r.2) (seq ((line_quiet N).goes r.1 l.0 l.1 l.2) (N.symbol_goes l.1 g.0 g.1 g.2))) in
    given (in_function N) n.3 (seq head (seq ((params_mention N).goes h.1 ps.0 ps.1 ps.2)
    (ends ((blocks_mention N).goes ps.1 b.0 b.1 b.2) (stays N.names b.1 n.1 (ap N.names n.2.1)))))

-- ---- data and texts

abbrev pub in_object : Naming → DataDef → List ℕ
in_object N d = N.symbol d.name ++ flat_map (in_field N) d.fields

fields_mention : (N : Naming) → Mentions N object.Braced (flat_map (in_field N))
fields_mention N = record {
  goes = λ s xs s' h.
      let f = h.3 in
      let c = f.3 in
      given (flat_map (in_field N)) c.3 (seq ((spaced_mentions N (rule.piece _) (λ _. []) (piece_quiet N _)).goes s h.0 h.1 h.2)
      (ends ((commas_mention N object.SpacedComma _ (in_field N) (spaced_mentions N grammar.comma (λ _. []) (piece_quiet N _)) (field_mentions N)).goes h.1 f.0 f.1 f.2)
      ((piece_quiet N _).goes f.1 c.0 c.1 c.2)));
}

aligned_quiet : (N : Naming) → Quiet N reads.alignment
aligned_quiet N = maybe_quiet N object.Aligned (then_mentions N (reads.spaced (rule.word _)) _ (λ _. []) (spaced_mentions N (rule.word _) (λ _. []) (word_quiet N _))
    (λ _. spaced_mentions N rule.natural (λ _. []) (natural_quiet N)))

object_mentions : (N : Naming) (exported : Bool) → Mentions N (Objects exported) (in_object N)
object_mentions N exported = record {
  goes = λ s d s' h.
      let w = h.2 in
      let l = w.3 in
      let g = l.3 in
      let q = g.3 in
      let a = h.3 in
      let f = a.3 in
      let head : Goes N.names s (N.symbol h.0.1) h.1 =
      given (λ (x : ℕ × ℕ). N.symbol x.1) q.3 (seq ((spaced_mentions N (rule.word _) (λ _. []) (word_quiet N _)).goes s w.0 w.1 w.2) (seq ((line_quiet N).goes w.1 l.0 l.1 l.2)
      (ends ((spaced_mentions N rule.symbol N.symbol (record { goes = N.symbol_goes })).goes l.1 g.0 g.1 g.2) ((spaced_mentions N (rule.piece _) (λ _. []) (piece_quiet N _)).goes g.1 q.0 q.1 q.2)))) in
      given (in_object N) f.3 (seq head (seq ((aligned_quiet N).goes h.1 a.0 a.1 a.2) ((fields_mention N).goes a.1 f.0 f.1 f.2)));
}

abbrev pub in_parts : Naming → DefinitionParts → List ℕ
in_parts N (FunctionOf p) = in_function N p
in_parts N (ObjectOf d) = in_object N d

-- a list of names that a new function does not empty
abbrev pub Lasting : Naming → Type 0
Lasting N = (s : State) → N.names (record s { temps = []; labels = [] }) ≡ N.names s

parts_mention : (N : Naming) → Lasting N → Mentions N Parts (in_parts N)
parts_mention N lasting = then_mentions N (rule.◌∥◌ Exported (rule.give _)) _ (in_parts N)
    (either_mentions N Exported (rule.give _) (λ _. [])
    (then_mentions N (rule.word _) _ (λ _. []) (word_quiet N _) (λ _. then_mentions N rule.newlines _ (λ _. []) (newlines_quiet N) (λ _. give_quiet N _)))
    (give_quiet N _))
    (λ exported. record {
      goes = λ s x s' h. ⊎_elim
          (λ w. given (in_parts N) w.3 ((object_mentions N exported).goes s w.0 w.1 w.2))
          (λ w. let k = w.2.2 in
          let forgets : Goes N.names k.1 [] k.3.1 = stays N.names k.1 k.3.1 (ap N.names k.3.2 ∙ lasting k.1) in
          given (in_parts N) w.3 (seq ((word_quiet N _).goes s k.0 k.1 k.2) (seq forgets (function_goes N exported s w.0 w.1 w.2)))) h;
    })

pub all_mention : (N : Naming) → Lasting N → Mentions N AllParts (flat_map (in_parts N))
all_mention N lasting = then_mentions N rule.newlines _ (flat_map (in_parts N)) (newlines_quiet N)
    (λ _. listed_mention N Between Parts (in_parts N)
    (then_mentions N (rule.some rule.newline) _ (λ _. []) (some_quiet N rule.newline (newline_quiet N)) (λ _. give_quiet N _)) (parts_mention N lasting))
