-- The arguments of a phi, and what stands on lines of its own.
use Rattle.std.proofs.Common.{◌≡◌, true, false, ◌∷◌, Some, refl, sym, ap, ◌∙◌, subst}
use Rattle.std.proofs.lemmas.Option.{some_pair_parts}
use Rattle.il_lex.specs.declared.kind.Symbol.TheVariants.{Comma}
use Rattle.il_lex.specs.declared.kind.Kind.TheVariants.{Label as LabelKind, Newline}
use Rattle.il_ast.specs.declared.block.PhiArg.{PhiArg}
use Rattle.il_reader.specs.Prelude.{State}
use Rattle.il_reader.specs.Rules as rule
use Rattle.il_reader.specs.Grammar as grammar
use Rattle.il_reader.specs.Reads as reads
use Rattle.il_reader.specs.Steps as step
use Rattle.il_reader.specs.Reading as reading
use Rattle.il_reader.proofs.Exact.{Exact, Anything, give_exact, weaker, bind, bind_before, sees_token, many_exact}
use Rattle.il_reader.proofs.Tokens.{newline_exact, piece_exact}
use Rattle.il_reader.proofs.Lists.{commas_exact}
use Rattle.il_reader.proofs.Operands.{phi_argument_exact}
use Rattle.il_reader.proofs.Jumps.{jump_exact, LineEnds}
use Rattle.il_reader.proofs.ArgumentLists.{comma_begins}
use Rattle.il_reader.proofs.KindTests.{apart}
use Rattle.il_reader.proofs.Shorter.{piece_shortens, newline_shortens, phi_argument_shortens}

pub line_exact : Exact reading.line rule.line Anything
line_exact = record {
  sound = λ s n s' e. let parts = some_pair_parts s.line n s s' e in (sym parts.0, sym parts.1);
  complete = λ s n s' h f. ap (λ x. Some (x, s)) (sym h.0) ∙ ap (λ x. Some (n, x)) (sym h.1);
}

pub lined_exact : {A : Type 0} (p : step.Step A) (r : rule.Rule A) (Follow : State → Type 0) → Exact p r Follow → Exact (reading.lined p) (grammar.lined r) Follow
lined_exact p r Follow e =
    bind reading.line rule.line _ _ Follow line_exact λ n.
    bind_before p r _ _ Follow Follow (λ x s y s' h f. subst Follow h.1 f) e λ x.
    weaker (step.give (record { line = n; item = x })) (rule.give (record { line = n; item = x })) Anything Follow (λ s f. tt) (give_exact (record { line = n; item = x }))

newline_no_comma : (s : State) → LineEnds s → step.sees reading.is_comma s ≡ false
newline_no_comma s h = apart reading.is_newline reading.is_comma (refl, refl, refl, refl, refl, refl, refl, refl, refl, refl, refl, refl, λ n. refl, λ n. refl, refl) s h

newline_no_label : (s : State) → LineEnds s → step.sees reading.is_label s ≡ false
newline_no_label s h = apart reading.is_newline reading.is_label (refl, refl, refl, refl, refl, refl, refl, refl, refl, refl, refl, refl, λ n. refl, λ n. refl, refl) s h

phi_argument_begins : (s : State) (a : PhiArg) (s' : State) → grammar.phi_argument s a s' → step.sees reading.is_label s ≡ true
phi_argument_begins s a s' h = sees_token reading.is_label LabelKind s (64 ∷ h.2.0) h.2.1 h.2.2

pub phi_arguments_exact : Exact (step.commas (step.sees reading.is_comma) reading.comma (step.sees reading.is_label) reading.phi_argument) (rule.commas grammar.comma grammar.phi_argument) LineEnds
phi_arguments_exact = commas_exact (step.sees reading.is_comma) (step.sees reading.is_label) reading.comma grammar.comma reading.phi_argument grammar.phi_argument Anything Anything LineEnds
    comma_begins phi_argument_begins
    newline_no_comma newline_no_label
    (piece_shortens Comma).less phi_argument_shortens.less (λ s h. tt) (λ s h. tt) (λ s h. tt) (λ s h. tt)
    (piece_exact Comma) phi_argument_exact

-- no end of a line comes next
abbrev pub LineGoesOn : State → Type 0
LineGoesOn s = step.sees reading.is_newline s ≡ false

pub newline_begins : (s : State) (x : Unit {0}) (s' : State) → rule.newline s x s' → step.sees reading.is_newline s ≡ true
newline_begins s x s' h = sees_token reading.is_newline Newline s h.0 h.1 h.2

pub newlines_exact : Exact (step.many (step.sees reading.is_newline) step.newline) rule.newlines LineGoesOn
newlines_exact = many_exact (step.sees reading.is_newline) step.newline rule.newline Anything LineGoesOn
    newline_begins (λ s h. h) newline_shortens.less (λ s h. tt) (λ s h. tt) newline_exact

pub line_ends_exact : Exact reading.line_ends (rule.some rule.newline) LineGoesOn
line_ends_exact =
    bind step.newline rule.newline _ _ LineGoesOn newline_exact λ x.
    bind_before _ _ _ _ LineGoesOn LineGoesOn (λ xs s y s' h f. subst LineGoesOn h.1 f) newlines_exact λ xs.
    weaker (step.give (x ∷ xs)) (rule.give (x ∷ xs)) Anything LineGoesOn (λ s f. tt) (give_exact (x ∷ xs))

pub on_line_exact : {A : Type 0} (p : step.Step A) (r : rule.Rule A) → Exact p r LineEnds → Exact (reading.on_line p) (reads.on_line r) LineGoesOn
on_line_exact p r e =
    bind_before p r _ _ LineEnds LineGoesOn (λ x s y s' h f. sees_token reading.is_newline Newline s h.2.2.0 h.2.2.1 h.2.2.2) e λ x.
    bind_before reading.line_ends (rule.some rule.newline) _ _ LineGoesOn LineGoesOn (λ xs s y s' h f. subst LineGoesOn h.1 f) line_ends_exact λ xs.
    weaker (step.give x) (rule.give x) Anything LineGoesOn (λ s f. tt) (give_exact x)

pub jump_line_exact : Exact (reading.on_line (reading.lined reading.jump)) (reads.on_line grammar.jump) LineGoesOn
jump_line_exact = on_line_exact (reading.lined reading.jump) grammar.jump (lined_exact reading.jump _ LineEnds jump_exact)
