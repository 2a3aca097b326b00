-- Lists of arguments.
use Rattle.std.proofs.Common.{◌≡◌, Bool, true, false, List, [], refl}
use Rattle.il_lex.specs.declared.kind.Symbol.TheVariants.{Comma, RightParen}
use Rattle.il_lex.specs.declared.kind.Kind.{Kind}
use Rattle.il_lex.specs.declared.kind.Kind.TheVariants.{Symbol, Word as WordKind}
use Rattle.il_ast.specs.declared.operand.Arg.{Arg}
use Rattle.il_reader.specs.Prelude.{State, class_word}
use Rattle.il_reader.specs.Rules as rule
use Rattle.il_reader.specs.Grammar as grammar
use Rattle.il_reader.specs.Steps as step
use Rattle.il_reader.specs.Reading as reading
use Rattle.il_reader.proofs.Exact.{Exact, Anything, sees_token}
use Rattle.il_reader.proofs.Tokens.{piece_exact}
use Rattle.il_reader.proofs.Lists.{or_nothing, commas_exact}
use Rattle.il_reader.proofs.KindTests.{apart}
use Rattle.il_reader.proofs.Shorter.{piece_shortens, argument_shortens}
use Rattle.il_reader.proofs.Operands.{argument_exact}

argument_begins : (s : State) (a : Arg) (s' : State) → grammar.argument s a s' → step.sees reading.is_word s ≡ true
argument_begins s a s' h = sees_token reading.is_word WordKind s (class_word h.0) h.1 h.2

pub comma_begins : (s : State) (x : Unit {0}) (s' : State) → rule.piece Comma s x s' → step.sees reading.is_comma s ≡ true
comma_begins s x s' h = sees_token reading.is_comma (Symbol Comma) s h.0 h.1 h.2

-- a closing parenthesis comes next
abbrev pub is_closing : Kind → Bool
is_closing (Symbol RightParen) = true
is_closing _ = false

abbrev pub Closing : State → Type 0
Closing s = step.sees is_closing s ≡ true

pub closing_no_comma : (s : State) → Closing s → step.sees reading.is_comma s ≡ false
closing_no_comma s h = apart is_closing reading.is_comma (refl, refl, refl, refl, refl, refl, refl, refl, refl, refl, refl, refl, λ n. refl, λ n. refl, refl) s h

pub closing_no_word : (s : State) → Closing s → step.sees reading.is_word s ≡ false
closing_no_word s h = apart is_closing reading.is_word (refl, refl, refl, refl, refl, refl, refl, refl, refl, refl, refl, refl, λ n. refl, λ n. refl, refl) s h

arguments_some : Exact (step.commas (step.sees reading.is_comma) reading.comma (step.sees reading.is_word) reading.argument) (rule.commas grammar.comma grammar.argument) Closing
arguments_some = commas_exact (step.sees reading.is_comma) (step.sees reading.is_word) reading.comma grammar.comma reading.argument grammar.argument Anything Anything Closing
    comma_begins argument_begins
    closing_no_comma closing_no_word
    (piece_shortens Comma).less argument_shortens.less (λ s h. tt) (λ s h. tt) (λ s h. tt) (λ s h. tt)
    (piece_exact Comma) argument_exact

arguments_begin : (s : State) (xs : List Arg) (s' : State) → rule.commas grammar.comma grammar.argument s xs s' → step.sees reading.is_word s ≡ true
arguments_begin s xs s' h = argument_begins s h.0 h.1 h.2

pub arguments_exact : Exact reading.arguments (rule.listed grammar.comma grammar.argument) Closing
arguments_exact = or_nothing (step.sees reading.is_word) _ _ [] Closing arguments_begin
    closing_no_word arguments_some
