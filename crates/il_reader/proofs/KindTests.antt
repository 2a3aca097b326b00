-- Tests of the next token's kind that exclude or imply one another.
use Rattle.std.proofs.Common.{◌≡◌, ℕ, Bool, true, false, cond, refl, not}
use Rattle.std.proofs.lemmas.Bool.{false≢true}
use Rattle.il_lex.specs.declared.kind.Symbol.TheVariants.{Comma, Equals, LeftBrace, RightBrace, LeftParen, RightParen, Plus}
use Rattle.il_lex.specs.declared.kind.Kind.{Kind}
use Rattle.il_lex.specs.declared.kind.Kind.TheVariants.{Symbol, Natural, Negative, Temp, Global, Label, Word, Quoted, Newline}
use Rattle.il_lex.specs.declared.scan.Ahead.{Ahead}
use Rattle.il_lex.specs.declared.scan.Ahead.TheVariants.{End, Bad, Found}
use Rattle.il_lex.specs.Scan.{scan}
use Rattle.il_reader.specs.Prelude.{State}
use Rattle.il_reader.specs.Steps as step

-- a test that each kind passes
abbrev pub Every : (Kind → Bool) → Type 0
Every test =
    (test (Symbol Comma) ≡ true) × (test (Symbol Equals) ≡ true) × (test (Symbol LeftBrace) ≡ true) × (test (Symbol RightBrace) ≡ true)
    × (test (Symbol LeftParen) ≡ true) × (test (Symbol RightParen) ≡ true) × (test (Symbol Plus) ≡ true)
    × (test Newline ≡ true) × (test Word ≡ true) × (test Global ≡ true) × (test Temp ≡ true) × (test Label ≡ true)
    × ((n : ℕ) → test (Natural n) ≡ true) × ((n : ℕ) → test (Negative n) ≡ true) × (test Quoted ≡ true)

each : (test : Kind → Bool) → Every test → (k : Kind) → test k ≡ true
each test h (Symbol Comma) = h.0
each test h (Symbol Equals) = h.1
each test h (Symbol LeftBrace) = h.2
each test h (Symbol RightBrace) = h.3
each test h (Symbol LeftParen) = h.4
each test h (Symbol RightParen) = h.5
each test h (Symbol Plus) = h.6
each test h Newline = h.7
each test h Word = h.8
each test h Global = h.9
each test h Temp = h.10
each test h Label = h.11
each test h (Natural n) = h.12 n
each test h (Negative n) = h.13 n
each test h Quoted = h.14

-- no kind passes both tests
abbrev pub Apart : (Kind → Bool) → (Kind → Bool) → Type 0
Apart p q = Every (λ k. cond (p k) (not (q k)) true)

-- what passes the first test passes the second
abbrev pub Within : (Kind → Bool) → (Kind → Bool) → Type 0
Within p q = Every (λ k. cond (p k) (q k) true)

pub apart : (p q : Kind → Bool) → Apart p q → (s : State) → step.sees p s ≡ true → step.sees q s ≡ false
apart p q h s e = at (scan s.rest) e
  where
    both : (a b : Bool) → cond a (not b) true ≡ true → a ≡ true → b ≡ false
    both true true f e = absurd (false≢true f)
    both true false f e = refl
    both false b f e = absurd (false≢true e)

    at : (a : Ahead) → step.kind_is p a ≡ true → step.kind_is q a ≡ false
    at End e = refl
    at Bad e = refl
    at (Found kind gap len) e = both (p kind) (q kind) (each (λ k. cond (p k) (not (q k)) true) h kind) e

pub within : (p q : Kind → Bool) → Within p q → (s : State) → step.sees p s ≡ true → step.sees q s ≡ true
within p q h s e = at (scan s.rest) e
  where
    both : (a b : Bool) → cond a b true ≡ true → a ≡ true → b ≡ true
    both true b f e = f
    both false b f e = absurd (false≢true e)

    at : (a : Ahead) → step.kind_is p a ≡ true → step.kind_is q a ≡ true
    at End e = absurd (false≢true e)
    at Bad e = absurd (false≢true e)
    at (Found kind gap len) e = both (p kind) (q kind) (each (λ k. cond (p k) (q k) true) h kind) e
