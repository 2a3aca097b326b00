-- The words before the first `--`, and those behind it.
use Rattle.std.proofs.Common.{◌≡◌, ℕ, ◌+◌, ◌-◌, ◌<◌, ◌≤◌, Bool, true, false, not, List, [], ◌∷◌, Bor, map, take, drop, length, get_or, Option, Some, None, refl, ap, sym, ◌∙◌, subst, arith}
use Rattle.std.proofs.lemmas.List.{drop_more, take-map, drop-map, take_rest}
use Rattle.std.proofs.Math.ListN.{drop_of_length-le}
use Rattle.clap.specs.Faults.{fault_of}
use Rattle.clap.specs.Simple.{subcommand_of}
use Rattle.clap.specs.Walk.{Row}
use Rattle.command_line.specs.Asked.{AsksIn, HandsOn, AskFor, dashes_at, handed_words, is_dashes, is_trace, read_words}
use Rattle.command_line.specs.Grammar.{qbec_app}
use Rattle.command_line.specs.declared.Command.{Command}

abbrev text : Bor (List ℕ) → List ℕ
text w = w.now

is_false : (r b : Bool) → r ≡ not b → r ≡ true → b ≡ false
is_false r true e h = sym h ∙ e
is_false r false e h = refl

is_true : (r b : Bool) → r ≡ not b → r ≡ false → b ≡ true
is_true r true e h = refl
is_true r false e h = sym h ∙ e

skipped : (x : List ℕ) (xs : List (List ℕ)) → is_dashes x ≡ false → dashes_at (x ∷ xs) ≡ 1 + dashes_at xs
skipped x xs h = rw h refl

found : (x : List ℕ) (xs : List (List ℕ)) → is_dashes x ≡ true → dashes_at (x ∷ xs) ≡ 0
found x xs h = rw h refl

-- one more word that isn't it
pub one_more : (ws : List (Bor (List ℕ))) (at : ℕ) (d : Bor (List ℕ)) (r : Bool) → at < length ws → r ≡ not (is_dashes (get_or ws at d).now) → r ≡ true
    → dashes_at (map text ws) ≡ at + dashes_at (map text (drop at ws)) → dashes_at (map text ws) ≡ at + 1 + dashes_at (map text (drop (at + 1) ws))
one_more ws at d r low e h same =
    let rest = dashes_at (map text (drop (at + 1) ws)) in
    let sums : at + (1 + rest) ≡ at + 1 + rest = omega arith in
    same ∙ ap (λ ys. at + dashes_at (map text ys)) (drop_more ws at d low)
    ∙ ap (λ n. at + n) (skipped (get_or ws at d).now (map text (drop (at + 1) ws)) (is_false r _ e h)) ∙ sums

-- the word that is it
pub here : (ws : List (Bor (List ℕ))) (at : ℕ) (d : Bor (List ℕ)) (r : Bool) → at < length ws → r ≡ not (is_dashes (get_or ws at d).now) → r ≡ false
    → dashes_at (map text ws) ≡ at + dashes_at (map text (drop at ws)) → at ≡ dashes_at (map text ws)
here ws at d r low e h same =
    let none : at + 0 ≡ at = omega arith in
    sym (same ∙ ap (λ ys. at + dashes_at (map text ys)) (drop_more ws at d low)
    ∙ ap (λ n. at + n) (found (get_or ws at d).now (map text (drop (at + 1) ws)) (is_true r _ e h)) ∙ none)

-- no word is
pub nowhere : (ws : List (Bor (List ℕ))) (at : ℕ) → length ws ≤ at → dashes_at (map text ws) ≡ at + dashes_at (map text (drop at ws)) → at ≡ dashes_at (map text ws)
nowhere ws at all same =
    let none : at + 0 ≡ at = omega arith in
    sym (same ∙ ap (λ ys. at + dashes_at (map text ys)) (drop_of_length-le ws all) ∙ none)

-- ---- the two parts

pub read_before : (ws : List (Bor (List ℕ))) (n : ℕ) → is_trace (map text ws) ≡ true → n ≡ dashes_at (map text ws) → map text (take n ws) ≡ read_words (map text ws)
read_before ws n trace is = rw trace (sym (take-map text n ws) ∙ ap (λ k. take k (map text ws)) is)

pub handed_behind : (ws : List (Bor (List ℕ))) (n : ℕ) → is_trace (map text ws) ≡ true → n ≡ dashes_at (map text ws)
    → map text (take (length ws - (n + 1)) (drop (n + 1) ws)) ≡ handed_words (map text ws)
handed_behind ws n trace is =
    rw trace (ap (map text) (take_rest ws (n + 1)) ∙ sym (drop-map text (n + 1) ws) ∙ ap (λ k. drop (k + 1) (map text ws)) is)

-- ---- a command of both

pub asks_for : (words read handed : List (List ℕ)) (o : Option (List ℕ × List Row)) (c : Command) → read ≡ read_words words → handed ≡ handed_words words → fault_of qbec_app read ≡ []
    → o ≡ subcommand_of qbec_app read → AsksIn o (Some c) → HandsOn handed c → AskFor words c
asks_for words read handed None c is behind clean named asks hands = absurd asks
asks_for words read handed (Some found) c is behind clean named asks hands = record {
  clean = ap (fault_of qbec_app) (sym is) ∙ clean;
  name = found.0;
  rows = found.1;
  named = ap (subcommand_of qbec_app) (sym is) ∙ sym named;
  asks = asks;
  hands = subst (λ ws. HandsOn ws c) behind hands;
}
