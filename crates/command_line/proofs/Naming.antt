-- Words without a fault name a command.
use Rattle.std.proofs.Common.{◌≡◌, ◌⊎◌, ◌&&◌, Bool, true, false, not, List, [], ◌∷◌, Option, Some, None, is_some, if◌then◌else◌, ap, sym, refl, inl, inr, find, option_map}
use Rattle.std.specs.List.{list_any}
use Rattle.std.specs.Option.{option_map_or}
use Rattle.clap.specs.Facts.{explicit_source}
use Rattle.clap.specs.Takes.{is_given}
use Rattle.clap.specs.Faults.{built_fault, check_fault, defaults_fault, entered_fault, fault_of, settle_fault, walk_fault}
use Rattle.clap.specs.Kinds.{Kinds, check_kinds, or_else}
use Rattle.clap.specs.Simple.{App, Shape, argument_words, built, entered, label_of, names_of, rows_at, subcommand_of}
use Rattle.clap.specs.Walk.{Row, Text, answers_to, finished, nothing_held, settled, stop_after, walk, walk_from}
use Rattle.command_line.specs.Asked.{AsksFor, AsksIn}
use Rattle.command_line.specs.Grammar.{qbec_app}

-- ---- where a command has to be named, words without a fault name one

rest_is_none : (first rest : Kinds) → or_else first rest ≡ [] → rest ≡ []
rest_is_none [] rest h = h
rest_is_none (k ∷ ks) rest h = cc

wanted : (help argument : Bool) → check_kinds help true argument ≡ [] → ⊥
wanted true argument h = cc
wanted false argument h = cc

unmet : (s : Shape) (rows : List Row) (has : Bool) → has ≡ false → s.subcommand_required ≡ true → check_fault s rows has ≡ [] → ⊥
unmet s rows true unnamed wants clean = cc
unmet s rows false unnamed wants clean =
    let help = s.arg_required_else_help && not (list_any (λ r. explicit_source r.source) rows) in
    let argument = not (s.subcommand_negates_reqs && false) && list_any (λ a. a.required && not (is_given a.id rows)) s.rules in
    wanted help argument (rw wants at clean)

unnamed : (a : App) (words : List Text) → a.top.subcommand_required ≡ true → built_fault a nothing_held words ≡ []
    → entered a (stop_after a.top.rules (names_of a) words) ≡ None → ⊥
unnamed a words wants clean none =
    let rules = a.top.rules in
    let held = (walk rules (names_of a) nothing_held words).held in
    let below = entered_fault a (stop_after rules (names_of a) words) in
    let checked = check_fault a.top (finished rules held) (is_some (entered a (stop_after rules (names_of a) words))) in
    let defaults = defaults_fault (settled rules held).rows rules in
    let settles = settle_fault rules a.top.args_override_self held in
    let walks = walk_fault a.top (names_of a) (walk_from nothing_held) words in
    unmet a.top (finished rules held) _ (ap is_some none) wants
    (rest_is_none defaults checked (rest_is_none settles _ (rest_is_none below _ (rest_is_none walks _ clean))))

-- ---- the name is that of a command

pick : (found : Bool) (x : Shape) (rest : Option Shape) (words : List Text) (p : Text × List Row) → option_map (λ s. rows_at s words) (if found then Some x else rest) ≡ Some p
    → (p.0 ≡ x.name) ⊎ (option_map (λ s. rows_at s words) rest ≡ Some p)
pick true x rest words p e = inl (sym (ap (λ (o : Option (Text × List Row)). option_map_or (λ r. r.0) o []) e))
pick false x rest words p e = inr e

abbrev NamesOneOf : List Shape → Text → Type 0
NamesOneOf [] name = ⊥
NamesOneOf (s ∷ rest) name = (name ≡ s.name) ⊎ NamesOneOf rest name

one_of : (test : Shape → Bool) (shapes : List Shape) (words : List Text) (p : Text × List Row) → option_map (λ s. rows_at s words) (find test shapes) ≡ Some p → NamesOneOf shapes p.0
one_of test [] words p e = cc
one_of test (x ∷ rest) words p e = elim (pick (test x) x (find test rest) words p e) [
  | inl is ↦ inl is
  | inr later ↦ inr (one_of test rest words p later)
]

named : (stop : Option (Text × List Text)) (p : Text × List Row) → entered (built qbec_app) stop ≡ Some p → AsksFor p.0 p.1 None → ⊥
named None p e h = cc
named (Some q) p e h = elim (one_of (λ s. answers_to q.0 (label_of s)) (built qbec_app).subs q.1 p e) [
  | inl is ↦ h.0 is
  | inr run ↦ elim run [
    | inl is ↦ h.1 is
    | inr interp ↦ elim interp [
      | inl is ↦ h.2 is
      | inr dis ↦ elim dis [
        | inl is ↦ h.3 is
        | inr check ↦ elim check [
          | inl is ↦ h.4 is
          | inr symbols ↦ elim symbols [
            | inl is ↦ h.5 is
            | inr stack ↦ elim stack [
              | inl is ↦ h.6 is
              | inr trace ↦ elim trace [
                | inl is ↦ h.7 is
                | inr none ↦ absurd none
              ]
            ]
          ]
        ]
      ]
    ]
  ]
]

-- ---- both

pub never_none : (words : List Text) → fault_of qbec_app words ≡ [] → AsksIn (subcommand_of qbec_app words) None → ⊥
never_none words clean asks = go (subcommand_of qbec_app words) refl asks
  where
    go : (o : Option (Text × List Row)) → subcommand_of qbec_app words ≡ o → AsksIn o None → ⊥
    go None e h = unnamed (built qbec_app) (argument_words qbec_app words) refl clean e
    go (Some p) e h = named (stop_after (built qbec_app).top.rules (names_of (built qbec_app)) (argument_words qbec_app words)) p e h
