-- The three lists of names: a function's temporaries and labels, and a text's global names.
use Rattle.std.proofs.Common.{◌≡◌, ℕ, List, [], ◌∷◌, length, Some, IsTrue, refl, sym, ap, ◌∙◌, subst}
use Rattle.il_ast.specs.Prelude.{come_after, are_distinct}
use Rattle.il_reader.specs.Prelude.{State, place, with_name}
use Rattle.il_reader.proofs.InOrder.{Goes, stays, comes, stay_distinct, come_twice}
use Rattle.il_reader.proofs.Mentioned.{Naming, seq}

pub takes : (names : State → List (List ℕ)) (name : List ℕ) (s s' : State) (n : ℕ) → n ≡ place name (names s) → names s' ≡ with_name name (names s) → Goes names s (n ∷ []) s'
takes names name s s' n e f = record {
  in_order = ap (λ k. come_after (length (names s)) (k ∷ [])) e ∙ comes name (names s) ∙ ap (λ ns. Some (length ns)) (sym f);
  distinct = λ h. subst (λ ns. IsTrue (are_distinct ns)) (sym f) (stay_distinct name (names s) h);
}

abbrev one : ℕ → List ℕ
one n = n ∷ []

abbrev none : ℕ → List ℕ
none n = []

abbrev pub Temps : Naming
Temps = record {
  names = λ s. s.temps;
  temp = one;
  label = none;
  symbol = none;
  temp_goes = λ s n s' h. seq (stays (λ s. s.temps) s h.1 (ap (λ m. m.temps) h.2.3)) (takes (λ s. s.temps) h.0 h.1 s' n h.3 (ap (λ m. m.temps) h.4));
  label_goes = λ s n s' h. stays (λ s. s.temps) s s' (ap (λ m. m.temps) h.4 ∙ ap (λ m. m.temps) h.2.3);
  symbol_goes = λ s n s' h. stays (λ s. s.temps) s s' (ap (λ m. m.temps) h.4 ∙ ap (λ m. m.temps) h.2.3);
  token_keeps = λ s rest line. refl;
  once = λ k n ks. refl;
}

abbrev pub Labels : Naming
Labels = record {
  names = λ s. s.labels;
  temp = none;
  label = one;
  symbol = none;
  temp_goes = λ s n s' h. stays (λ s. s.labels) s s' (ap (λ m. m.labels) h.4 ∙ ap (λ m. m.labels) h.2.3);
  label_goes = λ s n s' h. seq (stays (λ s. s.labels) s h.1 (ap (λ m. m.labels) h.2.3)) (takes (λ s. s.labels) h.0 h.1 s' n h.3 (ap (λ m. m.labels) h.4));
  symbol_goes = λ s n s' h. stays (λ s. s.labels) s s' (ap (λ m. m.labels) h.4 ∙ ap (λ m. m.labels) h.2.3);
  token_keeps = λ s rest line. refl;
  once = λ k n ks. come_twice n k ks;
}

abbrev pub Symbols : Naming
Symbols = record {
  names = λ s. s.symbols;
  temp = none;
  label = none;
  symbol = one;
  temp_goes = λ s n s' h. stays (λ s. s.symbols) s s' (ap (λ m. m.symbols) h.4 ∙ ap (λ m. m.symbols) h.2.3);
  label_goes = λ s n s' h. stays (λ s. s.symbols) s s' (ap (λ m. m.symbols) h.4 ∙ ap (λ m. m.symbols) h.2.3);
  symbol_goes = λ s n s' h. seq (stays (λ s. s.symbols) s h.1 (ap (λ m. m.symbols) h.2.3)) (takes (λ s. s.symbols) h.0 h.1 s' n h.3 (ap (λ m. m.symbols) h.4));
  token_keeps = λ s rest line. refl;
  once = λ k n ks. refl;
}
