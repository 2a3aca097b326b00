-- Lists with commas, and what may be left out.
use Rattle.std.proofs.Common.{◌≡◌, inl, inr, ⊎_elim, ℕ, zero, suc, ◌<◌, Bool, true, false, cond, List, [], ◌∷◌, length, Option, Some, None, refl, sym, ap, ◌∙◌, arith, subst, option_and_then}
use Rattle.std.proofs.lemmas.Option.{option_and_then_some, some_pair_parts, none-some}
use Rattle.il_lex.proofs.Runs.{cond_cases}
use Rattle.il_reader.specs.Prelude.{State}
use Rattle.il_reader.specs.Rules as rule
use Rattle.il_reader.specs.Steps as step
use Rattle.il_reader.proofs.Exact.{Exact}

-- what may be left out
pub maybe_exact : {A : Type 0} (look : State → Bool) (p : step.Step A) (r : rule.Rule A) (Follow : State → Type 0)
    → ((s : State) (x : A) (s' : State) → r s x s' → look s ≡ true) → ((s : State) → Follow s → look s ≡ false)
    → Exact p r Follow → Exact (step.maybe look p) (rule.maybe r) Follow
maybe_exact {A} look p r Follow begins ends e = record {
  sound = λ s o s' h. cond_cases (λ q. q ≡ Some (o, s') → rule.maybe r s o s') (look s) (option_and_then (λ x. Some (Some x.0, x.1)) (p s)) (Some (None, s))
      (λ y f. option_and_then_some (λ x. Some (Some x.0, x.1)) (p s) (o, s') f
      (λ x is whole. let parts = some_pair_parts (Some x.0) o x.1 s' whole in
      subst (λ o. rule.maybe r s o s') parts.0 (subst (r s x.0) parts.1 (e.sound s x.0 x.1 is))))
      (λ n f. let parts = some_pair_parts None o s s' f in subst (λ o. rule.maybe r s o s') parts.0 (sym parts.1))
      h;
  complete = complete;
}
  where
    complete : (s : State) (o : Option A) (s' : State) → rule.maybe r s o s' → Follow s' → step.maybe look p s ≡ Some (o, s')
    complete s None s' h f =
        ap (λ b. cond b (option_and_then (λ x. Some (Some x.0, x.1)) (p s)) (Some (None, s))) (ends s (subst Follow h f))
        ∙ ap (λ m. Some (None, m)) (sym h)
    complete s (Some x) s' h f =
        ap (λ b. cond b (option_and_then (λ x. Some (Some x.0, x.1)) (p s)) (Some (None, s))) (begins s x s' h)
        ∙ ap (option_and_then (λ x. Some (Some x.0, x.1))) (e.complete s x s' h f)

-- a rule, or nothing with this value
pub or_nothing : {A : Type 0} (look : State → Bool) (p : step.Step A) (r : rule.Rule A) (x : A) (Follow : State → Type 0)
    → ((s : State) (y : A) (s' : State) → r s y s' → look s ≡ true) → ((s : State) → Follow s → look s ≡ false) → Exact p r Follow
    → Exact (λ s. cond (look s) (p s) (Some (x, s))) (rule.◌∥◌ r (rule.give x)) Follow
or_nothing look p r x Follow begins ends e = record {
  sound = λ s y s' h. cond_cases (λ q. q ≡ Some (y, s') → rule.◌∥◌ r (rule.give x) s y s') (look s) (p s) (Some (x, s))
      (λ t f. inl (e.sound s y s' f))
      (λ n f. let parts = some_pair_parts x y s s' f in inr (sym parts.0, sym parts.1)) h;
  complete = λ s y s' h f. ⊎_elim
      (λ w. ap (λ b. cond b (p s) (Some (x, s))) (begins s y s' w) ∙ e.complete s y s' w f)
      (λ w. ap (λ b. cond b (p s) (Some (x, s))) (ends s (subst Follow w.1 f)) ∙ ap (λ z. Some (z, s)) (sym w.0) ∙ ap (λ m. Some (y, m)) (sym w.1)) h;
}

module _ {A : Type 0} (is_comma begins : State → Bool) (comma : step.Step (Unit {0})) (rc : rule.Rule (Unit {0})) (p : step.Step A) (r : rule.Rule A)
    (BeforeItem BeforeComma Follow : State → Type 0)
    (comma_begins : (s : State) (x : Unit {0}) (s' : State) → rc s x s' → is_comma s ≡ true)
    (item_begins : (s : State) (x : A) (s' : State) → r s x s' → begins s ≡ true)
    (no_comma : (s : State) → Follow s → is_comma s ≡ false) (no_item : (s : State) → Follow s → begins s ≡ false)
    (comma_less : (s : State) (x : Unit {0}) (s' : State) → rc s x s' → length s'.rest < length s.rest)
    (item_less : (s : State) (x : A) (s' : State) → r s x s' → length s'.rest < length s.rest)
    (then_item : (s : State) → begins s ≡ true → BeforeItem s) (then_end : (s : State) → Follow s → BeforeItem s)
    (then_comma : (s : State) → is_comma s ≡ true → BeforeComma s) (then_stop : (s : State) → Follow s → BeforeComma s)
    (comma_exact : Exact comma rc BeforeItem) (item_exact : Exact p r BeforeComma) where
  -- the items behind the first, and perhaps a comma
  Tail : rule.Rule (List A)
  Tail s xs s' = (m : State) × (o : Option (Unit {0})) × rule.many (rule.◌>>◌ rc r) s xs m × rule.maybe rc m o s'

  tail_sound : (n : ℕ) (s : State) (xs : List A) (s' : State) → step.separated n is_comma comma begins p s ≡ Some (xs, s') → Tail s xs s'
  unfolding Tail
  tail_sound zero s xs s' e = absurd (none-some (xs, s') e)
  tail_sound (suc n) s xs s' e = cond_cases (λ o. o ≡ Some (xs, s') → Tail s xs s') (is_comma s) _ _
      (λ y h. option_and_then_some _ (comma s) (xs, s') h (λ c is then'.
      cond_cases (λ o. o ≡ Some (xs, s') → Tail s xs s') (begins c.1) _ _
      (λ y' h'. option_and_then_some _ (p c.1) (xs, s') h' (λ x here later.
      option_and_then_some (λ xs. Some (x.0 ∷ xs.0, xs.1)) (step.separated n is_comma comma begins p x.1) (xs, s') later (λ ys rest whole.
      let parts = some_pair_parts (x.0 ∷ ys.0) xs ys.1 s' whole in
      let t : Tail x.1 ys.0 ys.1 = tail_sound n x.1 ys.0 ys.1 rest in
      let all : Tail s (x.0 ∷ ys.0) ys.1 = (t.0, t.1, (x.1, (c.0, c.1, comma_exact.sound s c.0 c.1 is, item_exact.sound c.1 x.0 x.1 here), t.2), t.3) in
      subst (λ zs. Tail s zs s') parts.0 (subst (Tail s (x.0 ∷ ys.0)) parts.1 all))))
      (λ n' h'. let parts = some_pair_parts [] xs c.1 s' h' in
      let last : Tail s [] c.1 = (s, Some c.0, refl, comma_exact.sound s c.0 c.1 is) in
      subst (λ zs. Tail s zs s') parts.0 (subst (Tail s []) parts.1 last))
      then'))
      (λ n' h. let parts = some_pair_parts [] xs s s' h in
      let none : Tail s [] s = (s, None, refl, refl) in
      subst (λ zs. Tail s zs s') parts.0 (subst (Tail s []) parts.1 none))
      e

  tail_complete : (n : ℕ) (s : State) (xs : List A) (m : State) (o : Option (Unit {0})) (s' : State) → length s.rest < n
      → rule.many (rule.◌>>◌ rc r) s xs m → rule.maybe rc m o s' → Follow s' → step.separated n is_comma comma begins p s ≡ Some (xs, s')
  tail_complete zero s xs m o s' l h t f = absurd (omega arith)
  tail_complete (suc n) s [] m None s' l h t f =
      let same : s' ≡ s = t ∙ h in
      let stop : is_comma s ≡ false = no_comma s (subst Follow same f) in
      ap (λ b. cond b (option_and_then (λ c. cond (begins c.1) (option_and_then (λ x. option_and_then (λ xs. Some (x.0 ∷ xs.0, xs.1)) (step.separated n is_comma comma begins p x.1)) (p c.1)) (Some ([], c.1))) (comma s)) (Some ([], s))) stop
      ∙ ap (λ m. Some ([], m)) (sym same)
  tail_complete (suc n) s [] m (Some u) s' l h t f =
      let read : rc s u s' = subst (λ m. rc m u s') h t in
      let stop : begins s' ≡ false = no_item s' f in
      ap (λ b. cond b (option_and_then (λ c. cond (begins c.1) (option_and_then (λ x. option_and_then (λ xs. Some (x.0 ∷ xs.0, xs.1)) (step.separated n is_comma comma begins p x.1)) (p c.1)) (Some ([], c.1))) (comma s)) (Some ([], s))) (comma_begins s u s' read)
      ∙ ap (option_and_then (λ c. cond (begins c.1) (option_and_then (λ x. option_and_then (λ xs. Some (x.0 ∷ xs.0, xs.1)) (step.separated n is_comma comma begins p x.1)) (p c.1)) (Some ([], c.1)))) (comma_exact.complete s u s' read (then_end s' f))
      ∙ ap (λ b. cond b (option_and_then (λ x. option_and_then (λ xs. Some (x.0 ∷ xs.0, xs.1)) (step.separated n is_comma comma begins p x.1)) (p s')) (Some ([], s'))) stop
  tail_complete (suc n) s (x ∷ xs) m o s' l h t f =
      let u = h.1.0 in
      let at = h.1.1 in
      let behind = h.0 in
      let go : begins at ≡ true = item_begins at x behind h.1.3 in
      let shorter = comma_less s u at h.1.2 in
      let shorter' = item_less at x behind h.1.3 in
      ap (λ b. cond b (option_and_then (λ c. cond (begins c.1) (option_and_then (λ x. option_and_then (λ xs. Some (x.0 ∷ xs.0, xs.1)) (step.separated n is_comma comma begins p x.1)) (p c.1)) (Some ([], c.1))) (comma s)) (Some ([], s))) (comma_begins s u at h.1.2)
      ∙ ap (option_and_then (λ c. cond (begins c.1) (option_and_then (λ x. option_and_then (λ xs. Some (x.0 ∷ xs.0, xs.1)) (step.separated n is_comma comma begins p x.1)) (p c.1)) (Some ([], c.1)))) (comma_exact.complete s u at h.1.2 (then_item at go))
      ∙ ap (λ b. cond b (option_and_then (λ x. option_and_then (λ xs. Some (x.0 ∷ xs.0, xs.1)) (step.separated n is_comma comma begins p x.1)) (p at)) (Some ([], at))) go
      ∙ ap (option_and_then (λ x. option_and_then (λ xs. Some (x.0 ∷ xs.0, xs.1)) (step.separated n is_comma comma begins p x.1))) (item_exact.complete at x behind h.1.3 (between behind xs m o s' h.2 t f))
      ∙ ap (option_and_then (λ xs. Some (x ∷ xs.0, xs.1))) (tail_complete n behind xs m o s' (omega arith) h.2 t f)
    where
      between : (b : State) (xs : List A) (m : State) (o : Option (Unit {0})) (s' : State) → rule.many (rule.◌>>◌ rc r) b xs m → rule.maybe rc m o s' → Follow s' → BeforeComma b
      between b [] m None s' h t f = then_stop b (subst Follow (t ∙ h) f)
      between b [] m (Some u) s' h t f = then_comma b (comma_begins b u s' (subst (λ m. rc m u s') h t))
      between b (y ∷ ys) m o s' h t f = then_comma b (comma_begins b h.1.0 h.1.1 h.1.2)

  tail_exact : Exact (λ s. step.separated (suc (length s.rest)) is_comma comma begins p s) Tail Follow
  unfolding Tail
  tail_exact = record {
    sound = λ s xs s' e. tail_sound (suc (length s.rest)) s xs s' e;
    complete = λ s xs s' h f. tail_complete (suc (length s.rest)) s xs h.0 h.1 s' (omega arith) h.2 h.3 f;
  }

  tail_before : (s : State) (xs : List A) (s' : State) → Tail s xs s' → Follow s' → BeforeComma s
  unfolding Tail
  tail_before s xs s' h f = before s xs h.0 h.1 s' h.2 h.3 f
    where
      before : (b : State) (xs : List A) (m : State) (o : Option (Unit {0})) (s' : State) → rule.many (rule.◌>>◌ rc r) b xs m → rule.maybe rc m o s' → Follow s' → BeforeComma b
      before b [] m None s' h t f = then_stop b (subst Follow (t ∙ h) f)
      before b [] m (Some u) s' h t f = then_comma b (comma_begins b u s' (subst (λ m. rc m u s') h t))
      before b (y ∷ ys) m o s' h t f = then_comma b (comma_begins b h.1.0 h.1.1 h.1.2)

  pub commas_exact : Exact (step.commas is_comma comma begins p) (rule.commas rc r) Follow
  unfolding Tail
  commas_exact = record {
    sound = λ s zs s' e. option_and_then_some _ (p s) (zs, s') e (λ x is later.
        option_and_then_some (λ xs. Some (x.0 ∷ xs.0, xs.1)) (step.separated (suc (length x.1.rest)) is_comma comma begins p x.1) (zs, s') later (λ ys rest whole.
        let parts = some_pair_parts (x.0 ∷ ys.0) zs ys.1 s' whole in
        let t : Tail x.1 ys.0 ys.1 = tail_exact.sound x.1 ys.0 ys.1 rest in
        (x.0, x.1, item_exact.sound s x.0 x.1 is, (ys.0, t.0, t.2, (t.1, ys.1, t.3, (sym parts.0, sym parts.1))))));
    complete = λ s zs s' h f.
        let same : s' ≡ h.3.3.1 = h.3.3.3.1 in
        let tail : Tail h.1 h.3.0 s' = (h.3.1, h.3.3.0, h.3.2, subst (rule.maybe rc h.3.1 h.3.3.0) (sym same) h.3.3.2) in
        ap (option_and_then (λ x. option_and_then (λ xs. Some (x.0 ∷ xs.0, xs.1)) (step.separated (suc (length x.1.rest)) is_comma comma begins p x.1))) (item_exact.complete s h.0 h.1 h.2 (tail_before h.1 h.3.0 s' tail f))
        ∙ ap (option_and_then (λ xs. Some (h.0 ∷ xs.0, xs.1))) (tail_exact.complete h.1 h.3.0 s' tail f)
        ∙ ap (λ zs. Some (zs, s')) (sym h.3.3.3.0);
  }
