-- A step is exact for a rule: it answers what the rule reads, and it answers that wherever the rule reads it
-- and what follows is as the rule wants.
use Rattle.std.proofs.Common.{◌≡◌, inl, inr, ℕ, zero, suc, Bool, true, false, cond, length-append, ◌+◌, ◌<◌, List, [], ◌∷◌, ◌++◌, length, take, drop, Option, Some, None, refl, sym, ap, ◌∙◌, arith, ⊎_elim, subst, option_and_then, option_map, take_at, drop_at}
use Rattle.std.proofs.lemmas.Option.{option_and_then_some, some_pair_parts}
use Rattle.il_lex.specs.declared.kind.Kind.{Kind}
use Rattle.il_lex.specs.declared.scan.Ahead.{Ahead}
use Rattle.il_lex.specs.declared.scan.Ahead.TheVariants.{End, Bad, Found}
use Rattle.il_lex.specs.Next.{IsNext, IsAhead, line_ends}
use Rattle.il_lex.specs.Scan.{scan}
use Rattle.il_lex.proofs.Runs.{cond_cases}
use Rattle.il_lex.proofs.Exact.{scan_meaning, next_complete}
use Rattle.il_reader.specs.Prelude.{State}
use Rattle.il_reader.specs.Rules as rule
use Rattle.il_reader.specs.Steps as step

pub record Exact {A : Type 0} (p : step.Step A) (r : rule.Rule A) (Follow : State → Type 0) : Type 0 where
  pub sound : (s : State) (x : A) (s' : State) → p s ≡ Some (x, s') → r s x s'
  pub complete : (s : State) (x : A) (s' : State) → r s x s' → Follow s' → p s ≡ Some (x, s')

abbrev pub Anything : State → Type 0
Anything s = Unit {0}

pub give_exact : {A : Type 0} (x : A) → Exact (step.give x) (rule.give x) Anything
give_exact x = record {
  sound = λ s y s' e. let parts = some_pair_parts x y s s' e in (sym parts.0, sym parts.1);
  complete = λ s y s' r f. ap (λ z. Some (z, s)) (sym r.0) ∙ ap (λ z. Some (y, z)) (sym r.1);
}

-- a rule that says the same, and a follow that says more
pub said : {A : Type 0} (p : step.Step A) (r q : rule.Rule A) (Follow : State → Type 0)
    → ((s : State) (x : A) (s' : State) → r s x s' → q s x s') → ((s : State) (x : A) (s' : State) → q s x s' → r s x s')
    → Exact p r Follow → Exact p q Follow
said p r q Follow there back e = record {
  sound = λ s x s' h. there s x s' (e.sound s x s' h);
  complete = λ s x s' h f. e.complete s x s' (back s x s' h) f;
}

pub weaker : {A : Type 0} (p : step.Step A) (r : rule.Rule A) (Follow Other : State → Type 0)
    → ((s : State) → Other s → Follow s) → Exact p r Follow → Exact p r Other
weaker p r Follow Other more e = record { sound = e.sound; complete = λ s x s' h f. e.complete s x s' h (more s' f) }

-- one after another, where whatever may follow the first
pub bind : {A B : Type 0} (p : step.Step A) (r : rule.Rule A) (f : A → step.Step B) (q : A → rule.Rule B) (Follow : State → Type 0)
    → Exact p r Anything → ((x : A) → Exact (f x) (q x) Follow) → Exact (step.◌>>=◌ p f) (rule.◌>>=◌ r q) Follow
bind p r f q Follow first second = record {
  sound = λ s y s' e. option_and_then_some (λ x. f x.0 x.1) (p s) (y, s') e (λ x is then'. (x.0, x.1, first.sound s x.0 x.1 is, (second x.0).sound x.1 y s' then'));
  complete = λ s y s' h g.
      ap (option_and_then (λ x. f x.0 x.1)) (first.complete s h.0 h.1 h.2 tt) ∙ (second h.0).complete h.1 y s' h.3 g;
}

-- one after another, where the second begins as what has to follow the first
pub bind_before : {A B : Type 0} (p : step.Step A) (r : rule.Rule A) (f : A → step.Step B) (q : A → rule.Rule B) (Before Follow : State → Type 0)
    → ((x : A) (s : State) (y : B) (s' : State) → q x s y s' → Follow s' → Before s)
    → Exact p r Before → ((x : A) → Exact (f x) (q x) Follow) → Exact (step.◌>>=◌ p f) (rule.◌>>=◌ r q) Follow
bind_before p r f q Before Follow begins first second = record {
  sound = λ s y s' e. option_and_then_some (λ x. f x.0 x.1) (p s) (y, s') e (λ x is then'. (x.0, x.1, first.sound s x.0 x.1 is, (second x.0).sound x.1 y s' then'));
  complete = λ s y s' h g.
      ap (option_and_then (λ x. f x.0 x.1)) (first.complete s h.0 h.1 h.2 (begins h.0 h.1 y s' h.3 g)) ∙ (second h.0).complete h.1 y s' h.3 g;
}

-- a token of any kind
abbrev pub any_token : rule.Rule (Kind × List ℕ)
any_token s t s' = rule.token t.0 s t.1 s'

found_sound : (s : State) (a : Ahead) → IsAhead s.rest a → (t : Kind × List ℕ) (s' : State) → step.found s a ≡ Some (t, s') → any_token s t s'
found_sound s End h t s' e = absurd (cc)
found_sound s Bad h t s' e = absurd (cc)
found_sound s (Found kind gap len) h t s' e =
    let parts = some_pair_parts (kind, take len (drop gap s.rest)) t (step.behind s kind gap len) s' e in
    let P : (Kind × List ℕ) → Type 0 = λ u. any_token s u (step.behind s kind gap len) in
    let here : P t = subst P parts.0 (take gap s.rest, drop len (drop gap s.rest), h.0, refl) in
    subst (any_token s t) parts.1 here

pub next_exact : Exact step.next any_token Anything
next_exact = record {
  sound = λ s t s' e. found_sound s (scan s.rest) (scan_meaning s.rest) t s' e;
  complete = λ s t s' h f. complete s t.0 t.1 s' h;
}
  where
    complete : (s : State) (kind : Kind) (text : List ℕ) (s' : State) → rule.token kind s text s' → step.next s ≡ Some ((kind, text), s')
    complete s kind text s' h =
        let n : IsNext s.rest kind h.0 text h.1 = h.2 in
        let later : drop (length h.0) s.rest ≡ text ++ h.1 = ap (drop (length h.0)) n.split ∙ drop_at h.0 (text ++ h.1) (length h.0) refl in
        let here : take (length text) (drop (length h.0) s.rest) ≡ text = ap (take (length text)) later ∙ take_at text h.1 (length text) refl in
        let rest : drop (length text) (drop (length h.0) s.rest) ≡ h.1 = ap (drop (length text)) later ∙ drop_at text h.1 (length text) refl in
        ap (step.found s) (next_complete s.rest kind h.0 text h.1 n)
        ∙ ap (λ x. Some ((kind, x), step.behind s kind (length h.0) (length text))) here
        ∙ ap (λ x. Some ((kind, text), record s { rest = x; line = s.line + line_ends kind })) rest
        ∙ ap (λ x. Some ((kind, text), x)) (sym h.3)

-- a token of which a test makes something
abbrev pub chosen : {A : Type 0} → (Kind → List ℕ → Option A) → rule.Rule A
chosen test s x s' = (kind : Kind) × (text : List ℕ) × rule.token kind s text s' × (test kind text ≡ Some x)

map_some : {A : Type 0} (o : Option A) (m : State) (x : A) (s' : State) → option_map {U = A × State} (λ x. (x, m)) o ≡ Some (x, s') → (o ≡ Some x) × (m ≡ s')
map_some None m x s' e = absurd (cc)
map_some (Some y) m x s' e = let parts = some_pair_parts y x m s' e in (ap Some parts.0, parts.1)

pub choose_exact : {A : Type 0} (test : Kind → List ℕ → Option A) → Exact (step.choose test) (chosen test) Anything
choose_exact test = record {
  sound = λ s x s' e. option_and_then_some (λ t. option_map (λ x. (x, t.1)) (test t.0.0 t.0.1)) (step.next s) (x, s') e
      (λ t is then'.
      let parts = map_some (test t.0.0 t.0.1) t.1 x s' then' in
      (t.0.0, t.0.1, subst (λ m. rule.token t.0.0 s t.0.1 m) parts.1 (next_exact.sound s t.0 t.1 is), parts.0));
  complete = λ s x s' h f.
      ap (option_and_then (λ t. option_map (λ x. (x, t.1)) (test t.0.0 t.0.1))) (next_exact.complete s (h.0, h.1) s' h.2 tt)
      ∙ ap (option_map (λ x. (x, s'))) h.3;
}

-- a choice that the next token decides
pub either_exact : {A : Type 0} (look : State → Bool) (p q : step.Step A) (r t : rule.Rule A) (Follow : State → Type 0)
    → ((s : State) (x : A) (s' : State) → r s x s' → look s ≡ true) → ((s : State) (x : A) (s' : State) → t s x s' → look s ≡ false)
    → Exact p r Follow → Exact q t Follow → Exact (step.either look p q) (rule.◌∥◌ r t) Follow
either_exact look p q r t Follow yes' no' first second = record {
  sound = λ s x s' e. cond_cases (λ o. o ≡ Some (x, s') → rule.◌∥◌ r t s x s') (look s) (p s) (q s) (λ y h. inl (first.sound s x s' h)) (λ n h. inr (second.sound s x s' h)) e;
  complete = λ s x s' h f. ⊎_elim
      (λ w. ap (λ b. cond b (p s) (q s)) (yes' s x s' w) ∙ first.complete s x s' w f)
      (λ w. ap (λ b. cond b (p s) (q s)) (no' s x s' w) ∙ second.complete s x s' w f) h;
}

-- what the next token is where a token of this kind is read
pub sees_token : (test : Kind → Bool) (kind : Kind) (s : State) (text : List ℕ) (s' : State) → rule.token kind s text s' → step.sees test s ≡ test kind
sees_token test kind s text s' h = ap (step.kind_is test) (next_complete s.rest kind h.0 text h.1 h.2)

-- a token leaves less
pub token_less : (kind : Kind) (s : State) (text : List ℕ) (s' : State) → rule.token kind s text s' → length s'.rest < length s.rest
token_less kind s text s' h =
    let a : IsAhead s.rest (Found kind (length h.0) (length text)) = subst (IsAhead s.rest) (next_complete s.rest kind h.0 text h.1 h.2) (scan_meaning s.rest) in
    let whole : length s.rest ≡ length h.0 + (length text + length h.1) =
    ap length h.2.split ∙ length-append h.0 (text ++ h.1) ∙ ap (λ n. length h.0 + n) (length-append text h.1) in
    let rest : length s'.rest ≡ length h.1 = ap (λ x. length x.rest) h.3 in
    omega (arith, a.1)

-- any number of times, as long as the next token tells so
module _ {A : Type 0} (look : State → Bool) (p : step.Step A) (r : rule.Rule A) (Each Follow : State → Type 0)
    (begins : (s : State) (x : A) (s' : State) → r s x s' → look s ≡ true)
    (ends : (s : State) → Follow s → look s ≡ false)
    (less : (s : State) (x : A) (s' : State) → r s x s' → length s'.rest < length s.rest)
    (goes_on : (s : State) → look s ≡ true → Each s) (stops : (s : State) → Follow s → Each s)
    (each : Exact p r Each) where
  repeated_sound : (n : ℕ) (s : State) (xs : List A) (s' : State) → step.repeated n look p s ≡ Some (xs, s') → rule.many r s xs s'
  repeated_sound zero s xs s' e = absurd (cc)
  repeated_sound (suc n) s xs s' e = cond_cases (λ o. o ≡ Some (xs, s') → rule.many r s xs s') (look s) _ _
      (λ y h. option_and_then_some (λ x. option_and_then (λ xs. Some (x.0 ∷ xs.0, xs.1)) (step.repeated n look p x.1)) (p s) (xs, s') h
      (λ x is then'. option_and_then_some (λ xs. Some (x.0 ∷ xs.0, xs.1)) (step.repeated n look p x.1) (xs, s') then'
      (λ ys later whole.
      let parts = some_pair_parts (x.0 ∷ ys.0) xs ys.1 s' whole in
      let all : rule.many r s (x.0 ∷ ys.0) ys.1 = (x.1, each.sound s x.0 x.1 is, repeated_sound n x.1 ys.0 ys.1 later) in
      subst (λ zs. rule.many r s zs s') parts.0 (subst (rule.many r s (x.0 ∷ ys.0)) parts.1 all))))
      (λ n' h. let parts = some_pair_parts [] xs s s' h in
      let none : rule.many r s [] s' = sym parts.1 in subst (λ zs. rule.many r s zs s') parts.0 none)
      e

  repeated_complete : (n : ℕ) (s : State) (xs : List A) (s' : State) → length s.rest < n → rule.many r s xs s' → Follow s' → step.repeated n look p s ≡ Some (xs, s')
  repeated_complete zero s xs s' l h f = absurd (omega arith)
  repeated_complete (suc n) s [] s' l h f =
      let stop : look s ≡ false = ends s (subst Follow h f) in
      ap (λ b. cond b (option_and_then (λ x. option_and_then (λ xs. Some (x.0 ∷ xs.0, xs.1)) (step.repeated n look p x.1)) (p s)) (Some ([], s))) stop
      ∙ ap (λ m. Some ([], m)) (sym h)
  repeated_complete (suc n) s (x ∷ xs) s' l h f =
      let go : look s ≡ true = begins s x h.0 h.1 in
      let shorter = less s x h.0 h.1 in
      ap (λ b. cond b (option_and_then (λ x. option_and_then (λ xs. Some (x.0 ∷ xs.0, xs.1)) (step.repeated n look p x.1)) (p s)) (Some ([], s))) go
      ∙ ap (option_and_then (λ x. option_and_then (λ xs. Some (x.0 ∷ xs.0, xs.1)) (step.repeated n look p x.1))) (each.complete s x h.0 h.1 (between h.0 xs s' h.2 f))
      ∙ ap (option_and_then (λ ys. Some (x ∷ ys.0, ys.1))) (repeated_complete n h.0 xs s' (omega arith) h.2 f)
    where
      between : (m : State) (xs : List A) (s' : State) → rule.many r m xs s' → Follow s' → Each m
      between m [] s' h f = stops m (subst Follow h f)
      between m (y ∷ ys) s' h f = goes_on m (begins m y h.0 h.1)

  pub many_exact : Exact (step.many look p) (rule.many r) Follow
  many_exact = record {
    sound = λ s xs s' e. repeated_sound (suc (length s.rest)) s xs s' e;
    complete = λ s xs s' h f. repeated_complete (suc (length s.rest)) s xs s' (omega arith) h f;
  }
