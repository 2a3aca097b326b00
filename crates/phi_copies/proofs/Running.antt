-- Copies of one class between temporaries are moves of what these read as in that class.
use Rattle.std.proofs.Common.{◌≡◌, ◌≢◌, ◌⊎◌, inl, inr, ℕ, ◌%◌, ◌^◌, ◌<◌, cond, eqb, List, [], ◌∷◌, length, map, refl, sym, ◌∙◌, ap, subst, ⊎_elim, arith, slice_get, slice_set, Option, Some, None, length-set}
use Rattle.std.specs.Option.{option_and_then, option_flatten}
use Rattle.il_ast.specs.declared.operation.Class.{Class}
use Rattle.il_ast.specs.declared.operation.Class.TheVariants.{W, L}
use Rattle.il_ast.specs.declared.operand.Val.TheVariants.{Temp}
use Rattle.il_ast.specs.declared.value.Value.{Value}
use Rattle.il_ast.specs.declared.value.Value.TheVariants.{Integer, Pointer, Function}
use Rattle.il_ast.specs.Prelude.{in_place, operand}
use Rattle.phi_copies.specs.declared.moves.Move.{Move}
use Rattle.phi_copies.specs.Endings.{copied}
use Rattle.phi_copies.specs.Together.{after, ReadsKnown, copy_of}
use Rattle.phi_copies.proofs.Carrying.{after_agree}
use Rattle.phi_copies.proofs.Lists.{some_same, get_set_other}
use Rattle.phi_copies.proofs.Members.{Among}
use Rattle.phi_copies.proofs.Placing.{after_same, after_other}
use Rattle.il_ast.proofs.Listed.{get_set_same}
use Rattle.std.proofs.lemmas.Bool.{cases_eq}

-- ---- a value that a place has given passes it again

word_again : (n : ℕ) → in_place W (Integer (n % 2 ^ 32)) ≡ Some (Integer (n % 2 ^ 32))
word_again n = let e : n % 2 ^ 32 % 2 ^ 32 ≡ n % 2 ^ 32 = omega arith in ap (λ k. Some (Integer k)) e

passes_again : (c : Class) (u v : Value) → in_place c u ≡ Some v → in_place c v ≡ Some v
passes_again L u v h = refl
passes_again W (Integer n) v h = subst (λ (x : Value). in_place W x ≡ Some x) (some_same h) (word_again n)
passes_again W (Pointer b o) v h = absurd (let no : ⊥ = cc in no)
passes_again W (Function f) v h = absurd (let no : ⊥ = cc in no)

pub value_passes : (c : Class) (o : Option Value) (v : Value) → option_and_then (in_place c) o ≡ Some v → in_place c v ≡ Some v
value_passes c None v h = absurd (let no : ⊥ = cc in no)
value_passes c (Some u) v h = passes_again c u v h

-- ---- what temporaries read as

abbrev pub reading : List Value → List (Option Value) → Class → ℕ → Option Value
reading globals ts c t = operand globals ts c (Temp t)

reading_set : (globals : List Value) (ts : List (Option Value)) (c : Class) (m : Move) (v : Value) → m.to < length ts → reading globals ts c m.from ≡ Some v
    → (q : ℕ) → reading globals (slice_set ts m.to (Some v)) c q ≡ cond (eqb q m.to) (reading globals ts c m.from) (reading globals ts c q)
reading_set globals ts c m v inside known q =
    ⊎_elim
    (λ e.
    let here : slice_get (slice_set ts m.to (Some v)) q ≡ Some (Some v) = ap (slice_get (slice_set ts m.to (Some v))) e ∙ get_set_same ts m.to (Some v) inside in
    ap (λ (o : Option (Option Value)). option_and_then (in_place c) (option_flatten o)) here
    ∙ value_passes c _ v known
    ∙ sym (after_same (reading globals ts c) m q e ∙ known))
    (λ n.
    ap (λ (o : Option (Option Value)). option_and_then (in_place c) (option_flatten o)) (get_set_other ts q m.to (Some v) n)
    ∙ sym (after_other (reading globals ts c) m q n))
    (cases_eq q m.to)

-- ---- where moves go

abbrev pub Goes : ℕ → List Move → Type 0
Goes q [] = ⊥
Goes q (m ∷ ms) = (q ≡ m.to) ⊎ Goes q ms

pub goes_or_not : (q : ℕ) (ms : List Move) → Goes q ms ⊎ (Goes q ms → ⊥)
goes_or_not q [] = inr (λ a. a)
goes_or_not q (m ∷ ms) =
    ⊎_elim (λ e. inl (inl e))
    (λ n. ⊎_elim (λ g. inl (inr g)) (λ h. inr (λ g. ⊎_elim n h g)) (goes_or_not q ms))
    (cases_eq q m.to)

pub after_unless : {X : Type 0} (env : ℕ → X) (ms : List Move) (q : ℕ) → (Goes q ms → ⊥) → after env ms q ≡ env q
after_unless env [] q h = refl
after_unless env (m ∷ ms) q h =
    after_unless (λ p. cond (eqb p m.to) (env m.from) (env p)) ms q (λ g. h (inr g))
    ∙ after_other env m q (λ e. h (inl e))

pub goes_among : (q : ℕ) (ms : List Move) → ((m : Move) → Among m ms → q ≢ m.to) → Goes q ms → ⊥
goes_among q [] h g = g
goes_among q (m ∷ ms) h (inl e) = h m (inl refl) e
goes_among q (m ∷ ms) h (inr g) = goes_among q ms (λ n a. h n (inr a)) g

-- ---- a run of moves of one class

-- each of these places reads as something
abbrev pub AllRead : List Value → List (Option Value) → Class → (ℕ → Type 0) → Type 0
AllRead globals ts c known = (p : ℕ) → known p → (v : Value) × (reading globals ts c p ≡ Some v)

pub record Ran (globals : List Value) (ts : List (Option Value)) (c : Class) (ms : List Move) : Type 0 where
  pub now : List (Option Value)
  pub done : copied globals ts (map (copy_of c) ms) ≡ Some now
  pub long : length now ≡ length ts
  pub written : (q : ℕ) → Goes q ms → slice_get now q ≡ Some (after (reading globals ts c) ms q)
  pub kept : (q : ℕ) → (Goes q ms → ⊥) → slice_get now q ≡ slice_get ts q

pub run : (globals : List Value) (ts : List (Option Value)) (c : Class) (ms : List Move) (known : ℕ → Type 0)
    → AllRead globals ts c known → ReadsKnown known ms → ((m : Move) → Among m ms → m.to < length ts) → Ran globals ts c ms
run globals ts c [] known defined reads inside =
    record { now = ts; done = refl; long = refl; written = λ q g. absurd g; kept = λ q n. refl }
run globals ts c (m ∷ ms) known defined reads inside =
    let d = defined m.from reads.0 in
    let v = d.0 in
    let here = inside m (inl refl) in
    let env = reading globals ts c in
    let ts' = slice_set ts m.to (Some v) in
    let set = reading_set globals ts c m v here d.1 in
    let long : length ts' ≡ length ts = length-set ts m.to (Some v) in
    let rest = run globals ts' c ms (λ p. (p ≡ m.to) ⊎ known p)
    (λ p k. ⊎_elim
    (λ e. (v, set p ∙ after_same env m p e ∙ d.1))
    (λ n. ⊎_elim (λ e. absurd (n e)) (λ h. let r = defined p h in (r.0, set p ∙ after_other env m p n ∙ r.1)) k)
    (cases_eq p m.to))
    reads.1 (λ n a. subst (λ l. n.to < l) (sym long) (inside n (inr a))) in
    let agree : (q : ℕ) → after (reading globals ts' c) ms q ≡ after env (m ∷ ms) q = λ q. after_agree (reading globals ts' c) (λ p. cond (eqb p m.to) (env m.from) (env p)) ms q set in
    record {
      now = rest.now;
      done = ap (option_and_then (λ x. copied globals (slice_set ts m.to (Some x)) (map (copy_of c) ms))) d.1 ∙ rest.done;
      long = rest.long ∙ long;
      written = λ q g. ⊎_elim
          (λ later. rest.written q later ∙ ap Some (agree q))
          (λ n. ⊎_elim
          (λ e.
          rest.kept q n
          ∙ ap (slice_get ts') e
          ∙ get_set_same ts m.to (Some v) here
          ∙ ap Some (sym (after_unless (λ p. cond (eqb p m.to) (env m.from) (env p)) ms q n ∙ after_same env m q e ∙ d.1)))
          (λ later. absurd (n later)) g)
          (goes_or_not q ms);
      kept = λ q n. rest.kept q (λ g. n (inr g)) ∙ get_set_other ts q m.to (Some v) (λ e. n (inl e));
    }
