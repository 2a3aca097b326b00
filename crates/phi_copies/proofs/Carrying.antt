-- Moves carry any values as they carry numbers.
use Rattle.std.proofs.Common.{◌≡◌, ℕ, Bool, true, false, cond, eqb, List, [], ◌∷◌, refl, ap, ◌∙◌}
use Rattle.phi_copies.specs.Together.{after, DoesAtOnce}
use Rattle.phi_copies.specs.declared.moves.Move.{Move}

pub after_agree : {X : Type 0} (f g : ℕ → X) (ms : List Move) (p : ℕ) → ((q : ℕ) → f q ≡ g q) → after f ms p ≡ after g ms p
after_agree f g [] p same = same p
after_agree f g (m ∷ ms) p same =
    after_agree (λ q. cond (eqb q m.to) (f m.from) (f q)) (λ q. cond (eqb q m.to) (g m.from) (g q)) ms p
    (λ q. ap (λ x. cond (eqb q m.to) x (f q)) (same m.from) ∙ ap (λ x. cond (eqb q m.to) (g m.from) x) (same q))

cond_map : {X Y : Type 0} (g : X → Y) (b : Bool) (x y : X) → cond b (g x) (g y) ≡ g (cond b x y)
cond_map g true x y = refl
cond_map g false x y = refl

-- what places hold afterwards is what the places held that it came from
after-map : {X Y : Type 0} (g : X → Y) (env : ℕ → X) (ms : List Move) (p : ℕ) → after (λ q. g (env q)) ms p ≡ g (after env ms p)
after-map g env [] p = refl
after-map g env (m ∷ ms) p =
    after_agree (λ q. cond (eqb q m.to) (g (env m.from)) (g (env q))) (λ q. g (cond (eqb q m.to) (env m.from) (env q))) ms p
    (λ q. cond_map g (eqb q m.to) (env m.from) (env q))
    ∙ after-map g (λ q. cond (eqb q m.to) (env m.from) (env q)) ms p

-- what is right for places that hold numbers is right for any values
pub does_at_once : {X : Type 0} (moves out : List Move) (scratch : ℕ) → ((env : ℕ → ℕ) → DoesAtOnce moves out scratch env) → (env : ℕ → X) → DoesAtOnce moves out scratch env
does_at_once moves out scratch numbers env = record {
  moved = λ i d l. after-map env (λ q. q) out _ ∙ ap env ((numbers (λ q. q)).moved i d l);
  kept = λ p s others. after-map env (λ q. q) out p ∙ ap env ((numbers (λ q. q)).kept p s others);
}
