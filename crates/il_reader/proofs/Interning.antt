-- What the set of the names that have appeared answers is what the definitions say of the list of them; and so does a look at them one by one.
use Rattle.std.proofs.Common.{◌≡◌, ℕ, suc, ◌+◌, ◌<◌, Bool, true, false, cond, nat_eq, List, [], ◌∷◌, ◌++◌, length, refl, sym, ap, subst, ◌∙◌, arith, map, ◌||◌}
use Rattle.std.specs.List.{list_any, position_or_len}
use Rattle.std.specs.Cmp.Lexicographic.{pointwise}
use Rattle.std.proofs.lemmas.Cmp.{nat_list_eq_equiv}
use Rattle.std.proofs.lemmas.List.{length-map}
use Rattle.std.proofs.lemmas.List.Recursion.{is_position_or_len}
use Rattle.il_reader.specs.Prelude.{place, with_name, key_bytes}
use Rattle.il_reader.specs.declared.names.Key.{Key}

one_more : (n : ℕ) → suc n ≡ 1 + n
one_more n = omega arith

pub place_is : (name : List ℕ) (names : List Key)
    → position_or_len (λ n. pointwise nat_eq name n.bytes.now) names ≡ place name (map key_bytes names)
place_is name names =
    sym (is_position_or_len (λ ns. place name (map key_bytes ns)) (λ n. pointwise nat_eq name n.bytes.now) refl
    (λ n ns. ap (λ b. cond b 0 (suc (place name (map key_bytes ns)))) (nat_list_eq_equiv.symm n.bytes.now name)
    ∙ ap (λ k. cond (pointwise nat_eq name n.bytes.now) 0 k) (one_more (place name (map key_bytes ns))))
    names)

pub with_name_is : (name : Key) (names : List Key)
    → map key_bytes (cond (list_any (λ n. pointwise nat_eq name.bytes.now n.bytes.now) names) names (names ++ name ∷ []))
    ≡ with_name name.bytes.now (map key_bytes names)
with_name_is name [] = refl
with_name_is name (n ∷ ns) =
    spread (pointwise nat_eq name.bytes.now n.bytes.now) (list_any (λ n. pointwise nat_eq name.bytes.now n.bytes.now) ns)
    ∙ ap (λ rest. cond (pointwise nat_eq name.bytes.now n.bytes.now) (n.bytes.now ∷ map key_bytes ns) (n.bytes.now ∷ rest)) (with_name_is name ns)
    ∙ ap (λ b. cond b (n.bytes.now ∷ map key_bytes ns) (n.bytes.now ∷ with_name name.bytes.now (map key_bytes ns))) (nat_list_eq_equiv.symm name.bytes.now n.bytes.now)
  where
    spread : (b c : Bool) → map key_bytes (cond (b || c) (n ∷ ns) (n ∷ ns ++ name ∷ []))
        ≡ cond b (n.bytes.now ∷ map key_bytes ns) (n.bytes.now ∷ map key_bytes (cond c ns (ns ++ name ∷ [])))
    spread true c = refl
    spread false true = refl
    spread false false = refl

-- a name that is there comes behind none
pub stays : (name : List ℕ) (names : List (List ℕ)) → place name names < length names → with_name name names ≡ names
stays name [] h = absurd (omega arith)
stays name (n ∷ ns) h = chosen (pointwise nat_eq n name) h (λ low. stays name ns low)
  where
    chosen : (b : Bool) → cond b 0 (suc (place name ns)) < suc (length ns) → (place name ns < length ns → with_name name ns ≡ ns)
        → cond b (n ∷ ns) (n ∷ with_name name ns) ≡ n ∷ ns
    chosen true h rest = refl
    chosen false h rest = ap (λ r. n ∷ r) (rest (omega arith))

pub found_stays : (name : List ℕ) (names keys : List Key) (own : List (List ℕ)) (k : ℕ) → names ≡ keys → map key_bytes keys ≡ own
    → k < length names → k ≡ place name (map key_bytes names) → own ≡ with_name name own
found_stays name names keys own k same is within at =
    let all : map key_bytes names ≡ own = ap (map key_bytes) same ∙ is in
    let as_many : length (map key_bytes names) ≡ length names = length-map names key_bytes in
    subst (λ o. o ≡ with_name name o) all (sym (stays name (map key_bytes names) (omega (arith, within, at, as_many))))
