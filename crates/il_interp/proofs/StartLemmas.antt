-- Cells of the start memory, one further.
use Rattle.std.proofs.Common.{◌≡◌, ℕ, zero, suc, ◌+◌, ◌-◌, ◌/◌, ◌%◌, ◌<◌, List, [], ◌∷◌, ◌++◌, map, take, refl, ap, sym, ◌∙◌, arith, append_assoc}
use Rattle.il_ast.specs.declared.value.Value.{Value}
use Rattle.il_ast.specs.declared.value.Value.TheVariants.{Pointer}
use Rattle.il_ast.specs.declared.value.Cell.{Cell}
use Rattle.il_ast.specs.declared.value.Cell.TheVariants.{Plain, Part}
use Rattle.il_ast.specs.Prelude.{bytes_of, Memory, parts, pointers_from}

pub parts_further : (v : Value) (i : ℕ) → i < 8 → take (i + 1) (parts v) ≡ take i (parts v) ++ Part v i ∷ []
parts_further v zero lt = refl
parts_further v (suc zero) lt = refl
parts_further v (suc (suc zero)) lt = refl
parts_further v (suc (suc (suc zero))) lt = refl
parts_further v (suc (suc (suc (suc zero)))) lt = refl
parts_further v (suc (suc (suc (suc (suc zero))))) lt = refl
parts_further v (suc (suc (suc (suc (suc (suc zero)))))) lt = refl
parts_further v (suc (suc (suc (suc (suc (suc (suc zero))))))) lt = refl
parts_further v (suc (suc (suc (suc (suc (suc (suc (suc i)))))))) lt = absurd (omega arith)

pub parts_next : (v : Value) (i : ℕ) (start block new : List Cell) → i < 8 → block ≡ start ++ take i (parts v) → new ≡ block ++ Part v i ∷ [] → new ≡ start ++ take (i + 1) (parts v)
parts_next v i start block new lt inv n =
    n ∙ (ap (λ xs. xs ++ Part v i ∷ []) inv ∙ (append_assoc start (take i (parts v)) (Part v i ∷ []) ∙ ap (λ xs. start ++ xs) (sym (parts_further v i lt))))

pub pointers_next : (f n i : ℕ) (block new whole : List Cell) → i < n → block ++ pointers_from (f + i) (n - i) ≡ whole → new ≡ block ++ parts (Pointer (f + i) 0) → new ++ pointers_from (f + (i + 1)) (n - (i + 1)) ≡ whole
pointers_next f n i block new whole lt inv nw =
    let count : n - i ≡ suc (n - (i + 1)) = omega arith in
    let next : (f + i) + 1 ≡ f + (i + 1) = omega arith in
    ap (λ xs. xs ++ pointers_from (f + (i + 1)) (n - (i + 1))) nw
    ∙ (append_assoc block (parts (Pointer (f + i) 0)) (pointers_from (f + (i + 1)) (n - (i + 1)))
    ∙ (ap (λ k. block ++ (parts (Pointer (f + i) 0) ++ pointers_from k (n - (i + 1)))) (sym next)
    ∙ (ap (λ k. block ++ pointers_from (f + i) k) (sym count) ∙ inv)))

pub number_next : (n i r : ℕ) (block new whole : List Cell) → i < n → block ++ map Plain (bytes_of (n - i) r) ≡ whole → new ≡ block ++ Plain (r % 256) ∷ [] → new ++ map Plain (bytes_of (n - (i + 1)) (r / 256)) ≡ whole
number_next n i r block new whole lt inv nw =
    let count : n - i ≡ suc (n - (i + 1)) = omega arith in
    ap (λ xs. xs ++ map Plain (bytes_of (n - (i + 1)) (r / 256))) nw
    ∙ (append_assoc block (Plain (r % 256) ∷ []) (map Plain (bytes_of (n - (i + 1)) (r / 256)))
    ∙ (ap (λ k. block ++ map Plain (bytes_of k r)) (sym count) ∙ inv))

pub three_parts : (a b c d o w l : Memory) → a ≡ [] → b ≡ a ++ o → c ≡ b ++ w → d ≡ c ++ l → d ≡ o ++ (w ++ l)
three_parts a b c d o w l ae be ce de =
    de ∙ (ap (λ xs. xs ++ l) (ce ∙ ap (λ xs. xs ++ w) (be ∙ ap (λ xs. xs ++ o) ae)) ∙ append_assoc o w l)
