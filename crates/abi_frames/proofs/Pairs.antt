-- The code of so many pieces, one after another.
use Rattle.std.proofs.Common.{◌≡◌, ℕ, suc, ◌+◌, ◌-◌, ◌*◌, ◌<◌, List, ◌++◌, sym, ◌∙◌, ap, arith, append_assoc}
use Rattle.rv_isa.specs.declared.labelled.Item.{Item}
use Rattle.abi_frames.specs.Emission.{copy_pair, copy_pairs, copy_part, copy_parts}

-- a piece that is made is one less to make
one_more : (is js ks piece less more : List Item) → more ≡ piece ++ less → ks ≡ is ++ piece → is ++ more ≡ js → ks ++ less ≡ js
one_more is js ks piece less more next made all =
    ap (λ l. l ++ less) made ∙ (append_assoc is piece less ∙ (ap (λ l. is ++ l) (sym next) ∙ all))

pub part_more : (is js ks : List Item) (n i : ℕ) → i < n → ks ≡ is ++ copy_part → is ++ copy_parts (n - i) ≡ js → ks ++ copy_parts (n - (i + 1)) ≡ js
part_more is js ks n i h made all =
    let more : n - i ≡ suc (n - (i + 1)) = omega (arith, h) in
    one_more is js ks copy_part (copy_parts (n - (i + 1))) (copy_parts (n - i)) (ap copy_parts more) made all

pub pair_more : (is js ks : List Item) (from to n i : ℕ) → i < n → ks ≡ is ++ copy_pair from to (16 * i) → is ++ copy_pairs from to (16 * i) (n - i) ≡ js
    → ks ++ copy_pairs from to (16 * (i + 1)) (n - (i + 1)) ≡ js
pair_more is js ks from to n i h made all =
    let more : n - i ≡ suc (n - (i + 1)) = omega (arith, h) in
    let further : 16 * i + 16 ≡ 16 * (i + 1) = omega arith in
    let piece : List Item = copy_pair from to (16 * i) in
    one_more is js ks piece (copy_pairs from to (16 * (i + 1)) (n - (i + 1))) (copy_pairs from to (16 * i) (n - i))
    (ap (copy_pairs from to (16 * i)) more ∙ ap (λ o. piece ++ copy_pairs from to o (n - (i + 1))) further) made all
