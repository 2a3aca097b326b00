-- Items at the front of a string that are bytes which stand for themselves; and as many items may be asked for as one likes, where there are no more bytes.
use Rattle.std.proofs.Common.{◌≡◌, ℕ, zero, suc, ◌+◌, ◌≤◌, ◌<◌, Bool, true, false, cond, List, [], ◌∷◌, ◌++◌, length, take, drop, Option, Some, None, refl, sym, ap, ◌∙◌, arith, zero-add, one-add, subst, length-drop}
use Rattle.std.specs.List.{prefix_len}
use Rattle.std.specs.Option.{option_map_or}
use Rattle.std.proofs.lemmas.Option.{none-some, same_Some}
use Rattle.il_lex.specs.Quoted.{is_plain}
use Rattle.il_lex.specs.Scan.{item, items_len, items}
use Rattle.il_lex.proofs.Items.{ItemIs, item_sound, plain_complete}

-- ---- no more bytes than items are asked for

len_at : (n m : ℕ) (bytes : List ℕ) (o : Option (ℕ × ℕ)) → ((xs : List ℕ) → length xs ≤ n → length xs ≤ m → items_len n xs ≡ items_len m xs)
    → length bytes ≤ suc n → length bytes ≤ suc m → ItemIs bytes o
    → option_map_or (λ i. i.1 + items_len n (drop i.1 bytes)) o 0 ≡ option_map_or (λ i. i.1 + items_len m (drop i.1 bytes)) o 0
len_at n m bytes None ih hn hm is = refl
len_at n m bytes (Some x) ih hn hm is =
    ap (λ k. x.1 + k) (ih (drop x.1 bytes) (omega (arith, length-drop x.1 bytes, is.1)) (omega (arith, length-drop x.1 bytes, is.1)))

len_none : (n : ℕ) → items_len n [] ≡ 0
unfolding item
len_none zero = refl
len_none (suc n) = refl

len_enough : (n m : ℕ) (bytes : List ℕ) → length bytes ≤ n → length bytes ≤ m → items_len n bytes ≡ items_len m bytes
len_enough zero m [] hn hm = sym (len_none m)
len_enough zero m (b ∷ bs) hn hm = absurd (omega arith)
len_enough (suc n) zero [] hn hm = len_none (suc n)
len_enough (suc n) zero (b ∷ bs) hn hm = absurd (omega arith)
len_enough (suc n) (suc m) bytes hn hm = len_at n m bytes (item bytes) (len_enough n m) hn hm (item_sound bytes)

items_at : (n m : ℕ) (bytes : List ℕ) (o : Option (ℕ × ℕ)) → ((xs : List ℕ) → length xs ≤ n → length xs ≤ m → items n xs ≡ items m xs)
    → length bytes ≤ suc n → length bytes ≤ suc m → ItemIs bytes o
    → option_map_or (λ i. i.0 ∷ items n (drop i.1 bytes)) o [] ≡ option_map_or (λ i. i.0 ∷ items m (drop i.1 bytes)) o []
items_at n m bytes None ih hn hm is = refl
items_at n m bytes (Some x) ih hn hm is =
    ap (λ xs. x.0 ∷ xs) (ih (drop x.1 bytes) (omega (arith, length-drop x.1 bytes, is.1)) (omega (arith, length-drop x.1 bytes, is.1)))

items_none : (n : ℕ) → items n [] ≡ []
unfolding item
items_none zero = refl
items_none (suc n) = refl

items_enough : (n m : ℕ) (bytes : List ℕ) → length bytes ≤ n → length bytes ≤ m → items n bytes ≡ items m bytes
items_enough zero m [] hn hm = sym (items_none m)
items_enough zero m (b ∷ bs) hn hm = absurd (omega arith)
items_enough (suc n) zero [] hn hm = items_none (suc n)
items_enough (suc n) zero (b ∷ bs) hn hm = absurd (omega arith)
items_enough (suc n) (suc m) bytes hn hm = items_at n m bytes (item bytes) (items_enough n m) hn hm (item_sound bytes)

-- ---- a run of bytes that stand for themselves

abbrev run : List ℕ → ℕ
run bytes = prefix_len is_plain bytes

drop_next : (k b : ℕ) (bs : List ℕ) → drop (1 + k) (b ∷ bs) ≡ drop k bs
drop_next k b bs = ap (λ n. drop n (b ∷ bs)) (one-add k)

take_next : (k b : ℕ) (bs : List ℕ) → take (1 + k) (b ∷ bs) ≡ b ∷ take k bs
take_next k b bs = ap (λ n. take n (b ∷ bs)) (one-add k)

len_run_at : (n b : ℕ) (bs : List ℕ) (t : Bool) → is_plain b ≡ t → length bs ≤ n → items_len n bs ≡ run bs + items_len n (drop (run bs) bs)
    → items_len (suc n) (b ∷ bs) ≡ cond t (1 + run bs) 0 + items_len (suc n) (drop (cond t (1 + run bs) 0) (b ∷ bs))
len_run_at n b bs false plain few ih = sym (zero-add (items_len (suc n) (b ∷ bs)))
len_run_at n b bs true plain few ih =
    let first : items_len (suc n) (b ∷ bs) ≡ 1 + items_len n bs =
    ap (λ o. option_map_or (λ i. i.1 + items_len n (drop i.1 (b ∷ bs))) o 0) (plain_complete b bs plain) in
    let rest = drop (run bs) bs in
    let more : items_len n rest ≡ items_len (suc n) rest = len_enough n (suc n) rest (omega (arith, length-drop (run bs) bs)) (omega (arith, length-drop (run bs) bs)) in
    let there : items_len (suc n) (drop (1 + run bs) (b ∷ bs)) ≡ items_len (suc n) rest = ap (items_len (suc n)) (drop_next (run bs) b bs) in
    omega (arith, first, ih, more, there)

len_run : (n : ℕ) (bytes : List ℕ) → length bytes ≤ n → items_len n bytes ≡ run bytes + items_len n (drop (run bytes) bytes)
len_run n [] few = sym (zero-add (items_len n []))
len_run zero (b ∷ bs) few = absurd (omega arith)
len_run (suc n) (b ∷ bs) few = len_run_at n b bs (is_plain b) refl (omega arith) (len_run n bs (omega arith))

items_run_at : (n b : ℕ) (bs : List ℕ) (t : Bool) → is_plain b ≡ t → length bs ≤ n → items n bs ≡ take (run bs) bs ++ items n (drop (run bs) bs)
    → items (suc n) (b ∷ bs) ≡ take (cond t (1 + run bs) 0) (b ∷ bs) ++ items (suc n) (drop (cond t (1 + run bs) 0) (b ∷ bs))
items_run_at n b bs false plain few ih = refl
items_run_at n b bs true plain few ih =
    let first : items (suc n) (b ∷ bs) ≡ b ∷ items n bs =
    ap (λ o. option_map_or (λ i. i.0 ∷ items n (drop i.1 (b ∷ bs))) o []) (plain_complete b bs plain) in
    let rest = drop (run bs) bs in
    let more : items n rest ≡ items (suc n) rest = items_enough n (suc n) rest (omega (arith, length-drop (run bs) bs)) (omega (arith, length-drop (run bs) bs)) in
    first ∙ ap (λ xs. b ∷ xs) ih ∙ ap (λ xs. b ∷ (take (run bs) bs ++ xs)) more
    ∙ ap (λ xs. xs ++ items (suc n) rest) (sym (take_next (run bs) b bs))
    ∙ ap (λ xs. take (1 + run bs) (b ∷ bs) ++ items (suc n) xs) (sym (drop_next (run bs) b bs))

items_run : (n : ℕ) (bytes : List ℕ) → length bytes ≤ n → items n bytes ≡ take (run bytes) bytes ++ items n (drop (run bytes) bytes)
items_run n [] few = refl
items_run zero (b ∷ bs) few = absurd (omega arith)
items_run (suc n) (b ∷ bs) few = items_run_at n b bs (is_plain b) refl (omega arith) (items_run n bs (omega arith))

-- ---- one turn of the loops that go along items: a run, and an item behind it

after_run : (bytes left : List ℕ) (k : ℕ) → k ≡ run bytes → left ≡ drop k bytes → items_len (length bytes) bytes ≡ k + items_len (suc (length left)) left
after_run bytes left k same there =
    let e : left ≡ drop (run bytes) bytes = there ∙ ap (λ n. drop n bytes) same in
    let few : length left ≤ length bytes = omega (arith, ap length e, length-drop (run bytes) bytes) in
    let whole = len_run (length bytes) bytes (omega arith) in
    let here : items_len (length bytes) (drop (run bytes) bytes) ≡ items_len (length bytes) left = ap (items_len (length bytes)) (sym e) in
    let enough = len_enough (length bytes) (suc (length left)) left few (omega arith) in
    omega (arith, whole, here, enough, same)

pub len_turn : (bytes left : List ℕ) (k : ℕ) (x : ℕ × ℕ) → k ≡ run bytes → left ≡ drop k bytes → item left ≡ Some x
    → items_len (length bytes) bytes ≡ k + (x.1 + items_len (length (drop x.1 left)) (drop x.1 left))
len_turn bytes left k x same there e =
    let rest = drop x.1 left in
    let one : items_len (suc (length left)) left ≡ x.1 + items_len (length left) rest =
    ap (λ o. option_map_or (λ i. i.1 + items_len (length left) (drop i.1 left)) o 0) e in
    let enough = len_enough (length left) (length rest) rest (omega (arith, length-drop x.1 left)) (omega arith) in
    omega (arith, after_run bytes left k same there, one, enough)

pub len_stop : (bytes left : List ℕ) (k : ℕ) → k ≡ run bytes → left ≡ drop k bytes → item left ≡ None → items_len (length bytes) bytes ≡ k
len_stop bytes left k same there e =
    let none : items_len (suc (length left)) left ≡ 0 =
    ap (λ o. option_map_or (λ i. i.1 + items_len (length left) (drop i.1 left)) o 0) e in
    omega (arith, after_run bytes left k same there, none)

items_after_run : (bytes left : List ℕ) (k : ℕ) → k ≡ run bytes → left ≡ drop k bytes → items (length bytes) bytes ≡ take k bytes ++ items (suc (length left)) left
items_after_run bytes left k same there =
    let e : left ≡ drop (run bytes) bytes = there ∙ ap (λ n. drop n bytes) same in
    let few : length left ≤ length bytes = omega (arith, ap length e, length-drop (run bytes) bytes) in
    items_run (length bytes) bytes (omega arith)
    ∙ ap (λ n. take n bytes ++ items (length bytes) (drop (run bytes) bytes)) (sym same)
    ∙ ap (λ xs. take k bytes ++ items (length bytes) xs) (sym e)
    ∙ ap (λ xs. take k bytes ++ xs) (items_enough (length bytes) (suc (length left)) left few (omega arith))

pub items_turn : (bytes left : List ℕ) (k : ℕ) (x : ℕ × ℕ) → k ≡ run bytes → left ≡ drop k bytes → item left ≡ Some x
    → items (length bytes) bytes ≡ take k bytes ++ (x.0 ∷ items (length (drop x.1 left)) (drop x.1 left))
items_turn bytes left k x same there e =
    let rest = drop x.1 left in
    items_after_run bytes left k same there
    ∙ ap (λ xs. take k bytes ++ xs)
    (ap (λ o. option_map_or (λ i. i.0 ∷ items (length left) (drop i.1 left)) o []) e
    ∙ ap (λ xs. x.0 ∷ xs) (items_enough (length left) (length rest) rest (omega (arith, length-drop x.1 left)) (omega arith)))

pub items_stop : (bytes left : List ℕ) (k : ℕ) → k ≡ run bytes → left ≡ drop k bytes → item left ≡ None
    → items (length bytes) bytes ≡ take k bytes ++ []
items_stop bytes left k same there e =
    items_after_run bytes left k same there
    ∙ ap (λ xs. take k bytes ++ xs) (ap (λ o. option_map_or (λ i. i.0 ∷ items (length left) (drop i.1 left)) o []) e)

-- an item is not empty
pub item_some : (bytes : List ℕ) (x : ℕ × ℕ) → item bytes ≡ Some x → 0 < x.1
item_some bytes x e = at (item bytes) (item_sound bytes) e
  where
    at : (o : Option (ℕ × ℕ)) → ItemIs bytes o → o ≡ Some x → 0 < x.1
    at None is h = absurd (none-some x h)
    at (Some y) is h = let same : y ≡ x = same_Some y x h in subst (λ z. 0 < z.1) same is.1
