-- The item at the front of a string, and all of its items.
use Rattle.std.proofs.Common.{◌≡◌, inl, inr, ℕ, zero, suc, ◌+◌, ◌-◌, ◌*◌, ◌<◌, ◌≤◌, true, false, cond, eqb, leb, ◌&&◌, List, [], ◌∷◌, ◌++◌, length, take, drop, Option, Some, None, refl, sym, ap, ◌∙◌, arith, append_assoc, length-append, zero-add, drop_at, drop-drop}
use Rattle.std.proofs.Math.Nat.{suc-add}
use Rattle.std.specs.Option.{option_map, option_map_or}
use Rattle.std.proofs.lemmas.Bool.{and_parts, and_from}
use Rattle.std.proofs.lemmas.Bool.Decides.{nat_tests, Decides-eqb}
use Rattle.il_lex.specs.Quoted.{is_octal, is_plain, escaped, begins_octal, IsOctal, IsItem, Spells}
use Rattle.il_lex.specs.Scan.{octal_third, octal_second, escape, item, items_len, items}
use Rattle.il_lex.proofs.Runs.{cond_cases}

-- what an answer about the item at the front says
abbrev pub ItemIs : List ℕ → Option (ℕ × ℕ) → Type 0
ItemIs bytes None = Unit {0}
ItemIs bytes (Some x) = IsItem (take x.1 bytes) x.0 (drop x.1 bytes) × (0 < x.1) × (x.1 ≤ length bytes)

octal_item : (digits after : List ℕ) (b byte : ℕ) → b ≡ 92 → IsOctal digits byte after → IsItem (b ∷ digits) byte after
octal_item digits after b byte h o = inr (inr (digits, ap (λ x. x ∷ digits) h, o))

octal_bounds : (d : ℕ) → is_octal d ≡ true → (48 ≤ d) × (d ≤ 55)
octal_bounds d h = (grind (arith, nat_tests), grind (arith, nat_tests))

third_is : (b c d : ℕ) (ds : List ℕ) → b ≡ 92 → is_octal c ≡ true → is_octal d ≡ true → ItemIs (b ∷ c ∷ d ∷ ds) (octal_third (8 * (c - 48) + (d - 48)) ds)
third_is b c d [] h o1 o2 =
    let b1 = octal_bounds c o1 in
    let b2 = octal_bounds d o2 in (
      octal_item (c ∷ d ∷ []) [] b (8 * (c - 48) + (d - 48)) h (record {
        some = omega arith;
        most = omega arith;
        octal_digits = and_from _ _ o1 (and_from _ _ o2 refl);
        no_more = λ _. refl;
        value = omega arith;
        fits = omega (arith, b1.0, b1.1, b2.0, b2.1);
      }),
      omega arith,
      omega arith,
    )
third_is b c d (e ∷ es) h o1 o2 =
    let b1 = octal_bounds c o1 in
    let b2 = octal_bounds d o2 in
    cond_cases (ItemIs (b ∷ c ∷ d ∷ e ∷ es)) (is_octal e) _ _
    (λ o3. cond_cases (ItemIs (b ∷ c ∷ d ∷ e ∷ es)) (leb (8 * (8 * (c - 48) + (d - 48)) + (e - 48)) 0xff) _ None
    (λ l. (
      octal_item (c ∷ d ∷ e ∷ []) es b (8 * (8 * (c - 48) + (d - 48)) + (e - 48)) h (record {
        some = omega arith;
        most = omega arith;
        octal_digits = and_from _ _ o1 (and_from _ _ o2 (and_from _ _ o3 refl));
        no_more = λ short. absurd (omega arith);
        value = omega arith;
        fits = grind (arith, nat_tests);
      }),
      omega arith,
      omega arith,
    ))
    (λ _. tt))
    (λ n3. (
      octal_item (c ∷ d ∷ []) (e ∷ es) b (8 * (c - 48) + (d - 48)) h (record {
        some = omega arith;
        most = omega arith;
        octal_digits = and_from _ _ o1 (and_from _ _ o2 refl);
        no_more = λ _. n3;
        value = omega arith;
        fits = omega (arith, b1.0, b1.1, b2.0, b2.1);
      }),
      omega arith,
      omega arith,
    ))

second_is : (b c : ℕ) (cs : List ℕ) → b ≡ 92 → is_octal c ≡ true → ItemIs (b ∷ c ∷ cs) (octal_second (c - 48) cs)
second_is b c [] h o1 =
    let b1 = octal_bounds c o1 in (
      octal_item (c ∷ []) [] b (c - 48) h (record {
        some = omega arith;
        most = omega arith;
        octal_digits = and_from _ _ o1 refl;
        no_more = λ _. refl;
        value = omega arith;
        fits = omega (arith, b1.0, b1.1);
      }),
      omega arith,
      omega arith,
    )
second_is b c (d ∷ ds) h o1 =
    let b1 = octal_bounds c o1 in
    cond_cases (ItemIs (b ∷ c ∷ d ∷ ds)) (is_octal d) _ _
    (λ o2. third_is b c d ds h o1 o2)
    (λ n2. (
      octal_item (c ∷ []) (d ∷ ds) b (c - 48) h (record {
        some = omega arith;
        most = omega arith;
        octal_digits = and_from _ _ o1 refl;
        no_more = λ _. n2;
        value = omega arith;
        fits = omega (arith, b1.0, b1.1);
      }),
      omega arith,
      omega arith,
    ))

simple_is : (b c : ℕ) (cs : List ℕ) (o : Option ℕ) → b ≡ 92 → escaped c ≡ o → ItemIs (b ∷ c ∷ cs) (option_map (λ byte. (byte, 2)) o)
simple_is b c cs None h e = tt
simple_is b c cs (Some byte) h e = (inr (inl (c, ap (λ x. x ∷ c ∷ []) h, e)), omega arith, omega arith)

escape_is : (b : ℕ) (bs : List ℕ) → b ≡ 92 → ItemIs (b ∷ bs) (escape bs)
escape_is b [] h = tt
escape_is b (c ∷ cs) h =
    cond_cases (ItemIs (b ∷ c ∷ cs)) (is_octal c) _ _
    (λ o. second_is b c cs h o)
    (λ n. simple_is b c cs (escaped c) h refl)

pub item_sound : (bytes : List ℕ) → ItemIs bytes (item bytes)
unfolding item
item_sound [] = tt
item_sound (b ∷ bs) =
    cond_cases (ItemIs (b ∷ bs)) (eqb b 92) _ _
    (λ t. escape_is b bs ((Decides-eqb b 92).0 t))
    (λ f. cond_cases (ItemIs (b ∷ bs)) (is_plain b) _ None
    (λ p. (inl (refl, p), omega arith, omega arith))
    (λ _. tt))

-- a test that is true of a plain byte
plain_parts : (b : ℕ) → is_plain b ≡ true → (eqb b 92 ≡ false) × (eqb b 34 ≡ false)
plain_parts b h = (grind (arith, nat_tests), grind (arith, nat_tests))

-- no letter that stands behind a backslash is an octal digit
letter : (c byte k v : ℕ) (later : Option ℕ) → is_octal k ≡ false → (later ≡ Some byte → is_octal c ≡ false) → cond (eqb c k) (Some v) later ≡ Some byte → is_octal c ≡ false
letter c byte k v later digit next =
    cond_cases (λ o. o ≡ Some byte → is_octal c ≡ false) (eqb c k) (Some v) later
    (λ t. λ _. rw ((Decides-eqb c k).0 t) digit)
    (λ _. next)

escaped_no_octal : (c byte : ℕ) → escaped c ≡ Some byte → is_octal c ≡ false
escaped_no_octal c byte =
    letter c byte 92 92 _ refl (letter c byte 34 34 _ refl (letter c byte 110 10 _ refl (letter c byte 116 9 _ refl
    (letter c byte 114 13 _ refl (letter c byte 98 8 _ refl (letter c byte 102 12 None refl (λ e. absurd (cc))))))))

simple_complete : (c byte : ℕ) (cs : List ℕ) → escaped c ≡ Some byte → escape (c ∷ cs) ≡ Some (byte, 2)
simple_complete c byte cs e = rw (escaped_no_octal c byte e) (ap (λ o. option_map (λ byte. (byte, 2)) o) e)

octal_complete : (digits : List ℕ) (byte : ℕ) (after : List ℕ) → IsOctal digits byte after → escape (digits ++ after) ≡ Some (byte, suc (length digits))
octal_complete [] byte after o = absurd (omega (arith, o.some))
octal_complete (c ∷ []) byte [] o =
    rw (and_parts (is_octal c) true o.octal_digits).0 (ap (λ n. Some (n, 2)) (omega (arith, o.value)))
octal_complete (c ∷ []) byte (x ∷ xs) o =
    let none : is_octal x ≡ false = o.no_more (omega arith) in
    let one : is_octal c ≡ true = (and_parts (is_octal c) true o.octal_digits).0 in
    rw (one, none) (ap (λ n. Some (n, 2)) (omega (arith, o.value)))
octal_complete (c ∷ d ∷ []) byte [] o =
    let parts = and_parts (is_octal c) (is_octal d && true) o.octal_digits in
    let two : is_octal d ≡ true = (and_parts (is_octal d) true parts.1).0 in
    rw (parts.0, two) (ap (λ n. Some (n, 3)) (omega (arith, o.value)))
octal_complete (c ∷ d ∷ []) byte (x ∷ xs) o =
    let none : is_octal x ≡ false = o.no_more (omega arith) in
    let parts = and_parts (is_octal c) (is_octal d && true) o.octal_digits in
    let two : is_octal d ≡ true = (and_parts (is_octal d) true parts.1).0 in
    rw (parts.0, two, none) (ap (λ n. Some (n, 3)) (omega (arith, o.value)))
octal_complete (c ∷ d ∷ e ∷ []) byte after o =
    let parts = and_parts (is_octal c) (is_octal d && (is_octal e && true)) o.octal_digits in
    let more = and_parts (is_octal d) (is_octal e && true) parts.1 in
    let three : is_octal e ≡ true = (and_parts (is_octal e) true more.1).0 in
    let value : 8 * (8 * (c - 48) + (d - 48)) + (e - 48) ≡ byte = omega (arith, o.value) in
    let fits : leb (8 * (8 * (c - 48) + (d - 48)) + (e - 48)) 0xff ≡ true = grind (arith, nat_tests, o.fits, value) in
    rw (parts.0, more.0, three, fits) (ap (λ n. Some (n, 4)) value)
octal_complete (c ∷ d ∷ e ∷ f ∷ fs) byte after o = absurd (omega (arith, o.most))

pub plain_complete : (b : ℕ) (after : List ℕ) → is_plain b ≡ true → item (b ∷ after) ≡ Some (b, 1)
unfolding item
plain_complete b after h =
    ap (λ t. cond t (escape after) (cond (is_plain b) (Some (b, 1)) None)) (plain_parts b h).0
    ∙ ap (λ t. cond t (Some (b, 1)) None) h

pub item_complete : (text : List ℕ) (byte : ℕ) (after : List ℕ) → IsItem text byte after → item (text ++ after) ≡ Some (byte, length text)
unfolding item
item_complete text byte after (inl w) = rw w.0 (plain_complete byte after w.1)
item_complete text byte after (inr (inl w)) = rw w.1 (simple_complete w.0 byte after w.2)
item_complete text byte after (inr (inr w)) = rw w.1 (octal_complete w.0 byte after w.2)

-- the closing quote is no item
pub item-quote : (after : List ℕ) → item (34 ∷ after) ≡ None
unfolding item
item-quote after = refl

-- an item depends on what follows only by whether that begins with an octal digit
IsItem-after : (text : List ℕ) (byte : ℕ) (xs ys : List ℕ) → begins_octal xs ≡ begins_octal ys → IsItem text byte xs → IsItem text byte ys
IsItem-after text byte xs ys e (inl w) = inl w
IsItem-after text byte xs ys e (inr (inl w)) = inr (inl w)
IsItem-after text byte xs ys e (inr (inr w)) = inr (inr (
  w.0,
  w.1,
  record {
    some = w.2.some;
    most = w.2.most;
    octal_digits = w.2.octal_digits;
    no_more = λ short. sym e ∙ w.2.no_more short;
    value = w.2.value;
    fits = w.2.fits;
  },
))

item_some : (text : List ℕ) (byte : ℕ) (after : List ℕ) → IsItem text byte after → 0 < length text
item_some text byte after (inl w) = rw w.0 (omega arith)
item_some text byte after (inr (inl w)) = rw w.1 (omega arith)
item_some text byte after (inr (inr w)) = rw w.1 (omega arith)

-- the items of a string, and the quote that closes it
pub record Closes (fuel : ℕ) (all bytes text rest : List ℕ) : Type 0 where
  pub len : suc (items_len fuel all) ≡ length text
  pub bytes_are : items fuel all ≡ bytes
  pub quote : drop (items_len fuel all) all ≡ 34 ∷ rest

closes_none : (fuel : ℕ) (rest : List ℕ) → Closes fuel (34 ∷ rest) [] (34 ∷ []) rest
closes_none zero rest = record { len = refl; bytes_are = refl; quote = refl }
closes_none (suc n) rest =
    let none = item-quote rest in
    record {
      len = ap (λ o. suc (option_map_or (λ i. i.1 + items_len n (drop i.1 (34 ∷ rest))) o 0)) none;
      bytes_are = ap (λ o. option_map_or (λ i. i.0 ∷ items n (drop i.1 (34 ∷ rest))) o []) none;
      quote = ap (λ o. drop (option_map_or (λ i. i.1 + items_len n (drop i.1 (34 ∷ rest))) o 0) (34 ∷ rest)) none;
    }

-- the bytes of a string are at most as many as those of its text
pub Spells-length : (text bytes : List ℕ) → Spells text bytes → length bytes < length text
Spells-length text [] s = rw s (omega arith)
Spells-length text (b ∷ bs) s =
    let one = item_some s.0 b s.1 s.3 in
    let later = Spells-length s.1 bs s.4 in
    rw s.2 (rw (length-append s.0 s.1) (omega arith))

closes_more : (n : ℕ) (b : ℕ) (it after rest bytes : List ℕ) → item (it ++ (after ++ rest)) ≡ Some (b, length it) → Closes n (after ++ rest) bytes after rest → Closes (suc n) (it ++ (after ++ rest)) (b ∷ bytes) (it ++ after) rest
closes_more n b it after rest bytes e c =
    let there : drop (length it) (it ++ (after ++ rest)) ≡ after ++ rest = drop_at it (after ++ rest) (length it) refl in
    let len : items_len (suc n) (it ++ (after ++ rest)) ≡ length it + items_len n (after ++ rest) =
    ap (λ o. option_map_or (λ i. i.1 + items_len n (drop i.1 (it ++ (after ++ rest)))) o 0) e
    ∙ ap (λ xs. length it + items_len n xs) there in
    record {
      len = omega (arith, len, c.len, length-append it after);
      bytes_are =
          ap (λ o. option_map_or (λ i. i.0 ∷ items n (drop i.1 (it ++ (after ++ rest)))) o []) e
          ∙ ap (λ xs. b ∷ items n xs) there
          ∙ ap (λ xs. b ∷ xs) c.bytes_are;
      quote =
          ap (λ k. drop k (it ++ (after ++ rest))) len
          ∙ sym (drop-drop (items_len n (after ++ rest)) (length it) (it ++ (after ++ rest)))
          ∙ ap (drop (items_len n (after ++ rest))) there
          ∙ c.quote;
    }

pub closes : (text bytes rest : List ℕ) (fuel : ℕ) → Spells text bytes → length bytes ≤ fuel → Closes fuel (text ++ rest) bytes text rest
closes text [] rest fuel s l = rw s (closes_none fuel rest)
closes text (b ∷ bs) rest zero s l = absurd (omega arith)
closes text (b ∷ bs) rest (suc n) s l =
    let at : IsItem s.0 b (s.1 ++ rest) = IsItem-after s.0 b s.1 (s.1 ++ rest) (begins_more s.1 bs rest s.4) s.3 in
    let e = item_complete s.0 b (s.1 ++ rest) at in
    rw s.2 (rw (append_assoc s.0 s.1 rest) (closes_more n b s.0 s.1 rest bs e (closes s.1 bs rest n s.4 (omega arith))))
  where
    begins_more : (after bytes rest : List ℕ) → Spells after bytes → begins_octal after ≡ begins_octal (after ++ rest)
    begins_more [] bytes rest s = absurd (omega (arith, Spells-length [] bytes s))
    begins_more (x ∷ xs) bytes rest s = refl

begins-take : (n : ℕ) (xs : List ℕ) → begins_octal xs ≡ begins_octal (take (suc n) xs)
begins-take n [] = refl
begins-take n (x ∷ xs) = refl

take_two : (m n : ℕ) (xs : List ℕ) → m ≤ length xs → take (suc (m + n)) xs ≡ take m xs ++ take (suc n) (drop m xs)
take_two zero n xs h = ap (λ k. take (suc k) xs) (zero-add n)
take_two (suc m) n [] h = absurd (omega arith)
take_two (suc m) n (x ∷ xs) h = ap (λ k. take (suc k) (x ∷ xs)) (suc-add m n) ∙ ap (λ ys. x ∷ ys) (take_two m n xs (omega arith))

-- what spells says of fuel n
abbrev Spelling : ℕ → Type 0
Spelling n = (bytes rest : List ℕ) → drop (items_len n bytes) bytes ≡ 34 ∷ rest → Spells (take (suc (items_len n bytes)) bytes) (items n bytes)

spells_at : (n : ℕ) (bytes rest : List ℕ) → Spelling n → (o : Option (ℕ × ℕ)) → ItemIs bytes o
    → drop (option_map_or (λ i. i.1 + items_len n (drop i.1 bytes)) o 0) bytes ≡ 34 ∷ rest
    → Spells (take (suc (option_map_or (λ i. i.1 + items_len n (drop i.1 bytes)) o 0)) bytes) (option_map_or (λ i. i.0 ∷ items n (drop i.1 bytes)) o [])
spells_at n bytes rest ih None h e = rw e refl
spells_at n bytes rest ih (Some x) h e =
    let there : List ℕ = drop x.1 bytes in
    let later : drop (items_len n there) there ≡ 34 ∷ rest = drop-drop (items_len n there) x.1 bytes ∙ e in (
      take x.1 bytes,
      take (suc (items_len n there)) there,
      take_two x.1 (items_len n there) bytes h.2,
      IsItem-after _ x.0 there _ (begins-take (items_len n there) there) h.0,
      ih there rest later,
    )

-- items that a quote closes are a string
pub spells : (fuel : ℕ) → Spelling fuel
spells zero bytes rest e = rw e refl
spells (suc n) bytes rest e = spells_at n bytes rest (spells n) (item bytes) (item_sound bytes) e
