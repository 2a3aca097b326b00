-- One round of the loops that read lists.
use Rattle.std.proofs.Common.{◌≡◌, ℕ, suc, ◌+◌, ◌-◌, ◌<◌, Bool, true, false, cond, List, [], ◌∷◌, ◌++◌, Option, Some, None, refl, sym, ap, ◌∙◌, arith, append_assoc, length, option_and_then, append-nil}
use Rattle.std.proofs.lemmas.Option.{some_pair_parts}
use Rattle.il_reader.specs.Prelude.{State, Step, repeated, separated, commas, appended, pushed, passed, some}

pub less_one : (n i : ℕ) → i < n → n - i ≡ suc (n - (i + 1))
less_one n i h = omega arith

put_together : {A : Type 0} (xs : List A) (x : A) (o : Option (List A × State))
    → appended xs (option_and_then (λ ys. Some (x ∷ ys.0, ys.1)) o) ≡ appended (xs ++ x ∷ []) o
put_together xs x None = refl
put_together xs x (Some ys) = ap (λ zs. Some (zs, ys.1)) (sym (append_assoc xs (x ∷ []) ys.0))

one_round : {A : Type 0} (xs ys : List A) (o : Option (A × State)) (t : State) (more : State → Option (List A × State))
    → pushed xs o ≡ Some (ys, t)
    → appended xs (option_and_then (λ x. option_and_then (λ zs. Some (x.0 ∷ zs.0, zs.1)) (more x.1)) o) ≡ appended ys (more t)
one_round xs ys None t more e = let h : None ≡ Some (ys, t) = e in cc
one_round xs ys (Some x) t more e =
    let same = some_pair_parts (xs ++ x.0 ∷ []) ys x.1 t e in
    put_together xs x.0 (more x.1) ∙ ap (λ zs. appended zs (more x.1)) same.0 ∙ ap (λ s. appended ys (more s)) same.1

nothing_before : {A : Type 0} (o : Option (List A × State)) → appended [] o ≡ o
nothing_before None = refl
nothing_before (Some xs) = refl

pub repeated_more : {A : Type 0} (n i : ℕ) (look : State → Bool) (p : Step A) (xs ys : List A) (s t : State)
    → i < n → look s ≡ true → pushed xs (p s) ≡ Some (ys, t)
    → appended xs (repeated (n - i) look p s) ≡ appended ys (repeated (n - (i + 1)) look p t)
repeated_more n i look p xs ys s t h l e =
    let k = n - (i + 1) in
    let read = option_and_then (λ x. option_and_then (λ zs. Some (x.0 ∷ zs.0, zs.1)) (repeated k look p x.1)) (p s) in
    ap (λ m. appended xs (repeated m look p s)) (less_one n i h)
    ∙ ap (λ b. appended xs (cond b read (Some ([], s)))) l
    ∙ one_round xs ys (p s) t (repeated k look p) e

pub separated_more : {A : Type 0} (n i : ℕ) (is_comma : State → Bool) (comma : Step (Unit {0})) (begins : State → Bool) (p : Step A) (xs ys : List A) (s m t : State)
    → i < n → is_comma s ≡ true → comma s ≡ Some (tt, m) → begins m ≡ true → pushed xs (p m) ≡ Some (ys, t)
    → appended xs (separated (n - i) is_comma comma begins p s) ≡ appended ys (separated (n - (i + 1)) is_comma comma begins p t)
separated_more n i is_comma comma begins p xs ys s m t h l c b e =
    let k = n - (i + 1) in
    let read = λ (m : State). option_and_then (λ x. option_and_then (λ zs. Some (x.0 ∷ zs.0, zs.1)) (separated k is_comma comma begins p x.1)) (p m) in
    let item = λ (c : Unit {0} × State). cond (begins c.1) (read c.1) (Some ([], c.1)) in
    ap (λ j. appended xs (separated j is_comma comma begins p s)) (less_one n i h)
    ∙ ap (λ b. appended xs (cond b (option_and_then item (comma s)) (Some ([], s)))) l
    ∙ ap (λ o. appended xs (option_and_then item o)) c
    ∙ ap (λ b. appended xs (cond b (read m) (Some ([], m)))) b
    ∙ one_round xs ys (p m) t (separated k is_comma comma begins p) e

-- a list of at least one
pub commas_pushed : {A : Type 0} (is_comma : State → Bool) (comma : Step (Unit {0})) (begins : State → Bool) (p : Step A) (ys : List A) (s m : State)
    → pushed [] (p s) ≡ Some (ys, m)
    → commas is_comma comma begins p s ≡ appended ys (separated (suc (length m.rest)) is_comma comma begins p m)
commas_pushed is_comma comma begins p ys s m e =
    let more = λ (t : State). separated (suc (length t.rest)) is_comma comma begins p t in
    sym (nothing_before (option_and_then (λ x. option_and_then (λ xs. Some (x.0 ∷ xs.0, xs.1)) (more x.1)) (p s)))
    ∙ one_round [] ys (p s) m more e

passed_round : {A : Type 0} (x : A) (o : Option (List A × State)) → passed (option_and_then (λ xs. Some (x ∷ xs.0, xs.1)) o) ≡ passed o
passed_round x None = refl
passed_round x (Some xs) = refl

pub repeated_passed : (n i : ℕ) (look : State → Bool) (p : Step (Unit {0})) (s t : State)
    → i < n → look s ≡ true → p s ≡ Some (tt, t)
    → passed (repeated (n - i) look p s) ≡ passed (repeated (n - (i + 1)) look p t)
repeated_passed n i look p s t h l e =
    let k = n - (i + 1) in
    let read = λ (o : Option (Unit {0} × State)). option_and_then (λ x. option_and_then (λ zs. Some (x.0 ∷ zs.0, zs.1)) (repeated k look p x.1)) o in
    ap (λ m. passed (repeated m look p s)) (less_one n i h)
    ∙ ap (λ b. passed (cond b (read (p s)) (Some ([], s)))) l
    ∙ ap (λ o. passed (read o)) e
    ∙ passed_round tt (repeated k look p t)

pub some_pushed : {A : Type 0} (look : State → Bool) (p : Step A) (ys : List A) (s m : State)
    → pushed [] (p s) ≡ Some (ys, m)
    → some look p s ≡ appended ys (repeated (suc (length m.rest)) look p m)
some_pushed look p ys s m e =
    let more = λ (t : State). repeated (suc (length t.rest)) look p t in
    sym (nothing_before (option_and_then (λ x. option_and_then (λ xs. Some (x.0 ∷ xs.0, xs.1)) (more x.1)) (p s)))
    ∙ one_round [] ys (p s) m more e

pub appended_none : {A : Type 0} (xs : List A) (o : Option (List A × State)) → appended xs o ≡ None → o ≡ None
appended_none xs None e = refl
appended_none xs (Some x) e = let h : Some (xs ++ x.0, x.1) ≡ None = e in cc

-- nothing stands behind the last comma
pub separated_last : {A : Type 0} (n i : ℕ) (is_comma : State → Bool) (comma : Step (Unit {0})) (begins : State → Bool) (p : Step A) (xs : List A) (s m : State)
    → i < n → is_comma s ≡ true → comma s ≡ Some (tt, m) → begins m ≡ false
    → appended xs (separated (n - i) is_comma comma begins p s) ≡ Some (xs, m)
separated_last n i is_comma comma begins p xs s m h l c b =
    let k = n - (i + 1) in
    let read = λ (m : State). option_and_then (λ x. option_and_then (λ zs. Some (x.0 ∷ zs.0, zs.1)) (separated k is_comma comma begins p x.1)) (p m) in
    let item = λ (c : Unit {0} × State). cond (begins c.1) (read c.1) (Some ([], c.1)) in
    ap (λ j. appended xs (separated j is_comma comma begins p s)) (less_one n i h)
    ∙ ap (λ b. appended xs (cond b (option_and_then item (comma s)) (Some ([], s)))) l
    ∙ ap (λ o. appended xs (option_and_then item o)) c
    ∙ ap (λ b. appended xs (cond b (read m) (Some ([], m)))) b
    ∙ ap (λ ys. Some (ys, m)) (append-nil xs)

pub separated_no_comma : {A : Type 0} (n i : ℕ) (is_comma : State → Bool) (comma : Step (Unit {0})) (begins : State → Bool) (p : Step A) (s : State)
    → i < n → is_comma s ≡ true → comma s ≡ None
    → separated (n - i) is_comma comma begins p s ≡ None
separated_no_comma n i is_comma comma begins p s h l c =
    let k = n - (i + 1) in
    let read = λ (m : State). option_and_then (λ x. option_and_then (λ zs. Some (x.0 ∷ zs.0, zs.1)) (separated k is_comma comma begins p x.1)) (p m) in
    let item = λ (c : Unit {0} × State). cond (begins c.1) (read c.1) (Some ([], c.1)) in
    ap (λ j. separated j is_comma comma begins p s) (less_one n i h)
    ∙ ap (λ b. cond b (option_and_then item (comma s)) (Some ([], s))) l
    ∙ ap (option_and_then item) c

pub separated_no_item : {A : Type 0} (n i : ℕ) (is_comma : State → Bool) (comma : Step (Unit {0})) (begins : State → Bool) (p : Step A) (s m : State)
    → i < n → is_comma s ≡ true → comma s ≡ Some (tt, m) → begins m ≡ true → p m ≡ None
    → separated (n - i) is_comma comma begins p s ≡ None
separated_no_item {A} n i is_comma comma begins p s m h l c b e =
    let k = n - (i + 1) in
    let more = λ (o : Option (A × State)). option_and_then (λ x. option_and_then (λ zs. Some (x.0 ∷ zs.0, zs.1)) (separated k is_comma comma begins p x.1)) o in
    let item = λ (c : Unit {0} × State). cond (begins c.1) (more (p c.1)) (Some ([], c.1)) in
    ap (λ j. separated j is_comma comma begins p s) (less_one n i h)
    ∙ ap (λ b. cond b (option_and_then item (comma s)) (Some ([], s))) l
    ∙ ap (option_and_then item) c
    ∙ ap (λ b. cond b (more (p m)) (Some ([], m))) b
    ∙ ap more e
