-- Names that registers may have, and that plain registers have their own.
use Rattle.std.proofs.Common.{◌≡◌, ℕ, zero, suc, ◌-◌, Bool, true, false, nat_eq, nat_lt, if◌then◌else◌, List, [], ◌∷◌, ◌++◌, length, Option, Some, None, refl, sym, ◌∙◌, ap, subst, slice_index_or, arith, append-nil, append_assoc}
use Rattle.std.specs.Option.{option_map_or}
use Rattle.std.proofs.lemmas.Bool.{and_parts, and_from, eqb-true}
use Rattle.std.proofs.lemmas.Bool.Decides.{nat_tests}
use Rattle.il_ast.proofs.Truth.{equals_itself}
use Rattle.vcode.specs.declared.line.Line.{Line}
use Rattle.vcode.specs.Prelude.{line_writes}
use Rattle.renaming.specs.declared.plan.Renamed.{Renamed}
use Rattle.renaming.specs.Renamed.{Owners, Names, is_plain, total, owner, is_name, plain_names, called, all_called, behind, are_names, IsRenamed, AreRenamed, NoLines, OneMore}

pub record Sound (o : Owners) (names : Names) : Type 0 where
  pub fit : (r n : ℕ) → names r ≡ Some n → is_name o r n ≡ true
  pub plain : (r : ℕ) → is_plain o r ≡ true → names r ≡ Some r

-- ---- a register has one owner

marked_inside : (marks : List Bool) (r : ℕ) → slice_index_or marks r false ≡ true → nat_lt r (length marks) ≡ true
marked_inside [] r h = absurd (let no : ⊥ = cc in no)
marked_inside (m ∷ marks) zero h = grind (arith, nat_tests)
marked_inside (m ∷ marks) (suc r) h = let low = marked_inside marks r h in grind (arith, nat_tests, low)

pub owner_is : (o : Owners) (r n : ℕ) → is_name o r n ≡ true → owner o n ≡ r
owner_is o r n h = by (is_plain o r) refl (eqb-true (if is_plain o r then n else owner o n) r (and_parts (nat_lt n (total o)) (nat_eq (if is_plain o r then n else owner o n) r) h).1)
  where
    own : (b : Bool) → nat_lt n (length o.plain) ≡ b → b ≡ true → (if b then n else slice_index_or o.beyond (n - length o.plain) 0) ≡ n
    own true e h = refl
    own false e h = absurd (let no : ⊥ = cc in no)

    by : (b : Bool) → is_plain o r ≡ b → (if b then n else owner o n) ≡ r → owner o n ≡ r
    by true e same =
        let low : nat_lt n (length o.plain) ≡ true = ap (λ k. nat_lt k (length o.plain)) same ∙ marked_inside o.plain r e in
        own (nat_lt n (length o.plain)) refl low ∙ same
    by false e same = same

-- two registers have no name in common
pub names_apart : (o : Owners) (q r m n : ℕ) → is_name o q m ≡ true → is_name o r n ≡ true → nat_eq q r ≡ false → nat_eq m n ≡ false
names_apart o q r m n h k apart = by (nat_eq m n) refl
  where
    by : (b : Bool) → nat_eq m n ≡ b → b ≡ false
    by true e =
        let same : q ≡ r = sym (owner_is o q m h) ∙ ap (owner o) (eqb-true m n e) ∙ owner_is o r n k in
        sym (equals_itself r) ∙ ap (λ i. nat_eq i r) (sym same) ∙ apart
    by false e = refl

-- a plain register has its own name alone
pub plain_name : (o : Owners) (r n : ℕ) → is_name o r n ≡ true → is_plain o r ≡ true → n ≡ r
plain_name o r n h e =
    ap (λ (b : Bool). if b then n else owner o n) (sym e)
    ∙ eqb-true (if is_plain o r then n else owner o n) r (and_parts (nat_lt n (total o)) (nat_eq (if is_plain o r then n else owner o n) r) h).1

-- ---- what stays sound

pub plain_sound : (o : Owners) → Sound o (plain_names o)
plain_sound o = record { fit = λ r n. fit r n (is_plain o r) refl; plain = λ r e. ap (λ (b : Bool). if b then Some r else None) e }
  where
    fit : (r n : ℕ) (b : Bool) → is_plain o r ≡ b → (if b then Some r else None) ≡ Some n → is_name o r n ≡ true
    fit r n true e h =
        let same : r ≡ n = cc in
        subst (λ k. is_name o r k ≡ true) same
        (and_from (nat_lt r (total o)) (nat_eq (if is_plain o r then r else owner o r) r)
        (let low = marked_inside o.plain r e in grind (arith, nat_tests, low))
        (ap (λ (c : Bool). nat_eq (if c then r else owner o r) r) e ∙ equals_itself r))
    fit r n false e h = absurd (let no : ⊥ = cc in no)

pub called_sound : (o : Owners) (names : Names) (r n : ℕ) → Sound o names → is_name o r n ≡ true → Sound o (called names r n)
called_sound o names r n sound h = record { fit = λ q m. fit q m (nat_eq q r) refl; plain = λ q. plain q (nat_eq q r) refl }
  where
    fit : (q m : ℕ) (b : Bool) → nat_eq q r ≡ b → (if b then Some n else names q) ≡ Some m → is_name o q m ≡ true
    fit q m true e is =
        let same : n ≡ m = cc in subst (λ k. is_name o q k ≡ true) same (ap (λ i. is_name o i n) (eqb-true q r e) ∙ h)
    fit q m false e is = sound.fit q m is

    plain : (q : ℕ) (b : Bool) → nat_eq q r ≡ b → is_plain o q ≡ true → (if b then Some n else names q) ≡ Some q
    plain q true e p =
        let is : q ≡ r = eqb-true q r e in
        ap Some (plain_name o r n h (ap (is_plain o) (sym is) ∙ p) ∙ sym is)
    plain q false e p = sound.plain q p

pub all_sound : (o : Owners) (xs : List Renamed) (names : Names) → Sound o names → are_names o xs ≡ true → Sound o (all_called names xs)
all_sound o [] names sound h = sound
all_sound o (x ∷ xs) names sound h =
    let s = and_parts (is_name o x.register x.name) (are_names o xs) h in
    all_sound o xs (called names x.register x.name) (called_sound o names x.register x.name sound s.0) s.1

pub behind_sound : (o : Owners) (names : Names) (w : Option ℕ) (n : ℕ) → Sound o names → option_map_or (λ r. is_name o r n) w true ≡ true → Sound o (behind names w n)
behind_sound o names None n sound h = sound
behind_sound o names (Some r) n sound h = called_sound o names r n sound h

next_sound : (o : Owners) (names next : Names) (l m : Line ℕ) → Sound o names → IsRenamed o names l m next → Sound o next
next_sound o names next l m sound is =
    subst (Sound o) (sym is.behind_it) (behind_sound o names (line_writes l) is.name sound is.fits)

pub lines_sound : (o : Owners) {names last : Names} {ls ms : List (Line ℕ)} → AreRenamed o names ls ms last → Sound o names → Sound o last
lines_sound o NoLines sound = sound
lines_sound o (OneMore {next = next} {last = last} {l = l} {m = m} first one) sound = next_sound o next last l m (lines_sound o first sound) one

-- ---- what holds of lines and names from the last one on holds from the first on

module _ (o : Owners) (P : Names → List (Line ℕ) → List (Line ℕ) → Type 0)
    (one : (names next : Names) (l m : Line ℕ) (ls ms : List (Line ℕ)) → Sound o names → IsRenamed o names l m next → P next ls ms → P names (l ∷ ls) (m ∷ ms)) where
  before : {names last : Names} {ls ms : List (Line ℕ)} → AreRenamed o names ls ms last → Sound o names → (rest more : List (Line ℕ)) → P last rest more → P names (ls ++ rest) (ms ++ more)
  before NoLines sound rest more p = p
  before {names = names} (OneMore {next = next} {last = last} {l = l} {m = m} {ls = ls} {ms = ms} first is) sound rest more p =
      subst (λ (xs : List (Line ℕ)). P names xs ((ms ++ m ∷ []) ++ more)) (sym (append_assoc ls (l ∷ []) rest))
      (subst (λ (ys : List (Line ℕ)). P names (ls ++ l ∷ rest) ys) (sym (append_assoc ms (m ∷ []) more))
      (before first sound (l ∷ rest) (m ∷ more) (one next last l m rest more (lines_sound o first sound) is p)))

  pub all_lines : {names last : Names} {ls ms : List (Line ℕ)} → AreRenamed o names ls ms last → Sound o names → (Sound o last → P last [] []) → P names ls ms
  all_lines {names = names} {ls = ls} {ms = ms} are sound p =
      subst (λ (xs : List (Line ℕ)). P names xs ms) (append-nil ls)
      (subst (λ (ys : List (Line ℕ)). P names (ls ++ []) ys) (append-nil ms) (before are sound [] [] (p (lines_sound o are sound))))
