-- The arguments of phis: in a function that breaks no rule each label has one, and so any argument with the label is the one.
use Rattle.std.proofs.Common.{◌≡◌, ℕ, zero, suc, ◌+◌, ◌≤◌, Bool, true, false, not, cond, nat_eq, nat_lt, ◌&&◌, ◌||◌, List, [], ◌∷◌, refl, sym, ◌∙◌, ap, arith, slice_get, Option, Some, None}
use Rattle.std.specs.List.{find, list_all}
use Rattle.std.proofs.lemmas.List.Recursion.{is_count_by}
use Rattle.std.proofs.lemmas.Bool.{and_parts}
use Rattle.std.proofs.lemmas.Bool.Decides.{nat_tests}
use Rattle.il_ast.specs.declared.block.PhiArg.{PhiArg}
use Rattle.il_ast.specs.declared.block.Phi.{Phi}
use Rattle.il_ast.specs.declared.block.Block.{Block}
use Rattle.il_ast.specs.declared.function.Func.{Func}
use Rattle.il_types.specs.Prelude.{when, or_else, first, names_from, is_predecessor, jumps_to, covers, phi_sites, first_repeated, uncovered_in, uncovered_phi, are_distinct, are_all_distinct}
use Rattle.il_ast.proofs.Listed.{all_at}

-- ---- one phi

abbrev names : ℕ → List PhiArg → ℕ
names l [] = 0
names l (a ∷ args) = cond (nat_eq a.from l) (1 + names l args) (names l args)

names_is : (l : ℕ) (args : List PhiArg) → names l args ≡ names_from l args
names_is l args = is_count_by (names l) (λ (a : PhiArg). nat_eq a.from l) refl (λ a rest. refl) args

one_more : (b : Bool) (n : ℕ) → n ≤ cond b (1 + n) n
one_more true n = omega arith
one_more false n = omega arith

is_named : (l : ℕ) (args : List PhiArg) (k : ℕ) (a : PhiArg) → slice_get args k ≡ Some a → nat_eq a.from l ≡ true → 1 ≤ names l args
is_named l [] k a at here = absurd (let no : ⊥ = cc in no)
is_named l (x ∷ args) zero a at here =
    let same : x ≡ a = cc in
    let yes' : nat_eq x.from l ≡ true = ap (λ (y : PhiArg). nat_eq y.from l) same ∙ here in
    let e : cond (nat_eq x.from l) (1 + names l args) (names l args) ≡ 1 + names l args = ap (λ b. cond b (1 + names l args) (names l args)) yes' in
    omega (arith, e)
is_named l (x ∷ args) (suc k) a at here =
    let later = is_named l args k a at here in
    let more = one_more (nat_eq x.from l) (names l args) in
    omega (arith, later, more)

found_there : (l : ℕ) (args : List PhiArg) (k : ℕ) (a : PhiArg) → names l args ≡ 1 → slice_get args k ≡ Some a → nat_eq a.from l ≡ true → find (λ (x : PhiArg). nat_eq x.from l) args ≡ Some a
found_there l [] k a one at here = absurd (let no : ⊥ = cc in no)
found_there l (x ∷ args) zero a one at here =
    let same : x ≡ a = cc in
    let yes' : nat_eq x.from l ≡ true = ap (λ (y : PhiArg). nat_eq y.from l) same ∙ here in
    ap (λ b. cond b (Some x) (find (λ (y : PhiArg). nat_eq y.from l) args)) yes' ∙ ap Some same
found_there l (x ∷ args) (suc k) a one at here = by (λ h. found_there l args k a h at here) (nat_eq x.from l) refl
  where
    by : (names l args ≡ 1 → find (λ (y : PhiArg). nat_eq y.from l) args ≡ Some a) → (b : Bool) → nat_eq x.from l ≡ b → find (λ (y : PhiArg). nat_eq y.from l) (x ∷ args) ≡ Some a
    by rest true e =
        let two : cond (nat_eq x.from l) (1 + names l args) (names l args) ≡ 1 + names l args = ap (λ b. cond b (1 + names l args) (names l args)) e in
        let later = is_named l args k a at here in
        absurd (omega (arith, one, two, later))
    by rest false e =
        let still : cond (nat_eq x.from l) (1 + names l args) (names l args) ≡ names l args = ap (λ b. cond b (1 + names l args) (names l args)) e in
        ap (λ b. cond b (Some x) (find (λ (y : PhiArg). nat_eq y.from l) args)) e ∙ rest (sym still ∙ one)

-- an argument with the label is the one that a search finds
pub found_at : (args : List PhiArg) (k : ℕ) (a : PhiArg) (l : ℕ) → are_distinct args ≡ true → slice_get args k ≡ Some a → nat_eq a.from l ≡ true → find (λ (x : PhiArg). nat_eq x.from l) args ≡ Some a
found_at args k a l distinct at here =
    let once : nat_eq (names_from a.from args) 1 ≡ true = all_at (λ (x : PhiArg). nat_eq (names_from x.from args) 1) args k a distinct at in
    let same : a.from ≡ l = grind (arith, nat_tests) in
    let one : names_from a.from args ≡ 1 = grind (arith, nat_tests) in
    found_there l args k a (names_is l args ∙ (ap (λ m. names_from m args) (sym same) ∙ one)) at here

-- ---- the phis of a block of a function that breaks no rule

pub none_first : (a b : Option ℕ) → or_else a b ≡ None → (a ≡ None) × (b ≡ None)
none_first None b h = (refl, h)
none_first (Some n) b h = absurd (let no : ⊥ = cc in no)

pub none_at : {A : Type 0} (g : A → Option ℕ) (xs : List A) (k : ℕ) (x : A) → first g xs ≡ None → slice_get xs k ≡ Some x → g x ≡ None
none_at g [] k x h at = absurd (let no : ⊥ = cc in no)
none_at g (y ∷ xs) zero x h at = let same : y ≡ x = cc in ap g (sym same) ∙ (none_first (g y) (first g xs) h).0
none_at g (y ∷ xs) (suc k) x h at = none_at g xs k x (none_first (g y) (first g xs) h).1 at

kept : (b : Bool) (line : ℕ) → when (not b) line ≡ None → b ≡ true
kept true line h = refl
kept false line h = absurd (let no : ⊥ = cc in no)

weaker : {A : Type 0} (p q : A → Bool) (xs : List A) → list_all (λ x. p x && q x) xs ≡ true → list_all p xs ≡ true
weaker p q [] h = refl
weaker p q (x ∷ xs) h =
    let both = and_parts (p x && q x) (list_all (λ y. p y && q y) xs) h in
    ap (λ b. b && list_all p xs) (and_parts (p x) (q x) both.0).0 ∙ weaker p q xs both.1

all_by_none : {A : Type 0} (g : A → Option ℕ) (p : A → Bool) → ((x : A) → g x ≡ None → p x ≡ true) → (xs : List A) → first g xs ≡ None → list_all p xs ≡ true
all_by_none g p each [] h = refl
all_by_none g p each (x ∷ xs) h =
    let both = none_first (g x) (first g xs) h in
    ap (λ b. b && list_all p xs) (each x both.0) ∙ all_by_none g p each xs both.1

pub block_distinct : (f : Func) → uncovered_phi f ≡ None → (n : ℕ) (b : Block) → slice_get f.blocks n ≡ Some b → are_all_distinct b.phis ≡ true
block_distinct f good n b at =
    let right : uncovered_in f.blocks b ≡ None = none_at (uncovered_in f.blocks) f.blocks n b good at in
    let covered = (none_first (first_repeated (phi_sites b.phis)) (first (λ (p : Phi). when (not (covers f.blocks b.label p.args)) p.line) b.phis) right).1 in
    all_by_none (λ (p : Phi). when (not (covers f.blocks b.label p.args)) p.line) (λ (p : Phi). are_distinct p.args) each b.phis covered
  where
    each : (p : Phi) → when (not (covers f.blocks b.label p.args)) p.line ≡ None → are_distinct p.args ≡ true
    each p h =
        weaker (λ (a : PhiArg). nat_eq (names_from a.from p.args) 1) (λ (a : PhiArg). is_predecessor f.blocks b.label a.from) p.args
        (and_parts (list_all (λ (a : PhiArg). nat_eq (names_from a.from p.args) 1 && is_predecessor f.blocks b.label a.from) p.args)
        (list_all (λ (x : Block). not (jumps_to b.label x.jump) || nat_lt 0 (names_from x.label p.args)) f.blocks) (kept (covers f.blocks b.label p.args) p.line h)).0
