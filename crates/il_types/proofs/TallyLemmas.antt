-- What a tally says of a list of numbers.
use Rattle.std.proofs.Common.{◌≡◌, ℕ, zero, suc, ◌+◌, ◌<◌, Bool, true, false, cond, List, [], ◌∷◌, length, map, take, get_or, refl, ap, sym, ◌∙◌, arith, not, nat_eq, nat_lt, ◌&&◌, ◌||◌}
use Rattle.std.specs.List.{list_any, list_all, count_by}
use Rattle.std.proofs.lemmas.List.Sums.{sum_by-cons, sum_by_more}
use Rattle.std.proofs.lemmas.List.Folds.{list_any_more}
use Rattle.std.proofs.lemmas.Bool.Decides.{nat_tests}
use Rattle.il_ast.specs.declared.block.PhiArg.{PhiArg}
use Rattle.il_types.specs.declared.site.Site.{Site}
use Rattle.il_types.specs.declared.tally.Often.{Often}
use Rattle.il_types.specs.declared.tally.Often.TheVariants.{Never, Once, Again}
use Rattle.il_types.specs.Prelude.{when, first, times, first_repeated, names_from, named, once_more, often, is_never, is_once, is_again, times_in, are_args_right, covers_by}
use Rattle.il_types.proofs.FirstLemmas.{first_same}

-- ---- how often

again_twice : (o : Often) → once_more (once_more o) ≡ Again
again_twice Never = refl
again_twice Once = refl
again_twice Again = refl

-- how often is read off from the number of times
pub record Read (o : Often) (t : ℕ) : Type 0 where
  pub once : is_once o ≡ nat_eq t 1
  pub some : not (is_never o) ≡ nat_lt 0 t
  pub again : is_again o ≡ nat_lt 1 t

pub read_often : (t : ℕ) → Read (often t) t
read_often zero = record { once = refl; some = refl; again = refl }
read_often (suc zero) = record { once = refl; some = refl; again = refl }
read_often (suc (suc t)) =
    let same : often (suc (suc t)) ≡ Again = again_twice (often t) in
    record {
      once = ap is_once same ∙ grind (arith, nat_tests);
      some = ap (λ o. not (is_never o)) same ∙ grind (arith, nat_tests);
      again = ap is_again same ∙ grind (arith, nat_tests);
    }

-- ---- times

times_cons : (n m : ℕ) (rest : List ℕ) → times_in n (m ∷ rest) ≡ cond (nat_eq m n) 1 0 + times_in n rest
times_cons n m rest = sum_by-cons (λ k. cond (nat_eq k n) 1 0) m rest

pub times_mapped : {X : Type 0} (number : X → ℕ) (n : ℕ) (xs : List X) → times_in n (map number xs) ≡ count_by (λ x. nat_eq (number x) n) xs
times_mapped number n [] = refl
times_mapped number n (x ∷ xs) =
    times_cons n (number x) (map number xs)
    ∙ (ap (λ k. cond (nat_eq (number x) n) 1 0 + k) (times_mapped number n xs) ∙ sym (sum_by-cons (λ y. cond (nat_eq (number y) n) 1 0) x xs))

pub times_any : (n : ℕ) (ms : List ℕ) → nat_lt 0 (times_in n ms) ≡ list_any (λ m. nat_eq m n) ms
times_any n [] = refl
times_any n (m ∷ ms) = ap (nat_lt 0) (times_cons n m ms) ∙ (by_test (nat_eq m n) (times_in n ms) ∙ ap (λ b. nat_eq m n || b) (times_any n ms))
  where
    by_test : (b : Bool) (t : ℕ) → nat_lt 0 (cond b 1 0 + t) ≡ b || nat_lt 0 t
    by_test true t = grind (arith, nat_tests)
    by_test false t = grind (arith, nat_tests)

-- ---- one number more

pub named_further : (numbers : List ℕ) (i d n : ℕ) → i < length numbers → cond (nat_eq (get_or numbers i d) n) (once_more (often (times_in n (take i numbers)))) (often (times_in n (take i numbers))) ≡ often (times_in n (take (i + 1) numbers))
named_further numbers i d n lt =
    by_test (nat_eq (get_or numbers i d) n) (times_in n (take i numbers)) ∙ ap often (sym (sum_by_more (λ k. cond (nat_eq k n) 1 0) numbers i d lt))
  where
    by_test : (b : Bool) (t : ℕ) → cond b (once_more (often t)) (often t) ≡ often (t + cond b 1 0)
    by_test true t = let e : suc t ≡ t + 1 = omega arith in ap often e
    by_test false t = let e : t ≡ t + 0 = omega arith in ap often e

pub forgotten_further : (numbers : List ℕ) (i d n : ℕ) (o : Often) → i < length numbers → cond (nat_eq (get_or numbers i d) n) Never (cond (list_any (λ m. nat_eq m n) (take i numbers)) Never o) ≡ cond (list_any (λ m. nat_eq m n) (take (i + 1) numbers)) Never o
forgotten_further numbers i d n o lt =
    by_tests (nat_eq (get_or numbers i d) n) (list_any (λ m. nat_eq m n) (take i numbers))
    ∙ ap (λ b. cond b Never o) (sym (list_any_more (λ m. nat_eq m n) numbers i d lt))
  where
    by_tests : (a b : Bool) → cond a Never (cond b Never o) ≡ cond (b || a) Never o
    by_tests true true = refl
    by_tests true false = refl
    by_tests false true = refl
    by_tests false false = refl

pub all_forgotten : (numbers : List ℕ) (n : ℕ) → cond (list_any (λ m. nat_eq m n) numbers) Never (often (times_in n numbers)) ≡ Never
all_forgotten numbers n = by_times (times_in n numbers) (list_any (λ m. nat_eq m n) numbers) (times_any n numbers)
  where
    by_times : (t : ℕ) (b : Bool) → nat_lt 0 t ≡ b → cond b Never (often t) ≡ Never
    by_times t true e = refl
    by_times zero false e = refl
    by_times (suc t) false e = absurd (let lt : nat_lt 0 (suc t) ≡ true = grind (arith, nat_tests) in let no : true ≡ false = sym lt ∙ e in cc)

-- ---- what the rule asks

pub repeated_by : (tally : List Often) (sites : List Site) → ((n : ℕ) → named tally n ≡ often (times_in n (map (λ (s : Site). s.number) sites))) → first (λ (s : Site). when (is_again (named tally s.number)) s.line) sites ≡ first_repeated sites
repeated_by tally sites h =
    first_same (λ (s : Site). when (is_again (named tally s.number)) s.line) (λ (s : Site). when (nat_lt 1 (times s.number sites)) s.line)
    (λ s. ap (λ b. when b s.line)
    (ap is_again (h s.number ∙ ap often (times_mapped (λ (s : Site). s.number) s.number sites)) ∙ (read_often (times s.number sites)).again)) sites

all_same : {X : Type 0} (f g : X → Bool) → ((x : X) → f x ≡ g x) → (xs : List X) → list_all f xs ≡ list_all g xs
all_same f g h [] = refl
all_same f g h (x ∷ xs) = ap (λ b. b && list_all f xs) (h x) ∙ ap (λ b. g x && b) (all_same f g h xs)

pub covers_by_tallies : (tally leading : List Often) (predecessors : List ℕ) (args : List PhiArg) → ((n : ℕ) → named tally n ≡ often (times_in n (map (λ (a : PhiArg). a.from) args))) → ((n : ℕ) → named leading n ≡ often (times_in n predecessors)) → list_all (λ (a : PhiArg). is_once (named tally a.from) && not (is_never (named leading a.from))) args && list_all (λ (l : ℕ). not (is_never (named tally l))) predecessors ≡ covers_by predecessors args
covers_by_tallies tally leading predecessors args h k =
    ap (λ b. b && list_all (λ (l : ℕ). not (is_never (named tally l))) predecessors)
    (all_same (λ (a : PhiArg). is_once (named tally a.from) && not (is_never (named leading a.from)))
    (λ (a : PhiArg). nat_eq (names_from a.from args) 1 && list_any (λ p. nat_eq p a.from) predecessors) right args)
    ∙ ap (λ b. are_args_right predecessors args args && b)
    (all_same (λ (l : ℕ). not (is_never (named tally l))) (λ p. nat_lt 0 (names_from p args)) here predecessors)
  where
    at : (n : ℕ) → named tally n ≡ often (names_from n args)
    at n = h n ∙ ap often (times_mapped (λ (a : PhiArg). a.from) n args)

    here : (n : ℕ) → not (is_never (named tally n)) ≡ nat_lt 0 (names_from n args)
    here n = ap (λ o. not (is_never o)) (at n) ∙ (read_often (names_from n args)).some

    right : (a : PhiArg) → is_once (named tally a.from) && not (is_never (named leading a.from)) ≡ nat_eq (names_from a.from args) 1 && list_any (λ p. nat_eq p a.from) predecessors
    right a =
        ap (λ b. b && not (is_never (named leading a.from))) (ap is_once (at a.from) ∙ (read_often (names_from a.from args)).once)
        ∙ ap (λ b. nat_eq (names_from a.from args) 1 && b)
        (ap (λ o. not (is_never o)) (k a.from) ∙ ((read_often (times_in a.from predecessors)).some ∙ times_any a.from predecessors))
