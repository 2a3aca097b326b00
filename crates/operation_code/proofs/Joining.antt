-- Items that were put one after another.
use Rattle.std.proofs.Common.{◌≡◌, ℕ, ◌%◌, ◌^◌, ◌<◌, Bool, true, false, List, [], ◌∷◌, ◌++◌, refl, ◌+◌, sym, ◌∙◌, ap, arith, append_assoc, if◌then◌else◌, nat_eq, length, length-append}
use Rattle.rv_isa.specs.declared.labelled.Item.{Item}
use Rattle.operation_code.specs.Constants.{long_constant, is_word, word_constant, shifted_by, added, zeros_of, add_low}

pub joined_2 : (o p q a b : List Item) → p ≡ o ++ a → q ≡ p ++ b → q ≡ o ++ (a ++ b)
joined_2 o p q a b e f = f ∙ (ap (λ l. l ++ b) e ∙ append_assoc o a b)

pub joined_3 : (o p q r a b c : List Item) → p ≡ o ++ a → q ≡ p ++ b → r ≡ q ++ c → r ≡ o ++ (a ++ (b ++ c))
joined_3 o p q r a b c e f g = joined_2 o p r a (b ++ c) e (joined_2 p q r b c f g)

pub joined_4 : (o p q r s a b c d : List Item) → p ≡ o ++ a → q ≡ p ++ b → r ≡ q ++ c → s ≡ r ++ d → s ≡ o ++ (a ++ (b ++ (c ++ d)))
joined_4 o p q r s a b c d e f g h = joined_2 o p s a (b ++ (c ++ d)) e (joined_3 p q r s b c d f g h)

-- a number that is no immediate
abbrev pub wide : (d n : ℕ) → List Item
wide d n = if is_word n then word_constant d (n % 2 ^ 32) else long_constant d (n % 2 ^ 64)

pub long_is_wide : (d n : ℕ) → n < 2 ^ 64 → is_word n ≡ false → long_constant d n ≡ wide d n
long_is_wide d n h e =
    let same : n ≡ n % 2 ^ 64 = omega (arith, h) in
    ap (long_constant d) same ∙ ap (λ (b : Bool). if b then word_constant d (n % 2 ^ 32) else long_constant d (n % 2 ^ 64)) (sym e)

pub joined_as : (o p a b : List Item) → p ≡ o ++ a → a ≡ b → p ≡ o ++ b
joined_as o p a b e f = e ∙ ap (λ l. o ++ l) f

-- how many instructions follow what is shifted
pub length_shifted : (items : List Item) (d m : ℕ) → length (items ++ (shifted_by d (zeros_of m) ∷ added d m)) ≡ length items + (if nat_eq (m % 4096) 0 then 1 else 2)
length_shifted items d m = length-append items (shifted_by d (zeros_of m) ∷ added d m) ∙ ap (λ n. length items + n) (by_test (nat_eq (m % 4096) 0))
  where
    by_test : (b : Bool) → length (shifted_by d (zeros_of m) ∷ (if b then [] else add_low d d m ∷ [])) ≡ (if b then 1 else 2)
    by_test true = refl
    by_test false = refl
