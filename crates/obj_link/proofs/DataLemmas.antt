-- The bytes of numbers.
use Rattle.std.proofs.Common.{◌≡◌, ℕ, ◌+◌, ◌/◌, ◌%◌, ◌^◌, ◌<◌, List, [], ◌∷◌, ◌++◌, length, take, drop, map, get_or, replicate, append_assoc, refl, sym, ◌∙◌, ap, arith, flat_map, Bor}
use Rattle.std.specs.Int.{w64, to_le_bytes}
use Rattle.std.proofs.lemmas.List.{drop_more, replicate-append-replicate}
use Rattle.il_ast.specs.declared.datum.DataDef.{DataDef}
use Rattle.il_ast.specs.declared.program.InText.{InText}
use Rattle.il_ast.specs.declared.program.Target.{Target}
use Rattle.obj_link.specs.declared.placing.addresses.Addresses.{Addresses}
use Rattle.obj_link.specs.Prelude.{shown, slot_bytes}
use Rattle.il_ast.specs.Prelude.{bytes_of}

-- byte i of a number that was divided by 256
byte_two : (n : ℕ) → n / 256 / 256 % 256 ≡ n / 256 ^ 2 % 256
byte_two n = omega arith

byte_three : (n : ℕ) → n / 256 / 256 / 256 % 256 ≡ n / 256 ^ 3 % 256
byte_three n = omega arith

byte_four : (n : ℕ) → n / 256 / 256 / 256 / 256 % 256 ≡ n / 256 ^ 4 % 256
byte_four n = omega arith

byte_five : (n : ℕ) → n / 256 / 256 / 256 / 256 / 256 % 256 ≡ n / 256 ^ 5 % 256
byte_five n = omega arith

byte_six : (n : ℕ) → n / 256 / 256 / 256 / 256 / 256 / 256 % 256 ≡ n / 256 ^ 6 % 256
byte_six n = omega arith

byte_seven : (n : ℕ) → n / 256 / 256 / 256 / 256 / 256 / 256 / 256 % 256 ≡ n / 256 ^ 7 % 256
byte_seven n = omega arith

pub bytes_of_byte : (n : ℕ) → take 1 (to_le_bytes w64 n) ≡ bytes_of 1 n
bytes_of_byte n = refl

pub bytes_of_half : (n : ℕ) → take 2 (to_le_bytes w64 n) ≡ bytes_of 2 n
bytes_of_half n = refl

pub bytes_of_word : (n : ℕ) → take 4 (to_le_bytes w64 n) ≡ bytes_of 4 n
bytes_of_word n = let a = byte_two n in let b = byte_three n in cc

pub bytes_of_long : (n : ℕ) → to_le_bytes w64 n ≡ bytes_of 8 n
bytes_of_long n =
    let a = byte_two n in let b = byte_three n in let c = byte_four n in let d = byte_five n in let e = byte_six n in let f = byte_seven n in cc

pub zeros_more : (xs : List ℕ) (n : ℕ) → (xs ++ replicate n 0) ++ 0 ∷ [] ≡ xs ++ replicate (n + 1) 0
zeros_more xs n = append_assoc xs (replicate n 0) (0 ∷ []) ∙ ap (λ ys. xs ++ ys) (replicate-append-replicate n 1 0)

-- one datum further
pub objects_further : (a : Addresses) (targets : List (List Target)) (xs : List (InText (Bor DataDef))) (i : ℕ) (d : InText (Bor DataDef)) → i < length xs
    → flat_map (slot_bytes a targets) (map shown (drop i xs))
    ≡ slot_bytes a targets (shown (get_or xs i d)) ++ flat_map (slot_bytes a targets) (map shown (drop (i + 1) xs))
objects_further a targets xs i d lt = ap (λ (ys : List (InText (Bor DataDef))). flat_map (slot_bytes a targets) (map shown ys)) (drop_more xs i d lt)

pub object_after : (a : Addresses) (targets : List (List Target)) (xs : List (InText (Bor DataDef))) (i : ℕ) (d : InText (Bor DataDef)) (before after : List ℕ)
    → i < length xs → d ≡ get_or xs i d → after ≡ before ++ slot_bytes a targets (shown d)
    → after ++ flat_map (slot_bytes a targets) (map shown (drop (i + 1) xs)) ≡ before ++ flat_map (slot_bytes a targets) (map shown (drop i xs))
object_after a targets xs i d before after lt is e =
    let rest : List ℕ = flat_map (slot_bytes a targets) (map shown (drop (i + 1) xs)) in
    ap (λ ys. ys ++ rest) e
    ∙ append_assoc before (slot_bytes a targets (shown d)) rest
    ∙ ap (λ (x : InText (Bor DataDef)). before ++ (slot_bytes a targets (shown x) ++ rest)) is
    ∙ ap (λ ys. before ++ ys) (sym (objects_further a targets xs i d lt))
