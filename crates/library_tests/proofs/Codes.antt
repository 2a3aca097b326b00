-- Small codes are codes of functions, whatever these weigh.
use Rattle.std.proofs.Common.{◌≡◌, ◌≤◌, true, List, [], ◌∷◌, length, arith, nat_le}
use Rattle.std.specs.List.{list_all}
use Rattle.std.proofs.lemmas.Bool.{and_parts}
use Rattle.std.proofs.lemmas.Bool.Decides.{nat_tests}
use Rattle.il_ast.specs.declared.function.Func.{Func}
use Rattle.il_ast.specs.declared.program.InText.{InText}
use Rattle.rv_isa.specs.Prelude.{Words}
use Rattle.obj_link.specs.Prelude.{AreCodes}

pub small_codes : (codes : List Words) (fs : List (InText Func)) → length codes ≡ length fs
    → list_all (λ (c : Words). nat_le (length c.words) 256) codes ≡ true → AreCodes codes fs
small_codes [] [] same small = tt
small_codes [] (f ∷ fs) same small = absurd (omega arith)
small_codes (c ∷ codes) [] same small = absurd (omega arith)
small_codes (c ∷ codes) (f ∷ fs) same small =
    let parts = and_parts (nat_le (length c.words) 256) (list_all (λ (c : Words). nat_le (length c.words) 256) codes) small in
    let few : length c.words ≤ 256 = grind (arith, nat_tests) in
    (omega arith, small_codes codes fs (omega arith) parts.1)
