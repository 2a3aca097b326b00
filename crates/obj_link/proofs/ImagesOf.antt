-- What is placed is an image of the program.
use Rattle.std.proofs.Common.{◌≡◌, ℕ, ◌+◌, ◌-◌, ◌*◌, List, [], ◌∷◌, length, refl, ap, subst, arith}
use Rattle.il_ast.specs.declared.function.Func.{Func}
use Rattle.il_ast.specs.declared.program.InText.{InText}
use Rattle.il_ast.specs.declared.program.Program.{Program}
use Rattle.rv_isa.specs.Prelude.{Words}
use Rattle.obj_link.specs.Prelude.{code_start, code_size, data_start, round_to_page, functions_start, StandFrom, IsImageOf, object_addresses, function_addresses, functions_end, objects_start, addresses_of, contents_of, EveryCode, AreCodes}
use Rattle.obj_link.proofs.ImageLemmas.{functions_count}

as_many : (codes : List Words) (fs : List (InText Func)) → AreCodes codes fs → length codes ≡ length fs
as_many [] [] are = refl
as_many [] (f ∷ fs) are = absurd are
as_many (c ∷ codes) [] are = absurd are
as_many (c ∷ codes) (f ∷ fs) are = let rest = as_many codes fs are.1 in omega arith

stand_from : (at : ℕ) (codes : List Words) (fs : List (InText Func)) → AreCodes codes fs → EveryCode codes
    → StandFrom at (functions_end at codes) (function_addresses at codes) fs
stand_from at [] [] are every = refl
stand_from at [] (f ∷ fs) are every = absurd are
stand_from at (c ∷ codes) [] are every = absurd are
stand_from at (c ∷ codes) (f ∷ fs) are every =
    (refl, length c.words, every.0.has_words, are.0, stand_from (at + 4 * length c.words) codes fs are.1 every.1)

code_ends : (p : Program) (codes : List Words) → AreCodes codes p.functions → functions_end functions_start codes ≡ code_start + code_size (contents_of p codes)
code_ends p codes are =
    let count = functions_count (addresses_of p codes) p.targets functions_start codes p.functions (as_many codes p.functions are) in
    omega arith

data_begin : (p : Program) (codes : List Words) → AreCodes codes p.functions → objects_start codes ≡ data_start (contents_of p codes)
data_begin p codes are =
    let ends = code_ends p codes are in
    let size : functions_end functions_start codes - code_start ≡ code_size (contents_of p codes) = omega arith in
    ap (λ n. code_start + round_to_page n) size

pub is_image_of : (p : Program) (codes : List Words) → AreCodes codes p.functions → EveryCode codes → IsImageOf p (contents_of p codes)
is_image_of p codes are every =
    record {
      addresses = addresses_of p codes;
      functions =
          subst (λ end. StandFrom functions_start end (function_addresses functions_start codes) p.functions) (code_ends p codes are)
          (stand_from functions_start codes p.functions are every);
      objects = ap (λ at. object_addresses at p.objects) (data_begin p codes are);
      data_bytes = refl;
    }
