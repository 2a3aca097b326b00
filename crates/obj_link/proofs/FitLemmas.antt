-- A program within the limits fits below the stack.
use Rattle.std.proofs.Common.{◌≡◌, ℕ, ◌+◌, ◌*◌, ◌^◌, ◌≤◌, true, List, [], ◌∷◌, length, ap, ◌∙◌, arith, nat_le, ◌&&◌}
use Rattle.std.proofs.lemmas.Bool.{and_parts}
use Rattle.std.proofs.lemmas.Bool.Decides.{nat_tests}
use Rattle.std.proofs.lemmas.List.Sums.{sum_by-cons}
use Rattle.il_ast.specs.declared.datum.DataDef.{DataDef}
use Rattle.il_ast.specs.declared.function.Func.{Func}
use Rattle.il_ast.specs.declared.program.InText.{InText}
use Rattle.il_ast.specs.declared.program.Program.{Program}
use Rattle.il_ast.specs.Prelude.{weight, round_16}
use Rattle.il_types.specs.declared.checked.Checked.{Checked}
use Rattle.rv_isa.specs.Prelude.{Words}
use Rattle.obj_link.specs.Prelude.{object_size, total_weight, total_size, within_limits, functions_of, functions_start, IsProgram, functions_end, objects_end, objects_start, AreCodes, FitsBelow}

code_bound : (at : ℕ) (codes : List Words) (fs : List (InText Func)) → AreCodes codes fs
    → functions_end at codes ≤ at + 4 * (32 * total_weight fs + 256 * length fs)
code_bound at [] [] are = omega arith
code_bound at [] (f ∷ fs) are = absurd are
code_bound at (c ∷ codes) [] are = absurd are
code_bound at (c ∷ codes) (f ∷ fs) are =
    let one = are.0 in
    let rest = code_bound (at + 4 * length c.words) codes fs are.1 in
    let sum = sum_by-cons (λ (x : InText Func). weight x.item) f fs in
    omega arith

data_bound : (at : ℕ) (ds : List (InText DataDef)) → objects_end at ds ≡ at + total_size ds
data_bound at [] = omega arith
data_bound at (d ∷ ds) =
    let rest = data_bound (at + round_16 (object_size d.item)) ds in
    let sum = sum_by-cons (λ (x : InText DataDef). round_16 (object_size x.item)) d ds in
    omega arith

pub program_fits : (texts : List Checked) (p : Program) (codes : List Words) → IsProgram texts p → AreCodes codes p.functions → FitsBelow p codes
program_fits texts p codes is are =
    let limits : within_limits texts p.functions p.objects ≡ true =
    ap (λ xs. within_limits texts xs p.objects) is.functions ∙ ap (within_limits texts (functions_of texts)) is.objects ∙ is.limits in
    let first = and_parts (nat_le (length texts) 256) (nat_le (length p.functions) 10000 && (nat_le (total_weight p.functions) 200000 && nat_le (total_size p.objects) (16 * 2 ^ 20))) limits in
    let second = and_parts (nat_le (length p.functions) 10000) (nat_le (total_weight p.functions) 200000 && nat_le (total_size p.objects) (16 * 2 ^ 20)) first.1 in
    let third = and_parts (nat_le (total_weight p.functions) 200000) (nat_le (total_size p.objects) (16 * 2 ^ 20)) second.1 in
    let few : length p.functions ≤ 10000 = le_of (length p.functions) 10000 second.0 in
    let light : total_weight p.functions ≤ 200000 = le_of (total_weight p.functions) 200000 third.0 in
    let small : total_size p.objects ≤ 16 * 2 ^ 20 = le_of (total_size p.objects) (16 * 2 ^ 20) third.1 in
    let code = code_bound functions_start codes p.functions are in
    let objects = data_bound (objects_start codes) p.objects in
    omega arith
  where
    le_of : (a b : ℕ) → nat_le a b ≡ true → a ≤ b
    le_of a b h = grind (arith, nat_tests)
