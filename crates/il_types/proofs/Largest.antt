-- One call more.
use Rattle.std.proofs.Common.{◌≡◌, ℕ, zero, suc, ◌+◌, ◌<◌, max, List, [], ◌∷◌, length, take, get_or, ap, ◌∙◌, arith}
use Rattle.il_ast.specs.declared.instruction.Inst.{Inst}
use Rattle.il_ast.specs.declared.instruction.Lined.{Lined}
use Rattle.il_ast.specs.declared.block.Block.{Block}
use Rattle.il_ast.specs.Prelude.{args_on_stack, largest_in, largest_of}

pub largest_in_more : (xs : List (Lined Inst)) (i : ℕ) (d : Lined Inst) → i < length xs → largest_in (take (i + 1) xs) ≡ max (largest_in (take i xs)) (args_on_stack (get_or xs i d).item)
largest_in_more [] i d lt = absurd (omega arith)
largest_in_more (x ∷ xs) zero d lt = omega arith
largest_in_more (x ∷ xs) (suc i) d lt =
    let e : suc i + 1 ≡ suc (i + 1) = omega arith in
    let rest : largest_in (take (i + 1) xs) ≡ max (largest_in (take i xs)) (args_on_stack (get_or xs i d).item) = largest_in_more xs i d (omega arith) in
    rw e (ap (λ n. max (args_on_stack x.item) n) rest ∙ omega arith)

pub largest_of_more : (xs : List Block) (i : ℕ) (d : Block) → i < length xs → largest_of (take (i + 1) xs) ≡ max (largest_of (take i xs)) (largest_in (get_or xs i d).insts)
largest_of_more [] i d lt = absurd (omega arith)
largest_of_more (x ∷ xs) zero d lt = omega arith
largest_of_more (x ∷ xs) (suc i) d lt =
    let e : suc i + 1 ≡ suc (i + 1) = omega arith in
    let rest : largest_of (take (i + 1) xs) ≡ max (largest_of (take i xs)) (largest_in (get_or xs i d).insts) = largest_of_more xs i d (omega arith) in
    rw e (ap (λ n. max (largest_in x.insts) n) rest ∙ omega arith)
