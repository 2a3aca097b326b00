-- How long a number's bytes and a memory with freed blocks are.
use Rattle.std.proofs.Common.{◌≡◌, ℕ, zero, suc, ◌/◌, List, [], ◌∷◌, length, None, refl, ap, ◌∙◌}
use Rattle.il_ast.specs.Prelude.{bytes_of, Memory, free, free_all}
use Rattle.il_ast.proofs.Listed.{length_slice_set}

pub length_bytes : (k n : ℕ) → length (bytes_of k n) ≡ k
length_bytes zero n = refl
length_bytes (suc k) n = ap suc (length_bytes k (n / 256))

pub length_freed : (m : Memory) (bs : List ℕ) → length (free_all m bs) ≡ length m
length_freed m [] = refl
length_freed m (b ∷ bs) = length_freed (free m b) bs ∙ length_slice_set m b None
