use Rattle.std.proofs.Common.{◌≡◌, ℕ, zero, suc, Bool, true, false, replicate, get_or, refl, List, ◌==◌, if◌then◌else◌}
use Rattle.std.proofs.Math.Path.{fun_ext}
use Rattle.rv_machine.proofs.registers.Registers.new.Goals as goal

zero_at : List ℕ → ℕ → ℕ
zero_at xs n = get_or xs n 0

zeros : (k n : ℕ) → zero_at (replicate k 0) n ≡ 0
unfolding zero_at
zeros zero n = refl
zeros (suc k) zero = refl
zeros (suc k) (suc n) = zeros k n

either_zero : (b : Bool) (x : ℕ) → x ≡ 0 → (if b then 0 else x) ≡ 0
either_zero true x h = refl
either_zero false x h = h

pub returns : goal.returns
unfolding zero_at
returns c = fun_ext (λ n. either_zero (n == 0) (zero_at (replicate 32 0) n) (zeros 32 n))
