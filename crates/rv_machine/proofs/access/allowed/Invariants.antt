use Rattle.std.proofs.Common.{◌≡◌, ◌+◌, ◌-◌, ℕ, Bool}
use Rattle.rv_isa.specs.Prelude.{each_of}
use Rattle.rv_machine.specs.Entries.{permits}
use Rattle.rv_machine.proofs.access.allowed.Given as goal

-- what is tested from here on is what is tested from the start
abbrev pub invariant-loop-k : goal.invariant-loop-k
invariant-loop-k g l =
    let p : ℕ → Bool = λ a. permits l.access (g.R.Ram.permission_at l.ram a) in
    each_of p l.at l.n ≡ each_of p (l.at + l.k) (l.n - l.k)
