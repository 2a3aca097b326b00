use Rattle.std.proofs.Common.{◌≡◌, ℕ, take, nat_lt}
use Rattle.il_types.specs.Prelude.{marked, times}
use Rattle.il_types.proofs.repeats.named_again.Given as goal

abbrev pub invariant-loop-site : goal.invariant-loop-site
invariant-loop-site l = ((n : ℕ) → marked l.once.items n ≡ nat_lt 0 (times n (take l.site-index l.sites))) × ((n : ℕ) → marked l.again.items n ≡ nat_lt 1 (times n (take l.site-index l.sites)))
