use Rattle.std.proofs.Common.{◌≡◌, ℕ, ◌+◌, ◌≤◌, ◌^◌, Bool, true, false, arith, sym, ◌∙◌, ap, refl}
use Rattle.rv_isa.specs.Prelude.{each_of}
use Rattle.rv_machine.specs.Entries.{permits}
use Rattle.rv_machine.proofs.Spans.{each_goes_on, each_fails, each_done, allowed_none, allowed_is}
use Rattle.rv_machine.proofs.MappedSpans.{each_mapped}
use Rattle.rv_machine.proofs.access.allowed.Goals as goal

pub returns-then-n-eq0-clause-value : goal.returns-then-n-eq0-clause-value
returns-then-n-eq0-clause-value g c =
    let p : ℕ → Bool = λ a. permits c.args.access (g.R.Ram.permission_at c.args.ram.now a) in
    sym (allowed_none p c.args.at c.args.n c.if-n-eq0.true c.ranges.at.fits)

pub returns-then-not-permits-clause-value : goal.returns-then-not-permits-clause-value
returns-then-not-permits-clause-value g c =
    let p : ℕ → Bool = λ a. permits c.args.access (g.R.Ram.permission_at c.args.ram.now a) in
    let inside : c.args.at + c.args.n ≤ 2 ^ 64 = omega arith in
    let fails : p (c.args.at + c.loop-k.k) ≡ false = ap (permits c.args.access) (sym c.permission.ensures) ∙ sym c.permits.ensures ∙ c.if-not-permits.true in
    let none : each_of p c.args.at c.args.n ≡ false = each_fails p c.args.at c.args.n c.loop-k.k c.loop-k-test.true c.loop-k.invariant fails in
    sym none ∙ allowed_is p c.args.at c.args.n inside

pub loop-k-preserved : goal.loop-k-preserved
loop-k-preserved g c =
    let p : ℕ → Bool = λ a. permits c.args.access (g.R.Ram.permission_at c.args.ram.now a) in
    let passes : p (c.args.at + c.loop-k.k) ≡ true = ap (permits c.args.access) (sym c.permission.ensures) ∙ sym c.permits.ensures ∙ c.if-not-permits.false in
    each_goes_on p c.args.at c.args.n c.loop-k.k c.loop-k-test.true c.loop-k.invariant passes

pub returns-clause-value : goal.returns-clause-value
returns-clause-value g c =
    let p : ℕ → Bool = λ a. permits c.args.access (g.R.Ram.permission_at c.args.ram.now a) in
    let inside : c.args.at + c.args.n ≤ 2 ^ 64 = omega arith in
    let done : each_of p c.args.at c.args.n ≡ true = each_done p c.args.at c.args.n c.loop-k.k c.loop-k-test.false c.loop-k.invariant in
    sym done ∙ allowed_is p c.args.at c.args.n inside

pub returns-then-n-eq0-clause-mapped : goal.returns-then-n-eq0-clause-mapped
unfolding each_of
returns-then-n-eq0-clause-mapped g c = rw c.if-n-eq0.true refl

pub returns-clause-mapped : goal.returns-clause-mapped
returns-clause-mapped g c =
    let p : ℕ → Bool = λ a. permits c.args.access (g.R.Ram.permission_at c.args.ram.now a) in
    let done : each_of p c.args.at c.args.n ≡ true = each_done p c.args.at c.args.n c.loop-k.k c.loop-k-test.false c.loop-k.invariant in
    each_mapped c.args.access (g.R.Ram.permission_at c.args.ram.now) c.args.at c.args.n done
