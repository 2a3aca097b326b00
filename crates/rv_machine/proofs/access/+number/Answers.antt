use Rattle.std.proofs.Common.{◌≡◌, ℕ, ◌+◌, ◌-◌, ◌*◌, ◌<◌, ◌^◌, Bool, true, arith, rules, sym, ◌∙◌, ap}
use Rattle.rv_isa.specs.Prelude.{each_of, number_at}
use Rattle.rv_machine.specs.Mapped.{is_mapped}
use Rattle.rv_machine.proofs.Spans.{each_parts, number_first, number_one, fits_more}
use Rattle.rv_machine.proofs.access.+number.Goals as goal

pub get-requires : goal.get-requires
get-requires g t c =
    let p : ℕ → Bool = λ a. is_mapped (g.R.Ram.permission_at c.args.ram.now a) in
    (each_parts p c.args.at c.args.n c.requires.some c.requires.mapped).0

pub number-requires : goal.number-requires
number-requires g t c =
    let p : ℕ → Bool = λ a. is_mapped (g.R.Ram.permission_at c.args.ram.now a) in
    let mapped : each_of p (c.args.at + 1) (c.args.n - 1) ≡ true = (each_parts p c.args.at c.args.n c.requires.some c.requires.mapped).1 in
    search (rules, mapped)

pub overflow_mul-result : goal.overflow_mul-result
overflow_mul-result g t c =
    let bound : 256 * c.number.result + c.from-first.result < 2 ^ 64 =
    fits_more c.number.result c.from-first.result (c.args.n - 1) c.number.ensures.bound (omega arith) (omega arith) in
    search (rules, bound)

pub overflow_add-result : goal.overflow_add-result
overflow_add-result g t c =
    let bound : 256 * c.number.result + c.from-first.result < 2 ^ 64 =
    fits_more c.number.result c.from-first.result (c.args.n - 1) c.number.ensures.bound (omega arith) (omega arith) in
    search (rules, bound)

pub returns-then-n-eq1-clause-value : goal.returns-then-n-eq1-clause-value
returns-then-n-eq1-clause-value g t c =
    let one : number_at (g.R.Ram.byte_at c.args.ram.now) c.args.at c.args.n ≡ g.R.Ram.byte_at c.args.ram.now c.args.at =
    number_one (g.R.Ram.byte_at c.args.ram.now) c.args.at c.args.n c.if-n-eq1.true in
    c.from-first.ensures ∙ c.get.ensures ∙ sym one

pub returns-else-n-eq1-clause-value : goal.returns-else-n-eq1-clause-value
returns-else-n-eq1-clause-value g t c =
    let first : number_at (g.R.Ram.byte_at c.args.ram.now) c.args.at c.args.n
    ≡ g.R.Ram.byte_at c.args.ram.now c.args.at + 256 * number_at (g.R.Ram.byte_at c.args.ram.now) (c.args.at + 1) (c.args.n - 1) =
    number_first (g.R.Ram.byte_at c.args.ram.now) c.args.at c.args.n c.requires.some in
    let e : c.from-first.result ≡ g.R.Ram.byte_at c.args.ram.now c.args.at = c.from-first.ensures ∙ c.get.ensures in
    ap (λ x. x + 256 * c.number.result) e ∙ ap (λ x. g.R.Ram.byte_at c.args.ram.now c.args.at + 256 * x) c.number.ensures.value ∙ sym first
