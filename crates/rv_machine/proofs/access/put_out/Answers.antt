use Rattle.std.proofs.Common.{◌≡◌, ℕ, ◌+◌, Bool, true, arith, sym, ◌∙◌, ap, ◌++◌, ◌∷◌, [], append-nil, is_ok, not}
use Rattle.std.proofs.lemmas.Grind.{common_steps}
use Rattle.rv_isa.specs.Prelude.{bytes_at}
use Rattle.rv_isa.proofs.MemoryLemmas.{each_at}
use Rattle.rv_machine.specs.Mapped.{is_mapped}
use Rattle.rv_machine.proofs.Spans.{output_goes_on}
use Rattle.rv_machine.proofs.access.put_out.Goals as goal

pub loop-k-init : goal.loop-k-init
unfolding bytes_at
loop-k-init g c = sym (append-nil _)

pub get-requires : goal.get-requires
get-requires g c =
    let p : ℕ → Bool = λ a. is_mapped (g.R.Ram.permission_at c.args.ram.now a) in
    each_at p c.args.at c.args.n (c.args.at + c.loop-k.k) c.requires.mapped (omega arith) (omega arith)

pub loop-k-preserved : goal.loop-k-preserved
loop-k-preserved g c =
    let ok : is_ok c.push.result ≡ true = c.is_err.ensures.negation ∙ ap not c.if-is_err.false in
    let pushed : c.push.new.self.items ≡ c.loop-k.output.items ++ c.get.result ∷ [] = rw ok at c.push.ensures.items in
    output_goes_on (g.R.Ram.byte_at c.args.ram.now) c.args.at c.loop-k.k c.args.output.now.items c.loop-k.output.items c.push.new.self.items
    c.loop-k.invariant (pushed ∙ ap (λ b. c.loop-k.output.items ++ b ∷ []) c.get.ensures)

pub returns-then-is_err-clause-ok : goal.returns-then-is_err-clause-ok
returns-then-is_err-clause-ok c = grind (arith, common_steps)

pub returns-then-is_err-clause-err : goal.returns-then-is_err-clause-err
returns-then-is_err-clause-err c = grind (arith, common_steps)
