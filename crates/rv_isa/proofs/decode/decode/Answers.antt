-- The answer is that of the definition, whose law says for which word each instruction comes.
use Rattle.std.proofs.Common.{◌≡◌, sym, ◌∙◌, Some, None}
use Rattle.rv_isa.specs.Prelude.{instruction_of}
use Rattle.rv_isa.proofs.DecodingLaws.{decodes, not_decoded}
use Rattle.rv_isa.proofs.decode.decode.Goals as goal

pub returns-then-encode-bits-clause-exact : goal.returns-then-encode-bits-clause-exact
returns-then-encode-bits-clause-exact c =
    let e : instruction_of c.args.bits ≡ Some c.candidate-instr.result =
    (decodes c.args.bits c.candidate-instr.result).1 (sym c.encode.ensures ∙ c.if-encode-bits.true) in
    λ i. rw e at (decodes c.args.bits i)

pub returns-else-encode-bits-clause-exact : goal.returns-else-encode-bits-clause-exact
returns-else-encode-bits-clause-exact c =
    let e : instruction_of c.args.bits ≡ None =
    not_decoded c.args.bits c.candidate-instr.result c.candidate-instr.ensures (λ h. c.if-encode-bits.false (c.encode.ensures ∙ h)) in
    λ i. rw e at (decodes c.args.bits i)
