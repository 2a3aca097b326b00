use Rattle.std.proofs.Common.{◌≡◌, ◌≤◌, length}
use Rattle.std.proofs.lemmas.Result.{IfOk-weaker}
use Rattle.rv_isa.specs.Prelude.{longest_size, LaysOut}
use Rattle.asm_layout.specs.Forms.{words_of, holes_of, HaveForm}
use Rattle.asm_layout.proofs.Whole.{made_lays_out, made_not_longer, made_have_form}
use Rattle.asm_layout.proofs.layout.layout.Goals as goal

pub returns-clause-laid : goal.returns-clause-laid
returns-clause-laid c =
    let d = c.in_ok-formed.formed in
    IfOk-weaker c.laid.result (λ out. (out.words ≡ words_of d) × (out.holes ≡ holes_of d)) (λ out. LaysOut c.args.code.items out.words out.holes)
    (λ out h. made_lays_out c.args.form c.args.code d c.in_ok-formed.ensures.labelled c.in_ok-formed.ensures.value out.words out.holes h.0 h.1) c.laid.ensures

pub returns-clause-not_longer : goal.returns-clause-not_longer
returns-clause-not_longer c =
    let d = c.in_ok-formed.formed in
    IfOk-weaker c.laid.result (λ out. (out.words ≡ words_of d) × (out.holes ≡ holes_of d)) (λ out. length out.words ≤ longest_size c.args.code.items)
    (λ out h. made_not_longer c.args.form c.args.code d c.in_ok-formed.ensures.value out.words h.0) c.laid.ensures

pub returns-clause-calls : goal.returns-clause-calls
returns-clause-calls c =
    let d = c.in_ok-formed.formed in
    IfOk-weaker c.laid.result (λ out. (out.words ≡ words_of d) × (out.holes ≡ holes_of d)) (λ out. HaveForm c.args.form out.holes)
    (λ out h. made_have_form c.args.form c.args.code d c.in_ok-formed.ensures.value out.holes h.1) c.laid.ensures
