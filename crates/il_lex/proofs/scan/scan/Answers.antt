use Rattle.std.proofs.Common.{◌≡◌, drop, ap, ◌∙◌}
use Rattle.std.proofs.lemmas.List.{take_rest}
use Rattle.il_lex.specs.Scan.{scan_from, scan}
use Rattle.il_lex.proofs.Exact.{scan_meaning}
use Rattle.il_lex.proofs.scan.scan.Goals as goal

pub returns-clause-meaning : goal.returns-clause-meaning
unfolding scan
returns-clause-meaning c =
    let bytes = c.args.bytes.now in
    let value : c.scan_from.result ≡ scan bytes =
    c.scan_from.ensures
    ∙ ap (scan_from c.spacing_len-gap.result) (take_rest bytes c.spacing_len-gap.result)
    ∙ ap (λ gap. scan_from gap (drop gap bytes)) c.spacing_len-gap.ensures.value in
    rw value (scan_meaning bytes)
