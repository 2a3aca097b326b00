use Rattle.std.proofs.Common.{◌≡◌, ℕ, List, ◌∙◌}
use Rattle.std.proofs.lemmas.Result.{IfOk-weaker}
use Rattle.il_lex.specs.Quoted.{IsString}
use Rattle.il_lex.specs.Scan.{string_bytes}
use Rattle.il_lex.proofs.Exact.{string_complete}
use Rattle.il_lex.proofs.quoted.string_bytes.Goals as goal

pub returns-clause-meaning : goal.returns-clause-meaning
returns-clause-meaning c =
    let text = c.args.text.now in
    IfOk-weaker c.unquoted.result (λ v. v.items ≡ string_bytes text) (λ v. (bytes : List ℕ) → IsString text bytes → v.items ≡ bytes)
    (λ v is bytes s. is ∙ string_complete text bytes s) c.unquoted.ensures
