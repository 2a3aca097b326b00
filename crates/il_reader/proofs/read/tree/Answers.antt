use Rattle.std.proofs.Common.{◌≡◌, ℕ, ◌+◌, List, length, Some, sym, ap, ◌∙◌}
use Rattle.std.proofs.Math.Seq.{take-length}
use Rattle.std.proofs.lemmas.Result.{err_from_is_err_and}
use Rattle.il_lex.specs.Next.{lines_in}
use Rattle.il_reader.specs.Prelude.{parts_of, whole_text}
use Rattle.il_reader.proofs.Ordered.{text_named}
use Rattle.il_reader.proofs.WholeText.{text_refused, text_read, definitions_read}
use Rattle.il_reader.proofs.read.tree.Goals as goal

pub returns-in_err-definitions : goal.returns-in_err-definitions
returns-in_err-definitions c =
    let p = err_from_is_err_and c.from_residual.result c.from_residual.ensures.1 in
    rw (p.1, p.2) (λ e. text_refused c.args.text.now (ap whole_text (sym c.requires) ∙ c.in_err-definitions.ensures e))

pub invariant_of-result : goal.invariant_of-result
invariant_of-result c =
    let bytes = c.args.text.now in
    let ds = c.in_ok-definitions.definitions in
    let end = c.whole_text.new.reader in
    let named = text_named bytes ds end (definitions_read bytes (parts_of ds) end (ap whole_text (sym c.requires) ∙ c.in_ok-definitions.ensures)) in
    record {
      symbols_in_order = named.0 ∙ ap (λ (xs : List (List ℕ)). Some (length xs)) (sym c.in_ok-symbols.ensures);
      symbols_distinct = rw c.in_ok-symbols.ensures named.1;
    }

pub returns : goal.returns
returns c =
    let bytes = c.args.text.now in
    let ds = c.in_ok-definitions.definitions in
    let end = c.whole_text.new.reader in
    let lines : lines_in bytes + 1 ≡ c.line_at.result = ap (λ (xs : List ℕ). lines_in xs + 1) (sym (take-length bytes)) ∙ sym c.line_at.ensures in
    text_read bytes (parts_of ds) end (ap whole_text (sym c.requires) ∙ c.in_ok-definitions.ensures)
    ∙ ap (λ (n : ℕ). Some (record { definitions = parts_of ds; symbols = end.symbols; lines = n; bytes = length bytes })) lines
    ∙ ap (λ (xs : List (List ℕ)). Some (record { definitions = parts_of ds; symbols = xs; lines = c.line_at.result; bytes = length bytes })) (sym c.in_ok-symbols.ensures)
