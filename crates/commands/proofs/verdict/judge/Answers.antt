use Rattle.std.proofs.Common.{◌≡◌, [], sym, subst, ap, ◌∙◌, Vec, Global}
use Rattle.std.proofs.lemmas.List.{nil_from_length}
use Rattle.il_types.specs.declared.checked.Checked.{Checked}
use Rattle.qbec.specs.Refusals.{AreTexts}
use Rattle.qbec.proofs.TextLemmas.{bytes_of, text_more, all_found}
use Rattle.commands.specs.declared.verdict.Finding.{Finding}
use Rattle.commands.specs.Verdicts.{AreTrue}
use Rattle.commands.proofs.Judging.{all_told, none_held, not_none, refused_more, refused_told, some_held, text_told}
use Rattle.commands.proofs.verdict.judge.Goals as goal
use Rattle.commands.proofs.verdict.judge.Goals.{in-Ok+in_ok-push_text-in-Ok, in-Err+in_ok-push_refused_text-in-Err}

pub loop-k-preserved : goal.loop-k-preserved
loop-k-preserved c =
    let texts = c.args.texts.now in
    let k = c.loop-k.k in
    let before = c.loop-k.invariant in
    elim c.match-checked_text.branch [
      | in-Ok+in_ok-push_text-in-Ok w ↦ (
          let findings = ap (λ (v : Vec Finding Global). v.items) w.findings-is in
          let checked = ap (λ (v : Vec Checked Global). v.items) w.checked-is in
          record {
            are = subst (AreTrue (bytes_of texts)) (sym findings) before.are;
            told = text_told texts k _ c.loop-k.findings.items _ c.loop-k-test.true before.told (w.in-Ok.text, (w.in-Ok.ensures.found, tt)) findings;
            so_far =
                λ none.
                text_more texts k _ c.loop-k.checked.items _ _ c.loop-k-test.true (before.so_far (sym findings ∙ none)) w.in-Ok.ensures.found
                (λ d reads. w.in-Ok.ensures.only d reads) (checked ∙ w.in_ok-push_text-in-Ok.ensures);
          })
      | in-Err+in_ok-push_refused_text-in-Err w ↦ (
          let findings = ap (λ (v : Vec Finding Global). v.items) w.findings-is in
          let pushed = w.in_ok-push_refused_text-in-Err.ensures in
          record {
            are = refused_more texts k _ c.loop-k.findings.items _ pushed.0 w.in-Err.refusal c.loop-k-test.true before.are w.in-Err.ensures.says pushed.1 (findings ∙ pushed.2);
            told = refused_told (bytes_of texts) k c.loop-k.findings.items _ pushed.0 before.told pushed.1.text (findings ∙ pushed.2);
            so_far = λ none. absurd (not_none c.loop-k.findings.items _ pushed.0 (findings ∙ pushed.2) none);
          })
    ]

pub returns-then-is_empty : goal.returns-then-is_empty
returns-then-is_empty c =
    let held = c.loop-k.findings.ok.0 in
    let none : c.loop-k.findings.items ≡ [] = nil_from_length c.loop-k.findings.items (none_held c.loop-k.findings.len _ held (sym c.is_empty.ensures ∙ c.if-is_empty.true)) in
    c.linked_verdict.ensures (bytes_of c.args.texts.now)
    (subst (AreTexts (bytes_of c.args.texts.now)) (sym c.as_slice.ensures.value) (all_found c.args.texts.now c.loop-k.k c.loop-k.checked.items c.loop-k-test.false (c.loop-k.invariant.so_far none)))

pub returns : goal.returns
returns c = (
  some_held c.loop-k.findings.len c.loop-k.findings.items c.loop-k.findings.ok.0 (sym c.is_empty.ensures ∙ c.if-is_empty.false),
  c.loop-k.invariant.are,
  all_told c.args.texts.now c.loop-k.k c.loop-k.findings.items c.loop-k-test.false c.loop-k.invariant.told,
)
