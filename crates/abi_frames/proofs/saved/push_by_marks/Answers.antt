use Rattle.std.proofs.Common.{◌++◌, ◌∙◌, ℕ, List, ap}
use Rattle.std.proofs.lemmas.Result.{on_ok_weaker}
use Rattle.abi_frames.proofs.Marking.{marked_from}
use Rattle.abi_frames.proofs.saved.push_by_marks.Goals as goal

pub returns : goal.returns
returns c =
    on_ok_weaker c.push_marked.result
    (λ pushed. pushed
    ∙ ap (λ (l : List ℕ). c.args.saved.now.items ++ l)
    (marked_from c.args.code.now c.mark_written.new.marks c.args.marks.now c.requires.long c.mark_written.ensures.marked _ c.as_slice.ensures))
    c.push_marked.ensures
