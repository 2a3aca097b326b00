use Rattle.std.proofs.Common.{◌∙◌, ℕ, ap, sym, not, ◌&&◌}
use Rattle.std.specs.List.{list_all}
use Rattle.il_types.specs.Prelude.{named, is_never}
use Rattle.il_types.proofs.TallyLemmas.{covers_by_tallies}
use Rattle.il_types.proofs.phis.are_right.Goals as goal

pub returns-then-are_args_right : goal.returns-then-are_args_right
returns-then-are_args_right c =
    c.are_all_named.ensures
    ∙ (ap (λ b. b && list_all (λ (l : ℕ). not (is_never (named c.args.tally.now l))) c.args.predecessors.now)
    (sym (sym c.are_args_right.ensures ∙ c.if-are_args_right.true))
    ∙ covers_by_tallies c.args.tally.now c.args.leading.now c.args.predecessors.now c.args.args.now c.requires.tally c.requires.leading)

pub returns-else-are_args_right : goal.returns-else-are_args_right
returns-else-are_args_right c =
    c.if-are_args_right.false
    ∙ (ap (λ b. b && list_all (λ (l : ℕ). not (is_never (named c.args.tally.now l))) c.args.predecessors.now)
    (sym (sym c.are_args_right.ensures ∙ c.if-are_args_right.false))
    ∙ covers_by_tallies c.args.tally.now c.args.leading.now c.args.predecessors.now c.args.args.now c.requires.tally c.requires.leading)
