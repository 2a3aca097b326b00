use Rattle.std.proofs.Common.{sym, ◌∙◌}
use Rattle.scheduling.proofs.Swapping.{swap_done, swap_left}
use Rattle.scheduling.proofs.swaps.swap_at.Goals as goal

pub returns-then-is_swap : goal.returns-then-is_swap
returns-then-is_swap c = c.swap.ensures.after ∙ swap_done c.args.at c.args.lines.now (sym c.is_swap.ensures.is ∙ c.if-is_swap.true)

pub returns-else-is_swap : goal.returns-else-is_swap
returns-else-is_swap c = swap_left c.args.at c.args.lines.now (sym c.is_swap.ensures.is ∙ c.if-is_swap.false)
