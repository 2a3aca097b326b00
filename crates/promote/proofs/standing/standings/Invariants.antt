use Rattle.std.proofs.Common.{◌≡◌, ℕ, drop}
use Rattle.promote.specs.Uses.{seen_all, standing_at, roles}
use Rattle.promote.specs.declared.standing.Standing.TheVariants.{Unseen}
use Rattle.promote.proofs.standing.standings.Given as goal

abbrev pub invariant-loop-mention : goal.invariant-loop-mention
invariant-loop-mention l = (t : ℕ) → seen_all (standing_at l.table.items t) (roles t (drop l.mention-index l.mentions)) ≡ seen_all Unseen (roles t l.mentions)
