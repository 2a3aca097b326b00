use Rattle.std.proofs.Common.{◌≡◌, drop}
use Rattle.std.specs.List.{list_any}
use Rattle.vcode.specs.Prelude.{is_alloc}
use Rattle.inlining.proofs.site.up_to_allocs.Given as goal

abbrev pub invariant-loop-number : goal.invariant-loop-number
invariant-loop-number l = list_any is_alloc (drop l.up_to l.fn.lines) ≡ list_any is_alloc (drop l.number l.fn.lines)
