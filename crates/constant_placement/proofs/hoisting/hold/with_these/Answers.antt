use Rattle.std.proofs.Common.{◌≡◌, true, sym, ◌∙◌, ap}
use Rattle.std.specs.List.{list_all}
use Rattle.vcode.specs.Prelude.{is_paid, with_these}
use Rattle.vcode.proofs.Results.{becomes_these}
use Rattle.constant_placement.specs.Held.{with_blocks}
use Rattle.constant_placement.proofs.KeepingHeld.{owed}
use Rattle.constant_placement.proofs.hoisting.hold.with_these.Goals as goal

pub with_blocks-requires-clause-becomes : goal.with_blocks-requires-clause-becomes
with_blocks-requires-clause-becomes c =
    let v = c.args.function.now in
    let p = c.args.plan.now in
    let paid : list_all is_paid (with_blocks p 0 v.code.blocks) ≡ true = ap (list_all is_paid) (sym c.requires.made) ∙ c.requires.paid in
    becomes_these v v.registers (with_blocks p 0 v.code.blocks) c.from_vec.result (owed p v c.requires.low c.requires.safe paid) (c.from_vec.ensures ∙ c.requires.made)

pub returns-clause-code : goal.returns-clause-code
returns-clause-code c = c.in_ok-made.ensures.code ∙ ap (with_these c.args.function.now.code) (c.from_vec.ensures ∙ c.requires.made)
