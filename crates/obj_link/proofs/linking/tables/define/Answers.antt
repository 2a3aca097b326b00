use Rattle.std.proofs.Common.{◌≡◌, false, is_some}
use Rattle.obj_link.specs.Prelude.{held}
use Rattle.obj_link.proofs.OwnLemmas.{defined_at, none_where_absent}
use Rattle.obj_link.proofs.linking.tables.define.Goals as goal

pub returns-in_ok-insert : goal.returns-in_ok-insert
returns-in_ok-insert c =
    let absent : is_some (held c.args.table.now c.args.text c.args.symbol) ≡ false = cc (c.if-not-contains_key.ensures, c.if-not-contains_key.true) in
    λ t s. defined_at (held c.args.table.now) (held c.insert.new.self) c.args.text c.args.symbol c.args.target
    (none_where_absent (held c.args.table.now c.args.text c.args.symbol) absent)
    t s (c.in_ok-insert.ensures.updates.0 (t, s))
