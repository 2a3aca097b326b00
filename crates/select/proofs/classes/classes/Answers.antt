use Rattle.std.proofs.Common.{◌++◌, ◌∙◌, ap, length, flat_map}
use Rattle.select.specs.Narrow.{listed, phi_classes}
use Rattle.select.proofs.TableOf.{table_long, table_is}
use Rattle.select.proofs.classes.classes.Goals as goal

pub returns-clause-length : goal.returns-clause-length
returns-clause-length c =
    ap length
    (c.in_ok-push_phi_classes.ensures
    ∙ ap (λ xs. xs ++ flat_map phi_classes c.as_slice.result.now) c.from_vec-table.ensures
    ∙ ap (λ bs. c.in_ok-own.own.items ++ flat_map phi_classes bs) c.as_slice.ensures)
    ∙ table_long c.args.func.now c.in_ok-own.own.items c.in_ok-own.ensures.length

pub returns-clause-entries : goal.returns-clause-entries
returns-clause-entries c t =
    ap (λ xs. listed xs t)
    (c.in_ok-push_phi_classes.ensures
    ∙ ap (λ xs. xs ++ flat_map phi_classes c.as_slice.result.now) c.from_vec-table.ensures
    ∙ ap (λ bs. c.in_ok-own.own.items ++ flat_map phi_classes bs) c.as_slice.ensures)
    ∙ table_is c.args.func.now c.in_ok-own.own.items c.in_ok-own.ensures.length
    c.in_ok-own.ensures.entries t
