use Rattle.std.proofs.Common.{ap, bytes_eq}
use Rattle.std.specs.Map.{lookup}
use Rattle.obj_link.specs.Prelude.{seen}
use Rattle.obj_link.proofs.ExportLemmas.{predefined_seen}
use Rattle.obj_link.proofs.linking.exports.predefined_functions.Goals as goal

pub returns : goal.returns
returns c = λ q. predefined_seen (seen c.new-table.result) (seen c.set.new.table) (seen c.set-2.new.table) q (ap (lookup (λ k. bytes_eq q k.now)) c.new-table.ensures.empty) (c.in_ok-set.ensures q) (c.in_ok-set-2.ensures q)
