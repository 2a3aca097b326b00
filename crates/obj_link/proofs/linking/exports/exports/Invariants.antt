use Rattle.std.proofs.Common.{take}
use Rattle.obj_link.specs.Prelude.{seen}
use Rattle.obj_link.proofs.ExportLemmas.{Tabled}
use Rattle.obj_link.proofs.linking.exports.exports.Given as goal

abbrev pub invariant-loop-global : goal.invariant-loop-global
invariant-loop-global l = Tabled l.texts (take l.global-index l.names) (seen l.table)
