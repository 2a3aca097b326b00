use Rattle.std.proofs.lemmas.Map.Text.{hash_map_updates_str}
use Rattle.obj_link.proofs.linking.exports.set.Goals as goal

pub returns : goal.returns
returns c = λ other. hash_map_updates_str c.args.name.now c.args.table.now c.insert.new.self _ c.in_ok-insert.ensures.updates other
