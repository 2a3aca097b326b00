use Rattle.std.proofs.Common.{rules}
use Rattle.obj_link.proofs.linking.exports.declare.Goals as goal

pub returns-clause-free : goal.returns-clause-free
returns-clause-free c = search rules
