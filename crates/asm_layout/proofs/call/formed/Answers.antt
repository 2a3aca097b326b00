use Rattle.asm_layout.proofs.FarCalls.{far_made}
use Rattle.asm_layout.proofs.call.formed.Goals as goal

pub new-requires : goal.new-requires
new-requires c =
    far_made c.args.code c.items.ensures.labelled c.in_ok-items-in-Far.items.items c.items.result.now c.labels-labels.result c.in_ok-items-in-Far.ensures
    c.items.ensures.value c.labels-labels.ensures.value
