use Rattle.std.proofs.Common.{◌∙◌, ap, set}
use Rattle.abi_frames.proofs.Shared.{Location, At, Argument}
use Rattle.vcode.specs.declared.place.Location.TheVariants.{Register}
use Rattle.abi_frames.proofs.MovingUp.{settled_is}
use Rattle.abi_frames.proofs.moves.settle.Goals as goal

pub returns : goal.returns
returns c =
    let args = c.args.arguments.now.items in
    let k = c.args.number in
    ap (λ (x : Argument Location). set args k (record { class = x.class; value = At (Register c.args.register); extension = x.extension })) c.index_mut.ensures.value
    ∙ settled_is c.args.register k args c.index_mut.result.now c.requires
