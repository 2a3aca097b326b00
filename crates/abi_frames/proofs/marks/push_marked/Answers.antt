use Rattle.abi_frames.proofs.Joining.{marked_joined}
use Rattle.abi_frames.proofs.marks.push_marked.Goals as goal

pub returns : goal.returns
returns c =
    marked_joined _ _ _ _ _ c.args.layout.now c.outer_layout-outer.result c.args.saved.now c.args.params.now c.args.marks.now c.args.blocks.now c.in_ok-push_entry.ensures
    c.outer_layout-outer.ensures c.in_ok-push_parts.ensures c.in_ok-push.ensures.items c.in_ok-push_ends.ensures
