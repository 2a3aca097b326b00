use Rattle.std.proofs.Common.{rules}
use Rattle.block_layout.proofs.placement.blocks.led.Goals as goal

pub returns-in-Goto : goal.returns-in-Goto
returns-in-Goto c = search rules
