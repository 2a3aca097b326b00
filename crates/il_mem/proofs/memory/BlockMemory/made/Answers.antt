use Rattle.std.proofs.Common.{◌∙◌, sym, ap, length}
use Rattle.il_mem.proofs.BlocksLemmas.{length-blocks}
use Rattle.il_mem.proofs.memory.BlockMemory.made.Goals as goal

pub returns : goal.returns
returns c = sym (length-blocks _ 0 c.self.inside.made) ∙ ap length c.self.view_is
