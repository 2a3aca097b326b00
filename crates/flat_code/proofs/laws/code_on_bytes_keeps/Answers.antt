use Rattle.flat_code.proofs.Kept.{regular_is_kept}
use Rattle.flat_code.proofs.laws.code_on_bytes_keeps.Goals as goal

pub returns : goal.returns
returns c = regular_is_kept
