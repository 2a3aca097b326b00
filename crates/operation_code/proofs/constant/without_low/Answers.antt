use Rattle.std.proofs.Common.{rules}
use Rattle.operation_code.proofs.constant.without_low.Goals as goal

pub returns-else-low-lt2048 : goal.returns-else-low-lt2048
returns-else-low-lt2048 c = search rules
