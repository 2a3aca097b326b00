use Rattle.std.proofs.Common.{arith}
use Rattle.asm_layout.proofs.Whole.{is_code, forms_fit}
use Rattle.asm_layout.proofs.layout.laid.Goals as goal

pub push_words-requires-clause-fits : goal.push_words-requires-clause-fits
push_words-requires-clause-fits c = grind (arith, forms_fit)

pub new-requires : goal.new-requires
new-requires c = grind (arith, is_code)
