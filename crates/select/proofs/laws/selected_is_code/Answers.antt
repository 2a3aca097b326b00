use Rattle.select.specs.Selected.{classes_in}
use Rattle.select.proofs.Stack.{takes_no_more}
use Rattle.select.proofs.Weights.{weighs_no_more}
use Rattle.select.proofs.WholeKept.{is_code}
use Rattle.select.proofs.laws.selected_is_code.Goals as goal

pub returns : goal.returns
returns c = λ f code good is. (is_code f code good is, takes_no_more (classes_in f) f code is, weighs_no_more (classes_in f) f code good is)
