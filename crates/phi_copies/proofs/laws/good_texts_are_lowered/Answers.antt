use Rattle.phi_copies.proofs.GoodTexts.{good_function}
use Rattle.phi_copies.proofs.laws.good_texts_are_lowered.Goals as goal

pub returns : goal.returns
returns c = good_function
