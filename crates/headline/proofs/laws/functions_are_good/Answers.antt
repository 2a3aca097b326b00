use Rattle.headline.proofs.GoodFunctions.{functions_are_good}
use Rattle.headline.proofs.laws.functions_are_good.Goals as goal

pub returns : goal.returns
returns c = functions_are_good
