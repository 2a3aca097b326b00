use Rattle.std.proofs.Common.{◌≢◌, ℕ, List, [], rules}
use Rattle.qbec.specs.Refusals.{AreTexts}
use Rattle.commands.specs.Verdicts.{AreTrue}
use Rattle.commands.proofs.Judging.{texts_told}
use Rattle.commands.proofs.verdict.refused_linking.Goals as goal

pub returns-in_ok-push-in_default : goal.returns-in_ok-push-in_default
returns-in_ok-push-in_default c = λ texts are. (some, are_true texts are, texts_told texts c.args.checked.now c.push.new.self.items are)
  where
    some : c.push.new.self.items ≢ []
    some = search rules

    are_true : (texts : List (List ℕ)) → AreTexts texts c.args.checked.now → AreTrue texts c.push.new.self.items
    are_true = search rules
