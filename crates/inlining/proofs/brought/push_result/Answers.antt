use Rattle.std.proofs.Common.{rules}
use Rattle.inlining.proofs.brought.push_result.Goals as goal

pub returns-in_ok-push-in-Return-Some : goal.returns-in_ok-push-in-Return-Some
returns-in_ok-push-in-Return-Some c = search rules
