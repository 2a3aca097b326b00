use Rattle.std.proofs.Common.{◌≡◌, drop}
use Rattle.il_lex.specs.Scan.{number_from}
use Rattle.il_lex.proofs.scan.number.Given as goal

abbrev pub invariant-loop-digit : goal.invariant-loop-digit
invariant-loop-digit l = number_from l.value (drop l.digit-index l.digits) ≡ number_from 0 l.digits
