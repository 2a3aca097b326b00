use Rattle.std.proofs.Common.{map}
use Rattle.il_ast.specs.declared.program.Program.{Program}
use Rattle.qbec.specs.Pipeline.{AreCandidatesIn, AllHaveForm}
use Rattle.qbec.proofs.CodeLemmas.{CodesSoFar}
use Rattle.qbec.proofs.codes.codes_with.Given as goal

abbrev pub invariant-loop-function : goal.invariant-loop-function
invariant-loop-function g l =
    ((p : Program) → AreCandidatesIn p (map (λ t. t.items) l.tables) → CodesSoFar p l.functions l.function-index l.codes.items)
    × AllHaveForm l.form l.codes.items
