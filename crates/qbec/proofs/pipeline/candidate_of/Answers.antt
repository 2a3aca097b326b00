use Rattle.std.specs.Prelude.{IsTrue}
use Rattle.inlining.specs.InPlace.{is_candidate}
use Rattle.qbec.proofs.pipeline.candidate_of.Goals as goal

pub returns-then-is_candidate : goal.returns-then-is_candidate
returns-then-is_candidate c = (c.in_ok-function.ensures, let t : IsTrue (is_candidate c.in_ok-function.function.code) = cc in t)
