use Rattle.vcode.specs.Prelude.{virtual_code}
use Rattle.qbec.specs.Pipeline.{IsCodeWith}
use Rattle.qbec.proofs.pipeline.virtual_code_of.Given as goal

abbrev pub invariant-loop-line : goal.invariant-loop-line
invariant-loop-line l = IsCodeWith l.fn.candidates l.fn.func (virtual_code l.function)
