use Rattle.std.proofs.Common.{arith}
use Rattle.qbec.proofs.pipeline.laid_out.Goals as goal

pub returns : goal.returns
returns c =
    let short = c.in_ok-code.ensures.not_longer in
    let small = c.in_ok-labelled.ensures.size in
    record {
      items = c.in_ok-labelled.labelled.items;
      machine = c.in_ok-labelled.ensures.promise;
      laid = c.in_ok-code.ensures.laid;
      calls = c.in_ok-code.ensures.calls;
      few = omega (arith, short, small);
    }
