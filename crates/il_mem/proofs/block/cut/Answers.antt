use Rattle.std.proofs.Common.{◌∙◌, length-set, arith}
use Rattle.il_mem.specs.declared.block.Mark.TheVariants.{Plain}
use Rattle.il_mem.proofs.OverlaidLemmas.{cut_one}
use Rattle.il_mem.proofs.block.cut.Goals as goal

pub loop-bytes-preserved-in-Some : goal.loop-bytes-preserved-in-Some
loop-bytes-preserved-in-Some c =
    let long = length-set c.loop-bytes.marks.items c.len-at.result (Plain c.in-Some.byte) in
    record {
      cells = λ values. cut_one c.loop-bytes.bytes.items c.pop.new.self.items c.loop-bytes.marks.items values c.len-at.result c.in-Some.byte
          c.in-Some.ensures.items (omega arith) ∙ c.loop-bytes.invariant.cells values;
      short = omega (arith, c.in-Some.ensures.len, c.loop-bytes.invariant.short);
      marks = long ∙ c.loop-bytes.invariant.marks;
      capacity = c.in-Some.ensures.capacity ∙ c.loop-bytes.invariant.capacity;
    }
