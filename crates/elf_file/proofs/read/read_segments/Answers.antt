use Rattle.std.proofs.lemmas.Result.{err_from_is_err_and}
use Rattle.elf_file.proofs.Reading.{next-segment, Refuses-segment}
use Rattle.elf_file.proofs.read.read_segments.Goals as goal

pub returns-in_err-segment : goal.returns-in_err-segment
returns-in_err-segment c = record {
  segments = let p = err_from_is_err_and c.from_residual-in_err-segment.result c.from_residual-in_err-segment.ensures.1 in
      rw (p.1, p.2) (
      Refuses-segment c.in_err-segment.field-0.0 c.args.file.now c.loop-k.k c.args.count c.loop-k.low c.program_header_at-header.result c.requires.headers c.requires.number c.loop-k-test.true c.loop-k.invariant.1 c.program_header_at-header.ensures c.in_err-segment.ensures.segment
      );
}

pub loop-k-preserved : goal.loop-k-preserved
loop-k-preserved c =
    next-segment c.args.file.now c.loop-k.k c.loop-k.low c.address.result c.size.result c.program_header_at-header.result c.loop-k.segments.items c.push.new.self.items c.in_ok-segment.segment c.loop-k.invariant c.program_header_at-header.ensures c.in_ok-segment.ensures.segment c.in_ok-push.ensures.items c.address.ensures.value c.size.ensures.value c.address.ensures.mapping.above_start
