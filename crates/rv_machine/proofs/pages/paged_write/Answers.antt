use Rattle.std.proofs.Common.{arith, ◌/◌, ◌%◌}
use Rattle.rv_machine.specs.Width.{bytes_of}
use Rattle.rv_machine.proofs.PageLemmas.{write-done, written-permits, within-of}
use Rattle.rv_machine.proofs.pages.paged_write.Goals as goal

pub write_at-requires-clause-long : goal.write_at-requires-clause-long
write_at-requires-clause-long c = within-of c.args.pages.now (c.args.at / 4096) c.in-Some.page.now c.in-Some.ensures

pub returns-clause-done : goal.returns-clause-done
returns-clause-done c =
    λ rs all. write-done rs c.args.at (bytes_of c.args.width) c.args.value c.args.pages.now c.write_at.new.pages c.in-Some.page.now all c.in-Some.ensures c.ranges.at.fits c.if-place-page.false (omega (arith, c.if-page-end.false, c.bytes.ensures)) c.if-not-page.false c.write_at.ensures

pub returns-clause-permits : goal.returns-clause-permits
returns-clause-permits c =
    λ rs all. written-permits rs (c.args.at / 4096) (c.args.at % 4096) (bytes_of c.args.width) c.args.value c.args.pages.now c.write_at.new.pages c.write_at.ensures all
