use Rattle.std.proofs.Common.{◌/◌, ◌%◌}
use Rattle.rv_machine.proofs.PageLemmas.{set-bytes, written-permits, written-stay, made-within}
use Rattle.rv_machine.proofs.pages.paged_set.Goals as goal

pub write_at-requires-clause-long : goal.write_at-requires-clause-long
write_at-requires-clause-long c = made-within c.args.pages.now (c.args.at / 4096) c.requires

pub returns-clause-bytes : goal.returns-clause-bytes
returns-clause-bytes c =
    λ rs. set-bytes rs c.args.at c.args.byte c.from.result c.args.pages.now c.write_at.new.pages c.from.ensures c.ranges.byte.fits c.write_at.ensures

pub returns-clause-permits : goal.returns-clause-permits
returns-clause-permits c =
    λ rs all. written-permits rs (c.args.at / 4096) (c.args.at % 4096) 1 c.from.result c.args.pages.now c.write_at.new.pages c.write_at.ensures all

pub returns-clause-stay : goal.returns-clause-stay
returns-clause-stay c = written-stay (c.args.at / 4096) (c.args.at % 4096) 1 c.from.result c.args.pages.now c.write_at.new.pages c.write_at.ensures
