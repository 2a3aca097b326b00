use Rattle.std.proofs.Common.{refl}
use Rattle.il_ast.specs.declared.value.Cell.TheVariants.{Plain as PlainCell, Blank as BlankCell}
use Rattle.il_mem.specs.declared.block.Mark.TheVariants.{Plain, Blank}
use Rattle.il_mem.specs.Joined.{joined}
use Rattle.il_mem.proofs.JoinedLemmas.{shown_mark, shown_part}
use Rattle.il_mem.proofs.block.set_cell.Goals as goal

pub returns-in-Blank-clause-cells : goal.returns-in-Blank-clause-cells
returns-in-Blank-clause-cells c =
    shown_mark c.args.marks.now.items c.args.values.now.items (joined c.args.marks.now.items c.args.values.now.items) c.args.at Blank BlankCell
    c.args.cell refl c.in-Blank.is (λ v. refl)

pub returns-in-Plain-clause-cells : goal.returns-in-Plain-clause-cells
returns-in-Plain-clause-cells c =
    shown_mark c.args.marks.now.items c.args.values.now.items (joined c.args.marks.now.items c.args.values.now.items) c.args.at (Plain c.in-Plain.byte) (PlainCell c.in-Plain.byte)
    c.args.cell refl c.in-Plain.is (λ v. refl)

pub returns-in-Part-clause-cells : goal.returns-in-Part-clause-cells
returns-in-Part-clause-cells c =
    shown_part c.args.marks.now.items c.args.values.now.items c.grow.new.values.items (joined c.args.marks.now.items c.args.values.now.items) c.args.at c.in-Part.index
    c.in-Part.value c.args.cell refl c.in-Part.is c.grow.ensures.same c.grow.ensures.long
