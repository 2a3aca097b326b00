use Rattle.std.proofs.Common.{slice_set, refl, ◌∙◌, ap}
use Rattle.propagation.proofs.Writing.{register_written, table_written}
use Rattle.propagation.proofs.constants.table.FactTable.write.Goals as goal

pub returns-clause-table : goal.returns-clause-table
returns-clause-table c =
    table_written c.args.self.now (record c.args.self.now { cells = c.set_cell.new.cells; written = c.set_time.new.written }) c.args.register c.args.known c.requires
    (c.set_cell.ensures ∙ ap (λ k. slice_set c.args.self.now.cells.items c.args.register k) c.kept.ensures) c.set_time.ensures refl refl refl

pub returns-clause-facts : goal.returns-clause-facts
returns-clause-facts c =
    register_written c.args.self.now (record c.args.self.now { cells = c.set_cell.new.cells; written = c.set_time.new.written }) c.args.register c.args.known c.requires
    (c.set_cell.ensures ∙ ap (λ k. slice_set c.args.self.now.cells.items c.args.register k) c.kept.ensures) c.set_time.ensures refl refl
