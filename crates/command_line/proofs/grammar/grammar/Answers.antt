use Rattle.clap.specs.Simple.{with_subcommand}
use Rattle.command_line.specs.Grammar.{build_app, check_app, dis_app, executables_app, interp_app, program_app, run_app, showing_app, stack_app, symbols_app, telling_app, trace_app, working_app}
use Rattle.command_line.proofs.grammar.grammar.Goals as goal

pub returns : goal.returns
returns c =
    let built = c.with_subcommand-program.ensures program_app build_app c.program.ensures c.build.ensures in
    let run = c.with_subcommand-program-2.ensures (with_subcommand program_app build_app.top) run_app built c.run.ensures in
    let interpreted = c.with_subcommand-program-3.ensures executables_app interp_app run c.interp.ensures in
    let working = c.with_subcommand-program-4.ensures (with_subcommand executables_app interp_app.top) dis_app interpreted c.dis.ensures in
    let checked = c.with_subcommand-program-5.ensures working_app check_app working c.check.ensures in
    let telling = c.with_subcommand-program-6.ensures (with_subcommand working_app check_app.top) symbols_app checked c.symbols.ensures in
    let showing = c.with_subcommand-program-7.ensures telling_app stack_app telling c.stack.ensures in
    c.with_subcommand.ensures showing_app trace_app showing c.trace.ensures
