-- The grammar of the command line, as `clap` reads one.
use Rattle.std.specs.Prelude.{◌≡◌, ℕ, true, false, List, [], ◌∷◌, codes, Some, Result, IfOk}
use Rattle.std.specs.declared.alloc.AllocError.{AllocError}
use Rattle.clap.specs.Lexer.{usize_max}
use Rattle.clap.specs.Walk.{Rule, rule_of}
use Rattle.clap.specs.Simple.{App, app_of, new_app, new_rule, new_shape, with_rule, with_subcommand}
use Rattle.clap.specs.declared.builder.action.ArgAction.TheVariants.{SetTrue}
use Rattle.clap.specs.declared.builder.arg.Arg.{Arg}
use Rattle.clap.specs.declared.builder.command.Command.{Command}
use Rattle.clap.specs.declared.builder.command.Command.TheViews.{out-Command as fields_of}
use Rattle.clap.specs.declared.builder.value_parser.ValueParser.TheVariants as vp

-- ---- the arguments

-- -o OUT
abbrev pub out_rule : Rule
out_rule = record (new_rule (codes "OUT")) { short = Some 111; required = true }

-- the same where nothing has to be written
abbrev pub also_out_rule : Rule
also_out_rule = record (new_rule (codes "OUT")) { short = Some 111 }

-- FILE...
abbrev pub files_rule : Rule
files_rule = record (new_rule (codes "FILES")) {
  value_names = 1;
  required = true;
  range = Some (record { start_inclusive = 1; end_inclusive = usize_max });
}

-- --limit N, from 0 to 10^12, or else 10^9
abbrev pub limit_rule : Rule
limit_rule = record (new_rule (codes "limit")) {
  long = Some (codes "limit");
  value_names = 1;
  parser = Some (vp.Unsigned 0 1000000000000);
  defaults = codes "1000000000" ∷ [];
}

-- --last K, from 0 to 1,000, or else 0
abbrev pub last_rule : Rule
last_rule = record (new_rule (codes "last")) {
  long = Some (codes "last");
  value_names = 1;
  parser = Some (vp.Unsigned 0 1000);
  defaults = codes "0" ∷ [];
}

-- --explain
abbrev pub explain_rule : Rule
explain_rule = record (new_rule (codes "explain")) {
  long = Some (codes "explain");
  action = Some SetTrue;
}

-- EXE, or FILE
abbrev pub path_rule : List ℕ → Rule
path_rule name = record (new_rule name) { required = true }

-- WORD...
abbrev pub words_rule : Rule
words_rule = record (new_rule (codes "WORDS")) {
  value_names = 1;
  range = Some (record { start_inclusive = 0; end_inclusive = usize_max });
}

-- ---- the commands

abbrev pub build_app : App
build_app =
    with_rule (with_rule (with_rule (new_app (codes "build")) out_rule) explain_rule) files_rule

-- a command that runs a program within a limit
abbrev pub running_app : (command file : List ℕ) → App
running_app command file =
    with_rule (with_rule (with_rule (with_rule (new_app command) limit_rule) explain_rule)
    (path_rule file)) words_rule

abbrev pub run_app : App
run_app = running_app (codes "run") (codes "EXE")

abbrev pub interp_app : App
interp_app = running_app (codes "interp") (codes "FILE")

abbrev pub trace_app : App
trace_app = with_rule (with_rule (with_rule (new_app (codes "trace")) limit_rule) last_rule) files_rule

abbrev pub dis_app : App
dis_app = with_rule (with_rule (new_app (codes "dis")) explain_rule) (path_rule (codes "EXE"))

abbrev pub check_app : App
check_app = with_rule (new_app (codes "check")) files_rule

abbrev pub symbols_app : App
symbols_app = with_rule (with_rule (new_app (codes "symbols")) also_out_rule) files_rule

abbrev pub stack_app : App
stack_app = with_rule (new_app (codes "stack")) files_rule

-- there is no word for the program before the first one, a command has to be named, and there is a
-- version, but no command `help`
abbrev pub program_app : App
program_app = record {
  top = record (new_shape (codes "qbec")) {
    no_binary_name = true;
    subcommand_required = true;
    disable_help_subcommand = true;
    has_version = true;
  };
  subs = [];
}

abbrev pub executables_app : App
executables_app = with_subcommand (with_subcommand program_app build_app.top) run_app.top

abbrev pub working_app : App
working_app = with_subcommand (with_subcommand executables_app interp_app.top) dis_app.top

abbrev pub telling_app : App
telling_app = with_subcommand (with_subcommand working_app check_app.top) symbols_app.top

abbrev pub showing_app : App
showing_app = with_subcommand telling_app stack_app.top

abbrev pub qbec_app : App
qbec_app = with_subcommand showing_app trace_app.top

-- the command is read so, and so are its arguments
abbrev pub IsRead : Command → App → Type 0
IsRead c app = (app_of c ≡ app) × ((fields_of c).has_globals ≡ false)

abbrev pub IsRuled : Arg → Rule → Type 0
IsRuled a rule = (rule_of a ≡ rule) × (a.global ≡ false)

-- where there was memory for all, this is the program with the command
abbrev pub HasSubcommand : (program command result : Result Command AllocError) → Type 0
HasSubcommand program command result =
    (a b : App) → IfOk program (λ c. IsRead c a) → IfOk command (λ c. IsRead c b)
    → IfOk result (λ c. IsRead c (with_subcommand a b.top))
