use Rattle.rv_isa.specs.declared.abi.TheConstants.{ARGUMENT_BYTES}
use Rattle.std.proofs.Common.{◌≡◌, ◌≤◌, ◌∙◌, true, refl, sym, ap, arith, length}
use Rattle.std.proofs.lemmas.Grind.{common_steps}
use Rattle.rv_isa.specs.Prelude.{argument_bytes}
use Rattle.obj_link.specs.Prelude.{are_arguments}
use Rattle.rv_machine.specs.Words.{texts}
use Rattle.rv_machine.proofs.Arguments.{arguments_fit, start_mapped}
use Rattle.rv_machine.proofs.machine.Machine.start.Goals as goal

pub of-requires : goal.of-requires
of-requires g c =
    let may : are_arguments (texts c.args.words.now) ≡ true = sym c.are_arguments.ensures ∙ c.if-not-are_arguments.false in
    let fit : length (argument_bytes (texts c.args.words.now)) ≤ ARGUMENT_BYTES = arguments_fit (texts c.args.words.now) may in
    let e : length c.as_slice-bytes.result.now ≡ length (argument_bytes (texts c.args.words.now)) =
    ap length (c.as_slice-bytes.ensures.value ∙ c.in-Ok.ensures) in
    omega (arith, fit, e)

pub ready-requires-clause-mapped : goal.ready-requires-clause-mapped
ready-requires-clause-mapped g c =
    start_mapped (g.R.Ram.permission_at c.in-Ok-of.ram) (g.R.Ram.permission_at c.in-Ok-of.ram) c.args.file.now _ _
    refl c.in-Ok-of.ensures.permissions refl

pub set_all-requires-clause-mapped : goal.set_all-requires-clause-mapped
set_all-requires-clause-mapped g c =
    start_mapped (g.R.Ram.permission_at c.in-Ok-of.ram) (g.R.Ram.permission_at c.ready.new.self) c.args.file.now _ _
    c.ready.ensures.permissions c.in-Ok-of.ensures.permissions refl

pub returns-then-not-are_arguments-clause-ok : goal.returns-then-not-are_arguments-clause-ok
returns-then-not-are_arguments-clause-ok c = grind (arith, common_steps)

pub returns-in_default-clause-ok : goal.returns-in_default-clause-ok
returns-in_default-clause-ok c = grind (arith, common_steps)

pub returns-in_default-of-clause-ok : goal.returns-in_default-of-clause-ok
returns-in_default-of-clause-ok c = grind (arith, common_steps)
