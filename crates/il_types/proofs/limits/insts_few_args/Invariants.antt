use Rattle.std.proofs.Common.{◌≡◌, drop}
use Rattle.std.specs.List.{list_all}
use Rattle.il_ast.specs.declared.instruction.Inst.{Inst}
use Rattle.il_ast.specs.declared.instruction.Lined.{Lined}
use Rattle.il_types.specs.Prelude.{has_few_args}
use Rattle.il_types.proofs.limits.insts_few_args.Given as goal

abbrev pub invariant-loop-inst : goal.invariant-loop-inst
invariant-loop-inst l = list_all (λ (i : Lined Inst). has_few_args i.item) (drop l.inst-index l.insts) ≡ list_all (λ (i : Lined Inst). has_few_args i.item) l.insts
