use Rattle.std.proofs.Common.{◌≡◌, drop}
use Rattle.std.specs.List.{list_all}
use Rattle.il_ast.specs.declared.instruction.Inst.{Inst}
use Rattle.il_ast.specs.declared.instruction.Lined.{Lined}
use Rattle.il_ast.specs.declared.block.Block.{Block}
use Rattle.il_types.specs.Prelude.{has_few_args}
use Rattle.il_types.proofs.limits.all_few_args.Given as goal

abbrev pub invariant-loop-block : goal.invariant-loop-block
invariant-loop-block l = list_all (λ (b : Block). list_all (λ (i : Lined Inst). has_few_args i.item) b.insts) (drop l.block-index l.blocks) ≡ list_all (λ (b : Block). list_all (λ (i : Lined Inst). has_few_args i.item) b.insts) l.blocks
