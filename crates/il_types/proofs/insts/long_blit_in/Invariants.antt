use Rattle.std.proofs.Common.{◌≡◌, drop}
use Rattle.il_types.specs.Prelude.{when, first, is_long_blit}
use Rattle.il_ast.specs.declared.instruction.Inst.{Inst}
use Rattle.il_ast.specs.declared.instruction.Lined.{Lined}
use Rattle.il_types.proofs.insts.long_blit_in.Given as goal

abbrev pub invariant-loop-inst : goal.invariant-loop-inst
invariant-loop-inst l = first (λ (i : Lined Inst). when (is_long_blit i.item) i.line) (drop l.inst-index l.insts) ≡ first (λ (i : Lined Inst). when (is_long_blit i.item) i.line) l.insts
