-- A step of code, by what stands next.
use Rattle.std.proofs.Common.{◌≡◌, List, slice_get, Some, None, ◌∙◌, ap}
use Rattle.il_ast.specs.declared.value.Value.{Value}
use Rattle.il_ast.specs.Prelude.{Given}
use Rattle.vcode.specs.Prelude.{Line, Block, Code, Places, State, fails, line_step, jump_step, block_step, step_in, step}

pub step_line : {P : Type 0} (places : Places P) (globals : List Value) (code : Code P) (i : Given) (s : State P) (b : Block P) (l : Line P)
    → slice_get code.blocks s.block ≡ Some b → slice_get b.lines s.next ≡ Some l → step places globals code i s ≡ line_step places globals i s l
unfolding step
step_line places globals code i s b l e f = ap (step_in places globals code i s) e ∙ ap (block_step places globals code i s b) f

pub step_jump : {P : Type 0} (places : Places P) (globals : List Value) (code : Code P) (i : Given) (s : State P) (b : Block P)
    → slice_get code.blocks s.block ≡ Some b → slice_get b.lines s.next ≡ None → step places globals code i s ≡ jump_step globals code.result s b.jump
unfolding step
step_jump places globals code i s b e f = ap (step_in places globals code i s) e ∙ ap (block_step places globals code i s b) f

pub step_nowhere : {P : Type 0} (places : Places P) (globals : List Value) (code : Code P) (i : Given) (s : State P) → slice_get code.blocks s.block ≡ None → step places globals code i s ≡ fails s
unfolding step
step_nowhere places globals code i s e = ap (step_in places globals code i s) e
