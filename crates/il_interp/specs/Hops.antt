-- Jumps on integers, and what is done one after another through blocks.
use Rattle.std.specs.Prelude.{◌≡◌, ℕ, ◌+◌, List, Option}
use Rattle.il_ast.specs.declared.block.Block.{Block}
use Rattle.il_ast.specs.declared.function.Func.{Func}
use Rattle.il_ast.specs.declared.program.InText.{InText}
use Rattle.il_ast.specs.declared.program.Program.{Program}
use Rattle.il_ast.specs.declared.value.Value.{Value}
use Rattle.il_ast.specs.Prelude.{Locals, enter, end_effect, Memory}
use Rattle.il_interp.specs.declared.state.Frame.{Frame}
use Rattle.il_interp.specs.declared.state.State.{State}
use Rattle.il_interp.specs.Machine.{On, env_of, locals_of, machine, react}

abbrev pub held_in : List (Option Value) → List ℕ → Locals
held_in temps owned = record { temps = temps; owned = owned }

-- the state, in another activation
abbrev pub standing_in : State → Frame → State
standing_in st frame = record st { frame = frame }

-- a run in this activation enters the block of a label from another one, and changes nothing but the activation
abbrev pub Enters : Program → InText Func → (from label : ℕ) → (old new : Frame) → Type 0
Enters p f from label old new =
    (st : State) → st.frame ≡ old →
    react p st (enter (env_of p f) from (locals_of old) st.memory label) ≡ On (standing_in st new)

-- the same of the jump of a block
abbrev pub Ends : Program → InText Func → Block → (old new : Frame) → Type 0
Ends p f b old new =
    (st : State) → st.frame ≡ old →
    react p st (end_effect (env_of p f) b.label (locals_of old) st.memory b.jump) ≡ On (standing_in st new)

-- the state, in another activation, with another memory
abbrev pub standing_with : State → Frame → Memory → State
standing_with st frame m = record st { frame = frame; memory = m }

-- a run in this activation, with this memory, goes on by so many turns, and changes nothing but these
abbrev pub GoesAlong : Program → (old : Frame) → (before : Memory) → (turns : ℕ) → (new : Frame) → (after : Memory) → Type 0
GoesAlong p old before turns new after =
    (st : State) → st.frame ≡ old → st.memory ≡ before →
    (n : ℕ) → machine p (turns + n) st ≡ machine p n (standing_with st new after)
