-- Instructions that are done one after another.
use Rattle.std.specs.Prelude.{◌≡◌, ℕ, ◌+◌, ◌-◌, ◌%◌, ◌^◌, List, slice_get, Option, Some}
use Rattle.il_ast.specs.declared.operation.Class.{Class}
use Rattle.il_ast.specs.declared.operation.Class.TheVariants.{W, L}
use Rattle.il_ast.specs.declared.instruction.Inst.{Inst}
use Rattle.il_ast.specs.declared.instruction.Inst.TheVariants.{Alloc, Blit, Call}
use Rattle.il_ast.specs.declared.instruction.Lined.{Lined}
use Rattle.il_ast.specs.declared.block.Block.{Block}
use Rattle.il_ast.specs.declared.function.Func.{Func}
use Rattle.il_ast.specs.declared.program.InText.{InText}
use Rattle.il_ast.specs.declared.program.Program.{Program}
use Rattle.il_ast.specs.declared.value.Value.{Value}
use Rattle.il_ast.specs.Prelude.{Memory, Done, Fails, inst_effect}
use Rattle.il_interp.specs.declared.state.State.{State}
use Rattle.il_interp.specs.Machine.{machine}

-- an integer in a place of a class
abbrev pub in_class : Class → ℕ → ℕ
in_class W n = n % 2 ^ 32
in_class L n = n

-- what an activation's instructions read and write: the values of its temporaries, and the memory
pub record Held : Type 0 where
  pub temps : List (Option Value)
  pub memory : Memory

abbrev pub held : List (Option Value) → Memory → Held
held temps memory = record { temps = temps; memory = memory }

-- with these values of global names, an instruction makes the new of what was held, and does
-- nothing else
abbrev pub Does : (globals : List Value) → (old : Held) → Inst → (new : Held) → Type 0
Does globals old inst new =
    (owned : List ℕ) →
    inst_effect globals (record { temps = old.temps; owned = owned }) old.memory inst
    ≡ Done 1 (record { temps = new.temps; owned = owned }) new.memory

-- the instructions that are done in a row
abbrev pub IsInRow : Inst → Type 0
IsInRow (Alloc to alignment size) = ⊥
IsInRow (Blit from to count) = ⊥
IsInRow (Call to callee args) = ⊥
IsInRow inst = Unit {0}

-- with these values of global names, an instruction is undefined, or not one of these, and what
-- was held stays
abbrev pub Undone : (globals : List Value) → (old : Held) → Inst → (new : Held) → Type 0
Undone globals old inst new =
    (IsInRow inst → (owned : List ℕ) →
    inst_effect globals (record { temps = old.temps; owned = owned }) old.memory inst ≡ Fails)
    × (new ≡ old)

-- the state, at another instruction of its block, with this held
abbrev pub further_on : State → ℕ → Held → State
further_on st next h =
    record st { frame = record st.frame { next = next; temps = h.temps }; memory = h.memory }

-- in a text of a program, a run that stands in a block of these instructions goes on from one of
-- them to another one
abbrev pub GoesOn : Program → (text : ℕ) → List (Lined Inst) → (old : Held) → (next : ℕ) → (new : Held) → (end : ℕ) → Type 0
GoesOn p text insts old next new end =
    (f : InText Func) (b : Block) (st : State) →
    slice_get p.functions st.frame.function ≡ Some f → f.text ≡ text →
    slice_get f.item.blocks st.frame.block ≡ Some b → b.insts ≡ insts →
    held st.frame.temps st.memory ≡ old → st.frame.next ≡ next →
    (n : ℕ) → machine p (end - next + n) st ≡ machine p n (further_on st end new)
