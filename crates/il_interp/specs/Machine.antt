-- A machine that runs a program turn by turn, with a list of the activations that wait for a
-- result.
use Rattle.il_ast.specs.declared.program.Program.{Program}
use Rattle.obj_link.specs.Prelude.{program}
use Rattle.il_interp.specs.declared.prepared.Prepared.{Prepared}
use Rattle.std.specs.Prelude.{ℕ, zero, suc, ◌-◌, nat_lt, if◌then◌else◌, List, [], ◌∷◌, ◌++◌, map, length, replicate, slice_get, slice_set, Option, Some, None, option_map, unwrap_or, Result, Ok, Err, ◌≡◌, true, false, Bool}
use Rattle.il_ast.specs.declared.operation.Class.TheVariants.{W, L}
use Rattle.il_ast.specs.declared.operand.Arg.{Arg}
use Rattle.il_ast.specs.declared.operand.Dest.{Dest}
use Rattle.il_ast.specs.declared.function.Param.{Param}
use Rattle.il_ast.specs.declared.function.Func.{Func}
use Rattle.il_ast.specs.declared.program.InText.{InText}
use Rattle.il_ast.specs.declared.value.Callee.{Callee}
use Rattle.il_ast.specs.declared.value.Callee.TheVariants.{Defined, SystemWrite, SystemExit}
use Rattle.il_ast.specs.declared.value.Value.{Value}
use Rattle.il_ast.specs.declared.value.End.{End}
use Rattle.il_ast.specs.declared.value.End.TheVariants.{Undefined, Stack, Turns}
use Rattle.il_ast.specs.Prelude.{Memory, need, Env, Activation, Locals, Call, InstEffect, after_inst, Effect, Goes, Returns, Ends, effect, Outcome, Returned, Ended, with_args, globals_of, start_memory, call_fits, write_call, exit_call, stack_room, main_call, end_of, Behaviour}
use Rattle.il_ast.specs.Effect.{Calls}
use Rattle.il_interp.specs.declared.state.Frame.{Frame}
use Rattle.il_interp.specs.declared.state.State.{State}
use Rattle.std.specs.Option.{option_flatten}
use Rattle.il_interp.specs.declared.pieces.Running.{Running}
use Rattle.il_ast.specs.declared.instruction.Jump.{Jump}
use Rattle.il_ast.specs.declared.instruction.Jump.TheVariants.{Return, Halt}

-- ---- a program that is prepared to be run, as the program itself
abbrev pub program_of : Prepared → Program
program_of p = program p.linked.now

-- what a turn leads to: the run goes on, or it is over, with its output
pub data Next : Type 0 where
  On : State → Next
  Over : List ℕ → End → Next

abbrev pub act_of : Frame → Activation
act_of f = record {
  block = f.block;
  next = f.next;
  locals = record { temps = f.temps; owned = f.owned };
}

abbrev pub standing : Frame → Activation → Frame
standing f a =
    record f { block = a.block; next = a.next; temps = a.locals.temps; owned = a.locals.owned }

abbrev pub env_of : Program → InText Func → Env
env_of p f = record { func = f.item; globals = globals_of p f.text }

-- ---- results of calls

-- a result that is wanted is written, and one that is missing is undefined
abbrev pub received : State → Option Dest → Option Value → Next
received st None v = On st
received st (Some to) None = Over st.output Undefined
received st (Some to) (Some v) =
    On (record st { frame = record st.frame { temps = slice_set st.frame.temps to.temp (Some v) } })

-- the return of the activation above these
abbrev pub return_to : List ℕ → Memory → Option Value → List Frame → Next
return_to out m v [] = Over out (end_of v)
return_to out m v (f ∷ fs) =
    received (record { frame = f; below = fs; memory = m; output = out }) f.waits v

-- ---- calls

abbrev pub first_frame : ℕ → ℕ → Func → List Value → Frame
first_frame k room f args =
    record {
      function = k;
      room = room - need f;
      block = 0;
      next = 0;
      temps = with_args (replicate (length f.temps) None) f.params args;
      owned = [];
      waits = None;
    }

abbrev pub entered : State → Option Dest → Call → ℕ → Func → State
entered st to call k f =
    record {
      frame = first_frame k st.frame.room f call.args;
      below = record st.frame { waits = to } ∷ st.below;
      memory = st.memory;
      output = st.output;
    }

abbrev pub function_step : State → Option Dest → Call → ℕ → Option (InText Func) → Next
function_step st to call k None = Over st.output Undefined
function_step st to call k (Some f) =
    if call_fits call (map (λ (x : Param). x.class) f.item.params) f.item.result
    then (if nat_lt st.frame.room (need f.item) then Over st.output Stack
    else On (entered st to call k f.item))
    else Over st.output Undefined

abbrev pub native_step : State → Option Dest → Outcome → Next
native_step st to (Returned s v m) =
    received (record st { memory = m; output = st.output ++ s.output }) to v
native_step st to (Ended s e) = Over (st.output ++ s.output) e

abbrev pub named_step : Program → State → Option Dest → Call → Callee → Next
named_step p st to call (Defined k) = function_step st to call k (slice_get p.functions k)
named_step p st to call SystemWrite =
    if call_fits call (W ∷ L ∷ L ∷ []) (Some L)
    then native_step st to (write_call call.args st.memory) else Over st.output Undefined
named_step p st to call SystemExit =
    if call_fits call (W ∷ []) None then native_step st to (exit_call call.args)
    else Over st.output Undefined

-- ---- turns

abbrev pub react : Program → State → Effect → Next
react p st (Goes w a m) = On (record st { frame = standing st.frame a; memory = m })
react p st (Calls w call to a) =
    named_step p (record st { frame = standing st.frame a }) to call call.callee
react p st (Returns v m) = return_to st.output m v st.below
react p st (Ends e) = Over st.output e

abbrev pub turn_in_function : Program → State → Option (InText Func) → Next
turn_in_function p st None = Over st.output Undefined
turn_in_function p st (Some f) = react p st (effect (env_of p f) (act_of st.frame) st.memory)

-- one turn
unfoldable pub step : Program → State → Next
step p st = turn_in_function p st (slice_get p.functions st.frame.function)

abbrev pub go_on : (State → Behaviour) → Next → Behaviour
go_on rest (On st) = rest st
go_on rest (Over out e) = record { output = out; ending = e }

-- so many turns
unfoldable pub machine : Program → ℕ → State → Behaviour
machine p zero st = record { output = st.output; ending = Turns }
machine p (suc n) st = go_on (machine p n) (step p st)

-- ---- the start

abbrev pub main_frame : Memory → Call → ℕ → Option (InText Func) → Next
main_frame m call k None = Over [] Undefined
main_frame m call k (Some f) =
    if call_fits call (map (λ (x : Param). x.class) f.item.params) f.item.result
    then (if nat_lt stack_room (need f.item)
    then Over [] Stack
    else On (record {
      frame = first_frame k stack_room f.item call.args;
      below = [];
      memory = m;
      output = [];
    }))
    else Over [] Undefined

-- `main` is called
unfoldable pub started : Program → List (List ℕ) → Next
started p words =
    main_frame (start_memory p words) (main_call p words) p.main (slice_get p.functions p.main)

-- ---- pieces of a turn

abbrev pub locals_of : Frame → Locals
locals_of f = record { temps = f.temps; owned = f.owned }

-- what an instruction leads to
abbrev pub inst_next : Program → State → InstEffect → Next
inst_next p st e = react p st (after_inst st.frame.block st.frame.next (locals_of st.frame) e)

-- what was done in place: the state, and the end where the run is over
abbrev pub stepped : State → Option End → Next
stepped st None = On st
stepped st (Some e) = Over st.output e

-- a call of this function with these arguments
abbrev pub call_of : Callee → Option Dest → List Arg → List Value → Call
call_of f to args values =
    record {
      callee = f;
      classes = map (λ (a : Arg). a.class) args;
      wants = option_map (λ (d : Dest). d.class) to;
      args = values;
    }

-- ---- runs in pieces: what a piece puts out is taken away before the next one

-- what is left to come in n turns of a run that did some: it goes on from a state, or was over there
abbrev pub rest_of : Program → State → Option End → (n : ℕ) → Behaviour
rest_of p st None n = machine p n st
rest_of p st (Some e) n = record { output = st.output; ending = e }

-- how it ended, if its turns are used up where it wasn't over
abbrev pub ending_of : Option End → End
ending_of end = unwrap_or end Turns

-- the same with these bytes put out before
abbrev pub put_before : List ℕ → Behaviour → Behaviour
put_before out b = record { output = out ++ b.output; ending = b.ending }

-- ---- a run in hand

-- what it puts out in n turns from here on, with what it holds of its output, and how it ends
unfoldable pub comes_to : Running → (n : ℕ) → Behaviour
comes_to r n = machine (program_of r.prepared) n r.state

-- the memory that it has
abbrev pub memory_of : Running → Memory
memory_of r = r.state.memory

-- what a temporary of its activation holds
abbrev pub value_of : Running → (temp : ℕ) → Option Value
value_of r temp = option_flatten (slice_get r.state.frame.temps temp)

-- the output that it holds
abbrev pub held : Running → List ℕ
held r = r.state.output

-- the same of one that may be over
unfoldable pub left_of : Running → Option End → (n : ℕ) → Behaviour
left_of r end n = rest_of (program_of r.prepared) r.state end n

-- the same of one that was begun, or was over at once
abbrev pub begun_as : Result Running End → (n : ℕ) → Behaviour
begun_as (Ok r) n = comes_to r n
begun_as (Err e) n = record { output = []; ending = e }

-- ---- the room that a called function leaves to its own calls

-- the room less what the function needs, or none where it needs more
abbrev pub LeavesRoom : Option (InText Func) → ℕ → Option ℕ → Type 0
LeavesRoom None room left = Unit {0}
LeavesRoom (Some f) room None = nat_lt room (need f.item) ≡ true
LeavesRoom (Some f) room (Some left) =
    (nat_lt room (need f.item) ≡ false) × (left ≡ room - need f.item)

-- ---- where jumps lead

-- what a jump to a label does is what it does to enter this one, or it is undefined
abbrev pub Leads : Jump → (jumps : Effect) → (enters : ℕ → Effect) → Option (ℕ × Bool) → Type 0
Leads (Return v) jumps enters found = Unit {0}
Leads Halt jumps enters found = Unit {0}
Leads j jumps enters None = jumps ≡ Ends Undefined
Leads j jumps enters (Some found) = jumps ≡ enters found.0
