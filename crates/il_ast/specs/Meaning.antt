-- What a program means: the output and the end of its run, for argument words and a number of turns
-- (QBE IL, "Call", "Linkage").
use Rattle.std.specs.Prelude.{ℕ, zero, suc, ◌+◌, ◌-◌, ◌%◌, ◌^◌, Bool, true, false, nat_eq, nat_lt, ◌&&◌, if◌then◌else◌, List, [], ◌∷◌, map, length, slice_get, Option, Some, None, option_and_then}
use Rattle.il_ast.specs.Types.{STACK_ROOM, Class, W, L, Param, Func, InText, Program, Callee, Defined, SystemWrite, SystemExit, Value, Integer, Pointer, Function, End, Exit, Undefined, Stack, Turns}
use Rattle.il_ast.specs.Values.{same_class}
use Rattle.il_ast.specs.Memory.{Memory, cells_at, plain_bytes}
use Rattle.il_ast.specs.Cost.{need}
use Rattle.il_ast.specs.Effect.{Call}
use Rattle.il_ast.specs.Run.{Spent, nothing, one_call, Outcome, Returned, Ended, after, Callees, body}
use Rattle.il_ast.specs.Start.{globals_of, start_memory}

-- ---- types of calls

abbrev pub same_classes : List Class → List Class → Bool
same_classes [] [] = true
same_classes [] (d ∷ ds) = false
same_classes (c ∷ cs) [] = false
same_classes (c ∷ cs) (d ∷ ds) = same_class c d && same_classes cs ds

-- a result may be ignored, and one that is wanted has the callee's class
abbrev pub result_fits : (wants has : Option Class) → Bool
result_fits None has = true
result_fits (Some c) None = false
result_fits (Some c) (Some d) = same_class c d

abbrev pub call_fits : Call → List Class → Option Class → Bool
call_fits call params result = same_classes call.classes params && result_fits call.wants result

-- ---- the predefined functions

-- the call puts out these bytes and returns this number
abbrev pub answered : List ℕ → ℕ → Memory → Outcome
answered output n m = Returned (record one_call { output = output }) (Some (Integer n)) m

abbrev pub put_out : ℕ → Memory → Option (List ℕ) → Outcome
put_out n m None = Ended nothing Undefined
put_out n m (Some bytes) = answered bytes n m

-- n bytes from a place of memory; none are taken from anywhere
abbrev pub write_bytes : Value → ℕ → Memory → Outcome
write_bytes (Pointer b o) n m =
    if nat_eq n 0 then answered [] 0 m else put_out n m
    (option_and_then plain_bytes (cells_at m b o n))
write_bytes p n m = if nat_eq n 0 then answered [] 0 m else Ended nothing Undefined

abbrev pub write_integer : Value → Value → Memory → Outcome
write_integer p (Integer n) m = write_bytes p n m
write_integer p (Pointer b o) m = Ended nothing Undefined
write_integer p (Function f) m = Ended nothing Undefined

-- `write (w descriptor, l from, l count)` with result `l`: to descriptor 1 alone, else the answer
-- is -9
abbrev pub write_call : List Value → Memory → Outcome
write_call (Integer d ∷ p ∷ n ∷ []) m =
    if nat_eq d 1 then write_integer p n m else answered [] (2 ^ 64 - 9) m
write_call args m = Ended nothing Undefined

-- `exit (w status)` without a result
abbrev pub exit_call : List Value → Outcome
exit_call (Integer s ∷ []) = Ended one_call (Exit (s % 256))
exit_call args = Ended nothing Undefined

-- ---- calls

-- first the types, then the room
abbrev pub call_function : Program → Callees → Call → (turns room : ℕ) → Memory →
    Option (InText Func) → Outcome
call_function p callees call t room m None = Ended nothing Undefined
call_function p callees call t room m (Some f) =
    if call_fits call (map (λ (x : Param). x.class) f.item.params) f.item.result
    then (if nat_lt room (need f.item)
    then Ended nothing Stack
    else after one_call
    (body (record { func = f.item; globals = globals_of p f.text }) callees t (room - need f.item)
    call.args m))
    else Ended nothing Undefined

abbrev pub call_named : Program → Callees → Call → (turns room : ℕ) → Memory → Callee → Outcome
call_named p callees call t room m (Defined f) =
    call_function p callees call t room m (slice_get p.functions f)
call_named p callees call t room m SystemWrite =
    if call_fits call (W ∷ L ∷ L ∷ []) (Some L) then write_call call.args m
    else Ended nothing Undefined
call_named p callees call t room m SystemExit =
    if call_fits call (W ∷ []) None then exit_call call.args else Ended nothing Undefined

-- what calls do where they nest at most so deep; a call takes a turn, so turns bound the depth that
-- is reached
unfoldable pub callees : Program → (depth : ℕ) → Callees
callees p zero call t room m = Ended nothing Turns
callees p (suc k) call t room m = call_named p (callees p k) call t room m call.callee

-- ---- the whole

-- the room that `main` starts with, in bytes
abbrev pub stack_room : ℕ
stack_room = STACK_ROOM

-- `main ()`, or `main (w count, l list)` with the number of words and the argument list
abbrev pub main_args : ℕ → ℕ → List Param → List Value
main_args objects words [] = []
main_args objects words (x ∷ xs) = Integer words ∷ Pointer (objects + words) 0 ∷ []

abbrev pub main_classes : List Param → List Class
main_classes [] = []
main_classes (x ∷ xs) = W ∷ L ∷ []

abbrev pub params_of : Option (InText Func) → List Param
params_of None = []
params_of (Some f) = f.item.params

-- the result of `main` is always wanted
abbrev pub main_call : Program → List (List ℕ) → Call
main_call p words =
    let params = params_of (slice_get p.functions p.main)
    in record {
      callee = Defined p.main;
      classes = main_classes params;
      wants = Some W;
      args = main_args (length p.objects) (length words) params;
    }

-- how the call of `main` goes in n turns
unfoldable pub outcome : Program → List (List ℕ) → (turns : ℕ) → Outcome
outcome p words n = callees p (suc n) (main_call p words) n stack_room (start_memory p words)

-- an output and an end
pub record Behaviour : Type 0 where
  pub output : List ℕ
  pub ending : End

-- the return of `main` is the exit with its result modulo 256
abbrev pub end_of : Option Value → End
end_of (Some (Integer n)) = Exit (n % 256)
end_of v = Undefined

abbrev pub behaviour_of : Outcome → Behaviour
behaviour_of (Returned s v m) = record { output = s.output; ending = end_of v }
behaviour_of (Ended s e) = record { output = s.output; ending = e }

abbrev pub spent_of : Outcome → Spent
spent_of (Returned s v m) = s
spent_of (Ended s e) = s

-- the output and the end of a program's run in n turns
unfoldable pub meaning : Program → List (List ℕ) → (turns : ℕ) → Behaviour
meaning p words n = behaviour_of (outcome p words n)
