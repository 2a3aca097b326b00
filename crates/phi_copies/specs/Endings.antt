-- A function whose blocks end without phis: what a step of it does. Its blocks' instructions are
-- the source's, each a turn with its weight; in the place of a block's jump stands an ending; and
-- behind its blocks stand further ones that have an ending alone.
use Rattle.std.specs.Prelude.{ℕ, ◌+◌, ◌-◌, nat_eq, nat_lt, Bool, true, false, if◌then◌else◌, List, [], ◌∷◌, length, replicate, slice_get, slice_set, Option, Some, None, option_and_then}
use Rattle.il_ast.specs.declared.operation.Class.{Class}
use Rattle.il_ast.specs.declared.operation.Class.TheVariants.{W}
use Rattle.il_ast.specs.declared.operand.Val.{Val}
use Rattle.il_ast.specs.declared.operand.Dest.{Dest}
use Rattle.il_ast.specs.declared.instruction.Inst.{Inst}
use Rattle.il_ast.specs.declared.instruction.Lined.{Lined}
use Rattle.il_ast.specs.declared.block.Block.{Block}
use Rattle.il_ast.specs.declared.function.Func.{Func}
use Rattle.il_ast.specs.declared.value.Value.{Value}
use Rattle.il_ast.specs.declared.value.Value.TheVariants.{Integer, Pointer, Function}
use Rattle.il_ast.specs.declared.value.End.TheVariants.{Halt as Halted, Undefined, Turns}
use Rattle.il_ast.specs.Prelude.{Memory, free_all, phi_count, Locals, InstEffect, Done, Asks, Fails, operand, assign, inst_effect, Spent, nothing, one_turn, both, Outcome, Returned, Ended, with_args, Next, On, Over, Event, Does, Calls, Asked, Given}
use Rattle.phi_copies.specs.declared.ending.Assignment.{Assignment}
use Rattle.phi_copies.specs.declared.ending.Leave.{Leave}
use Rattle.phi_copies.specs.declared.ending.Leave.TheVariants.{Goto, Branch, Return, Halt}
use Rattle.phi_copies.specs.declared.ending.Ending.{Ending}

-- the ending of each block of the function, and those of the blocks behind them
pub record Endings : Type 0 where
  pub endings : List Ending
  pub edges : List Ending

-- the block and the instruction in it that are next, what is held, the memory, and what was spent
pub record State : Type 0 where
  pub block : ℕ
  pub next : ℕ
  pub locals : Locals
  pub memory : Memory
  pub spent : Spent

-- beside its own temporaries the function has one for each of its phis
abbrev pub begin : Func → Given → State
begin f i =
    record {
      block = 0;
      next = 0;
      locals = record {
        temps = with_args (replicate (length f.temps + phi_count f) None) f.params
            i.args;
        owned = [];
      };
      memory = i.memory;
      spent = nothing;
    }

abbrev pub fails : State → Event State Asked Outcome
fails s = Does (Over (Ended s.spent Undefined))

-- weight alone, and no turn
abbrev pub weighs : ℕ → Spent
weighs w = record { turns = 0; weight = w; calls = 0; output = [] }

-- ---- instructions

-- a result that is wanted is written, and one that is missing is undefined
abbrev pub receives : State → Option Dest → Option Value → Next State Outcome
receives s None v = On s
receives s (Some d) None = Over (Ended s.spent Undefined)
receives s (Some d) (Some v) = On (record s { locals = assign s.locals d.temp v })

abbrev pub resumes : State → Option Dest → Outcome → Next State Outcome
resumes s to (Returned t v m) = receives (record s { memory = m; spent = both s.spent t }) to v
resumes s to (Ended t e) = Over (Ended (both s.spent t) e)

-- after this effect of an instruction, in a turn of its own
abbrev pub goes_on : Given → State → InstEffect → Event State Asked Outcome
goes_on i s (Done w now m) =
    Does (On (record s {
      next = s.next + 1;
      locals = now;
      memory = m;
      spent = both s.spent (one_turn w);
    }))
goes_on i s (Asks w call to) =
    Calls (record {
      call = call;
      turns = i.turns - (s.spent.turns + 1);
      room = i.room;
      memory = s.memory;
    })
    (resumes (record s { next = s.next + 1; spent = both s.spent (one_turn w) }) to)
goes_on i s Fails = fails s

-- a turn that is due with none left ends the run before anything of it is done
abbrev pub in_turn : Given → State → Event State Asked Outcome → Event State Asked Outcome
in_turn i s e = if nat_lt s.spent.turns i.turns then e else Does (Over (Ended s.spent Turns))

-- ---- endings

-- the copies are done one after another
abbrev pub copied : List Value → List (Option Value) → List Assignment →
    Option (List (Option Value))
copied globals temps [] = Some temps
copied globals temps (c ∷ cs) =
    option_and_then (λ v. copied globals (slice_set temps c.to.temp (Some v)) cs)
    (operand globals temps c.to.class c.value)

abbrev pub enters : State → ℕ → Event State Asked Outcome
enters s k = Does (On (record s { block = k; next = 0 }))

abbrev pub branches : State → (nonzero otherwise : ℕ) → Option Value → Event State Asked Outcome
branches s nonzero otherwise None = fails s
branches s nonzero otherwise (Some (Integer n)) =
    enters s (if nat_eq n 0 then otherwise else nonzero)
branches s nonzero otherwise (Some (Pointer b o)) = fails s
branches s nonzero otherwise (Some (Function f)) = fails s

abbrev pub returns : State → Option Value → Event State Asked Outcome
returns s None = fails s
returns s (Some v) = Does (Over (Returned s.spent (Some v) (free_all s.memory s.locals.owned)))

-- a value is returned in a place of the function's class
abbrev pub returns_in : List Value → State → Option Class → Val → Event State Asked Outcome
returns_in globals s None a = fails s
returns_in globals s (Some c) a = returns s (operand globals s.locals.temps c a)

abbrev pub leaves : List Value → Option Class → State → Leave → Event State Asked Outcome
leaves globals result s (Goto k) = enters s k
leaves globals result s (Branch on nonzero otherwise) =
    branches s nonzero otherwise (operand globals s.locals.temps W on)
leaves globals result s (Return None) =
    Does (Over (Returned s.spent None (free_all s.memory s.locals.owned)))
leaves globals result s (Return (Some a)) = returns_in globals s result a
leaves globals result s Halt = Does (Over (Ended s.spent Halted))

abbrev pub copies_and_leaves : List Value → Option Class → State → Leave →
    Option (List (Option Value)) → Event State Asked Outcome
copies_and_leaves globals result s leave None = fails s
copies_and_leaves globals result s leave (Some temps) =
    leaves globals result (record s { locals = record { temps = temps; owned = s.locals.owned } })
    leave

abbrev pub after_mark : List Value → Option Class → State → Ending → Event State Asked Outcome
after_mark globals result s e =
    copies_and_leaves globals result s e.leave (copied globals s.locals.temps e.copies)

abbrev pub marked : Given → List Value → Option Class → State → Ending → Bool →
    Event State Asked Outcome
marked i globals result s e true =
    in_turn i s (after_mark globals result (record s { spent = both s.spent (one_turn e.weight) })
    e)
marked i globals result s e false =
    after_mark globals result (record s { spent = both s.spent (weighs e.weight) }) e

abbrev pub ends : List Value → Option Class → Given → State → Option Ending →
    Event State Asked Outcome
ends globals result i s None = fails s
ends globals result i s (Some e) = marked i globals result s e e.turn

-- ---- a step

abbrev pub block_step : List Value → Func → Endings → Given → State → Option (Lined Inst) →
    Event State Asked Outcome
block_step globals f code i s (Some l) =
    in_turn i s (goes_on i s (inst_effect globals s.locals s.memory l.item))
block_step globals f code i s None = ends globals f.result i s (slice_get code.endings s.block)

abbrev pub step_in : List Value → Func → Endings → Given → State → Option Block →
    Event State Asked Outcome
step_in globals f code i s (Some b) = block_step globals f code i s (slice_get b.insts s.next)
step_in globals f code i s None =
    ends globals f.result i s (slice_get code.edges (s.block - length f.blocks))

-- the instruction that is next, or the ending where none is left
unfoldable pub step : List Value → Func → Endings → Given → State → Event State Asked Outcome
step globals f code i s = step_in globals f code i s (slice_get f.blocks s.block)
