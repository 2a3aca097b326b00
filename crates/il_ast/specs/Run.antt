-- Runs of a function's body, with what its calls do given; and what was spent.
use Rattle.std.specs.Prelude.{ℕ, zero, suc, ◌+◌, ◌-◌, ◌*◌, List, [], ◌∷◌, ◌++◌, length, replicate, slice_set, Option, Some, None}
use Rattle.il_ast.specs.Types.{Dest, Param, Func, Value, End, Undefined, Turns}
use Rattle.il_ast.specs.Memory.{Memory}
use Rattle.il_ast.specs.Effect.{Env, Activation, Call, Effect, Goes, Calls, Returns, Ends, assign, effect}

-- the turns done, their weight, the calls entered, and the bytes put out
pub record Spent : Type 0 where
  pub turns : ℕ
  pub weight : ℕ
  pub calls : ℕ
  pub output : List ℕ

abbrev pub nothing : Spent
nothing = record { turns = 0; weight = 0; calls = 0; output = [] }

abbrev pub one_turn : ℕ → Spent
one_turn w = record { turns = 1; weight = w; calls = 0; output = [] }

abbrev pub one_call : Spent
one_call = record { turns = 0; weight = 0; calls = 1; output = [] }

-- what was spent by one and then by the other
abbrev pub both : Spent → Spent → Spent
both s t =
    record {
      turns = s.turns + t.turns;
      weight = s.weight + t.weight;
      calls = s.calls + t.calls;
      output = s.output ++ t.output;
    }

-- how a call goes: it returns, with a result or none, or the run ends in it
pub data Outcome : Type 0 where
  Returned : Spent → Option Value → Memory → Outcome
  Ended : Spent → End → Outcome

-- the same, after this was spent
abbrev pub after : Spent → Outcome → Outcome
after s (Returned t v m) = Returned (both s t) v m
after s (Ended t e) = Ended (both s t) e

-- what calls do: of a call, the turns that are left, the room on the stack, and the memory
abbrev pub Callees : Type 0
Callees = Call → (turns : ℕ) → (room : ℕ) → Memory → Outcome

-- how a body goes on from an activation
abbrev pub Rest : Type 0
Rest = (turns : ℕ) → Activation → Memory → Outcome

-- a result that is wanted is written, and one that is missing is undefined
abbrev pub receive : Rest → (turns : ℕ) → Option Dest → Activation → Option Value → Memory → Outcome
receive rest t None a v m = rest t a m
receive rest t (Some to) a None m = Ended nothing Undefined
receive rest t (Some to) a (Some v) m = rest t (record a { locals = assign a.locals to.temp v }) m

abbrev pub resume : Rest → (turns : ℕ) → Option Dest → Activation → Outcome → Outcome
resume rest t to a (Returned s v m) = after s (receive rest (t - s.turns) to a v m)
resume rest t to a (Ended s e) = Ended s e

-- one turn, with t turns left after it
abbrev pub perform : Callees → (room : ℕ) → Rest → (turns : ℕ) → Memory → Effect → Outcome
perform callees room rest t m (Goes w a now) = after (one_turn w) (rest t a now)
perform callees room rest t m (Calls w call to a) =
    after (one_turn w) (resume rest t to a (callees call t room m))
perform callees room rest t m (Returns v now) = Returned (one_turn 1) v now
perform callees room rest t m (Ends e) = Ended (one_turn 1) e

-- at most so many steps, and turns: a turn that is due where none is left ends the run before
-- anything of it is done
unfoldable pub run : Env → Callees → (room : ℕ) → (steps : ℕ) → Rest
run env callees room zero t a m = Ended nothing Turns
run env callees room (suc k) zero a m = Ended nothing Turns
run env callees room (suc k) (suc t) a m =
    perform callees room (run env callees room k) t m (effect env a m)

abbrev pub with_args : List (Option Value) → List Param → List Value → List (Option Value)
with_args temps [] vs = temps
with_args temps (p ∷ ps) [] = temps
with_args temps (p ∷ ps) (v ∷ vs) = with_args (slice_set temps p.temp (Some v)) ps vs

-- the activation at the begin of a call
abbrev pub begun : Func → List Value → Activation
begun f args =
    record {
      block = 0;
      next = 0;
      locals = record {
        temps = with_args
            (replicate (length f.temps) None) f.params args;
        owned = [];
      };
    }

-- the run of a function's body: steps above the turns change nothing, so as many as turns are
-- enough
abbrev pub body : Env → Callees → (turns room : ℕ) → List Value → Memory → Outcome
body env callees t room args m = run env callees room t t (begun env.func args) m

-- 32 for each unit of weight, 256 for each call entered, 256 for the start
abbrev pub price : Spent → ℕ
price s = 32 * s.weight + 256 * s.calls + 256
