-- Turns that have begun, and ends with room.
use Rattle.std.proofs.Common.{◌≡◌, ℕ, ◌<◌, Bool, true, false, ◌||◌, ◌⊎◌, inl, inr, List, refl, arith}
use Rattle.il_ast.specs.declared.value.Value.{Value}
use Rattle.il_ast.specs.declared.value.End.{End}
use Rattle.il_ast.specs.declared.value.End.TheVariants.{Exit, Halt as Halted, Undefined, Stack, Turns}
use Rattle.il_ast.specs.Prelude.{Memory, Spent, both, Ended, Given}
use Rattle.vcode.specs.declared.line.Line.{Line}
use Rattle.vcode.specs.declared.line.Line.TheVariants.{Tick, Set, Operate, Load, Store, Alloc, Blit, Call}
use Rattle.vcode.specs.Prelude.{Values, Act, Spends, act, HasRoom}
use Rattle.inlining.specs.InPlace.{begins_turn}

-- a line that begins a turn
abbrev pub IsTurn : Act → Type 0
IsTurn (Spends true w) = Unit {0}
IsTurn a = ⊥

pub turn_act : (globals : List Value) (m : Memory) (values : Values ℕ) (l : Line ℕ) → begins_turn l ≡ true → IsTurn (act globals m values l)
turn_act globals m values (Tick true w) h = tt
turn_act globals m values (Tick false w) h = absurd (let no : ⊥ = cc in no)
turn_act globals m values (Set to a) h = absurd (let no : ⊥ = cc in no)
turn_act globals m values (Operate to op a b) h = absurd (let no : ⊥ = cc in no)
turn_act globals m values (Load to op at) h = absurd (let no : ⊥ = cc in no)
turn_act globals m values (Store size a at) h = absurd (let no : ⊥ = cc in no)
turn_act globals m values (Alloc to size) h = absurd (let no : ⊥ = cc in no)
turn_act globals m values (Blit from to count) h = absurd (let no : ⊥ = cc in no)
turn_act globals m values (Call to callee args) h = absurd (let no : ⊥ = cc in no)

pub one_or_other : (a b : Bool) → (a || b) ≡ true → (a ≡ true) ⊎ (b ≡ true)
one_or_other true b h = inl refl
one_or_other false b h = inr h

-- a turn has begun
pub record Begun (i : Given) (x : Spent) : Type 0 where
  pub given : 0 < i.turns
  pub spent : 0 < x.turns

-- it is no less for what is spent further
pub begun_further : (i : Given) (x y : Spent) → Begun i x → Begun i (both x y)
begun_further i x y h = record { given = h.given; spent = let p = h.spent in omega (arith, p) }

-- an end with room has it whatever was spent
pub ended_room : (x y : Spent) (e : End) → HasRoom (Ended x e) → HasRoom (Ended y e)
ended_room x y (Exit n) h = h
ended_room x y Halted h = h
ended_room x y Undefined h = h
ended_room x y Stack h = h
ended_room x y Turns h = h
