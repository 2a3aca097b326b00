-- Runs in place of others: they compose, and code that keeps another runs in its place.
use Rattle.std.proofs.Common.{ℕ, List, refl, sym, ◌∙◌, subst, arith}
use Rattle.il_ast.specs.declared.operation.Class.{Class}
use Rattle.il_ast.specs.declared.value.End.{End}
use Rattle.il_ast.specs.declared.value.End.TheVariants.{Exit, Halt, Undefined, Stack, Turns}
use Rattle.il_ast.specs.Prelude.{Spent, Outcome, Returned, Ended, Callees, Event, Asked, Given, Body, Fine, KeepsMeaning, KeepsCode}
use Rattle.vcode.specs.Prelude.{IsCheaper, GoesSo, HasRoom, KeepsRuns, KeepsIn}

-- ---- what goes so

pub as_cheap : (t : Spent) → IsCheaper t t
as_cheap t = record { turns = refl; weight = omega arith; calls = omega arith; output = refl }

pub goes_itself : (o : Outcome) → GoesSo o o
goes_itself (Returned t v m) = (as_cheap t, refl, refl)
goes_itself (Ended t e) = (as_cheap t, refl)

pub cheaper_after : (r t s : Spent) → IsCheaper r t → IsCheaper t s → IsCheaper r s
cheaper_after r t s g h =
    let gw = g.weight in
    let hw = h.weight in
    let gc = g.calls in
    let hc = h.calls in
    record { turns = g.turns ∙ h.turns; weight = omega (arith, gw, hw); calls = omega (arith, gc, hc); output = g.output ∙ h.output }

pub goes_after : (o p q : Outcome) → GoesSo o p → GoesSo p q → GoesSo o q
goes_after (Returned r u l) (Returned t v m) (Returned s w n) g h = (cheaper_after r t s g.0 h.0, g.1 ∙ h.1, g.2 ∙ h.2)
goes_after (Returned r u l) (Returned t v m) (Ended s f) g h = absurd h
goes_after (Returned r u l) (Ended t e) q g h = absurd g
goes_after (Ended r d) (Returned t v m) q g h = absurd g
goes_after (Ended r d) (Ended t e) (Returned s w n) g h = absurd h
goes_after (Ended r d) (Ended t e) (Ended s f) g h = (cheaper_after r t s g.0 h.0, g.1 ∙ h.1)

other_spent : (t s : Spent) (e : End) → HasRoom (Ended s e) → HasRoom (Ended t e)
other_spent t s (Exit n) h = h
other_spent t s Halt h = h
other_spent t s Undefined h = h
other_spent t s Stack h = h
other_spent t s Turns h = h

-- what goes so has room too
pub goes_room : (o q : Outcome) → GoesSo o q → HasRoom q → HasRoom o
goes_room (Returned t v m) (Returned s w n) h room = tt
goes_room (Returned t v m) (Ended s f) h room = absurd h
goes_room (Ended t e) (Returned s w n) h room = absurd h
goes_room (Ended t e) (Ended s f) h room = subst (λ (x : End). HasRoom (Ended t x)) (sym h.1) (other_spent t s f room)

pub room_fine : (o : Outcome) → HasRoom o → Fine o
room_fine (Returned s v m) h = tt
room_fine (Ended s (Exit n)) h = tt
room_fine (Ended s Halt) h = tt
room_fine (Ended s Undefined) h = h
room_fine (Ended s Stack) h = tt
room_fine (Ended s Turns) h = tt

-- ---- code in the place of other code

module _ {S : Type 0} (callees : Callees) (turns : ℕ) (params : List Class) (start : Given → S) (step : Given → S → Event S Asked Outcome) where
  pub keeps_in_itself : KeepsIn callees turns params start step start step
  keeps_in_itself i o log n low args room calls run =
      record { went = o; goes = goes_itself o; log = log; calls = calls; steps = n; runs = run }

  -- one after another
  pub keeps_in_after : {T U : Type 0} (start2 : Given → T) (step2 : Given → T → Event T Asked Outcome) (start3 : Given → U) (step3 : Given → U → Event U Asked Outcome)
      → KeepsIn callees turns params start step start2 step2 → KeepsIn callees turns params start2 step2 start3 step3 → KeepsIn callees turns params start step start3 step3
  keeps_in_after start2 step2 start3 step3 first second i o log n low args room calls run =
      let a = first i o log n low args room calls run in
      let b = second i a.went a.log a.steps low args (goes_room a.went o a.goes room) a.calls a.runs in
      record { went = b.went; goes = goes_after b.went a.went o b.goes a.goes; log = b.log; calls = b.calls; steps = b.steps; runs = b.runs }

  -- code that keeps other code, however calls go, keeps it where they go so
  pub code_keeps_in : {T : Type 0} (start2 : Given → T) (step2 : Given → T → Event T Asked Outcome) → KeepsCode params start step start2 step2 → KeepsIn callees turns params start step start2 step2
  code_keeps_in start2 step2 keeps i o log n low args room calls run =
      let other = keeps log i o args (room_fine o room) n run in
      record { went = o; goes = goes_itself o; log = log; calls = calls; steps = other.0; runs = other.1 }

  -- code in the place of a function's code runs as its body
  pub runs_stay : {T : Type 0} (start2 : Given → T) (step2 : Given → T → Event T Asked Outcome) (body : Body) → KeepsRuns callees turns params start step body → KeepsIn callees turns params start step start2 step2
      → KeepsRuns callees turns params start2 step2 body
  runs_stay start2 step2 body runs keeps i low args room =
      let a = runs i low args room in
      let b = keeps i a.went a.log a.steps low args (goes_room a.went (body callees i) a.goes room) a.calls a.runs in
      record { went = b.went; goes = goes_after b.went a.went (body callees i) b.goes a.goes; log = b.log; calls = b.calls; steps = b.steps; runs = b.runs }

  -- code that keeps a meaning, however calls go, runs so where they go so
  pub meaning_runs : (body : Body) → KeepsMeaning params start step body → KeepsRuns callees turns params start step body
  meaning_runs body keeps i low args room =
      let run = keeps callees i args (room_fine (body callees i) room) in
      record { went = body callees i; goes = goes_itself (body callees i); log = run.0; calls = run.1; steps = run.2.0; runs = run.2.1 }
