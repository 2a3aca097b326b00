-- Calls of a program's candidates go as their code.
use Rattle.std.proofs.Common.{◌≡◌, ℕ, zero, suc, ◌-◌, ◌<◌, ◌≤◌, nat_lt, Bool, true, false, List, [], ◌∷◌, slice_get, Some, refl, sym, ◌∙◌, ap, subst, arith, if◌then◌else◌}
use Rattle.std.proofs.lemmas.Bool.Decides.{nat_tests}
use Rattle.il_ast.specs.declared.operation.Class.{Class}
use Rattle.il_ast.specs.declared.function.Func.{Func}
use Rattle.il_ast.specs.declared.program.InText.{InText}
use Rattle.il_ast.specs.declared.program.Program.{Program}
use Rattle.il_ast.specs.declared.value.Callee.TheVariants.{Defined}
use Rattle.il_ast.specs.declared.value.End.TheVariants.{Undefined, Stack, Turns}
use Rattle.il_ast.specs.Prelude.{need, Call, Memory, Outcome, Ended, nothing, one_call, after, call_fits, call_function, call_named, callees, Logged, Given, AreArgs, Log, AllGo, classes_of, globals_of}
use Rattle.vcode.specs.declared.function.VFunc.{VFunc}
use Rattle.vcode.specs.Prelude.{classes_in, GoesSo, HasRoom, virtual, begin, step}
use Rattle.vcode.proofs.InPlace.{goes_room}
use Rattle.inlining.specs.InPlace.{AllGoFrom, AllLater, given_by, GoesAs, IsCandidateOf}
use Rattle.inlining.proofs.CandidateCalls.{asked_later}
use Rattle.inlining.proofs.MoreRoom.{room_before, callees_stay}
use Rattle.headline.specs.Executables.{calls_in, body_of}
use Rattle.headline.proofs.InPlace.{same_body}
use Rattle.qbec.specs.Pipeline.{IsCandidateNamed}

-- ---- how a call of a function goes

-- the call is entered, and goes so
record Entered (p : Program) (n : ℕ) (f : InText Func) (call : Call) (t room : ℕ) (m : Memory) : Type 0 where
  is : callees p (suc n) call t room m ≡ after one_call (body_of p f (callees p n) (given_by call t (room - need f.item) m))
  room_left : HasRoom (body_of p f (callees p n) (given_by call t (room - need f.item) m))

room_for : (b : Bool) (o x : Outcome) → x ≡ (if b then Ended nothing Stack else after one_call o) → HasRoom x → (x ≡ after one_call o) × HasRoom o
room_for true o x is h = absurd (subst HasRoom is h)
room_for false o x is h = (is, room_before one_call o (subst HasRoom is h))

entered : (p : Program) (n number : ℕ) (f : InText Func) (call : Call) (t room : ℕ) (m : Memory) → slice_get p.functions number ≡ Some f → call.callee ≡ Defined number
    → call_fits call (classes_of f.item.params) f.item.result ≡ true → HasRoom (callees p (suc n) call t room m) → Entered p n f call t room m
unfolding callees
entered p n number f call t room m here callee fits enough =
    let meant : Outcome = body_of p f (callees p n) (given_by call t (room - need f.item) m) in
    let goes =
    ap (call_named p (callees p n) call t room m) callee
    ∙ ap (call_function p (callees p n) call t room m) here
    ∙ ap (λ (b : Bool). if b then (if nat_lt room (need f.item) then Ended nothing Stack else after one_call meant) else Ended nothing Undefined) fits
    in
    let r = room_for (nat_lt room (need f.item)) meant (callees p (suc n) call t room m) goes enough in
    record { is = r.0; room_left = r.1 }

-- ---- it goes as the candidate's code

-- in fewer turns than there are
in_turns : (p : Program) (turns : ℕ) (call : Call) (t room : ℕ) (m : Memory) → t < turns → calls_in p turns call t room m ≡ callees p turns call t room m
in_turns p turns call t room m low = by (nat_lt t turns) (grind (arith, nat_tests))
  where
    by : (b : Bool) → b ≡ true → (if b then callees p turns call t room m else Ended nothing Turns) ≡ callees p turns call t room m
    by true e = refl
    by false e = absurd (let no : ⊥ = cc in no)

-- what a candidate's calls find in fewer turns they find in a larger room too
goes_from : (p : Program) (n : ℕ) (i : Given) → i.turns ≤ n → (log : Log) → AllGo (calls_in p n) log → AllLater i log → AllGoFrom (calls_in p (suc n)) log
goes_from p n i low [] gone later = tt
goes_from p n i low (e ∷ log) gone later =
    let a = e.asked in
    let few : a.turns < n = omega (arith, low, later.0) in
    let is : callees p n a.call a.turns a.room a.memory ≡ e.went = sym (in_turns p n a.call a.turns a.room a.memory few) ∙ gone.0 in (
      λ room le.
          in_turns p (suc n) a.call a.turns room a.memory (omega (arith, few))
          ∙ callees_stay p n (suc n) a.call a.turns a.room room a.memory few (omega (arith, few)) le (subst HasRoom (sym is) later.2)
          ∙ is,
      goes_from p n i low log gone.1 later.3,
    )

candidate_entered : (p : Program) (text name n : ℕ) (candidate : VFunc) (l : IsCandidateNamed p text name candidate) (call : Call) (t room : ℕ) (m : Memory) → t ≤ n → AreArgs (classes_in candidate.code.params) call.args
    → Entered p n l.function call t room m → calls_in p (suc n) call t room m ≡ callees p (suc n) call t room m → GoesAs (calls_in p (suc n)) (globals_of p text) candidate.code call t room m
candidate_entered p text name n candidate l call t room m low args e going =
    let f = l.function in
    let i = given_by call t (room - need f.item) m in
    let same = same_body p f n i low in
    let run =
    l.is.runs n i low (subst (λ (cs : List Class). AreArgs cs call.args) l.is.params args) (subst HasRoom (sym same) e.room_left)
    in
    let fine : HasRoom run.went = goes_room run.went (body_of p f (callees p n) i) (subst (GoesSo run.went) same run.goes) e.room_left in
    let later = asked_later (globals_of p f.text) candidate.code i l.calm run.steps run.log run.went run.runs fine in
    record {
      meant = body_of p f (callees p n) i;
      is = going ∙ e.is;
      went = run.went;
      goes = subst (GoesSo run.went) same run.goes;
      below = room - need f.item;
      fits = omega arith;
      log = run.log;
      calls = goes_from p n i low run.log run.calls later;
      steps = run.steps;
      runs = subst (λ (x : ℕ). Logged (step virtual (globals_of p x) candidate.code i) run.steps (begin virtual candidate.code i) run.log run.went) l.same run.runs;
    }

-- in the program each call of the function that the name means goes as the candidate's code
pub candidate_goes : (p : Program) (text name : ℕ) (candidate : VFunc) (l : IsCandidateNamed p text name candidate) (turns : ℕ) → IsCandidateOf (calls_in p turns) turns (globals_of p text) candidate.code (Defined l.number)
candidate_goes p text name candidate l zero call t room m callee low fits args enough = absurd (omega (arith, low))
candidate_goes p text name candidate l (suc n) call t room m callee low fits args enough =
    let f = l.function in
    let going = in_turns p (suc n) call t room m low in
    let fits_it = ap (λ (cs : List Class). call_fits call cs f.item.result) (sym l.is.params) ∙ ap (call_fits call (classes_in candidate.code.params)) (sym l.is.result) ∙ fits in
    candidate_entered p text name n candidate l call t room m (omega (arith, low)) args
    (entered p n l.number f call t room m l.here callee fits_it (subst HasRoom going enough)) going
