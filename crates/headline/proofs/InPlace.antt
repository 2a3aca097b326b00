-- Runs in a program: which calls they make, and that what goes so for less is performed as what it goes like.
use Rattle.std.proofs.Common.{◌≡◌, ℕ, ◌<◌, ◌≤◌, Bool, true, false, List, ◌++◌, refl, sym, ◌∙◌, subst, ap, arith, nat_lt, if◌then◌else◌, Option}
use Rattle.std.proofs.lemmas.Bool.Decides.{nat_tests}
use Rattle.il_ast.specs.declared.function.Func.{Func}
use Rattle.il_ast.specs.declared.operation.Class.{Class}
use Rattle.il_ast.specs.declared.program.InText.{InText}
use Rattle.il_ast.specs.declared.program.Program.{Program}
use Rattle.il_ast.specs.declared.value.Value.{Value}
use Rattle.il_ast.specs.declared.value.End.{End}
use Rattle.il_ast.specs.declared.value.End.TheVariants.{Exit, Halt, Undefined, Stack, Turns}
use Rattle.il_ast.specs.Prelude.{Memory, Spent, nothing, one_call, both, Outcome, Returned, Ended, Callees, begun, globals_of, callees, Given, Suits, KeepsCode, Coded, Keeps, IsCodeOf, classes_of}
use Rattle.il_ast.proofs.SameDepth.{SameBelow, same_run}
use Rattle.rv_isa.specs.Prelude.{State, Stop}
use Rattle.flat_code.specs.Flat.{Spots, Bases, Entries, ShowsResult, ShowsMemory, SameBlocks, FlatOutcome, FlatReturned, FlatEnded, flat_after, ShowsOutcome}
use Rattle.abi_frames.specs.Performs.{World, Performs, Returns, Stops, KeepsOn}
use Rattle.headline.specs.Executables.{body_of, IsCodeIn, below, calls_in}
use Rattle.vcode.specs.Prelude.{IsCheaper, GoesSo}
use Rattle.vcode.proofs.InPlace.{runs_stay, code_keeps_in, meaning_runs}

-- ---- the calls of a run

pub below_same : (n : ℕ) (f : Callees) (t : ℕ) → t ≤ n → SameBelow t f (below n f)
below_same n f t le call u room m low = by (nat_lt u n) (let less : u < n = omega (arith, low, le) in grind (arith, nat_tests))
  where
    by : (b : Bool) → b ≡ true → f call u room m ≡ (if b then f call u room m else Ended nothing Turns)
    by true e = refl
    by false e = absurd (let no : ⊥ = cc in no)

-- a body makes only such calls
pub same_body : (p : Program) (f : InText Func) (turns : ℕ) (i : Given) → i.turns ≤ turns → body_of p f (calls_in p turns) i ≡ body_of p f (callees p turns) i
same_body p f turns i low =
    sym
    (same_run (record { func = f.item; globals = globals_of p f.text }) (callees p turns) (calls_in p turns) i.room i.turns i.turns i.turns
    (below_same turns (callees p turns) i.turns low) (omega arith) (omega arith) i.turns (begun f.item i.args) i.memory (omega arith))

-- ---- what is performed for less is performed

cheaper_call : (t s : Spent) → IsCheaper t s → IsCheaper (both one_call t) (both one_call s)
cheaper_call t s h =
    let turns = h.turns in
    let weight = h.weight in
    let calls = h.calls in
    record { turns = omega (arith, turns); weight = omega (arith, weight); calls = omega (arith, calls); output = h.output }

returns_for : (w : World) (sp : ℕ) (wants : Option Class) (before : Spots) (u : State) (t s : Spent) (x : Option ℕ) (now : Spots) → IsCheaper t s → Returns w sp wants before u t x now → Returns w sp wants before u s x now
returns_for w sp wants before u t s x now h r =
    let turns = h.turns in
    let weight = h.weight in
    let calls = h.calls in
    let price = r.price in
    let pace = r.pace in
    record {
      steps = r.steps;
      after = r.after;
      comes = r.comes;
      price = omega (arith, weight, calls, price);
      pace = omega (arith, turns, pace);
      output = r.output ∙ ap (λ o. u.output ++ o) h.output;
      result = r.result;
      back = r.back;
    }

stops_for : (u : State) (t s : Spent) (stop : Stop) → IsCheaper t s → Stops u t stop → Stops u s stop
stops_for u t s stop h r =
    let weight = h.weight in
    let calls = h.calls in
    let price = r.price in
    record { steps = r.steps; last = r.last; stopped = r.stopped; price = omega (arith, weight, calls, price); output = r.output ∙ ap (λ o. u.output ++ o) h.output }

keeps_on_for : (u : State) (t s : Spent) → IsCheaper t s → KeepsOn u t → KeepsOn u s
keeps_on_for u t s h r =
    let turns = h.turns in
    let weight = h.weight in
    let calls = h.calls in
    let price = r.price in
    let pace = r.pace in
    record {
      steps = r.steps;
      after = r.after;
      comes = r.comes;
      price = omega (arith, weight, calls, price);
      pace = omega (arith, turns, pace);
      output = r.output ∙ ap (λ o. u.output ++ o) h.output;
    }

ends_for : (w : World) (sp : ℕ) (wants : Option Class) (before : Spots) (u : State) (t s : Spent) (e : End) → IsCheaper t s → Performs w sp wants before u (FlatEnded t e) → Performs w sp wants before u (FlatEnded s e)
ends_for w sp wants before u t s (Exit n) h r = stops_for u t s _ h r
ends_for w sp wants before u t s Halt h r = stops_for u t s _ h r
ends_for w sp wants before u t s Undefined h r = r
ends_for w sp wants before u t s Stack h r = r
ends_for w sp wants before u t s Turns h r = keeps_on_for u t s h r

-- what shows the outcome that o goes like, and is performed where what shows o is
pub record Shown (e : Entries) (w : World) (sp : ℕ) (p : Bases) (wants : Option Class) (before : Spots) (made : Memory) (q : Outcome) (r : FlatOutcome) : Type 0 where
  pub went : FlatOutcome
  pub shows : ShowsOutcome e p wants before made q went
  pub performs : (u : State) → Performs w sp wants before u (flat_after one_call r) → Performs w sp wants before u (flat_after one_call went)

pub shown_so : (e : Entries) (w : World) (sp : ℕ) (p : Bases) (wants : Option Class) (before : Spots) (made : Memory) (o q : Outcome) (r : FlatOutcome) → GoesSo o q → ShowsOutcome e p wants before made o r
    → Shown e w sp p wants before made q r
shown_so e w sp p wants before made (Returned t v m) (Returned s x n) (FlatReturned u y f) g h =
    let cheap : IsCheaper u s = subst (λ z. IsCheaper z s) (sym h.spent) g.0 in
    record {
      went = FlatReturned s y f;
      shows =
          record {
            spent = refl;
            suits = subst (λ (z : Option Value). Suits wants z) g.1 h.suits;
            result = subst (λ (z : Option Value). ShowsResult e p z y) g.1 h.result;
            memory = subst (λ (z : Memory). ShowsMemory e p z f) g.2 h.memory;
            reach = h.reach;
            blocks = subst (λ (z : Memory). SameBlocks made z) g.2 h.blocks;
          };
      performs = λ st. returns_for w sp wants before st (both one_call u) (both one_call s) y f (cheaper_call u s cheap);
    }
shown_so e w sp p wants before made (Returned t v m) (Returned s x n) (FlatEnded u y) g h = absurd h
shown_so e w sp p wants before made (Returned t v m) (Ended s f) r g h = absurd g
shown_so e w sp p wants before made (Ended t z) (Returned s x n) r g h = absurd g
shown_so e w sp p wants before made (Ended t z) (Ended s f) (FlatReturned u y k) g h = absurd h
shown_so e w sp p wants before made (Ended t z) (Ended s f) (FlatEnded u y) g h =
    let cheap : IsCheaper u s = subst (λ x. IsCheaper x s) (sym h.0) g.0 in
    record { went = FlatEnded s y; shows = (refl, h.1 ∙ g.1); performs = λ st. ends_for w sp wants before st (both one_call u) (both one_call s) y (cheaper_call u s cheap) }

-- ---- code of a function, in a program

pub code_is_in : (p : Program) (f : InText Func) (c : Coded) → IsCodeOf f.item c → IsCodeIn p f c
code_is_in p f c is =
    record {
      params = is.params;
      result = is.result;
      runs = λ turns. meaning_runs (calls_in p turns) turns (classes_of f.item.params) c.start (c.step (globals_of p f.text)) (body_of p f) (is.runs (globals_of p f.text));
    }

-- a pass that keeps the code stays with the function
pub stays_in : (p : Program) (f : InText Func) (c d : Coded) → IsCodeIn p f c → Keeps c d → IsCodeIn p f d
stays_in p f c d is keeps =
    let classes = keeps.params ∙ is.params in
    record {
      params = classes;
      result = keeps.result ∙ is.result;
      runs =
          λ turns. runs_stay (calls_in p turns) turns (classes_of f.item.params) c.start (c.step (globals_of p f.text)) d.start (d.step (globals_of p f.text)) (body_of p f) (is.runs turns)
          (code_keeps_in (calls_in p turns) turns (classes_of f.item.params) c.start (c.step (globals_of p f.text)) d.start (d.step (globals_of p f.text))
          (subst (λ (ks : List Class). KeepsCode ks c.start (c.step (globals_of p f.text)) d.start (d.step (globals_of p f.text))) is.params (keeps.runs (globals_of p f.text))));
    }
