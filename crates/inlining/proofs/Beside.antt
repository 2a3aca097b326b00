-- Code with a call in place beside the code with the call: how it goes from a state, and what it has spent.
use Rattle.std.proofs.Common.{◌≡◌, ℕ, suc, ◌+◌, ◌≤◌, List, [], ◌∷◌, ◌++◌, slice_get, Some, None, refl, sym, ◌∙◌, ap, subst, arith, append_assoc, append-nil}
use Rattle.il_ast.specs.declared.value.Callee.{Callee}
use Rattle.il_ast.specs.declared.value.Value.{Value}
use Rattle.il_ast.specs.declared.value.Value.TheVariants.{Function}
use Rattle.il_ast.specs.Prelude.{Spent, nothing, one_call, both, Outcome, Callees, Next, On, Over, Event, Does, Calls, Entry, Asked, Given}
use Rattle.il_ast.proofs.Simulated.{LoggedFrom, step_back, call_back}
use Rattle.vcode.specs.declared.code.Code.{Code}
use Rattle.vcode.specs.Prelude.{Values, virtual, State, step, IsCheaper, GoesSo, HasRoom, RunsAs}
use Rattle.inlining.specs.InPlace.{Site, IsSite, in_place, IsCandidateOf}

-- ---- what is given

-- a call that may be done in place, how calls go, what the code is given, and how it goes with the call
pub record Setting : Type 0 where
  pub v : Code ℕ
  pub candidate : Code ℕ
  pub base : ℕ
  pub k : ℕ
  pub j : ℕ
  pub site : Site
  pub is : IsSite v candidate base k j site
  pub callees : Callees
  pub turns : ℕ
  pub globals : List Value
  pub callee : Callee
  pub named : slice_get globals site.name ≡ Some (Function callee)
  pub as_candidate : IsCandidateOf callees turns globals candidate callee
  pub given : Given
  pub low : given.turns ≤ turns
  pub o : Outcome
  pub room : HasRoom o

abbrev pub placed : Setting → Code ℕ
placed c = in_place c.v c.candidate c.base c.k c.j c.site

abbrev pub placed_step : Setting → State ℕ → Event (State ℕ) Asked Outcome
placed_step c = step virtual c.globals (placed c) c.given

-- ---- how the code goes with the call in place

-- from this state as with the call
abbrev pub Goes : Setting → State ℕ → Type 0
Goes c t = RunsAs c.callees (λ (i : Given). t) (step virtual c.globals (placed c)) c.given c.o

abbrev pub GoesNext : Setting → Next (State ℕ) Outcome → Type 0
GoesNext c (On t) = Goes c t
GoesNext c (Over p) = GoesSo p c.o

pub does_goes : (c : Setting) (t : State ℕ) (x : Next (State ℕ) Outcome) → placed_step c t ≡ Does x → GoesNext c x → Goes c t
does_goes c t (On u) e h =
    record { went = h.went; goes = h.goes; log = h.log; calls = h.calls; steps = suc h.steps; runs = step_back (placed_step c) t (On u) h.log h.went e h.steps h.runs }
does_goes c t (Over p) e h =
    record { went = p; goes = h; log = []; calls = tt; steps = suc 0; runs = step_back (placed_step c) t (Over p) [] p e 0 (refl, refl) }

-- a call that goes as calls do
abbrev pub IsGone : Callees → Entry Asked Outcome → Type 0
IsGone callees e = callees e.asked.call e.asked.turns e.asked.room e.asked.memory ≡ e.went

pub calls_goes : (c : Setting) (t : State ℕ) (a : Asked) (g : Outcome → Next (State ℕ) Outcome) (e : Entry Asked Outcome) → placed_step c t ≡ Calls a g → e.asked ≡ a → IsGone c.callees e
    → (x : Next (State ℕ) Outcome) → g e.went ≡ x → GoesNext c x → Goes c t
calls_goes c t a g e at same gone (On u) is h =
    record {
      went = h.went;
      goes = h.goes;
      log = e ∷ h.log;
      calls = (gone, h.calls);
      steps = suc h.steps;
      runs = call_back (placed_step c) t a g e h.log h.went at same h.steps
          (subst (λ (x : Next (State ℕ) Outcome). LoggedFrom (placed_step c) h.steps x h.log h.went) (sym is) h.runs);
    }
calls_goes c t a g e at same gone (Over p) is h =
    record {
      went = p;
      goes = h;
      log = e ∷ [];
      calls = (gone, tt);
      steps = suc 0;
      runs = call_back (placed_step c) t a g e [] p at same 0
          (subst (λ (x : Next (State ℕ) Outcome). LoggedFrom (placed_step c) 0 x [] p) (sym is) (refl, refl));
    }

-- ---- what was spent

pub cheaper_both : (a b x y : Spent) → IsCheaper a b → IsCheaper x y → IsCheaper (both a x) (both b y)
cheaper_both a b x y g h =
    let gw = g.weight in
    let hw = h.weight in
    let gc = g.calls in
    let hc = h.calls in
    record {
      turns = ap (λ k. k + x.turns) g.turns ∙ ap (λ k. b.turns + k) h.turns;
      weight = omega (arith, gw, hw);
      calls = omega (arith, gc, hc);
      output = ap (λ ks. ks ++ x.output) g.output ∙ ap (λ ks. b.output ++ ks) h.output;
    }

pub cheaper_turned : (a b x : Spent) → IsCheaper (both (both a b) x) (both a (both b x))
cheaper_turned a b x =
    record { turns = omega arith; weight = omega arith; calls = omega arith; output = append_assoc a.output b.output x.output }

pub cheaper_alone : (a : Spent) → IsCheaper a (both a nothing)
cheaper_alone a = record { turns = omega arith; weight = omega arith; calls = omega arith; output = sym (append-nil a.output) }

-- a call that isn't entered
pub cheaper_unentered : (a : Spent) → IsCheaper a (both one_call a)
cheaper_unentered a = record { turns = omega arith; weight = omega arith; calls = omega arith; output = refl }

-- ---- what is known of registers

-- nothing is known of registers from so far on
abbrev pub IsLow : ℕ → Values ℕ → Type 0
IsLow base values = (r : ℕ) → base ≤ r → values r ≡ None
