-- Runs of a body on both sides.
use Rattle.std.proofs.Common.{◌≡◌, ℕ, zero, suc, ◌-◌, ◌≤◌, List, [], ◌∷◌, map, length, replicate, refl, sym, ◌∙◌, ap, subst, arith, slice_get, slice_set, Option, Some, None, flat_map, option_map}
use Rattle.il_ast.specs.declared.operation.Size.{Size}
use Rattle.il_ast.specs.declared.operand.Dest.{Dest}
use Rattle.il_ast.specs.declared.function.Param.{Param}
use Rattle.il_ast.specs.declared.function.Func.{Func}
use Rattle.il_ast.specs.declared.value.Value.{Value}
use Rattle.il_ast.specs.declared.value.End.{End}
use Rattle.il_ast.specs.declared.value.End.TheVariants.{Exit, Halt, Undefined, Stack, Turns}
use Rattle.il_ast.specs.Prelude.{Memory, Locals, Activation, Call, Effect, Goes, Returns, Ends, assign, effect, Spent, one_turn, both, Outcome, Returned, Ended, after, Callees, Rest, receive, resume, perform, run, with_args, begun, body}
use Rattle.il_ast.specs.Effect.{Calls}
use Rattle.promote.specs.Uses.{param_mentions, block_mentions, mentions_of, Widths, Rewrites}
use Rattle.promote.proofs.Respect.{Respected, respected_first, respected_then}
use Rattle.promote.proofs.Hiding.{Marks, moved, moved_if, shown, IfClean, CleanAll, CleanMemory, Extends, made_later, places_later}
use Rattle.promote.proofs.Sides.{IfHeld, Sides, KeptHidden, sides_later}
use Rattle.promote.proofs.Instructions.{Setting, State, held_as, moved_call, DestPlain, suited_plain, kept_hidden, state_assign}
use Rattle.promote.proofs.Turns.{beside, EndsSo, TurnSo, turn_so}

-- a return, from a call with these marks and this memory
pub record BackSo (hs : Marks) (m : Memory) (s : Spent) (v : Option Value) (now : Memory) (o : Outcome) : Type 0 where
  pub marks : Marks
  pub is : o ≡ Returned s (moved_if marks v) (shown marks now)
  pub alike : length marks ≡ length now
  pub grown : Extends hs marks
  pub clean : CleanMemory marks now
  pub value : IfClean marks v
  pub kept : KeptHidden hs m now
  pub low : length m ≤ length now

abbrev pub EndedSo : Spent → End → Outcome → Type 0
EndedSo s (Exit n) o = o ≡ Ended s (Exit n)
EndedSo s Halt o = o ≡ Ended s Halt
EndedSo s Undefined o = Unit {0}
EndedSo s Stack o = Unit {0}
EndedSo s Turns o = o ≡ Ended s Turns

-- the second outcome goes with the first; nothing is owed where the run became undefined or ran out of stack
abbrev pub OutcomeSo : Marks → Memory → Outcome → Outcome → Type 0
OutcomeSo hs m (Returned s v now) o = BackSo hs m s v now o
OutcomeSo hs m (Ended s e) o = EndedSo s e o

-- calls go so, from all marks that extend these, where the second has as much room or more
abbrev pub CalleesSo : Marks → Callees → Callees → Type 0
CalleesSo base f g =
    (call : Call) (t room more : ℕ) (hs : Marks) (m : Memory)
    → room ≤ more
    → Extends base hs
    → length hs ≡ length m
    → CleanMemory hs m
    → CleanAll hs call.args
    → OutcomeSo hs m (f call t room m) (g (moved_call hs call) t more (shown hs m))

ended_after : (s t : Spent) (e : End) (o : Outcome) → EndedSo t e o → EndedSo (both s t) e (after s o)
ended_after s t (Exit n) o h = ap (after s) h
ended_after s t Halt o h = ap (after s) h
ended_after s t Undefined o h = tt
ended_after s t Stack o h = tt
ended_after s t Turns o h = ap (after s) h

pub outcome_after : (hs : Marks) (m : Memory) (s : Spent) (o p : Outcome) → OutcomeSo hs m o p → OutcomeSo hs m (after s o) (after s p)
outcome_after hs m s (Returned t v now) p h =
    record { marks = h.marks; is = ap (after s) h.is; alike = h.alike; grown = h.grown; clean = h.clean; value = h.value; kept = h.kept; low = h.low }
outcome_after hs m s (Ended t e) p h = ended_after s t e p h

-- what is said of an end holds of the outcome that ends so
ended_by : (s : Spent) (e : End) (f : Effect → Outcome) (x : Effect) → f (Ends e) ≡ Ended s e → EndsSo e x → EndedSo s e (f x)
ended_by s (Exit n) f x is h = ap f h ∙ is
ended_by s Halt f x is h = ap f h ∙ is
ended_by s Undefined f x is h = tt
ended_by s Stack f x is h = tt
ended_by s Turns f x is h = ap f h ∙ is

-- ---- runs

-- how a body goes on, from every state
abbrev RestSo : Setting → Rest → Rest → Type 0
RestSo c f g =
    (t : ℕ) (hs : Marks) (m : Memory) (a : Activation) (us : List (Option Value))
    → State c hs m a.locals.temps us a.locals.owned
    → OutcomeSo c.marks c.memory (f t a m) (g t (beside hs a us) (shown hs m))

-- the state after a call
state_back : (c : Setting) (hs ks : Marks) (m now : Memory) (ts us : List (Option Value)) (owned : List ℕ) → State c hs m ts us owned → Extends hs ks → KeptHidden hs m now → CleanMemory ks now → length ks ≡ length now → length m ≤ length now → State c ks now ts us owned
state_back c hs ks m now ts us owned st grown kept clean alike low =
    let before = st.low in
    record {
      alike = alike;
      grown = λ b x e. grown b x (st.grown b x e);
      clean = clean;
      kept = kept_hidden c hs m now st.grown st.kept kept;
      low = omega (arith, before, low);
      mine = made_later hs ks (length c.memory) owned grown st.mine;
      sides = sides_later c.widths hs ks (length c.memory) m now ts us grown kept st.sides;
    }

receive_so : (c : Setting) (f g : Rest) → RestSo c f g → (t : ℕ) (to : Option Dest) (a : Activation) (us : List (Option Value)) (hs : Marks) (m : Memory) (v : Option Value) → State c hs m a.locals.temps us a.locals.owned → DestPlain c.widths to → IfClean hs v → OutcomeSo c.marks c.memory (receive f t to a v m) (receive g t to (beside hs a us) (moved_if hs v) (shown hs m))
receive_so c f g h t None a us hs m v st plain clean = h t hs m a us st
receive_so c f g h t (Some d) a us hs m None st plain clean = tt
receive_so c f g h t (Some d) a us hs m (Some v) st plain clean =
    h t hs m (record a { locals = assign a.locals d.temp v }) (slice_set us d.temp (Some (moved hs v)))
    (state_assign c hs m a.locals.temps us a.locals.owned d.temp v st plain clean)

-- with more marks the activation holds the same on the other side
beside_later : (c : Setting) (hs ks : Marks) (m : Memory) (a : Activation) (us : List (Option Value)) → State c hs m a.locals.temps us a.locals.owned → Extends hs ks → beside hs a us ≡ beside ks a us
beside_later c hs ks m a us st grown =
    ap (λ ns. at_same a (held_as us ns)) (sym (places_later hs ks (length c.memory) a.locals.owned grown st.mine))
  where
    at_same : Activation → Locals → Activation
    at_same a here = record { block = a.block; next = a.next; locals = here }

resume_so : (c : Setting) (f g : Rest) → RestSo c f g → (t : ℕ) (to : Option Dest) (a : Activation) (us : List (Option Value)) (hs : Marks) (m : Memory) (o p : Outcome) → State c hs m a.locals.temps us a.locals.owned → DestPlain c.widths to → OutcomeSo hs m o p → OutcomeSo c.marks c.memory (resume f t to a o) (resume g t to (beside hs a us) p)
resume_so c f g h t to a us hs m (Returned s v now) p st plain x =
    subst (λ q. OutcomeSo c.marks c.memory (after s (receive f (t - s.turns) to a v now)) (resume g t to (beside hs a us) q)) (sym x.is)
    (subst (λ b. OutcomeSo c.marks c.memory (after s (receive f (t - s.turns) to a v now)) (after s (receive g (t - s.turns) to b (moved_if x.marks v) (shown x.marks now))))
    (sym (beside_later c hs x.marks m a us st x.grown))
    (outcome_after c.marks c.memory s (receive f (t - s.turns) to a v now) (receive g (t - s.turns) to (beside x.marks a us) (moved_if x.marks v) (shown x.marks now))
    (receive_so c f g h (t - s.turns) to a us x.marks now v
    (state_back c hs x.marks m now a.locals.temps us a.locals.owned st x.grown x.kept x.clean x.alike x.low) plain x.value)))
resume_so c f g h t to a us hs m (Ended s (Exit n)) p st plain x = ap (resume g t to (beside hs a us)) x
resume_so c f g h t to a us hs m (Ended s Halt) p st plain x = ap (resume g t to (beside hs a us)) x
resume_so c f g h t to a us hs m (Ended s Undefined) p st plain x = tt
resume_so c f g h t to a us hs m (Ended s Stack) p st plain x = tt
resume_so c f g h t to a us hs m (Ended s Turns) p st plain x = ap (resume g t to (beside hs a us)) x

perform_so : (c : Setting) (base : Marks) (cs ds : Callees) (room more : ℕ) (f g : Rest) → room ≤ more → Extends base c.marks → CalleesSo base cs ds → RestSo c f g → (t : ℕ) (hs : Marks) (m : Memory) (us : List (Option Value)) (e e2 : Effect) → length hs ≡ length m → CleanMemory hs m → Extends c.marks hs → TurnSo c hs m us e e2 → OutcomeSo c.marks c.memory (perform cs room f t m e) (perform ds more g t (shown hs m) e2)
perform_so c base cs ds room more f g le from callees h t hs m us (Goes w a now) e2 alike clean grown x =
    subst (λ y. OutcomeSo c.marks c.memory (after (one_turn w) (f t a now)) (perform ds more g t (shown hs m) y)) (sym x.is)
    (outcome_after c.marks c.memory (one_turn w) (f t a now) (g t (beside x.marks a x.temps) (shown x.marks now)) (h t x.marks now a x.temps x.state))
perform_so c base cs ds room more f g le from callees h t hs m us (Calls w call to a) e2 alike clean grown x =
    subst (λ y. OutcomeSo c.marks c.memory (after (one_turn w) (resume f t to a (cs call t room m))) (perform ds more g t (shown hs m) y)) (sym x.is)
    (outcome_after c.marks c.memory (one_turn w) (resume f t to a (cs call t room m)) (resume g t to (beside hs a us) (ds (moved_call hs call) t more (shown hs m)))
    (resume_so c f g h t to a us hs m (cs call t room m) (ds (moved_call hs call) t more (shown hs m)) x.state x.plain
    (callees call t room more hs m le (λ b y e. grown b y (from b y e)) alike clean x.args)))
perform_so c base cs ds room more f g le from callees h t hs m us (Returns v now) e2 alike clean grown x =
    record {
      marks = x.marks;
      is = ap (perform ds more g t (shown hs m)) x.is;
      alike = x.left.alike;
      grown = x.left.grown;
      clean = x.left.clean;
      value = x.clean;
      kept = x.left.kept;
      low = x.left.low;
    }
perform_so c base cs ds room more f g le from callees h t hs m us (Ends e) e2 alike clean grown x =
    ended_by (one_turn 1) e (perform ds more g t (shown hs m)) e2 refl x

pub run_so : (c : Setting) (f g : Func) (base : Marks) (cs ds : Callees) (room more : ℕ) → room ≤ more → Rewrites c.widths f g → Respected c.widths (mentions_of f) → Extends base c.marks → CalleesSo base cs ds → (k : ℕ) → RestSo c (run (record { func = f; globals = c.globals }) cs room k) (run (record { func = g; globals = c.globals }) ds more k)
unfolding run
run_so c f g base cs ds room more le r h from callees zero t hs m a us st = refl
run_so c f g base cs ds room more le r h from callees (suc k) zero hs m a us st = refl
run_so c f g base cs ds room more le r h from callees (suc k) (suc t) hs m a us st =
    perform_so c base cs ds room more (run (record { func = f; globals = c.globals }) cs room k) (run (record { func = g; globals = c.globals }) ds more k) le from callees
    (run_so c f g base cs ds room more le r h from callees k) t hs m us (effect (record { func = f; globals = c.globals }) a m)
    (effect (record { func = g; globals = c.globals }) (beside hs a us) (shown hs m)) st.alike st.clean st.grown (turn_so c f g hs m a us r h st)

-- ---- the begin of a call

none_there : (n t : ℕ) (y : Option Value) → slice_get (replicate n None) t ≡ Some y → y ≡ None
none_there zero t y e = absurd (let no : ⊥ = cc in no)
none_there (suc n) zero y e = cc
none_there (suc n) (suc t) y e = none_there n t y e

none_clean : (hs : Marks) (y : Option Value) → y ≡ None → IfClean hs y
none_clean hs y e = subst (IfClean hs) (sym e) tt

none_held : (hs : Marks) (first : ℕ) (m : Memory) (w : Widths) (n t : ℕ) (y : Option Value) (k : List (Option Value)) → y ≡ None → (s : Size) → IfHeld hs first m s y (slice_get k t)
none_held hs first m w n t y k e s = subst (λ x. IfHeld hs first m s x (slice_get k t)) (sym e) tt

none_moved : (hs : Marks) (n t : ℕ) → slice_get (replicate n None) t ≡ option_map (moved_if hs) (slice_get (replicate n None) t)
none_moved hs zero t = refl
none_moved hs (suc n) zero = refl
none_moved hs (suc n) (suc t) = none_moved hs n t

begin_sides : (w : Widths) (hs : Marks) (m : Memory) (n : ℕ) → Sides w hs (length m) m (replicate n None) (replicate n None)
begin_sides w hs m n =
    record {
      long = refl;
      same = λ t e. none_moved hs n t;
      clean = λ t y e g. none_clean hs y (none_there n t y g);
      held = λ t s y e g. none_held hs (length m) m w n t y (replicate n None) (none_there n t y g) s;
      apart = λ t r s q v e f g h. let none : Some v ≡ None = none_there n t (Some v) g in absurd (let no : ⊥ = cc in no);
    }

args_state : (c : Setting) (hs : Marks) (m : Memory) (ts us : List (Option Value)) (owned : List ℕ) (ps : List Param) (vs : List Value) → State c hs m ts us owned → Respected c.widths (flat_map param_mentions ps) → CleanAll hs vs → State c hs m (with_args ts ps vs) (with_args us ps (map (moved hs) vs)) owned
args_state c hs m ts us owned [] vs st h k = st
args_state c hs m ts us owned (p ∷ ps) [] st h k = st
args_state c hs m ts us owned (p ∷ ps) (v ∷ vs) st h k =
    args_state c hs m (slice_set ts p.temp (Some v)) (slice_set us p.temp (Some (moved hs v))) owned ps vs
    (state_assign c hs m ts us owned p.temp v st (suited_plain c.widths p.temp h.0) k.0)
    (respected_then c.widths (param_mentions p) (flat_map param_mentions ps) h) k.1

begin_state : (c : Setting) (n : ℕ) → CleanMemory c.marks c.memory → State c c.marks c.memory (replicate n None) (replicate n None) []
begin_state c n clean =
    record {
      alike = c.alike;
      grown = λ b x e. e;
      clean = clean;
      kept = λ b e. refl;
      low = omega arith;
      mine = tt;
      sides = begin_sides c.widths c.marks c.memory n;
    }

begun_same : (w : Widths) (f g : Func) (args : List Value) → Rewrites w f g → begun g args ≡ begun f args
begun_same w f g args r =
    ap (λ (ps : List Param). record { block = 0; next = 0; locals = held_as (with_args (replicate (length g.temps) None) ps args) [] }) r.params
    ∙ ap (λ (n : ℕ). record { block = 0; next = 0; locals = held_as (with_args (replicate n None) f.params args) [] }) (ap length r.temps)

pub body_so : (c : Setting) (f g : Func) (base : Marks) (cs ds : Callees) (t room more : ℕ) (args : List Value) → room ≤ more → Rewrites c.widths f g → Respected c.widths (mentions_of f) → Extends base c.marks → CalleesSo base cs ds → CleanMemory c.marks c.memory → CleanAll c.marks args → OutcomeSo c.marks c.memory (body (record { func = f; globals = c.globals }) cs t room args c.memory) (body (record { func = g; globals = c.globals }) ds t more (map (moved c.marks) args) (shown c.marks c.memory))
body_so c f g base cs ds t room more args le r h from callees clean given =
    subst (λ a. OutcomeSo c.marks c.memory (run (record { func = f; globals = c.globals }) cs room t t (begun f args) c.memory) (run (record { func = g; globals = c.globals }) ds more t t a (shown c.marks c.memory)))
    (sym (begun_same c.widths f g (map (moved c.marks) args) r))
    (run_so c f g base cs ds room more le r h from callees t t c.marks c.memory (begun f args) (with_args (replicate (length f.temps) None) f.params (map (moved c.marks) args))
    (args_state c c.marks c.memory (replicate (length f.temps) None) (replicate (length f.temps) None) [] f.params args (begin_state c (length f.temps) clean)
    (respected_first c.widths (flat_map param_mentions f.params) (flat_map block_mentions f.blocks) h) given))
