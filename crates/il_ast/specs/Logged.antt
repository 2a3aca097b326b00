-- Runs of a code, with the list of the calls that it makes: what each asks and how it goes are
-- given, as data.
use Rattle.std.specs.Prelude.{◌≡◌, ℕ, zero, suc, List, [], ◌∷◌}

-- what comes after a step, or after a call: another state, or how the run goes
pub data Next (S O : Type 0) : Type 0 where
  On : S → Next S O
  Over : O → Next S O

-- what a code does in a step: it goes on by itself, or it makes a call and goes on by how that goes
pub data Event (S I O : Type 0) : Type 0 where
  Does : Next S O → Event S I O
  Calls : I → (O → Next S O) → Event S I O

-- a call that is made: what it asks, and how it goes
pub record Entry (I O : Type 0) : Type 0 where
  pub asked : I
  pub went : O

-- the run goes on from a state, or it is over, as o and without a further call
abbrev pub LoggedNext : {S I O : Type 0} → (S → List (Entry I O) → Type 0) → O → Next S O →
    List (Entry I O) → Type 0
LoggedNext go o (On s) log = go s log
LoggedNext go o (Over p) log = (p ≡ o) × (log ≡ [])

-- a call is the next one of the list
abbrev pub LoggedEvent : {S I O : Type 0} → (S → List (Entry I O) → Type 0) → O → Event S I O →
    List (Entry I O) → Type 0
LoggedEvent go o (Does n) log = LoggedNext go o n log
LoggedEvent go o (Calls i k) [] = ⊥
LoggedEvent go o (Calls i k) (e ∷ log) = (e.asked ≡ i) × LoggedNext go o (k e.went) log

-- within n steps the code makes just the calls of the list, in order, and goes as o
unfoldable pub Logged : {S I O : Type 0} → (S → Event S I O) → ℕ → S → List (Entry I O) → O → Type 0
Logged step zero s log o = ⊥
Logged step (suc n) s log o = LoggedEvent (λ t rest. Logged step n t rest o) o (step s) log
