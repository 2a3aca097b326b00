-- What is true while moves are put in an order, from the last to the first.
use Rattle.std.specs.Prelude.{◌≡◌, ◌≢◌, ◌⊎◌, [], ℕ, ◌+◌, ◌*◌, ◌<◌, ◌≤◌, Bool, true, false, not, if◌then◌else◌, ◌==◌, List, length, reverse, Option, Some, None, All, count_by, slice_index_or}
use Rattle.phi_copies.specs.Together.{after, IsBetween, IsRead, ReadsKnown, proper_count}
use Rattle.phi_copies.specs.declared.moves.Move.{Move}

abbrev pub no_move : Move
no_move = record { to = 0; from = 0 }

abbrev pub to_of : List Move → ℕ → ℕ
to_of ms i = (slice_index_or ms i no_move).to

abbrev pub from_of : List Move → ℕ → ℕ
from_of ms i = (slice_index_or ms i no_move).from

abbrev pub is_placed : List Bool → ℕ → Bool
is_placed placed i = slice_index_or placed i false

-- what a caller gives, by places in the list
pub record Given (ms : List Move) (scratch : ℕ) : Type 0 where
  pub distinct : (i j : ℕ) → i < length ms → j < length ms → to_of ms i ≡ to_of ms j → i ≡ j
  pub to_free : (i : ℕ) → i < length ms → to_of ms i ≢ scratch
  pub from_free : (i : ℕ) → i < length ms → from_of ms i ≢ scratch

-- where a placed move finds its value: the open one finds it in the scratch place
abbrev pub source : List Move → ℕ → Option ℕ → ℕ → ℕ
source ms scratch None i = from_of ms i
source ms scratch (Some z) i = if i == z then scratch else from_of ms i

-- seq does the placed moves as if at once
pub record Holds (ms : List Move) (scratch : ℕ) (open' : Option ℕ) (placed : List Bool)
    (seq : List Move) (env : ℕ → ℕ) : Type 0 where
  pub moved : (i : ℕ) → i < length ms → is_placed placed i ≡ true →
      after env seq (to_of ms i) ≡ env (source ms scratch open' i)
  pub kept : (p : ℕ) → p ≢ scratch → ((i : ℕ) → i < length ms → is_placed placed i ≡ true →
      to_of ms i ≢ p) → after env seq p ≡ env p

-- what a placed move reads is written by a placed one or by none, the open move aside
abbrev pub Closed : List Move → Option ℕ → List Bool → Type 0
Closed ms open' placed =
    (i b : ℕ) → i < length ms → is_placed placed i ≡ true → b < length ms →
    to_of ms b ≡ from_of ms i → (is_placed placed b ≡ true) ⊎ (open' ≡ Some i)

-- a place that is read from outside: by one of the moves, or by the open one in scratch
abbrev pub Known : List Move → ℕ → Option ℕ → ℕ → Type 0
Known ms scratch None p = IsRead ms p
Known ms scratch (Some z) p = (p ≡ scratch) ⊎ IsRead ms p

-- what is true of the moves in `out`, which go from its end, and of those that are placed
pub record State (ms : List Move) (scratch : ℕ) (open' : Option ℕ) (placed : List Bool)
    (out : List Move) : Type 0 where
  pub holds : (env : ℕ → ℕ) → Holds ms scratch open' placed (reverse out) env
  pub closed : Closed ms open' placed
  pub selves : (i : ℕ) → i < length ms → to_of ms i ≡ from_of ms i → is_placed placed i ≡ true
  pub size : length placed ≡ length ms
  pub between : All (IsBetween ms scratch) out
  pub reads : ReadsKnown (Known ms scratch open') (reverse out)

-- how many moves wait
abbrev pub waiting_count : List Bool → ℕ
waiting_count placed = count_by not placed

-- three moves for two are enough so far, with some to spare
abbrev pub IsFew : List Move → List Bool → List Move → ℕ → Type 0
IsFew ms placed out spare = 2 * length out + 3 * waiting_count placed + spare ≤ 3 * proper_count ms

abbrev pub at : List ℕ → ℕ → ℕ
at path t = slice_index_or path t 0

-- The way from a move to the one that writes what it reads, and so on, over moves that wait.
pub record Way (ms : List Move) (placed : List Bool) (path : List ℕ) : Type 0 where
  pub range : (t : ℕ) → t < length path → at path t < length ms
  pub waiting : (t : ℕ) → t < length path → is_placed placed (at path t) ≡ false
  pub distinct : (s t : ℕ) → s < t → t < length path → at path s ≢ at path t
  pub chain : (t : ℕ) → t + 1 < length path → to_of ms (at path (t + 1)) ≡ from_of ms (at path t)

-- what has been visited is placed or on the way
pub record Seen (ms : List Move) (visited placed : List Bool) (path : List ℕ) : Type 0 where
  pub seen : (t : ℕ) → t < length path → is_placed visited (at path t) ≡ true
  pub all : (i : ℕ) → i < length ms → is_placed visited i ≡ true → is_placed placed i ≡ false →
      (t : ℕ) × (t < length path) × (at path t ≡ i)
  pub placed_seen : (i : ℕ) → i < length ms → is_placed placed i ≡ true → is_placed visited i ≡ true

-- one of the first n moves, or none, goes to the place
abbrev pub IsWritten : List Move → ℕ → ℕ → Option ℕ → Type 0
IsWritten ms place n None = (b : ℕ) → b < n → to_of ms b ≢ place
IsWritten ms place n (Some b) = (b < n) × (to_of ms b ≡ place)

-- the move, or none, that writes what the end of the way reads
abbrev pub Leads : List Move → List ℕ → Option ℕ → Type 0
Leads ms path next =
    (t : ℕ) → t + 1 ≡ length path → IsWritten ms (from_of ms (at path t)) (length ms) next

-- no move that waits writes what the end of the way reads
abbrev pub Settled : List Move → List Bool → List ℕ → Type 0
Settled ms placed path =
    (t : ℕ) → t + 1 ≡ length path → (b : ℕ) → b < length ms → to_of ms b ≡ from_of ms (at path t) →
    is_placed placed b ≡ true

-- whatever order was right before is right afterwards
abbrev pub Keeps : List Move → List Bool → List Move → List Bool → List Move → Type 0
Keeps ms placed out placed' out' =
    (scratch : ℕ) → Given ms scratch → State ms scratch None placed out →
    State ms scratch None placed' out'

-- what holds once a part of a way is placed, of the rest of it
pub record Open (ms : List Move) (scratch : ℕ) (placed : List Bool) (path : List ℕ)
    (placed' : List Bool) (path' : List ℕ) (out' : List Move) : Type 0 where
  pub way : Way ms placed' path'
  pub settled : Settled ms placed' path'
  pub state : State ms scratch None placed' out'
  pub few : IsFew ms placed' out' 0
  pub seen : (visited : List Bool) → Seen ms visited placed path → Seen ms visited placed' path'

-- the move at which a way ends is placed, or on the way
abbrev pub Ends : List Move → List Bool → List ℕ → Option ℕ → Type 0
Ends ms placed path None = Unit {0}
Ends ms placed path (Some c) =
    (c < length ms) × (is_placed placed c ≡ false → (t : ℕ) × (t < length path) × (at path t ≡ c))

-- what holds once the ways from the first moves are placed
pub record Sequencing (ms : List Move) (scratch : ℕ) (visited placed : List Bool) (path : List ℕ)
    (out : List Move) (start : ℕ) : Type 0 where
  pub state : State ms scratch None placed out
  pub few : IsFew ms placed out 0
  pub same : visited ≡ placed
  pub empty : path ≡ []
  pub reached : (i : ℕ) → i < start → is_placed visited i ≡ true
