-- The certificate of a list with one place for each register.
use Rattle.std.specs.Prelude.{ℕ, zero, suc, ◌+◌, Bool, nat_eq, if◌then◌else◌, List, [], ◌∷◌, ◌++◌, map, slice_get, Option, Some, None}
use Rattle.std.specs.List.{list_any}
use Rattle.std.specs.Option.{option_map_or}
use Rattle.bitset.specs.Bits.{Bits}
use Rattle.vcode.specs.declared.place.Location.{Location}
use Rattle.vcode.specs.declared.place.Location.TheVariants.{Slot}
use Rattle.vcode.specs.declared.place.Destination.{Destination}
use Rattle.vcode.specs.declared.code.Block.{Block}
use Rattle.vcode.specs.declared.code.Code.{Code}
use Rattle.cfg_live.specs.declared.uses.Uses.{Uses}
use Rattle.cfg_live.specs.Rows.{uses, holds}
use Rattle.certificates.specs.declared.certificate.Equality.{Equality}
use Rattle.certificates.specs.declared.certificate.Transfer.{Transfer}
use Rattle.certificates.specs.declared.certificate.Certificate.{Certificate}
pub use Rattle.cfg_live.specs.Numbering.{next_point, jump_point, end_point}

-- the register at its place, if the list has one
abbrev pub place_in : List Location → ℕ → List Equality
place_in list r =
    option_map_or (λ (q : Location). record { register = r; place = q } ∷ []) (slice_get list r) []

abbrev pub has : List Equality → ℕ → Bool
has es r = list_any (λ (e : Equality). nat_eq e.register r) es

-- each register once
abbrev pub with_place : List Location → List Equality → ℕ → List Equality
with_place list es r = if has es r then es else es ++ place_in list r

abbrev pub with_places : List Location → List Equality → List ℕ → List Equality
with_places list es [] = es
with_places list es (r ∷ rs) = with_places list (with_place list es r) rs

abbrev pub with_written : List Location → List Equality → Option ℕ → List Equality
with_written list es None = es
with_written list es (Some r) = with_place list es r

-- the places of what a point reads and writes
abbrev pub point_places : List Location → Uses → List Equality
point_places list u = with_written list (with_places list [] u.reads) u.writes

-- the places of the registers below a bound that are live right before point p
abbrev pub live_places : List Location → List Bits → (p registers : ℕ) → List Equality
live_places list rows p zero = []
live_places list rows p (suc r) =
    live_places list rows p r ++ (if holds rows p r then place_in list r else [])

abbrev pub listed_params : List Location → List (Destination ℕ) → List Location
listed_params list [] = []
listed_params list (d ∷ ds) =
    option_map_or (λ (q : Location). q ∷ []) (slice_get list d.place) [] ++ listed_params list ds

-- what is live where each block begins
abbrev pub listed_starts : List Location → List Bits → (registers p : ℕ) → List (Block ℕ) →
    List (List Equality)
listed_starts list rows registers p [] = []
listed_starts list rows registers p (b ∷ blocks) =
    live_places list rows p registers ∷ listed_starts list rows registers (jump_point p b.lines + 1)
    blocks

abbrev pub no_moves : Uses → List Transfer
no_moves u = []

-- a certificate before anything is listed
abbrev pub nothing_listed : Certificate
nothing_listed = record { params = []; everywhere = []; starts = []; moves = []; places = [] }

-- each register at its place everywhere, and where a block begins the live ones alone
abbrev pub listed : Code ℕ → ℕ → List Bits → List Location → Certificate
listed v registers rows list =
    record {
      params = listed_params list v.params;
      everywhere = [];
      starts = listed_starts list rows registers 0 v.blocks;
      moves = map no_moves (uses v.blocks);
      places = map (point_places list) (uses v.blocks);
    }

-- slot i for each register i below a bound
abbrev pub slots : ℕ → List Location
slots zero = []
slots (suc r) = slots r ++ Slot r ∷ []

-- each register in its slot
abbrev pub slotted : Code ℕ → ℕ → List Bits → Certificate
slotted v registers rows = listed v registers rows (slots registers)
