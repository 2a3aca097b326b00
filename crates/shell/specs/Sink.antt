-- What goes into a sink, and how often it failed.
use Rattle.std.specs.Prelude.{◌≡◌, ◌≤◌, ℕ, ◌+◌, ◌-◌, ◌^◌, ◌++◌, ◌&&◌, ◌==◌, nat_lt, Bool, true, if◌then◌else◌, List, [], ◌∷◌, length, take, Option, Result, Ok, Err}
use Rattle.std.specs.List.{concat}
use Rattle.std.specs.Io.KnownBytes.{Appends}
use Rattle.shell.specs.declared.sink.SinkFault.{SinkFault}

-- what a sink tells at one time: the bytes that it holds, where it tells them, and how many of its
-- calls failed
pub record SinkState : Type 0 where
  pub held : Option (List ℕ)
  pub faults : ℕ

-- the greatest number of failed calls that is told apart
abbrev pub most_faults : ℕ
most_faults = 2 ^ 64 - 1

-- how many calls failed, after one more that did
abbrev pub one_more : ℕ → ℕ
one_more faults = if nat_lt faults most_faults then faults + 1 else faults

-- ---- one call

-- these bytes went out, where the sink tells its bytes
abbrev pub Went : Option (List ℕ) → Option (List ℕ) → List ℕ → Type 0
Went old new bytes = Appends old new bytes

-- a call takes as many of the bytes as it answers, the first ones; at a fault none
abbrev pub Puts : (old new : SinkState) → List ℕ → Result ℕ SinkFault → Type 0
Puts old new bytes (Ok count) = (count ≤ length bytes) × Went old.held new.held (take count bytes)
Puts old new bytes (Err fault) = Went old.held new.held []

-- a call failed that met a fault, or took none of some bytes
abbrev pub failed_call : List ℕ → Result ℕ SinkFault → Bool
failed_call bytes (Ok count) = nat_lt 0 (length bytes) && count == 0
failed_call bytes (Err fault) = true

-- how many calls failed, after this one
abbrev pub counted : ℕ → List ℕ → Result ℕ SinkFault → ℕ
counted faults bytes answer = if failed_call bytes answer then one_more faults else faults

-- ---- calls one after another

-- all of these bytes went out, and no call failed
pub record Sends (old new : SinkState) (bytes : List ℕ) : Type 0 where
  pub went : Went old.held new.held bytes
  pub clean : new.faults ≡ old.faults

-- a call failed after the first of these bytes, so many
pub record Stops (old new : SinkState) (bytes : List ℕ) (count : ℕ) : Type 0 where
  pub fits : count ≤ length bytes
  pub went : Went old.held new.held (take count bytes)
  pub fault : new.faults ≡ one_more old.faults

-- the parts before one of these went out, and a call failed after the first bytes of that one, so
-- many
pub record StopsIn (old new : SinkState) (parts : List (List ℕ)) (count : ℕ) : Type 0 where
  pub before : List (List ℕ)
  pub part : List ℕ
  pub after : List (List ℕ)
  pub are : parts ≡ before ++ part ∷ after
  pub fits : count ≤ length part
  pub went : Went old.held new.held (concat before ++ take count part)
  pub fault : new.faults ≡ one_more old.faults

-- a beginning of these bytes went out, and then a call failed
pub record Breaks (old new : SinkState) (bytes : List ℕ) : Type 0 where
  pub sent : List ℕ
  pub unsent : List ℕ
  pub are : bytes ≡ sent ++ unsent
  pub went : Went old.held new.held sent
  pub fault : new.faults ≡ one_more old.faults

-- all of these bytes went out, or a beginning of them did and then a call failed
pub data Tells (old new : SinkState) (bytes : List ℕ) : Type 0 where
  whole : Sends old new bytes → Tells old new bytes
  broken : Breaks old new bytes → Tells old new bytes
