-- Copies that are to be done at once, taken apart: the moves of one class between two temporaries,
-- and the rest. No public promise names what stands here.
use Rattle.std.specs.Prelude.{◌≡◌, ◌≢◌, ◌⊎◌, ℕ, ◌==◌, not, List, [], ◌∷◌, if◌then◌else◌, All, Any, AllPairs, count_by, ◌+◌, ◌/◌, ◌≤◌, nat_eq, ◌++◌, length, map, Option, Some, None}
use Rattle.phi_copies.specs.declared.moves.Move.{Move}
use Rattle.il_ast.specs.declared.operation.Class.{Class}
use Rattle.il_ast.specs.declared.operation.Class.TheVariants.{W, L}
use Rattle.il_ast.specs.declared.operand.Val.{Val}
use Rattle.il_ast.specs.declared.operand.Val.TheVariants.{Int, Temp, Global}
use Rattle.il_ast.specs.declared.block.Phi.{Phi}
use Rattle.il_ast.specs.Prelude.{same_class}
use Rattle.phi_copies.specs.declared.ending.Assignment.{Assignment}
use Rattle.phi_copies.specs.Source.{source}

-- ---- moves between numbered places, and what they leave there

-- what the places hold once the moves are done one after another
abbrev pub after : {X : Type 0} → (ℕ → X) → List Move → ℕ → X
after env [] p = env p
after env (m ∷ ms) p = after (λ q. if q == m.to then env m.from else env q) ms p

-- no two moves have one destination
abbrev pub HasDistinctDestinations : List Move → Type 0
HasDistinctDestinations moves = AllPairs (λ m n. m.to ≢ n.to) moves

-- no move names the place
abbrev pub IsUnnamed : ℕ → List Move → Type 0
IsUnnamed place moves = All (λ m. (m.to ≢ place) × (m.from ≢ place)) moves

-- Done one after another the moves `out` leave what `moves` leave when they are done at once: each
-- destination holds what its source held before, and no other place has changed but for scratch.
pub record DoesAtOnce {X : Type 0} (moves out : List Move) (scratch : ℕ) (env : ℕ → X) : Type 0
  where
    pub moved : All (λ m. after env out m.to ≡ env m.from) moves
    pub kept : (p : ℕ) → p ≢ scratch → All (λ m. m.to ≢ p) moves → after env out p ≡ env p

-- a move to one of the destinations of the moves from another place that they name; one of the two
-- may be scratch
abbrev pub IsBetween : List Move → ℕ → Move → Type 0
IsBetween moves scratch m =
    (m.to ≢ m.from)
    × ((m.to ≡ scratch) ⊎ Any (λ n. n.to ≡ m.to) moves)
    × ((m.from ≡ scratch) ⊎ Any (λ n. (n.to ≡ m.from) ⊎ (n.from ≡ m.from)) moves)

-- the moves read the place
abbrev pub IsRead : List Move → ℕ → Type 0
IsRead moves place = Any (λ m. m.from ≡ place) moves

-- each move reads a place that is known, or one that a move before it went to
abbrev pub ReadsKnown : (ℕ → Type 0) → List Move → Type 0
ReadsKnown known [] = Unit {0}
ReadsKnown known (m ∷ ms) = known m.from × ReadsKnown (λ p. (p ≡ m.to) ⊎ known p) ms

-- how many moves are between two places
abbrev pub proper_count : List Move → ℕ
proper_count moves = count_by (λ m. not (m.to == m.from)) moves

-- what the phis take from the block with this label
abbrev pub wanted : (from : ℕ) → Phi → Assignment
wanted from p = record { to = p.to; value = source from p }

-- ---- moves between two temporaries

abbrev pub move_to : ℕ → Val → Option Move
move_to t (Int n) = None
move_to t (Temp u) = if nat_eq u t then None else Some (record { to = t; from = u })
move_to t (Global g) = None

abbrev pub move_of : Assignment → Option Move
move_of c = move_to c.to.temp c.value

abbrev pub move_in : Class → Assignment → Option Move
move_in k c = if same_class c.to.class k then move_of c else None

abbrev pub in_front : Option Move → List Move → List Move
in_front None ms = ms
in_front (Some m) ms = m ∷ ms

abbrev pub moves_in : Class → List Assignment → List Move
moves_in k [] = []
moves_in k (c ∷ cs) = in_front (move_in k c) (moves_in k cs)

abbrev pub copy_of : Class → Move → Assignment
copy_of k m = record { to = record { temp = m.to; class = k }; value = Temp m.from }

-- ---- the rest

abbrev pub unless_moved : Option Move → Assignment → List Assignment → List Assignment
unless_moved None c cs = c ∷ cs
unless_moved (Some m) c cs = cs

abbrev pub rest_of : List Assignment → List Assignment
rest_of [] = []
rest_of (c ∷ cs) = unless_moved (move_of c) c (rest_of cs)

-- ---- in an order

-- the number of the first copy of a class, where they are numbered from n on
abbrev pub first_in : Class → ℕ → List Assignment → ℕ
first_in k n [] = n
first_in k n (c ∷ cs) = if same_class c.to.class k then n else first_in k (n + 1) cs

-- what `sequence` answers
pub record IsSequence (moves : List Move) (scratch : ℕ) (out : List Move) : Type 0 where
  pub at_once : (env : ℕ → ℕ) → DoesAtOnce moves out scratch env
  pub between : All (IsBetween moves scratch) out
  pub reads : ReadsKnown (IsRead moves) out
  pub few : length out ≤ proper_count moves + proper_count moves / 2

-- first the moves of words, then those of longs, then the rest
pub record IsInOrder (n : ℕ) (cs copies : List Assignment) : Type 0 where
  pub words : List Move
  pub longs : List Move
  pub are : copies ≡ map (copy_of W) words ++ (map (copy_of L) longs ++ rest_of cs)
  pub words_are : IsSequence (moves_in W cs) (first_in W n cs) words
  pub longs_are : IsSequence (moves_in L cs) (first_in L n cs) longs

-- moves of this class were put behind the other copies, in an order
abbrev pub AddsMoves : Class → ℕ → List Assignment → (before now : List Assignment) → Type 0
AddsMoves k scratch cs before now =
    (out : List Move) × (now ≡ before ++ map (copy_of k) out)
    × IsSequence (moves_in k cs) scratch out
