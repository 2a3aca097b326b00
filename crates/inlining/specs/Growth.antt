-- A function that grows by calls in place.
use Rattle.std.specs.Prelude.{◌≡◌, ℕ, ◌+◌, ◌<◌, not, ◌∷◌, map, length, take, drop, slice_get, Some, IsTrue, option_map}
use Rattle.std.specs.List.{list_all, list_any, sum_by}
use Rattle.il_ast.specs.declared.limits.TheConstants.{FUNCTION_WEIGHT}
use Rattle.il_ast.specs.Prelude.{same_classes, result_fits}
use Rattle.vcode.specs.declared.limits.TheConstants.{PLACES}
use Rattle.vcode.specs.declared.place.Destination.{Destination}
use Rattle.vcode.specs.declared.place.Argument.{Argument}
use Rattle.vcode.specs.declared.place.Operand.TheVariants.{Name}
use Rattle.vcode.specs.declared.line.Line.TheVariants.{Call}
use Rattle.vcode.specs.declared.code.Block.{Block}
use Rattle.vcode.specs.declared.function.VFunc.{VFunc}
use Rattle.vcode.specs.Prelude.{with_these, classes_in, is_paid, keeps_places, is_below, IsRegular, is_alloc, code_weight}
use Rattle.inlining.specs.declared.limits.TheConstants.{BLOCKS}
use Rattle.inlining.specs.declared.growth.Room.{Room}
use Rattle.inlining.specs.declared.growth.Growth.{Growth}
use Rattle.inlining.specs.declared.growth.Cut.{Cut}
use Rattle.inlining.specs.InPlace.{Site, candidate_block, up_to_call, behind_call, begins_turn, is_candidate, Candidates, Grows}

abbrev pub line_count : Block ℕ → ℕ
line_count b = length b.lines

-- the room that the candidate's code leaves, in a function with so many blocks, one of which, of so
-- many lines, is cut for it
pub record Takes (room : Room) (blocks cut : ℕ) (candidate : VFunc) (left : Room) : Type 0 where
  pub registers : left.registers ≡ room.registers + candidate.registers
  pub few : left.registers < PLACES
  pub low : blocks + length candidate.code.blocks < BLOCKS
  pub weight : code_weight candidate.code + left.weight_left ≡ room.weight_left
  pub lines :
      sum_by line_count candidate.code.blocks + length candidate.code.params + left.lines_left
      ≡ room.lines_left
  pub copies : cut + left.copies_left ≡ room.copies_left

-- the candidate takes what the call passes, gives what it wants, and has blocks
pub record Answers (candidate : VFunc) (s : Site) : Type 0 where
  pub classes :
      IsTrue (same_classes (map (λ (a : Argument ℕ). a.class) s.args) (classes_in candidate.code.params))
  pub result :
      IsTrue (result_fits (option_map (λ (d : Destination ℕ). d.class) s.to) candidate.code.result)
  pub calm : IsTrue (is_candidate candidate.code)
  pub begins : 0 < length candidate.code.blocks

-- line j of the block is the call; a turn begins before it, and no block of memory is made behind it
pub record StandsAt (j : ℕ) (s : Site) : Type 0 where
  pub call : slice_get s.block.lines j ≡ Some (Call s.to (Name s.name) s.args)
  pub turn : IsTrue (list_any begins_turn (take j s.block.lines))
  pub plain : IsTrue (not (list_any is_alloc (drop (j + 1) s.block.lines)))

-- what the call in place makes of its block, in a function with so many blocks; the ticks pay for
-- that
pub record IsMade (room : Room) (blocks : ℕ) (candidate : VFunc) (j : ℕ) (s : Site) (c : Cut) : Type 0
  where
    pub up_to : c.up_to ≡ up_to_call (blocks + 1) room.registers j candidate.code.params s
    pub behind : c.behind.items
        ≡ behind_call j s
        ∷ map (candidate_block (blocks + 1) blocks room.registers candidate.code.result s.to) candidate.code.blocks
    pub paid : IsTrue (is_paid c.up_to)
    pub all_paid : IsTrue (list_all is_paid c.behind.items)
    pub takes : Takes room blocks (length s.block.lines) candidate c.room

-- the block cut at a call of one of the candidates
pub record IsCut (candidates : Candidates) (g : Growth) (b : Block ℕ) (c : Cut) : Type 0 where
  pub candidate : VFunc
  pub line : ℕ
  pub site : Site
  pub block : site.block ≡ b
  pub named : slice_get candidates site.name ≡ Some (Some candidate)
  pub answers : Answers candidate site
  pub stands : StandsAt line site
  pub made : IsMade g.room (length g.blocks.items) candidate line site c

-- the blocks are what the function's become by calls in place, and code that there may be
pub record IsGrowth (candidates : Candidates) (v : VFunc) (g : Growth) : Type 0 where
  pub regular : IsRegular (with_these v.code g.blocks.items)
  pub light : code_weight (with_these v.code g.blocks.items) + g.room.weight_left ≡ FUNCTION_WEIGHT
  pub known : IsTrue (keeps_places (is_below g.room.registers) (with_these v.code g.blocks.items))
  pub few : g.room.registers < PLACES
  pub grows :
      Grows candidates v.code v.registers (with_these v.code g.blocks.items) g.room.registers
