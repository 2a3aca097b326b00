-- The cells that marks stand for, with the values beside them.
use Rattle.std.specs.Prelude.{ℕ, List, [], ◌∷◌, ◌≡◌}
use Rattle.il_ast.specs.declared.value.Value.{Value}
use Rattle.il_ast.specs.declared.value.Value.TheVariants.{Integer}
use Rattle.il_ast.specs.declared.value.Cell.{Cell}
use Rattle.il_ast.specs.declared.value.Cell.TheVariants.{Plain as PlainCell, Part as PartCell, Blank as BlankCell}
use Rattle.il_mem.specs.declared.block.Mark.{Mark}
use Rattle.il_mem.specs.declared.block.Mark.TheVariants.{Plain, Part, Blank}

-- the cell of a mark, beside which this value stands
abbrev pub cell_of : Mark → Value → Cell
cell_of Blank v = BlankCell
cell_of (Plain b) v = PlainCell b
cell_of (Part i) v = PartCell v i

-- beside a mark past the end of the values stands the integer 0
abbrev pub joined : List Mark → List Value → List Cell
joined [] values = []
joined (m ∷ marks) [] = cell_of m (Integer 0) ∷ joined marks []
joined (m ∷ marks) (v ∷ values) = cell_of m v ∷ joined marks values

-- cells of which the first ones are these bytes
abbrev pub overlaid : List ℕ → List Cell → List Cell
overlaid [] cells = cells
overlaid (b ∷ bytes) [] = []
overlaid (b ∷ bytes) (c ∷ cells) = PlainCell b ∷ overlaid bytes cells

-- ---- lists of values that show the same cells
abbrev pub ShowsSame : List Value → List Value → Type 0
ShowsSame old new = (marks : List Mark) → joined marks new ≡ joined marks old
