-- Labelled code: the labels and sizes of its items, and what the code of a function keeps.
use Rattle.std.specs.Prelude.{ℕ, ◌+◌, ◌^◌, ◌<◌, ◌≤◌, Bool, true, false, nat_eq, nat_lt, if◌then◌else◌, IsTrue, List, [], ◌∷◌}
use Rattle.std.specs.List.{list_all}
use Rattle.rv_isa.specs.Types.{Item, Plain, Label, Goto, Call, Relocated}
use Rattle.rv_isa.specs.declared.labelled.Item.TheVariants.{Branch}

-- the items of a function, and how many labels they have
pub record LabelledItems : Type 0 where
  pub items : List Item
  pub labels : ℕ

-- ---- labels

-- the label l stands here
abbrev pub is_label : ℕ → Item → Bool
is_label l (Plain i) = false
is_label l (Label m) = nat_eq m l
is_label l (Branch op rs1 rs2 m) = false
is_label l (Goto m) = false
is_label l (Call n) = false
is_label l (Relocated r) = false

-- how often it stands in the code
abbrev pub times_labelled : ℕ → List Item → ℕ
times_labelled l [] = 0
times_labelled l (i ∷ items) = (if is_label l i then 1 else 0) + times_labelled l items

-- the label that stands here, or that is gone to from here, is below the count
abbrev pub has_label_below : ℕ → Item → Bool
has_label_below labels (Plain i) = true
has_label_below labels (Label l) = nat_lt l labels
has_label_below labels (Branch op rs1 rs2 l) = nat_lt l labels
has_label_below labels (Goto l) = nat_lt l labels
has_label_below labels (Call n) = true
has_label_below labels (Relocated r) = true

-- ---- sizes

-- the most words that an item takes
abbrev pub longest : Item → ℕ
longest (Plain i) = 1
longest (Label l) = 0
longest (Branch op rs1 rs2 l) = 3
longest (Goto l) = 2
longest (Call n) = 2
longest (Relocated r) = 1

abbrev pub longest_size : List Item → ℕ
longest_size [] = 0
longest_size (i ∷ items) = longest i + longest_size items

-- ---- what labelled code keeps

pub record IsLabelled (c : LabelledItems) : Type 0 where
  -- all labels are below the count, and none stands in the code twice
  pub labels : IsTrue (list_all (has_label_below c.labels) c.items)
  pub once : (l : ℕ) → times_labelled l c.items ≤ 1
  -- there is an item that is no label
  pub not_empty : 0 < longest_size c.items
  -- distances in bytes fit 32 bits with a sign
  pub near : longest_size c.items < 2 ^ 28
