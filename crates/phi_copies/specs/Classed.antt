-- Classes of temporaries, and which operands and copies fit them.
use Rattle.std.specs.Prelude.{◌≡◌, ℕ, ◌+◌, List, [], ◌∷◌}
use Rattle.il_ast.specs.declared.operation.Class.{Class}
use Rattle.il_ast.specs.declared.operation.Class.TheVariants.{W, L}
use Rattle.il_ast.specs.declared.operand.Val.{Val}
use Rattle.il_ast.specs.declared.operand.Val.TheVariants.{Int, Temp, Global}
use Rattle.il_ast.specs.declared.operand.Dest.{Dest}
use Rattle.il_ast.specs.declared.block.Phi.{Phi}
use Rattle.phi_copies.specs.declared.ending.Assignment.{Assignment}
use Rattle.phi_copies.specs.Source.{source}

-- the class of each temporary
abbrev pub Classes : Type 0
Classes = ℕ → Class

-- a long place takes no word
abbrev pub Fits : Classes → Class → Val → Type 0
Fits classes W a = Unit {0}
Fits classes L (Int n) = Unit {0}
Fits classes L (Temp t) = classes t ≡ L
Fits classes L (Global g) = Unit {0}

abbrev pub Takes : Classes → Dest → Type 0
Takes classes d = classes d.temp ≡ d.class

abbrev pub CopiesFit : Classes → List Assignment → Type 0
CopiesFit classes [] = Unit {0}
CopiesFit classes (c ∷ cs) =
    Takes classes c.to × Fits classes c.to.class c.value × CopiesFit classes cs

-- so do phis, entered from the block with this label, whose own temporaries are numbered from n
abbrev pub PhisFit : Classes → (from n : ℕ) → List Phi → Type 0
PhisFit classes from n [] = Unit {0}
PhisFit classes from n (p ∷ ps) =
    (classes n ≡ p.to.class)
    × Takes classes p.to
    × Fits classes p.to.class (source from p)
    × PhisFit classes from (n + 1) ps
