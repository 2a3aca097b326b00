-- A definition that is referred to, as the definition itself.
use Rattle.std.specs.Borrow.{Bor}
use Rattle.il_ast.specs.declared.program.InText.{InText}

abbrev pub shown : {X : Type 0} → InText (Bor X) → InText X
shown x = record { text = x.text; item = x.item.now }
