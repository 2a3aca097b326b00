-- Options: what is in one is known by it, and none is in the empty one.
use Rattle.std.proofs.Common.{◌≡◌, Option, Some, None, sym, ◌∙◌}
use Rattle.std.proofs.lemmas.Option.{same_Some, none-some}

pub same_chosen : {A : Type 0} {x y : A} → Some x ≡ Some y → x ≡ y
same_chosen {x = x} {y = y} h = same_Some x y h

pub none_chosen : {A : Type 0} {x : A} → None ≡ Some x → ⊥
none_chosen {x = x} h = none-some x h

pub none_is_not : {A : Type 0} (x : A) (o : Option A) → o ≡ None → o ≡ Some x → ⊥
none_is_not x o none some = none-some x (sym none ∙ some)
