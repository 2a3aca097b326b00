-- What the tests of classes and of called functions tell.
use Rattle.std.proofs.Common.{◌≡◌, Bool, true, false, List, [], ◌∷◌, refl, ap, ◌∙◌, ◌&&◌}
use Rattle.std.proofs.lemmas.Bool.{and_parts}
use Rattle.il_ast.specs.Prelude.{Class, W, L, Callee, Defined, SystemWrite, SystemExit, same_class, same_callee, same_classes}
use Rattle.il_ast.proofs.Truth.{equals_itself}

pub class_itself : (c : Class) → same_class c c ≡ true
class_itself W = refl
class_itself L = refl

pub same_class_is : (c d : Class) → same_class c d ≡ true → c ≡ d
same_class_is W W h = refl
same_class_is W L h = absurd (let no : ⊥ = cc in no)
same_class_is L W h = absurd (let no : ⊥ = cc in no)
same_class_is L L h = refl

pub same_classes_are : (cs ds : List Class) → same_classes cs ds ≡ true → cs ≡ ds
same_classes_are [] [] h = refl
same_classes_are [] (d ∷ ds) h = absurd (let no : ⊥ = cc in no)
same_classes_are (c ∷ cs) [] h = absurd (let no : ⊥ = cc in no)
same_classes_are (c ∷ cs) (d ∷ ds) h =
    let p = and_parts (same_class c d) (same_classes cs ds) h in
    ap (λ k. k ∷ cs) (same_class_is c d p.0) ∙ ap (λ ks. d ∷ ks) (same_classes_are cs ds p.1)

pub callee_itself : (f : Callee) → same_callee f f ≡ true
callee_itself (Defined n) = equals_itself n
callee_itself SystemWrite = refl
callee_itself SystemExit = refl
