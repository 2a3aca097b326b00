-- One more item: what loops over items keep, from before it to after it.
use Rattle.std.proofs.Common.{◌≡◌, ℕ, ◌+◌, ◌<◌, List, ◌∷◌, ◌++◌, length, get_or, drop, refl, sym, ◌∙◌, ap, subst}
use Rattle.std.proofs.lemmas.List.{drop_more}
use Rattle.rv_isa.specs.Prelude.{longest}
use Rattle.rv_isa.specs.declared.labelled.Item.{Item}
use Rattle.rv_isa.specs.declared.code.Hole.{Hole}
use Rattle.asm_layout.specs.Forms.{size, item_words, words_with, item_holes, holes_with, no_address, AllFit}
use Rattle.asm_layout.proofs.Standing.{more_length}

-- the items from one on are that one and those after it
pub from_item : (items : List Item) (i : ℕ) (x : Item) → i < length items → x ≡ get_or items i x → drop i items ≡ x ∷ drop (i + 1) items
from_item items i x within is = drop_more items i x within ∙ ap (λ y. y ∷ drop (i + 1) items) (sym is)

pub words_on : (far places : List ℕ) (f k : ℕ) (pre more : List ℕ) (x : Item) (items rest : List Item)
    → items ≡ x ∷ rest → more ≡ pre ++ item_words far places no_address f (length pre) x → k ≡ longest x
    → words_with far places no_address (f + k) more rest ≡ words_with far places no_address f pre items
words_on far places f k pre more x items rest next added long = rw (next, added, long) refl

pub fit_on : (far places : List ℕ) (f k : ℕ) (pre more : List ℕ) (x : Item) (items rest : List Item)
    → items ≡ x ∷ rest → more ≡ pre ++ item_words far places no_address f (length pre) x → k ≡ longest x
    → AllFit far places f (length pre) items → AllFit far places (f + k) (length more) rest
fit_on far places f k pre more x items rest next added long fit =
    let both : AllFit far places f (length pre) (x ∷ rest) = subst (AllFit far places f (length pre)) next fit in
    let grown : length more ≡ length pre + size far f x = ap length added ∙ more_length far places no_address f pre x in
    rw (grown, long) both.1

pub holes_on : (far : List ℕ) (f k p n : ℕ) (pre more : List Hole) (x : Item) (items rest : List Item)
    → items ≡ x ∷ rest → more ≡ pre ++ item_holes p x → k ≡ longest x → n ≡ size far f x
    → holes_with far (f + k) (p + n) more rest ≡ holes_with far f p pre items
holes_on far f k p n pre more x items rest next added long sized = rw (next, added, long, sized) refl
