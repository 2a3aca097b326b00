-- What was put behind nothing.
use Rattle.std.proofs.Common.{◌≡◌, ℕ, List, [], ◌∷◌, ◌++◌, ◌∙◌, ap}
use Rattle.abi_frames.proofs.Shared.{Item, Label, Location, Destination, Block, Layout, Mark}
use Rattle.abi_frames.specs.Emission.{rows}
use Rattle.abi_frames.specs.Functions.{entry_items, function_items, outer_layout, marked_body, ends_items, marked_items}
use Rattle.operation_code.proofs.Joining.{joined_4}

pub items_are : (p o : List Item) (y z : Layout) (rs ss : List ℕ) (ps qs : List (Destination Location)) (bs cs : List (Block Location))
    → p ≡ o ++ function_items y rs ps bs → o ≡ [] → y ≡ z → rs ≡ ss → ps ≡ qs → bs ≡ cs → p ≡ function_items z ss qs cs
items_are p o y z rs ss ps qs bs cs h f g i k m =
    h ∙ (ap (λ l. l ++ function_items y rs ps bs) f
    ∙ (ap (λ x. function_items x rs ps bs) g ∙ (ap (λ x. function_items z x ps bs) i ∙ (ap (λ x. function_items z ss x bs) k ∙ ap (λ x. function_items z ss qs x) m))))

pub marked_are : (p o : List Item) (y z : Layout) (rs ss : List ℕ) (ps qs : List (Destination Location)) (ms ns : List Mark) (bs cs : List (Block Location))
    → p ≡ o ++ marked_items y rs ps ms bs → o ≡ [] → y ≡ z → rs ≡ ss → ps ≡ qs → ms ≡ ns → bs ≡ cs → p ≡ marked_items z ss qs ns cs
marked_are p o y z rs ss ps qs ms ns bs cs h f g i k m n =
    h ∙ (ap (λ l. l ++ marked_items y rs ps ms bs) f
    ∙ (ap (λ x. marked_items x rs ps ms bs) g
    ∙ (ap (λ x. marked_items z x ps ms bs) i ∙ (ap (λ x. marked_items z ss x ms bs) k ∙ (ap (λ x. marked_items z ss qs x bs) m ∙ ap (λ x. marked_items z ss qs ns x) n)))))

pub marked_joined : (o p q r w : List Item) (y z : Layout) (rs : List ℕ) (ds : List (Destination Location)) (ms : List Mark) (bs : List (Block Location))
    → p ≡ o ++ entry_items z ds → z ≡ outer_layout y → q ≡ p ++ rows (λ l. l) (marked_body y rs ms) 0 bs → r ≡ q ++ (Label y.leave ∷ []) → w ≡ r ++ ends_items y rs
    → w ≡ o ++ marked_items y rs ds ms bs
marked_joined o p q r w y z rs ds ms bs entry outer parts label ends =
    joined_4 o p q r w (entry_items (outer_layout y) ds) (rows (λ l. l) (marked_body y rs ms) 0 bs) (Label y.leave ∷ []) (ends_items y rs)
    (entry ∙ ap (λ l. o ++ entry_items l ds) outer) parts label ends
