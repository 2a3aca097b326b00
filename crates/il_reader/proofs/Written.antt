-- A function that the grammar reads has a block, and each of its phis an argument.
use Rattle.std.proofs.Common.{◌≡◌, Bool, true, ◌&&◌, nat_lt, List, [], ◌∷◌, length, refl, ◌∙◌, ap, arith, IsTrue}
use Rattle.std.proofs.lemmas.Bool.Decides.{nat_tests}
use Rattle.std.specs.List.{list_all}
use Rattle.std.proofs.lemmas.Bool.{and_from}
use Rattle.il_ast.specs.declared.block.Phi.{Phi}
use Rattle.il_ast.specs.declared.block.Block.{Block}
use Rattle.il_ast.specs.Prelude.{has_block, has_argument, have_arguments}
use Rattle.il_reader.specs.Prelude.{State, many, phi, falling, FunctionParts}
use Rattle.il_reader.specs.Rules.{some}
use Rattle.il_reader.specs.Reads.{on_line, block}
use Rattle.il_reader.proofs.ExactFunctions.{Functions}

abbrev has_arguments : Block → Bool
has_arguments b = list_all has_argument b.phis

-- ---- phis

some_argument : {A : Type 0} (x : A) (xs : List A) → nat_lt 0 (length (x ∷ xs)) ≡ true
some_argument x xs = grind (arith, nat_tests)

phi_written : (s s' : State) (p : Phi) → phi s p s' → has_argument p ≡ true
phi_written s s' p h =
    let t = h.3.3.3 in
    let args = t.2.3.3.3.0 in
    ap has_argument t.3.0 ∙ ap (λ xs. nat_lt 0 (length xs)) args ∙ some_argument t.2.0 t.2.3.0

phis_written : (s s' : State) (ps : List Phi) → many (on_line phi) s ps s' → list_all has_argument ps ≡ true
phis_written s s' [] h = refl
phis_written s s' (p ∷ ps) h =
    and_from (has_argument p) (list_all has_argument ps)
    (ap has_argument h.1.3.3.0 ∙ phi_written s h.1.1 h.1.0 h.1.2)
    (phis_written h.0 s' ps h.2)

-- ---- blocks

block_written : (s s' : State) (b : Block) → block s b s' → has_arguments b ≡ true
block_written s s' b h =
    let t = h.3.3.3 in
    ap has_arguments t.3.3.3.0 ∙ phis_written _ _ t.0 t.2

blocks_written : (s s' : State) (bs : List Block) → many block s bs s' → list_all has_arguments bs ≡ true
blocks_written s s' [] h = refl
blocks_written s s' (b ∷ bs) h = and_from (has_arguments b) (list_all has_arguments bs) (block_written s h.0 b h.1) (blocks_written h.0 s' bs h.2)

falling_written : (bs : List Block) → list_all has_arguments (falling bs) ≡ list_all has_arguments bs
falling_written [] = refl
falling_written (b ∷ []) = refl
falling_written (b ∷ next ∷ bs) = ap (λ x. has_arguments b && x) (falling_written (next ∷ bs))

some_fall : (b : Block) (bs : List Block) → has_block (falling (b ∷ bs)) ≡ true
some_fall b [] = refl
some_fall b (next ∷ bs) = some_argument b (falling (next ∷ bs))

-- what the invariants of a function ask of its blocks
abbrev pub AreWritten : List Block → Type 0
AreWritten bs = IsTrue (has_block bs) × IsTrue (have_arguments bs)

blocks_are : (xs bs : List Block) (s s' : State) → xs ≡ falling bs → some block s bs s' → AreWritten xs
blocks_are xs bs s s' e h =
    let is = h.3.3.0 in
    let all = ap (list_all has_arguments) is ∙ and_from (has_arguments h.0) (list_all has_arguments h.3.0) (block_written s h.1 h.0 h.2) (blocks_written h.1 h.3.1 h.3.0 h.3.2) in (
      ap has_block (e ∙ ap falling is) ∙ some_fall h.0 h.3.0,
      ap (list_all has_arguments) e ∙ falling_written bs ∙ all,
    )

-- the parts of a function that the grammar reads
pub parts_written : (exported : Bool) (s s' : State) (p : FunctionParts) → Functions exported s p s' → AreWritten p.blocks
parts_written exported s s' p h =
    let made = h.3.3.2.3.3 in
    blocks_are p.blocks made.0 _ _ (ap (λ (q : FunctionParts). q.blocks) h.3.3.3.3.0 ∙ made.3.3.0) made.2
