-- The list of a block's predecessors serves in the place of all blocks.
use Rattle.std.proofs.Common.{◌≡◌, ◌<◌, ℕ, ◌+◌, Bool, true, false, List, [], ◌∷◌, ◌++◌, length, take, get_or, refl, ap, sym, ◌∙◌, cond, not, nat_eq, nat_lt, ◌&&◌, ◌||◌}
use Rattle.std.specs.List.{list_any, list_all}
use Rattle.std.proofs.lemmas.List.{take_more, flat_map_more}
use Rattle.il_ast.specs.declared.block.PhiArg.{PhiArg}
use Rattle.il_ast.specs.declared.block.Phi.{Phi}
use Rattle.il_ast.specs.declared.block.Block.{Block}
use Rattle.il_types.specs.Prelude.{or_else, when, first, first_repeated, phi_sites, jumps_to, names_from, is_predecessor, covers, uncovered_in, predecessor_in, predecessors_of, are_args_right, are_all_named, covers_by, row, first_uncovered_by, uncovered_by}
use Rattle.il_types.proofs.FirstLemmas.{first_same}

any_first : (l from label : ℕ) (t : Bool) (rest : List ℕ) → list_any (λ p. nat_eq p from) (cond t (label ∷ []) [] ++ rest) ≡ (nat_eq label from && t) || list_any (λ p. nat_eq p from) rest
any_first l from label true rest = ap (λ b. b || list_any (λ p. nat_eq p from) rest) (and_true (nat_eq label from))
  where
    and_true : (b : Bool) → b ≡ b && true
    and_true true = refl
    and_true false = refl
any_first l from label false rest = ap (λ b. b || list_any (λ p. nat_eq p from) rest) (and_false (nat_eq label from))
  where
    and_false : (b : Bool) → false ≡ b && false
    and_false true = refl
    and_false false = refl

pub is_predecessor-by : (l from : ℕ) (blocks : List Block) → list_any (λ p. nat_eq p from) (predecessors_of l blocks) ≡ is_predecessor blocks l from
is_predecessor-by l from [] = refl
is_predecessor-by l from (b ∷ blocks) =
    any_first l from b.label (jumps_to l b.jump) (predecessors_of l blocks)
    ∙ ap (λ x. (nat_eq b.label from && jumps_to l b.jump) || x) (is_predecessor-by l from blocks)

all_first : (args : List PhiArg) (label : ℕ) (t : Bool) (rest : List ℕ) → are_all_named args (cond t (label ∷ []) [] ++ rest) ≡ (not t || nat_lt 0 (names_from label args)) && are_all_named args rest
all_first args label true rest = refl
all_first args label false rest = refl

pub are_all_named-by : (l : ℕ) (args : List PhiArg) (blocks : List Block) → are_all_named args (predecessors_of l blocks) ≡ list_all (λ (b : Block). not (jumps_to l b.jump) || nat_lt 0 (names_from b.label args)) blocks
are_all_named-by l args [] = refl
are_all_named-by l args (b ∷ blocks) =
    all_first args b.label (jumps_to l b.jump) (predecessors_of l blocks)
    ∙ ap (λ x. (not (jumps_to l b.jump) || nat_lt 0 (names_from b.label args)) && x) (are_all_named-by l args blocks)

are_args_right-by : (l : ℕ) (blocks : List Block) (args rest : List PhiArg) → are_args_right (predecessors_of l blocks) args rest ≡ list_all (λ (a : PhiArg). nat_eq (names_from a.from args) 1 && is_predecessor blocks l a.from) rest
are_args_right-by l blocks args [] = refl
are_args_right-by l blocks args (a ∷ rest) =
    ap (λ x. (nat_eq (names_from a.from args) 1 && x) && are_args_right (predecessors_of l blocks) args rest) (is_predecessor-by l a.from blocks)
    ∙ ap (λ x. (nat_eq (names_from a.from args) 1 && is_predecessor blocks l a.from) && x) (are_args_right-by l blocks args rest)

pub covers-by : (l : ℕ) (blocks : List Block) (args : List PhiArg) → covers_by (predecessors_of l blocks) args ≡ covers blocks l args
covers-by l blocks args =
    ap (λ x. x && are_all_named args (predecessors_of l blocks)) (are_args_right-by l blocks args args)
    ∙ ap (λ x. list_all (λ (a : PhiArg). nat_eq (names_from a.from args) 1 && is_predecessor blocks l a.from) args && x) (are_all_named-by l args blocks)

pub first_uncovered : (l : ℕ) (blocks : List Block) (phis : List Phi) → first (λ (p : Phi). when (not (covers_by (predecessors_of l blocks) p.args)) p.line) phis ≡ first (λ (p : Phi). when (not (covers blocks l p.args)) p.line) phis
first_uncovered l blocks phis =
    first_same (λ (p : Phi). when (not (covers_by (predecessors_of l blocks) p.args)) p.line) (λ (p : Phi). when (not (covers blocks l p.args)) p.line)
    (λ p. ap (λ t. when (not t) p.line) (covers-by l blocks p.args)) phis

-- ---- the predecessors of all labels

pub predecessors_further : (blocks : List Block) (i : ℕ) (b : Block) (l : ℕ) → i < length blocks → b ≡ get_or blocks i b → predecessors_of l (take i blocks) ++ cond (jumps_to l b.jump) (b.label ∷ []) [] ≡ predecessors_of l (take (i + 1) blocks)
predecessors_further blocks i b l lt at =
    flat_map_more (predecessor_in l) [] (take i blocks) b
    ∙ sym (ap (predecessors_of l) (take_more blocks i b lt ∙ ap (λ x. take i blocks ++ x ∷ []) (sym at)))

-- the same of a row, to which the block's label is added where its jump names the row's
pub predecessors_on : (blocks : List Block) (i : ℕ) (b : Block) (l from : ℕ) (found more : List ℕ) → i < length blocks → b ≡ get_or blocks i b → from ≡ b.label → found ≡ predecessors_of l (take i blocks)
    → more ≡ found ++ cond (jumps_to l b.jump) (from ∷ []) [] → more ≡ predecessors_of l (take (i + 1) blocks)
predecessors_on blocks i b l from found more lt at names so_far added =
    added ∙ (ap (λ xs. xs ++ cond (jumps_to l b.jump) (from ∷ []) []) so_far
    ∙ (ap (λ n. predecessors_of l (take i blocks) ++ cond (jumps_to l b.jump) (n ∷ []) []) names ∙ predecessors_further blocks i b l lt at))

-- the rows have the predecessors of each label
pub all_uncovered : (rows : List (List ℕ)) (blocks : List Block) → ((l : ℕ) → row rows l ≡ predecessors_of l blocks) → first (uncovered_by rows) blocks ≡ first (uncovered_in blocks) blocks
all_uncovered rows blocks h =
    first_same (uncovered_by rows) (uncovered_in blocks)
    (λ b. ap (or_else (first_repeated (phi_sites b.phis))) (ap (λ ps. first_uncovered_by ps b.phis) (h b.label) ∙ first_uncovered b.label blocks b.phis)) blocks
