-- The rule on phis, by the list of a block's predecessors.
use Rattle.std.specs.Prelude.{ℕ, Bool, not, nat_eq, nat_lt, ◌&&◌, if◌then◌else◌, List, [], ◌∷◌, slice_index_or, Option}
use Rattle.std.specs.List.{flat_map, list_any, list_all}
use Rattle.il_ast.specs.declared.block.PhiArg.{PhiArg}
use Rattle.il_ast.specs.declared.block.Phi.{Phi}
use Rattle.il_ast.specs.declared.block.Block.{Block}
use Rattle.il_types.specs.First.{or_else, when, first}
use Rattle.il_types.specs.Locals.{first_repeated, phi_sites, jumps_to, names_from}

-- the label of the block, where its jump names the label
abbrev pub predecessor_in : ℕ → Block → List ℕ
predecessor_in l b = if jumps_to l b.jump then b.label ∷ [] else []

abbrev pub predecessors_of : ℕ → List Block → List ℕ
predecessors_of l blocks = flat_map (predecessor_in l) blocks

abbrev pub arg_is_right : List ℕ → List PhiArg → PhiArg → Bool
arg_is_right predecessors args a =
    nat_eq (names_from a.from args) 1 && list_any (λ p. nat_eq p a.from) predecessors

abbrev pub are_args_right : List ℕ → List PhiArg → List PhiArg → Bool
are_args_right predecessors args rest = list_all (arg_is_right predecessors args) rest

abbrev pub are_all_named : List PhiArg → List ℕ → Bool
are_all_named args predecessors = list_all (λ p. nat_lt 0 (names_from p args)) predecessors

abbrev pub covers_by : List ℕ → List PhiArg → Bool
covers_by predecessors args =
    are_args_right predecessors args args && are_all_named args predecessors

-- ---- the predecessors of all labels

-- no numbers past the end
abbrev pub row : List (List ℕ) → ℕ → List ℕ
row rows l = slice_index_or rows l []

abbrev pub first_uncovered_by : List ℕ → List Phi → Option ℕ
first_uncovered_by predecessors phis =
    first (λ (p : Phi). when (not (covers_by predecessors p.args)) p.line) phis

abbrev pub uncovered_by : List (List ℕ) → Block → Option ℕ
uncovered_by rows b =
    or_else (first_repeated (phi_sites b.phis)) (first_uncovered_by (row rows b.label) b.phis)
