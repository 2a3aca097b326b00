-- A function of a good text has few blocks, temporaries and phis.
use Rattle.std.proofs.Common.{◌≡◌, ◌+◌, ◌<◌, ◌≤◌, true, nat_lt, nat_le, List, [], ◌∷◌, length, arith}
use Rattle.std.specs.List.{sum_by, list_all}
use Rattle.std.proofs.lemmas.Bool.Decides.{nat_tests}
use Rattle.std.proofs.lemmas.List.Sums.{sum_by-cons}
use Rattle.il_ast.specs.declared.limits.TheConstants.{FUNCTION_WEIGHT}
use Rattle.il_ast.specs.declared.block.Phi.{Phi}
use Rattle.il_ast.specs.declared.block.Block.{Block}
use Rattle.il_ast.specs.declared.function.Func.{Func}
use Rattle.il_ast.specs.Prelude.{block_weight, weight, phi_count}
use Rattle.phi_copies.specs.Good.{IsGoodFunction}
use Rattle.il_ast.proofs.Truth.{and_first, and_second}

-- ---- phis weigh their arguments

phis_weigh : (phis : List Phi) → list_all (λ (p : Phi). nat_lt 0 (length p.args)) phis ≡ true → length phis ≤ sum_by (λ (p : Phi). length p.args) phis
phis_weigh [] h = omega arith
phis_weigh (p ∷ phis) h =
    let le = phis_weigh phis (and_second (nat_lt 0 (length p.args)) (list_all (λ (q : Phi). nat_lt 0 (length q.args)) phis) h) in
    let some = and_first (nat_lt 0 (length p.args)) (list_all (λ (q : Phi). nat_lt 0 (length q.args)) phis) h in
    let lt : 0 < length p.args = grind (arith, nat_tests) in
    let all = sum_by-cons (λ (q : Phi). length q.args) p phis in
    omega (arith, le, lt, all)

blocks_weigh : (blocks : List Block) → list_all (λ (b : Block). list_all (λ (p : Phi). nat_lt 0 (length p.args)) b.phis) blocks ≡ true → length blocks + sum_by (λ (b : Block). length b.phis) blocks ≤ sum_by block_weight blocks
blocks_weigh [] h = omega arith
blocks_weigh (b ∷ blocks) h =
    let first = and_first (list_all (λ (p : Phi). nat_lt 0 (length p.args)) b.phis) (list_all (λ (c : Block). list_all (λ (p : Phi). nat_lt 0 (length p.args)) c.phis) blocks) h in
    let rest = and_second (list_all (λ (p : Phi). nat_lt 0 (length p.args)) b.phis) (list_all (λ (c : Block). list_all (λ (p : Phi). nat_lt 0 (length p.args)) c.phis) blocks) h in
    let le = blocks_weigh blocks rest in
    let some = phis_weigh b.phis first in
    let phis = sum_by-cons (λ (c : Block). length c.phis) b blocks in
    let all = sum_by-cons block_weight b blocks in
    omega (arith, le, some, phis, all)

-- ---- a good function

pub record IsSmall (f : Func) : Type 0 where
  pub blocks : length f.blocks ≤ FUNCTION_WEIGHT
  pub temporaries : length f.temps + phi_count f ≤ 44000

pub is_small : (f : Func) → IsGoodFunction f → IsSmall f
is_small f good =
    let heavy = and_first (nat_le (weight f) FUNCTION_WEIGHT) _ good.limits in
    let many = and_first (nat_le (length f.temps) 4000) _ (and_second (nat_le (weight f) FUNCTION_WEIGHT) _ good.limits) in
    let light : weight f ≤ FUNCTION_WEIGHT = grind (arith, nat_tests) in
    let few : length f.temps ≤ 4000 = grind (arith, nat_tests) in
    let weigh = blocks_weigh f.blocks f.some_argument in
    record { blocks = omega (arith, light, weigh); temporaries = omega (arith, light, few, weigh) }
