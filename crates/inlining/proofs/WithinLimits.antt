-- What a candidate names and where its jumps lead, within the limits of all functions.
use Rattle.std.proofs.Common.{◌≡◌, ℕ, ◌+◌, ◌<◌, ◌≤◌, true, length, arith}
use Rattle.std.specs.List.{list_all}
use Rattle.std.proofs.lemmas.Bool.{and_parts}
use Rattle.vcode.specs.declared.limits.TheConstants.{PLACES}
use Rattle.vcode.specs.declared.place.Destination.{Destination}
use Rattle.vcode.specs.declared.code.Block.{Block}
use Rattle.vcode.specs.declared.function.VFunc.{VFunc}
use Rattle.vcode.specs.Prelude.{block_keeps, is_below, leads_inside, IsRegular}
use Rattle.inlining.specs.declared.limits.TheConstants.{BLOCKS}
use Rattle.inlining.proofs.Listing.{all_weaker}
use Rattle.inlining.proofs.Fitting.{inside_more}
use Rattle.vcode.proofs.Weaker.{below_more, block_weaker}

pub inside_all : (candidate : VFunc) (behind : ℕ) → behind + length candidate.code.blocks < BLOCKS → list_all (λ (b : Block ℕ). leads_inside BLOCKS b.jump) candidate.code.blocks ≡ true
inside_all candidate behind few =
    let good : IsRegular candidate.code = candidate.regular in
    let n = length candidate.code.blocks in
    all_weaker (λ (b : Block ℕ). leads_inside n b.jump) (λ (b : Block ℕ). leads_inside BLOCKS b.jump) (λ b h. inside_more n BLOCKS (omega (arith, few)) b.jump h) candidate.code.blocks good.inside

registers_few : (candidate : VFunc) → candidate.registers ≤ PLACES
registers_few candidate = let few = candidate.few in omega (arith, few)

pub blocks_known : (candidate : VFunc) → list_all (block_keeps (is_below PLACES)) candidate.code.blocks ≡ true
blocks_known candidate =
    let n = candidate.registers in
    all_weaker (block_keeps (is_below n)) (block_keeps (is_below PLACES)) (block_weaker (is_below n) (is_below PLACES) (below_more n PLACES (registers_few candidate))) candidate.code.blocks
    (and_parts (list_all (λ (d : Destination ℕ). is_below n d.place) candidate.code.params) (list_all (block_keeps (is_below n)) candidate.code.blocks) candidate.known).1

pub params_known : (candidate : VFunc) → list_all (λ (d : Destination ℕ). is_below PLACES d.place) candidate.code.params ≡ true
params_known candidate =
    let n = candidate.registers in
    all_weaker (λ (d : Destination ℕ). is_below n d.place) (λ (d : Destination ℕ). is_below PLACES d.place) (λ d h. below_more n PLACES (registers_few candidate) d.place h) candidate.code.params
    (and_parts (list_all (λ (d : Destination ℕ). is_below n d.place) candidate.code.params) (list_all (block_keeps (is_below n)) candidate.code.blocks) candidate.known).0
