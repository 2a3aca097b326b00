use Rattle.std.proofs.Common.{◌≡◌, ◌∙◌, ◌++◌, Option, List, ap}
use Rattle.il_ast.specs.declared.operation.Class.{Class}
use Rattle.vcode.specs.declared.code.Block.{Block}
use Rattle.vcode.specs.declared.code.Code.{Code}
use Rattle.vcode.specs.declared.place.Destination.{Destination}
use Rattle.vcode.specs.declared.place.Location.{Location}
use Rattle.alloc_check.specs.Prelude.{certified_params, certified_blocks}
use Rattle.alloc_check.proofs.certified.certified.Goals as goal

abbrev made_of : Option Class → List (Destination Location) → List (Block Location) → Code Location
made_of result params blocks = record { result = result; params = params; blocks = blocks }

pub returns : goal.returns
returns c =
    let v = c.args.code.now in
    let s = c.args.certificate.now in
    let params : c.push_params.new.placed ≡ certified_params v.params s.params =
    c.in_ok-push_params.ensures
    ∙ ap (λ (ds : List (Destination Location)). ds ++ certified_params c.as_slice.result.now c.as_slice-2.result.now) c.new-params.ensures
    ∙ ap (λ ds. certified_params ds c.as_slice-2.result.now) c.as_slice.ensures
    ∙ ap (certified_params v.params) c.as_slice-2.ensures in
    let blocks : c.push_blocks.new.placed ≡ certified_blocks s 0 v.blocks =
    c.in_ok-push_blocks.ensures
    ∙ ap (λ (bs : List (Block Location)). bs ++ certified_blocks s 0 c.as_slice-3.result.now) (c.from_vec-blocks.ensures ∙ c.in_ok-with_capacity.ensures.items)
    ∙ ap (certified_blocks s 0) c.as_slice-3.ensures in
    ap (λ (ds : List (Destination Location)). made_of v.result ds c.push_blocks.new.placed) params ∙ ap (made_of v.result (certified_params v.params s.params)) blocks
