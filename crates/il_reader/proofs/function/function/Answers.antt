use Rattle.std.proofs.Common.{ℕ, Bool, List, Option, Some, sym, ap, ◌∙◌}
use Rattle.il_ast.specs.declared.block.Block.{Block}
use Rattle.il_ast.specs.declared.function.Param.{Param}
use Rattle.il_ast.specs.declared.operation.Class.{Class}
use Rattle.il_reader.specs.Prelude.{Step, ◌>>=◌, give, FunctionParts, function_head, function_params, function_body, function_names}
use Rattle.il_reader.proofs.Binding.{bind_some}
use Rattle.il_reader.proofs.Ordered.{function_named}
use Rattle.il_reader.proofs.function.function.Goals as goal

abbrev Head : Type 0
Head = Option Class × (ℕ × ℕ)

abbrev parts : Bool → Head → List Param → List Block → List (List ℕ) → List (List ℕ) → FunctionParts
parts exported head params bs temps labels = record {
  line = head.1.0;
  exported = exported;
  name = head.1.1;
  result = head.0;
  params = params;
  blocks = bs;
  temps = temps;
  labels = labels;
}

abbrev named : Bool → Head → List Param → List Block → Step FunctionParts
named exported head params bs = function_names >>= λ names. give (parts exported head params bs names.0 names.1)

abbrev behind_params : Bool → Head → List Param → Step FunctionParts
behind_params exported head params = function_body >>= named exported head params

abbrev behind_head : Bool → Head → Step FunctionParts
behind_head exported head = function_params >>= behind_params exported head

pub invariant_of-result : goal.invariant_of-result
invariant_of-result c =
    let exported = c.args.exported in
    let head : Head = (c.in_ok-result.field-0.result, (c.in_ok-result.field-0.line, c.in_ok-result.field-0.name)) in
    let params = c.in_ok-params.params in
    let bs = c.in_ok-blocks.blocks in
    let end = c.function_body.new.reader in
    let read = bind_some function_head (behind_head exported) c.args.reader.now c.function_head.new.reader head c.in_ok-result.ensures
    ∙ bind_some function_params (behind_params exported head) c.function_head.new.reader c.function_params.new.reader params c.in_ok-params.ensures
    ∙ bind_some function_body (named exported head params) c.function_params.new.reader end bs c.in_ok-blocks.ensures
    ∙ ap (λ (temps : List (List ℕ)). Some (parts exported head params bs temps end.labels, end)) (sym c.in_ok-temps.ensures)
    ∙ ap (λ (labels : List (List ℕ)). Some (parts exported head params bs c.in_ok-temps.temps labels, end)) (sym c.in_ok-labels.ensures) in
    let n = function_named exported c.args.reader.now (parts exported head params bs c.in_ok-temps.temps c.in_ok-labels.labels) end read in
    record { temps_in_order = n.0; labels_in_order = n.1; temps_distinct = n.2; labels_distinct = n.3; some_block = n.4; some_argument = n.5 }
