use Rattle.std.proofs.Common.{◌∙◌, ap, arith, ◌∷◌, [], length, length-append}
use Rattle.il_types.specs.Prelude.{place_in}
use Rattle.il_interp.proofs.PlaceLemmas.{tables_further}
use Rattle.il_ast.specs.Prelude.{place_of}
use Rattle.il_interp.proofs.prepare.places.Goals as goal

pub loop-function-preserved : goal.loop-function-preserved
loop-function-preserved c = (
  let e = ap length c.in_ok-push.ensures.items in omega (arith, e, length-append c.loop-function.tables.items (c.from_vec.result ∷ []), c.loop-function.invariant.0),
  tables_further c.args.functions.now c.loop-function.function-index c.function-item.result c.loop-function.tables.items c.push.new.self.items c.from_vec.result
      c.loop-function-test.true c.function-item.is c.loop-function.invariant.0 c.in_ok-push.ensures.items
      (λ l. ap (λ t. place_in t l) c.from_vec.ensures ∙ (c.in_ok-table.ensures l ∙ ap (λ bs. place_of bs l) c.as_slice.ensures))
      c.loop-function.invariant.1,
)
