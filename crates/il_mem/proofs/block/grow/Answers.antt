use Rattle.std.proofs.Common.{ap, ◌∙◌, ◌≡◌, ◌++◌, ◌∷◌, [], arith, true, is_ok}
use Rattle.il_ast.specs.declared.value.Value.TheVariants.{Integer}
use Rattle.il_mem.specs.Joined.{joined}
use Rattle.il_mem.proofs.JoinedLemmas.{ShowsSame-push}
use Rattle.il_mem.proofs.block.grow.Goals as goal

pub loop-values-preserved : goal.loop-values-preserved
loop-values-preserved c =
    let ok : is_ok c.push.result ≡ true = c.push.ensures.succeeds (omega arith) in
    let items : c.push.new.self.items ≡ c.loop-values.values.items ++ Integer 0 ∷ [] = rw ok at c.push.ensures.items in (
      (λ marks. ap (joined marks) items ∙ (ShowsSame-push c.loop-values.values.items marks ∙ c.loop-values.invariant.0 marks)),
      omega arith,
    )
