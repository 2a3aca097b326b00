use Rattle.std.proofs.Common.{◌≡◌, ◌<◌, Bool, true, false, nat_eq, ◌&&◌, ◌||◌, take, refl, sym, ap, ◌∙◌, subst, if◌then◌else◌}
use Rattle.std.proofs.lemmas.List.Folds.{list_any_more}
use Rattle.il_ast.specs.declared.operation.Class.{Class}
use Rattle.il_ast.specs.declared.operation.Class.TheVariants.{W}
use Rattle.il_ast.specs.declared.operand.Dest.{Dest}
use Rattle.il_ast.specs.Prelude.{same_class}
use Rattle.select.specs.Narrow.{listed, has_word}
use Rattle.select.proofs.classes.mark_words.Goals as goal

-- one destination more
one_more : (before own : Bool) (old first : Class) → old ≡ (if before then W else first) → (if own then W else old) ≡ (if before || own then W else first)
one_more true true old first e = refl
one_more true false old first e = e
one_more false true old first e = refl
one_more false false old first e = e

pub loop-to-preserved : goal.loop-to-preserved
loop-to-preserved c =
    let assigned = c.args.assigned.now in
    let i = c.loop-to.to-index in
    let to = c.to-item.result in
    let first = c.args.table.now in
    record {
      long = c.mark_word.ensures.length ∙ c.loop-to.invariant.long;
      entries = λ t low.
          let is_word : Dest → Bool = λ d. nat_eq d.temp t && same_class d.class W in
          let more = list_any_more is_word assigned i to c.loop-to-test.true ∙ ap (λ (d : Dest). has_word t (take i assigned) || is_word d) (sym c.to-item.is) in
          c.mark_word.ensures.entries t (subst (λ n. t < n) (sym c.loop-to.invariant.long) low)
          ∙ (one_more (has_word t (take i assigned)) (is_word to) (listed c.loop-to.table t) (listed first t) (c.loop-to.invariant.entries t low)
          ∙ ap (λ b. if b then W else listed first t) (sym more));
    }
