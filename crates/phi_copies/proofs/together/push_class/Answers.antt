use Rattle.std.proofs.Common.{◌++◌, map, ◌∙◌, ap, subst}
use Rattle.phi_copies.specs.Together.{copy_of, IsSequence}
use Rattle.phi_copies.proofs.together.push_class.Goals as goal

pub returns : goal.returns
returns c =
    let ordered = c.in_ok-ordered.ordered.items in (
      ordered,
      c.in_ok-push_moves.ensures ∙ ap (λ ms. c.args.out.now.items ++ map (copy_of c.args.class) ms) c.deref-2.ensures.value,
      subst (λ ms. IsSequence ms c.args.scratch ordered) (c.deref.ensures.value ∙ c.in_ok-moves.ensures)
          (record { at_once = c.in_ok-ordered.ensures.at_once; between = c.in_ok-ordered.ensures.between; reads = c.in_ok-ordered.ensures.reads; few = c.in_ok-ordered.ensures.few }),
    )
