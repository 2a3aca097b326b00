use Rattle.std.proofs.Common.{◌++◌, map, ◌∙◌, ap, subst, append_assoc}
use Rattle.il_ast.specs.declared.operation.Class.TheVariants.{W, L}
use Rattle.phi_copies.specs.Together.{copy_of, rest_of, IsSequence, moves_in}
use Rattle.phi_copies.proofs.together.in_order.Goals as goal

pub returns : goal.returns
returns c =
    let cs = c.args.copies.now in
    let words = c.in_ok-push_class.ensures in
    let longs = c.in_ok-push_class-2.ensures in
    let ws = map (copy_of W) words.0 in
    let ls = map (copy_of L) longs.0 in
    record {
      words = words.0;
      longs = longs.0;
      are =
          c.in_ok-push_rest.ensures
          ∙ ap (λ xs. xs ++ rest_of cs) (longs.1 ∙ ap (λ xs. xs ++ ls) (words.1 ∙ ap (λ xs. xs ++ ws) c.new-out.ensures.items))
          ∙ append_assoc ws ls (rest_of cs);
      words_are = subst (λ n. IsSequence (moves_in W cs) n words.0) c.first_in.ensures words.2;
      longs_are = subst (λ n. IsSequence (moves_in L cs) n longs.0) c.first_in-2.ensures longs.2;
    }
