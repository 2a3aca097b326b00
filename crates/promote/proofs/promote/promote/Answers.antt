use Rattle.std.proofs.Common.{◌≡◌, ℕ, List, map, length, refl, sym, ◌∙◌, ap, subst, Some, IsTrue}
use Rattle.il_ast.specs.declared.block.Block.{Block}
use Rattle.il_ast.specs.declared.function.Param.{Param}
use Rattle.il_ast.specs.declared.function.Func.{Func}
use Rattle.il_ast.specs.Prelude.{come_after, temps_of, labels_of, are_distinct, has_block, have_arguments}
use Rattle.promote.specs.declared.mention.Mention.{Mention}
use Rattle.promote.specs.declared.standing.Standing.{Standing}
use Rattle.promote.specs.declared.standing.Standing.TheVariants.{Unseen}
use Rattle.promote.specs.Uses.{mentions_of, width_in, roles, promoted_block, standing_at, seen_all, widths_by}
use Rattle.promote.proofs.Choosing.{widths_known}
use Rattle.promote.proofs.Ordering.{order_stays, labels_stay, block_stays, arguments_stay}
use Rattle.promote.proofs.promote.promote.Goals as goal

-- the blocks as the table has them are those that the mentions give
blocks_are : (table : List Standing) (ms ns : List Mention) (blocks : List Block) → ((t : ℕ) → standing_at table t ≡ seen_all Unseen (roles t ms)) → ms ≡ ns → map (promoted_block (widths_by table)) blocks ≡ map (promoted_block (width_in ns)) blocks
blocks_are table ms ns blocks h e = ap (λ w. map (promoted_block w) blocks) (widths_known table ms h ∙ ap width_in e)

order : (f : Func) (ps : List Param) (bs : List Block) (n : ℕ) → ps ≡ f.params → bs ≡ map (promoted_block (width_in (mentions_of f))) f.blocks → n ≡ length f.temps → come_after 0 (temps_of ps bs) ≡ Some n
order f ps bs n p b e = ap (λ qs. come_after 0 (temps_of qs bs)) p ∙ (ap (λ cs. come_after 0 (temps_of f.params cs)) b ∙ (order_stays f ∙ ap (λ k. Some k) (sym e)))

label_order : (f : Func) (bs : List Block) (n : ℕ) → bs ≡ map (promoted_block (width_in (mentions_of f))) f.blocks → n ≡ length f.labels → come_after 0 (labels_of bs) ≡ Some n
label_order f bs n b e =
    ap (λ cs. come_after 0 (labels_of cs)) b
    ∙ (ap (come_after 0) (labels_stay (width_in (mentions_of f)) f.blocks) ∙ (f.labels_in_order ∙ ap (λ k. Some k) (sym e)))

distinct : (xs ys : List (List ℕ)) → xs ≡ ys → IsTrue (are_distinct ys) → IsTrue (are_distinct xs)
distinct xs ys e h = subst (λ zs. IsTrue (are_distinct zs)) (sym e) h

some_block : (f : Func) (bs : List Block) → bs ≡ map (promoted_block (width_in (mentions_of f))) f.blocks → IsTrue (has_block bs)
some_block f bs b = subst (λ x. IsTrue x) (sym (ap has_block b ∙ block_stays (width_in (mentions_of f)) f.blocks)) f.some_block

some_argument : (f : Func) (bs : List Block) → bs ≡ map (promoted_block (width_in (mentions_of f))) f.blocks → IsTrue (have_arguments bs)
some_argument f bs b = subst (λ x. IsTrue x) (sym (ap have_arguments b ∙ arguments_stay (width_in (mentions_of f)) f.blocks)) f.some_argument

pub invariant_of-result : goal.invariant_of-result
invariant_of-result c =
    let f = c.args.function.now in
    let ms : c.as_slice.result.now ≡ mentions_of f = c.as_slice.ensures.value ∙ c.in_ok-found.ensures in
    let ps : c.in_ok-params.params ≡ f.params = c.in_ok-params.ensures ∙ c.as_slice-2.ensures in
    let made : c.in_ok-blocks.blocks ≡ map (promoted_block (widths_by c.in_ok-table.table.items)) f.blocks =
    c.in_ok-blocks.ensures
    ∙ (ap (λ (t : List Standing). map (promoted_block (widths_by t)) c.as_slice-4.result.now) c.as_slice-3.ensures.value
    ∙ ap (λ (bs : List Block). map (promoted_block (widths_by c.in_ok-table.table.items)) bs) c.as_slice-4.ensures) in
    let bs : c.in_ok-blocks.blocks ≡ map (promoted_block (width_in (mentions_of f))) f.blocks =
    made ∙ blocks_are c.in_ok-table.table.items c.as_slice.result.now (mentions_of f) f.blocks c.in_ok-table.ensures ms in
    let ts : c.in_ok-temps.temps ≡ f.temps = c.in_ok-temps.ensures ∙ c.as_slice-5.ensures in
    let ls : c.in_ok-labels.labels ≡ f.labels = c.in_ok-labels.ensures ∙ c.as_slice-6.ensures in
    record {
      temps_in_order = order f c.in_ok-params.params c.in_ok-blocks.blocks (length c.in_ok-temps.temps) ps bs (ap length ts);
      labels_in_order = label_order f c.in_ok-blocks.blocks (length c.in_ok-labels.labels) bs (ap length ls);
      temps_distinct = distinct c.in_ok-temps.temps f.temps ts f.temps_distinct;
      labels_distinct = distinct c.in_ok-labels.labels f.labels ls f.labels_distinct;
      some_block = some_block f c.in_ok-blocks.blocks bs;
      some_argument = some_argument f c.in_ok-blocks.blocks bs;
    }

pub returns : goal.returns
returns c =
    let f = c.args.function.now in
    let ms : c.as_slice.result.now ≡ mentions_of f = c.as_slice.ensures.value ∙ c.in_ok-found.ensures in
    let ps : c.in_ok-params.params ≡ f.params = c.in_ok-params.ensures ∙ c.as_slice-2.ensures in
    let made : c.in_ok-blocks.blocks ≡ map (promoted_block (widths_by c.in_ok-table.table.items)) f.blocks =
    c.in_ok-blocks.ensures
    ∙ (ap (λ (t : List Standing). map (promoted_block (widths_by t)) c.as_slice-4.result.now) c.as_slice-3.ensures.value
    ∙ ap (λ (bs : List Block). map (promoted_block (widths_by c.in_ok-table.table.items)) bs) c.as_slice-4.ensures) in
    let bs : c.in_ok-blocks.blocks ≡ map (promoted_block (width_in (mentions_of f))) f.blocks =
    made ∙ blocks_are c.in_ok-table.table.items c.as_slice.result.now (mentions_of f) f.blocks c.in_ok-table.ensures ms in
    let ts : c.in_ok-temps.temps ≡ f.temps = c.in_ok-temps.ensures ∙ c.as_slice-5.ensures in
    let ls : c.in_ok-labels.labels ≡ f.labels = c.in_ok-labels.ensures ∙ c.as_slice-6.ensures in
    record { line = refl; exported = refl; name = refl; result = refl; params = ps; temps = ts; labels = ls; blocks = bs }
