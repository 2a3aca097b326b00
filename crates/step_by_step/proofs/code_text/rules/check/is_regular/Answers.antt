use Rattle.std.proofs.Common.{◌≤◌, nat_le, List, length, sym, ap, ◌∙◌, subst, arith, le-leb}
use Rattle.std.specs.List.{list_all, sum_by}
use Rattle.il_ast.specs.declared.limits.TheConstants.{FUNCTION_WEIGHT}
use Rattle.vcode.specs.declared.code.Block.{Block}
use Rattle.vcode.specs.Prelude.{is_paid, leads_inside, allocs_first, alloc_bytes, passes_few}
use Rattle.step_by_step.proofs.Turns.{are_paced}
use Rattle.step_by_step.proofs.code_text.rules.check.is_regular.Goals as goal

pub returns : goal.returns
returns g c =
    let Blocks : Type 0 = List (Block g.row.P.Denot) in
    let same = sym c.as_slice-blocks.ensures in
    λ few. record {
      few_params = le-leb (length c.args.code.now.params) 64 (let e = c.len.ensures in let h = c.if-len-gt-ARGUMENTS.false in omega (arith, e, h));
      inside = ap (λ (bs : Blocks). list_all (λ b. leads_inside (length bs) b.jump) bs) same ∙ sym c.are_inside.ensures ∙ c.if-not-are_inside.false;
      first = ap (λ (bs : Blocks). allocs_first bs) same ∙ sym c.allocs_first.ensures ∙ c.if-not-allocs_first.false;
      small = le-leb (sum_by (λ (b : Block g.row.P.Denot). sum_by alloc_bytes b.lines) c.args.code.now.blocks) 1048576
          (subst (λ (bs : Blocks). sum_by (λ (b : Block g.row.P.Denot). sum_by alloc_bytes b.lines) bs ≤ 1048576) c.as_slice-blocks.ensures (c.is_within.ensures c.if-not-is_within.false));
      paid = ap (λ (bs : Blocks). list_all is_paid bs) same ∙ sym c.are_paid.ensures ∙ c.if-not-are_paid.false;
      paced = are_paced c.args.code.now.blocks (ap (λ (bs : Blocks). list_all (λ b. nat_le (length b.lines) FUNCTION_WEIGHT) bs) same ∙ sym c.are_short.ensures ∙ c.if-not-are_short.false);
      few_args = ap (λ (bs : Blocks). list_all (λ b. list_all passes_few b.lines) bs) same ∙ sym c.blocks_pass_few.ensures ∙ few;
    }
