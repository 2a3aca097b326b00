use Rattle.std.proofs.Common.{◌≡◌, ◌≤◌, ◌<◌, ◌+◌, ◌^◌, true, sym, subst, List, ℕ, arith, length}
use Rattle.il_ast.specs.declared.limits.TheConstants.{ALLOC_BYTES}
use Rattle.vcode.specs.Prelude.{alloc_bytes, passes_few}
use Rattle.abi_frames.proofs.Shared.{Location, Destination, Block, Layout, list_all, sum_by, leb-true}
use Rattle.frame_ways.proofs.Suiting.{no_area}
use Rattle.abi_frames.proofs.Saving.{few_saved_registers}
use Rattle.abi_frames.proofs.Joining.{marked_are}
use Rattle.abi_frames.proofs.frame.marked_items.Goals as goal

pub push_marked-requires-clause-room : goal.push_marked-requires-clause-room
push_marked-requires-clause-room c =
    let none = no_area c.args.marked.now.code.blocks c.requires.is.none_made in
    subst (λ (bs : List (Block Location)). sum_by (λ (b : Block Location). sum_by alloc_bytes b.lines) bs ≤ ALLOC_BYTES) (sym c.as_slice-3.ensures) (omega (arith, none))

pub push_marked-requires-clause-calls : goal.push_marked-requires-clause-calls
push_marked-requires-clause-calls c =
    subst (λ (bs : List (Block Location)). list_all (λ (b : Block Location). list_all passes_few b.lines) bs ≡ true) (sym c.as_slice-3.ensures) c.requires.is.few_args

pub push_marked-requires-clause-few : goal.push_marked-requires-clause-few
push_marked-requires-clause-few c =
    subst (λ (ds : List (Destination Location)). length ds ≤ 64) (sym c.as_slice.ensures) (leb-true (length c.args.marked.now.code.params) 64 c.requires.is.few_params)

pub push_marked-requires-clause-few_saved : goal.push_marked-requires-clause-few_saved
push_marked-requires-clause-few_saved c =
    subst (λ (rs : List ℕ). length rs ≤ 13) (sym c.requires.registers) (few_saved_registers c.args.marked.now.code)

pub push_marked-requires-clause-small : goal.push_marked-requires-clause-small
push_marked-requires-clause-small c = let small = c.requires.small in subst (λ (y : Layout). y.leave + 1 < 2 ^ 64) (sym c.requires.plan) (omega (arith, small))

pub returns : goal.returns
returns c =
    marked_are _ _ _ _ _ _ _ _ _ _ _ _ c.in_ok-push_marked.ensures c.new-items.ensures.items c.requires.plan c.requires.registers c.as_slice.ensures c.as_slice-2.ensures.value c.as_slice-3.ensures
