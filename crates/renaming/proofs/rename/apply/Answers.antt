use Rattle.std.proofs.Common.{◌≡◌, ℕ, ◌≤◌, true, List, IfSome, sym, subst, rules}
use Rattle.vcode.specs.declared.code.Block.{Block}
use Rattle.vcode.specs.Prelude.{Becomes}
use Rattle.vcode.proofs.Results.{becomes}
use Rattle.renaming.specs.Renamed.{Owners, total, AllRenamed, start_at, keep_names, owners_of}
use Rattle.renaming.proofs.Keeping.{owed}
use Rattle.renaming.proofs.rename.apply.Goals as goal

pub with_blocks-requires-clause-becomes : goal.with_blocks-requires-clause-becomes
with_blocks-requires-clause-becomes c =
    let v = c.args.function.now in
    let o : Owners = record { plain = c.args.plan.now.plain.items; beyond = c.args.plan.now.owners.items } in
    let starts = c.args.plan.now.starts.items in
    let blocks : List (Block ℕ) = c.in-Some-2.blocks.items in
    let count : c.in-Some.registers ≡ total o = c.in-Some.ensures.1.1.0 in
    let more : v.registers ≤ total o = subst (λ n. v.registers ≤ n) count c.in-Some.ensures.1.0 in
    let own : keep_names (start_at starts 0) ≡ true = search rules in
    let found : IfSome c.in_ok-blocks.field-0 (λ w. AllRenamed (owners_of c.in_ok-names.names) starts 0 v.code.blocks w.items) = search rules in
    let all : AllRenamed (owners_of c.in_ok-names.names) starts 0 v.code.blocks blocks = subst (λ x. IfSome x (λ w. AllRenamed (owners_of c.in_ok-names.names) starts 0 v.code.blocks w.items)) c.in-Some-2.is found in
    let mine : AllRenamed o starts 0 v.code.blocks blocks = subst (λ (x : Owners). AllRenamed x starts 0 v.code.blocks blocks) c.in_ok-names.ensures all in
    subst (λ n. Becomes v n c.from_vec.result) (sym count)
    (subst (λ (bs : List (Block ℕ)). Becomes v (total o) bs) (sym c.from_vec.ensures) (becomes v (total o) blocks (owed v o starts blocks more mine own)))
