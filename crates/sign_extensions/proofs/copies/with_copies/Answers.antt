use Rattle.std.proofs.Common.{ℕ, ◌∙◌, ap, map}
use Rattle.vcode.specs.declared.code.Code.{Code}
use Rattle.vcode.proofs.Results.{becomes_these}
use Rattle.sign_extensions.specs.Whole.{with_copies}
use Rattle.sign_extensions.proofs.Keeping.{owed}
use Rattle.sign_extensions.proofs.copies.with_copies.Goals as goal

pub with_blocks-requires-clause-becomes : goal.with_blocks-requires-clause-becomes
with_blocks-requires-clause-becomes c =
    let v = c.args.function.now in
    let marks = c.args.marks.now in
    becomes_these v v.registers (map (with_copies marks) v.code.blocks) c.in_ok-blocks.blocks (owed marks v c.requires) (c.in_ok-blocks.ensures ∙ ap (map (with_copies marks)) c.as_slice.ensures)

pub returns-clause-copied : goal.returns-clause-copied
returns-clause-copied c =
    let code = c.in_ok-made.ensures.code in
    record {
      marks = c.args.marks.now;
      closed = c.requires;
      result = ap (λ (f : Code ℕ). f.result) code;
      params = ap (λ (f : Code ℕ). f.params) code;
      blocks = ap (λ (f : Code ℕ). f.blocks) code ∙ (c.in_ok-blocks.ensures ∙ ap (map (with_copies c.args.marks.now)) c.as_slice.ensures);
      registers = c.in_ok-made.ensures.registers;
    }
