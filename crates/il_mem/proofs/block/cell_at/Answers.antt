use Rattle.std.proofs.Common.{ap, refl, ◌∙◌, ◌≡◌, get_or, arith, unwrap_or}
use Rattle.il_ast.specs.declared.value.Value.TheVariants.{Integer}
use Rattle.il_mem.specs.declared.block.Mark.TheVariants.{Blank, Plain, Part}
use Rattle.il_mem.proofs.JoinedLemmas.{get-joined}
use Rattle.il_mem.proofs.block.cell_at.Goals as goal

pub returns-in-Blank : goal.returns-in-Blank
returns-in-Blank c =
    get-joined c.args.marks.now c.args.values.now c.args.at Blank Blank (get_or c.args.values.now c.args.at (Integer 0)) c.requires c.in-Blank.is refl

pub returns-in-Plain : goal.returns-in-Plain
returns-in-Plain c =
    get-joined c.args.marks.now c.args.values.now c.args.at Blank (Plain c.in-Plain.byte) (get_or c.args.values.now c.args.at (Integer 0)) c.requires c.in-Plain.is refl

pub returns-in-Part : goal.returns-in-Part
returns-in-Part c =
    let found = c.get.ensures.lookup.4 (omega arith) (Integer 0) in
    let value : c.unwrap_or.result ≡ get_or c.args.values.now c.args.at (Integer 0) =
    c.unwrap_or.ensures ∙ (ap (λ o. unwrap_or o (Integer 0)) c.copied.ensures ∙ found) in
    get-joined c.args.marks.now c.args.values.now c.args.at Blank (Part c.in-Part.index) c.unwrap_or.result c.requires c.in-Part.is value
