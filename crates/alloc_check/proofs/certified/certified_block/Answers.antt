use Rattle.std.proofs.Common.{◌≡◌, ◌∙◌, ◌++◌, ℕ, List, ap}
use Rattle.vcode.specs.declared.code.Block.{Block}
use Rattle.vcode.specs.declared.line.Jump.{Jump}
use Rattle.vcode.specs.declared.line.Line.{Line}
use Rattle.vcode.specs.declared.place.Location.{Location}
use Rattle.certificates.specs.declared.certificate.Equality.{Equality}
use Rattle.alloc_check.specs.Prelude.{placed_jump, certified_lines, jump_point, layout_at, place_by}
use Rattle.alloc_check.proofs.certified.certified_block.Goals as goal

abbrev made_of : List (Line Location) → Jump Location → Block Location
made_of lines jump = record { lines = lines; jump = jump }

pub returns : goal.returns
returns c =
    let s = c.args.certificate.now in
    let first = c.args.first in
    let b = c.args.block.now in
    let from = c.as_slice-from.result.now in
    let lines : c.push_lines.new.placed ≡ certified_lines s first b.lines =
    c.in_ok-push_lines.ensures
    ∙ ap (λ (ls : List (Line Location)). ls ++ certified_lines s first from) (c.from_vec-lines.ensures ∙ c.in_ok-with_capacity.ensures.items)
    ∙ ap (certified_lines s first) c.as_slice-from.ensures in
    let jump : c.jump.result ≡ placed_jump (layout_at s (jump_point first b.lines)) b.jump =
    c.jump.ensures
    ∙ ap (λ (es : List Equality). placed_jump (place_by es) b.jump) c.places_at.ensures
    ∙ ap (λ (n : ℕ). placed_jump (layout_at s n) b.jump) (c.jump_point.ensures ∙ ap (jump_point first) c.as_slice-from.ensures) in
    ap (λ (ls : List (Line Location)). made_of ls c.jump.result) lines ∙ ap (made_of (certified_lines s first b.lines)) jump
