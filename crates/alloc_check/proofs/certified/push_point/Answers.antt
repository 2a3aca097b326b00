use Rattle.std.proofs.Common.{◌≡◌, ◌++◌, List, [], ◌∷◌, ap, ◌∙◌}
use Rattle.vcode.specs.declared.line.Line.{Line}
use Rattle.vcode.specs.declared.place.Location.{Location}
use Rattle.certificates.specs.declared.certificate.Equality.{Equality}
use Rattle.alloc_check.specs.Prelude.{placed_line, layout_at, transfers, place_by, moves_before}
use Rattle.alloc_check.proofs.Walks.{append_three}
use Rattle.alloc_check.proofs.certified.push_point.Goals as goal

pub returns : goal.returns
returns c =
    let certificate = c.args.certificate.now in
    let before = transfers (moves_before certificate c.args.at c.args.from.now) in
    let line = placed_line (layout_at certificate c.args.at) c.args.from.now in
    let is : c.in_ok-to.to ≡ line = c.in_ok-to.ensures ∙ ap (λ (es : List Equality). placed_line (place_by es) c.args.from.now) c.places_at.ensures in
    let moved : c.push_moves.new.placed ≡ c.args.placed.now ++ before = c.in_ok-push_moves.ensures ∙ ap (λ ms. c.args.placed.now ++ transfers ms) c.moves_before.ensures in
    c.in_ok-push.ensures.ok
    ∙ ap (λ (l : Line Location). c.push_moves.new.placed ++ l ∷ []) is
    ∙ ap (λ xs. xs ++ line ∷ []) moved
    ∙ append_three c.args.placed.now before (line ∷ [])
