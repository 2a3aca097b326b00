-- A pile is a vector from its end.
use Rattle.std.proofs.Common.{◌≡◌, List, [], ◌∷◌, ◌++◌, refl, ap, ◌∙◌, reverse, length, arith, Option, Some, None, option_to_list, MatchOption}
use Rattle.std.proofs.lemmas.List.{reverse-append}
use Rattle.il_interp.specs.declared.state.Frame.{Frame}
use Rattle.il_interp.specs.Popped.{IsPopped}

pub pushed : (frames : List Frame) (frame : Frame) → reverse (frames ++ frame ∷ []) ≡ frame ∷ reverse frames
pushed frames frame = reverse-append frames (frame ∷ [])

empty_of : (xs : List Frame) → length xs ≡ 0 → xs ≡ []
empty_of [] e = refl
empty_of (x ∷ xs) e = absurd (omega arith)

pub popped : (old new : List Frame) (top : Option Frame) → old ≡ new ++ option_to_list top → MatchOption top (length old ≡ 0) (λ _. Unit {0}) → IsPopped (reverse old) top (reverse new)
popped old new None e n = ap reverse (empty_of old n)
popped old new (Some frame) e n = ap reverse e ∙ pushed new frame
