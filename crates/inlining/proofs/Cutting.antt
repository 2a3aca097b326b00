-- A block that is cut at a call of one of the candidates.
use Rattle.std.proofs.Common.{◌≡◌, ℕ, length, slice_get, Option, Some, None, Result, Ok, Err, IfOk, IfSome}
use Rattle.vcode.specs.declared.code.Block.{Block}
use Rattle.vcode.specs.declared.function.VFunc.{VFunc}
use Rattle.inlining.specs.declared.growth.Growth.{Growth}
use Rattle.inlining.specs.declared.growth.Cut.{Cut}
use Rattle.inlining.specs.InPlace.{Site, Candidates}
use Rattle.inlining.specs.Growth.{Answers, StandsAt, IsMade, IsCut}

pub cut_of : {E : Type 0} (candidates : Candidates) (g : Growth) (b : Block ℕ) (line : ℕ) (candidate : VFunc) (s : Site) → s.block ≡ b → slice_get candidates s.name ≡ Some (Some candidate) → Answers candidate s → StandsAt line s
    → (r : Result (Option Cut) E) → IfOk r (λ o. IfSome o (λ c. IsMade g.room (length g.blocks.items) candidate line s c)) → IfOk r (λ o. IfSome o (λ c. IsCut candidates g b c))
cut_of candidates g b line candidate s block named answers stands (Err e) made = tt
cut_of candidates g b line candidate s block named answers stands (Ok None) made = tt
cut_of candidates g b line candidate s block named answers stands (Ok (Some c)) made =
    record { candidate = candidate; line = line; site = s; block = block; named = named; answers = answers; stands = stands; made = made }
