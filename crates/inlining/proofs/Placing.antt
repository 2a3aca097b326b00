-- Functions with calls of candidates in place run as they did, where calls go so.
use Rattle.std.proofs.Common.{◌≡◌, ℕ, ◌<◌, ◌++◌, List, length, Result, Ok, Err, refl, subst, IfOk, slice_set, slice_index_or}
use Rattle.vcode.specs.declared.code.Block.{Block}
use Rattle.vcode.specs.declared.code.Code.{Code}
use Rattle.vcode.specs.declared.function.VFunc.{VFunc}
use Rattle.vcode.specs.Prelude.{classes_in, KeepsIn, virtual, begin, step}
use Rattle.vcode.proofs.InPlace.{keeps_in_itself, keeps_in_after}
use Rattle.inlining.specs.declared.growth.Growth.{Growth}
use Rattle.inlining.specs.declared.growth.Cut.{Cut}
use Rattle.inlining.specs.InPlace.{in_place, Candidates, Grows, AsItWas, OneMore, KeepsCalls}
use Rattle.inlining.specs.Laws.{CallsInPlaceKeep}
use Rattle.inlining.specs.Growth.{IsCut, IsGrowth}
use Rattle.inlining.proofs.Growing.{grown}
use Rattle.std.proofs.lemmas.Option.{slice_get-get_or}

-- ---- what it does

pub calls_kept_itself : (candidates : Candidates) (v : Code ℕ) → KeepsCalls candidates v v
calls_kept_itself candidates v =
    record { params = refl; result = refl; runs = λ callees turns globals are. keeps_in_itself callees turns (classes_in v.params) (begin virtual v) (step virtual globals v) }

pub calls_kept : (law : CallsInPlaceKeep) (candidates : Candidates) (v : Code ℕ) (registers : ℕ) (w : Code ℕ) (more : ℕ) → Grows candidates v registers w more → KeepsCalls candidates v w
calls_kept law candidates v registers w more AsItWas = calls_kept_itself candidates v
calls_kept law candidates v registers z more (OneMore {w = w} {base = base} {k = k} {j = j} {s = s} {candidate = candidate} before named site) =
    let on = calls_kept law candidates v registers w base before in
    let code : Code ℕ = in_place w candidate.code base k j s in
    record {
      params = on.params;
      result = on.result;
      runs = λ callees turns globals are.
          let is = are s.name candidate named in
          let here =
          subst
          (λ params. KeepsIn callees turns params (begin virtual w) (step virtual globals w) (begin virtual code) (step virtual globals code)) on.params
          (law w candidate.code base k j s site callees turns globals is.callee is.is is.goes) in
          keeps_in_after callees turns (classes_in v.params) (begin virtual v) (step virtual globals v) (begin virtual w) (step virtual globals w) (begin virtual code) (step virtual globals code)
          (on.runs callees turns globals are) here;
    }

-- ---- one call more

pub placed_on : {E : Type 0} (candidates : Candidates) (g : Growth) (k : ℕ) (b : Block ℕ) (c : Cut) → k < length g.blocks.items → IsCut candidates g (slice_index_or g.blocks.items k b) c → (r : Result Growth E)
    → IfOk r (λ h. h.blocks.items ≡ slice_set g.blocks.items k c.up_to ++ c.behind.items) → IfOk r (λ h. h.room ≡ c.room) → IfOk r (λ h. (v : VFunc) → IsGrowth candidates v g → IsGrowth candidates v h)
placed_on candidates g k b c low cut (Err e) blocks room = tt
placed_on candidates g k b c low cut (Ok h) blocks room = λ v before.
    let bs : List (Block ℕ) = g.blocks.items in grown candidates v g h k (slice_index_or bs k b) c before (slice_get-get_or bs k b low) cut blocks room
