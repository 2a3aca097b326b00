-- Location code that is a function's, on bytes and in its frame, keeps the function with the stack that a call of it is counted for.
use Rattle.std.proofs.Common.{◌≡◌, ℕ, ◌+◌, ◌≤◌, List, subst, arith, Option}
use Rattle.il_ast.specs.declared.operation.Class.{Class}
use Rattle.il_ast.specs.declared.function.Func.{Func}
use Rattle.il_ast.specs.Prelude.{need, Event, classes_of}
use Rattle.vcode.specs.declared.place.Location.{Location}
use Rattle.vcode.specs.declared.code.Code.{Code}
use Rattle.vcode.specs.Prelude.{classes_in, located, area, begin, step}
use Rattle.flat_code.specs.Flat.{Names, FlatGiven, FlatAsked, FlatOutcome, KeepsFlat}
use Rattle.flat_code.specs.Laws.{FlatKept}
use Rattle.flat_code.specs.Step.{flat_begin, flat_step}
use Rattle.abi_frames.specs.Performs.{World, GoodStack, frame_bound, frame_size, FramePromise}
use Rattle.abi_frames.specs.Functions.{IsFrameOf}
use Rattle.rv_isa.specs.declared.labelled.Item.{Item}

-- with more stack, of which less was asked
less_stack : (w : World) (sp low high room : ℕ) → low ≤ high → GoodStack w sp (high + room) → GoodStack w sp (low + room)
less_stack w sp low high room le good = let above = good.above in record { above = omega (arith, above, le); below = good.below; aligned = good.aligned }

more_need : {T : Type 0} (items : List Item) (low high frame area : ℕ) (params : List Class) (result : Option Class) (start : (addresses : List ℕ) → (base : ℕ) → FlatGiven → T) (step : (addresses : List ℕ) → (base : ℕ) → FlatGiven → T → Event T FlatAsked FlatOutcome) → low ≤ high → FramePromise items low frame area params result start step → FramePromise items high frame area params result start step
more_need items low high frame area params result start step le f =
    let fits = f.fits in
    let some = f.some in
    record {
      fits = omega (arith, fits, le);
      area_fits = f.area_fits;
      some = omega (arith, some, le);
      aligned = f.aligned;
      keeps = λ w at label global addresses world names near even stand sp j good. f.keeps w at label global addresses world names near even stand sp j (less_stack w sp low high j.room le good);
    }

pub bytes_in_need : (f : Func) (code : Code Location) → classes_in code.params ≡ classes_of f.params → code.result ≡ f.result → FlatKept code → (names : Names)
    → KeepsFlat names (classes_of f.params) f.result (area code) (begin located code) (step located names.globals code) (flat_begin code) (flat_step code names.addresses)
bytes_in_need f code params result kept names =
    subst (λ (cs : List Class). KeepsFlat names cs f.result (area code) (begin located code) (step located names.globals code) (flat_begin code) (flat_step code names.addresses)) params
    (subst (λ (r : Option Class). KeepsFlat names (classes_in code.params) r (area code) (begin located code) (step located names.globals code) (flat_begin code) (flat_step code names.addresses)) result (kept names))

pub frame_in_need : (f : Func) (code : Code Location) (slots : ℕ) (items : List Item) → classes_in code.params ≡ classes_of f.params → code.result ≡ f.result → frame_bound code slots ≤ need f → IsFrameOf code slots items
    → FramePromise items (need f) (frame_size code slots) (area code) (classes_of f.params) f.result (λ addresses. flat_begin code) (λ addresses. flat_step code addresses)
frame_in_need f code slots items params result fits frame =
    more_need items (frame_bound code slots) (need f) (frame_size code slots) (area code) (classes_of f.params) f.result (λ addresses. flat_begin code) (λ addresses. flat_step code addresses) fits
    (subst (λ (cs : List Class). FramePromise items (frame_bound code slots) (frame_size code slots) (area code) cs f.result (λ addresses. flat_begin code) (λ addresses. flat_step code addresses)) params
    (subst (λ (r : Option Class). FramePromise items (frame_bound code slots) (frame_size code slots) (area code) (classes_in code.params) r (λ addresses. flat_begin code) (λ addresses. flat_step code addresses)) result frame))
