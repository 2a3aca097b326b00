-- The laws of the code of frames.
use Rattle.std.proofs.Common.{◌≡◌, ℕ, ◌-◌, ◌^◌, ◌<◌, List, subst, arith, slice_get, Option, Some}
use Rattle.il_ast.specs.declared.limits.TheConstants.{FUNCTION_WEIGHT}
use Rattle.il_ast.specs.declared.value.End.TheVariants.{Exit, Halt, Undefined, Stack, Turns}
use Rattle.il_ast.specs.Prelude.{one_call, Logged}
use Rattle.rv_isa.specs.Prelude.{Stand}
use Rattle.abi_frames.proofs.Shared.{Class, Location, Code, Item, leb-true}
use Rattle.vcode.specs.declared.function.LFunc.{LFunc}
use Rattle.vcode.specs.Prelude.{area, code_weight, classes_in}
use Rattle.flat_code.specs.Flat.{FlatOutcome, FlatReturned, FlatEnded, flat_after}
use Rattle.flat_code.specs.Step.{flat_begin, flat_step}
use Rattle.abi_frames.specs.Performs.{World, IsWorld, Performs, KeepsFrame, frame_bound, frame_size}
use Rattle.abi_frames.specs.Functions.{IsFrameOf, frame_items, marked_code}
use Rattle.abi_frames.specs.Examples.{IsCode, FramesAreLabelled, FramesAreSmall, FramesPerform, MarkedAreLabelled, MarkedPerform}
use Rattle.frame_ways.specs.Keeping.{FlatFine, KeepsBytes}
use Rattle.abi_frames.proofs.MarkedPerforms.{marked_fits, performs_marked}
use Rattle.abi_frames.proofs.MarkedLabelling.{marked_labelled}
use Rattle.abi_frames.proofs.Sizes.{function_small}
use Rattle.abi_frames.proofs.Labelling.{function_labelled}
use Rattle.abi_frames.proofs.Starting.{frame_fits, performs}

-- a function in location code
pub code_of : (l : LFunc) → IsCode l.code l.slots
code_of l =
    record { few = l.few; regular = l.regular; known = l.known; near = l.near; apart = l.apart; light = l.light }

-- ---- sizes and labels

pub frames_are_small : FramesAreSmall
frames_are_small f slots is = let size = function_small f slots is in omega (arith, size)

pub frames_are_labelled : FramesAreLabelled
frames_are_labelled f slots is =
    let size = function_small f slots is in
    let light = leb-true (code_weight f) FUNCTION_WEIGHT is.light in
    function_labelled f slots is (omega (arith, size, light))

-- ---- the promise

-- what code performs that stands anywhere, its frame fits
is_frame : (f : Code Location) (slots : ℕ) (items : List Item) → IsCode f slots
    → ((w : World) (at : ℕ) (label global : ℕ → ℕ) (addresses : List ℕ) → IsWorld w → ((n a : ℕ) → slice_get addresses n ≡ Some a → global n ≡ a)
    → ((n : ℕ) → global n < 2 ^ 30) → Stand w.memory_map label global items at
    → KeepsFrame w at (frame_bound f slots) (frame_size f slots) (area f) (classes_in f.params) f.result (flat_begin f) (flat_step f addresses))
    → IsFrameOf f slots items
is_frame f slots items is performs =
    let frame = frame_fits f slots is in
    record {
      fits = frame.fits;
      area_fits = omega arith;
      some = omega arith;
      aligned = omega arith;
      keeps = λ w at label global addresses world globals near aligned stands. performs w at label global addresses world globals near stands;
    }

pub frames_perform : FramesPerform
frames_perform f slots is =
    is_frame f slots (frame_items f slots) is (λ w at label global addresses world globals near stands. performs w at label global addresses f slots is world globals near stands)

-- ---- code with marks

pub marked_are_labelled : MarkedAreLabelled
marked_are_labelled f slots marks is near = marked_labelled f slots marks is near

-- what performs what g runs performs what f does, where g keeps f
keeps_frame : (w : World) (at need frame area : ℕ) (classes : List Class) (result : Option Class) (f g : Code Location) (addresses : List ℕ) → KeepsBytes f g
    → KeepsFrame w at need frame area classes result (flat_begin g) (flat_step g addresses)
    → KeepsFrame w at need frame area classes result (flat_begin f) (flat_step f addresses)
keeps_frame w at need frame area classes result f g addresses keeps performs sp j stack clear log r n goes all s ready = by_outcome r goes
  where
    fine : (o : FlatOutcome) → FlatFine o → Logged (flat_step f addresses (sp - area) j) n (flat_begin f (sp - area) j) log o
        → Performs w sp result j.memory s (flat_after one_call o)
    fine o is logged = let same = keeps addresses (sp - area) j log o is n logged in performs sp j stack clear log o same.0 same.1 all s ready

    by_outcome : (o : FlatOutcome) → Logged (flat_step f addresses (sp - area) j) n (flat_begin f (sp - area) j) log o
        → Performs w sp result j.memory s (flat_after one_call o)
    by_outcome (FlatReturned t x m) logged = fine (FlatReturned t x m) tt logged
    by_outcome (FlatEnded t (Exit k)) logged = fine (FlatEnded t (Exit k)) tt logged
    by_outcome (FlatEnded t Halt) logged = fine (FlatEnded t Halt) tt logged
    by_outcome (FlatEnded t Undefined) logged = tt
    by_outcome (FlatEnded t Stack) logged = fine (FlatEnded t Stack) tt logged
    by_outcome (FlatEnded t Turns) logged = fine (FlatEnded t Turns) tt logged

pub marked_perform : MarkedPerform
marked_perform f slots g marks is made same =
    let frame = frame_fits f slots is in
    let fits = frame.fits in
    is_frame f slots (marked_code g slots marks) is
    (λ w at label global addresses world globals near stands.
    keeps_frame w at (frame_bound f slots) (frame_size f slots) (area f) (classes_in f.params) f.result f g addresses made.keeps
    (subst (λ n. KeepsFrame w at (frame_bound f slots) n (area f) (classes_in f.params) f.result (flat_begin g) (flat_step g addresses)) same
    (subst (λ n. KeepsFrame w at (frame_bound f slots) (frame_size g slots) n (classes_in f.params) f.result (flat_begin g) (flat_step g addresses)) made.area
    (subst (λ ds. KeepsFrame w at (frame_bound f slots) (frame_size g slots) (area g) (classes_in ds) f.result (flat_begin g) (flat_step g addresses)) made.params
    (subst (λ o. KeepsFrame w at (frame_bound f slots) (frame_size g slots) (area g) (classes_in g.params) o (flat_begin g) (flat_step g addresses)) made.result
    (performs_marked w at (frame_bound f slots) label global addresses g slots marks (marked_fits g slots marks is.few made.marked) made.marked (omega (arith, same, fits)) world globals near stands))))))
