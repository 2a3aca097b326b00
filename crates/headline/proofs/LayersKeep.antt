-- The layers of a function keep its calls.
use Rattle.std.proofs.Common.{◌≡◌, ℕ, ◌+◌, ◌-◌, ◌%◌, ◌^◌, ◌<◌, ◌≤◌, List, [], ◌∷◌, refl, sym, subst, arith, Option}
use Rattle.il_ast.specs.declared.operation.Class.{Class}
use Rattle.il_ast.specs.declared.value.Value.{Value}
use Rattle.il_ast.specs.declared.value.Value.TheVariants.{Integer, Pointer, Function}
use Rattle.il_ast.specs.declared.value.End.TheVariants.{Exit, Halt, Undefined, Stack, Turns}
use Rattle.il_ast.specs.Prelude.{Outcome, Returned, Ended, Callees, Event, Asked, Given, Body}
use Rattle.vcode.specs.Prelude.{HasRoom}
use Rattle.vcode.proofs.InPlace.{room_fine, goes_room}
use Rattle.flat_code.specs.Flat.{Bases, Entries, Grown, Shows, AllShow, Frame, FlatGiven, FlatAsked, FlatOutcome, FlatEnded, ShowsGiven}
use Rattle.abi_frames.specs.Performs.{World, GoodStack}
use Rattle.headline.specs.Knot.{Setting, IsSetting, KeptBody, KeepsBody, Layers}
use Rattle.headline.proofs.Answer.{grown_same, answer}
use Rattle.headline.proofs.InPlace.{shown_so}

pub shows_grown : (e : Entries) (p q : Bases) → Grown p q → (v : Value) (x : ℕ) → Shows e p v x → Shows e q v x
shows_grown e p q g (Integer n) x h = h
shows_grown e p q g (Pointer b o) x h = (h.0, g b h.0 h.1, h.2)
shows_grown e p q g (Function f) x h = h

pub all_show_grown : (e : Entries) (p q : Bases) → Grown p q → (vs : List Value) (xs : List ℕ) → AllShow e p vs xs → AllShow e q vs xs
all_show_grown e p q g [] [] h = tt
all_show_grown e p q g [] (x ∷ xs) h = absurd h
all_show_grown e p q g (v ∷ vs) [] h = absurd h
all_show_grown e p q g (v ∷ vs) (x ∷ xs) h = (shows_grown e p q g v x h.0, all_show_grown e p q g vs xs h.1)

-- nothing is owed where the body becomes undefined or runs out of stack
kept_with_room : (c : Setting) (at sp : ℕ) (params : List Class) (result : Option Class) (p : Bases) (i : Given) (j : FlatGiven) (o : Outcome) → (HasRoom o → KeptBody c at sp params result p i j o) → KeptBody c at sp params result p i j o
kept_with_room c at sp params result p i j (Returned s v m) h = h tt
kept_with_room c at sp params result p i j (Ended s (Exit n)) h = h tt
kept_with_room c at sp params result p i j (Ended s Halt) h = h tt
kept_with_room c at sp params result p i j (Ended s Undefined) h =
    record { placed = p; went = FlatEnded s Undefined; grown = grown_same p; shows = (refl, refl); performs = λ u r. tt }
kept_with_room c at sp params result p i j (Ended s Stack) h =
    record { placed = p; went = FlatEnded s Stack; grown = grown_same p; shows = (refl, refl); performs = λ u r. tt }
kept_with_room c at sp params result p i j (Ended s Turns) h = h tt

-- the stack pointer below the frame has the room of the function's own calls
below_frame : (w : World) (sp need frame room : ℕ) → frame ≤ need → frame % 16 ≡ 0 → GoodStack w sp (need + room) → GoodStack w (sp - frame) room
below_frame w sp need frame room fits aligned good =
    let above = good.above in
    let below = good.below in
    let even = good.aligned in
    record { above = omega arith; below = omega arith; aligned = omega arith }

area_below : (bottom sp need frame area room : ℕ) → frame ≤ need → area ≤ frame → bottom + (need + room) ≤ sp → (sp - frame ≤ sp - area) × (sp - area + area ≡ sp)
area_below bottom sp need frame area room ff af h = (omega arith, omega arith)

area_above : (bottom sp need area room : ℕ) → area < need → bottom + (need + room) ≤ sp → bottom < sp - area
area_above bottom sp need area room h k = omega arith

small_stack : (sp top : ℕ) → sp ≤ top → top < 2 ^ 63 → sp < 2 ^ 64
small_stack sp top h k = omega arith

pub layers_keep : {S T : Type 0} (c : Setting) → IsSetting c → (at need frame area turns : ℕ) (params : List Class) (result : Option Class) (globals : List Value) (addresses : List ℕ) (body : Body) (callees : Callees) (start : Given → S) (step : Given → S → Event S Asked Outcome) (flat_start : (base : ℕ) → FlatGiven → T) (flat_step : (base : ℕ) → FlatGiven → T → Event T FlatAsked FlatOutcome) → Layers c at need frame area turns params result globals addresses body callees start step flat_start flat_step → KeepsBody c at need turns params result body callees
layers_keep c is at need frame area turns params result globals addresses body callees start step flat_start flat_step ls kept sp p i j low g args shows good =
    kept_with_room c at sp params result p i j (body callees i) (λ room.
    let bottom = c.world.bottom in
    let places = area_below bottom sp need frame area i.room ls.frame_fits ls.area_fits good.above in
    let run = ls.meaning i low args room in
    let shown : ShowsGiven c.entries p bottom (sp - area + area) i j =
    subst (λ (x : ℕ). ShowsGiven c.entries p bottom x i j) (sym places.1) shows
    in
    let plays =
    ls.flat bottom (sp - frame) (sp - area) places.0
    (area_above bottom sp need area i.room ls.some good.above)
    (subst (λ (x : ℕ). x < 2 ^ 64) (sym places.1) (small_stack sp c.world.top good.below is.world.small))
    run.log i run.went args (room_fine run.went (goes_room run.went (body callees i) run.goes room)) run.steps run.runs p j is.entries
    (all_show_grown c.entries c.start p g globals addresses ls.names)
    shown
    in
    let frame_here : Frame =
    record { entries = c.entries; low = bottom; high = sp - frame; room = i.room; result = result; before = j.memory; made = i.memory }
    in
    let a =
    answer c frame_here is refl refl (below_frame c.world sp need frame i.room ls.frame_fits ls.aligned good)
    (flat_step (sp - area) j) run.went callees kept plays.0 p (flat_start (sp - area) j) run.log g plays.1 run.calls
    in
    let shown_body = shown_so c.entries c.world sp a.placed result j.memory i.memory run.went (body callees i) a.went run.goes a.shows in
    record {
      placed = a.placed;
      went = shown_body.went;
      grown = a.grown;
      shows = shown_body.shows;
      performs =
          λ u ready. shown_body.performs u
          (ls.machine sp j (subst (λ (x : ℕ). GoodStack c.world sp (need + x)) (sym shows.room) good) shows.clear a.log a.went a.steps a.logged a.all u ready);
    })
