-- What is known of blocks that need no frame, and of parameters that don't.
use Rattle.std.proofs.Common.{◌≡◌, ℕ, ◌≤◌, Bool, true, false, List, [], ◌∷◌, refl, ◌∙◌, ap, arith, not, ◌||◌, max, nat_eq, slice_get, Some}
use Rattle.abi_frames.proofs.Shared.{Location, InRegister, Slot, Destination, Line, Block, list_all, list_any, and_parts, not-true, and_from, all_at, not_both, nat_tests, is_place, line_keeps, jump_keeps}
use Rattle.vcode.specs.declared.line.Line.TheVariants.{Tick, Set, Operate, Load, Store, Alloc, Blit, Call}
use Rattle.abi_frames.specs.Performs.{is_kept, args_on_stack, most_in_lines, is_register, writes, callee_saved, is_call}
use Rattle.frame_ways.specs.Plans.{is_bare_place, touches_no_slot, is_bare_line, is_bare_block}
use Rattle.abi_frames.proofs.Activations.{place_is, MayWrite}
use Rattle.abi_frames.proofs.Saving.{AllMayWrite}

-- ---- bare lines

-- a register that a callee keeps is among those that it saves
kept_among : (r : ℕ) → 5 ≤ r → is_kept r ≡ true → list_any (λ n. nat_eq n r) callee_saved ≡ true
kept_among r from kept = grind (arith, nat_tests)

-- a place that isn't one of them may be written where nothing is saved
place_may : (slots : ℕ) (to : Location) → is_place slots to ≡ true → list_any (λ n. is_register n to) callee_saved ≡ false → MayWrite [] to
place_may slots (Slot k) good h = tt
place_may slots (InRegister r) good h = λ kept. absurd (not_both (list_any (λ n. nat_eq n r) callee_saved) (kept_among r (place_is slots r good).from_5 kept) h)

any_same : (f g : ℕ → Bool) (xs : List ℕ) → ((n : ℕ) → f n ≡ g n) → list_any f xs ≡ list_any g xs
any_same f g [] h = refl
any_same f g (x ∷ xs) h = ap (λ (t : Bool). t || list_any f xs) (h x) ∙ ap (λ (t : Bool). g x || t) (any_same f g xs h)

-- what is known of a bare block
pub record IsBare (b : Block Location) : Type 0 where
  pub known : list_all (line_keeps (is_place 0)) b.lines ≡ true
  pub jump_known : jump_keeps (is_place 0) b.jump ≡ true
  pub may : (q : ℕ) (l : Line Location) → slice_get b.lines q ≡ Some l → (to : Location) → is_place 0 to ≡ true → ((n : ℕ) → is_register n to ≡ writes n l) → MayWrite [] to
  pub calls : (q : ℕ) (l : Line Location) → slice_get b.lines q ≡ Some l → is_call l ≡ true → ⊥
  pub passes : most_in_lines b.lines ≡ 0

record LineBare (l : Line Location) : Type 0 where
  pub known : line_keeps (is_place 0) l ≡ true
  pub no_call : is_call l ≡ false
  pub no_arguments : args_on_stack l ≡ 0
  pub writes_none : list_any (λ r. writes r l) callee_saved ≡ false

line_bare : (l : Line Location) → is_bare_line l ≡ true → LineBare l
line_bare l h =
    let parts = and_parts (touches_no_slot l) (not (list_any (λ r. writes r l) callee_saved)) h in
    by_line l parts.0 (not-true (list_any (λ r. writes r l) callee_saved) parts.1)
  where
    by_line : (l : Line Location) → touches_no_slot l ≡ true → list_any (λ r. writes r l) callee_saved ≡ false → LineBare l
    by_line (Tick turn w) h none = record { known = refl; no_call = refl; no_arguments = refl; writes_none = none }
    by_line (Set to a) h none = record { known = h; no_call = refl; no_arguments = refl; writes_none = none }
    by_line (Operate to op a b) h none = record { known = h; no_call = refl; no_arguments = refl; writes_none = none }
    by_line (Load to op at) h none = record { known = h; no_call = refl; no_arguments = refl; writes_none = none }
    by_line (Store size a at) h none = record { known = h; no_call = refl; no_arguments = refl; writes_none = none }
    by_line (Alloc to size) h none = absurd (let no : ⊥ = cc in no)
    by_line (Blit from to count) h none = record { known = h; no_call = refl; no_arguments = refl; writes_none = none }
    by_line (Call to callee args) h none = absurd (let no : ⊥ = cc in no)

all_known : (lines : List (Line Location)) → list_all is_bare_line lines ≡ true → list_all (line_keeps (is_place 0)) lines ≡ true
all_known [] h = refl
all_known (l ∷ lines) h =
    let parts = and_parts (is_bare_line l) (list_all is_bare_line lines) h in
    and_from (line_keeps (is_place 0) l) (list_all (line_keeps (is_place 0)) lines) (line_bare l parts.0).known (all_known lines parts.1)

none_passed : (lines : List (Line Location)) → list_all is_bare_line lines ≡ true → most_in_lines lines ≡ 0
none_passed [] h = refl
none_passed (l ∷ lines) h =
    let parts = and_parts (is_bare_line l) (list_all is_bare_line lines) h in
    let here = (line_bare l parts.0).no_arguments in
    let rest = none_passed lines parts.1 in
    ap (λ n. max n (most_in_lines lines)) here ∙ ap (max 0) rest

pub bare_is : (b : Block Location) → is_bare_block b ≡ true → IsBare b
bare_is b h =
    let parts = and_parts (list_all is_bare_line b.lines) (jump_keeps (is_place 0) b.jump) h in
    record {
      known = all_known b.lines parts.0;
      jump_known = parts.1;
      may = λ q l e to good it.
          place_may 0 to good (any_same (λ n. is_register n to) (λ n. writes n l) callee_saved it ∙ (line_bare l (all_at is_bare_line b.lines q l parts.0 e)).writes_none);
      calls = λ q l e call. not_both (is_call l) call (line_bare l (all_at is_bare_line b.lines q l parts.0 e)).no_call;
      passes = none_passed b.lines parts.0;
    }

-- ---- parameters

pub params_bare : (ds : List (Destination Location)) → list_all (λ (d : Destination Location). is_bare_place d.place) ds ≡ true
    → (list_all (λ (d : Destination Location). is_place 0 d.place) ds ≡ true) × AllMayWrite [] ds
params_bare [] h = (refl, tt)
params_bare (d ∷ ds) h =
    let parts = and_parts (is_bare_place d.place) (list_all (λ (e : Destination Location). is_bare_place e.place) ds) h in
    let here = and_parts (is_place 0 d.place) (not (list_any (λ r. is_register r d.place) callee_saved)) parts.0 in
    let rest = params_bare ds parts.1 in (
      and_from (is_place 0 d.place) (list_all (λ (e : Destination Location). is_place 0 e.place) ds) here.0 rest.0,
      (place_may 0 d.place here.0 (not-true (list_any (λ r. is_register r d.place) callee_saved) here.1), rest.1),
    )
