-- One turn on both sides.
use Rattle.std.proofs.Common.{◌≡◌, ℕ, ◌+◌, ◌<◌, ◌≤◌, Bool, true, false, not, nat_eq, nat_lt, cond, List, [], ◌∷◌, ◌++◌, map, length, refl, sym, ◌∙◌, ap, subst, arith, slice_get, slice_set, Option, Some, None, option_map, option_and_then}
use Rattle.std.specs.List.{flat_map, find, position_or_len}
use Rattle.std.proofs.lemmas.List.{length-map}
use Rattle.std.proofs.lemmas.Bool.Decides.{nat_tests}
use Rattle.std.proofs.lemmas.Option.{slice_get-map, slice_get_within}
use Rattle.il_ast.specs.declared.operation.Class.{Class}
use Rattle.il_ast.specs.declared.operation.Class.TheVariants.{W}
use Rattle.il_ast.specs.declared.operand.Val.{Val}
use Rattle.il_ast.specs.declared.operand.Dest.{Dest}
use Rattle.il_ast.specs.declared.instruction.Inst.{Inst}
use Rattle.il_ast.specs.declared.instruction.Jump.{Jump}
use Rattle.il_ast.specs.declared.instruction.Jump.TheVariants.{Goto, Branch, Return, Halt as HaltJump}
use Rattle.il_ast.specs.declared.instruction.Lined.{Lined}
use Rattle.il_ast.specs.declared.block.Phi.{Phi}
use Rattle.il_ast.specs.declared.block.PhiArg.{PhiArg}
use Rattle.il_ast.specs.declared.block.Block.{Block}
use Rattle.il_ast.specs.declared.function.Func.{Func}
use Rattle.il_ast.specs.declared.value.Value.{Value}
use Rattle.il_ast.specs.declared.value.Value.TheVariants.{Integer, Pointer, Function}
use Rattle.il_ast.specs.declared.value.End.{End}
use Rattle.il_ast.specs.declared.value.End.TheVariants.{Exit, Halt, Undefined, Stack, Turns}
use Rattle.il_ast.specs.Prelude.{Memory, free, free_all, Activation, Env, Call, operand, InstEffect, Done, Asks, Fails, inst_effect, Effect, Goes, Returns, Ends, phi_value, phi_values, with_phis, place_of, entered, enter_at, enter_place, enter, branch_to, branched, returned, return_value, jump_effect, end_effect, after_inst, turn_in, turn_of, effect}
use Rattle.il_ast.specs.Effect.{Calls}
use Rattle.promote.specs.Uses.{phi_arg_mentions, phi_mentions, inst_mentions, jump_mentions, end_mentions, block_mentions, param_mentions, mentions_of, Widths, Rewrites, promoted, promoted_line, promoted_block}
use Rattle.promote.proofs.Respect.{Respected, respected_first, respected_then, respected_at}
use Rattle.promote.proofs.Hiding.{Marks, moved, moved_if, shown, IfClean, CleanAll, CleanMemory, Extends, AllMade, free_all_shows, free_all_clean}
use Rattle.promote.proofs.Sides.{KeptHidden}
use Rattle.promote.proofs.Instructions.{Setting, State, held_as, across, moved_call, moved_all, cons_moved, DestPlain, GoesSo, PlainValue, plain_value, suited_plain, operand_alike, operand_clean, state_assign}
use Rattle.promote.proofs.Locals.{inst_so}
use Rattle.il_ast.proofs.Listed.{get_set_other}
use Rattle.il_ast.proofs.Measured.{length_freed}

-- the same place, with what the activation holds on the other side
abbrev pub beside : Marks → Activation → List (Option Value) → Activation
beside hs a us = record { block = a.block; next = a.next; locals = across hs us a.locals.owned }

pub record WentSo (c : Setting) (weight : ℕ) (a : Activation) (m : Memory) (e : Effect) : Type 0 where
  pub marks : Marks
  pub temps : List (Option Value)
  pub is : e ≡ Goes weight (beside marks a temps) (shown marks m)
  pub state : State c marks m a.locals.temps temps a.locals.owned

pub record CallsSo (c : Setting) (hs : Marks) (m : Memory) (us : List (Option Value)) (weight : ℕ) (call : Call) (to : Option Dest) (a : Activation) (e : Effect) : Type 0 where
  pub is : e ≡ Calls weight (moved_call hs call) to (beside hs a us)
  pub state : State c hs m a.locals.temps us a.locals.owned
  pub args : CleanAll hs call.args
  pub plain : DestPlain c.widths to

-- a memory that is left, with its marks
pub record Left (c : Setting) (hs : Marks) (m : Memory) : Type 0 where
  pub alike : length hs ≡ length m
  pub grown : Extends c.marks hs
  pub clean : CleanMemory hs m
  pub kept : KeptHidden c.marks c.memory m
  pub low : length c.memory ≤ length m

pub record ReturnsSo (c : Setting) (v : Option Value) (m : Memory) (e : Effect) : Type 0 where
  pub marks : Marks
  pub is : e ≡ Returns (moved_if marks v) (shown marks m)
  pub clean : IfClean marks v
  pub left : Left c marks m

abbrev pub EndsSo : End → Effect → Type 0
EndsSo Undefined e = Unit {0}
EndsSo (Exit n) e = e ≡ Ends (Exit n)
EndsSo Halt e = e ≡ Ends Halt
EndsSo Stack e = e ≡ Ends Stack
EndsSo Turns e = e ≡ Ends Turns

-- the second effect goes with the first; nothing is owed where the run becomes undefined
abbrev pub TurnSo : Setting → Marks → Memory → List (Option Value) → Effect → Effect → Type 0
TurnSo c hs m us (Goes weight a now) e = WentSo c weight a now e
TurnSo c hs m us (Calls weight call to a) e = CallsSo c hs m us weight call to a e
TurnSo c hs m us (Returns v now) e = ReturnsSo c v now e
TurnSo c hs m us (Ends x) e = EndsSo x e

-- ---- instructions

after_so : (c : Setting) (hs : Marks) (m : Memory) (ts us : List (Option Value)) (owned : List ℕ) (b k : ℕ) → State c hs m ts us owned → (e e2 : InstEffect) → GoesSo c hs e e2 → TurnSo c hs m us (after_inst b k (held_as ts owned) e) (after_inst b k (across hs us owned) e2)
after_so c hs m ts us owned b k st (Done weight now n) e2 h =
    record { marks = h.marks; temps = h.temps; is = ap (after_inst b k (across hs us owned)) h.is; state = h.state }
after_so c hs m ts us owned b k st (Asks weight call to) e2 h =
    record { is = ap (after_inst b k (across hs us owned)) h.0; state = st; args = h.1; plain = h.2 }
after_so c hs m ts us owned b k st Fails e2 h = tt

-- ---- phis

abbrev PlainPhiArgs : Widths → List PhiArg → Type 0
PlainPhiArgs w [] = Unit {0}
PlainPhiArgs w (a ∷ args) = PlainValue w a.value × PlainPhiArgs w args

abbrev PlainPhis : Widths → List Phi → Type 0
PlainPhis w [] = Unit {0}
PlainPhis w (p ∷ ps) = (w p.to.temp ≡ None) × PlainPhiArgs w p.args × PlainPhis w ps

plain_phi_args : (w : Widths) (args : List PhiArg) → Respected w (flat_map phi_arg_mentions args) → PlainPhiArgs w args
plain_phi_args w [] h = tt
plain_phi_args w (a ∷ args) h = (
  plain_value w a.value (respected_first w (phi_arg_mentions a) (flat_map phi_arg_mentions args) h),
  plain_phi_args w args (respected_then w (phi_arg_mentions a) (flat_map phi_arg_mentions args) h),
)

plain_phis : (w : Widths) (ps : List Phi) → Respected w (flat_map phi_mentions ps) → PlainPhis w ps
plain_phis w [] h = tt
plain_phis w (p ∷ ps) h =
    let here = respected_first w (phi_mentions p) (flat_map phi_mentions ps) h in (
      suited_plain w p.to.temp here.0,
      plain_phi_args w p.args here.1,
      plain_phis w ps (respected_then w (phi_mentions p) (flat_map phi_mentions ps) h),
    )

abbrev IfPlainArg : Widths → Option PhiArg → Type 0
IfPlainArg w None = Unit {0}
IfPlainArg w (Some a) = PlainValue w a.value

found_by : (w : Widths) (a : PhiArg) (o : Option PhiArg) (b : Bool) → PlainValue w a.value → IfPlainArg w o → IfPlainArg w (cond b (Some a) o)
found_by w a o true h k = h
found_by w a o false h k = k

found_plain : (w : Widths) (from : ℕ) (args : List PhiArg) → PlainPhiArgs w args → IfPlainArg w (find (λ (a : PhiArg). nat_eq a.from from) args)
found_plain w from [] h = tt
found_plain w from (a ∷ args) h = found_by w a (find (λ (a : PhiArg). nat_eq a.from from) args) (nat_eq a.from from) h.0 (found_plain w from args h.1)

arg_alike : (c : Setting) (hs : Marks) (m : Memory) (ts us : List (Option Value)) (owned : List ℕ) → State c hs m ts us owned → (k : Class) (o : Option PhiArg) → IfPlainArg c.widths o → option_and_then (λ (a : PhiArg). operand c.globals us k a.value) o ≡ moved_if hs (option_and_then (λ (a : PhiArg). operand c.globals ts k a.value) o)
arg_alike c hs m ts us owned st k None h = refl
arg_alike c hs m ts us owned st k (Some a) h = operand_alike c hs m ts us owned st k a.value h

arg_clean : (c : Setting) (hs : Marks) (m : Memory) (ts us : List (Option Value)) (owned : List ℕ) → State c hs m ts us owned → (k : Class) (o : Option PhiArg) → IfPlainArg c.widths o → IfClean hs (option_and_then (λ (a : PhiArg). operand c.globals ts k a.value) o)
arg_clean c hs m ts us owned st k None h = tt
arg_clean c hs m ts us owned st k (Some a) h = operand_clean c hs m ts us owned st k a.value h

abbrev IfCleanAll : Marks → Option (List Value) → Type 0
IfCleanAll hs None = Unit {0}
IfCleanAll hs (Some vs) = CleanAll hs vs

cons_clean : (hs : Marks) (x : Option Value) (ys : Option (List Value)) → IfClean hs x → IfCleanAll hs ys → IfCleanAll hs (option_and_then (λ v. option_map (λ vs. v ∷ vs) ys) x)
cons_clean hs None ys h k = tt
cons_clean hs (Some v) None h k = tt
cons_clean hs (Some v) (Some vs) h k = (h, k)

phis_alike : (c : Setting) (hs : Marks) (m : Memory) (ts us : List (Option Value)) (owned : List ℕ) → State c hs m ts us owned → (from : ℕ) (ps : List Phi) → PlainPhis c.widths ps → phi_values c.globals us from ps ≡ moved_all hs (phi_values c.globals ts from ps)
phis_alike c hs m ts us owned st from [] h = refl
phis_alike c hs m ts us owned st from (p ∷ ps) h =
    ap (option_and_then (λ v. option_map (λ vs. v ∷ vs) (phi_values c.globals us from ps)))
    (arg_alike c hs m ts us owned st p.to.class (find (λ (a : PhiArg). nat_eq a.from from) p.args) (found_plain c.widths from p.args h.1))
    ∙ (ap (λ y. option_and_then (λ v. option_map (λ vs. v ∷ vs) y) (moved_if hs (phi_value c.globals ts from p))) (phis_alike c hs m ts us owned st from ps h.2)
    ∙ cons_moved hs (phi_value c.globals ts from p) (phi_values c.globals ts from ps))

phis_clean : (c : Setting) (hs : Marks) (m : Memory) (ts us : List (Option Value)) (owned : List ℕ) → State c hs m ts us owned → (from : ℕ) (ps : List Phi) → PlainPhis c.widths ps → IfCleanAll hs (phi_values c.globals ts from ps)
phis_clean c hs m ts us owned st from [] h = tt
phis_clean c hs m ts us owned st from (p ∷ ps) h =
    cons_clean hs (phi_value c.globals ts from p) (phi_values c.globals ts from ps)
    (arg_clean c hs m ts us owned st p.to.class (find (λ (a : PhiArg). nat_eq a.from from) p.args) (found_plain c.widths from p.args h.1))
    (phis_clean c hs m ts us owned st from ps h.2)

state_phis : (c : Setting) (hs : Marks) (m : Memory) (ts us : List (Option Value)) (owned : List ℕ) (ps : List Phi) (vs : List Value) → State c hs m ts us owned → PlainPhis c.widths ps → CleanAll hs vs → State c hs m (with_phis ts ps vs) (with_phis us ps (map (moved hs) vs)) owned
state_phis c hs m ts us owned [] vs st h k = st
state_phis c hs m ts us owned (p ∷ ps) [] st h k = st
state_phis c hs m ts us owned (p ∷ ps) (v ∷ vs) st h k =
    state_phis c hs m (slice_set ts p.to.temp (Some v)) (slice_set us p.to.temp (Some (moved hs v))) owned ps vs
    (state_assign c hs m ts us owned p.to.temp v st h.0 k.0) h.2 k.1

entered_so : (c : Setting) (hs : Marks) (m : Memory) (ts us : List (Option Value)) (owned : List ℕ) (k : ℕ) (ps : List Phi) (o : Option (List Value)) → State c hs m ts us owned → PlainPhis c.widths ps → IfCleanAll hs o → TurnSo c hs m us (entered (held_as ts owned) m k ps o) (entered (across hs us owned) (shown hs m) k ps (moved_all hs o))
entered_so c hs m ts us owned k ps None st h i = tt
entered_so c hs m ts us owned k ps (Some vs) st h i =
    record { marks = hs; temps = with_phis us ps (map (moved hs) vs); is = refl; state = state_phis c hs m ts us owned ps vs st h i }

-- ---- blocks

abbrev first_env : Setting → Func → Env
first_env c f = record { func = f; globals = c.globals }

prefix_stays : (w : Widths) (bs : List Block) (l : ℕ) → position_or_len (λ (b : Block). nat_eq b.label l) (map (promoted_block w) bs) ≡ position_or_len (λ (b : Block). nat_eq b.label l) bs
prefix_stays w [] l = refl
prefix_stays w (b ∷ bs) l = ap (λ n. cond (not (nat_eq b.label l)) (1 + n) 0) (prefix_stays w bs l)

place_stays : (w : Widths) (bs : List Block) (l : ℕ) → place_of (map (promoted_block w) bs) l ≡ place_of bs l
place_stays w bs l =
    ap (λ n. cond (nat_lt n (length (map (promoted_block w) bs))) (Some n) None) (prefix_stays w bs l)
    ∙ ap (λ n. cond (nat_lt (position_or_len (λ (b : Block). nat_eq b.label l) bs) n) (Some (position_or_len (λ (b : Block). nat_eq b.label l) bs)) None) (length-map bs (promoted_block w))

block_respected : (w : Widths) (f : Func) (k : ℕ) (b : Block) → Respected w (mentions_of f) → slice_get f.blocks k ≡ Some b → Respected w (block_mentions b)
block_respected w f k b h e =
    respected_at w block_mentions f.blocks k b (respected_then w (flat_map param_mentions f.params) (flat_map block_mentions f.blocks) h) e

block_is : (w : Widths) (f g : Func) (k : ℕ) → Rewrites w f g → slice_get g.blocks k ≡ option_map (promoted_block w) (slice_get f.blocks k)
block_is w f g k r = ap (λ bs. slice_get bs k) r.blocks ∙ slice_get-map (promoted_block w) f.blocks k

-- the two functions, and where both stand
pub record Pair (c : Setting) (f g : Func) : Type 0 where
  pub rewrites : Rewrites c.widths f g
  pub respected : Respected c.widths (mentions_of f)

enter_at_so : (c : Setting) (f g : Func) (hs : Marks) (m : Memory) (ts us : List (Option Value)) (owned : List ℕ) (from k : ℕ) (o : Option Block) → Pair c f g → State c hs m ts us owned → slice_get f.blocks k ≡ o → TurnSo c hs m us (enter_at (first_env c f) from (held_as ts owned) m k o) (enter_at (first_env c g) from (across hs us owned) (shown hs m) k (option_map (promoted_block c.widths) o))
enter_at_so c f g hs m ts us owned from k None p st e = tt
enter_at_so c f g hs m ts us owned from k (Some b) p st e =
    let plain = plain_phis c.widths b.phis (respected_first c.widths (flat_map phi_mentions b.phis) (flat_map inst_mentions b.insts ++ end_mentions b.jump) (block_respected c.widths f k b p.respected e)) in
    subst (λ x. TurnSo c hs m us (entered (held_as ts owned) m k b.phis (phi_values c.globals ts from b.phis)) (entered (across hs us owned) (shown hs m) k b.phis x))
    (sym (phis_alike c hs m ts us owned st from b.phis plain))
    (entered_so c hs m ts us owned k b.phis (phi_values c.globals ts from b.phis) st plain (phis_clean c hs m ts us owned st from b.phis plain))

enter_place_so : (c : Setting) (f g : Func) (hs : Marks) (m : Memory) (ts us : List (Option Value)) (owned : List ℕ) (from : ℕ) (o : Option ℕ) → Pair c f g → State c hs m ts us owned → TurnSo c hs m us (enter_place (first_env c f) from (held_as ts owned) m o) (enter_place (first_env c g) from (across hs us owned) (shown hs m) o)
enter_place_so c f g hs m ts us owned from None p st = tt
enter_place_so c f g hs m ts us owned from (Some k) p st =
    subst (λ x. TurnSo c hs m us (enter_at (first_env c f) from (held_as ts owned) m k (slice_get f.blocks k)) (enter_at (first_env c g) from (across hs us owned) (shown hs m) k x))
    (sym (block_is c.widths f g k p.rewrites)) (enter_at_so c f g hs m ts us owned from k (slice_get f.blocks k) p st refl)

enter_so : (c : Setting) (f g : Func) (hs : Marks) (m : Memory) (ts us : List (Option Value)) (owned : List ℕ) (from l : ℕ) → Pair c f g → State c hs m ts us owned → TurnSo c hs m us (enter (first_env c f) from (held_as ts owned) m l) (enter (first_env c g) from (across hs us owned) (shown hs m) l)
enter_so c f g hs m ts us owned from l p st =
    subst (λ x. TurnSo c hs m us (enter_place (first_env c f) from (held_as ts owned) m (place_of f.blocks l)) (enter_place (first_env c g) from (across hs us owned) (shown hs m) x))
    (sym (ap (λ bs. place_of bs l) p.rewrites.blocks ∙ place_stays c.widths f.blocks l)) (enter_place_so c f g hs m ts us owned from (place_of f.blocks l) p st)

branch_moved : (hs : Marks) (v : Value) (nonzero otherwise : ℕ) → branch_to (moved hs v) nonzero otherwise ≡ branch_to v nonzero otherwise
branch_moved hs (Integer n) nonzero otherwise = refl
branch_moved hs (Pointer b o) nonzero otherwise = refl
branch_moved hs (Function f) nonzero otherwise = refl

branch_so : (c : Setting) (f g : Func) (hs : Marks) (m : Memory) (ts us : List (Option Value)) (owned : List ℕ) (from nonzero otherwise : ℕ) (o : Option Value) → Pair c f g → State c hs m ts us owned → TurnSo c hs m us (branched (first_env c f) from (held_as ts owned) m nonzero otherwise o) (branched (first_env c g) from (across hs us owned) (shown hs m) nonzero otherwise (moved_if hs o))
branch_so c f g hs m ts us owned from nonzero otherwise None p st = tt
branch_so c f g hs m ts us owned from nonzero otherwise (Some v) p st =
    subst (λ l. TurnSo c hs m us (enter (first_env c f) from (held_as ts owned) m (branch_to v nonzero otherwise)) (enter (first_env c g) from (across hs us owned) (shown hs m) l))
    (sym (branch_moved hs v nonzero otherwise)) (enter_so c f g hs m ts us owned from (branch_to v nonzero otherwise) p st)

-- ---- returns

free_kept : (c : Setting) (hs : Marks) (m : Memory) (bs : List ℕ) → AllMade hs (length c.memory) bs → KeptHidden c.marks c.memory m → KeptHidden c.marks c.memory (free_all m bs)
free_kept c hs m [] h k = k
free_kept c hs m (b ∷ bs) h k =
    free_kept c hs (free m b) bs h.1
    (λ d e.
    let within = slice_get_within c.marks d true e in
    let alike = c.alike in
    let from = h.0.since in
    let lt : d < b = omega (arith, within, alike, from) in
    let other : nat_eq d b ≡ false = grind (arith, nat_tests) in
    get_set_other m b d None other ∙ k d e)

freed : (c : Setting) (hs : Marks) (m : Memory) (ts us : List (Option Value)) (owned : List ℕ) → State c hs m ts us owned → Left c hs (free_all m owned)
freed c hs m ts us owned st =
    let low = st.low in
    let long = length_freed m owned in
    record {
      alike = st.alike ∙ sym (length_freed m owned);
      grown = st.grown;
      clean = free_all_clean hs m owned st.clean;
      kept = free_kept c hs m owned st.mine st.kept;
      low = omega (arith, low, long);
    }

returned_so : (c : Setting) (hs : Marks) (m : Memory) (ts us : List (Option Value)) (owned : List ℕ) (o : Option Value) → State c hs m ts us owned → IfClean hs o → TurnSo c hs m us (returned (held_as ts owned) m o) (returned (across hs us owned) (shown hs m) (moved_if hs o))
returned_so c hs m ts us owned None st h = tt
returned_so c hs m ts us owned (Some v) st h =
    record { marks = hs; is = ap (Returns (Some (moved hs v))) (sym (free_all_shows hs m (length c.memory) owned st.mine)); clean = h; left = freed c hs m ts us owned st }

value_so : (c : Setting) (f g : Func) (hs : Marks) (m : Memory) (ts us : List (Option Value)) (owned : List ℕ) (k : Option Class) (a : Val) → State c hs m ts us owned → PlainValue c.widths a → TurnSo c hs m us (return_value (first_env c f) (held_as ts owned) m k a) (return_value (first_env c g) (across hs us owned) (shown hs m) k a)
value_so c f g hs m ts us owned None a st h = tt
value_so c f g hs m ts us owned (Some k) a st h =
    subst (λ x. TurnSo c hs m us (returned (held_as ts owned) m (operand c.globals ts k a)) (returned (across hs us owned) (shown hs m) x)) (sym (operand_alike c hs m ts us owned st k a h))
    (returned_so c hs m ts us owned (operand c.globals ts k a) st (operand_clean c hs m ts us owned st k a h))

-- ---- jumps

jump_so : (c : Setting) (f g : Func) (hs : Marks) (m : Memory) (ts us : List (Option Value)) (owned : List ℕ) (from : ℕ) (j : Jump) → Pair c f g → State c hs m ts us owned → Respected c.widths (jump_mentions j) → TurnSo c hs m us (jump_effect (first_env c f) from (held_as ts owned) m j) (jump_effect (first_env c g) from (across hs us owned) (shown hs m) j)
jump_so c f g hs m ts us owned from (Goto l) p st h = enter_so c f g hs m ts us owned from l p st
jump_so c f g hs m ts us owned from (Branch a nonzero otherwise) p st h =
    subst (λ x. TurnSo c hs m us (branched (first_env c f) from (held_as ts owned) m nonzero otherwise (operand c.globals ts W a)) (branched (first_env c g) from (across hs us owned) (shown hs m) nonzero otherwise x))
    (sym (operand_alike c hs m ts us owned st W a (plain_value c.widths a h)))
    (branch_so c f g hs m ts us owned from nonzero otherwise (operand c.globals ts W a) p st)
jump_so c f g hs m ts us owned from (Return None) p st h =
    record { marks = hs; is = ap (Returns None) (sym (free_all_shows hs m (length c.memory) owned st.mine)); clean = tt; left = freed c hs m ts us owned st }
jump_so c f g hs m ts us owned from (Return (Some a)) p st h =
    subst (λ k. TurnSo c hs m us (return_value (first_env c f) (held_as ts owned) m f.result a) (return_value (first_env c g) (across hs us owned) (shown hs m) k a)) (sym p.rewrites.result)
    (value_so c f g hs m ts us owned f.result a st (plain_value c.widths a h))
jump_so c f g hs m ts us owned from HaltJump p st h = refl

end_so : (c : Setting) (f g : Func) (hs : Marks) (m : Memory) (ts us : List (Option Value)) (owned : List ℕ) (from : ℕ) (j : Option (Lined Jump)) → Pair c f g → State c hs m ts us owned → Respected c.widths (end_mentions j) → TurnSo c hs m us (end_effect (first_env c f) from (held_as ts owned) m j) (end_effect (first_env c g) from (across hs us owned) (shown hs m) j)
end_so c f g hs m ts us owned from None p st h = tt
end_so c f g hs m ts us owned from (Some j) p st h = jump_so c f g hs m ts us owned from j.item p st h

-- ---- turns

in_so : (c : Setting) (f g : Func) (hs : Marks) (m : Memory) (ts us : List (Option Value)) (owned : List ℕ) (k n : ℕ) (b : Block) (o : Option (Lined Inst)) → Pair c f g → State c hs m ts us owned → Respected c.widths (block_mentions b) → slice_get b.insts n ≡ o → TurnSo c hs m us (turn_in (first_env c f) (record { block = k; next = n; locals = held_as ts owned }) m b o) (turn_in (first_env c g) (record { block = k; next = n; locals = across hs us owned }) (shown hs m) (promoted_block c.widths b) (option_map (promoted_line c.widths) o))
in_so c f g hs m ts us owned k n b (Some i) p st h e =
    let rest = respected_then c.widths (flat_map phi_mentions b.phis) (flat_map inst_mentions b.insts ++ end_mentions b.jump) h in
    after_so c hs m ts us owned k n st (inst_effect c.globals (held_as ts owned) m i.item) (inst_effect c.globals (across hs us owned) (shown hs m) (promoted c.widths i.item))
    (inst_so c hs m ts us owned st i.item (respected_at c.widths inst_mentions b.insts n i (respected_first c.widths (flat_map inst_mentions b.insts) (end_mentions b.jump) rest) e))
in_so c f g hs m ts us owned k n b None p st h e =
    let rest = respected_then c.widths (flat_map phi_mentions b.phis) (flat_map inst_mentions b.insts ++ end_mentions b.jump) h in
    end_so c f g hs m ts us owned b.label b.jump p st (respected_then c.widths (flat_map inst_mentions b.insts) (end_mentions b.jump) rest)

of_so : (c : Setting) (f g : Func) (hs : Marks) (m : Memory) (ts us : List (Option Value)) (owned : List ℕ) (k n : ℕ) (o : Option Block) → Pair c f g → State c hs m ts us owned → slice_get f.blocks k ≡ o → TurnSo c hs m us (turn_of (first_env c f) (record { block = k; next = n; locals = held_as ts owned }) m o) (turn_of (first_env c g) (record { block = k; next = n; locals = across hs us owned }) (shown hs m) (option_map (promoted_block c.widths) o))
of_so c f g hs m ts us owned k n None p st e = tt
of_so c f g hs m ts us owned k n (Some b) p st e =
    subst (λ x. TurnSo c hs m us (turn_in (first_env c f) (record { block = k; next = n; locals = held_as ts owned }) m b (slice_get b.insts n)) (turn_in (first_env c g) (record { block = k; next = n; locals = across hs us owned }) (shown hs m) (promoted_block c.widths b) x))
    (sym (slice_get-map (promoted_line c.widths) b.insts n))
    (in_so c f g hs m ts us owned k n b (slice_get b.insts n) p st (block_respected c.widths f k b p.respected e) refl)

pub turn_so : (c : Setting) (f g : Func) (hs : Marks) (m : Memory) (a : Activation) (us : List (Option Value)) → Rewrites c.widths f g → Respected c.widths (mentions_of f) → State c hs m a.locals.temps us a.locals.owned → TurnSo c hs m us (effect (record { func = f; globals = c.globals }) a m) (effect (record { func = g; globals = c.globals }) (beside hs a us) (shown hs m))
unfolding effect
turn_so c f g hs m a us r h st =
    let ts = a.locals.temps in
    let owned = a.locals.owned in
    subst (λ x. TurnSo c hs m us (turn_of (first_env c f) a m (slice_get f.blocks a.block)) (turn_of (first_env c g) (beside hs a us) (shown hs m) x)) (sym (block_is c.widths f g a.block r))
    (of_so c f g hs m ts us owned a.block a.next (slice_get f.blocks a.block) (record { rewrites = r; respected = h }) st refl)
