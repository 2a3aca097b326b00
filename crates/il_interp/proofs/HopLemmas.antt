-- Phis that take integers, jumps to them, and blocks that are done one after another.
use Rattle.std.proofs.Common.{◌≡◌, ℕ, suc, ◌+◌, ◌-◌, ◌<◌, ◌≤◌, List, [], ◌∷◌, length, get_or, refl, ap, ap₂, sym, ◌∙◌, arith, slice_get, slice_set, Option, Some, None, option_and_then, option_map}
use Rattle.il_ast.specs.declared.block.Block.{Block}
use Rattle.il_ast.specs.declared.block.Phi.{Phi}
use Rattle.il_ast.specs.declared.function.Func.{Func}
use Rattle.il_ast.specs.declared.instruction.Inst.{Inst}
use Rattle.il_ast.specs.declared.instruction.Jump.{Jump}
use Rattle.il_ast.specs.declared.instruction.Lined.{Lined}
use Rattle.il_ast.specs.declared.program.InText.{InText}
use Rattle.il_ast.specs.declared.program.Program.{Program}
use Rattle.il_ast.specs.declared.value.End.{End}
use Rattle.il_ast.specs.declared.value.End.TheVariants.{Undefined}
use Rattle.il_ast.specs.declared.value.Value.{Value}
use Rattle.il_ast.specs.declared.value.Value.TheVariants.{Integer}
use Rattle.il_ast.specs.Prelude.{Memory, phi_value, Env, phi_values, with_phis, place_of, enter, enter_place, enter_at, entered, effect, turn_of, turn_in, end_effect, jump_effect}
use Rattle.il_interp.specs.declared.state.Frame.{Frame}
use Rattle.il_interp.specs.declared.state.State.{State}
use Rattle.il_interp.specs.Machine.{On, Over, act_of, env_of, locals_of, react, stepped, turn_in_function, step, go_on, machine, rest_of}
use Rattle.il_interp.specs.Rows.{GoesOn, held}
use Rattle.il_interp.specs.Hops.{Ends, Enters, GoesAlong, held_in, standing_in, standing_with}
use Rattle.il_interp.proofs.RowLemmas.{one_turn}

-- ---- phis

pub two_taken : (globals : List Value) (temps mid new : List (Option Value)) (from : ℕ) (one two : Phi) (a b : ℕ) → phi_value globals temps from one ≡ Some (Integer a)
    → phi_value globals temps from two ≡ Some (Integer b) → mid ≡ slice_set temps one.to.temp (Some (Integer a)) → new ≡ slice_set mid two.to.temp (Some (Integer b))
    → option_map (with_phis temps (one ∷ two ∷ [])) (phi_values globals temps from (one ∷ two ∷ [])) ≡ Some new
two_taken globals temps mid new from one two a b ha hb hm hn =
    let second : phi_values globals temps from (two ∷ []) ≡ Some (Integer b ∷ []) = ap (option_and_then (λ v. option_map (λ vs. v ∷ vs) (Some []))) hb in
    let both : phi_values globals temps from (one ∷ two ∷ []) ≡ Some (Integer a ∷ Integer b ∷ []) =
    ap (option_and_then (λ v. option_map (λ vs. v ∷ vs) (phi_values globals temps from (two ∷ [])))) ha ∙ ap (option_map (λ vs. Integer a ∷ vs)) second
    in
    ap (option_map (with_phis temps (one ∷ two ∷ []))) both ∙ ap Some (sym (hn ∙ ap (λ ts. slice_set ts two.to.temp (Some (Integer b))) hm))

pub two_items : {A : Type 0} (xs : List A) (a b : A) → 2 ≤ length xs → length xs < 3 → a ≡ get_or xs 0 a → b ≡ get_or xs 1 b → xs ≡ a ∷ b ∷ []
two_items [] a b le lt ha hb = absurd (omega (arith, le))
two_items (x ∷ []) a b le lt ha hb = absurd (omega (arith, le))
two_items (x ∷ y ∷ []) a b le lt ha hb = ap₂ (λ u v. u ∷ v ∷ []) (sym ha) (sym hb)
two_items (x ∷ y ∷ z ∷ xs) a b le lt ha hb = absurd (omega (arith, lt))

-- ---- jumps

enters_with : (p : Program) (st : State) (k : ℕ) (phis : List Phi) (values : Option (List Value)) (temps : List (Option Value)) → option_map (with_phis st.frame.temps phis) values ≡ Some temps
    → react p st (entered (locals_of st.frame) st.memory k phis values) ≡ On (standing_in st (record st.frame { block = k; next = 0; temps = temps }))
enters_with p st k phis None temps h = absurd (let no : ⊥ = cc in no)
enters_with p st k phis (Some vs) temps h =
    let same : with_phis st.frame.temps phis vs ≡ temps = cc in ap (λ ts. On (standing_in st (record st.frame { block = k; next = 0; temps = ts }))) same

-- a label that leads to a block, whose phis take these values
pub entering : (p : Program) (f : InText Func) (st : State) (from label k : ℕ) (b : Block) (phis : List Phi) (values : Option (List Value)) → place_of f.item.blocks label ≡ Some k
    → slice_get f.item.blocks k ≡ Some b → phis ≡ b.phis → phi_values (env_of p f).globals st.frame.temps from phis ≡ values
    → react p st (enter (env_of p f) from (locals_of st.frame) st.memory label) ≡ react p st (entered (locals_of st.frame) st.memory k phis values)
entering p f st from label k b phis values hl hb hp hv =
    let env = env_of p f in
    let here = locals_of st.frame in
    ap (λ o. react p st (enter_place env from here st.memory o)) hl
    ∙ (ap (λ o. react p st (enter_at env from here st.memory k o)) hb
    ∙ (ap (λ ps. react p st (entered here st.memory k ps (phi_values env.globals st.frame.temps from ps))) (sym hp)
    ∙ ap (λ o. react p st (entered here st.memory k phis o)) hv))

-- or to none
pub entering_none : (p : Program) (f : InText Func) (st : State) (from label : ℕ) → option_and_then (λ (k : ℕ). slice_get f.item.blocks k) (place_of f.item.blocks label) ≡ None
    → react p st (enter (env_of p f) from (locals_of st.frame) st.memory label) ≡ Over st.output Undefined
entering_none p f st from label h = at (place_of f.item.blocks label) h
  where
    at : (o : Option ℕ) → option_and_then (λ (k : ℕ). slice_get f.item.blocks k) o ≡ None → react p st (enter_place (env_of p f) from (locals_of st.frame) st.memory o) ≡ Over st.output Undefined
    at None h = refl
    at (Some k) h = ap (λ o. react p st (enter_at (env_of p f) from (locals_of st.frame) st.memory k o)) h

pub enters : (p : Program) (f : InText Func) (from label k : ℕ) (b : Block) (old : Frame) (temps : List (Option Value)) → place_of f.item.blocks label ≡ Some k → slice_get f.item.blocks k ≡ Some b
    → ((globals : List Value) → option_map (with_phis old.temps b.phis) (phi_values globals old.temps from b.phis) ≡ Some temps)
    → Enters p f from label old (record old { block = k; next = 0; temps = temps })
enters p f from label k b old temps hl hb h st hs =
    let env = env_of p f in
    ap (λ (fr : Frame). react p st (enter env from (locals_of fr) st.memory label)) (sym hs)
    ∙ (entering p f st from label k b b.phis (phi_values env.globals st.frame.temps from b.phis) hl hb refl refl
    ∙ (enters_with p st k b.phis (phi_values env.globals st.frame.temps from b.phis) temps
    (ap (λ (fr : Frame). option_map (with_phis fr.temps b.phis) (phi_values env.globals fr.temps from b.phis)) hs ∙ h env.globals)
    ∙ ap (λ (fr : Frame). On (standing_in st (record fr { block = k; next = 0; temps = temps }))) hs))

pub ends : (p : Program) (f : InText Func) (b : Block) (j : Lined Jump) (label : ℕ) (old new : Frame) → b.jump ≡ Some j
    → ((env : Env) (from : ℕ) (owned : List ℕ) (m : Memory) → jump_effect env from (held_in old.temps owned) m j.item ≡ enter env from (held_in old.temps owned) m label)
    → Enters p f b.label label old new → Ends p f b old new
ends p f b j label old new hj leads goes st hs =
    ap (λ o. react p st (end_effect (env_of p f) b.label (locals_of old) st.memory o)) hj
    ∙ (ap (react p st) (leads (env_of p f) b.label old.owned st.memory) ∙ goes st hs)

-- ---- turns

pub along_further : (p : Program) (one two three : Frame) (l m o : Memory) (x y : ℕ) → GoesAlong p one l x two m → GoesAlong p two m y three o → GoesAlong p one l (x + y) three o
along_further p one two three l m o x y g h st hs hm n =
    let count : x + y + n ≡ x + (y + n) = omega arith in
    ap (λ k. machine p k st) count ∙ (g st hs hm (y + n) ∙ h (standing_with st two m) refl refl n)

pub along_row : (p : Program) (f : InText Func) (b : Block) (insts : List (Lined Inst)) (old : Frame) (l m : Memory) (next : ℕ) (temps : List (Option Value))
    → slice_get p.functions old.function ≡ Some f → slice_get f.item.blocks old.block ≡ Some b → b.insts ≡ insts
    → GoesOn p f.text insts (held old.temps l) old.next (held temps m) next → GoesAlong p old l (next - old.next) (record old { next = next; temps = temps }) m
along_row p f b insts old l m next temps hf hb hi goes st hs hm n =
    goes f b st (ap (λ (fr : Frame). slice_get p.functions fr.function) hs ∙ hf) refl (ap (λ (fr : Frame). slice_get f.item.blocks fr.block) hs ∙ hb) hi
    (ap₂ held (ap (λ (fr : Frame). fr.temps) hs) hm) (ap (λ (fr : Frame). fr.next) hs) n
    ∙ ap (λ (fr : Frame). machine p n (standing_with st (record fr { next = next; temps = temps }) m)) hs

hop_is : (p : Program) (f : InText Func) (b : Block) (st : State) (new : Frame) → slice_get p.functions st.frame.function ≡ Some f → slice_get f.item.blocks st.frame.block ≡ Some b
    → slice_get b.insts st.frame.next ≡ None → Ends p f b st.frame new → step p st ≡ On (standing_in st new)
unfolding step effect
hop_is p f b st new hf hb hn h =
    ap (turn_in_function p st) hf
    ∙ (ap (λ o. react p st (turn_of (env_of p f) (act_of st.frame) st.memory o)) hb
    ∙ (ap (λ o. react p st (turn_in (env_of p f) (act_of st.frame) st.memory b o)) hn ∙ h st refl))

pub along_hop : (p : Program) (f : InText Func) (b : Block) (cur new : Frame) (m : Memory) → slice_get p.functions cur.function ≡ Some f → slice_get f.item.blocks cur.block ≡ Some b
    → slice_get b.insts cur.next ≡ None → Ends p f b cur new → GoesAlong p cur m 1 new m
unfolding machine
along_hop p f b cur new m hf hb hn h st hs hm n =
    let count : 1 + n ≡ suc n = omega arith in
    ap (λ (fr : Frame). machine p (1 + n) (standing_in st fr)) hs
    ∙ (ap (λ k. machine p k (standing_in st cur)) count ∙ (ap (go_on (machine p n)) (hop_is p f b (standing_in st cur) new hf hb hn h)
    ∙ ap (λ x. machine p n (standing_with st new x)) hm))

-- the turn behind them
pub along_turn : (p : Program) (st last : State) (frame : Frame) (m : Memory) (done n : ℕ) (end : Option End) → GoesAlong p st.frame st.memory done frame m
    → step p (standing_with st frame m) ≡ stepped last end → machine p (done + 1 + n) st ≡ rest_of p last end n
along_turn p st last frame m done n end goes h =
    let count : done + 1 + n ≡ done + suc n = omega arith in
    ap (λ k. machine p k st) count ∙ (goes st refl refl (suc n) ∙ one_turn p n (standing_with st frame m) last end h)
