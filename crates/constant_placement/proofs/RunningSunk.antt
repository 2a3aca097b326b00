-- Code whose blocks set registers to what they hold does what the code did: all registers hold the
-- same.
use Rattle.std.proofs.Common.{◌≡◌, ℕ, zero, suc, ◌+◌, ◌%◌, ◌^◌, Bool, true, false, nat_eq, if◌then◌else◌, List, [], ◌∷◌, ◌++◌, map, take, Option, Some, None, slice_get, refl, sym, ◌∙◌, ap, subst, arith}
use Rattle.std.specs.List.{list_all, list_any}
use Rattle.std.specs.Option.{option_map_or}
use Rattle.std.proofs.lemmas.Bool.{and_parts, and_from, eqb-true}
use Rattle.std.proofs.lemmas.Bool.Decides.{nat_tests}
use Rattle.il_ast.specs.declared.value.Value.{Value}
use Rattle.il_ast.specs.declared.value.Value.TheVariants.{Integer}
use Rattle.il_ast.specs.Prelude.{Memory, KeepsCode}
use Rattle.vcode.specs.declared.place.Operand.{Operand}
use Rattle.vcode.specs.declared.place.Operand.TheVariants.{At, Number, Name}
use Rattle.vcode.specs.declared.line.Line.{Line}
use Rattle.vcode.specs.declared.line.Line.TheVariants.{Tick, Set, Operate, Load, Store, Alloc, Blit, Call}
use Rattle.vcode.specs.declared.line.Jump.{Jump}
use Rattle.vcode.specs.declared.line.Jump.TheVariants.{Goto, Branch, Return, Halt}
use Rattle.vcode.specs.declared.code.Block.{Block}
use Rattle.vcode.specs.declared.code.Code.{Code}
use Rattle.vcode.specs.Prelude.{Values, virtual, unknown, classes_in, begin, step, bound, line_writes, act, written, Claims, Alike, MayCome, LeadAlike, Follows, Jumps, Both, Come, Rewrites}
use Rattle.vcode.proofs.SameReads.{SameValue}
use Rattle.vcode.proofs.SameActs.{reads_every, jump_reads_every, act_agrees}
use Rattle.vcode.proofs.Alike.{MayLeave, lines_alike}
use Rattle.vcode.proofs.Leading.{LeadsTo, Arriving, jump_itself_alike}
use Rattle.vcode.proofs.Rewriting.{rewrites_keep}
use Rattle.constant_placement.specs.declared.sinking.known.Known.{Known}
use Rattle.constant_placement.specs.declared.sinking.known.Plan.{Plan}
use Rattle.constant_placement.specs.Known.{same, is_planned, sets, known_behind, known_at_end, stay_known, plan_at, are_known, leads_well, set_line, with_sets, Sinks, Sets, Stays, IsSunk, AllSunk}
use Rattle.il_ast.proofs.Truth.{equal_turned}

-- ---- what is claimed

abbrev Agree : (before after : Values ℕ) → Type 0
Agree before after = (r : ℕ) → after r ≡ before r

-- the registers hold what is known of them
abbrev IsTrueOf : (Known → Bool) → Values ℕ → Type 0
IsTrueOf p values = (s : Known) → p s ≡ true → values s.register ≡ Some (Integer (s.number % 2 ^ 64))

record Holding (p : Known → Bool) (before after : Values ℕ) : Type 0 where
  pub agree : Agree before after
  pub known : IsTrueOf p before

abbrev claims : List Plan → Claims
claims plans = record { Claim = Known → Bool; holds = λ p globals memory before after. Holding p before after; arrives = λ p k m. (m ≡ k) × (p ≡ is_planned (plan_at plans k)) }

value_same : (globals : List Value) (before after : Values ℕ) → Agree before after → (a : Operand ℕ) → SameValue globals before after (λ x. x) a
value_same globals before after agree (At r) = agree r
value_same globals before after agree (Number k) = refl
value_same globals before after agree (Name g) = refl

-- ---- lines

both_written : (to : Option ℕ) (o : Option Value) (before after : Values ℕ) → Agree before after → Agree (written to o before) (written to o after)
both_written None o before after agree r = agree r
both_written (Some k) o before after agree r = ap (λ x. if nat_eq r k then o else x) (agree r)

-- what is known behind a line is true behind it
abbrev behind : Line ℕ → (Known → Bool) → Known → Bool
behind l p s = known_behind l s (p s)

-- a register that is written holds the number where the line sets that
set_true : (globals : List Value) (memory : Memory) (before : Values ℕ) (l : Line ℕ) (n : ℕ) (o : Option Value) (next : Memory) → MayLeave memory (act globals memory before l) o next → sets l n ≡ true
    → o ≡ Some (Integer (n % 2 ^ 64))
set_true globals memory before (Set to (Number k)) n o next may h = may.0 ∙ ap (λ (x : ℕ). Some (Integer (x % 2 ^ 64))) (eqb-true k n h)
set_true globals memory before (Set to (At r)) n o next may h = absurd (let no : ⊥ = cc in no)
set_true globals memory before (Set to (Name g)) n o next may h = absurd (let no : ⊥ = cc in no)
set_true globals memory before (Operate to op a b) n o next may h = absurd (let no : ⊥ = cc in no)
set_true globals memory before (Load to op at) n o next may h = absurd (let no : ⊥ = cc in no)
set_true globals memory before (Tick turn w) n o next may h = absurd (let no : ⊥ = cc in no)
set_true globals memory before (Store size a at) n o next may h = absurd (let no : ⊥ = cc in no)
set_true globals memory before (Alloc to size) n o next may h = absurd (let no : ⊥ = cc in no)
set_true globals memory before (Blit from to count) n o next may h = absurd (let no : ⊥ = cc in no)
set_true globals memory before (Call to callee args) n o next may h = absurd (let no : ⊥ = cc in no)

behind_true : (to : Option ℕ) (o : Option Value) (before : Values ℕ) (s : Known) (known set : Bool) (x : Option Value)
    → (known ≡ true → before s.register ≡ x) → (set ≡ true → o ≡ x)
    → option_map_or (λ r. if nat_eq r s.register then set else known) to known ≡ true → written to o before s.register ≡ x
behind_true None o before s known set x stays now h = stays h
behind_true (Some k) o before s known set x stays now h = by (nat_eq k s.register) (equal_turned s.register k) h
  where
    by : (b : Bool) → nat_eq s.register k ≡ b → (if b then set else known) ≡ true → (if nat_eq s.register k then o else before s.register) ≡ x
    by true e g = ap (λ b. if b then o else before s.register) e ∙ now g
    by false e g = ap (λ b. if b then o else before s.register) e ∙ stays g

line_holds : (globals : List Value) (memory : Memory) (before after : Values ℕ) (p : Known → Bool) (l : Line ℕ) → Holding p before after
    → (o : Option Value) (next : Memory) → MayLeave memory (act globals memory before l) o next
    → Holding (behind l p) (written (line_writes l) o before) (written (line_writes l) o after)
line_holds globals memory before after p l holding o next may =
    record {
      agree = both_written (line_writes l) o before after holding.agree;
      known = λ s h. behind_true (line_writes l) o before s (p s) (sets l s.number) (Some (Integer (s.number % 2 ^ 64))) (holding.known s) (set_true globals memory before l s.number o next may) h;
    }

own_line : (plans : List Plan) (p : Known → Bool) (l : Line ℕ) → Alike (claims plans) p (behind l p) l l
own_line plans p l globals memory before after holding =
    lines_alike (λ next x y. Holding (behind l p) x y) globals memory before after l l
    (λ works. act_agrees globals memory before after l (reads_every (SameValue globals before after (λ x. x)) (value_same globals before after holding.agree) l))
    (line_holds globals memory before after p l holding)

-- a register is set to what it holds
set_comes : (plans : List Plan) (p : Known → Bool) (s : Known) → p s ≡ true → MayCome (claims plans) p p (set_line s)
set_comes plans p s planned globals memory before after holding = (
  Some (Integer (s.number % 2 ^ 64)),
  (
    refl,
    record {
      agree = λ r. by r (nat_eq r s.register) refl;
      known = holding.known;
    },
  ),
)
  where
    by : (r : ℕ) (b : Bool) → nat_eq r s.register ≡ b → (if nat_eq r s.register then Some (Integer (s.number % 2 ^ 64)) else after r) ≡ before r
    by r true e = ap (λ b. if b then Some (Integer (s.number % 2 ^ 64)) else after r) e ∙ sym (holding.known s planned) ∙ sym (ap before (eqb-true r s.register e))
    by r false e = ap (λ b. if b then Some (Integer (s.number % 2 ^ 64)) else after r) e ∙ holding.agree r

-- ---- jumps

-- what is known at the end of lines, behind which it is known where these tests hold
abbrev at_end : List (Line ℕ) → (Known → Bool) → Known → Bool
at_end lines p s = known_at_end lines s (p s)

-- what is planned of a block is known where all that is planned of it is
planned_known : (p : Known → Bool) (wanted : List Known) (s : Known) → list_all p wanted ≡ true → is_planned wanted s ≡ true → p s ≡ true
planned_known p [] s all h = absurd (let no : ⊥ = cc in no)
planned_known p (t ∷ wanted) s all h =
    let parts = and_parts (p t) (list_all p wanted) all in by (same s t) refl h parts.0 (λ g. planned_known p wanted s parts.1 g)
  where
    by : (b : Bool) → same s t ≡ b → list_any (same s) (t ∷ wanted) ≡ true → p t ≡ true → (list_any (same s) wanted ≡ true → p s ≡ true) → p s ≡ true
    by true e g first rest =
        let two = and_parts (nat_eq s.register t.register) (nat_eq s.number t.number) e in
        let register : s.register ≡ t.register = eqb-true s.register t.register two.0 in
        let number : s.number ≡ t.number = eqb-true s.number t.number two.1 in
        ap (λ (r : ℕ). p (record { register = r; number = s.number })) register ∙ ap (λ (k : ℕ). p (record { register = t.register; number = k })) number ∙ first
    by false e g first rest = rest (let f : list_any (same s) wanted ≡ true = cc in f)

module _ (plans : List Plan) (globals : List Value) (memory : Memory) (before after : Values ℕ) (p : Known → Bool) (holding : Holding p before after) where
  arrives_at : (k : ℕ) → list_all p (plan_at plans k) ≡ true → Arriving (claims plans) globals memory before after (λ x. x) k
  arrives_at k all = (is_planned (plan_at plans k), ((refl, refl), record { agree = holding.agree; known = λ s h. holding.known s (planned_known p (plan_at plans k) s all h) }))

  leads_all : (plan : List Known) (lines : List (Line ℕ)) → p ≡ at_end lines (is_planned plan) → (j : Jump ℕ) → leads_well plans plan lines j ≡ true → LeadsTo (Arriving (claims plans) globals memory before after (λ x. x)) j
  leads_all plan lines is (Goto k) h = arrives_at k (ap (λ q. list_all q (plan_at plans k)) is ∙ h)
  leads_all plan lines is (Branch on met otherwise) h =
      let s = and_parts (are_known plan lines (plan_at plans met)) (are_known plan lines (plan_at plans otherwise)) h in
      (arrives_at met (ap (λ q. list_all q (plan_at plans met)) is ∙ s.0), arrives_at otherwise (ap (λ q. list_all q (plan_at plans otherwise)) is ∙ s.1))
  leads_all plan lines is (Return a) h = tt
  leads_all plan lines is Halt h = tt

own_jump : (plans : List Plan) (v : Code ℕ) (p : Known → Bool) (plan : List Known) (lines : List (Line ℕ)) → p ≡ at_end lines (is_planned plan) → (j : Jump ℕ) → leads_well plans plan lines j ≡ true
    → LeadAlike (claims plans) v.result p j j
own_jump plans v p plan lines is j h globals memory before after holding =
    jump_itself_alike (claims plans) globals memory before after v.result j
    (jump_reads_every (SameValue globals before after (λ x. x)) (value_same globals before after holding.agree) j)
    (leads_all plans globals memory before after p holding plan lines is j h)

-- ---- the code follows

module _ (n : ℕ) (plans : List Plan) (v w : Code ℕ) where
  -- lines of a block, before which what is known is what is known at its end with those behind them
  lines_follow : (plan : List Known) (all lines : List (Line ℕ)) (j : Jump ℕ) → leads_well plans plan all j ≡ true → (p : Known → Bool) → at_end lines p ≡ at_end all (is_planned plan)
      → Follows (claims plans) v w p lines j lines j
  lines_follow plan all [] j leads p is = Jumps (own_jump plans v p plan all is j leads)
  lines_follow plan all (l ∷ lines) j leads p is = Both (own_line plans p l) (lines_follow plan all lines j leads (behind l p) is)

  sets_follow : (p : Known → Bool) (some : List Known) (lines rest : List (Line ℕ)) (j : Jump ℕ) → list_all p some ≡ true → Follows (claims plans) v w p lines j rest j → Follows (claims plans) v w p lines j (map set_line some ++ rest) j
  sets_follow p [] lines rest j all h = h
  sets_follow p (s ∷ some) lines rest j all h =
      let parts = and_parts (p s) (list_all p some) all in Come (set_comes plans p s parts.0) (sets_follow p some lines rest j parts.1 h)

  is_same : (s : Known) → same s s ≡ true
  is_same s = and_from (nat_eq s.register s.register) (nat_eq s.number s.number) (own s.register) (own s.number)
    where
      own : (r : ℕ) → nat_eq r r ≡ true
      own r = grind (arith, nat_tests)

  more_planned : (plan : List Known) (t s : Known) → is_planned plan s ≡ true → is_planned (t ∷ plan) s ≡ true
  more_planned plan t s h = by (same s t) refl
    where
      by : (b : Bool) → same s t ≡ b → is_planned (t ∷ plan) s ≡ true
      by true e = cc
      by false e = cc

  all_more : (p q : Known → Bool) → ((s : Known) → p s ≡ true → q s ≡ true) → (some : List Known) → list_all p some ≡ true → list_all q some ≡ true
  all_more p q more [] h = refl
  all_more p q more (s ∷ some) h = let parts = and_parts (p s) (list_all p some) h in and_from (q s) (list_all q some) (more s parts.0) (all_more p q more some parts.1)

  -- a plan has all of itself
  own_plan : (plan : List Known) → list_all (is_planned plan) plan ≡ true
  own_plan [] = refl
  own_plan (s ∷ plan) =
      and_from (is_planned (s ∷ plan) s) (list_all (is_planned (s ∷ plan)) plan) (let e = is_same s in cc)
      (all_more (is_planned plan) (is_planned (s ∷ plan)) (λ t h. more_planned plan s t h) plan (own_plan plan))

  -- what is planned and stays known behind lines is known there
  planned_stays : (plan some : List Known) (lines : List (Line ℕ)) → list_all (is_planned plan) some ≡ true → stay_known lines some ≡ true → list_all (at_end lines (is_planned plan)) some ≡ true
  planned_stays plan [] lines planned stays = refl
  planned_stays plan (s ∷ some) lines planned stays =
      let one = and_parts (is_planned plan s) (list_all (is_planned plan) some) planned in
      let two = and_parts (known_at_end lines s true) (stay_known lines some) stays in
      and_from (at_end lines (is_planned plan) s) (list_all (at_end lines (is_planned plan)) some)
      (ap (known_at_end lines s) one.0 ∙ two.0) (planned_stays plan some lines one.1 two.1)

  -- the rest of a block, so many lines in front of which registers are set that are known there
  between : (plan : List Known) (all : List (Line ℕ)) (j : Jump ℕ) → leads_well plans plan all j ≡ true → (m : ℕ) (lines : List (Line ℕ)) (p : Known → Bool) → at_end lines p ≡ at_end all (is_planned plan)
      → list_all (at_end (take m lines) p) plan ≡ true → Follows (claims plans) v w p lines j (with_sets m plan lines) j
  between plan all j leads zero lines p is known = sets_follow p plan lines lines j known (lines_follow plan all lines j leads p is)
  between plan all j leads (suc m) [] p is known = sets_follow p plan [] [] j known (lines_follow plan all [] j leads p is)
  between plan all j leads (suc m) (l ∷ lines) p is known = Both (own_line plans p l) (between plan all j leads m lines (behind l p) is known)

  put : (p : Known → Bool) (b d : Block ℕ) (lines : List (Line ℕ)) → d.lines ≡ lines → d.jump ≡ b.jump → Follows (claims plans) v w p b.lines b.jump lines b.jump → Follows (claims plans) v w p b.lines b.jump d.lines d.jump
  put p b d lines is jump h =
      subst (λ (j : Jump ℕ). Follows (claims plans) v w p b.lines b.jump d.lines j) (sym jump)
      (subst (λ (ls : List (Line ℕ)). Follows (claims plans) v w p b.lines b.jump ls b.jump) (sym is) h)

  block_follows : (k : ℕ) (b d : Block ℕ) → IsSunk n plans k b d → Follows (claims plans) v w (is_planned (plan_at plans k)) b.lines b.jump d.lines d.jump
  block_follows k b d is = by is.sinks
    where
      by : Sinks n (plan_at plans k) b d → Follows (claims plans) v w (is_planned (plan_at plans k)) b.lines b.jump d.lines d.jump
      by (Sets m low stay lines jump paid) =
          let plan = plan_at plans k in
          put (is_planned plan) b d (with_sets m plan b.lines) lines jump
          (between plan b.lines b.jump is.leads m b.lines (is_planned plan) refl (planned_stays plan plan (take m b.lines) (own_plan plan) stay))
      by (Stays lines jump) = put (is_planned (plan_at plans k)) b d b.lines lines jump (lines_follow (plan_at plans k) b.lines b.lines b.jump is.leads (is_planned (plan_at plans k)) refl)

  blocks_follow : (i : ℕ) (blocks new : List (Block ℕ)) → AllSunk n plans i blocks new → (k : ℕ) (b : Block ℕ) → slice_get blocks k ≡ Some b
      → (d : Block ℕ) × ((slice_get new k ≡ Some d) × Follows (claims plans) v w (is_planned (plan_at plans (i + k))) b.lines b.jump d.lines d.jump)
  blocks_follow i [] new all k b e = absurd (let no : ⊥ = cc in no)
  blocks_follow i (c ∷ blocks) [] all k b e = absurd all
  blocks_follow i (c ∷ blocks) (d ∷ new) all zero b e =
      let here : c ≡ b = cc in
      let at : i ≡ i + 0 = omega arith in (
        d,
        (
          refl,
          subst (λ (x : Block ℕ). Follows (claims plans) v w (is_planned (plan_at plans (i + 0))) x.lines x.jump d.lines d.jump) here
              (subst (λ (m : ℕ). Follows (claims plans) v w (is_planned (plan_at plans m)) c.lines c.jump d.lines d.jump) at (block_follows i c d all.0)),
        ),
      )
  blocks_follow i (c ∷ blocks) (d ∷ new) all (suc k) b e =
      let at : (i + 1) + k ≡ i + suc k = omega arith in
      let rest = blocks_follow (i + 1) blocks new all.1 k b e in
      (rest.0, (rest.1.0, subst (λ (m : ℕ). Follows (claims plans) v w (is_planned (plan_at plans m)) b.lines b.jump rest.0.lines rest.0.jump) at rest.1.1))

  rewrites : plan_at plans 0 ≡ [] → AllSunk n plans 0 v.blocks w.blocks → w.result ≡ v.result → w.params ≡ v.params → Rewrites (claims plans) v w
  rewrites nothing all result params =
      record {
        result = result;
        first = is_planned [];
        arrives = (refl, ap is_planned (sym nothing));
        begins = λ globals i args. record { agree = λ r. ap (λ ps. bound virtual unknown ps i.args r) params; known = λ s h. absurd (let no : ⊥ = cc in no) };
        follows = λ p k m arrives b e.
            let at : 0 + k ≡ k = omega arith in
            subst (λ (q : Known → Bool). (d : Block ℕ) × ((slice_get w.blocks m ≡ Some d) × Follows (claims plans) v w q b.lines b.jump d.lines d.jump)) (sym arrives.1)
            (subst (λ (x : ℕ). (d : Block ℕ) × ((slice_get w.blocks x ≡ Some d) × Follows (claims plans) v w (is_planned (plan_at plans k)) b.lines b.jump d.lines d.jump)) (sym arrives.0)
            (subst (λ (x : ℕ). (d : Block ℕ) × ((slice_get w.blocks k ≡ Some d) × Follows (claims plans) v w (is_planned (plan_at plans x)) b.lines b.jump d.lines d.jump)) at
            (blocks_follow 0 v.blocks w.blocks all k b e)));
      }

  pub runs : plan_at plans 0 ≡ [] → AllSunk n plans 0 v.blocks w.blocks → w.result ≡ v.result → w.params ≡ v.params → (globals : List Value)
      → KeepsCode (classes_in v.params) (begin virtual v) (step virtual globals v) (begin virtual w) (step virtual globals w)
  runs nothing all result params globals = rewrites_keep (claims plans) v w (rewrites nothing all result params) globals
